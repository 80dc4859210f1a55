-- The state of the checker: a value register with the names in scope, and a stack of frames.
use Rattle.std.specs.Prelude.{List, [], ◌∷◌, ◌++◌}
use Rattle.std.proofs.Math.Option.{Option, some, none}
use Rattle.language.specs.Base.{if_some, Lexeme}
use Rattle.language.specs.Syntax.{Ty, int, Access, Data, Prog}
use Rattle.language.specs.Checks.{Loan, Env, Typed}
use Rattle.checker.specs.Heads.{Sig}

-- the function under check: the declarations, the parameters that are references, the type of what's given
pub record Ctx : Type 0 where
  pub datas : List Data
  pub sigs : List Sig
  pub refs : List Lexeme
  pub ret : Ty

-- data only, for definitions that look at nothing else of a program
abbrev pub data_only : List Data → Prog
data_only ds = record { datas = ds; funs = [] }

-- a match under way: the scope before each arm; how; the loans of its parts; constructors seen; the scope behind each arm so far; the fields that have no name yet
pub record Match : Type 0 where
  pub scope : Env
  pub way : Access
  pub loans : List Loan
  pub data1 : Data
  pub seen : List Lexeme
  pub ways : List Env
  pub left : List Ty

pub data Frame : Type 0 where
  f_call : List Ty → Ty → List Loan → Frame
  f_then : Env → Frame
  f_else : Env → Env → Frame
  f_test : Env → Frame
  f_loop : Env → Env → Frame
  f_match : Match → Frame

-- the last value with the names in scope, and the frames, the newest first
pub record State : Type 0 where
  pub acc : Typed
  pub frames : List Frame

abbrev pub state : Typed → List Frame → State
state r fs = record { acc = r; frames = fs }

abbrev pub at_rest : Env → List Frame → State
at_rest g fs = state (record { ty = int; loans = []; env = g }) fs

abbrev pub held_of : List Frame → List Loan
held_of [] = []
held_of (f_call ts t ls ∷ fs) = ls ++ held_of fs
held_of (f_then h ∷ fs) = []
held_of (f_else h i ∷ fs) = []
held_of (f_test h ∷ fs) = []
held_of (f_loop h i ∷ fs) = []
held_of (f_match q ∷ fs) = []

abbrev pub with_value : Option Typed → List Frame → Option State
with_value o fs = if_some o (λ r. some (state r fs))

abbrev pub with_scope : Option Env → List Frame → Option State
with_scope o fs = if_some o (λ g. some (at_rest g fs))

-- the newest frame, if it's of the kind
abbrev pub on_call : {A : Type 0} → List Frame → (List Ty → Ty → List Loan → List Frame → Option A) → Option A
on_call [] f = none
on_call (f_call ts t ls ∷ fs) f = f ts t ls fs
on_call (f_then h ∷ fs) f = none
on_call (f_else h i ∷ fs) f = none
on_call (f_test h ∷ fs) f = none
on_call (f_loop h i ∷ fs) f = none
on_call (f_match q ∷ fs) f = none

abbrev pub on_then : {A : Type 0} → List Frame → (Env → List Frame → Option A) → Option A
on_then [] f = none
on_then (f_call ts t ls ∷ fs) f = none
on_then (f_then h ∷ fs) f = f h fs
on_then (f_else h i ∷ fs) f = none
on_then (f_test h ∷ fs) f = none
on_then (f_loop h i ∷ fs) f = none
on_then (f_match q ∷ fs) f = none

abbrev pub on_else : {A : Type 0} → List Frame → (Env → Env → List Frame → Option A) → Option A
on_else [] f = none
on_else (f_call ts t ls ∷ fs) f = none
on_else (f_then h ∷ fs) f = none
on_else (f_else h i ∷ fs) f = f h i fs
on_else (f_test h ∷ fs) f = none
on_else (f_loop h i ∷ fs) f = none
on_else (f_match q ∷ fs) f = none

abbrev pub on_test : {A : Type 0} → List Frame → (Env → List Frame → Option A) → Option A
on_test [] f = none
on_test (f_call ts t ls ∷ fs) f = none
on_test (f_then h ∷ fs) f = none
on_test (f_else h i ∷ fs) f = none
on_test (f_test h ∷ fs) f = f h fs
on_test (f_loop h i ∷ fs) f = none
on_test (f_match q ∷ fs) f = none

abbrev pub on_loop : {A : Type 0} → List Frame → (Env → Env → List Frame → Option A) → Option A
on_loop [] f = none
on_loop (f_call ts t ls ∷ fs) f = none
on_loop (f_then h ∷ fs) f = none
on_loop (f_else h i ∷ fs) f = none
on_loop (f_test h ∷ fs) f = none
on_loop (f_loop h i ∷ fs) f = f h i fs
on_loop (f_match q ∷ fs) f = none

abbrev pub on_match : {A : Type 0} → List Frame → (Match → List Frame → Option A) → Option A
on_match [] f = none
on_match (f_call ts t ls ∷ fs) f = none
on_match (f_then h ∷ fs) f = none
on_match (f_else h i ∷ fs) f = none
on_match (f_test h ∷ fs) f = none
on_match (f_loop h i ∷ fs) f = none
on_match (f_match q ∷ fs) f = f q fs

abbrev pub on_one : {A : Type 0} → List Ty → (Ty → List Ty → Option A) → Option A
on_one [] f = none
on_one (t ∷ ts) f = f t ts

abbrev pub on_none : {A : Type 0} → List Ty → Option A → Option A
on_none [] o = o
on_none (t ∷ ts) o = none
