-- Names for parameters and parts, and the alternative that a constructor chooses.
use Rattle.std.specs.Prelude.{List, [], ◌∷◌, ◌++◌, ℕ, zero, suc, ◌-◌, length}
use Rattle.std.proofs.Math.Option.{Option, some, none}
use Rattle.language.specs.Base.{choose, Lexeme, same}
use Rattle.language.specs.Syntax.{Access, take, view, edit, Stmts, Alts, no_alts, alt, Body, Arms, no_arms, arm, Param}
use Rattle.language.specs.Meaning.States.{Loc, Value, ref_v, hole, Values, nil_v, cons_v, State, Env}
use Rattle.language.specs.Meaning.Memory.{write_at, adds_root}
use Rattle.language.specs.Meaning.Kinds.{list_of}

-- names for values, each with a root of its own: the names behind, and then the roots
abbrev pub names_in : Env → State → List Lexeme → List Value → Option Env
names_in g s [] [] = some g
names_in g s [] (v ∷ vs) = none
names_in g s (x ∷ xs) [] = none
names_in g s (x ∷ xs) (v ∷ vs) = names_in (record { name = x; root = length s.roots } ∷ g) (adds_root s v 0) xs vs

abbrev pub roots_in : State → List Value → State
roots_in s [] = s
roots_in s (v ∷ vs) = roots_in (adds_root s v 0) vs

-- references to the fields of what is at l, from the i-th on
abbrev pub refs_to : Loc → ℕ → Values → List Value
refs_to l i nil_v = []
refs_to l i (cons_v v vs) = ref_v (record { root = l.root; path = l.path ++ (i ∷ []) }) ∷ refs_to l (suc i) vs

abbrev pub names_of : List Param → List Lexeme
names_of [] = []
names_of (q ∷ qs) = q.name ∷ names_of qs

-- so many names, the newest first
abbrev pub newest : ℕ → Env → Env
newest zero g = []
newest (suc k) [] = []
newest (suc k) (m ∷ ms) = m ∷ newest k ms

-- the names of g that aren't in h, the newest first
abbrev pub newer : Env → Env → Env
newer g h = newest (length g - length h) g

-- the parts of what is matched: the fields themselves, or references to them
abbrev pub parts : Access → Loc → Values → List Value
parts take l vs = list_of vs
parts view l vs = refs_to l 0 vs
parts edit l vs = refs_to l 0 vs

-- what is taken apart leaves nothing behind, and says no last words
abbrev pub taken : Access → State → Loc → Option State
taken take s l = write_at s l hole
taken view s l = some s
taken edit s l = some s

pub record Found : Type 0 where
  pub names : List Lexeme
  pub does : Stmts

abbrev pub find_alt : Alts → Lexeme → Option Found
find_alt no_alts k = none
find_alt (alt d xs ss as₁) k =
    choose (same d k) (some (record { names = xs; does = ss })) (find_alt as₁ k)

pub record FoundArm : Type 0 where
  pub names : List Lexeme
  pub does : Body

abbrev pub find_arm : Arms → Lexeme → Option FoundArm
find_arm no_arms k = none
find_arm (arm d xs ss as₁) k =
    choose (same d k) (some (record { names = xs; does = ss })) (find_arm as₁ k)
