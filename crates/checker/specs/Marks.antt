-- The machine with marks: stacks of names and of loans' entries, a log of moves, and frames with no environment.
-- A frame has the part of each stack between the frame below and its own mark; in words that's the mark alone.
use Rattle.std.specs.Prelude.{List, [], ◌∷◌, ◌++◌}
use Rattle.std.proofs.Math.Option.{Option, some, none}
use Rattle.language.specs.Base.{Lexeme}
use Rattle.language.specs.Syntax.{Ty, int, Access, Data}
use Rattle.scope.specs.Loans.{Ent}
use Rattle.scope.specs.Log.{Log}
use Rattle.scope.specs.Slots.{Slot}

-- a match under way: how; the entry of its parts' loans, if they have any; constructors seen; fields that have no name yet
pub record Matching : Type 0 where
  pub way : Access
  pub part : Option Ent
  pub data1 : Data
  pub seen : List Lexeme
  pub left : List Ty

abbrev pub entries : Option Ent → List Ent
entries none = []
entries (some e) = e ∷ []

-- a call: types to come, the result, entries of its arguments. All others: names and moves below the mark. else and match: the segments of
-- the ways that have ended; they stay in the log until they're joined. loop: names and moves between while and do
pub data Mark : Type 0 where
  k_call : List Ty → Ty → List Ent → Mark
  k_then : List Slot → Log → Mark
  k_else : List Slot → Log → Log → Mark
  k_test : List Slot → Log → Mark
  k_loop : List Slot → Log → List Slot → Log → Mark
  k_match : List Slot → Log → List Log → Matching → Mark

pub record State2 : Type 0 where
  pub ty : Ty
  pub ents : List Ent
  pub names : List Slot
  pub log : Log
  pub frames : List Mark

abbrev pub st : Ty → List Ent → List Slot → Log → List Mark → State2
st t es vs l ks = record { ty = t; ents = es; names = vs; log = l; frames = ks }

-- no value
abbrev pub rest : List Slot → Log → List Mark → State2
rest vs l ks = st int [] vs l ks

-- all below the newest mark: names; moves as they're now, past the ways that have ended
abbrev pub names_of : List Mark → List Slot
names_of [] = []
names_of (k_call ts t es ∷ ks) = names_of ks
names_of (k_then vs l ∷ ks) = vs ++ names_of ks
names_of (k_else vs l a ∷ ks) = vs ++ names_of ks
names_of (k_test vs l ∷ ks) = vs ++ names_of ks
names_of (k_loop vs l ws m ∷ ks) = ws ++ (vs ++ names_of ks)
names_of (k_match vs l arms q ∷ ks) = vs ++ names_of ks

abbrev pub log_of : List Mark → Log
log_of [] = []
log_of (k_call ts t es ∷ ks) = log_of ks
log_of (k_then vs l ∷ ks) = l ++ log_of ks
log_of (k_else vs l a ∷ ks) = l ++ log_of ks
log_of (k_test vs l ∷ ks) = l ++ log_of ks
log_of (k_loop vs l ws m ∷ ks) = m ++ (l ++ log_of ks)
log_of (k_match vs l arms q ∷ ks) = l ++ log_of ks

-- the entries of arguments that are already there
abbrev pub held2 : List Mark → List Ent
held2 [] = []
held2 (k_call ts t es ∷ ks) = es ++ held2 ks
held2 (k_then vs l ∷ ks) = []
held2 (k_else vs l a ∷ ks) = []
held2 (k_test vs l ∷ ks) = []
held2 (k_loop vs l ws m ∷ ks) = []
held2 (k_match vs l arms q ∷ ks) = []

abbrev pub scope : State2 → List Slot
scope s = s.names ++ names_of s.frames

abbrev pub live : State2 → Log
live s = s.log ++ log_of s.frames

-- the newest frame, if it's of the kind
abbrev pub on_call2 : {A : Type 0} → List Mark → (List Ty → Ty → List Ent → List Mark → Option A) → Option A
on_call2 [] f = none
on_call2 (k_call ts t es ∷ ks) f = f ts t es ks
on_call2 (k_then vs l ∷ ks) f = none
on_call2 (k_else vs l a ∷ ks) f = none
on_call2 (k_test vs l ∷ ks) f = none
on_call2 (k_loop vs l ws m ∷ ks) f = none
on_call2 (k_match vs l arms q ∷ ks) f = none

abbrev pub on_then2 : {A : Type 0} → List Mark → (List Slot → Log → List Mark → Option A) → Option A
on_then2 [] f = none
on_then2 (k_call ts t es ∷ ks) f = none
on_then2 (k_then vs l ∷ ks) f = f vs l ks
on_then2 (k_else vs l a ∷ ks) f = none
on_then2 (k_test vs l ∷ ks) f = none
on_then2 (k_loop vs l ws m ∷ ks) f = none
on_then2 (k_match vs l arms q ∷ ks) f = none

abbrev pub on_else2 : {A : Type 0} → List Mark → (List Slot → Log → Log → List Mark → Option A) → Option A
on_else2 [] f = none
on_else2 (k_call ts t es ∷ ks) f = none
on_else2 (k_then vs l ∷ ks) f = none
on_else2 (k_else vs l a ∷ ks) f = f vs l a ks
on_else2 (k_test vs l ∷ ks) f = none
on_else2 (k_loop vs l ws m ∷ ks) f = none
on_else2 (k_match vs l arms q ∷ ks) f = none

abbrev pub on_test2 : {A : Type 0} → List Mark → (List Slot → Log → List Mark → Option A) → Option A
on_test2 [] f = none
on_test2 (k_call ts t es ∷ ks) f = none
on_test2 (k_then vs l ∷ ks) f = none
on_test2 (k_else vs l a ∷ ks) f = none
on_test2 (k_test vs l ∷ ks) f = f vs l ks
on_test2 (k_loop vs l ws m ∷ ks) f = none
on_test2 (k_match vs l arms q ∷ ks) f = none

abbrev pub on_loop2 : {A : Type 0} → List Mark → (List Slot → Log → List Slot → Log → List Mark → Option A) → Option A
on_loop2 [] f = none
on_loop2 (k_call ts t es ∷ ks) f = none
on_loop2 (k_then vs l ∷ ks) f = none
on_loop2 (k_else vs l a ∷ ks) f = none
on_loop2 (k_test vs l ∷ ks) f = none
on_loop2 (k_loop vs l ws m ∷ ks) f = f vs l ws m ks
on_loop2 (k_match vs l arms q ∷ ks) f = none

abbrev pub on_match2 : {A : Type 0} → List Mark → (List Slot → Log → List Log → Matching → List Mark → Option A) → Option A
on_match2 [] f = none
on_match2 (k_call ts t es ∷ ks) f = none
on_match2 (k_then vs l ∷ ks) f = none
on_match2 (k_else vs l a ∷ ks) f = none
on_match2 (k_test vs l ∷ ks) f = none
on_match2 (k_loop vs l ws m ∷ ks) f = none
on_match2 (k_match vs l arms q ∷ ks) f = f vs l arms q ks
