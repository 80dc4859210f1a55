-- Names in scope: a stack of slots, the newest first, and how it lies in words.
use Rattle.std.specs.Prelude.{◌≡◌, ℕ, zero, suc, ◌+◌, ◌-◌, ◌*◌, ◌<◌, min, List, [], ◌∷◌, ◌++◌, length, ◌==◌, slice_index}
use Rattle.std.proofs.Math.Option.{Option, some, none}
use Rattle.language.specs.Base.{choose, Lexeme, same}
use Rattle.language.specs.Syntax.{Ty}
use Rattle.lexer.specs.Spelling.{spelling}
use Rattle.types.specs.declared.ty.Base.{Base}
use Rattle.types.specs.declared.ty.Base.TheVariants.{Number, Data, Written}
use Rattle.types.specs.Types.{type_of}
use Rattle.types.specs.Numbers.{outer_in}
use Rattle.scope.specs.declared.names.Variable.{Variable}
use Rattle.scope.specs.Loans.{Ent, slice}

-- a name, its type, and the entries of its loans
pub record Slot : Type 0 where
  pub name : Lexeme
  pub ty : Ty
  pub ents : List Ent

abbrev pub slot_of : Lexeme → Ty → List Ent → Slot
slot_of x t es = record { name = x; ty = t; ents = es }

-- all entries
abbrev pub stack : List Slot → List Ent
stack [] = []
stack (v ∷ vs) = v.ents ++ stack vs

-- a slot and the older ones: their number is its place
pub record Found : Type 0 where
  pub slot : Slot
  pub older : List Slot

abbrev pub found_at : Slot → List Slot → Found
found_at v vs = record { slot = v; older = vs }

abbrev pub seek : List Slot → Lexeme → Option Found
seek [] x = none
seek (v ∷ vs) x = choose (same v.name x) (some (found_at v vs)) (seek vs x)

-- seven words to a name
abbrev pub base_in : ℕ → ℕ → Base
base_in t k = choose (t == 1) (Data (record { 0 = k })) (choose (t == 2) (Written k) Number)

abbrev pub variable : ℕ → ℕ → ℕ → ℕ → ℕ → ℕ → ℕ → Variable
variable x o n t k b l = record { name = record { 0 = x }; ty = record { outer = outer_in o; boxes = n; base = base_in t k }; loans = b; lent = (l == 1) }

abbrev pub variable_at : List ℕ → ℕ → Variable
variable_at ws i = variable (slice_index ws (7 * i)) (slice_index ws (7 * i + 1)) (slice_index ws (7 * i + 2)) (slice_index ws (7 * i + 3)) (slice_index ws (7 * i + 4)) (slice_index ws (7 * i + 5)) (slice_index ws (7 * i + 6))

-- h names; the entries of the newest go up to a height, those of the others to where a newer one's begin
abbrev pub slots_of : List ℕ → List ℕ → List ℕ → List ℕ → ℕ → ℕ → List Slot
slots_of text code ns es zero top = []
slots_of text code ns es (suc h) top = slot_of (spelling text (variable_at ns h).name) (type_of text code (variable_at ns h).ty) (slice text es (variable_at ns h).loans (top - (variable_at ns h).loans)) ∷ slots_of text code ns es h (min top (variable_at ns h).loans)

-- a name that was found at a place
abbrev pub At : List ℕ → List ℕ → List ℕ → ℕ → Lexeme → ℕ → Found → Type 0
At text code ns h x k f = (f.slot.name ≡ x) × (f.slot.ty ≡ type_of text code (variable_at ns k).ty) × (length f.older ≡ k) × (k < h)

abbrev pub Sought : List ℕ → List ℕ → List ℕ → ℕ → Lexeme → ℕ → Option Found → Type 0
Sought text code ns h x k none = ⊥
Sought text code ns h x k (some f) = At text code ns h x k f

abbrev pub base_number : Base → ℕ
base_number Number = 0
base_number (Data x) = 1
base_number (Written k) = 2

abbrev pub base_operand : Base → ℕ
base_operand Number = 0
base_operand (Data x) = x.0
base_operand (Written k) = k
