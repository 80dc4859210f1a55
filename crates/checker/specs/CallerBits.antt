-- Whether a name's loans are all of what the caller lent: one bit for each name, from those of older names. It never changes, so it can stand in the slot.
use Rattle.std.specs.Prelude.{ℕ, Bool, true, false, not, ◌&&◌, ◌||◌, List, [], ◌∷◌, length, ◌==◌}
use Rattle.language.specs.Base.{choose, from_option, each_of, Lexeme, is_in}
use Rattle.language.specs.Checks.{owned}
use Rattle.scope.specs.Loans.{Ent, leaf, via}
use Rattle.scope.specs.Slots.{Slot, seek}

-- of the oldest, place 0
abbrev pub bit_at : List Bool → ℕ → Bool
bit_at [] j = true
bit_at (b ∷ bs) j = choose (j == length bs) b (bit_at bs j)

-- a loan: of a parameter that's a reference, or of a reference that has the bit; "as that one has": its bit
abbrev pub from_ent : List Lexeme → List Slot → List Bool → Ent → Bool
from_ent qs vs bs (leaf l) = is_in l.root qs || from_option (seek vs l.root) false (λ f. not (owned f.slot.ty) && bit_at bs (length f.older))
from_ent qs vs bs (via j) = bit_at bs j

abbrev pub from_ents : List Lexeme → List Slot → List Bool → List Ent → Bool
from_ents qs vs bs es = each_of (from_ent qs vs bs) es

abbrev pub bits : List Lexeme → List Slot → List Bool
bits qs [] = []
bits qs (v ∷ vs) = from_ents qs vs (bits qs vs) v.ents ∷ bits qs vs
