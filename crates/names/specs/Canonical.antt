-- Code in which each spelling has one place.
use Rattle.std.specs.Prelude.{◌≡◌, ℕ, ◌<◌, Bool, true, ◌&&◌, ◌||◌, ◌⊎◌, List, Some, nat_le}
use Rattle.lexer.specs.Spelling.{lexeme_at}
use Rattle.code.specs.declared.instr.Instr.{Instr}
use Rattle.code.specs.declared.slot.Slot.{Slot}
use Rattle.code.specs.Slots.{slot_of}
use Rattle.code.specs.Words.{instr_at}

-- the opcodes whose first operand is a name, and those whose second one is
abbrev pub first_named : ℕ → Bool
first_named op = (nat_le 22 op && nat_le op 37) || (nat_le 41 op && nat_le op 43)

abbrev pub second_named : ℕ → Bool
second_named op = nat_le 40 op && nat_le op 43

-- a place that a slot has for a name, and so an instruction
abbrev pub Names : Slot → ℕ → Type 0
Names s x = ((first_named s.op ≡ true) × (s.first ≡ x)) ⊎ ((second_named s.op ≡ true) × (s.second ≡ x))

abbrev pub Uses : Instr → ℕ → Type 0
Uses i x = Names (slot_of i) x

-- in the first n slots, names that are spelled the same are the same place
abbrev pub Canonical : List ℕ → List ℕ → ℕ → Type 0
Canonical text words n = (k l : ℕ) (i j : Instr) (x y : ℕ) → k < n → l < n → instr_at words k ≡ Some i → instr_at words l ≡ Some j → Uses i x → Uses j y → lexeme_at text x ≡ lexeme_at text y → x ≡ y
