-- Slots in lent words: the k-th lies in the words from 3 * k on.
use Rattle.std.specs.Prelude.{◌≡◌, ℕ, zero, suc, ◌+◌, ◌*◌, List, [], ◌++◌, map, length, Option, slice_index, slice_set}
use Rattle.std.specs.Option.{option_to_list}
use Rattle.code.specs.declared.instr.Instr.{Instr}
use Rattle.code.specs.declared.slot.Slot.{Slot}
use Rattle.code.specs.Slots.{slot, held}
use Rattle.code.specs.Means.{means}
use Rattle.code.specs.Instr as spec

abbrev pub slot_in : List ℕ → ℕ → Slot
slot_in words k = slot (slice_index words (3 * k)) (slice_index words (3 * k + 1)) (slice_index words (3 * k + 2))

abbrev pub instr_at : List ℕ → ℕ → Option Instr
instr_at words k = held (slot_in words k)

abbrev pub with_slot : List ℕ → ℕ → Slot → List ℕ
with_slot words k s = slice_set (slice_set (slice_set words (3 * k) s.op) (3 * k + 1) s.first) (3 * k + 2) s.second

-- the instructions in the first n slots; a slot that holds none is passed over
abbrev pub instrs_in : List ℕ → ℕ → List Instr
instrs_in words zero = []
instrs_in words (suc n) = instrs_in words n ++ option_to_list (instr_at words n)

-- every one of the first n slots holds an instruction
abbrev pub Filled : List ℕ → ℕ → Type 0
Filled words n = length (instrs_in words n) ≡ n

-- what they mean over a text
abbrev pub code_in : List ℕ → List ℕ → ℕ → List spec.Instr
code_in text words n = map (means text) (instrs_in words n)
