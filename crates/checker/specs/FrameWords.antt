-- Frames in words, ten to each.
use Rattle.std.specs.Prelude.{ℕ, ◌+◌, ◌*◌, List, [], ◌∷◌, Some, None, Option, ◌==◌, slice_index}
use Rattle.language.specs.Base.{choose}
use Rattle.code.specs.declared.instr.Access.{Access}
use Rattle.code.specs.declared.instr.Access.TheVariants.{Take, View, Edit}
use Rattle.scope.specs.declared.loans.Entry.{Entry}
use Rattle.scope.specs.Loans.{entry_in, entry_number, operand_of}
use Rattle.scope.specs.Log.{bit_of}
use Rattle.scope.specs.Slots.{base_in, base_number, base_operand}
use Rattle.checker.specs.declared.frames.Call.{Call}
use Rattle.checker.specs.declared.frames.Match.{Match}
use Rattle.checker.specs.declared.frames.Frame.{Frame}
use Rattle.checker.specs.declared.frames.Frame.TheVariants.{Call as ACall, Then, Else, Test, Loop, Match as AMatch}

abbrev pub access_in : ℕ → Access
access_in n = choose (n == 0) Take (choose (n == 1) View Edit)

abbrev pub access_number : Access → ℕ
access_number Take = 0
access_number View = 1
access_number Edit = 2

abbrev pub part_in : ℕ → ℕ → Option Entry
part_in t k = choose (t == 3) None (Some (entry_in t k))

abbrev pub part_number : Option Entry → ℕ
part_number None = 3
part_number (Some e) = entry_number e

abbrev pub part_operand : Option Entry → ℕ
part_operand None = 0
part_operand (Some e) = operand_of e

abbrev pub call_in : ℕ → ℕ → ℕ → ℕ → ℕ → ℕ → Call
call_in a b c d e f = record { params = (a == 1); next = b; end = c; makes = base_in d e; base = f }

abbrev pub match_in : ℕ → ℕ → ℕ → ℕ → ℕ → ℕ → ℕ → ℕ → ℕ → Match
match_in a b c d e f g h i = record { names = a; access = access_in b; part = part_in c d; «data» = e; seen = f; ends = g; next = h; end = i }

abbrev pub call_at : List ℕ → ℕ → Call
call_at ws k = call_in (slice_index ws (10 * k + 1)) (slice_index ws (10 * k + 2)) (slice_index ws (10 * k + 3)) (slice_index ws (10 * k + 4)) (slice_index ws (10 * k + 5)) (slice_index ws (10 * k + 6))

abbrev pub match_at : List ℕ → ℕ → Match
match_at ws k = match_in (slice_index ws (10 * k + 1)) (slice_index ws (10 * k + 2)) (slice_index ws (10 * k + 3)) (slice_index ws (10 * k + 4)) (slice_index ws (10 * k + 5)) (slice_index ws (10 * k + 6)) (slice_index ws (10 * k + 7)) (slice_index ws (10 * k + 8)) (slice_index ws (10 * k + 9))

abbrev pub frame_in : ℕ → ℕ → ℕ → ℕ → ℕ → ℕ → ℕ → ℕ → ℕ → ℕ → Frame
frame_in t a b c d e f g h i =
    choose (t == 0) (ACall (call_in a b c d e f))
    (choose (t == 1) (Then a b)
    (choose (t == 2) (Else a)
    (choose (t == 3) (Test a b)
    (choose (t == 4) (Loop a b c d)
    (AMatch (match_in a b c d e f g h i))))))

abbrev pub frame_at : List ℕ → ℕ → Frame
frame_at ws k = frame_in (slice_index ws (10 * k)) (slice_index ws (10 * k + 1)) (slice_index ws (10 * k + 2)) (slice_index ws (10 * k + 3)) (slice_index ws (10 * k + 4)) (slice_index ws (10 * k + 5)) (slice_index ws (10 * k + 6)) (slice_index ws (10 * k + 7)) (slice_index ws (10 * k + 8)) (slice_index ws (10 * k + 9))

abbrev pub numbers : Frame → List ℕ
numbers (ACall c) = 0 ∷ bit_of c.params ∷ c.next ∷ c.end ∷ base_number c.makes ∷ base_operand c.makes ∷ c.base ∷ 0 ∷ 0 ∷ 0 ∷ []
numbers (Then a b) = 1 ∷ a ∷ b ∷ 0 ∷ 0 ∷ 0 ∷ 0 ∷ 0 ∷ 0 ∷ 0 ∷ []
numbers (Else a) = 2 ∷ a ∷ 0 ∷ 0 ∷ 0 ∷ 0 ∷ 0 ∷ 0 ∷ 0 ∷ 0 ∷ []
numbers (Test a b) = 3 ∷ a ∷ b ∷ 0 ∷ 0 ∷ 0 ∷ 0 ∷ 0 ∷ 0 ∷ 0 ∷ []
numbers (Loop a b c d) = 4 ∷ a ∷ b ∷ c ∷ d ∷ 0 ∷ 0 ∷ 0 ∷ 0 ∷ 0 ∷ []
numbers (AMatch m) = 5 ∷ m.names ∷ access_number m.access ∷ part_number m.part ∷ part_operand m.part ∷ m.«data» ∷ m.seen ∷ m.ends ∷ m.next ∷ m.end ∷ []
