-- A frame that is written is the frame that is read.
use Rattle.std.proofs.Common.{◌≡◌, ℕ, ◌+◌, ◌*◌, ◌<◌, ◌≤◌, ◌≢◌, inl, inr, Bool, true, false, eqb, List, length, get_or, Some, None, Option, refl, ap, ◌∙◌, ap₂, arith}
use Rattle.std.proofs.lemmas.Bool.{cases_lt}
use Rattle.code.specs.declared.instr.Access.{Access}
use Rattle.code.specs.declared.instr.Access.TheVariants.{Take, View, Edit}
use Rattle.types.specs.declared.ty.Base.{Base}
use Rattle.types.specs.declared.ty.Base.TheVariants.{Number, Data, Written}
use Rattle.scope.specs.declared.loans.Entry.{Entry}
use Rattle.scope.specs.declared.loans.Entry.TheVariants.{Shared, Alone, Via}
use Rattle.scope.specs.Log.{bit_of}
use Rattle.scope.specs.Slots.{base_in, base_number, base_operand}
use Rattle.checker.specs.declared.frames.Frame.{Frame}
use Rattle.checker.specs.declared.frames.Frame.TheVariants.{Call as ACall, Then, Else, Test, Loop, Match as AMatch}
use Rattle.checker.specs.FrameWords.{access_in, access_number, part_in, part_number, part_operand, frame_in, frame_at, numbers}

abbrev of_list : List ℕ → Frame
of_list ws = frame_in (get_or ws 0 0) (get_or ws 1 0) (get_or ws 2 0) (get_or ws 3 0) (get_or ws 4 0) (get_or ws 5 0) (get_or ws 6 0) (get_or ws 7 0) (get_or ws 8 0) (get_or ws 9 0)

base_back : (b : Base) → base_in (base_number b) (base_operand b) ≡ b
base_back Number = refl
base_back (Data x) = refl
base_back (Written k) = refl

bit_back : (b : Bool) → eqb (bit_of b) 1 ≡ b
bit_back true = refl
bit_back false = refl

access_back : (a : Access) → access_in (access_number a) ≡ a
access_back Take = refl
access_back View = refl
access_back Edit = refl

part_back : (p : Option Entry) → part_in (part_number p) (part_operand p) ≡ p
part_back None = refl
part_back (Some (Shared x)) = refl
part_back (Some (Alone x)) = refl
part_back (Some (Via p)) = refl

frame_back : (f : Frame) → of_list (numbers f) ≡ f
frame_back (ACall c) = ap₂ (λ p b. ACall (record { params = p; next = c.next; end = c.end; makes = b; base = c.base })) (bit_back c.params) (base_back c.makes)
frame_back (Then a b) = refl
frame_back (Else a) = refl
frame_back (Test a b) = refl
frame_back (Loop a b c d) = refl
frame_back (AMatch m) = ap₂ (λ a p. AMatch (record { names = m.names; access = a; part = p; «data» = m.«data»; seen = m.seen; ends = m.ends; next = m.next; end = m.end })) (access_back m.access) (part_back m.part)

ten_same : {a b c d e f g h i j a' b' c' d' e' f' g' h' i' j' : ℕ} → a ≡ a' → b ≡ b' → c ≡ c' → d ≡ d' → e ≡ e' → f ≡ f' → g ≡ g' → h ≡ h' → i ≡ i' → j ≡ j' → frame_in a b c d e f g h i j ≡ frame_in a' b' c' d' e' f' g' h' i' j'
ten_same {a} {b} {c} {d} {e} {f} {g} {h} {i} {j} {a'} {b'} {c'} {d'} {e'} {f'} {g'} {h'} {i'} {j'} p q r s t u v w x y =
    ap₂ (λ m n. frame_in m n c d e f g h i j) p q ∙ ap₂ (λ m n. frame_in a' b' m n e f g h i j) r s ∙ ap₂ (λ m n. frame_in a' b' c' d' m n g h i j) t u ∙ ap₂ (λ m n. frame_in a' b' c' d' e' f' m n i j) v w ∙ ap₂ (λ m n. frame_in a' b' c' d' e' f' g' h' m n) x y

pub frame_this : (ws : List ℕ) (k : ℕ) (f : Frame) → ((j : ℕ) → j < 10 → get_or ws (10 * k + j) 0 ≡ get_or (numbers f) j 0) → frame_at ws k ≡ f
frame_this ws k f h = ten_same (let e : 10 * k ≡ 10 * k + 0 = omega arith in ap (λ j. get_or ws j 0) e ∙ h 0 (omega arith)) (h 1 (omega arith)) (h 2 (omega arith)) (h 3 (omega arith)) (h 4 (omega arith)) (h 5 (omega arith)) (h 6 (omega arith)) (h 7 (omega arith)) (h 8 (omega arith)) (h 9 (omega arith)) ∙ frame_back f

frame_same : (ws us : List ℕ) (k : ℕ) → ((j : ℕ) → 10 * k ≤ j → j < 10 * k + 10 → get_or ws j 0 ≡ get_or us j 0) → frame_at ws k ≡ frame_at us k
frame_same ws us k s = ten_same (s (10 * k) (omega arith) (omega arith)) (s (10 * k + 1) (omega arith) (omega arith)) (s (10 * k + 2) (omega arith) (omega arith)) (s (10 * k + 3) (omega arith) (omega arith)) (s (10 * k + 4) (omega arith) (omega arith)) (s (10 * k + 5) (omega arith) (omega arith)) (s (10 * k + 6) (omega arith) (omega arith)) (s (10 * k + 7) (omega arith) (omega arith)) (s (10 * k + 8) (omega arith) (omega arith)) (s (10 * k + 9) (omega arith) (omega arith))

-- another frame than the one that is written
pub frame_other : (ws us : List ℕ) (k n : ℕ) → k ≢ n → ((j : ℕ) → j < 10 * n → get_or ws j 0 ≡ get_or us j 0) → ((j : ℕ) → 10 * n + 10 ≤ j → get_or ws j 0 ≡ get_or us j 0) → frame_at ws k ≡ frame_at us k
frame_other ws us k n h below above = elim (cases_lt k n) [
  | inl l ↦ frame_same ws us k (λ j p q. below j (omega arith))
  | inr g ↦ frame_same ws us k (λ j p q. above j (let m : n < k = omega arith in omega arith))
]

pub length_numbers : (f : Frame) → length (numbers f) ≡ 10
length_numbers (ACall c) = refl
length_numbers (Then a b) = refl
length_numbers (Else a) = refl
length_numbers (Test a b) = refl
length_numbers (Loop a b c d) = refl
length_numbers (AMatch m) = refl
