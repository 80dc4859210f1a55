-- What the calls `check` and `run` promise.
use Rattle.std.specs.Prelude.{◌≡◌, ◌⊎◌, true, false, List, [], ◌∷◌, ℕ, ◌+◌, ◌*◌, ◌<◌, ◌≤◌, length, take, drop, eqb}
use Rattle.std.proofs.Math.Option.{some, none}
use Rattle.language.specs.declared.Told.{Told}
use Rattle.language.specs.declared.Told.TheVariants.{Accepted, NoText, Refused, Little}
use Rattle.language.specs.declared.Halt.{Halt}
use Rattle.language.specs.declared.Halt.TheVariants.{Ended, HeapFull, StackFull, TurnsUp, OutFull, NotThis}
use Rattle.language.specs.Base.{choose}
use Rattle.language.specs.Syntax.{Fn, Prog}
use Rattle.language.specs.Text.{reads}
use Rattle.language.specs.Checks.{ok_fn, accepts}
use Rattle.language.specs.Meaning.{Value, int_v, State, Limits, no_heap, no_stack, no_turns, Res, ok, stop, run, two_64}

-- the number of the first function that isn't accepted, counted from k; 0 if there is none
abbrev pub first_bad : Prog → ℕ → List Fn → ℕ
first_bad q k [] = 0
first_bad q k (f ∷ fs) = choose (ok_fn q f) (first_bad q (k + 1) fs) k

-- with so many words lent, it can't be too little
abbrev pub least_words : List ℕ → ℕ
least_words text = 65536 + 64 * length text

-- check: of a text, with w words lent
abbrev pub CheckSays : List ℕ → ℕ → Told → Type 0
CheckSays text w Accepted = (q : Prog) × (reads text ≡ some q) × (accepts q ≡ true)
CheckSays text w NoText = reads text ≡ none
CheckSays text w (Refused k) =
    (q : Prog) × (reads text ≡ some q) × (accepts q ≡ false) × (k ≡ first_bad q 1 q.funs)
CheckSays text w Little = w < least_words text

abbrev pub limits : ℕ → ℕ → ℕ → Limits
limits h k m = record { heap = h; stack = k; max_turns = m }

-- the numbers shown, without the marks that reading leaves
abbrev pub shown_only : List ℕ → List ℕ
shown_only [] = []
shown_only (x ∷ xs) = choose (eqb x two_64) (shown_only xs) (x ∷ shown_only xs)

-- k numbers were shown, these; they stand at the front of the output o', which else is as it was, o
abbrev pub WrittenOut : List ℕ → List ℕ → List ℕ → ℕ → Type 0
WrittenOut outs o o' k =
    (k ≡ length (shown_only outs)) × (k ≤ length o) × (take k o' ≡ shown_only outs) × (drop k o' ≡ drop k o)

-- the first list is the beginning of the second
pub data Front : List ℕ → List ℕ → Type 0 where
  none_yet : {s : List ℕ} → Front [] s
  and_so : {x : ℕ} {s t : List ℕ} → Front s t → Front (x ∷ s) (x ∷ t)

abbrev pub outs_of : Res Value → List ℕ
outs_of (ok v s) = s.outs
outs_of (stop k s) = s.outs

-- run: of a text, with w words lent for itself, the limits m, the numbers to read, and the output before (o) and after (o')
abbrev pub RunSays : List ℕ → ℕ → Limits → List ℕ → List ℕ → List ℕ → Halt → Type 0
RunSays text w m ins o o' (Ended v k) =
    (q : Prog) × (u : ℕ) × (s : State) × (reads text ≡ some q) × (accepts q ≡ true)
    × (run u m q ins ≡ ok (int_v v) s) × WrittenOut s.outs o o' k
RunSays text w m ins o o' (HeapFull k) =
    (q : Prog) × (u : ℕ) × (s : State) × (reads text ≡ some q) × (accepts q ≡ true)
    × (run u m q ins ≡ stop no_heap s) × WrittenOut s.outs o o' k
RunSays text w m ins o o' (StackFull k) =
    (q : Prog) × (u : ℕ) × (s : State) × (reads text ≡ some q) × (accepts q ≡ true)
    × (run u m q ins ≡ stop no_stack s) × WrittenOut s.outs o o' k
RunSays text w m ins o o' (TurnsUp k) =
    (q : Prog) × (u : ℕ) × (s : State) × (reads text ≡ some q) × (accepts q ≡ true)
    × (run u m q ins ≡ stop no_turns s) × WrittenOut s.outs o o' k
-- it shows more than there is room for, and the output has the first of it
RunSays text w m ins o o' (OutFull k) =
    (q : Prog) × (u : ℕ) × (reads text ≡ some q) × (accepts q ≡ true)
    × (length o < length (shown_only (outs_of (run u m q ins)))) × (k ≡ length o)
    × Front o' (shown_only (outs_of (run u m q ins)))
RunSays text w m ins o o' NotThis =
    ((reads text ≡ none) ⊎ ((q : Prog) × (reads text ≡ some q) × (accepts q ≡ false)) ⊎ (w < least_words text)) × (o' ≡ o)
