-- Words for boxes, by their peaks; words under way; turns.
use Rattle.std.specs.Prelude.{List, [], ◌∷◌, ℕ, suc, ◌+◌, ◌-◌, ◌*◌, length, eqb, ltb, leb}
use Rattle.language.specs.Base.{choose, from_option, at_place}
use Rattle.language.specs.Meaning.States.{Value, box_v, Class, State, Limits, no_heap, no_stack, no_turns, Res, ok, stop, then}
use Rattle.language.specs.Meaning.Memory.{adds_root, kill}

-- a box more of k words, a box less
abbrev pub count_in : List Class → ℕ → List Class
count_in [] k = record { words = k; in_use = 1; peak = 1 } ∷ []
count_in (x ∷ xs) k =
    choose (eqb x.words k)
    (record { words = k; in_use = suc x.in_use; peak = choose (ltb x.in_use x.peak) x.peak (suc x.in_use) } ∷ xs)
    (x ∷ count_in xs k)

abbrev pub count_out : List Class → ℕ → List Class
count_out [] k = []
count_out (x ∷ xs) k =
    choose (eqb x.words k)
    (record { words = k; in_use = x.in_use - 1; peak = x.peak } ∷ xs)
    (x ∷ count_out xs k)

-- words for boxes: of each size, as many as there were of that size at most, at one time
abbrev pub peaks : List Class → ℕ
peaks [] = 0
peaks (x ∷ xs) = x.words * x.peak + peaks xs

abbrev pub with_classes : State → List Class → State
with_classes s cs =
    record { roots = s.roots; classes = cs; under = s.under; turns = s.turns; ins = s.ins; outs = s.outs }

-- a new box is refused if the peaks together would be more than there are words
abbrev pub makes_box : Limits → State → Value → ℕ → Res Value
makes_box m s v k =
    choose (leb (peaks (count_in s.classes k)) m.heap)
    (ok (box_v (length s.roots)) (with_classes (adds_root s v k) (count_in s.classes k)))
    (stop no_heap s)

abbrev pub ends_box : State → ℕ → State
ends_box s r =
    from_option (at_place s.roots r) s (λ x. with_classes (kill s r) (count_out s.classes x.words))

abbrev pub with_under : State → ℕ → State
with_under s k =
    record { roots = s.roots; classes = s.classes; under = k; turns = s.turns; ins = s.ins; outs = s.outs }

-- with k more words under way, which are given back behind it: a call's words, eight for a box that's being dropped
unfoldable pub goes_under : {A : Type 0} → Limits → ℕ → State → (State → Res A) → Res A
goes_under m k s f =
    choose (leb (s.under + k) m.stack)
    (then (f (with_under s (s.under + k))) (λ a t. ok a (with_under t s.under)))
    (stop no_stack s)

-- one turn; it stops only when one more is asked for than there are
unfoldable pub turn : {A : Type 0} → Limits → State → (State → Res A) → Res A
turn m s f =
    choose (ltb s.turns m.max_turns)
    (f (record { roots = s.roots; classes = s.classes; under = s.under; turns = suc s.turns; ins = s.ins; outs = s.outs }))
    (stop no_turns s)
