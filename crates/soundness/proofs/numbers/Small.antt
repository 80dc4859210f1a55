-- Numbers are words, below 2^64, for a program that was read from a text.
use mathlib.Core.Bool.{Bool, true, false}
use mathlib.Core.List.{List, [], ◌∷◌, ◌++◌}
use mathlib.Core.Logic.{inl, inr}
use mathlib.Core.Path.{refl}
use Prim.Native.Nat.{ℕ, zero, suc, ◌+◌, ◌*◌, ◌-◌, ◌/◌, ◌%◌, ◌≤◌}
use native.Mathlib.Omega.{arith}
use lib.Dec.{eqb, ltb}
use Rattle.language.specs.Base.{choose}
use Rattle.language.specs.Checks.{fn_named, w_main}
use Rattle.language.specs.Meaning.{Res, two_64, worked, unless_0, as_number, next_read, blank}
use Rattle.soundness.specs.Numbers.{Every, StateNumbers, Literals, Behind, Word, Shown, WordsKept, ShownSmall}
use Rattle.soundness.proofs.numbers.Meets.{Meets, by_ok, by_stop, need_meets}
use Rattle.soundness.proofs.numbers.Keeps.{Closed, numbers_kept, calls_meets, fn_literals}
use Rattle.soundness.proofs.numbers.Reads.{text_literals}

-- a remainder by 2^64; what doesn't grow; 0 and 1
rest_small : (x : ℕ) → Word (x % two_64)
rest_small x = omega arith

part_small : (f : ℕ → ℕ → ℕ) (x y : ℕ) → ((z : ℕ) → f x (suc z) ≤ x) → Word x → Word (unless_0 f x y)
part_small f x zero h w = omega arith
part_small f x (suc y) h w = let k = h y in omega arith

test_small : (t : Bool) → Word (as_number t)
test_small true = omega arith
test_small false = omega arith

either_small : (t : Bool) (x y : ℕ) → Word x → Word y → Word (choose t x y)
either_small true x y h k = h
either_small false x y h k = k

worked_small : (o x y : ℕ) → Word x → Word y → Word (worked o x y)
worked_small o x y h k =
    either_small (eqb o 0) _ _ (rest_small (x + y))
    (either_small (eqb o 1) _ _ (rest_small ((x + two_64) - y))
    (either_small (eqb o 2) _ _ (rest_small (x * y))
    (either_small (eqb o 3) _ _ (part_small (λ d e. d / e) x y (λ z. omega arith) h)
    (either_small (eqb o 4) _ _ (part_small (λ d e. d % e) x y (λ z. omega arith) h)
    (either_small (eqb o 5) _ _ (test_small (eqb x y)) (test_small (ltb x y)))))))

read_small : (ins : List ℕ) → Word (next_read ins)
read_small [] = omega arith
read_small (k ∷ ins) = rest_small k

shown_snoc : (os : List ℕ) (k : ℕ) → Shown k → Every Shown os → Every Shown (os ++ (k ∷ []))
shown_snoc [] k h e = (h, tt)
shown_snoc (x ∷ os) k h e = (e.0, shown_snoc os k h e.1)

words_closed : Closed Word (Every Shown)
words_closed =
    record {
      worked_out = worked_small;
      read_in = read_small;
      shown_next = λ os k h e. shown_snoc os k (inl h) e;
      marked = λ os e.
          shown_snoc os two_64 (inr refl) e;
    }

pub words_kept : WordsKept
words_kept text q e m u = numbers_kept Word (Every Shown) words_closed m q (text_literals text q e) u

small_of : {A : Type 0} {V : A → Type 0} {r : Res A} → Meets V (StateNumbers Word (Every Shown)) r → Behind V (λ s. Every Shown s.outs) r
small_of (by_ok v p) = (v, p.shown)
small_of (by_stop p) = p.shown

pub shown_small : ShownSmall
shown_small text q e u m ins =
    let lits : Literals Word q = text_literals text q e in
    let start : StateNumbers Word (Every Shown) (blank ins) = record { stored = tt; shown = tt } in
    small_of (need_meets (blank ins) (fn_named q.funs w_main) start (λ f ef.
    calls_meets Word (Every Shown) words_closed m q lits u f [] (blank ins)
    (fn_literals Word (Every Shown) words_closed q.funs w_main f lits ef) tt start))
