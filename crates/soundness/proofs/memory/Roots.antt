-- The list of roots: what is summed over the live ones when one is added or ends.
use mathlib.Core.Bool.{Bool, true, false}
use mathlib.Core.List.{List, [], ◌∷◌, ◌++◌}
use mathlib.Core.Option.{some}
use mathlib.Core.Path.{◌≡◌, refl, ap}
use Prim.Native.Nat.{ℕ, zero, suc, ◌+◌, ◌≤◌, ◌<◌}
use native.Mathlib.Omega.{arith}
use lib.Dec.{eqb, T, eqb→eq, eqb-zero-suc}
use lib.ListN.{length}
use Rattle.language.specs.Base.{choose, from_option, at_place, set_at}
use Rattle.language.specs.Meaning.{Value, Root, State, hole, with_roots, kill}
use Rattle.soundness.specs.Invariant.{live_sum, of_size}
use Rattle.soundness.proofs.Basics.{no_some, some_is}
use Rattle.soundness.proofs.memory.Paths.{mark}

pub sum_kill : (f : ℕ → ℕ → ℕ) (i : ℕ) (rs : List Root) (r : ℕ) (v : Value) (w : ℕ)
    → at_place rs r ≡ some (record { live = true; val = v; words = w })
    → live_sum f i (set_at rs r (record { live = false; val = hole; words = w })) + f (r + i) w ≡ live_sum f i rs
sum_kill f i [] r v w e = absurd (no_some e)
sum_kill f i (x ∷ rs) zero v w e =
    let h : x ≡ record { live = true; val = v; words = w } = some_is e in
    let k : choose x.live (f i x.words) 0 ≡ f i w = ap (λ z. choose z.live (f i z.words) 0) h in
    let k2 : f (0 + i) w ≡ f i w = ap (λ z. f z w) (omega arith) in omega arith
sum_kill f i (x ∷ rs) (suc r) v w e =
    let h = sum_kill f (suc i) rs r v w e in let k : f (suc r + i) w ≡ f (r + suc i) w = ap (λ z. f z w) (omega arith) in omega arith

sum_low : (r i : ℕ) (rs : List Root) → r < i → live_sum (mark r) i rs ≡ 0
sum_low r i [] h = refl
sum_low r i (x ∷ rs) h =
    let k = sum_low r (suc i) rs (omega arith) in
    let m : choose x.live (mark r i x.words) 0 ≡ 0 = go x.live (eqb i r) (λ t. eqb→eq i r t) in omega arith
  where
    go : (a z : Bool) → (T z → i ≡ r) → ◌≡◌ {A = ℕ} (choose a (choose z 1 0) 0) 0
    go true true e = absurd (let k = e tt in omega arith)
    go true false e = refl
    go false z e = refl

pub sum_once : (r i : ℕ) (rs : List Root) → live_sum (mark r) i rs ≤ 1
sum_once r i [] = omega arith
sum_once r i (x ∷ rs) = let h = sum_once r (suc i) rs in go x.live (eqb i r) (λ t. eqb→eq i r t) h (λ lt. sum_low r (suc i) rs lt)
  where
    go : (a z : Bool) → (T z → i ≡ r) → live_sum (mark r) (suc i) rs ≤ 1 → (r < suc i → live_sum (mark r) (suc i) rs ≡ 0)
        → choose a (choose z 1 0) 0 + live_sum (mark r) (suc i) rs ≤ 1
    go true true e h k = let eq = e tt in let m = k (omega arith) in omega arith
    go true false e h k = omega arith
    go false z e h k = omega arith

pub sum_push : (f : ℕ → ℕ → ℕ) (i : ℕ) (rs : List Root) (v : Value) (w : ℕ)
    → live_sum f i (rs ++ (record { live = true; val = v; words = w } ∷ [])) ≡ live_sum f i rs + f (length rs + i) w
sum_push f i [] v w = let k : f (0 + i) w ≡ f i w = ap (λ z. f z w) (omega arith) in omega arith
sum_push f i (x ∷ rs) v w =
    let h = sum_push f (suc i) rs v w in let k : f (suc (length rs) + i) w ≡ f (length rs + suc i) w = ap (λ z. f z w) (omega arith) in omega arith

pub at_push : (rs : List Root) (x : Root) (r : ℕ) (y : Root) → at_place rs r ≡ some y → at_place (rs ++ (x ∷ [])) r ≡ some y
at_push [] x r y e = absurd (no_some e)
at_push (z ∷ rs) x zero y e = e
at_push (z ∷ rs) x (suc r) y e = at_push rs x r y e

pub at_last : (rs : List Root) (x : Root) → at_place (rs ++ (x ∷ [])) (length rs) ≡ some x
at_last [] x = refl
at_last (z ∷ rs) x = at_last rs x

-- a root that ends: r, that stands at the top; what's there stays in flight
pub kill_roots : (s : State) (r : ℕ) (x : Root) → at_place s.roots r ≡ some x
    → kill s r ≡ with_roots s (set_at s.roots r (record { live = false; val = hole; words = x.words }))
kill_roots s r x e = ap (λ o. from_option o s (λ y. with_roots s (set_at s.roots r (record { live = false; val = hole; words = y.words })))) e

pub no_size : (k i : ℕ) → of_size (suc k) i 0 ≡ 0
no_size k i = ap {B = ℕ} (λ z. choose z 1 0) (eqb-zero-suc k)

pub sum_high : (r i : ℕ) (rs : List Root) → length rs + i ≤ r → live_sum (mark r) i rs ≡ 0
sum_high r i [] h = refl
sum_high r i (x ∷ rs) h =
    let k = sum_high r (suc i) rs (omega arith) in
    let m : choose x.live (mark r i x.words) 0 ≡ 0 = go x.live (eqb i r) (λ t. lib.Dec.eqb→eq i r t) in omega arith
  where
    go : (a z : Bool) → (lib.Dec.T z → i ≡ r) → ◌≡◌ {A = ℕ} (choose a (choose z 1 0) 0) 0
    go true true e = absurd (let k = e tt in omega arith)
    go true false e = refl
    go false z e = refl
