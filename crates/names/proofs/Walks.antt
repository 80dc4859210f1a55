-- Going over the buckets of a table, round its end.
use Rattle.std.proofs.Common.{◌≡◌, ℕ, zero, suc, ◌+◌, ◌-◌, ◌<◌, ◌≤◌, ap, ◌∙◌, arith}
use Rattle.std.proofs.lemmas.Bool.{lt-ltb, le-ltb}
use Rattle.lexer.proofs.Cut.{choose_true, choose_false}
use Rattle.names.specs.Hash.{next_bucket, walk}

pub next_up : (m i : ℕ) → i + 1 < m → next_bucket m i ≡ i + 1
next_up m i h = choose_true _ _ (lt-ltb (i + 1) m h)

pub next_round : (m i : ℕ) → m ≤ i + 1 → next_bucket m i ≡ 0
next_round m i h = choose_false _ _ (le-ltb (i + 1) m h)

pub walk_up : (m s d : ℕ) → s + d < m → walk m s d ≡ s + d
walk_up m s zero h = omega arith
walk_up m s (suc d) h =
    let on : s + d + 1 ≡ s + suc d = omega arith in
    ap (next_bucket m) (walk_up m s d (omega arith)) ∙ next_up m (s + d) (omega arith) ∙ on

walk_add : (m s a b : ℕ) → walk m s (b + a) ≡ walk m (walk m s a) b
walk_add m s a zero = let z : 0 + a ≡ a = omega arith in ap (walk m s) z
walk_add m s a (suc b) = let z : suc b + a ≡ suc (b + a) = omega arith in ap (walk m s) z ∙ ap (next_bucket m) (walk_add m s a b)

-- once round the end
walk_round : (m s : ℕ) → s < m → walk m s (m - s) ≡ 0
walk_round m s h =
    let z : m - s ≡ suc (m - s - 1) = omega arith in
    let top : s + (m - s - 1) ≡ m - 1 = omega arith in
    ap (walk m s) z ∙ ap (next_bucket m) (walk_up m s (m - s - 1) (omega arith) ∙ top) ∙ next_round m (m - 1) (omega arith)

-- the buckets behind the end, counted from the first
pub walk_on : (m s i : ℕ) → s < m → i < m → walk m s (i + (m - s)) ≡ i
walk_on m s i hs hi =
    let zero_up : 0 + i ≡ i = omega arith in
    walk_add m s (m - s) i ∙ ap (λ k. walk m k i) (walk_round m s hs) ∙ walk_up m 0 i (omega arith) ∙ zero_up
