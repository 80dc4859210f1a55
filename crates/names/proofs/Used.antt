-- How many buckets of a table are taken.
use Rattle.std.proofs.Common.{◌≡◌, ℕ, zero, suc, ◌+◌, ◌≤◌, Bool, true, false, eqb, List, [], ◌∷◌, length, set, replicate, refl, arith}
use Rattle.std.proofs.lemmas.Bool.{ne_eqb}
use Rattle.language.specs.Base.{choose}
use Rattle.lexer.proofs.Cut.{choose_false}
use Rattle.names.specs.Table.{IsFull, used}

at_most : (t : Bool) → choose t 0 1 ≤ 1
at_most true = omega arith
at_most false = omega arith

pub used_set : (table : List ℕ) (i v : ℕ) → used (set table i v) ≤ used table + 1
used_set [] i v = omega arith
used_set (w ∷ ws) zero v = omega (arith, at_most (eqb v 0))
used_set (w ∷ ws) (suc i) v = omega (arith, used_set ws i v)

-- a full table
pub used_all : (table : List ℕ) → IsFull table → used table ≡ length table
used_all [] full = refl
used_all (w ∷ ws) full =
    let one : ◌≡◌ {A = ℕ} (choose (eqb w 0) 0 1) 1 = choose_false 0 1 (ne_eqb w 0 (full 0 (omega arith))) in
    let rest : used ws ≡ length ws = used_all ws (λ i h. full (suc i) (omega arith)) in
    omega (arith, one, rest)

-- a table with nothing in it
pub used_zeros : (n : ℕ) → used (replicate n 0) ≡ 0
used_zeros zero = refl
used_zeros (suc n) = omega (arith, used_zeros n)
