-- A turn of a move.
use Rattle.std.proofs.Common.{◌≡◌, ℕ, ◌+◌, ◌<◌, true, false, eqb, ◌≢◌, ◌⊎◌, List, length, get_or, set, sym, refl, ◌∙◌, subst, inl, inr, arith, get_or-set_other, get_or-set_same, eqb-true}
use borrow.Author.Tests.{eqb-false}
use Rattle.memory.specs.Row.{Moved, Apart}

pub moved_none : (ws : List ℕ) (a b : ℕ) → Moved ws ws a b 0
moved_none ws a b = record { there = λ i h. absurd (omega arith); below = λ j h. refl; above = λ j h. refl }

-- the word that's read is still the old one
pub still : (ws ws' : List ℕ) (a b n i : ℕ) → i < n → Apart a b n → Moved ws ws' a b i → get_or ws' (a + i) 0 ≡ get_or ws (a + i) 0
still ws ws' a b n i h (inl q) M = M.below (a + i) (omega arith)
still ws ws' a b n i h (inr q) M = M.above (a + i) (omega arith)

by_cases : (i j : ℕ) → (i ≡ j) ⊎ (i ≢ j)
by_cases i j = (let r : (t : mathlib.Core.Bool.Bool) → eqb i j ≡ t → (i ≡ j) ⊎ (i ≢ j) = elim [ true ↦ (λ e. inl (eqb-true i j e)) | false ↦ (λ e. inr (eqb-false i j e)) ] in r (eqb i j) refl)

pub moved_more : (ws ws' : List ℕ) (a b n i : ℕ) → i < n → b + i < length ws' → Apart a b n → Moved ws ws' a b i → Moved ws (set ws' (b + i) (get_or ws' (a + i) 0)) a b (i + 1)
moved_more ws ws' a b n i h l q M = record {
  there = λ j hj. ⊎-cases j hj (by_cases j i);
  below = λ j hj. get_or-set_other ws' (b + i) j _ 0 (omega arith) ∙ M.below j hj;
  above = λ j hj. get_or-set_other ws' (b + i) j _ 0 (omega arith) ∙ M.above j (omega arith);
}
  where
    ⊎-cases : (j : ℕ) → j < i + 1 → (j ≡ i) ⊎ (j ≢ i) → get_or (set ws' (b + i) (get_or ws' (a + i) 0)) (b + j) 0 ≡ get_or ws (a + j) 0
    ⊎-cases j hj (inl e) = subst (λ (m : ℕ). get_or (set ws' (b + i) (get_or ws' (a + i) 0)) (b + m) 0 ≡ get_or ws (a + m) 0) (sym e) (get_or-set_same ws' (b + i) _ 0 l ∙ still ws ws' a b n i h q M)
    ⊎-cases j hj (inr e) = get_or-set_other ws' (b + i) (b + j) _ 0 (omega arith) ∙ M.there j (omega arith)
