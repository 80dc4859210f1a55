-- Laws of lists over a range of numbers, and of the first number of a range that passes a test.
use Rattle.std.proofs.Common.{◌≡◌, ℕ, zero, suc, ◌+◌, ◌-◌, ◌<◌, ◌≤◌, Bool, true, false, [], ◌∷◌, ◌++◌, sym, refl, ap, ◌∙◌, ap₂, arith}
use mathlib.Core.Option.{some}
use Rattle.language.specs.Base.{choose}
use Rattle.tables.specs.declared.span.Span.{Span}
use Rattle.tables.proofs.SizeFuel.{some_same, none_some}
use Rattle.tables.specs.Index.{span, each_from, first_from, all_in, first_in}

-- the same at each number is the same list; a list with one more
pub each_same : {A : Type 0} (f g : ℕ → A) (i n : ℕ) → ((k : ℕ) → i ≤ k → k < i + n → f k ≡ g k) → each_from f i n ≡ each_from g i n
each_same f g i zero h = refl
each_same f g i (suc n) h = ap₂ (λ x xs. x ∷ xs) (h i (omega arith) (omega arith)) (each_same f g (suc i) n (λ k a b. h k (omega arith) (omega arith)))

pub each_more : {A : Type 0} (f : ℕ → A) (i n : ℕ) → each_from f i (n + 1) ≡ each_from f i n ++ (f (i + n) ∷ [])
each_more f i zero = let e : i + 0 ≡ i = omega arith in ap (λ j. f j ∷ []) (sym e)
each_more f i (suc n) =
    let e : suc n + 1 ≡ suc (n + 1) = omega arith in
    let d : suc i + n ≡ i + suc n = omega arith in
    ap (each_from f i) e ∙ ap (λ xs. f i ∷ xs) (each_more f (suc i) n ∙ ap (λ j. each_from f (suc i) n ++ (f j ∷ [])) d)

pub all_same : {A : Type 0} (f g : ℕ → A) (s : Span) → ((k : ℕ) → k < s.end → f k ≡ g k) → all_in f s ≡ all_in g s
all_same f g s h = each_same f g s.first (s.end - s.first) (λ k a b. h k (omega arith))

pub all_more : {A : Type 0} (f : ℕ → A) (s : Span) → s.first ≤ s.end → all_in f (span s.first (s.end + 1)) ≡ all_in f s ++ (f s.end ∷ [])
all_more f s h =
    let e : (s.end + 1) - s.first ≡ (s.end - s.first) + 1 = omega arith in
    let d : s.first + (s.end - s.first) ≡ s.end = omega arith in
    ap (each_from f s.first) e ∙ each_more f s.first (s.end - s.first) ∙ ap (λ j. all_in f s ++ (f j ∷ [])) d

pub all_none : {A : Type 0} (f : ℕ → A) (n : ℕ) → all_in f (span n n) ≡ []
all_none f n = let e : n - n ≡ 0 = omega arith in ap (each_from f n) e

-- one turn of a loop over a range
pub each_step : {A : Type 0} (f : ℕ → A) (i n : ℕ) → i < n → each_from f i (n - i) ≡ f i ∷ each_from f (i + 1) (n - (i + 1))
each_step f i n h =
    let e : n - i ≡ suc (n - (i + 1)) = omega arith in
    let g : suc i ≡ i + 1 = omega arith in
    ap (each_from f i) e ∙ ap (λ j. f i ∷ each_from f j (n - (i + 1))) g

-- what is found is in the range, and passes
pub first_inside : (p : ℕ → Bool) (i n k : ℕ) → first_from p i n ≡ some k → (i ≤ k) × (k < i + n) × (p k ≡ true)
first_inside p i zero k e = none_some e
first_inside p i (suc n) k e = at (p i) refl e (λ h. first_inside p (suc i) n k h)
  where
    at : (b : Bool) → p i ≡ b → choose b (some i) (first_from p (suc i) n) ≡ some k → (first_from p (suc i) n ≡ some k → (suc i ≤ k) × (k < suc i + n) × (p k ≡ true)) → (i ≤ k) × (k < i + suc n) × (p k ≡ true)
    at true q h ih = let e : i ≡ k = some_same h in (omega arith, omega arith, ap p (sym e) ∙ q)
    at false q h ih = let r = ih h in let a = r.0 in let b = r.1 in (omega arith, omega arith, r.2)

pub first_under : (p : ℕ → Bool) (s : Span) (k : ℕ) → first_in p s ≡ some k → k < s.end
first_under p s k e = let r = first_inside p s.first (s.end - s.first) k e in let a = r.0 in let b = r.1 in omega arith

pub from_zero : (p : ℕ → Bool) (n : ℕ) (s : Span) → s ≡ span 0 n → first_in p s ≡ first_from p 0 n
from_zero p n s h = let e : n - 0 ≡ n = omega arith in ap (first_in p) h ∙ ap (first_from p 0) e
