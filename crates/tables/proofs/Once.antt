-- No name twice, over the rows of a table.
use Rattle.std.proofs.Common.{◌≡◌, ℕ, zero, suc, ◌+◌, ◌-◌, ◌<◌, Bool, true, false, not, ◌&&◌, ◌||◌, eqb, [], ◌∷◌, sym, refl, ap, ◌∙◌, ap₂, eqb→eq}
use mathlib.Core.Option.{Option, some, none}
use lib.Dec.{eqb_refl}
use Rattle.language.specs.Base.{choose, present, Lexeme, same, is_in, no_twice}
use Rattle.tables.specs.Index.{each_from, first_from}
use Rattle.tables.proofs.Index.{each_step}
use Rattle.tables.proofs.SizeFuel.{is_true, is_T}

eqb_sym : (a b : ℕ) → eqb a b ≡ eqb b a
eqb_sym a b = at (eqb a b) (eqb b a) refl refl
  where
    at : (x y : Bool) → eqb a b ≡ x → eqb b a ≡ y → x ≡ y
    at true true p q = refl
    at false false p q = refl
    at true false p q = let e = eqb→eq a b (is_T p) in sym (is_true (eqb b b) (eqb_refl b)) ∙ ap (eqb b) (sym e) ∙ q
    at false true p q = let e = eqb→eq b a (is_T q) in sym p ∙ ap (eqb a) e ∙ is_true (eqb a a) (eqb_refl a)

pub same_sym : (x y : Lexeme) → same x y ≡ same y x
same_sym [] [] = refl
same_sym [] (b ∷ y) = refl
same_sym (a ∷ x) [] = refl
same_sym (a ∷ x) (b ∷ y) = ap₂ ◌&&◌ (eqb_sym a b) (same_sym x y)

-- a name that is in: the first of that name is found
pub in_first : (f : ℕ → Lexeme) (x : Lexeme) (i n : ℕ) → is_in x (each_from f i n) ≡ present (first_from (λ k. same (f k) x) i n)
in_first f x i zero = refl
in_first f x i (suc n) = ap (λ b. b || is_in x (each_from f (suc i) n)) (same_sym x (f i)) ∙ at (same (f i) x) (in_first f x (suc i) n)
  where
    at : (b : Bool) → is_in x (each_from f (suc i) n) ≡ present (first_from (λ k. same (f k) x) (suc i) n) → (b || is_in x (each_from f (suc i) n)) ≡ present (choose b (some i) (first_from (λ k. same (f k) x) (suc i) n))
    at true h = refl
    at false h = h

abbrev pub once_from : (ℕ → Lexeme) → ℕ → ℕ → Bool
once_from f i n = no_twice (each_from f i (n - i))

once_step : (f : ℕ → Lexeme) (i n : ℕ) → i < n → once_from f i n ≡ (not (present (first_from (λ k. same (f k) (f i)) (i + 1) (n - (i + 1)))) && once_from f (i + 1) n)
once_step f i n h = ap no_twice (each_step f i n h) ∙ ap (λ b. not b && once_from f (i + 1) n) (in_first f (f i) (i + 1) (n - (i + 1)))

pub once_no : (f : ℕ → Lexeme) (i n k : ℕ) (z : Bool) → i < n → first_from (λ k. same (f k) (f i)) (i + 1) (n - (i + 1)) ≡ some k → once_from f i n ≡ z → z ≡ false
once_no f i n k z h e q = sym q ∙ once_step f i n h ∙ ap (λ (o : Option ℕ). not (present o) && once_from f (i + 1) n) e

pub once_on : (f : ℕ → Lexeme) (i n : ℕ) (z : Bool) → i < n → first_from (λ k. same (f k) (f i)) (i + 1) (n - (i + 1)) ≡ none → once_from f i n ≡ z → once_from f (i + 1) n ≡ z
once_on f i n z h e q = sym (once_step f i n h ∙ ap (λ (o : Option ℕ). not (present o) && once_from f (i + 1) n) e) ∙ q
