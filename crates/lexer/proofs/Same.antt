-- Equal lexemes, as a test.
use Rattle.std.proofs.Common.{◌≡◌, ℕ, Bool, true, false, ◌&&◌, eqb, List, [], ◌∷◌, sym, refl, ap, ◌∙◌, ap₂, true≢false, arith, rules, eqb-true}
use mathlib.Core.Bool.{false≢true}
use Rattle.std.proofs.lemmas.Bool.{and_parts, or_from}
use Rattle.std.proofs.lemmas.Bool.Decides.{same_from_decides, Decides-eqb}
use Rattle.std.proofs.lemmas.Slice.Eq.{slice_eq-Decides, compares_Decides}
use Rattle.std.specs.Cmp.Lexicographic.{pointwise}
use Rattle.language.specs.Base.{Lexeme, same, is_in, each_of}
use Rattle.language.specs.Text.{leading}

pub same_sym : (a b : Lexeme) → same a b ≡ same b a
same_sym [] [] = refl
same_sym [] (y ∷ b) = refl
same_sym (x ∷ a) [] = refl
same_sym (x ∷ a) (y ∷ b) = ap₂ ◌&&◌ (grind arith) (same_sym a b)

pub same_is : (a b : Lexeme) → same a b ≡ true → a ≡ b
same_is [] [] e = refl
same_is [] (y ∷ b) e = absurd (false≢true e)
same_is (x ∷ a) [] e = absurd (false≢true e)
same_is (x ∷ a) (y ∷ b) e =
    let both = and_parts (eqb x y) (same a b) e in
    ap₂ (λ (u : ℕ) (v : Lexeme). u ∷ v) (eqb-true x y both.0) (same_is a b both.1)

pub same_refl : (a : Lexeme) → same a a ≡ true
same_refl [] = refl
same_refl (x ∷ a) = grind (arith, same_refl a)

-- what `==` of two slices says
pub same_by_eq : (a b : Lexeme) (r : Bool) → r ≡ pointwise eqb a b → r ≡ same a b
same_by_eq a b r e = same_from_decides _ _ (slice_eq-Decides Decides-eqb a b r e) (compares_Decides same (search rules) a b)

-- lexemes that differ in a test on their first bytes
pub apart : (f : ℕ → Bool) (a b : Lexeme) {t : Bool} → f (leading a) ≡ t → (f (leading b) ≡ t → ⊥) → same a b ≡ false
apart f a b e n = on (same a b) refl
  where
    on : (s : Bool) → same a b ≡ s → same a b ≡ false
    on true h = absurd (n (ap (λ w. f (leading w)) (sym (same_is a b h)) ∙ e))
    on false h = h

pub none_in : (f : ℕ → Bool) (w : Lexeme) (vs : List Lexeme) → f (leading w) ≡ false → each_of (λ v. f (leading v)) vs ≡ true → is_in w vs ≡ false
none_in f w [] e all = refl
none_in f w (v ∷ vs) e all =
    let both = and_parts (f (leading v)) (each_of (λ v. f (leading v)) vs) all in
    or_from _ _ (apart f w v e (λ h. true≢false (sym both.0 ∙ h))) (none_in f w vs e both.1)
