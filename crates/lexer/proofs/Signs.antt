-- Lexemes that are signs, by their length.
use Rattle.std.proofs.Common.{◌≡◌, ℕ, Bool, true, false, ◌&&◌, eqb, [], ◌∷◌, length, get_or, refl, ap}
use Rattle.language.specs.Base.{Lexeme, same, is_in}
use Rattle.language.specs.Text.{sg_is}
use Rattle.lexer.specs.Tokens.{signs}
use Rattle.lexer.proofs.Same.{same_is}

not_one : (a b k : ℕ) (w : Lexeme) → same (a ∷ b ∷ w) (k ∷ []) ≡ false
not_one a b k w = on (eqb a k)
  where
    on : (t : Bool) → t && false ≡ false
    on true = refl
    on false = refl

pub no_sign : (w : Lexeme) → (length w ≡ 1 → ⊥) → same w sg_is ≡ false → is_in w signs ≡ false
no_sign [] n e = refl
no_sign (b ∷ []) n e = absurd (n refl)
no_sign (a ∷ b ∷ w) n e =
    rw (not_one a b 40 w, not_one a b 41 w, not_one a b 123 w, not_one a b 125 w, not_one a b 44 w, not_one a b 59 w, not_one a b 58 w, not_one a b 124 w, not_one a b 61 w, not_one a b 38 w, not_one a b 42 w, e, not_one a b 60 w, not_one a b 43 w, not_one a b 45 w, not_one a b 47 w, not_one a b 37 w)

-- the sign of two bytes
pub same_long : (w : Lexeme) → same w sg_is ≡ true → (length w ≡ 2) × (get_or w 0 0 ≡ 61) × (get_or w 1 0 ≡ 61)
same_long w e = let is : w ≡ sg_is = same_is w sg_is e in (ap length is, ap (λ v. get_or v 0 0) is, ap (λ v. get_or v 1 0) is)
