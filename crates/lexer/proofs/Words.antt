-- The reserved word that a lexeme is, by its first byte.
use Rattle.std.proofs.Common.{◌≡◌, ℕ, Bool, true, false, ◌||◌, List, [], ◌∷◌, Some, None, Option, MatchOption, sym, ap₂, subst, slice_get}
use Rattle.std.specs.Bool.{then_some}
use Rattle.std.specs.Option.{option_or}
use Rattle.std.proofs.lemmas.Option.{none-some, same_Some}
use Rattle.language.specs.Base.{Lexeme, same, is_in}
use Rattle.language.specs.Text.{reserved}
use Rattle.lexer.specs.Tokens.{spelled}
use Rattle.lexer.specs.declared.token.Keyword.{Keyword}
use Rattle.lexer.proofs.Same.{same_is}

-- an answer and the test that it is of: no word, or the lexeme is it
abbrev Is : Lexeme → Bool → Option Keyword → Type 0
Is w t o = MatchOption o (t ≡ false) (λ k. w ≡ spelled k)

-- by one comparison
pub compared : (w : Lexeme) (k : Keyword) (t : Bool) (o : Option Keyword) → t ≡ same w (spelled k) → o ≡ then_some t k → MatchOption o (same w (spelled k) ≡ false) (λ k. w ≡ spelled k)
compared w k true o e h = subst (Is w (same w (spelled k))) (sym h) (same_is w (spelled k) (sym e))
compared w k false o e h = subst (Is w (same w (spelled k))) (sym h) (sym e)

either : (w : Lexeme) (a b : Bool) (o p : Option Keyword) → Is w a o → Is w b p → Is w (a || b) (option_or o p)
either w a b None None h i = ap₂ ◌||◌ h i
either w a b None (Some k) h i = i
either w a b (Some k) p h i = h

last : (w : Lexeme) (a : Bool) (o : Option Keyword) → Is w a o → Is w (a || false) o
last w true o h = h
last w false o h = h

-- what holds of all lexemes that begin with a byte
begun : (w : Lexeme) (b : ℕ) (t : Lexeme → Bool) (o : Option Keyword) → slice_get w 0 ≡ Some b → ((v : Lexeme) → is_in (b ∷ v) reserved ≡ t (b ∷ v)) → Is w (t w) o → Is w (is_in w reserved) o
begun [] b t o e all h = absurd (none-some b e)
begun (x ∷ v) b t o e all h = subst (λ q. Is (x ∷ v) q o) (sym (subst (λ a. is_in (a ∷ v) reserved ≡ t (a ∷ v)) (sym (same_Some x b e)) (all v))) h

-- one, two and three words begin with the byte
pub one : (w : Lexeme) (b : ℕ) (k : Keyword) (o : Option Keyword) → slice_get w 0 ≡ Some b → ((v : Lexeme) → is_in (b ∷ v) reserved ≡ (same (b ∷ v) (spelled k) || false)) → MatchOption o (same w (spelled k) ≡ false) (λ k. w ≡ spelled k) → MatchOption o (is_in w reserved ≡ false) (λ k. w ≡ spelled k)
one w b k o e all h = begun w b (λ u. same u (spelled k) || false) o e all (last w (same w (spelled k)) o h)

pub two : (w : Lexeme) (b : ℕ) (k l : Keyword) (o p q : Option Keyword) → slice_get w 0 ≡ Some b → ((v : Lexeme) → is_in (b ∷ v) reserved ≡ (same (b ∷ v) (spelled k) || (same (b ∷ v) (spelled l) || false))) →
    MatchOption o (same w (spelled k) ≡ false) (λ k. w ≡ spelled k) → MatchOption p (same w (spelled l) ≡ false) (λ k. w ≡ spelled k) → q ≡ option_or o p → MatchOption q (is_in w reserved ≡ false) (λ k. w ≡ spelled k)
two w b k l o p q e all h i is =
    subst (Is w (is_in w reserved)) (sym is) (begun w b (λ u. same u (spelled k) || (same u (spelled l) || false)) (option_or o p) e all (either w (same w (spelled k)) (same w (spelled l) || false) o p h (last w (same w (spelled l)) p i)))

pub three : (w : Lexeme) (b : ℕ) (k l m : Keyword) (o p q r s : Option Keyword) → slice_get w 0 ≡ Some b → ((v : Lexeme) → is_in (b ∷ v) reserved ≡ (same (b ∷ v) (spelled k) || (same (b ∷ v) (spelled l) || (same (b ∷ v) (spelled m) || false)))) →
    MatchOption o (same w (spelled k) ≡ false) (λ k. w ≡ spelled k) → MatchOption p (same w (spelled l) ≡ false) (λ k. w ≡ spelled k) → MatchOption q (same w (spelled m) ≡ false) (λ k. w ≡ spelled k) → r ≡ option_or p q → s ≡ option_or o r →
    MatchOption s (is_in w reserved ≡ false) (λ k. w ≡ spelled k)
three w b k l m o p q r s e all h i j inner outer =
    subst (Is w (is_in w reserved)) (sym outer) (begun w b (λ u. same u (spelled k) || (same u (spelled l) || (same u (spelled m) || false))) (option_or o r) e all (either w (same w (spelled k)) (same w (spelled l) || (same w (spelled m) || false)) o r h
    (subst (Is w (same w (spelled l) || (same w (spelled m) || false))) (sym inner) (either w (same w (spelled l)) (same w (spelled m) || false) p q i (last w (same w (spelled m)) q j)))))
