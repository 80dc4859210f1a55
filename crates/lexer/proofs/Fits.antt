-- What a token says of its lexeme, as a test and as facts.
use Rattle.std.proofs.Common.{◌≡◌, ℕ, Bool, true, false, not, ◌||◌, List, sym, refl, ap, ◌∙◌, eq-eqb, eqb-true}
use mathlib.Core.Bool.{false≢true}
use mathlib.Core.Option.{Option, some, none}
use Rattle.std.proofs.lemmas.Bool.{and_from, and_parts, or_from, or_parts}
use Rattle.language.specs.Base.{Lexeme, same, is_in, present}
use Rattle.language.specs.Text.{reserved, is_lower, is_upper, is_number, value_of}
use Rattle.lexer.specs.Spelling.{spelling}
use Rattle.lexer.specs.Tokens.{spelled, drawn, signs, Stray, Means, has_value, fits}
use Rattle.lexer.specs.declared.token.Token.{Token}
use Rattle.lexer.specs.declared.token.Token.TheVariants.{Reserved, Mark, Lower, Upper, Number, BadNumber, Other}
use Rattle.lexer.proofs.Same.{same_is, same_refl}

same_of : (a b : Lexeme) → a ≡ b → same a b ≡ true
same_of a b e = ap (same a) (sym e) ∙ same_refl a

value_is : (o : Option ℕ) (n : ℕ) → has_value o n ≡ true → o ≡ some n
value_is none n e = absurd (false≢true e)
value_is (some m) n e = ap some (eqb-true m n e)

value_has : (o : Option ℕ) (n : ℕ) → o ≡ some n → has_value o n ≡ true
value_has o n e = ap (λ v. has_value v n) e ∙ eq-eqb n n refl

not_there : (o : Option ℕ) → not (present o) ≡ true → o ≡ none
not_there none e = refl
not_there (some n) e = absurd (false≢true e)

pub not_true : (b : Bool) → not b ≡ true → b ≡ false
not_true true e = absurd (false≢true e)
not_true false e = refl

stray : (w : Lexeme) → is_in w reserved || (is_in w signs || (is_lower w || (is_upper w || is_number w))) ≡ false → Stray w
stray w e =
    let a = or_parts (is_in w reserved) _ e in
    let b = or_parts (is_in w signs) _ a.1 in
    let c = or_parts (is_lower w) _ b.1 in
    let d = or_parts (is_upper w) _ c.1 in
    record { no_keyword = a.0; no_sign = b.0; no_lower = c.0; no_upper = d.0; no_number = d.1 }

pub meant : (text : List ℕ) (t : Token) (w : Lexeme) → fits text t w ≡ true → Means text t w
meant text (Reserved k) w e = same_is w (spelled k) e
meant text (Mark s) w e = same_is w (drawn s) e
meant text (Lower x) w e = let both = and_parts (is_lower w) (same (spelling text x) w) e in (both.0, same_is (spelling text x) w both.1)
meant text (Upper x) w e = let both = and_parts (is_upper w) (same (spelling text x) w) e in (both.0, same_is (spelling text x) w both.1)
meant text (Number n) w e = let both = and_parts (is_number w) (has_value (value_of w) n) e in (both.0, value_is (value_of w) n both.1)
meant text BadNumber w e = let both = and_parts (is_number w) (not (present (value_of w))) e in (both.0, not_there (value_of w) both.1)
meant text Other w e = stray w (not_true _ e)

pub fit : (text : List ℕ) (t : Token) (w : Lexeme) → Means text t w → fits text t w ≡ true
fit text (Reserved k) w m = same_of w (spelled k) m
fit text (Mark s) w m = same_of w (drawn s) m
fit text (Lower x) w m = and_from _ _ m.0 (same_of (spelling text x) w m.1)
fit text (Upper x) w m = and_from _ _ m.0 (same_of (spelling text x) w m.1)
fit text (Number n) w m = and_from _ _ m.0 (value_has (value_of w) n m.1)
fit text BadNumber w m = and_from _ _ m.0 (ap (λ o. not (present o)) m.1)
fit text Other w m = ap not (or_from _ _ m.no_keyword (or_from _ _ m.no_sign (or_from _ _ m.no_lower (or_from _ _ m.no_upper m.no_number))))
