-- What the fields of a lexer say of the lexemes that are left.
use Rattle.std.proofs.Common.{◌≡◌, ℕ, ◌-◌, ◌≤◌, take, drop, true, false, not, List, ◌∷◌, length, get_or, Some, None, Option as Maybe, sym, ap, ◌∙◌, subst, arith}
use Rattle.std.proofs.lemmas.Bool.{and_from, and_parts, leb-true}
use Rattle.language.specs.Text.{peek, skip_one}
use Rattle.lexer.specs.Places.{from_place, part, skipped}
use Rattle.lexer.specs.Tokens.{Means, fits}
use Rattle.lexer.specs.Ahead.{cut, told}
use Rattle.lexer.specs.Left.{Next}
use Rattle.lexer.specs.declared.token.Token.{Token}
use Rattle.lexer.proofs.Cut.{none_left}
use Rattle.lexer.proofs.Fits.{meant, fit}

none_of : (a b : ℕ) → a ≤ b → a - b ≡ 0
none_of a b h = omega arith

pub ahead : (text : List ℕ) (start end : ℕ) (token : Maybe Token) → from_place text start ≡ cut text start end token → told text start end token ≡ true → Next text token (from_place text start)
ahead text start end None cuts tells = cuts
ahead text start end (Some t) cuts tells =
    let both = and_parts (not (skipped (get_or text start 0))) (fits text t (part text start end)) tells in
    (cuts ∙ sym (ap (λ ws. peek ws ∷ skip_one ws) cuts), subst (λ ws. Means text t (peek ws)) (sym cuts) (meant text t (part text start end) both.1))

pub behind : (text : List ℕ) (start end : ℕ) (token : Maybe Token) → start ≤ end → from_place text start ≡ cut text start end token → told text start end token ≡ true → from_place text end ≡ skip_one (from_place text start)
behind text start end None before cuts tells = none_left text end (omega (arith, leb-true (length text) start tells)) false ∙ sym (ap skip_one cuts)
behind text start end (Some t) before cuts tells = sym (ap skip_one cuts)

pub told_some : (text : List ℕ) (start end : ℕ) (t : Token) → skipped (get_or text start 0) ≡ false → Means text t (part text start end) → told text start end (Some t) ≡ true
told_some text start end t begins means = and_from _ _ (ap not begins) (fit text t (part text start end) means)

-- the part between start and end is the lexeme ahead: none at the end of the text
pub lexeme_ahead : (text : List ℕ) (start end : ℕ) (token : Maybe Token) → end ≤ length text → from_place text start ≡ cut text start end token → told text start end token ≡ true → part text start end ≡ peek (from_place text start)
lexeme_ahead text start end None within cuts tells = ap (λ n. take n (drop start text)) (none_of end start (omega (arith, leb-true (length text) start tells))) ∙ sym (ap peek cuts)
lexeme_ahead text start end (Some t) within cuts tells = sym (ap peek cuts)
