-- What a lexer has still to give.
use Rattle.std.specs.Prelude.{◌≡◌, ℕ, ◌<◌, ◌≤◌, false, List, [], ◌∷◌, length, Some, None, Option, slice_index}
use Rattle.language.specs.Base.{Lexeme}
use Rattle.language.specs.Text.{peek, skip_one}
use Rattle.lexer.specs.Places.{from_place, skipped}
use Rattle.lexer.specs.Tokens.{Means}
use Rattle.lexer.specs.declared.token.Token.{Token}
use Rattle.lexer.specs.declared.lexer.Lexer.{Lexer}

abbrev pub text_of : Lexer → List ℕ
text_of l = l.text.now

-- the lexemes that are still to be read
abbrev pub left : Lexer → List Lexeme
left l = from_place l.text.now l.start

-- the token of the first lexeme, if there is one
abbrev pub Next : List ℕ → Option Token → List Lexeme → Type 0
Next text None ws = ws ≡ []
Next text (Some t) ws = (ws ≡ peek ws ∷ skip_one ws) × Means text t (peek ws)

-- a place where the first lexeme begins, or the end of the text
pub record Begins (text : List ℕ) (place : ℕ) (ws : List Lexeme) : Type 0 where
  pub within : place ≤ length text
  pub rest : from_place text place ≡ ws
  pub no_blank : place < length text → skipped (slice_index text place) ≡ false
