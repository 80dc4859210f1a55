-- The token ahead of a lexer.
use Rattle.std.specs.Prelude.{ℕ, Bool, not, ◌&&◌, List, [], ◌∷◌, length, Some, None, Option, nat_le, slice_index}
use Rattle.language.specs.Base.{Lexeme}
use Rattle.lexer.specs.Places.{from_place, part, skipped}
use Rattle.lexer.specs.Tokens.{fits}
use Rattle.lexer.specs.declared.token.Token.{Token}

-- the lexemes from its start on
abbrev pub cut : List ℕ → ℕ → ℕ → Option Token → List Lexeme
cut text start end None = []
cut text start end (Some t) = part text start end ∷ from_place text end

-- what is known of it; without one the start is the end of the text
abbrev pub told : List ℕ → ℕ → ℕ → Option Token → Bool
told text start end None = nat_le (length text) start
told text start end (Some t) = not (skipped (slice_index text start)) && fits text t (part text start end)
