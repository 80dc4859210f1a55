-- Places of a text, and what lies between two of them.
use Rattle.std.specs.Prelude.{ℕ, ◌-◌, Bool, ◌||◌, List, take, drop, ◌==◌}
use Rattle.language.specs.Base.{Lexeme}
use Rattle.language.specs.Text.{idle, tokenize, is_blank}

-- the lexemes from a place on
abbrev pub from_place : List ℕ → ℕ → List Lexeme
from_place text i = tokenize idle (drop i text)

-- the part from place i up to place j
abbrev pub part : List ℕ → ℕ → ℕ → Lexeme
part text i j = take (j - i) (drop i text)

-- a byte with which no lexeme begins
abbrev pub skipped : ℕ → Bool
skipped byte = is_blank byte || byte == 35
