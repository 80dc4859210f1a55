-- Bytes are cut into tokens: a longest run of letters, digits and _ is one token; so is ==; so is each other byte that is no blank.
-- A # and what stands behind it up to the next line feed is a note, and no token.
use Rattle.std.specs.Prelude.{Bool, ◌&&◌, ◌||◌, List, [], ◌∷◌, ◌++◌, ℕ, eqb, leb}
use Rattle.language.specs.Base.{choose, Lexeme}

-- a letter, a digit or _
abbrev pub is_word_byte : ℕ → Bool
is_word_byte byte =
    (leb 97 byte && leb byte 122)
    || ((leb 65 byte && leb byte 90)
    || (eqb byte 95
    || (leb 48 byte && leb byte 57)))

-- a blank, a line feed, a return or a tab
abbrev pub is_blank : ℕ → Bool
is_blank byte = eqb byte 32 || (eqb byte 10 || (eqb byte 13 || eqb byte 9))

-- where the lexer stands: between tokens; inside a word, with what it has of it; behind a =; inside a note
pub data Lexing : Type 0 where
  idle : Lexing
  collecting : Lexeme → Lexing
  after_equals : Lexing
  skipping : Lexing

-- what one byte does: the tokens that it ends, and where the lexer then stands
pub record Lexed : Type 0 where
  pub given : List Lexeme
  pub then_in : Lexing

abbrev pub moved : List Lexeme → Lexing → Lexed
moved tokens state = record { given = tokens; then_in = state }

-- a byte that doesn't go on with a token: the tokens in front of it are given
abbrev pub starts : List Lexeme → ℕ → Lexed
starts tokens byte =
    choose (is_blank byte) (moved tokens idle)
    (choose (eqb byte 35) (moved tokens skipping)
    (choose (is_word_byte byte) (moved tokens (collecting (byte ∷ [])))
    (choose (eqb byte 61) (moved tokens after_equals)
    (moved (tokens ++ ((byte ∷ []) ∷ [])) idle))))

abbrev pub reads_byte : Lexing → ℕ → Lexed
reads_byte idle byte = starts [] byte
reads_byte (collecting word) byte =
    choose (is_word_byte byte) (moved [] (collecting (word ++ (byte ∷ [])))) (starts (word ∷ []) byte)
reads_byte after_equals byte =
    choose (eqb byte 61) (moved ((61 ∷ byte ∷ []) ∷ []) idle) (starts ((61 ∷ []) ∷ []) byte)
reads_byte skipping byte = choose (eqb byte 10) (moved [] idle) (moved [] skipping)

-- what is still to be given at the end of the text
abbrev pub flushed : Lexing → List Lexeme
flushed idle = []
flushed (collecting word) = word ∷ []
flushed after_equals = (61 ∷ []) ∷ []
flushed skipping = []

abbrev pub tokenize : Lexing → List ℕ → List Lexeme
tokenize state [] = flushed state
tokenize state (byte ∷ bytes) = let lexed = reads_byte state byte in lexed.given ++ tokenize lexed.then_in bytes
