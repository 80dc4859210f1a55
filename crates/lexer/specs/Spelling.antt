-- The spelling of a name: the longest run of word bytes from where it starts.
use Rattle.std.specs.Prelude.{ℕ, List, [], ◌∷◌, drop}
use Rattle.language.specs.Base.{Lexeme, choose}
use Rattle.language.specs.Text.{is_word_byte}
use Rattle.lexer.specs.declared.name.Name.{Name}

abbrev pub word_run : List ℕ → Lexeme
word_run [] = []
word_run (byte ∷ bytes) = choose (is_word_byte byte) (byte ∷ word_run bytes) []

abbrev pub lexeme_at : List ℕ → ℕ → Lexeme
lexeme_at text place = word_run (drop place text)

abbrev pub spelling : List ℕ → Name → Lexeme
spelling text name = lexeme_at text name.0
