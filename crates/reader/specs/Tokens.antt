-- What a cursor has still to read, and what a step has made of it.
use Rattle.std.specs.Prelude.{◌≡◌, ℕ, List, Result}
use Rattle.language.specs.Base.{Lexeme}
use Rattle.lexer.specs.Left as lexer
use Rattle.reader.specs.declared.action.Action.{Action}
use Rattle.reader.specs.declared.cursor.Cursor.{Cursor}
use Rattle.reader.specs.declared.error.Expected.{Expected}
use Rattle.reader.specs.Steps.{answered}
use Rattle.reader.specs.Symbol as spec

abbrev pub text_of : Cursor → List ℕ
text_of c = lexer.text_of c.lexer

unfoldable pub tokens : Cursor → List Lexeme
tokens c = lexer.left c.lexer

-- so much was read of a cursor's lexemes, and its text is the same
abbrev pub Reads : Cursor → Cursor → (List Lexeme → List Lexeme → Type 0) → Type 0
Reads before after how = how (tokens before) (tokens after) × (text_of after ≡ text_of before)

-- the answer of a step, with the lexemes that it leaves, is what the definition of the step says of those before it
abbrev pub Does : Cursor → Cursor → Result Action Expected → (List Lexeme → spec.Action) → Type 0
Does before after r says = Reads before after (λ ts left. answered (text_of before) r left ≡ says ts)
