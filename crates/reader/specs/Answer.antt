-- What a reading answers.
use Rattle.std.specs.Prelude.{ℕ, ◌<◌, ◌≤◌, List, length, Ok, Err, Result}
use Rattle.language.specs.Says.{least_words}
use Rattle.reader.specs.declared.reading.Code.{Code}
use Rattle.reader.specs.declared.error.ReadError.{ReadError}
use Rattle.reader.specs.declared.error.ReadError.TheVariants.{Little, NotText}
use Rattle.reader.specs.Machine.{Read, Refused}

-- Little exactly where fewer words are lent than the text may need; else the code of the program that the definition reads
-- in the words, or that it reads none
abbrev pub Answer : List ℕ → List ℕ → Result Code ReadError → Type 0
Answer text words (Ok code) = (least_words text ≤ length words) × Read text words code.count
Answer text words (Err Little) = length words < least_words text
Answer text words (Err (NotText e)) = (least_words text ≤ length words) × Refused text e
