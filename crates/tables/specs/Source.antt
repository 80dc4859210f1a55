-- The code in words that the tables' rows point at.
use Rattle.std.specs.Prelude.{ℕ, zero, suc, ◌+◌, ◌-◌, List, [], ◌∷◌, Some, None, Option}
use Rattle.language.specs.Base.{Lexeme}
use Rattle.code.specs.Instr as pure
use Rattle.code.specs.Means.{means}
use Rattle.code.specs.Words.{instr_at}
use Rattle.code.specs.declared.instr.Instr.{Instr}
use Rattle.types.specs.Types.{written}
use Rattle.tables.specs.Declares.{last_of, rows_of}
use Rattle.tables.specs.View.{Source}

-- of what a slot holds: in front of code; the function that it names as called when data is dropped; the rows that it adds
abbrev pub put_before : List ℕ → Option Instr → List pure.Instr → List pure.Instr
put_before text None is = is
put_before text (Some i) is = means text i ∷ is

abbrev pub last_in : List ℕ → Option Instr → Lexeme
last_in text None = []
last_in text (Some i) = last_of (means text i)

abbrev pub rows_held : Option Instr → ℕ
rows_held None = 0
rows_held (Some i) = rows_of i

-- the instructions in n slots from the k-th on
abbrev pub instrs_from : List ℕ → List ℕ → ℕ → ℕ → List pure.Instr
instrs_from text code k zero = []
instrs_from text code k (suc n) = put_before text (instr_at code k) (instrs_from text code (suc k) n)

-- code of n slots
abbrev pub source : List ℕ → List ℕ → ℕ → Source
source text code n = record { text = text; type_at = written text code; last_at = λ k. last_in text (instr_at code k); code_from = λ k. instrs_from text code k (n - k) }

-- the rows that n slots from the k-th on add
abbrev pub rows_in : List ℕ → ℕ → ℕ → ℕ
rows_in code k zero = 0
rows_in code k (suc n) = rows_held (instr_at code k) + rows_in code (suc k) n
