-- What collecting the code's declarations makes of the tables' words.
use Rattle.std.specs.Prelude.{◌≡◌, ℕ, ◌≤◌, List}
use Rattle.tables.specs.declared.progress.Progress.{Progress}
use Rattle.tables.specs.View.{Words, tables_in, Within}
use Rattle.tables.specs.Declares.{used}
use Rattle.code.specs.Words.{code_in}
use Rattle.tables.specs.Source.{source, rows_in}
use Rattle.tables.specs.Collect.{tables_of}

pub record Collected (code : List ℕ) (size : ℕ) (w : Words) (p : Progress) : Type 0 where
  pub tables : (text : List ℕ) → tables_in (source text code size) w p size ≡ tables_of (code_in text code size)
  pub within : Within w p size
  pub rows : used p ≤ rows_in code 0 size
  pub fields : p.fields.end ≤ size
