-- Sizes of data in words: one for each data type, 0 while it isn't known.
use Rattle.std.specs.Prelude.{◌≡◌, ℕ, List, Some, None, Option, ◌==◌, slice_index}
use Rattle.std.proofs.Math.Option.{Option as Maybe, some, none}
use Rattle.language.specs.Base.{choose, if_some}
use Rattle.language.specs.Syntax.{Ty}
use Rattle.tables.specs.declared.sizing.Sizing.{Sizing}
use Rattle.tables.specs.declared.tables.Tables.{Tables}
use Rattle.tables.specs.View.{field_at}
use Rattle.tables.specs.Tables.{source_of, words_in, data_number}
use Rattle.tables.specs.Sizes.{Sizes}

-- an answer of the code's is that of a definition
abbrev pub Says : Maybe ℕ → Option ℕ → Type 0
Says o None = o ≡ none
Says o (Some n) = o ≡ some n

abbrev pub known : ℕ → Maybe ℕ
known n = choose (n == 0) none (some n)

-- the sizes that the words have, by the first data type of a name
abbrev pub sizes_in : Tables → List ℕ → Sizes
sizes_in t ws w = if_some (data_number t w) (λ k. known (slice_index ws k))

abbrev pub sizes_by : Sizing → Sizes
sizes_by z = sizes_in z.tables z.sizes.now

abbrev pub the_field : Tables → ℕ → Ty
the_field t = field_at (source_of t) (words_in t)
