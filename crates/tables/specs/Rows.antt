-- What the words of a table's rows stand for.
use Rattle.std.specs.Prelude.{ℕ, zero, suc, ◌+◌, ◌*◌, List, slice_index}
use Rattle.tables.specs.declared.rows.Declared.{Declared}
use Rattle.tables.specs.declared.rows.Parameter.{Parameter}

abbrev pub declared_row : List ℕ → ℕ → Declared
declared_row ws k = record { name = record { 0 = slice_index ws (4 * k) }; at = slice_index ws (4 * k + 1); parts = record { first = slice_index ws (4 * k + 2); end = slice_index ws (4 * k + 3) } }

abbrev pub param_row : List ℕ → ℕ → Parameter
param_row ws k = record { name = record { 0 = slice_index ws (2 * k) }; at = slice_index ws (2 * k + 1) }

-- where the parts of the rows before the k-th end
abbrev pub end_before : List ℕ → ℕ → ℕ
end_before ws zero = 0
end_before ws (suc k) = (declared_row ws k).parts.end
