-- Rows that point into other tables, and into the code.
use Rattle.std.specs.Prelude.{◌≡◌, ℕ, ◌<◌, ◌≤◌, List, slice_index}
use Rattle.tables.specs.Rows.{declared_row, param_row, end_before}

-- the parts of the first n rows stand before m
abbrev pub Parts : List ℕ → ℕ → ℕ → Type 0
Parts ws n m = (k : ℕ) → k < n → (declared_row ws k).parts.end ≤ m

-- the instructions of the first n rows stand before m
abbrev pub Places : List ℕ → ℕ → ℕ → Type 0
Places ws n m = (k : ℕ) → k < n → (declared_row ws k).at < m

abbrev pub FieldPlaces : List ℕ → ℕ → ℕ → Type 0
FieldPlaces ws n m = (k : ℕ) → k < n → slice_index ws k < m

abbrev pub ParamPlaces : List ℕ → ℕ → ℕ → Type 0
ParamPlaces ws n m = (k : ℕ) → k < n → (param_row ws k).at < m

-- the parts of the first n rows stand one behind the other, and end at m
abbrev pub Joined : List ℕ → ℕ → Type 0
Joined ws n = (k : ℕ) → k < n → (declared_row ws k).parts.first ≡ end_before ws k

abbrev pub Ordered : List ℕ → ℕ → Type 0
Ordered ws n = (k : ℕ) → k < n → (declared_row ws k).parts.first ≤ (declared_row ws k).parts.end

abbrev pub EndsAt : List ℕ → ℕ → ℕ → Type 0
EndsAt ws n m = m ≡ end_before ws n
