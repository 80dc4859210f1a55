-- The table of sizes while it is made.
use Rattle.std.specs.Prelude.{◌≡◌, ℕ, zero, suc, ◌+◌, ◌<◌, ◌≤◌, Bool, true, false, List, ◌==◌, slice_index, slice_set}
use Rattle.std.proofs.Math.Option.{some, none}
use Rattle.language.specs.Base.{choose, if_some, Lexeme}
use Rattle.language.specs.Syntax.{dat}
use Rattle.language.specs.Checks.{size_of}
use Rattle.tables.specs.declared.tables.Tables.{Tables}
use Rattle.tables.specs.Sizes.{cap, data_by, round}
use Rattle.tables.specs.Tables.{datas_in, the_data}
use Rattle.tables.specs.Known.{sizes_in}

-- each size that is known is what a round says
abbrev pub Sound : Tables → List ℕ → Type 0
Sound t ws = (w : Lexeme) (m : ℕ) → sizes_in t ws w ≡ some m → round (datas_in t) (sizes_in t ws) w ≡ some m

-- how many sizes of n aren't known
abbrev pub unknowns : List ℕ → ℕ → ℕ
unknowns ws zero = 0
unknowns ws (suc n) = choose (slice_index ws n == 0) 1 0 + unknowns ws n

-- a size was put in, or it was known, or it can't be told yet
abbrev pub Settles : Tables → ℕ → List ℕ → List ℕ → Bool → Type 0
Settles t d ws vs true = (k : ℕ) × (vs ≡ slice_set ws d k) × (slice_index ws d ≡ 0) × (data_by (sizes_in t ws) (the_data t d) ≡ some k)
Settles t d ws vs false = (vs ≡ ws) × (slice_index ws d ≡ 0 → data_by (sizes_in t ws) (the_data t d) ≡ none)

-- the first n of those that aren't known can't be told
abbrev pub Stuck : Tables → List ℕ → ℕ → Type 0
Stuck t ws n = (k : ℕ) → k < n → slice_index ws k ≡ 0 → data_by (sizes_in t ws) (the_data t k) ≡ none

-- sizes were put in, or none can be
pub record Advances (t : Tables) (ws vs : List ℕ) (more : Bool) : Type 0 where
  pub sound : Sound t ws → Sound t vs
  pub fewer : unknowns vs t.done.datas + choose more 1 0 ≤ unknowns ws t.done.datas
  pub stuck : more ≡ false → Stuck t vs t.done.datas

-- each size is the definition's, as far as it isn't too large
abbrev pub Measured : Tables → List ℕ → Type 0
Measured t ws = (w : Lexeme) → sizes_in t ws w ≡ if_some (size_of (datas_in t) (dat w)) cap
