-- Buckets that a search passes over, and where it stops.
use Rattle.std.specs.Prelude.{ℕ, ◌≡◌, ◌<◌, ◌≤◌, ◌≢◌, List, slice_index_or}
use Rattle.language.specs.Base.{Lexeme}
use Rattle.lexer.specs.declared.name.Name.{Name}
use Rattle.lexer.specs.Spelling.{lexeme_at, spelling}
use Rattle.names.specs.Table.{Holds, Has}
use Rattle.names.specs.declared.spot.Spot.{Spot}
use Rattle.names.specs.declared.spot.Spot.TheVariants.{Taken, Free}

-- a bucket that is taken by another spelling
pub record Passed (text table : List ℕ) (w : Lexeme) (i : ℕ) : Type 0 where
  pub taken : slice_index_or table i 0 ≢ 0
  pub other : (p : ℕ) → Holds table i p → lexeme_at text p ≢ w

abbrev pub PassedIn : List ℕ → List ℕ → Lexeme → ℕ → ℕ → Type 0
PassedIn text table w from to = (i : ℕ) → from ≤ i → i < to → Passed text table w i

-- a free bucket behind such
pub record FreeIn (text table : List ℕ) (w : Lexeme) (from to i : ℕ) : Type 0 where
  pub low : from ≤ i
  pub high : i < to
  pub free : slice_index_or table i 0 ≡ 0
  pub before : PassedIn text table w from i

abbrev pub StoppedIn : List ℕ → List ℕ → Name → ℕ → ℕ → Spot → Type 0
StoppedIn text table name from to (Taken x) = Has table x.0 × (spelling text x ≡ spelling text name)
StoppedIn text table name from to (Free i) = FreeIn text table (spelling text name) from to i
