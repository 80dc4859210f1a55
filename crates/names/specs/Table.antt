-- What a table of names holds: in each bucket the place of a name and one more, or 0.
use Rattle.std.specs.Prelude.{◌≡◌, ℕ, ◌+◌, ◌<◌, List, [], ◌∷◌, length, ◌==◌, ◌≢◌, slice_index, slice_index_or}
use Rattle.language.specs.Base.{Lexeme, choose}
use Rattle.lexer.specs.declared.name.Name.{Name}
use Rattle.lexer.specs.Spelling.{lexeme_at, spelling}
use Rattle.names.specs.Hash.{home, walk}
use Rattle.names.specs.declared.spot.Spot.{Spot}
use Rattle.names.specs.declared.spot.Spot.TheVariants.{Taken, Free}

abbrev pub Holds : List ℕ → ℕ → ℕ → Type 0
Holds table i p = slice_index table i ≡ p + 1

abbrev pub Has : List ℕ → ℕ → Type 0
Has table p = (i : ℕ) × Holds table i p

-- a bucket that is come to over taken ones
abbrev pub Reached : ℕ → List ℕ → ℕ → ℕ → Type 0
Reached buckets table start i = (d : ℕ) × (walk buckets start d ≡ i) × ((e : ℕ) → e < d → slice_index table (walk buckets start e) ≢ 0)

-- each name is found from its own bucket on, and no two names of the table are spelled the same
pub record Sound (text table : List ℕ) : Type 0 where
  pub reached : (i p : ℕ) → Holds table i p → Reached (length table) table (home (length table) (lexeme_at text p)) i
  pub apart : (p q : ℕ) → Has table p → Has table q → lexeme_at text p ≡ lexeme_at text q → p ≡ q

abbrev pub IsFull : List ℕ → Type 0
IsFull table = (i : ℕ) → i < length table → slice_index table i ≢ 0

-- how many buckets are taken
abbrev pub used : List ℕ → ℕ
used [] = 0
used (word ∷ words) = choose (word == 0) 0 1 + used words

-- a free bucket for a spelling that no name of the table has
pub record Room (text table : List ℕ) (w : Lexeme) (i : ℕ) : Type 0 where
  pub within : i < length table
  pub free : slice_index_or table i 0 ≡ 0
  pub reached : Reached (length table) table (home (length table) w) i
  pub absent : Sound text table → (p : ℕ) → Has table p → lexeme_at text p ≢ w

abbrev pub Stopped : List ℕ → List ℕ → Name → Spot → Type 0
Stopped text table name (Taken x) = Has table x.0 × (spelling text x ≡ spelling text name)
Stopped text table name (Free i) = Room text table (spelling text name) i
