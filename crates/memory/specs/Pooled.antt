-- Pools of places by size: which are in use, which are free; what taking one and giving one back does.
use Rattle.std.specs.Prelude.{◌≡◌, ℕ, ◌+◌, ◌<◌, ◌≤◌, List, [], ◌∷◌, ◌++◌, length, slice_index}
use Rattle.memory.specs.Place.{Place, place, Disjoint, Under, total, of_size, but_first, first_or, Chain}

-- words, heads of the chains by size, the first word that was never in use: what's in use, and what's free
pub record Pooled (ws hs : List ℕ) (top : ℕ) (used free : List Place) : Type 0 where
  pub disjoint : Disjoint (used ++ free)
  pub under : Under top (used ++ free)
  pub filled : total used + total free ≡ top
  pub room : top ≤ length ws
  pub chains : (k : ℕ) → k < length hs → Chain ws (slice_index hs k) (of_size k free)

-- a place of size k was asked for: refused exactly if none of that size is free and there's no room for one more
pub record Got (ws hs : List ℕ) (top : ℕ) (k : ℕ) (hs' : List ℕ) (top' : ℕ) (used free : List Place) (a : ℕ) : Type 0 where
  pub which : a ≡ first_or top (of_size k free)
  pub fits : of_size k free ≡ [] → top + k ≤ length ws
  pub pooled : Pooled ws hs' top' (place a k ∷ used) (but_first k free)

pub record Refused (ws hs : List ℕ) (top : ℕ) (k : ℕ) (hs' : List ℕ) (top' : ℕ) (free : List Place) : Type 0 where
  pub none_free : of_size k free ≡ []
  pub no_room : length ws < top + k
  pub same_heads : hs' ≡ hs
  pub same_top : top' ≡ top
