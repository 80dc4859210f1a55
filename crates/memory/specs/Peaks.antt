-- The counts of boxes by size that the meaning keeps, and the places of a pool.
use Rattle.std.specs.Prelude.{◌≡◌, ℕ, ◌+◌, List, [], ◌∷◌, ◌++◌, length, ◌==◌}
use Rattle.language.specs.Base.{choose}
use Rattle.language.specs.Meaning.{Class, count_in, count_out, peaks}
use Rattle.memory.specs.Place.{Place, place, total, of_size, but_first}

-- boxes of a size: how many there are, were at most
abbrev pub now_of : List Class → ℕ → ℕ
now_of [] k = 0
now_of (x ∷ xs) k = choose (x.words == k) x.in_use (now_of xs k)

abbrev pub peak_of : List Class → ℕ → ℕ
peak_of [] k = 0
peak_of (x ∷ xs) k = choose (x.words == k) x.peak (peak_of xs k)

-- places of a size
abbrev pub many : ℕ → List Place → ℕ
many k ps = length (of_size k ps)

-- the places of the pools are the boxes that the meaning counts: those in use are there, all that ever were are the peaks
pub record Tied (cs : List Class) (used free : List Place) : Type 0 where
  pub nows : (k : ℕ) → now_of cs k ≡ many k used
  pub tops : (k : ℕ) → peak_of cs k ≡ many k used + many k free
  pub sum : peaks cs ≡ total used + total free

-- a place of size k is taken: the meaning refuses exactly if there's none free and no room
pub record StepIn (cs : List Class) (k : ℕ) (used free : List Place) : Type 0 where
  pub reused : (a : ℕ) (rest : List ℕ) → of_size k free ≡ a ∷ rest → peaks (count_in cs k) ≡ peaks cs
  pub grown : of_size k free ≡ [] → peaks (count_in cs k) ≡ (total used + total free) + k
  pub tied : (a : ℕ) → Tied (count_in cs k) (place a k ∷ used) (but_first k free)

-- taking a place keeps the two together, and a place is refused exactly where the peaks would be too much; so does giving one back
abbrev pub PoolsFollowPeaks : Type 0
PoolsFollowPeaks =
    ((cs : List Class) (k : ℕ) (used free : List Place) → Tied cs used free → StepIn cs k used free)
    × ((cs : List Class) (a k : ℕ) (one two free : List Place)
    → Tied cs (one ++ (place a k ∷ two)) free → Tied (count_out cs k) (one ++ two) (place a k ∷ free))
