-- What a pool promises, over what is in use and what is free.
use Rattle.std.specs.Prelude.{◌≡◌, ℕ, ◌+◌, ◌<◌, ◌≤◌, List, [], ◌∷◌, ◌++◌, Some, None, Option}
use Rattle.memory.specs.Place.{Place, place, total, of_size, but_first, first_or}
use Rattle.memory.specs.declared.pool.Address.{Address}

-- what's in use, and what's free
abbrev pub Holding : Type 1
Holding = List Place → List Place → Type 0

abbrev pub Any : Holding → Type 0
Any H = (used : List Place) × ((free : List Place) × H used free)

abbrev pub AnyUsed : Holding → Place → Type 0
AnyUsed H x = (one : List Place) × ((two : List Place) × ((free : List Place) × H (one ++ (x ∷ two)) free))

-- refused exactly if none of that size is free, and all places that ever were, with one more, are more than the words there are
abbrev pub Took : ℕ → Holding → ℕ → List Place → List Place → Option Address → Type 0
Took n H' k used free (Some a) = (a.0 ≡ first_or (total used + total free) (of_size k free)) × (of_size k free ≡ [] → (total used + total free) + k ≤ n) × H' (place a.0 k ∷ used) (but_first k free)
Took n H' k used free None = (of_size k free ≡ []) × (n < (total used + total free) + k) × H' used free

abbrev pub Takes : ℕ → Holding → Holding → ℕ → Option Address → Type 0
Takes n H H' k r = (used free : List Place) → H used free → Took n H' k used free r

abbrev pub Gives : Holding → Holding → Place → Type 0
Gives H H' x = (one two free : List Place) → H (one ++ (x ∷ two)) free → H' (one ++ two) (x ∷ free)

-- a word inside a place in use is written
abbrev pub Keeps : Holding → Holding → Place → Type 0
Keeps H H' x = (one two free : List Place) → H (one ++ (x ∷ two)) free → H' (one ++ (x ∷ two)) free
