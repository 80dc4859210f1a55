-- Boxes by size, as the definitions count them.
use Rattle.std.specs.Prelude.{ℕ, List, [], ◌∷◌}
use Rattle.language.specs.Meaning as meaning
use Rattle.model_memory.specs.declared.pools.Class.{Class}

-- the boxes of a size, behind its words
abbrev pub class : ℕ × Class → meaning.Class
class (words, c) = record { words = words; in_use = c.in_use; peak = c.peak }

-- in the order of their words; the definitions have them in the order of first use, which no sum and no search sees
abbrev pub classes : List (ℕ × Class) → List meaning.Class
classes [] = []
classes (c ∷ cs) = class c ∷ classes cs
