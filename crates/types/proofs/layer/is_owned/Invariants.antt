use Rattle.std.proofs.Common.{◌≡◌, ℕ, List, []}
use Rattle.language.specs.Checks.{owned}
use Rattle.types.specs.Types.{type_of, layers}
use Rattle.types.proofs.layer.is_owned.Given as goal

abbrev pub invariant-loop-inner : goal.invariant-loop-inner
invariant-loop-inner l = (text : List ℕ) → owned (type_of text l.code l.t) ≡ owned (type_of text l.code l.initial.t)

abbrev pub decreases-loop-inner : goal.decreases-loop-inner
decreases-loop-inner l = layers (type_of [] l.code l.t)
