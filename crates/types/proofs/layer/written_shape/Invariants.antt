use Rattle.std.proofs.Common.{◌≡◌, ℕ, List}
use Rattle.types.specs.Types.{written}
use Rattle.types.proofs.layer.written_shape.Given as goal

abbrev pub invariant-loop-k : goal.invariant-loop-k
invariant-loop-k l = (text : List ℕ) → written text l.code l.k ≡ written text l.code l.slot
