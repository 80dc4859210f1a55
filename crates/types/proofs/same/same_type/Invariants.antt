use Rattle.std.proofs.Common.{◌≡◌}
use Rattle.language.specs.Checks.{same_ty}
use Rattle.types.specs.Types.{type_of, layers}
use Rattle.types.proofs.same.same_type.Given as goal

abbrev pub invariant-loop-inner_x : goal.invariant-loop-inner_x
invariant-loop-inner_x l = same_ty (type_of l.text l.code l.x) (type_of l.text l.code l.y) ≡ same_ty (type_of l.text l.code l.initial.x) (type_of l.text l.code l.initial.y)

abbrev pub decreases-loop-inner_x : goal.decreases-loop-inner_x
decreases-loop-inner_x l = layers (type_of l.text l.code l.x)
