use Rattle.std.proofs.Common.{◌≡◌, ◌≤◌}
use Rattle.scope.specs.Log.{find, lives}
use Rattle.scope.proofs.log.is_gone.Given as goal

abbrev pub invariant-loop-g : goal.invariant-loop-g
invariant-loop-g l = (l.t ≤ l.top) × (find (lives l.log l.gaps l.g l.t) l.place.0 ≡ find (lives l.log l.gaps l.count l.top) l.place.0)
