use Rattle.std.proofs.Common.{◌≡◌, ◌-◌}
use Rattle.scope.specs.Log.{said, part}
use Rattle.scope.proofs.log.said.Given as goal

abbrev pub invariant-loop-t : goal.invariant-loop-t
invariant-loop-t l = said (part l.log l.from (l.t - l.from)) l.place.0 ≡ said (part l.log l.from (l.to - l.from)) l.place.0
