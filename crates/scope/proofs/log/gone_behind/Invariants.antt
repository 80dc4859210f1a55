use Rattle.std.proofs.Common.{◌≡◌, drop}
use Rattle.scope.specs.Log.{behind, ways}
use Rattle.scope.proofs.log.gone_behind.Given as goal

abbrev pub invariant-loop-end : goal.invariant-loop-end
invariant-loop-end l = behind (ways l.log l.start (drop l.end-index l.ends)) l.place.0 l.was ≡ behind (ways l.log l.from l.ends) l.place.0 l.was
