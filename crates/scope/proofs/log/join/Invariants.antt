use Rattle.std.proofs.Common.{◌≡◌, ℕ, ◌-◌, ◌*◌, ◌<◌, ◌≤◌, get_or}
use Rattle.scope.specs.Log.{part, lives, gone_in, rewrite, ways}
use Rattle.scope.proofs.log.join.Given as goal

abbrev pub invariant-loop-i : goal.invariant-loop-i
invariant-loop-i l = ((j : ℕ) → j < 2 * l.from → get_or l.log j 0 ≡ get_or l.initial.log j 0)
    × ((j : ℕ) → 2 * l.i ≤ j → get_or l.log j 0 ≡ get_or l.initial.log j 0)
    × ((k : ℕ) → gone_in (ways l.log l.from l.ends) (lives l.initial.log l.gaps l.count l.from) k ≡ gone_in (ways l.initial.log l.from l.ends) (lives l.initial.log l.gaps l.count l.from) k)
    × (part l.log l.from (l.i - l.from) ≡ rewrite (part l.initial.log l.from (l.i - l.from)) (ways l.initial.log l.from l.ends) (lives l.initial.log l.gaps l.count l.from))
