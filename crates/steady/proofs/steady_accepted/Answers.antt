use Rattle.steady.proofs.steady_accepted.Goals as goal
use Rattle.steady.proofs.Theorem.{steady_accepted}

pub returns : goal.returns
returns c = steady_accepted
