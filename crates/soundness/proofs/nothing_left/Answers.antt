use Rattle.soundness.proofs.nothing_left.Goals as goal
use Rattle.soundness.proofs.Theorems.{nothing_left}

pub returns : goal.returns
returns c = nothing_left
