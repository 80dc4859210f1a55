use Rattle.soundness.proofs.more_fuel.Goals as goal
use Rattle.soundness.proofs.fuel.More.{more_fuel}

pub returns : goal.returns
returns c = more_fuel
