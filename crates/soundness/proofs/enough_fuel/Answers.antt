use Rattle.soundness.proofs.enough_fuel.Goals as goal
use Rattle.soundness.proofs.fuel.Enough.{enough_fuel}

pub returns : goal.returns
returns c = enough_fuel
