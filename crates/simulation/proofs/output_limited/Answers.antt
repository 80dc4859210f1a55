use Rattle.simulation.proofs.output_limited.Goals as goal
use Rattle.simulation.proofs.Outputs.{output_limited}

pub returns : goal.returns
returns c = output_limited
