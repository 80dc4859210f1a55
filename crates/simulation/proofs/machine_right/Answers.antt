use Rattle.simulation.proofs.machine_right.Goals as goal
use Rattle.simulation.proofs.Top.{run_words}

pub returns : goal.returns
returns c = run_words
