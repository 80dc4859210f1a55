use Rattle.soundness.proofs.rules_needed.Goals as goal
use Rattle.soundness.proofs.Counterexamples.{rules_needed}

pub returns : goal.returns
returns c = rules_needed
