use Rattle.soundness.proofs.reference_valid.Goals as goal
use Rattle.soundness.proofs.frames.References.{reference_valid}

pub returns : goal.returns
returns c = reference_valid
