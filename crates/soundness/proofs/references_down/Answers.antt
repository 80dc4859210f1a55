use Rattle.soundness.proofs.references_down.Goals as goal
use Rattle.soundness.proofs.frames.References.{references_down}

pub returns : goal.returns
returns c = references_down
