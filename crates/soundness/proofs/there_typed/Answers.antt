use Rattle.soundness.proofs.there_typed.Goals as goal
use Rattle.soundness.proofs.frames.References.{there_typed}

pub returns : goal.returns
returns c = there_typed
