use Rattle.soundness.proofs.none_into_free.Goals as goal
use Rattle.soundness.proofs.frames.References.{none_into_free}

pub returns : goal.returns
returns c = none_into_free
