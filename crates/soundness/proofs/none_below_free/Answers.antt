use Rattle.soundness.proofs.none_below_free.Goals as goal
use Rattle.soundness.proofs.frames.References.{none_below_free}

pub returns : goal.returns
returns c = none_below_free
