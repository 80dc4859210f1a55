use Rattle.soundness.proofs.never_wrong.Goals as goal
use Rattle.soundness.proofs.Theorems.{never_wrong}

pub returns : goal.returns
returns c = never_wrong
