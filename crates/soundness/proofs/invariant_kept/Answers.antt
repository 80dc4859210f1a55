use Rattle.soundness.proofs.invariant_kept.Goals as goal
use Rattle.soundness.proofs.Theorems.{preserved}

pub returns : goal.returns
returns c = preserved
