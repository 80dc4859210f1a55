use Rattle.soundness.proofs.shown_small.Goals as goal
use Rattle.soundness.proofs.numbers.Small.{shown_small}

pub returns : goal.returns
returns c = shown_small
