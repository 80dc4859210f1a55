use Rattle.soundness.proofs.shown_grows.Goals as goal
use Rattle.soundness.proofs.numbers.Grows.{shown_grows}

pub returns : goal.returns
returns c = shown_grows
