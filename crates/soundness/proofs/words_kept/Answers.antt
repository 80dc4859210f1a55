use Rattle.soundness.proofs.words_kept.Goals as goal
use Rattle.soundness.proofs.numbers.Small.{words_kept}

pub returns : goal.returns
returns c = words_kept
