use Rattle.tables.proofs.sizes_right.Goals as goal
use Rattle.tables.proofs.SizesOk.{sizes_right}

pub returns : goal.returns
returns c = sizes_right
