use Rattle.checker.proofs.BodyRight.{body_right}
use Rattle.checker.proofs.body_right.Goals as goal

pub returns : goal.returns
returns c = body_right
