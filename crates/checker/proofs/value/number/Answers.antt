use Rattle.language.specs.Syntax.{int}
use Rattle.checker.specs.Stands.{lent}
use Rattle.checker.proofs.value.number.Goals as goal

pub returns : goal.returns
returns c = λ d p s n st. c.set_value.ensures.stands d (lent c.args.source.now c.args.words.now) s int (c.int.ensures.is _ _) st
