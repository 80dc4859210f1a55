use Rattle.std.proofs.Common.{[], ap, ◌∙◌}
use mathlib.Core.Option.{some}
use Rattle.language.specs.Syntax.{int}
use Rattle.checker.specs.Marks.{scope, held2}
use Rattle.checker.specs.Machine.{val, readable2}
use Rattle.checker.specs.Stands.{lent}
use Rattle.checker.proofs.Outcomes.{only_left}
use Rattle.checker.proofs.value.copied.Goals as goal

pub returns : goal.returns
returns c = λ d s f e st. only_left d (lent c.args.source.now c.args.words.now) c.set_value.new.at (readable2 (held2 s.frames) (scope s) f.slot.name) (some (val s int [])) (ap (readable2 (held2 s.frames) (scope s)) e ∙ c.in_ok-readable.ensures d s st) (c.set_value.ensures.stands d (lent c.args.source.now c.args.words.now) s int (c.int.ensures.is _ _) st)
