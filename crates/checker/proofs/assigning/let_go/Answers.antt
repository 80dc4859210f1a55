use Rattle.std.proofs.Common.{[]}
use mathlib.Core.Option.{some}
use Rattle.language.specs.Syntax.{int}
use Rattle.lexer.specs.Spelling.{spelling}
use Rattle.checker.specs.Marks.{rest, scope}
use Rattle.checker.specs.Machine.{free2}
use Rattle.checker.specs.Stands.{lent}
use Rattle.checker.proofs.Outcomes.{only_left}
use Rattle.checker.proofs.assigning.let_go.Goals as goal

pub returns : goal.returns
returns c = λ d s st. only_left d (lent c.args.source.now c.args.words.now) c.set_value.new.at (free2 [] (scope s) (spelling c.args.source.now.text.now c.args.name)) (some (rest s.names s.log s.frames)) (c.in_ok-free_by_names.ensures d s st) (c.set_value.ensures.stands d (lent c.args.source.now c.args.words.now) s int (c.int.ensures.is _ _) st)
