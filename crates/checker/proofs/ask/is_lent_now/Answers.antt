use Rattle.std.proofs.Common.{refl}
use Rattle.lexer.specs.Spelling.{spelling}
use Rattle.scope.specs.Loans.{asks}
use Rattle.checker.specs.Stands.{lent}
use Rattle.checker.proofs.Decoded.{lent_now}
use Rattle.checker.proofs.ask.is_lent_now.Goals as goal

pub returns-then-is_held : goal.returns-then-is_held
returns-then-is_held c = λ d s st. lent_now d (lent c.args.source.now c.args.words.now) c.args.at.now s st (asks c.args.asked (spelling c.args.source.now.text.now c.args.name)) _ _ _ c.if-is_held.true c.is_held.ensures refl

pub returns : goal.returns
returns c = λ d s st. lent_now d (lent c.args.source.now c.args.words.now) c.args.at.now s st (asks c.args.asked (spelling c.args.source.now.text.now c.args.name)) _ _ _ c.if-is_held.false c.is_held.ensures (c.is_lent_by_names.ensures d s st)
