use Rattle.std.proofs.Common.{◌-◌, ap, ◌∙◌, arith}
use Rattle.language.specs.Base.{some_of}
use Rattle.lexer.specs.Spelling.{spelling}
use Rattle.scope.specs.Loans.{asks, leaves}
use Rattle.checker.specs.Held.{held_in}
use Rattle.checker.proofs.Decoded.{held_yes, held_no}
use Rattle.checker.proofs.ask.is_held.Goals as goal

pub returns-then-is_lent : goal.returns-then-is_lent
returns-then-is_lent c = held_yes (asks c.args.asked (spelling c.args.text.now c.args.name)) c.args.text.now c.args.args.now c.args.frames.now c.loop-n.n c.loop-n.top c.in-Call.call _ _ c.loop-n-test.true c.in-Call.ensures c.is_lent.ensures c.if-is_lent.true c.loop-n.invariant.1

pub loop-n-preserved : goal.loop-n-preserved
loop-n-preserved c = (omega arith, ap (λ t. some_of (asks c.args.asked (spelling c.args.text.now c.args.name)) (leaves (held_in c.args.text.now c.args.args.now c.args.frames.now (c.loop-n.n - 1) t))) c.min-top.ensures ∙ held_no (asks c.args.asked (spelling c.args.text.now c.args.name)) c.args.text.now c.args.args.now c.args.frames.now c.loop-n.n c.loop-n.top c.in-Call.call _ _ c.loop-n-test.true c.in-Call.ensures c.is_lent.ensures c.if-is_lent.false c.loop-n.invariant.1)
