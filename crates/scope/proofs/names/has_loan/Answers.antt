use Rattle.std.proofs.Common.{◌-◌, ap, ◌∙◌, arith}
use Rattle.language.specs.Base.{some_of}
use Rattle.lexer.specs.Spelling.{spelling}
use Rattle.scope.specs.Loans.{asks, leaves}
use Rattle.scope.specs.Slots.{slots_of, stack}
use Rattle.scope.proofs.SlotWords.{some_yes, some_no}
use Rattle.scope.proofs.names.has_loan.Goals as goal

pub returns-then-is_lent : goal.returns-then-is_lent
returns-then-is_lent c = λ code. some_yes (asks c.args.asked (spelling c.args.text.now c.args.name)) c.args.text.now code c.args.names.now c.args.loans.now c.loop-h.h c.loop-h.t _ _ _ c.loop-h-test.true (ap (λ v. v.loans) c.load-from.ensures) c.is_lent.ensures c.if-is_lent.true (c.loop-h.invariant.1 code)

pub loop-h-preserved : goal.loop-h-preserved
loop-h-preserved c = (omega arith, λ code. ap (λ t. some_of (asks c.args.asked (spelling c.args.text.now c.args.name)) (leaves (stack (slots_of c.args.text.now code c.args.names.now c.args.loans.now (c.loop-h.h - 1) t)))) c.min-t.ensures ∙ some_no (asks c.args.asked (spelling c.args.text.now c.args.name)) c.args.text.now code c.args.names.now c.args.loans.now c.loop-h.h c.loop-h.t _ _ _ c.loop-h-test.true (ap (λ v. v.loans) c.load-from.ensures) c.is_lent.ensures c.if-is_lent.false (c.loop-h.invariant.1 code))
