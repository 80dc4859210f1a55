use Rattle.std.proofs.Common.{◌≡◌, ◌+◌, [], length, ap, ◌∙◌, arith}
use Rattle.scope.specs.Loans.{loan_at}
use Rattle.checker.specs.Stands.{with_loans}
use Rattle.checker.proofs.Entering.{copied_on}
use Rattle.checker.proofs.copy.copy_loans.Goals as goal

pub arg_at-entry-requires : goal.arg_at-entry-requires
arg_at-entry-requires c = let e : length c.loop-i.words.args.now ≡ length c.args.words.now.args.now = ap (λ w. length w.args) (c.loop-i.invariant.3 [] []) in omega arith

pub loop-i-preserved : goal.loop-i-preserved
loop-i-preserved c = (
  (λ text. copied_on text c.loop-i.words.loans.now c.put_loan.new.words.loans.now c.args.words.now.args.now c.args.to c.args.base c.loop-i.i c.arg_at-entry.result (c.put_loan.ensures.below text c.args.to c.loop-i.i (omega arith)) c.put_loan.ensures.this (c.arg_at-entry.ensures ∙ ap (λ w. loan_at w.args (c.args.base + c.loop-i.i)) (c.loop-i.invariant.3 [] [])) (c.loop-i.invariant.0 text)),
  (λ text from n h. c.put_loan.ensures.below text from n (omega arith) ∙ c.loop-i.invariant.1 text from n h),
  c.put_loan.ensures.long ∙ c.loop-i.invariant.2,
  (λ text code. c.put_loan.ensures.kept text code ∙ ap (λ w. with_loans w c.put_loan.new.words.loans.now) (c.loop-i.invariant.3 text code)),
)
