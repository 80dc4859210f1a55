use Rattle.std.proofs.Common.{◌∙◌, sym, ap, arith}
use Rattle.std.specs.Result.{result_ok}
use Rattle.std.proofs.lemmas.Result.{err_from_is_err_and}
use Rattle.names.proofs.Used.{used_all}
use Rattle.names.proofs.Renames.{both_operands, still_instr, given}
use Rattle.names.proofs.interner.Interner.rename.Goals as goal

pub returns-in_err-first-clause-gives : goal.returns-in_err-first-clause-gives
returns-in_err-first-clause-gives c =
    let p = err_from_is_err_and c.from_residual.result c.from_residual.ensures.1 in
    rw p.1 (omega (arith, used_all c.args.self.now.table.now c.in_err-first.ensures.gives))

pub returns-in_err-second-clause-gives : goal.returns-in_err-second-clause-gives
returns-in_err-second-clause-gives c =
    let p = err_from_is_err_and c.from_residual-in_err-second.result c.from_residual-in_err-second.ensures.1 in
    rw p.1 (omega (arith, c.in_ok-first.ensures.counts, used_all c.operand.new.self.table.now c.in_err-second.ensures.gives))

pub unwrap-requires : goal.unwrap-requires
unwrap-requires c =
    still_instr c.args.self.now.text.now c.operand-2.new.self.table.now c.args.instr _ _ _ _ c.from-old.result c.from-old.ensures
    (both_operands _ c.operand.new.self.text.now c.operand.new.self.table.now _ _ _ _ c.in_ok-first.first c.in_ok-second.second c.is_first_named.ensures c.is_second_named.ensures c.in_ok-first.ensures.gives c.in_ok-first.ensures.text
    c.in_ok-second.ensures.grows c.in_ok-second.ensures.gives)
    c.try_from.result c.try_from.ensures

pub returns-clause-gives : goal.returns-clause-gives
returns-clause-gives c =
    given c.args.self.now.text.now c.operand-2.new.self.table.now c.args.instr _ _ _ _ c.from-old.result c.from-old.ensures
    (both_operands _ c.operand.new.self.text.now c.operand.new.self.table.now _ _ _ _ c.in_ok-first.first c.in_ok-second.second c.is_first_named.ensures c.is_second_named.ensures c.in_ok-first.ensures.gives c.in_ok-first.ensures.text
    c.in_ok-second.ensures.grows c.in_ok-second.ensures.gives)
    c.unwrap.result (ap result_ok (sym c.unwrap.ensures) ∙ c.try_from.ensures)
