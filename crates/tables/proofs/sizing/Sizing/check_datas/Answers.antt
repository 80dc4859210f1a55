use Rattle.std.proofs.Common.{◌≡◌, ℕ, ◌-◌, refl, ap, arith}
use Rattle.language.specs.Base.{each_of}
use Rattle.tables.specs.Index.{each_from}
use Rattle.tables.specs.Asked.{decl_at}
use Rattle.tables.proofs.EachOf.{all_no, all_on}
use Rattle.tables.proofs.Faults.{failed}
use Rattle.tables.proofs.sizing.Sizing.check_datas.Goals as goal

pub loop-number-init : goal.loop-number-init
loop-number-init c =
    let n = c.args.self.tables.done.datas in
    let e : n - 0 ≡ n = omega arith in
    (refl, ap (λ m. each_of (decl_at c.args.self.tables c.args.self.sizes.now) (each_from (λ k. k) 0 m)) e)

pub returns-in_err-check_data : goal.returns-in_err-check_data
returns-in_err-check_data c = rw (failed c.from_residual.result c.from_residual.ensures.0).1 (all_no (decl_at c.args.self.tables c.args.self.sizes.now) (λ (k : ℕ). k) c.loop-number.number _ _ c.loop-number-test.true c.in_err-check_data.ensures c.loop-number.invariant.1)

pub loop-number-preserved : goal.loop-number-preserved
loop-number-preserved c = (c.loop-number.invariant.0, all_on (decl_at c.args.self.tables c.args.self.sizes.now) (λ (k : ℕ). k) c.loop-number.number _ _ c.loop-number-test.true c.in_ok-check_data.ensures c.loop-number.invariant.1)
