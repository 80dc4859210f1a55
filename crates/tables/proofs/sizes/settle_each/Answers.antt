use Rattle.std.proofs.Common.{◌≡◌, length, refl, arith}
use Rattle.tables.proofs.Settle.{settling_one}
use Rattle.tables.proofs.sizes.settle_each.Goals as goal

pub loop-number-preserved : goal.loop-number-preserved
loop-number-preserved c =
    let l : length c.loop-number.sizes ≡ length c.args.sizes.now = c.loop-number.auto.sizes in
    (refl, settling_one c.args.tables _ c.loop-number.sizes _ c.loop-number.number c.loop-number.more c.settle-more.result c.loop-number-test.true (omega arith) c.settle-more.ensures c.loop-number.invariant.1)
