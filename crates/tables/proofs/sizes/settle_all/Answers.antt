use Rattle.tables.proofs.Settle.{fixed}
use Rattle.tables.proofs.sizes.settle_all.Goals as goal

pub loop-preserved : goal.loop-preserved
loop-preserved c = c.settle_each.ensures.sound c.loop.invariant

pub returns : goal.returns
returns c = fixed c.args.tables _ (c.settle_each.ensures.sound c.loop.invariant) (c.settle_each.ensures.stuck c.loop-test.false)
