use Rattle.scope.proofs.LogWords.{said_miss}
use Rattle.scope.proofs.log.said.Goals as goal

pub loop-t-preserved : goal.loop-t-preserved
loop-t-preserved c = said_miss c.args.log.now c.args.from c.loop-t.t c.args.place.0 c.load-entry.result _ c.loop-t-test.true c.load-entry.ensures c.if-eq.ensures c.loop-t.invariant
