use Rattle.std.proofs.Common.{rules}
use Rattle.reader.proofs.Piled.{one_more, performed}
use Rattle.reader.proofs.progress.Progress.pile.Goals as goal

pub loop-i-preserved : goal.loop-i-preserved
loop-i-preserved c =
    one_more _ c.args.symbols.now c.loop-i.i c.args.words.now c.args.self.now _ _ _ _ c.loop-i-test.true c.loop-i.auto.i
    c.loop-i.invariant c.push.ensures

pub returns-clause-performed : goal.returns-clause-performed
returns-clause-performed c =
    performed c.args.symbols.now c.args.words.now c.args.self.now c.loop-i.words c.loop-i.self (search rules)
