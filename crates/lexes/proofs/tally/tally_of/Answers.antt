use Rattle.std.proofs.Common.{length, ap, arith}
use Rattle.lexer.proofs.Few.{few_words}
use Rattle.lexes.proofs.tally.tally_of.Goals as goal

pub count-requires : goal.count-requires
count-requires c = omega (arith, few_words c.args.text.now, c.loop-token.invariant, ap length c.in-Some.ensures.next.0)
