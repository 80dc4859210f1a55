use Rattle.std.proofs.Common.{length}
use Rattle.lexer.specs.Left.{left}
use Rattle.interns.proofs.names_of.Given as goal

abbrev pub decreases-loop-token : goal.decreases-loop-token
decreases-loop-token l = length (left l.lexer)
