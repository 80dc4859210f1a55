use Rattle.std.proofs.Common.{◌≡◌, ◌+◌, length}
use Rattle.language.specs.Text.{idle, tokenize}
use Rattle.lexer.specs.Left.{left}
use Rattle.lexes.specs.Counts.{total}
use Rattle.lexes.proofs.tally.tally_of.Given as goal

abbrev pub invariant-loop-token : goal.invariant-loop-token
invariant-loop-token l = total l.tally + length (left l.lexer) ≡ length (tokenize idle l.text)

abbrev pub decreases-loop-token : goal.decreases-loop-token
decreases-loop-token l = length (left l.lexer)
