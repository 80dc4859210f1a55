use Rattle.std.proofs.Common.{◌≡◌}
use Rattle.reader.specs.Tokens.{text_of, tokens}
use Rattle.reader.proofs.Turns.{Going, left_over}
use Rattle.reader.proofs.machine.run.Given as goal

abbrev pub invariant-loop-symbol : goal.invariant-loop-symbol
invariant-loop-symbol l = Going l.text l.words l.at (tokens l.cursor) × (text_of l.cursor ≡ l.text)

abbrev pub decreases-loop-symbol : goal.decreases-loop-symbol
decreases-loop-symbol l = left_over l.text l.words l.at (tokens l.cursor)
