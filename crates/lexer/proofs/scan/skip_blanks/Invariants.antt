use Rattle.std.proofs.Common.{◌≡◌, ◌+◌, drop}
use Rattle.language.specs.Text.{tokenize}
use Rattle.lexer.specs.Places.{from_place}
use Rattle.lexer.proofs.Cut.{state}
use Rattle.lexer.proofs.scan.skip_blanks.Given as goal

abbrev pub invariant-loop-i : goal.invariant-loop-i
invariant-loop-i l = from_place l.text l.start ≡ tokenize (state l.comment) (drop (l.start + l.i) l.text)
