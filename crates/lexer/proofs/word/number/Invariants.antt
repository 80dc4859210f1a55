use Rattle.std.proofs.Common.{◌≡◌, ◌^◌, ◌<◌, drop}
use Rattle.language.specs.Text.{decimal}
use Rattle.lexer.proofs.word.number.Given as goal

abbrev pub invariant-loop-b : goal.invariant-loop-b
invariant-loop-b l = (l.n < 2 ^ 64) × (decimal 0 l.lexeme ≡ decimal l.n (drop l.b-index l.lexeme))
