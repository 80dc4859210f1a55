use Rattle.std.proofs.Common.{◌≡◌, drop}
use Rattle.language.specs.Text.{peek}
use Rattle.reader.specs.Steps.{operator_of}
use Rattle.reader.specs.Tokens.{text_of, tokens}
use Rattle.reader.proofs.expr.operator.Given as goal

abbrev pub invariant-loop-sign : goal.invariant-loop-sign
invariant-loop-sign l =
    (tokens l.c ≡ tokens l.initial.c) × (text_of l.c ≡ text_of l.initial.c)
    × (operator_of (drop l.sign-index l.signs) (peek (tokens l.initial.c)) ≡ operator_of l.signs (peek (tokens l.initial.c)))
