-- All tokens of a tally.
use Rattle.std.specs.Prelude.{ℕ, ◌+◌}
use Rattle.lexes.specs.declared.tally.Tally.{Tally}

abbrev pub total : Tally → ℕ
total t = t.reserved + t.signs + t.lower + t.upper + t.numbers + t.other
