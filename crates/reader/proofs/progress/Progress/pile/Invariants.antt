use Rattle.std.proofs.Common.{drop}
use Rattle.reader.specs.Machine.{Piled}
use Rattle.reader.proofs.progress.Progress.pile.Given as goal

abbrev pub invariant-loop-i : goal.invariant-loop-i
invariant-loop-i l = Piled (drop l.i l.symbols) l.initial.words l.initial.self l.words l.self
