use Rattle.memory.specs.Row.{heap_words, row, Moved, SamePools}
use Rattle.memory.proofs.row.move_words.Given as goal

abbrev pub invariant-loop-i : goal.invariant-loop-i
invariant-loop-i g l = SamePools l.initial.m l.m × Moved (row l.initial.m) (row l.m) (g.S.Source.from l.s (heap_words l.initial.m)) (g.T.Sink.to l.t (heap_words l.initial.m)) l.i
