use Rattle.tables.specs.Lent.{words_of, SameLengths}
use Rattle.tables.proofs.CollectLoop.{Noting}
use Rattle.tables.proofs.collecting.note_all.Given as goal

abbrev pub invariant-loop-i : goal.invariant-loop-i
invariant-loop-i l = Noting l.code l.size l.i (words_of l.room) l.done × SameLengths (words_of l.initial.room) (words_of l.room)
