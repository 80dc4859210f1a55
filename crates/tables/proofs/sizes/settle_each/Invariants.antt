use Rattle.std.proofs.Common.{◌≡◌}
use Rattle.tables.proofs.Settle.{Settling}
use Rattle.tables.proofs.sizes.settle_each.Given as goal

abbrev pub invariant-loop-number : goal.invariant-loop-number
invariant-loop-number l = (l.number-end ≡ l.tables.done.datas) × Settling l.tables l.initial.sizes l.sizes l.number l.more
