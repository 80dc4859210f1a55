use Rattle.tables.specs.Settled.{Sound, unknowns}
use Rattle.tables.proofs.sizes.settle_all.Given as goal

abbrev pub invariant-loop : goal.invariant-loop
invariant-loop l = Sound l.tables l.sizes

abbrev pub decreases-loop : goal.decreases-loop
decreases-loop l = unknowns l.sizes l.tables.done.datas
