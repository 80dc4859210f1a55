use Rattle.std.proofs.Common.{◌*◌, arith}
use Rattle.scope.proofs.SlotWords.{slots_same}
use Rattle.scope.proofs.names.VariableRecord.store.Goals as goal

pub returns-clause-below : goal.returns-clause-below
returns-clause-below c = λ text code es h top p. slots_same text code _ _ es h top (7 * c.args.number) (omega arith) c.write.ensures.below
