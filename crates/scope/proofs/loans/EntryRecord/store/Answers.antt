use Rattle.std.proofs.Common.{◌*◌, arith}
use Rattle.scope.proofs.LoanWords.{slice_same}
use Rattle.scope.proofs.loans.EntryRecord.store.Goals as goal

pub returns-clause-below : goal.returns-clause-below
returns-clause-below c = λ text from n h. slice_same text _ _ from n (2 * c.args.number) (omega arith) c.write.ensures.below
