use Rattle.std.proofs.Common.{arith}
use Rattle.std.proofs.lemmas.Grind.{common_steps}
use Rattle.names.proofs.Hashes.{hash_fold}
use Rattle.names.proofs.hash.hash_of.Goals as goal

pub returns : goal.returns
returns c = rw hash_fold (grind (arith, common_steps))
