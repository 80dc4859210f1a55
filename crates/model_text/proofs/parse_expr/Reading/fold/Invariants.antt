use Rattle.std.proofs.Common.{vec_len}
use Rattle.model_text.proofs.parse_expr.Reading.fold.Given as goal

abbrev pub decreases-loop-open : goal.decreases-loop-open
decreases-loop-open l = vec_len l.self.pending
