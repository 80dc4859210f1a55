use Rattle.std.proofs.Common.{refl}
use Rattle.checker.specs.Marks.{k_test}
use Rattle.checker.specs.Stands.{lent_in, is_test}
use Rattle.checker.proofs.Beginning.{names_high, log_high}
use Rattle.checker.proofs.control.begin_while.Goals as goal

pub returns : goal.returns
returns c = λ d text code p s st. c.begin.ensures d text code s (k_test s.names s.log) st (is_test (names_high d (lent_in text code c.args.words.now) c.args.at.now s st) (log_high d (lent_in text code c.args.words.now) c.args.at.now s st)) refl refl refl st.gaps
