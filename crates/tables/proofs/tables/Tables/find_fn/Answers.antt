use Rattle.std.proofs.Common.{refl}
use Rattle.tables.specs.Tables.{the_sig}
use Rattle.tables.proofs.Look.{sig_is}
use Rattle.tables.proofs.tables.Tables.find_fn.Goals as goal

pub returns-in_err-number : goal.returns-in_err-number
returns-in_err-number g c = rw c.from_residual.ensures (sig_is (the_sig c.args.self) (g.K.Key.spelled c.args.self.text.now c.args.key) _ _ _ c.up_to-rows.ensures c.in_err-number.ensures.is)

pub returns : goal.returns
returns g c = (sig_is (the_sig c.args.self) (g.K.Key.spelled c.args.self.text.now c.args.key) _ _ _ c.up_to-rows.ensures c.in_ok-number.ensures.is, refl)
