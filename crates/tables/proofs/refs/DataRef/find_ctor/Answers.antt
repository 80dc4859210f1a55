use Rattle.std.proofs.Common.{List, refl, ap, ◌∙◌}
use Rattle.language.specs.Checks.{ctor_named}
use Rattle.language.specs.Syntax.{Ctor}
use Rattle.tables.specs.Tables.{the_ctor, spelled}
use Rattle.tables.proofs.Look.{ctor_is}
use Rattle.tables.proofs.refs.DataRef.find_ctor.Goals as goal

pub returns-in_err-number : goal.returns-in_err-number
returns-in_err-number c =
    let w = spelled c.args.self.tables c.args.name in
    rw c.from_residual.ensures (ap (λ (ks : List Ctor). ctor_named ks w) c.ctors.ensures.is ∙ ctor_is (the_ctor c.args.self.tables) w c.ctors.result _ c.in_err-number.ensures.is)

pub returns : goal.returns
returns c =
    let w = spelled c.args.self.tables c.args.name in
    (ap (λ (ks : List Ctor). ctor_named ks w) c.ctors.ensures.is ∙ ctor_is (the_ctor c.args.self.tables) w c.ctors.result _ c.in_ok-number.ensures.is, refl)
