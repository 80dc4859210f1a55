use Rattle.std.proofs.Common.{List, ◌-◌, sym, ap, ◌∙◌, arith}
use Rattle.language.specs.Checks.{is_last, types_of_pars}
use Rattle.language.specs.Syntax.{Param}
use Rattle.tables.specs.Tables.{the_param, head_of, spelled}
use Rattle.tables.proofs.LastFn.{last_not}
use Rattle.tables.proofs.refs.FnRef.is_last.Goals as goal

pub returns-then-count-ne1 : goal.returns-then-count-ne1
returns-then-count-ne1 c =
    let t = c.args.self.tables in
    let w = spelled t c.args.of in
    let s = c.params-params.result in
    let r = (head_of c.args.self).ret in
    sym (ap (λ (ps : List Param). is_last w (types_of_pars ps) r) c.params-params.ensures.is ∙ last_not (the_param t) w r s.first (s.end - s.first) (λ q. let n = c.count.ensures in let k = c.if-count-ne1.true in absurd (omega arith)))
