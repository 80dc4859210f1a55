use Rattle.std.proofs.Common.{sym, refl, ap, ◌∙◌, arith}
use Rattle.language.specs.Base.{same}
use Rattle.tables.specs.declared.span.Span.{Span}
use Rattle.tables.specs.Tables.{the_data, spelled}
use Rattle.tables.proofs.Index.{from_zero}
use Rattle.tables.proofs.Look.{data_is}
use Rattle.tables.proofs.tables.Tables.find_data.Goals as goal

pub returns-in_err-number : goal.returns-in_err-number
returns-in_err-number c =
    let t = c.args.self in
    let w = spelled t c.args.name in
    let e = c.up_to-rows.ensures in
    let h = c.in_err-number.ensures.is in
    rw c.from_residual.ensures (record { is = data_is (the_data t) w _ _ _ e h; number = sym (from_zero (λ k. same (the_data t k).name w) t.done.datas _ e) ∙ h })

pub returns : goal.returns
returns c =
    let t = c.args.self in
    let w = spelled t c.args.name in
    let e = c.up_to-rows.ensures in
    let h = c.in_ok-number.ensures.is in
    let m = ap (λ (s : Span). s.end) e in
    let l = c.in_ok-number.ensures.within in
    (record { is = data_is (the_data t) w _ _ _ e h; number = sym (from_zero (λ k. same (the_data t k).name w) t.done.datas _ e) ∙ h; there = omega arith }, refl)
