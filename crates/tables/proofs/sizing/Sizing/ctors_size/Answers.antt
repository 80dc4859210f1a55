use Rattle.std.proofs.Common.{List, ◌+◌, ap, ◌∙◌}
use Rattle.language.specs.Base.{if_some}
use Rattle.language.specs.Syntax.{Ty}
use Rattle.tables.specs.Sizes.{fields_by, cap}
use Rattle.tables.specs.Known.{sizes_by}
use Rattle.tables.specs.Tables.{the_ctor}
use Rattle.tables.proofs.SizeSums.{max_is, top_from, top_more, top_none}
use Rattle.tables.proofs.sizing.Sizing.ctors_size.Goals as goal

pub returns-in_err-size : goal.returns-in_err-size
returns-in_err-size c =
    let s = sizes_by c.args.self in
    let e = ap (λ (ts : List Ty). if_some (fields_by s ts) cap) c.fields.ensures.is in
    rw c.from_residual.ensures (top_none s (the_ctor c.args.self.tables) c.loop-number.number _ c.loop-number.most _ c.loop-number-test.true (e ∙ c.in_err-size.ensures) c.loop-number.invariant.1)

pub loop-number-preserved : goal.loop-number-preserved
loop-number-preserved c =
    let s = sizes_by c.args.self in
    let f = the_ctor c.args.self.tables in
    let e = ap (λ (ts : List Ty). if_some (fields_by s ts) cap) c.fields.ensures.is in
    (c.loop-number.invariant.0, ap (top_from s f (c.loop-number.number + 1) c.args.ctors.end) (c.max-most.ensures ∙ max_is c.loop-number.most c.in_ok-size.size) ∙ top_more s f c.loop-number.number _ c.loop-number.most c.in_ok-size.size _ c.loop-number-test.true (e ∙ c.in_ok-size.ensures) c.loop-number.invariant.1)
