use Rattle.std.proofs.Common.{List, sym, ap, ◌∙◌, leb, length, ◌&&◌, arith}
use Rattle.language.specs.Base.{each_of}
use Rattle.language.specs.Syntax.{Ty}
use Rattle.tables.specs.Known.{the_field}
use Rattle.tables.specs.Rest.{ok_field}
use Rattle.tables.specs.Tables.{datas_in}
use Rattle.tables.proofs.EachOf.{few_yes, few_no, not_few}
use Rattle.tables.proofs.tables.Tables.ctor_ok.Goals as goal

pub returns-then-count-le-MOST_FIELDS : goal.returns-then-count-le-MOST_FIELDS
returns-then-count-le-MOST_FIELDS c =
    let p = ok_field (datas_in c.args.self) in
    let n = c.count.ensures in
    c.fields_ok.ensures ∙ sym (ap (λ (ts : List Ty). leb (length ts) 8 && each_of p ts) c.fields-fields.ensures.is ∙ few_yes (the_field c.args.self) c.fields-fields.result _ (omega arith))

pub returns-else-count-le-MOST_FIELDS : goal.returns-else-count-le-MOST_FIELDS
returns-else-count-le-MOST_FIELDS c =
    let p = ok_field (datas_in c.args.self) in
    let n = c.count.ensures in
    not_few c.count.result c.if-count-le-MOST_FIELDS.false ∙ sym (ap (λ (ts : List Ty). leb (length ts) 8 && each_of p ts) c.fields-fields.ensures.is ∙ few_no (the_field c.args.self) c.fields-fields.result _ (omega arith))
