use Rattle.std.proofs.Common.{refl, ◌∙◌, rules}
use Rattle.std.proofs.lemmas.Iterator.{YieldsList-from_range}
use Rattle.std.proofs.lemmas.Iterator.Search.{all_from_yields_List}
use Rattle.tables.specs.Known.{the_field}
use Rattle.tables.specs.Rest.{ok_field}
use Rattle.tables.specs.Tables.{datas_in}
use Rattle.tables.proofs.Search.{all_pass}
use Rattle.tables.proofs.tables.Tables.fields_ok.Goals as goal

pub returns : goal.returns
returns c =
    let t = c.args.self in
    let p = ok_field (datas_in t) in
    all_from_yields_List (λ j. p (the_field t j)) _ _ _ c.all.ensures.ran (YieldsList-from_range _ _ _ refl refl) (λ x b q k. search rules) ∙ all_pass p (the_field t) c.args.fields
