use Rattle.std.proofs.Common.{not, refl, rules}
use Rattle.std.proofs.lemmas.Iterator.{YieldsList-from_range}
use Rattle.std.proofs.lemmas.Iterator.Search.{find_from_yields_List}
use Rattle.language.specs.Checks.{ok_ctor}
use Rattle.tables.specs.Tables.{datas_in, the_ctor}
use Rattle.tables.proofs.Search.{fails}
use Rattle.tables.proofs.tables.Tables.bad_ctor_in.Goals as goal

pub returns : goal.returns
returns c =
    let t = c.args.self in
    let p = ok_ctor (datas_in t) in
    fails p (the_ctor t) c.args.ctors _ (find_from_yields_List (λ k. not (p (the_ctor t k))) _ _ c.find.result c.find.ensures.ran (YieldsList-from_range _ _ _ refl refl) (λ x b q k. search rules))
