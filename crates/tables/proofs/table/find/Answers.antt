use Rattle.std.proofs.Common.{◌≡◌, ℕ, Bool, MatchOption, refl, rules}
use mathlib.Core.Option.{some, none}
use Rattle.std.proofs.lemmas.Iterator.{YieldsList-from_range}
use Rattle.std.proofs.lemmas.Iterator.Search.{find_from_yields_List}
use Rattle.tables.specs.Index.{first_in, is_spelled}
use Rattle.tables.proofs.Search.{found}
use Rattle.tables.proofs.table.find.Goals as goal

pub returns-clause-is : goal.returns-clause-is
returns-clause-is g c =
    let p : ℕ → Bool = is_spelled c.args.text.now g.R.Row.title (g.R.Record.kept c.args.words.now) (g.K.Key.spelled c.args.text.now c.args.key) in
    let told : MatchOption c.find.result (first_in p c.args.rows ≡ none) (λ k. first_in p c.args.rows ≡ some k) =
    found p c.args.rows _ (find_from_yields_List p _ _ c.find.result c.find.ensures.ran (YieldsList-from_range _ _ _ refl refl) (λ x b q k. search rules)) in
    search (rules, told)
