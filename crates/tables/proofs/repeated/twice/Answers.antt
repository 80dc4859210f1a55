use Rattle.std.proofs.Common.{ℕ, ◌+◌, sym, ap, ◌∙◌}
use Rattle.language.specs.Base.{Lexeme}
use Rattle.lexer.specs.Spelling.{spelling}
use Rattle.lexer.specs.declared.name.Name.{Name}
use Rattle.tables.specs.Index.{span, first_in, is_spelled}
use Rattle.tables.proofs.Once.{once_no, once_on}
use Rattle.tables.proofs.repeated.twice.Goals as goal

pub returns-in-Some : goal.returns-in-Some
returns-in-Some g c =
    let f : ℕ → Lexeme = λ k. spelling c.args.text.now (g.R.Row.title (g.R.Record.kept c.args.words.now k)) in
    let e = c.name.ensures ∙ ap g.R.Row.title c.load.ensures in
    let h = ap (λ (m : Name). first_in (is_spelled c.args.text.now g.R.Row.title (g.R.Record.kept c.args.words.now) (spelling c.args.text.now m)) (span (c.loop-i.i + 1) c.args.rows.end)) (sym e) ∙ c.in-Some.ensures.is in
    (once_no f c.loop-i.i c.args.rows.end c.in-Some.k _ c.loop-i-test.true h c.loop-i.invariant.1, c.in-Some.ensures.within)

pub loop-i-preserved : goal.loop-i-preserved
loop-i-preserved g c =
    let f : ℕ → Lexeme = λ k. spelling c.args.text.now (g.R.Row.title (g.R.Record.kept c.args.words.now k)) in
    let e = c.name.ensures ∙ ap g.R.Row.title c.load.ensures in
    let h = ap (λ (m : Name). first_in (is_spelled c.args.text.now g.R.Row.title (g.R.Record.kept c.args.words.now) (spelling c.args.text.now m)) (span (c.loop-i.i + 1) c.args.rows.end)) (sym e) ∙ c.in_default.ensures.is in
    (c.loop-i.invariant.0, once_on f c.loop-i.i c.args.rows.end _ c.loop-i-test.true h c.loop-i.invariant.1)
