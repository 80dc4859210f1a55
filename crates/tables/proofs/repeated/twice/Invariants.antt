use Rattle.std.proofs.Common.{◌≡◌, ℕ}
use Rattle.language.specs.Base.{no_twice, Lexeme}
use Rattle.lexer.specs.Spelling.{spelling}
use Rattle.tables.specs.Index.{all_in}
use Rattle.tables.proofs.Once.{once_from}
use Rattle.tables.proofs.repeated.twice.Given as goal

abbrev pub invariant-loop-i : goal.invariant-loop-i
invariant-loop-i g l =
    let f : ℕ → Lexeme = λ k. spelling l.text (g.R.Row.title (g.R.Record.kept l.words k)) in
    (l.i-end ≡ l.rows.end) × (once_from f l.i l.rows.end ≡ no_twice (all_in f l.rows))
