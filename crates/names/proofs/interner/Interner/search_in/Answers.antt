use Rattle.std.proofs.Common.{rules, sym}
use Rattle.lexer.specs.Spelling.{lexeme_at, spelling}
use Rattle.lexer.proofs.Same.{same_is}
use Rattle.names.proofs.Search.{passed, passed_more}
use Rattle.names.proofs.interner.Interner.search_in.Goals as goal

pub returns-then-same_name : goal.returns-then-same_name
returns-then-same_name c =
    let text = c.args.self.now.text.now in
    let w = spelling text c.args.name in
    ((c.loop-i.i, search rules), same_is (lexeme_at text c.in-Some.place) w (sym c.if-same_name.ensures))

pub loop-i-preserved : goal.loop-i-preserved
loop-i-preserved c =
    let text = c.args.self.now.text.now in
    let table = c.args.self.now.table.now in
    let w = spelling text c.args.name in
    let i = c.loop-i.i in
    passed_more text table w c.args.from i c.loop-i.invariant (passed text table w i (search rules) (search rules))
