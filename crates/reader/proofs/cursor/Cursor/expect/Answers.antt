use Rattle.std.proofs.Common.{sym, ◌∙◌}
use Rattle.lexer.proofs.Same.{same_sym}
use Rattle.reader.proofs.cursor.Cursor.expect.Goals as goal

pub returns-then-accept : goal.returns-then-accept
returns-then-accept g c =
    let e = c.if-accept.ensures in
    ((same_sym (g.T.Asked.lexeme c.args.asked) _ ∙ sym e.0.0, e.0.1), e.1)

pub returns-else-accept : goal.returns-else-accept
returns-else-accept g c =
    let e = c.if-accept.ensures in
    (same_sym (g.T.Asked.lexeme c.args.asked) _ ∙ sym e.0.0, e.1)
