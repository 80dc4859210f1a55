use Rattle.std.proofs.Common.{◌≡◌, true, false, List, [], ◌∷◌, true≢false, sym, ap, ◌∙◌}
use Rattle.language.specs.Base.{Lexeme, choose, same}
use Rattle.language.specs.Text.{peek, skip_one}
use Rattle.reader.specs.Symbol.{with_token, push, fail}
use Rattle.reader.specs.Tokens.{tokens}
use Rattle.reader.proofs.table.token.Goals as goal

taken : (w : Lexeme) (ts left : List Lexeme) → same w [] ≡ false → same w (peek ts) ≡ true → left ≡ skip_one ts →
    push [] left ≡ with_token w ts (λ r. push [] r)
taken w [] left d h e = absurd (true≢false (sym h ∙ d))
taken w (t ∷ ts) left d h e = ap (λ l. push [] l) e ∙ sym (ap (λ b. choose b (push [] ts) fail) h)

pub returns : goal.returns
returns g c =
    let e = c.in_ok-expect.ensures in
    (taken (g.T.Asked.lexeme c.args.asked) (tokens c.args.c.now) _ (g.met.T.Asked.some_byte c.args.asked) e.0.0 e.0.1, e.1)
