use Rattle.std.proofs.Common.{◌≡◌, ℕ, true, List, [], ◌∷◌, Result, sym, ap, ◌∙◌, ap₂}
use mathlib.Core.Bool.{false≢true}
use Rattle.language.specs.Base.{Lexeme, choose}
use Rattle.language.specs.Text.{peek, skip_one, is_lower}
use Rattle.lexer.specs.Spelling.{spelling}
use Rattle.lexer.specs.declared.name.Name.{Name}
use Rattle.reader.specs.declared.action.Action.{Action}
use Rattle.reader.specs.declared.error.Expected.{Expected}
use Rattle.reader.specs.Symbol.{step_named, step_let, fail}
use Rattle.reader.specs.Steps.{answered}
use Rattle.reader.specs.Tokens.{tokens}
use Rattle.reader.proofs.stmt.binding.Goals as goal

on_name : (ts : List Lexeme) → is_lower (peek ts) ≡ true → step_let ts ≡ step_named (peek ts) (skip_one ts)
on_name [] e = absurd (false≢true e)
on_name (t ∷ ts) e = ap (λ b. choose b (step_named t ts) fail) e

behind_name : (text now : List ℕ) (x : Name) (ts left behind : List Lexeme) (r : Result Action Expected) → now ≡ text →
    (is_lower (peek ts) ≡ true) × (spelling text x ≡ peek ts) × (left ≡ skip_one ts) →
    answered now r behind ≡ step_named (spelling now x) left → answered text r behind ≡ step_let ts
behind_name text now x ts left behind r e n h =
    ap (λ t. answered t r behind) (sym e) ∙ h ∙ ap₂ step_named (ap (λ t. spelling t x) e ∙ n.1) n.2 ∙ sym (on_name ts n.0)

pub returns : goal.returns
returns c = (
  behind_name _ _ c.in_ok-x.x (tokens c.args.c.now) _ (tokens c.named.new.c) c.named.result
      c.in_ok-x.ensures.1 c.in_ok-x.ensures.0 c.named.ensures.0,
  c.named.ensures.1 ∙ c.in_ok-x.ensures.1,
)
