-- Steps that are the same at several places of the grammar.
use Rattle.std.specs.Prelude.{List, [], ◌∷◌}
use Rattle.language.specs.Base.{choose, same}
use Rattle.language.specs.Text.{peek, skip_one, sg_comma, sg_rp}
use Rattle.reader.specs.Symbol.{Symbol, Token, Action, push, with_token}

-- what stands behind a sign, or nothing where the sign isn't
abbrev pub step_behind : Token → Symbol → List Token → Action
step_behind sign it ts = choose (same (peek ts) sign) (push (it ∷ []) (skip_one ts)) (push [] ts)

-- behind a comma another one, or the closing bracket
abbrev pub step_on : Symbol → List Token → Action
step_on again ts =
    choose (same (peek ts) sg_comma) (push (again ∷ []) (skip_one ts)) (with_token sg_rp ts (λ r. push [] r))
