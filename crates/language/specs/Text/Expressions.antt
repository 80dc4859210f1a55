-- Expressions, from loose to tight: one comparison; sums; products; the smallest.
use Rattle.std.specs.Prelude.{List, [], ◌∷◌, ℕ, zero, suc, ◌+◌, eqb}
use Rattle.std.proofs.Math.Option.{Option, some, none}
use Rattle.language.specs.Base.{choose, from_option, if_some, Lexeme, same}
use Rattle.language.specs.Syntax.{Expr, num, var, op, ctor, boxed, call, share, lend, load, get_e, Exprs, nil_e, cons_e}
use Rattle.language.specs.Text.Words.{kw_get, kw_box, kw_mut, sg_lp, sg_rp, sg_comma, sg_and, sg_star, sg_is, sg_less, sg_plus, sg_minus, sg_over, sg_rest, is_number, is_upper, is_lower, value_of}
use Rattle.language.specs.Text.Reading.{Found, found, go_on, expect, read_name, peek, skip_one}

-- the operator that a sign stands for on a level: 1 comparisons, 2 sums, 3 products
abbrev pub sign_on : ℕ → Lexeme → Option ℕ
sign_on level token =
    choose (eqb level 1)
    (choose (same token sg_is) (some 5)
    (choose (same token sg_less) (some 6)
    none))
    (choose (eqb level 2)
    (choose (same token sg_plus) (some 0)
    (choose (same token sg_minus) (some 1)
    none))
    (choose (eqb level 3)
    (choose (same token sg_star) (some 2)
    (choose (same token sg_over) (some 3)
    (choose (same token sg_rest) (some 4)
    none)))
    none))

abbrev mutual
  -- at most one comparison
  pub read_value : ℕ → List Lexeme → Option (Found Expr)
  read_value zero left = none
  read_value (suc fuel) left = go_on (on_level fuel 2 left) (λ a left1.
      from_option (sign_on 1 (peek left1)) (found a left1) (λ o.
      go_on (on_level fuel 2 (skip_one left1)) (λ b left2. found (op o a b) left2)))

  -- sums on level 2, products on level 3, the smallest on level 4
  pub on_level : ℕ → ℕ → List Lexeme → Option (Found Expr)
  on_level zero level left = none
  on_level (suc fuel) level left =
      choose (eqb level 4) (read_smallest fuel left)
      (go_on (on_level fuel (level + 1) left) (λ a left1. read_more fuel level a left1))

  -- what stands behind a on its level, from the left
  pub read_more : ℕ → ℕ → Expr → List Lexeme → Option (Found Expr)
  read_more zero level a left = none
  read_more (suc fuel) level a left = from_option (sign_on level (peek left)) (found a left) (λ o.
      go_on (on_level fuel (level + 1) (skip_one left)) (λ b left1. read_more fuel level (op o a b) left1))

  -- (e), get, *r, &mut x, &x, box e, a number, C, C(e, ..), f(), f(e, ..), a name
  pub read_smallest : ℕ → List Lexeme → Option (Found Expr)
  read_smallest zero left = none
  read_smallest (suc fuel) [] = none
  read_smallest (suc fuel) (token ∷ left) =
      choose (same token sg_lp) (go_on (read_value fuel left) (λ a left1. expect sg_rp left1 (λ left2. found a left2)))
      (choose (same token kw_get) (found get_e left)
      (choose (same token sg_star) (go_on (read_name is_lower left) (λ x left1. found (load x) left1))
      (choose (same token sg_and)
      (choose (same (peek left) kw_mut)
      (go_on (read_name is_lower (skip_one left)) (λ x left1. found (lend x) left1))
      (go_on (read_name is_lower left) (λ x left1. found (share x) left1)))
      (choose (same token kw_box) (go_on (read_smallest fuel left) (λ a left1. found (boxed a) left1))
      (choose (is_number token) (if_some (value_of token) (λ k. found (num k) left))
      (choose (is_upper token)
      (choose (same (peek left) sg_lp)
      (go_on (read_values fuel (skip_one left)) (λ es left1. found (ctor token es) left1))
      (found (ctor token nil_e) left))
      (choose (is_lower token)
      (choose (same (peek left) sg_lp)
      (choose (same (peek (skip_one left)) sg_rp)
      (found (call token nil_e) (skip_one (skip_one left)))
      (go_on (read_values fuel (skip_one left)) (λ es left1. found (call token es) left1)))
      (found (var token) left))
      none)))))))

  -- one argument or more, with commas between, up to )
  pub read_values : ℕ → List Lexeme → Option (Found Exprs)
  read_values zero left = none
  read_values (suc fuel) left = go_on (read_value fuel left) (λ a left1.
      choose (same (peek left1) sg_comma)
      (go_on (read_values fuel (skip_one left1)) (λ es left2. found (cons_e a es) left2))
      (expect sg_rp left1 (λ left2. found (cons_e a nil_e) left2)))
