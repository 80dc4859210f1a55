-- Statements, and bodies: statements and what is given.
use Rattle.std.specs.Prelude.{◌||◌, List, [], ◌∷◌, ℕ, zero, suc}
use Rattle.std.proofs.Math.Option.{Option, some, none}
use Rattle.language.specs.Base.{choose, from_option, Lexeme, same}
use Rattle.language.specs.Syntax.{Access, take, view, edit, Stmt, bind, assign, store, put_s, cond, loop, match_s, open_s, inside, Stmts, nil_s, cons_s, Alts, no_alts, alt, Body, body, Tail, give, give_cond, give_match, Arms, no_arms, arm}
use Rattle.language.specs.Text.Words.{kw_let, kw_put, kw_if, kw_else, kw_while, kw_take, kw_view, kw_edit, kw_open, kw_inside, kw_give, sg_lc, sg_rc, sg_semi, sg_gets, sg_star, is_upper, is_lower}
use Rattle.language.specs.Text.Reading.{Found, found, go_on, expect, read_name, peek, skip_one, some_names}
use Rattle.language.specs.Text.Expressions.{read_value}

abbrev pub a_way : Lexeme → Option Access
a_way token =
    choose (same token kw_take) (some take)
    (choose (same token kw_view) (some view)
    (choose (same token kw_edit) (some edit)
    none))

-- a semicolon ends it
abbrev pub closed : {A : Type 0} → A → List Lexeme → Option (Found A)
closed it left = expect sg_semi left (λ left1. found it left1)

-- behind let: x = open y; x = inside y; x = e;
abbrev pub a_let : ℕ → List Lexeme → Option (Found Stmt)
a_let fuel left = go_on (read_name is_lower left) (λ x left1. expect sg_gets left1 (λ left2.
    choose (same (peek left2) kw_open)
    (go_on (read_name is_lower (skip_one left2)) (λ y left3. closed (open_s x y) left3))
    (choose (same (peek left2) kw_inside)
    (go_on (read_name is_lower (skip_one left2)) (λ y left3. closed (inside x y) left3))
    (go_on (read_value fuel left2) (λ e left3. closed (bind x e) left3)))))

abbrev mutual
  -- statements up to } or give, which aren't taken
  pub read_statements : ℕ → List Lexeme → Option (Found Stmts)
  read_statements zero left = none
  read_statements (suc fuel) left =
      choose (same (peek left) sg_rc || same (peek left) kw_give) (found nil_s left)
      (go_on (read_statement fuel left) (λ s left1. go_on (read_statements fuel left1) (λ ss left2. found (cons_s s ss) left2)))

  -- let; put e; *r = e; if; while; x = e; take, view or edit
  pub read_statement : ℕ → List Lexeme → Option (Found Stmt)
  read_statement zero left = none
  read_statement (suc fuel) [] = none
  read_statement (suc fuel) (token ∷ left) =
      choose (same token kw_let) (a_let fuel left)
      (choose (same token kw_put) (go_on (read_value fuel left) (λ e left1. closed (put_s e) left1))
      (choose (same token sg_star)
      (go_on (read_name is_lower left) (λ r left1. expect sg_gets left1 (λ left2.
      go_on (read_value fuel left2) (λ e left3. closed (store r e) left3))))
      (choose (same token kw_if)
      (go_on (read_value fuel left) (λ e left1. go_on (block fuel left1) (λ a left2.
      expect kw_else left2 (λ left3. go_on (block fuel left3) (λ b left4. found (cond e a b) left4)))))
      (choose (same token kw_while)
      (go_on (read_value fuel left) (λ e left1. go_on (block fuel left1) (λ a left2. found (loop e a) left2)))
      (from_option (a_way token)
      (choose (is_lower token)
      (expect sg_gets left (λ left1. go_on (read_value fuel left1) (λ e left2. closed (assign token e) left2)))
      none)
      (λ w. go_on (read_name is_lower left) (λ x left1. expect sg_lc left1 (λ left2.
      go_on (alts fuel left2) (λ as₁ left3. found (match_s w x as₁) left3)))))))))

  -- { statements }
  pub block : ℕ → List Lexeme → Option (Found Stmts)
  block zero left = none
  block (suc fuel) left = expect sg_lc left (λ left1. go_on (read_statements fuel left1) (λ ss left2.
      expect sg_rc left2 (λ left3. found ss left3)))

  -- C(x, ..) { statements } .. up to }
  pub alts : ℕ → List Lexeme → Option (Found Alts)
  alts zero left = none
  alts (suc fuel) left =
      choose (same (peek left) sg_rc) (found no_alts (skip_one left))
      (go_on (read_name is_upper left) (λ c left1. go_on (some_names fuel left1) (λ xs left2.
      go_on (block fuel left2) (λ ss left3. go_on (alts fuel left3) (λ as₁ left4. found (alt c xs ss as₁) left4)))))

abbrev mutual
  -- { statements give .. }
  pub a_body : ℕ → List Lexeme → Option (Found Body)
  a_body zero left = none
  a_body (suc fuel) left = expect sg_lc left (λ left1. go_on (read_statements fuel left1) (λ ss left2.
      expect kw_give left2 (λ left3. go_on (a_tail fuel left3) (λ t left4.
      expect sg_rc left4 (λ left5. found (body ss t) left5)))))

  -- behind give: if and two bodies; take, view or edit and bodies; an expression
  pub a_tail : ℕ → List Lexeme → Option (Found Tail)
  a_tail zero left = none
  a_tail (suc fuel) left =
      choose (same (peek left) kw_if)
      (go_on (read_value fuel (skip_one left)) (λ e left1. go_on (a_body fuel left1) (λ a left2.
      expect kw_else left2 (λ left3. go_on (a_body fuel left3) (λ b left4. found (give_cond e a b) left4)))))
      (from_option (a_way (peek left))
      (go_on (read_value fuel left) (λ e left1. found (give e) left1))
      (λ w. go_on (read_name is_lower (skip_one left)) (λ x left1. expect sg_lc left1 (λ left2.
      go_on (arms fuel left2) (λ as₁ left3. found (give_match w x as₁) left3)))))

  -- C(x, ..) body .. up to }
  pub arms : ℕ → List Lexeme → Option (Found Arms)
  arms zero left = none
  arms (suc fuel) left =
      choose (same (peek left) sg_rc) (found no_arms (skip_one left))
      (go_on (read_name is_upper left) (λ c left1. go_on (some_names fuel left1) (λ xs left2.
      go_on (a_body fuel left2) (λ b left3. go_on (arms fuel left3) (λ as₁ left4. found (arm c xs b as₁) left4)))))
