-- Statements and bodies: a step reads what the definition reads.
use Rattle.std.proofs.Common.{◌≡◌, ℕ, suc, ◌||◌, List, [], ◌∷◌, ◌++◌, refl, append_assoc, append-nil, arith}
use mathlib.Core.Option.{Option}
use Rattle.language.specs.Base.{Lexeme, same}
use Rattle.language.specs.Syntax.{Expr, Access, Stmt, bind, assign, store, put_s, cond, loop, match_s, open_s}
use Rattle.language.specs.Syntax.{inside, Stmts, cons_s, Alts, body, Tail}
use Rattle.language.specs.Text.{Found, found, go_on, expect, closed, peek, skip_one, a_way, is_lower, is_upper}
use Rattle.language.specs.Text.{sg_lp, sg_rp, sg_lc, sg_rc, sg_comma, sg_semi, sg_gets, sg_star, kw_let, kw_put}
use Rattle.language.specs.Text.{kw_if, kw_else, kw_while, kw_open, kw_inside, kw_give, read_value}
use Rattle.language.specs.Text.{read_statements, read_statement}
use Rattle.language.specs.Text as text
use Rattle.code.specs.Instr.{Instr, i_bind, i_assign, i_store, i_put, i_if, i_else, i_end_if, i_while, i_do}
use Rattle.code.specs.Instr.{i_end_while, i_match, i_open, i_inside}
use Rattle.reader.specs.Symbol.{s_names, s_some_names, s_stmts, s_block, s_alts, s_body, s_tail, s_arms, step}
use Rattle.reader.specs.Symbol.{step_stmt}
use Rattle.reader.proofs.Flat.{flat_e, flat_names, flat_s, flat_ss, flat_alts, flat_body, flat_tail, flat_arms}
use Rattle.reader.proofs.ReadSymbol.{coded, read_symbol, act}
use Rattle.reader.proofs.Joints.{ways, signs, named, pasts}

pub names_ok : (f : ℕ) (ts : List Lexeme) (o : List Instr) → read_symbol s_names (suc f) ts o
    ≡ act f o (step s_names ts)
names_ok f ts o =
    let F = coded flat_names o in
    let G = act f o in
    named F G is_lower ts _ _ refl (λ x l. ways F G (same (peek l) sg_comma) (grind (arith, append_assoc))
    (pasts F G sg_rp l _ _ refl (λ r. refl)))

pub some_names_ok : (f : ℕ) (ts : List Lexeme) (o : List Instr) → read_symbol s_some_names f ts o
    ≡ act f o (step s_some_names ts)
some_names_ok f ts o =
    ways (coded flat_names o) (act f o) (same (peek ts) sg_lp) (grind arith) (grind (arith, append-nil))

pub block_ok : (f : ℕ) (ts : List Lexeme) (o : List Instr) → read_symbol s_block (suc (suc f)) ts o
    ≡ act f o (step s_block ts)
block_ok f ts o = pasts (coded flat_ss o) (act f o) sg_lc ts _ _ refl (λ r. grind (arith, append_assoc))

pub alts_ok : (f : ℕ) (ts : List Lexeme) (o : List Instr) → read_symbol s_alts (suc f) ts o
    ≡ act f o (step s_alts ts)
alts_ok f ts o =
    let F = coded flat_alts o in
    let G = act f o in
    ways F G (same (peek ts) sg_rc) (grind (arith, append-nil))
    (named F G is_upper ts _ _ refl (λ c l. grind (arith, append_assoc)))

pub arms_ok : (f : ℕ) (ts : List Lexeme) (o : List Instr) → read_symbol s_arms (suc f) ts o
    ≡ act f o (step s_arms ts)
arms_ok f ts o =
    let F = coded flat_arms o in
    let G = act f o in
    ways F G (same (peek ts) sg_rc) (grind (arith, append-nil))
    (named F G is_upper ts _ _ refl (λ c l. grind (arith, append_assoc)))

-- what unfolds by itself, as read_statements (suc f), goes into these as a variable
body_leaf : (m : Option (Found Stmts)) (T : List Lexeme → Option (Found Tail)) (o : List Instr) →
    coded flat_body o (go_on m (λ ss l2. expect kw_give l2
    (λ l3. go_on (T l3) (λ t l4. expect sg_rc l4 (λ l5. found (body ss t) l5)))))
    ≡ go_on (coded flat_ss o m) (λ o1 r1. go_on (expect kw_give r1 (λ r. found o1 r))
    (λ o2 r2. go_on (coded flat_tail o2 (T r2))
    (λ o3 r3. go_on (expect sg_rc r3 (λ r. found o3 r)) (λ o4 r4. found o4 r4))))
body_leaf m T o = grind (arith, append_assoc)

pub body_ok : (f : ℕ) (ts : List Lexeme) (o : List Instr) → read_symbol s_body (suc (suc f)) ts o
    ≡ act f o (step s_body ts)
body_ok f ts o = pasts (coded flat_body o) (act f o) sg_lc ts _ _ refl
    (λ r. body_leaf (read_statements (suc f) r) (λ l. text.a_tail (suc f) l) o)

pub tail_ok : (f : ℕ) (ts : List Lexeme) (o : List Instr) → read_symbol s_tail f ts o ≡ act f o (step s_tail ts)
tail_ok f ts o =
    let F = coded flat_tail o in
    let G = act f o in
    ways F G (same (peek ts) kw_if) (grind (arith, append_assoc))
    (signs F G (a_way (peek ts)) (grind (arith, append_assoc))
    (λ w. named F G is_lower (skip_one ts) _ _ refl
    (λ x l. pasts F G sg_lc l _ _ refl (λ r. grind (arith, append_assoc)))))

module _ (R : List Lexeme → Option (Found Stmts)) (o : List Instr) where
  with_rest : Option (Found Stmt) → Option (Found (List Instr))
  with_rest m = coded flat_ss o (go_on m (λ s l1. go_on (R l1) (λ ss l2. found (cons_s s ss) l2)))

  rest_of : List Instr → List Lexeme → Option (Found (List Instr))
  rest_of o1 r = go_on (coded flat_ss o1 (R r)) (λ o2 r2. found o2 r2)

  closed_leaf : (v : Option (Found Expr)) (mk : Expr → Stmt) (i : Instr) →
      ((e : Expr) → flat_s (mk e) ≡ flat_e e ++ (i ∷ [])) → with_rest (go_on v (λ e l. closed (mk e) l))
      ≡ go_on (coded flat_e o v)
      (λ o1 r1. go_on (expect sg_semi r1 (λ r. found o1 r)) (λ o2 r2. rest_of (o2 ++ (i ∷ [])) r2))
  unfolding with_rest rest_of
  closed_leaf v mk i h = grind (arith, append_assoc, h)

  open_leaf : (mk : Stmt) (i : Instr) (l : List Lexeme) → flat_s mk ≡ i ∷ [] → with_rest (closed mk l)
      ≡ go_on (expect sg_semi l (λ r. found o r)) (λ o2 r2. rest_of (o2 ++ (i ∷ [])) r2)
  unfolding with_rest rest_of
  open_leaf mk i l h = grind (arith, append_assoc, h)

  if_leaf : (v : Option (Found Expr)) (B : List Lexeme → Option (Found Stmts)) →
      with_rest (go_on v (λ e l1. go_on (B l1)
      (λ one1 l2. expect kw_else l2 (λ l3. go_on (B l3) (λ two1 l4. found (cond e one1 two1) l4)))))
      ≡ go_on (coded flat_e o v) (λ o1 r1. go_on (coded flat_ss (o1 ++ (i_if ∷ [])) (B r1))
      (λ o2 r2. go_on (expect kw_else r2 (λ r. found o2 r))
      (λ o3 r3. go_on (coded flat_ss (o3 ++ (i_else ∷ [])) (B r3))
      (λ o4 r4. rest_of (o4 ++ (i_end_if ∷ [])) r4))))
  unfolding with_rest rest_of
  if_leaf v B = grind (arith, append_assoc)

  while_leaf : (v : Option (Found Expr)) (B : List Lexeme → Option (Found Stmts)) →
      with_rest (go_on v (λ e l1. go_on (B l1) (λ one1 l2. found (loop e one1) l2)))
      ≡ go_on (coded flat_e (o ++ (i_while ∷ [])) v) (λ o1 r1. go_on (coded flat_ss (o1 ++ (i_do ∷ [])) (B r1))
      (λ o4 r4. rest_of (o4 ++ (i_end_while ∷ [])) r4))
  unfolding with_rest rest_of
  while_leaf v B = grind (arith, append_assoc)

  match_leaf : (w : Access) (x : Lexeme) (a : Option (Found Alts)) →
      with_rest (go_on a (λ as₁ l3. found (match_s w x as₁) l3))
      ≡ go_on (coded flat_alts (o ++ (i_match w x ∷ [])) a) (λ o4 r4. rest_of o4 r4)
  unfolding with_rest rest_of
  match_leaf w x a = grind (arith, append_assoc)

stmt_ok : (f : ℕ) (t : Lexeme) (ts : List Lexeme) (o : List Instr) →
    with_rest (read_statements (suc f)) o (read_statement (suc f) (t ∷ ts)) ≡ act f o (step_stmt (t ∷ ts))
unfolding with_rest rest_of
stmt_ok f t ts o =
    let R : List Lexeme → Option (Found Stmts) = read_statements (suc f) in
    let F : Option (Found Stmt) → Option (Found (List Instr)) = with_rest R o in
    let G = act f o in
    ways F G (same t kw_let) (named F G is_lower ts _ _ refl
    (λ x l1. pasts F G sg_gets l1 _ _ refl (λ l2. ways F G (same (peek l2) kw_open)
    (named F G is_lower (skip_one l2) _ _ refl
    (λ y l3. open_leaf R o (open_s x y) (i_open x y) l3 refl))
    (ways F G (same (peek l2) kw_inside) (named F G is_lower (skip_one l2) _ _ refl
    (λ y l3. open_leaf R o (inside x y) (i_inside x y) l3 refl))
    (closed_leaf R o (read_value f l2) (bind x) (i_bind x) (λ e. refl))))))
    (ways F G (same t kw_put) (closed_leaf R o (read_value f ts) put_s i_put (λ e. refl))
    (ways F G (same t sg_star) (named F G is_lower ts _ _ refl
    (λ x l1. pasts F G sg_gets l1 _ _ refl
    (λ l2. closed_leaf R o (read_value f l2) (store x) (i_store x) (λ e. refl))))
    (ways F G (same t kw_if) (if_leaf R o (read_value f ts) (text.block f))
    (ways F G (same t kw_while) (while_leaf R o (read_value f ts) (text.block f))
    (signs F G (a_way t) (ways F G (is_lower t) (pasts F G sg_gets ts _ _ refl
    (λ l1. closed_leaf R o (read_value f l1) (assign t) (i_assign t) (λ e. refl))) refl)
    (λ w. named F G is_lower ts _ _ refl
    (λ x l1. pasts F G sg_lc l1 _ _ refl (λ l2. match_leaf R o w x (text.alts f l2)))))))))

pub stmts_ok : (f : ℕ) (t : Lexeme) (ts : List Lexeme) (o : List Instr) → read_symbol s_stmts (suc f) (t ∷ ts) o
    ≡ act f o (step s_stmts (t ∷ ts))
unfolding with_rest
stmts_ok f t ts o = ways (coded flat_ss o) (act f o) (same t sg_rc || same t kw_give)
    (grind (arith, append-nil)) (stmt_ok f t ts o)
