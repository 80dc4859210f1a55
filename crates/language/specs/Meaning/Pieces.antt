-- How many words a call takes: by the pieces of its function's tree and the largest data type.
use Rattle.std.specs.Prelude.{List, [], ◌∷◌, ℕ, ◌+◌, ◌*◌, length, ltb}
use Rattle.language.specs.Base.{choose, from_option, Lexeme}
use Rattle.language.specs.Syntax.{dat, Expr, num, var, op, ctor, boxed, call, share, lend, load, get_e, Exprs, nil_e, cons_e, Stmt, bind, assign, store, put_s, cond, loop, match_s, open_s, inside, Stmts, nil_s, cons_s, Alts, no_alts, alt, Body, body, Tail, give, give_cond, give_match, Arms, no_arms, arm, Data, Fn, Prog}
use Rattle.language.specs.Checks.{home_of, size_of}
use Rattle.language.specs.Meaning.States.{Value, int_v, con_v, box_v, ref_v, hole}

-- pieces of a tree: one for each expression and statement, and for each name of a pattern
abbrev mutual
  pub pieces_e : Expr → ℕ
  pieces_e (num k) = 1
  pieces_e (var x) = 1
  pieces_e (op o d e) = 1 + (pieces_e d + pieces_e e)
  pieces_e (ctor k es) = 1 + pieces_es es
  pieces_e (boxed e) = 1 + pieces_e e
  pieces_e (call f es) = 1 + pieces_es es
  pieces_e (share x) = 1
  pieces_e (lend x) = 1
  pieces_e (load x) = 1
  pieces_e get_e = 1

  pub pieces_es : Exprs → ℕ
  pieces_es nil_e = 0
  pieces_es (cons_e e es) = pieces_e e + pieces_es es

abbrev pub many : List Lexeme → ℕ
many xs = length xs

abbrev mutual
  pub pieces_s : Stmt → ℕ
  pieces_s (bind x e) = 1 + pieces_e e
  pieces_s (assign x e) = 1 + pieces_e e
  pieces_s (store x e) = 1 + pieces_e e
  pieces_s (put_s e) = 1 + pieces_e e
  pieces_s (cond e f g) = 1 + (pieces_e e + (pieces_ss f + pieces_ss g))
  pieces_s (loop e f) = 1 + (pieces_e e + pieces_ss f)
  pieces_s (match_s w x as₁) = 1 + pieces_alts as₁
  pieces_s (open_s x y) = 1
  pieces_s (inside x y) = 1

  pub pieces_ss : Stmts → ℕ
  pieces_ss nil_s = 0
  pieces_ss (cons_s s ss) = pieces_s s + pieces_ss ss

  pub pieces_alts : Alts → ℕ
  pieces_alts no_alts = 0
  pieces_alts (alt k xs ss as₁) = many xs + (pieces_ss ss + pieces_alts as₁)

abbrev mutual
  pub pieces_body : Body → ℕ
  pieces_body (body ss t) = pieces_ss ss + pieces_tail t

  pub pieces_tail : Tail → ℕ
  pieces_tail (give e) = pieces_e e
  pieces_tail (give_cond e f g) = pieces_e e + (pieces_body f + pieces_body g)
  pieces_tail (give_match w x as₁) = 1 + pieces_arms as₁

  pub pieces_arms : Arms → ℕ
  pieces_arms no_arms = 0
  pieces_arms (arm k xs d as₁) = many xs + (pieces_body d + pieces_arms as₁)

-- the words of the largest data type of ds, at least k
abbrev pub largest : List Data → List Data → ℕ → ℕ
largest all1 [] k = k
largest all1 (d ∷ ds) k =
    largest all1 ds (from_option (size_of all1 (dat d.name)) k (λ z. choose (ltb k z) z k))

-- 64, and eight for each of the function's parameters, the pieces of its tree and two more, each times the words of the largest data type
abbrev pub frame : Prog → Fn → ℕ
frame q f = 64 + 8 * ((length f.pars + (2 + pieces_body f.does)) * largest q.datas q.datas 1)

-- how many words a value takes in a box
abbrev pub words_of : Prog → Value → ℕ
words_of q (int_v k) = 1
words_of q (con_v k vs) =
    from_option (home_of q.datas k) 1 (λ h. from_option (size_of q.datas (dat h.data1.name)) 1 (λ z. z))
words_of q (box_v r) = 1
words_of q (ref_v l) = 1
words_of q hole = 1
