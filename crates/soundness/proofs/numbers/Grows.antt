-- What is shown only grows: nothing is asked of the numbers, and what was shown before is a front of what is shown.
use mathlib.Core.List.{List, [], ◌∷◌, ◌++◌}
use Prim.Native.Nat.{ℕ}
use Rattle.language.specs.Syntax.{Expr, num, var, op, ctor, boxed, call, share, lend, load, get_e, Exprs, nil_e, cons_e, Stmt, bind, assign, store}
use Rattle.language.specs.Syntax.{put_s, cond, loop, match_s, open_s, inside, Stmts, nil_s, cons_s, Alts, no_alts, alt, Body, body, Tail, give}
use Rattle.language.specs.Syntax.{give_cond, give_match, Arms, no_arms, arm, Fn, Prog}
use Rattle.language.specs.Meaning.{Value, int_v, con_v, box_v, ref_v, hole, Values, nil_v, cons_v, Root, State, Res, Shape, shape}
use Rattle.language.specs.Says.{Front, none_yet, and_so}
use Rattle.soundness.specs.Numbers.{Every, Numbers, NumbersOf, ShapeNumbers, StateNumbers, LiteralsE, LiteralsEs, LiteralsS, LiteralsSs}
use Rattle.soundness.specs.Numbers.{LiteralsAlts, LiteralsBody, LiteralsTail, LiteralsArms, Literals, outs_behind, ShownGrows}
use Rattle.soundness.proofs.numbers.Meets.{Meets, by_ok, by_stop}
use Rattle.soundness.proofs.numbers.Keeps.{Closed, eval_meets, evals_meets, calls_meets, bodies_meets, tails_meets, by_shape_meets, execs_meets}
use Rattle.soundness.proofs.numbers.Keeps.{block_meets, exec_meets, by_alt_meets, ends_meets, drops_meets, lasts_meets, parts_meets, drops_all_meets}

front_self : (os : List ℕ) → Front os os
front_self [] = none_yet
front_self (x ∷ os) = and_so (front_self os)

front_more : {os xs : List ℕ} (k : ℕ) → Front os xs → Front os (xs ++ (k ∷ []))
front_more k none_yet = none_yet
front_more k (and_so h) = and_so (front_more k h)

-- nothing asked of numbers
abbrev Any : ℕ → Type 0
Any k = Unit {0}

every_any : {A : Type 0} (P : A → Type 0) (xs : List A) → ((x : A) → P x) → Every P xs
every_any P [] h = tt
every_any P (x ∷ xs) h = (h x, every_any P xs h)

mutual
  value_any : (v : Value) → Numbers Any v
  value_any (int_v k) = tt
  value_any (con_v k vs) = values_any vs
  value_any (box_v r) = tt
  value_any (ref_v l) = tt
  value_any hole = tt

  values_any : (vs : Values) → NumbersOf Any vs
  values_any nil_v = tt
  values_any (cons_v v vs) = (value_any v, values_any vs)

shape_any : (y : Shape) → ShapeNumbers Any y
shape_any (shape k vs) = values_any vs

mutual
  expr_any : (e : Expr) → LiteralsE Any e
  expr_any (num k) = tt
  expr_any (var x) = tt
  expr_any (op o d e) = (expr_any d, expr_any e)
  expr_any (ctor k es) = exprs_any es
  expr_any (boxed e) = expr_any e
  expr_any (call f es) = exprs_any es
  expr_any (share x) = tt
  expr_any (lend x) = tt
  expr_any (load x) = tt
  expr_any get_e = tt

  exprs_any : (es : Exprs) → LiteralsEs Any es
  exprs_any nil_e = tt
  exprs_any (cons_e e es) = (expr_any e, exprs_any es)

mutual
  stmt_any : (x : Stmt) → LiteralsS Any x
  stmt_any (bind x e) = expr_any e
  stmt_any (assign x e) = expr_any e
  stmt_any (store x e) = expr_any e
  stmt_any (put_s e) = expr_any e
  stmt_any (cond e a d) = (expr_any e, stmts_any a, stmts_any d)
  stmt_any (loop e a) = (expr_any e, stmts_any a)
  stmt_any (match_s w x as₁) = alts_any as₁
  stmt_any (open_s x y) = tt
  stmt_any (inside x y) = tt

  stmts_any : (ss : Stmts) → LiteralsSs Any ss
  stmts_any nil_s = tt
  stmts_any (cons_s s ss) = (stmt_any s, stmts_any ss)

  alts_any : (as₁ : Alts) → LiteralsAlts Any as₁
  alts_any no_alts = tt
  alts_any (alt k xs ss as₁) = (stmts_any ss, alts_any as₁)

mutual
  body_any : (d : Body) → LiteralsBody Any d
  body_any (body ss t) = (stmts_any ss, tail_any t)

  tail_any : (t : Tail) → LiteralsTail Any t
  tail_any (give e) = expr_any e
  tail_any (give_cond e a d) = (expr_any e, body_any a, body_any d)
  tail_any (give_match w x as₁) = arms_any as₁

  arms_any : (as₁ : Arms) → LiteralsArms Any as₁
  arms_any no_arms = tt
  arms_any (arm k xs d as₁) = (body_any d, arms_any as₁)

prog_any : (q : Prog) → Literals Any q
prog_any q = every_any (λ (f : Fn). LiteralsBody Any f.does) q.funs (λ f. body_any f.does)

fronts : (os : List ℕ) → Closed Any (Front os)
fronts os = record { worked_out = λ o x y h k. tt; read_in = λ ins. tt; shown_next = λ xs k h f. front_more k f; marked = λ xs f. front_more _ f }

shown_of : {A : Type 0} {V : A → Type 0} {os : List ℕ} {r : Res A} → Meets V (StateNumbers Any (Front os)) r → Front os (outs_behind r)
shown_of (by_ok v p) = p.shown
shown_of (by_stop p) = p.shown

starts : (s : State) → StateNumbers Any (Front s.outs) s
starts s = record { stored = every_any (λ (x : Root). Numbers Any x.val) s.roots (λ x. value_any x.val); shown = front_self s.outs }

pub shown_grows : ShownGrows
shown_grows q m u = record {
  by_eval = λ g e s. shown_of (eval_meets Any (Front s.outs) (fronts s.outs) m q (prog_any q) u g e s (expr_any e) (starts s));
  by_evals =
      λ g es vs s. shown_of (evals_meets Any (Front s.outs) (fronts s.outs) m q (prog_any q) u g es vs s (exprs_any es)
      (values_any vs) (starts s));
  by_calls =
      λ f vs s. shown_of (calls_meets Any (Front s.outs) (fronts s.outs) m q (prog_any q) u f vs s (body_any f.does)
      (every_any (Numbers Any) vs value_any) (starts s));
  by_bodies = λ g h d s. shown_of (bodies_meets Any (Front s.outs) (fronts s.outs) m q (prog_any q) u g h d s (body_any d) (starts s));
  by_tails = λ g t s. shown_of (tails_meets Any (Front s.outs) (fronts s.outs) m q (prog_any q) u g t s (tail_any t) (starts s));
  by_arms =
      λ g w l as₁ y s. shown_of (by_shape_meets Any (Front s.outs) (fronts s.outs) m q (prog_any q) u g w l as₁ y s (arms_any as₁)
      (shape_any y) (starts s));
  by_execs = λ g ss s. shown_of (execs_meets Any (Front s.outs) (fronts s.outs) m q (prog_any q) u g ss s (stmts_any ss) (starts s));
  by_block = λ g h ss s. shown_of (block_meets Any (Front s.outs) (fronts s.outs) m q (prog_any q) u g h ss s (stmts_any ss) (starts s));
  by_exec = λ g x s. shown_of (exec_meets Any (Front s.outs) (fronts s.outs) m q (prog_any q) u g x s (stmt_any x) (starts s));
  by_alts =
      λ g w l as₁ y s. shown_of (by_alt_meets Any (Front s.outs) (fronts s.outs) m q (prog_any q) u g w l as₁ y s (alts_any as₁)
      (shape_any y) (starts s));
  by_ends = λ g s. shown_of (ends_meets Any (Front s.outs) (fronts s.outs) m q (prog_any q) u g s (starts s));
  by_drops = λ v s. shown_of (drops_meets Any (Front s.outs) (fronts s.outs) m q (prog_any q) u v s (value_any v) (starts s));
  by_lasts =
      λ f v s. shown_of (lasts_meets Any (Front s.outs) (fronts s.outs) m q (prog_any q) u f v s (body_any f.does) (value_any v) (starts s));
  by_parts = λ v s. shown_of (parts_meets Any (Front s.outs) (fronts s.outs) m q (prog_any q) u v s (value_any v) (starts s));
  by_drops_all = λ vs s. shown_of (drops_all_meets Any (Front s.outs) (fronts s.outs) m q (prog_any q) u vs s (values_any vs) (starts s));
}
