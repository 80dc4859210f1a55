-- What a program does.
use Rattle.std.specs.Prelude.{List, [], ◌∷◌, ℕ, zero, suc, length, eqb}
use Rattle.language.specs.Base.{choose, if_some}
use Rattle.language.specs.Syntax.{Expr, num, var, op, ctor, boxed, call, share, lend, load, get_e, Exprs, nil_e, cons_e, Access, Stmt, bind, assign, store, put_s, cond, loop, match_s, open_s, inside, Stmts, nil_s, cons_s, Alts, Body, body, Tail, give, give_cond, give_match, Arms, Fn, Prog}
use Rattle.language.specs.Checks.{fn_named, home_of, w_main}
use Rattle.language.specs.Meaning.States.{Loc, Value, int_v, con_v, box_v, ref_v, hole, Values, nil_v, cons_v, State, Limits, out_of_fuel, Res, ok, stop, then, need, Env, root_of}
use Rattle.language.specs.Meaning.Memory.{read_at, write_at, here, adds_root, kill}
use Rattle.language.specs.Meaning.Pieces.{frame, words_of}
use Rattle.language.specs.Meaning.Counting.{makes_box, ends_box, goes_under, turn}
use Rattle.language.specs.Meaning.Kinds.{worked, there, num_of, loc_of, box_of, Shape, shape, shape_of, moves, place_of, append, list_of, reads_in, shows}
use Rattle.language.specs.Meaning.Names.{names_in, roots_in, names_of, newer, parts, taken, find_alt, find_arm}

-- each function has fuel, and comes to a stop where it's used up; with turns counted there is always enough.
-- u fuel, m limits, q program, g names in scope, s, t, z, y, x states
unfoldable mutual
  pub eval : ℕ → Limits → Prog → Env → Expr → State → Res Value
  eval zero m q g e s = stop out_of_fuel s
  eval (suc u) m q g (num k) s = ok (int_v k) s
  eval (suc u) m q g (var x) s =
      need s (root_of g x) (λ r. need s (read_at s (here r)) (λ v. moves s r v))
  eval (suc u) m q g (op o d e) s =
      then (eval u m q g d s) (λ v t. then (eval u m q g e t) (λ w z.
      need z (num_of v) (λ x. need z (num_of w) (λ y. ok (int_v (worked o x y)) z))))
  eval (suc u) m q g (ctor k es) s = then (evals u m q g es nil_v s) (λ vs t. ok (con_v k vs) t)
  eval (suc u) m q g (boxed e) s = then (eval u m q g e s) (λ v t. makes_box m t v (words_of q v))
  eval (suc u) m q g (call f es) s =
      then (evals u m q g es nil_v s) (λ vs t. need t (fn_named q.funs f) (λ k. calls u m q k (list_of vs) t))
  eval (suc u) m q g (share x) s =
      need s (root_of g x) (λ r. need s (read_at s (here r)) (λ v. ok (ref_v (place_of r v)) s))
  eval (suc u) m q g (lend x) s = need s (root_of g x) (λ r. ok (ref_v (here r)) s)
  eval (suc u) m q g (load x) s =
      need s (root_of g x) (λ r. need s (read_at s (here r)) (λ v. need s (loc_of v) (λ l.
      need s (read_at s l) (λ w. need s (num_of w) (λ k. ok (int_v k) s)))))
  eval (suc u) m q g get_e s = reads_in s

  -- arguments from left to right; vs are those that are worked out
  pub evals : ℕ → Limits → Prog → Env → Exprs → Values → State → Res Values
  evals zero m q g es vs s = stop out_of_fuel s
  evals (suc u) m q g nil_e vs s = ok vs s
  evals (suc u) m q g (cons_e e es) vs s = then (eval u m q g e s) (λ v t. evals u m q g es (append vs v) t)

  -- a call: a turn, its words, its parameters, its body, then its names end
  pub calls : ℕ → Limits → Prog → Fn → List Value → State → Res Value
  calls zero m q f vs s = stop out_of_fuel s
  calls (suc u) m q f vs s =
      turn m s (λ t. goes_under m (frame q f) t (λ z.
      need z (names_in [] z (names_of f.pars) vs) (λ g. bodies u m q g [] f.does (roots_in z vs))))

  -- what a body gives; the names newer than those of h end with it
  pub bodies : ℕ → Limits → Prog → Env → Env → Body → State → Res Value
  bodies zero m q g h d s = stop out_of_fuel s
  bodies (suc u) m q g h (body ss t) s =
      then (execs u m q g ss s) (λ i z. then (tails u m q i t z) (λ v y. then (ends u m q (newer i h) y) (λ k x. ok v x)))

  pub tails : ℕ → Limits → Prog → Env → Tail → State → Res Value
  tails zero m q g t s = stop out_of_fuel s
  tails (suc u) m q g (give e) s = eval u m q g e s
  tails (suc u) m q g (give_cond e d f) s =
      then (eval u m q g e s) (λ v t. need t (num_of v) (λ k. bodies u m q g g (choose (eqb k 0) f d) t))
  tails (suc u) m q g (give_match w x as₁) s =
      need s (root_of g x) (λ r. need s (read_at s (here r)) (λ v. need s (read_at s (place_of r v)) (λ z.
      need s (shape_of z) (λ y. by_shape u m q g w (place_of r v) as₁ y s))))

  -- the body that a constructor chooses, with names for its parts
  pub by_shape : ℕ → Limits → Prog → Env → Access → Loc → Arms → Shape → State → Res Value
  by_shape zero m q g w l as₁ y s = stop out_of_fuel s
  by_shape (suc u) m q g w l as₁ (shape k vs) s =
      need s (find_arm as₁ k) (λ a. need s (taken w s l) (λ t.
      need t (names_in g t a.names (parts w l vs)) (λ i. bodies u m q i g a.does (roots_in t (parts w l vs)))))

  -- statements, a turn each: the names behind them
  pub execs : ℕ → Limits → Prog → Env → Stmts → State → Res Env
  execs zero m q g ss s = stop out_of_fuel s
  execs (suc u) m q g nil_s s = ok g s
  execs (suc u) m q g (cons_s x ss) s = then (turn m s (λ t. exec u m q g x t)) (λ h t. execs u m q h ss t)

  -- statements of their own, whose names end
  pub block : ℕ → Limits → Prog → Env → Env → Stmts → State → Res Env
  block zero m q g h ss s = stop out_of_fuel s
  block (suc u) m q g h ss s = then (execs u m q g ss s) (λ i t. then (ends u m q (newer i h) t) (λ k z. ok h z))

  pub exec : ℕ → Limits → Prog → Env → Stmt → State → Res Env
  exec zero m q g x s = stop out_of_fuel s
  exec (suc u) m q g (bind x e) s =
      then (eval u m q g e s) (λ v t. ok (record { name = x; root = length t.roots } ∷ g) (adds_root t v 0))
  -- the new value is put in, and then the old one dropped
  exec (suc u) m q g (assign x e) s =
      then (eval u m q g e s) (λ v t. need t (root_of g x) (λ r. need t (read_at t (here r)) (λ old.
      need t (write_at t (here r) v) (λ z. then (drops u m q old z) (λ k y. ok g y)))))
  exec (suc u) m q g (store x e) s =
      then (eval u m q g e s) (λ v t. need t (root_of g x) (λ r. need t (read_at t (here r)) (λ w. need t (loc_of w) (λ l.
      need t (if_some (read_at t l) there) (λ old. need t (write_at t l v) (λ z. then (drops u m q old z) (λ k y. ok g y)))))))
  exec (suc u) m q g (put_s e) s = then (eval u m q g e s) (λ v t. need t (num_of v) (λ k. ok g (shows t k)))
  exec (suc u) m q g (cond e d f) s =
      then (eval u m q g e s) (λ v t. need t (num_of v) (λ k. block u m q g g (choose (eqb k 0) f d) t))
  -- a round's turn is counted behind its body
  exec (suc u) m q g (loop e d) s =
      then (eval u m q g e s) (λ v t. need t (num_of v) (λ k.
      choose (eqb k 0) (ok g t) (then (block u m q g g d t) (λ i z. turn m z (λ y. exec u m q g (loop e d) y)))))
  exec (suc u) m q g (match_s w x as₁) s =
      need s (root_of g x) (λ r. need s (read_at s (here r)) (λ v. need s (read_at s (place_of r v)) (λ z.
      need s (shape_of z) (λ y. by_alt u m q g w (place_of r v) as₁ y s))))
  exec (suc u) m q g (open_s x y) s =
      need s (root_of g y) (λ r. need s (read_at s (here r)) (λ v. need s (box_of v) (λ i.
      need s (read_at s (here i)) (λ w. need s (write_at s (here r) hole) (λ t.
      ok (record { name = x; root = length t.roots } ∷ g) (adds_root (ends_box t i) w 0))))))
  exec (suc u) m q g (inside x y) s =
      need s (root_of g y) (λ r. need s (read_at s (here r)) (λ v. need s (loc_of v) (λ l.
      need s (read_at s l) (λ w. need s (box_of w) (λ i.
      ok (record { name = x; root = length s.roots } ∷ g) (adds_root s (ref_v (here i)) 0))))))

  -- the alternative that a constructor chooses, with names for its parts
  pub by_alt : ℕ → Limits → Prog → Env → Access → Loc → Alts → Shape → State → Res Env
  by_alt zero m q g w l as₁ y s = stop out_of_fuel s
  by_alt (suc u) m q g w l as₁ (shape k vs) s =
      need s (find_alt as₁ k) (λ a. need s (taken w s l) (λ t.
      need t (names_in g t a.names (parts w l vs)) (λ i. block u m q i g a.does (roots_in t (parts w l vs)))))

  -- names end, the newest first: what's still there is dropped
  pub ends : ℕ → Limits → Prog → Env → State → Res ℕ
  ends zero m q g s = stop out_of_fuel s
  ends (suc u) m q [] s = ok 0 s
  ends (suc u) m q (x ∷ xs) s =
      need s (read_at s (here x.root)) (λ v. then (drops u m q v (kill s x.root)) (λ k t. ends u m q xs t))

  -- a value is dropped: its last function is called, then its fields are dropped in order; a box: what's in it, then it
  pub drops : ℕ → Limits → Prog → Value → State → Res ℕ
  drops zero m q v s = stop out_of_fuel s
  drops (suc u) m q (int_v k) s = ok 0 s
  drops (suc u) m q (con_v k vs) s =
      need s (home_of q.datas k) (λ h.
      choose (eqb (length h.data1.last) 0)
      (drops_all u m q vs s)
      (need s (fn_named q.funs h.data1.last) (λ f. lasts u m q f (con_v k vs) s)))
  drops (suc u) m q (box_v r) s =
      need s (read_at s (here r)) (λ v. goes_under m 8 s (λ t. then (drops u m q v t) (λ k z. ok 0 (ends_box z r))))
  drops (suc u) m q (ref_v l) s = ok 0 s
  drops (suc u) m q hole s = ok 0 s

  -- the last function f works on the value as on a name's; then the fields of what it left are dropped
  pub lasts : ℕ → Limits → Prog → Fn → Value → State → Res ℕ
  lasts zero m q f v s = stop out_of_fuel s
  lasts (suc u) m q f v s =
      then (calls u m q f (ref_v (here (length s.roots)) ∷ []) (adds_root s v 0)) (λ k t.
      need t (read_at t (here (length s.roots))) (λ w. parts_of u m q w (kill t (length s.roots))))

  pub parts_of : ℕ → Limits → Prog → Value → State → Res ℕ
  parts_of zero m q v s = stop out_of_fuel s
  parts_of (suc u) m q (int_v k) s = ok 0 s
  parts_of (suc u) m q (con_v k vs) s = drops_all u m q vs s
  parts_of (suc u) m q (box_v r) s = ok 0 s
  parts_of (suc u) m q (ref_v l) s = ok 0 s
  parts_of (suc u) m q hole s = ok 0 s

  pub drops_all : ℕ → Limits → Prog → Values → State → Res ℕ
  drops_all zero m q vs s = stop out_of_fuel s
  drops_all (suc u) m q nil_v s = ok 0 s
  drops_all (suc u) m q (cons_v v vs) s = then (drops u m q v s) (λ k t. drops_all u m q vs t)

-- the state at the start
abbrev pub blank : List ℕ → State
blank ins = record { roots = []; classes = []; under = 0; turns = 0; ins = ins; outs = [] }

-- main is called
abbrev pub run : ℕ → Limits → Prog → List ℕ → Res Value
run u m q ins = need (blank ins) (fn_named q.funs w_main) (λ f. calls u m q f [] (blank ins))
