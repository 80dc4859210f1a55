-- MoreFuel: each function of the meaning, with more fuel, gives the same, or it was out of fuel.
use mathlib.Core.List.{List, [], ◌∷◌}
use Prim.Native.Nat.{ℕ, ◌≤◌, zero-le, suc-le-suc}
use Rattle.language.specs.Syntax.{Expr, num, var, op, ctor, boxed, call, share, lend, load, get_e, Exprs, Access, Stmt, Stmts, Alts, Body, Tail, Arms}
use Rattle.language.specs.Syntax.{Fn, Prog, nil_e, cons_e, nil_s, cons_s, assign, store, bind, put_s, cond, loop, match_s, open_s, inside, body, give}
use Rattle.language.specs.Syntax.{give_cond, give_match}
use Rattle.language.specs.Checks.{fn_named, w_main}
use Rattle.language.specs.Meaning.{Loc, Value, int_v, con_v, Values, State, Limits, Shape, eval, evals, calls, bodies, tails, by_shape, execs, block}
use Rattle.language.specs.Meaning.{exec, by_alt, ends, drops, lasts, parts_of, drops_all, blank, box_v, ref_v, hole, nil_v, cons_v, Env, shape}
use Rattle.language.specs.Says.{MoreFuel}
use Rattle.soundness.proofs.fuel.Below.{◌⊑◌, is_late, alike, then_⊑, need-⊑, choose-⊑, turn-⊑, under-⊑, not_late}

ruleset ups = (then_⊑, need-⊑, choose-⊑, turn-⊑, under-⊑, alike)

module _ (m : Limits) (q : Prog) where
  mutual
    unfolding eval

    pub eval_up : {u w : ℕ} → u ≤ w → (g : Env) (e : Expr) (s : State) → eval u m q g e s ⊑ eval w m q g e s
    eval_up zero-le g e s = is_late
    eval_up (suc-le-suc h) g (num k) s = alike
    eval_up (suc-le-suc h) g (var x) s = alike
    eval_up (suc-le-suc h) g (op o d e) s = search (ups, eval_up h) depth 12
    eval_up (suc-le-suc h) g (ctor k es) s = search (ups, evals_up h) depth 12
    eval_up (suc-le-suc h) g (boxed e) s = search (ups, eval_up h) depth 12
    eval_up (suc-le-suc h) g (call f es) s = search (ups, evals_up h, calls_up h) depth 12
    eval_up (suc-le-suc h) g (share x) s = alike
    eval_up (suc-le-suc h) g (lend x) s = alike
    eval_up (suc-le-suc h) g (load x) s = alike
    eval_up (suc-le-suc h) g get_e s = alike

    pub evals_up : {u w : ℕ} → u ≤ w → (g : Env) (es : Exprs) (vs : Values) (s : State) → evals u m q g es vs s ⊑ evals w m q g es vs s
    evals_up zero-le g es vs s = is_late
    evals_up (suc-le-suc h) g nil_e vs s = alike
    evals_up (suc-le-suc h) g (cons_e e es) vs s = search (ups, eval_up h, evals_up h) depth 12

    pub calls_up : {u w : ℕ} → u ≤ w → (f : Fn) (vs : List Value) (s : State) → calls u m q f vs s ⊑ calls w m q f vs s
    calls_up zero-le f vs s = is_late
    calls_up (suc-le-suc h) f vs s = search (ups, bodies_up h) depth 12

    pub bodies_up : {u w : ℕ} → u ≤ w → (g g1 : Env) (d : Body) (s : State) → bodies u m q g g1 d s ⊑ bodies w m q g g1 d s
    bodies_up zero-le g g1 d s = is_late
    bodies_up (suc-le-suc h) g g1 (body ss t) s = search (ups, tails_up h, execs_up h, ends_up h) depth 12

    pub tails_up : {u w : ℕ} → u ≤ w → (g : Env) (t : Tail) (s : State) → tails u m q g t s ⊑ tails w m q g t s
    tails_up zero-le g t s = is_late
    tails_up (suc-le-suc h) g (give e) s = search (ups, eval_up h) depth 12
    tails_up (suc-le-suc h) g (give_cond e d f) s = search (ups, eval_up h, bodies_up h) depth 12
    tails_up (suc-le-suc h) g (give_match w x as₁) s = search (ups, by_shape_up h) depth 12

    pub by_shape_up : {u w : ℕ} → u ≤ w → (g : Env) (y1 : Access) (l : Loc) (as₁ : Arms) (y : Shape) (s : State)
        → by_shape u m q g y1 l as₁ y s ⊑ by_shape w m q g y1 l as₁ y s
    by_shape_up zero-le g w l as₁ y s = is_late
    by_shape_up (suc-le-suc h) g w l as₁ (shape k vs) s = search (ups, bodies_up h) depth 12

    pub execs_up : {u w : ℕ} → u ≤ w → (g : Env) (ss : Stmts) (s : State) → execs u m q g ss s ⊑ execs w m q g ss s
    execs_up zero-le g ss s = is_late
    execs_up (suc-le-suc h) g nil_s s = alike
    execs_up (suc-le-suc h) g (cons_s x ss) s = search (ups, execs_up h, exec_up h) depth 12

    pub block_up : {u w : ℕ} → u ≤ w → (g g1 : Env) (ss : Stmts) (s : State) → block u m q g g1 ss s ⊑ block w m q g g1 ss s
    block_up zero-le g g1 ss s = is_late
    block_up (suc-le-suc h) g g1 ss s = search (ups, execs_up h, ends_up h) depth 12

    pub exec_up : {u w : ℕ} → u ≤ w → (g : Env) (x : Stmt) (s : State) → exec u m q g x s ⊑ exec w m q g x s
    exec_up zero-le g x s = is_late
    exec_up (suc-le-suc h) g (bind x e) s = search (ups, eval_up h) depth 12
    exec_up (suc-le-suc h) g (assign x e) s = search (ups, eval_up h, drops_up h) depth 12
    exec_up (suc-le-suc h) g (store x e) s = search (ups, eval_up h, drops_up h) depth 12
    exec_up (suc-le-suc h) g (put_s e) s = search (ups, eval_up h) depth 12
    exec_up (suc-le-suc h) g (cond e d f) s = search (ups, eval_up h, block_up h) depth 12
    exec_up (suc-le-suc h) g (loop e d) s = search (ups, eval_up h, block_up h, exec_up h) depth 12
    exec_up (suc-le-suc h) g (match_s w x as₁) s = search (ups, by_alt_up h) depth 12
    exec_up (suc-le-suc h) g (open_s x y) s = alike
    exec_up (suc-le-suc h) g (inside x y) s = alike

    pub by_alt_up : {u w : ℕ} → u ≤ w → (g : Env) (y1 : Access) (l : Loc) (as₁ : Alts) (y : Shape) (s : State)
        → by_alt u m q g y1 l as₁ y s ⊑ by_alt w m q g y1 l as₁ y s
    by_alt_up zero-le g w l as₁ y s = is_late
    by_alt_up (suc-le-suc h) g w l as₁ (shape k vs) s = search (ups, block_up h) depth 12

    pub ends_up : {u w : ℕ} → u ≤ w → (g : Env) (s : State) → ends u m q g s ⊑ ends w m q g s
    ends_up zero-le g s = is_late
    ends_up (suc-le-suc h) [] s = alike
    ends_up (suc-le-suc h) (x ∷ xs) s = search (ups, ends_up h, drops_up h) depth 12

    pub drops_up : {u w : ℕ} → u ≤ w → (v : Value) (s : State) → drops u m q v s ⊑ drops w m q v s
    drops_up zero-le v s = is_late
    drops_up (suc-le-suc h) (int_v k) s = alike
    drops_up (suc-le-suc h) (con_v k vs) s = search (ups, lasts_up h, drops_all_up h) depth 12
    drops_up (suc-le-suc h) (box_v r) s = search (ups, drops_up h) depth 12
    drops_up (suc-le-suc h) (ref_v l) s = alike
    drops_up (suc-le-suc h) hole s = alike

    pub lasts_up : {u w : ℕ} → u ≤ w → (f : Fn) (v : Value) (s : State) → lasts u m q f v s ⊑ lasts w m q f v s
    lasts_up zero-le f v s = is_late
    lasts_up (suc-le-suc h) f v s = search (ups, calls_up h, parts_of_up h) depth 12

    pub parts_of_up : {u w : ℕ} → u ≤ w → (v : Value) (s : State) → parts_of u m q v s ⊑ parts_of w m q v s
    parts_of_up zero-le v s = is_late
    parts_of_up (suc-le-suc h) (int_v k) s = alike
    parts_of_up (suc-le-suc h) (con_v k vs) s = search (ups, drops_all_up h) depth 12
    parts_of_up (suc-le-suc h) (box_v r) s = alike
    parts_of_up (suc-le-suc h) (ref_v l) s = alike
    parts_of_up (suc-le-suc h) hole s = alike

    pub drops_all_up : {u w : ℕ} → u ≤ w → (vs : Values) (s : State) → drops_all u m q vs s ⊑ drops_all w m q vs s
    drops_all_up zero-le vs s = is_late
    drops_all_up (suc-le-suc h) nil_v s = alike
    drops_all_up (suc-le-suc h) (cons_v v vs) s = search (ups, drops_up h, drops_all_up h) depth 12

pub more_fuel : MoreFuel
more_fuel u w m q ins h k = not_late (need-⊑ (blank ins) (fn_named q.funs w_main) (λ f. calls_up m q h f [] (blank ins))) k
