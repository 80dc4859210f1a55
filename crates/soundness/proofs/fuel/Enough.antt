-- EnoughFuel: with so many turns left, and all below that settled, everything is settled; so a run is, of any program.
use mathlib.Core.Bool.{Bool, true, false}
use mathlib.Core.List.{List, [], ◌∷◌}
use mathlib.Core.Option.{Option, some}
use mathlib.Core.Path.{◌≡◌, sym, ◌∙◌}
use Prim.Native.Nat.{ℕ, zero, suc}
use native.Mathlib.Omega.{arith}
use lib.Dec.{eqb}
use lib.ListN.{length}
use Rattle.language.specs.Base.{choose, Lexeme, same}
use Rattle.language.specs.Syntax.{Expr, num, var, op, ctor, boxed, call, share, lend, load, get_e, Exprs, Access, Stmt, Stmts, Alts, Body, Tail, Arms}
use Rattle.language.specs.Syntax.{Fn, Prog, nil_e, cons_e, nil_s, cons_s, assign, store, bind, put_s, cond, loop, match_s, open_s, inside, body, give}
use Rattle.language.specs.Syntax.{give_cond, give_match, no_alts, alt, no_arms, arm}
use Rattle.language.specs.Checks.{fn_named, w_main}
use Rattle.language.specs.Meaning.{Loc, Value, int_v, con_v, Values, State, Limits, out_of_fuel, Res, stop, Shape, here, list_of, eval, evals, calls}
use Rattle.language.specs.Meaning.{bodies, tails, by_shape, execs, block, exec, by_alt, ends, drops, lasts, parts_of, drops_all, run, blank, box_v}
use Rattle.language.specs.Meaning.{ref_v, hole, nil_v, cons_v, adds_root, moves, ok, Env, shape, roots_in, makes_box, newer, parts, Found, FoundArm}
use Rattle.language.specs.Meaning.{find_alt, find_arm}
use Rattle.language.specs.Says.{EnoughFuel}
use Rattle.soundness.proofs.fuel.Kept.{≼_trans, write_at_keeps, taken_keeps, kill_keeps, ends_box_keeps, roots_in_keeps}
use Rattle.soundness.proofs.fuel.Halting.{SettledWell, well_ok, well_stop, Halts, at_once, ok_halts, step, weaken, then_halts, need_halts}
use Rattle.soundness.proofs.fuel.Halting.{choose_halts, Room, Less, less_room, lower_room, turn_halts, call_under, drop_under, room_by}

module _ (m : Limits) (q : Prog) where
  pub record Level (T : ℕ) : Type 0 where
    pub bodies_at : (K : ℕ) (g h : Env) (d : Body) (s : State) → Room m T K s → Halts (Room m T K) (λ u. bodies u m q g h d s)
    pub exec_at : (K : ℕ) (g : Env) (x : Stmt) (s : State) → Room m T K s → Halts (Room m T K) (λ u. exec u m q g x s)
    pub parts_at : (K : ℕ) (v : Value) (s : State) → Room m T K s → Halts (Room m T K) (λ u. parts_of u m q v s)

by_choice : {A : Type 0} (X : A → Type 0) (t : Bool) {x y : A} → X x → X y → X (choose t x y)
by_choice X true h k = h
by_choice X false h k = k

by_found : {A : Type 0} (X : A → Type 0) (t : Bool) (x : A) (o : Option A) {a : A} → choose t (some x) o ≡ some a → X x → (o ≡ some a → X a) → X a
by_found X true x o e h k = let y : x ≡ _ = cc in rw y at h
by_found X false x o e h k = k e

module _ (m : Limits) (q : Prog) (T : ℕ) (lower : (j : ℕ) → suc j ≡ T → Level m q j) where
  calls_halts : (K : ℕ) (f : Fn) (vs : List Value) (s : State) → Room m T K s → Halts (Less m T K) (λ u. calls u m q f vs s)
  unfolding eval
  calls_halts K f vs s r =
      step _ (turn_halts m T K s r (λ j e t r1. weaken (λ z x. record { level = j; is_level = e; room = x })
      (call_under m j K _ t r1 (λ z r2. need_halts z _
      (λ g _. (lower j e).bodies_at K g [] f.does (roots_in z vs) (room_by (roots_in_keeps vs z) r2))))))

  lasts_halts : (K : ℕ) (f : Fn) (v : Value) (s : State) → Room m T K s → Halts (Room m T K) (λ u. lasts u m q f v s)
  unfolding eval
  lasts_halts K f v s r =
      step _ (then_halts (calls_halts K f _ (adds_root s v 0) (record { turns_left = r.turns_left; words_left = r.words_left }))
      (λ k t x. need_halts t _ (λ w _. weaken (lower_room x.is_level)
      ((lower x.level x.is_level).parts_at K w _ (room_by (kill_keeps t _) x.room)))))

  module _ (K : ℕ) (inner : (j : ℕ) → suc j ≡ K → (v : Value) (s : State) → Room m T j s → Halts (Room m T j) (λ u. drops u m q v s)) where
    mutual
      unfolding eval

      drops_v : (v : Value) (s : State) → Room m T K s → Halts (Room m T K) (λ u. drops u m q v s)
      drops_v (int_v k) s r = step _ (ok_halts r)
      drops_v (con_v k vs) s r =
          step _ (need_halts s _ (λ h _. choose_halts (eqb (length h.data1.last) 0) (λ _. drops_vs vs s r)
          (λ _. need_halts s _ (λ f _. lasts_halts K f (con_v k vs) s r))))
      drops_v (box_v i) s r =
          step _ (need_halts s _ (λ v _. drop_under m T K s r
          (λ j e t r1. then_halts (inner j e v t r1) (λ k z r2. ok_halts (room_by (ends_box_keeps z i) r2)))))
      drops_v (ref_v l) s r = step _ (ok_halts r)
      drops_v hole s r = step _ (ok_halts r)

      drops_vs : (vs : Values) (s : State) → Room m T K s → Halts (Room m T K) (λ u. drops_all u m q vs s)
      drops_vs nil_v s r = step _ (ok_halts r)
      drops_vs (cons_v v vs) s r = step _ (then_halts (drops_v v s r) (λ k t r1. drops_vs vs t r1))

  drops_halts : (K : ℕ) (v : Value) (s : State) → Room m T K s → Halts (Room m T K) (λ u. drops u m q v s)
  drops_halts zero v s r = drops_v zero (λ j e. absurd (omega arith)) v s r
  drops_halts (suc K) v s r = drops_v (suc K) (λ j e v1 s1 r1. let x : j ≡ K = omega arith in rw x (drops_halts K v1 s1 (rw x at r1))) v s r

  drops_all_halts : (K : ℕ) (vs : Values) (s : State) → Room m T K s → Halts (Room m T K) (λ u. drops_all u m q vs s)
  drops_all_halts zero vs s r = drops_vs zero (λ j e. absurd (omega arith)) vs s r
  drops_all_halts (suc K) vs s r = drops_vs (suc K) (λ j e v1 s1 r1. let x : j ≡ K = omega arith in rw x (drops_halts K v1 s1 (rw x at r1))) vs s r

  parts_of_halts : (K : ℕ) (v : Value) (s : State) → Room m T K s → Halts (Room m T K) (λ u. parts_of u m q v s)
  unfolding eval
  parts_of_halts K (int_v k) s r = step _ (ok_halts r)
  parts_of_halts K (con_v k vs) s r = step _ (drops_all_halts K vs s r)
  parts_of_halts K (box_v i) s r = step _ (ok_halts r)
  parts_of_halts K (ref_v l) s r = step _ (ok_halts r)
  parts_of_halts K hole s r = step _ (ok_halts r)

  ends_halts : (K : ℕ) (g : Env) (s : State) → Room m T K s → Halts (Room m T K) (λ u. ends u m q g s)
  unfolding eval
  ends_halts K [] s r = step _ (ok_halts r)
  ends_halts K (x ∷ xs) s r =
      step _ (need_halts s _ (λ v _. then_halts (drops_halts K v _ (room_by (kill_keeps s x.root) r)) (λ k t r1. ends_halts K xs t r1)))

  moves_halts : (K : ℕ) (s : State) (i : ℕ) (v : Value) → Room m T K s → Halts (Room m T K) (λ u. moves s i v)
  moves_halts K s i (int_v k) r = ok_halts r
  moves_halts K s i (con_v k vs) r = need_halts s _ (λ t e. ok_halts (room_by (write_at_keeps s (here i) hole e) r))
  moves_halts K s i (box_v j) r = need_halts s _ (λ t e. ok_halts (room_by (write_at_keeps s (here i) hole e) r))
  moves_halts K s i (ref_v l) r = ok_halts r
  moves_halts K s i hole r = at_once (well_stop (λ e. grind arith))

  makes_halts : (K : ℕ) (s : State) (v : Value) (k : ℕ) → Room m T K s → Halts (Room m T K) (λ u. makes_box m s v k)
  makes_halts K s v k r =
      choose_halts _ {x = λ u. ok _ _} {y = λ u. stop _ _} (λ e. ok_halts (record { turns_left = r.turns_left; words_left = r.words_left }))
      (λ e. at_once (well_stop (λ x. grind arith)))

  mutual
    unfolding eval

    eval_halts : (e : Expr) (K : ℕ) (g : Env) (s : State) → Room m T K s → Halts (Room m T K) (λ u. eval u m q g e s)
    eval_halts (num k) K g s r = step _ (ok_halts r)
    eval_halts (var x) K g s r = step _ (need_halts s _ (λ i _. need_halts s _ (λ v _. moves_halts K s i v r)))
    eval_halts (op o d e) K g s r =
        step _ (then_halts (eval_halts d K g s r)
        (λ v t r1. then_halts (eval_halts e K g t r1) (λ w z r2. need_halts z _ (λ x _. need_halts z _ (λ y _. ok_halts r2)))))
    eval_halts (ctor k es) K g s r = step _ (then_halts (evals_halts es K g nil_v s r) (λ vs t r1. ok_halts r1))
    eval_halts (boxed e) K g s r = step _ (then_halts (eval_halts e K g s r) (λ v t r1. makes_halts K t v _ r1))
    eval_halts (call f es) K g s r =
        step _ (then_halts (evals_halts es K g nil_v s r) (λ vs t r1. need_halts t _ (λ k _. weaken less_room (calls_halts K k (list_of vs) t r1))))
    eval_halts (share x) K g s r = step _ (need_halts s _ (λ i _. need_halts s _ (λ v _. ok_halts r)))
    eval_halts (lend x) K g s r = step _ (need_halts s _ (λ i _. ok_halts r))
    eval_halts (load x) K g s r =
        step _ (need_halts s _ (λ i _. need_halts s _ (λ v _. need_halts s _ (λ l _. need_halts s _ (λ w _. need_halts s _ (λ k _. ok_halts r))))))
    eval_halts get_e K g s r = step _ (ok_halts (record { turns_left = r.turns_left; words_left = r.words_left }))

    evals_halts : (es : Exprs) (K : ℕ) (g : Env) (vs : Values) (s : State) → Room m T K s → Halts (Room m T K) (λ u. evals u m q g es vs s)
    evals_halts nil_e K g vs s r = step _ (ok_halts r)
    evals_halts (cons_e e es) K g vs s r = step _ (then_halts (eval_halts e K g s r) (λ v t r1. evals_halts es K g _ t r1))

  block_from : (K : ℕ) (g h : Env) (ss : Stmts) (s : State) → Halts (Room m T K) (λ u. execs u m q g ss s)
      → Halts (Room m T K) (λ u. block u m q g h ss s)
  unfolding eval
  block_from K g h ss s x = step _ (then_halts x (λ i t r1. then_halts (ends_halts K (newer i h) t r1) (λ k z r2. ok_halts r2)))

  alt_from : (K : ℕ) (g : Env) (w : Access) (l : Loc) (as₁ : Alts) (y : Shape) (s : State) → Room m T K s
      → ((k : Lexeme) (a : Found) → find_alt as₁ k ≡ some a → (i : Env) (t : State) → Room m T K t
      → Halts (Room m T K) (λ u. execs u m q i a.does t)) → Halts (Room m T K) (λ u. by_alt u m q g w l as₁ y s)
  unfolding eval
  alt_from K g w l as₁ (shape k vs) s r f =
      step _ (need_halts s _ (λ a e. need_halts s _
      (λ t e1. need_halts t _ (λ i _. block_from K i g a.does _
      (f k a e i _ (room_by (roots_in_keeps (parts w l vs) t) (room_by (taken_keeps w s l e1) r)))))))

  mutual
    unfolding eval

    exec_halts : (x : Stmt) (K : ℕ) (g : Env) (s : State) → Room m T K s → Halts (Room m T K) (λ u. exec u m q g x s)
    exec_halts (bind x e) K g s r =
        step _ (then_halts (eval_halts e K g s r) (λ v t r1. ok_halts (record { turns_left = r1.turns_left; words_left = r1.words_left })))
    exec_halts (assign x e) K g s r =
        step _ (then_halts (eval_halts e K g s r)
        (λ v t r1. need_halts t _ (λ i _. need_halts t _
        (λ old _. need_halts t _ (λ z e1. then_halts (drops_halts K old z (room_by (write_at_keeps t (here i) v e1) r1)) (λ k y r2. ok_halts r2))))))
    exec_halts (store x e) K g s r =
        step _ (then_halts (eval_halts e K g s r)
        (λ v t r1. need_halts t _ (λ i _. need_halts t _
        (λ w _. need_halts t _ (λ l _. need_halts t _
        (λ old _. need_halts t _ (λ z e1. then_halts (drops_halts K old z (room_by (write_at_keeps t l v e1) r1)) (λ k y r2. ok_halts r2))))))))
    exec_halts (put_s e) K g s r =
        step _ (then_halts (eval_halts e K g s r)
        (λ v t r1. need_halts t _ (λ k _. ok_halts (record { turns_left = r1.turns_left; words_left = r1.words_left }))))
    exec_halts (cond e d f) K g s r =
        step _ (then_halts (eval_halts e K g s r)
        (λ v t r1. need_halts t _ (λ k _. by_choice (λ x. Halts (Room m T K) (λ u. block u m q g g x t)) (eqb k 0)
        (block_from K g g f t (execs_halts f K g t r1)) (block_from K g g d t (execs_halts d K g t r1)))))
    exec_halts (loop e d) K g s r =
        step _ (then_halts (eval_halts e K g s r)
        (λ v t r1. need_halts t _ (λ k _. choose_halts (eqb k 0) {x = λ u. ok g t} (λ _. ok_halts r1)
        (λ _. then_halts (block_from K g g d t (execs_halts d K g t r1))
        (λ i z r2. turn_halts m T K z r2 (λ j e1 y r3. weaken (lower_room e1) ((lower j e1).exec_at K g (loop e d) y r3)))))))
    exec_halts (match_s w x as₁) K g s r =
        step _ (need_halts s _ (λ i _. need_halts s _
        (λ v _. need_halts s _ (λ z _. need_halts s _ (λ y _. alt_from K g w _ as₁ y s r (λ k a e i t r1. alts_halts as₁ k a e K i t r1))))))
    exec_halts (open_s x y) K g s r =
        step _ (need_halts s _ (λ i _. need_halts s _
        (λ v _. need_halts s _ (λ j _. need_halts s _
        (λ w _. need_halts s _ (λ t e. ok_halts (room_by
        (≼_trans (write_at_keeps s (here i) hole e) (≼_trans (ends_box_keeps t j) (grind arith))) r)))))))
    exec_halts (inside x y) K g s r =
        step _ (need_halts s _ (λ i _. need_halts s _
        (λ v _. need_halts s _ (λ l _. need_halts s _
        (λ w _. need_halts s _ (λ j _. ok_halts (record { turns_left = r.turns_left; words_left = r.words_left })))))))

    execs_halts : (ss : Stmts) (K : ℕ) (g : Env) (s : State) → Room m T K s → Halts (Room m T K) (λ u. execs u m q g ss s)
    execs_halts nil_s K g s r = step _ (ok_halts r)
    execs_halts (cons_s x ss) K g s r =
        step _ (then_halts (turn_halts m T K s r (λ j e t r1. exec_halts x K g t (lower_room e t r1))) (λ h t r1. execs_halts ss K h t r1))

    alts_halts : (as₁ : Alts) (k : Lexeme) (a : Found) → find_alt as₁ k ≡ some a → (K : ℕ) (g : Env) (s : State) → Room m T K s
        → Halts (Room m T K) (λ u. execs u m q g a.does s)
    alts_halts no_alts k a e K g s r = absurd (grind arith)
    alts_halts (alt d xs ss as₁) k a e K g s r =
        by_found (λ (x : Found). Halts (Room m T K) (λ u. execs u m q g x.does s)) (same d k) (record { names = xs; does = ss }) (find_alt as₁ k) e
        (execs_halts ss K g s r) (λ e1. alts_halts as₁ k a e1 K g s r)

  arm_from : (K : ℕ) (g : Env) (w : Access) (l : Loc) (as₁ : Arms) (y : Shape) (s : State) → Room m T K s
      → ((k : Lexeme) (a : FoundArm) → find_arm as₁ k ≡ some a → (i : Env) (t : State) → Room m T K t
      → Halts (Room m T K) (λ u. bodies u m q i g a.does t)) → Halts (Room m T K) (λ u. by_shape u m q g w l as₁ y s)
  unfolding eval
  arm_from K g w l as₁ (shape k vs) s r f =
      step _ (need_halts s _ (λ a e. need_halts s _
      (λ t e1. need_halts t _ (λ i _. f k a e i _ (room_by (roots_in_keeps (parts w l vs) t) (room_by (taken_keeps w s l e1) r))))))

  mutual
    unfolding eval

    bodies_halts : (d : Body) (K : ℕ) (g h : Env) (s : State) → Room m T K s → Halts (Room m T K) (λ u. bodies u m q g h d s)
    bodies_halts (body ss t) K g h s r =
        step _ (then_halts (execs_halts ss K g s r)
        (λ i z r1. then_halts (tails_halts t K i z r1) (λ v y r2. then_halts (ends_halts K (newer i h) y r2) (λ k x r3. ok_halts r3))))

    tails_halts : (t : Tail) (K : ℕ) (g : Env) (s : State) → Room m T K s → Halts (Room m T K) (λ u. tails u m q g t s)
    tails_halts (give e) K g s r = step _ (eval_halts e K g s r)
    tails_halts (give_cond e d f) K g s r =
        step _ (then_halts (eval_halts e K g s r)
        (λ v t r1. need_halts t _ (λ k _. by_choice (λ x. Halts (Room m T K) (λ u. bodies u m q g g x t)) (eqb k 0) (bodies_halts f K g g t r1)
        (bodies_halts d K g g t r1))))
    tails_halts (give_match w x as₁) K g s r =
        step _ (need_halts s _ (λ i _. need_halts s _
        (λ v _. need_halts s _ (λ z _. need_halts s _ (λ y _. arm_from K g w _ as₁ y s r (λ k a e i1 t r1. arms_halts as₁ k a e K i1 g t r1))))))

    arms_halts : (as₁ : Arms) (k : Lexeme) (a : FoundArm) → find_arm as₁ k ≡ some a → (K : ℕ) (g h : Env) (s : State) → Room m T K s
        → Halts (Room m T K) (λ u. bodies u m q g h a.does s)
    arms_halts no_arms k a e K g h s r = absurd (grind arith)
    arms_halts (arm d xs ss as₁) k a e K g h s r =
        by_found (λ (x : FoundArm). Halts (Room m T K) (λ u. bodies u m q g h x.does s)) (same d k) (record { names = xs; does = ss })
        (find_arm as₁ k) e (bodies_halts ss K g h s r) (λ e1. arms_halts as₁ k a e1 K g h s r)

  pub this_level : Level m q T
  this_level = record { bodies_at = λ K g h d s r. bodies_halts d K g h s r; exec_at = λ K g x s r. exec_halts x K g s r; parts_at = parts_of_halts }

pub every_level : (m : Limits) (q : Prog) (T : ℕ) → Level m q T
every_level m q zero = this_level m q zero (λ j e. absurd (omega arith))
every_level m q (suc T) = this_level m q (suc T) (λ j e. let x : j ≡ T = omega arith in rw x (every_level m q T))

pub run_halts : (m : Limits) (q : Prog) (ins : List ℕ) → Halts (Less m (suc m.max_turns) m.stack) (λ u. run u m q ins)
run_halts m q ins =
    need_halts (blank ins) (fn_named q.funs w_main)
    (λ f _. calls_halts m q (suc m.max_turns) (λ j e. every_level m q j) m.stack f [] (blank ins)
    (record { turns_left = omega arith; words_left = omega arith }))

not_late : {A : Type 0} {R : State → Type 0} {r : Res A} → SettledWell R r → (s : State) → r ≡ stop out_of_fuel s → ⊥
not_late (well_ok h) s e = grind arith
not_late (well_stop h) s e = h (cc)

-- of any program, accepted or not
pub enough_fuel : EnoughFuel
enough_fuel m q ins = let x = run_halts m q ins in (x.with_fuel, λ w s l e. not_late x.well s (sym (x.settled w l) ∙ e))
