-- Every function of the meaning keeps what numbers satisfy, and what is said of the numbers shown.
use mathlib.Core.Bool.{Bool, true, false}
use mathlib.Core.List.{List, [], ◌∷◌, ◌++◌}
use mathlib.Core.Option.{some}
use mathlib.Core.Path.{◌≡◌, subst}
use Prim.Native.Nat.{ℕ, zero, suc, ◌+◌}
use lib.Dec.{eqb}
use lib.ListN.{length}
use Rattle.language.specs.Base.{choose, if_some, Lexeme, same}
use Rattle.language.specs.Syntax.{Expr, num, var, op, ctor, boxed, call, share, lend, load, get_e, Exprs, nil_e, cons_e, Access, Stmt, bind, assign}
use Rattle.language.specs.Syntax.{store, put_s, cond, loop, match_s, open_s, inside, Stmts, nil_s, cons_s, Alts, no_alts, alt, Body, body, Tail, give}
use Rattle.language.specs.Syntax.{give_cond, give_match, Arms, no_arms, arm, Fn, Prog}
use Rattle.language.specs.Checks.{fn_named}
use Rattle.language.specs.Meaning.{Loc, Value, int_v, con_v, box_v, ref_v, hole, Values, nil_v, cons_v, State, Limits, Env, Shape, shape, Found}
use Rattle.language.specs.Meaning.{FoundArm, two_64, worked, next_read, here, read_at, write_at, place_of, shape_of, num_of, there, moves, makes_box}
use Rattle.language.specs.Meaning.{adds_root, kill, ends_box, with_under, append, list_of, parts, find_alt, find_arm, frame, newer, eval, evals}
use Rattle.language.specs.Meaning.{calls, bodies, tails, by_shape, execs, block, exec, by_alt, ends, drops, lasts, parts_of, drops_all}
use Rattle.soundness.specs.Numbers.{Every, Numbers, NumbersOf, ShapeNumbers, StateNumbers, LiteralsE, LiteralsEs, LiteralsS, LiteralsSs}
use Rattle.soundness.specs.Numbers.{LiteralsAlts, LiteralsBody, LiteralsTail, LiteralsArms, Literals, NumbersKept}
use Rattle.soundness.proofs.Basics.{no_some, some_is, if_some_is}
use Rattle.soundness.proofs.numbers.Memory.{append_numbers, list_numbers, parts_numbers, read_numbers, write_numbers, push_numbers, kill_numbers}
use Rattle.soundness.proofs.numbers.Memory.{end_box_numbers, roots_numbers, taken_numbers}
use Rattle.soundness.proofs.numbers.Meets.{Meets, by_ok, by_stop, behind, then_meets, need_meets, choose_meets, turned, turn_meets, under_meets}

-- L is kept by arithmetic and holds of what is read; Q is kept where a number is shown, and where 'get' leaves its mark
pub record Closed (L : ℕ → Type 0) (Q : List ℕ → Type 0) : Type 0 where
  pub worked_out : (o x y : ℕ) → L x → L y → L (worked o x y)
  pub read_in : (ins : List ℕ) → L (next_read ins)
  pub shown_next : (os : List ℕ) (k : ℕ) → L k → Q os → Q (os ++ (k ∷ []))
  pub marked : (os : List ℕ) → Q os → Q (os ++ (two_64 ∷ []))

module _ (L : ℕ → Type 0) (Q : List ℕ → Type 0) (cl : Closed L Q) where
  abbrev P : State → Type 0
  P s = StateNumbers L Q s

  -- what touches neither roots nor numbers shown
  under_kept : (t : State) (j : ℕ) → P t → P (with_under t j)
  under_kept t j h = record { stored = h.stored; shown = h.shown }

  turned_kept : (s : State) → P s → P (turned s)
  turned_kept s h = record { stored = h.stored; shown = h.shown }

  num_numbers : (v : Value) (k : ℕ) → Numbers L v → num_of v ≡ some k → L k
  num_numbers (int_v j) k h e = let same1 : j ≡ k = some_is e in rw same1 at h
  num_numbers (con_v c vs) k h e = absurd (no_some e)
  num_numbers (box_v r) k h e = absurd (no_some e)
  num_numbers (ref_v l) k h e = absurd (no_some e)
  num_numbers hole k h e = absurd (no_some e)

  shape_numbers : (v : Value) (y : Shape) → Numbers L v → shape_of v ≡ some y → ShapeNumbers L y
  shape_numbers (int_v j) y h e = absurd (no_some e)
  shape_numbers (con_v c ws) y h e = subst (ShapeNumbers L) (some_is e) h
  shape_numbers (box_v r) y h e = absurd (no_some e)
  shape_numbers (ref_v l) y h e = absurd (no_some e)
  shape_numbers hole y h e = absurd (no_some e)

  there_is : (w v : Value) → there w ≡ some v → w ≡ v
  there_is (int_v k) v e = some_is e
  there_is (con_v k vs) v e = some_is e
  there_is (box_v r) v e = some_is e
  there_is (ref_v l) v e = some_is e
  there_is hole v e = absurd (no_some e)

  there_numbers : (s : State) (l : Loc) (v : Value) → P s → if_some (read_at s l) there ≡ some v → Numbers L v
  there_numbers s l v h e =
      let a = if_some_is (read_at s l) there v e in
      subst (Numbers L) (there_is a.0 v a.2) (read_numbers L s l a.0 h.stored a.1)

  pub fn_literals : (fs : List Fn) (x : Lexeme) (f : Fn) → Every (λ (z : Fn). LiteralsBody L z.does) fs → fn_named fs x ≡ some f
      → LiteralsBody L f.does
  fn_literals [] x f h e = absurd (no_some e)
  fn_literals (z ∷ fs) x f h e = go (same z.name x) e (fn_literals fs x f h.1)
    where
      go : (t : Bool) → choose t (some z) (fn_named fs x) ≡ some f → (fn_named fs x ≡ some f → LiteralsBody L f.does) → LiteralsBody L f.does
      go true e1 ih = let same1 : z ≡ f = some_is e1 in rw same1 at h.0
      go false e1 ih = ih e1

  alt_literals : (as₁ : Alts) (k : Lexeme) (a : Found) → LiteralsAlts L as₁ → find_alt as₁ k ≡ some a → LiteralsSs L a.does
  alt_literals no_alts k a h e = absurd (no_some e)
  alt_literals (alt d xs ss as₁) k a h e = go (same d k) e (alt_literals as₁ k a h.1)
    where
      go : (t : Bool) → choose t (some (record { names = xs; does = ss })) (find_alt as₁ k) ≡ some a
          → (find_alt as₁ k ≡ some a → LiteralsSs L a.does) → LiteralsSs L a.does
      go true e1 ih = subst (λ (z : Found). LiteralsSs L z.does) (some_is e1) h.0
      go false e1 ih = ih e1

  arm_literals : (as₁ : Arms) (k : Lexeme) (a : FoundArm) → LiteralsArms L as₁ → find_arm as₁ k ≡ some a → LiteralsBody L a.does
  arm_literals no_arms k a h e = absurd (no_some e)
  arm_literals (arm d xs b as₁) k a h e = go (same d k) e (arm_literals as₁ k a h.1)
    where
      go : (t : Bool) → choose t (some (record { names = xs; does = b })) (find_arm as₁ k) ≡ some a
          → (find_arm as₁ k ≡ some a → LiteralsBody L a.does) → LiteralsBody L a.does
      go true e1 ih = subst (λ (z : FoundArm). LiteralsBody L z.does) (some_is e1) h.0
      go false e1 ih = ih e1

  moves_meets : (s : State) (r : ℕ) (v : Value) → Numbers L v → P s → Meets (Numbers L) P (moves s r v)
  moves_meets s r (int_v k) n p = by_ok n p
  moves_meets s r (con_v k vs) n p = need_meets s (write_at s (here r) hole) p (λ t e. by_ok n (write_numbers L Q s (here r) hole t p tt e))
  moves_meets s r (box_v i) n p = need_meets s (write_at s (here r) hole) p (λ t e. by_ok tt (write_numbers L Q s (here r) hole t p tt e))
  moves_meets s r (ref_v l) n p = by_ok tt p
  moves_meets s r hole n p = by_stop p

  box_meets : (m : Limits) (s : State) (v : Value) (k : ℕ) → Numbers L v → P s → Meets (Numbers L) P (makes_box m s v k)
  box_meets m s v k n p =
      let q = push_numbers L Q s v k p n in
      choose_meets _ (by_ok tt (record { stored = q.stored; shown = q.shown })) (by_stop p)

  either : {A : Type 0} (X : A → Type 0) (t : Bool) {x y : A} → X x → X y → X (choose t x y)
  either X true h k = h
  either X false h k = k

  abbrev Any : {A : Type 0} → A → Type 0
  Any a = Unit {0}

  module _ (m : Limits) (q : Prog) (lits : Literals L q) where
    mutual
      unfolding eval

      pub eval_meets : (u : ℕ) (g : Env) (e : Expr) (s : State) → LiteralsE L e → P s → Meets (Numbers L) P (eval u m q g e s)
      eval_meets zero g e s le p = by_stop p
      eval_meets (suc u) g (num k) s le p = by_ok le p
      eval_meets (suc u) g (var x) s le p =
          need_meets s _ p (λ r _. need_meets s _ p (λ v ev. moves_meets s r v (read_numbers L s (here r) v p.stored ev) p))
      eval_meets (suc u) g (op o d e) s le p =
          then_meets (eval_meets u g d s le.0 p) (λ v t nv pt. then_meets (eval_meets u g e t le.1 pt) (λ w z nw pz.
          need_meets z _ pz (λ x ex. need_meets z _ pz (λ y ey. by_ok (cl.worked_out o x y (num_numbers v x nv ex) (num_numbers w y nw ey)) pz))))
      eval_meets (suc u) g (ctor k es) s le p = then_meets (evals_meets u g es nil_v s le tt p) (λ vs t ns pt. by_ok ns pt)
      eval_meets (suc u) g (boxed e) s le p = then_meets (eval_meets u g e s le p) (λ v t nv pt. box_meets m t v _ nv pt)
      eval_meets (suc u) g (call f es) s le p =
          then_meets (evals_meets u g es nil_v s le tt p)
          (λ vs t ns pt. need_meets t _ pt (λ k ek. calls_meets u k (list_of vs) t (fn_literals q.funs f k lits ek) (list_numbers L vs ns) pt))
      eval_meets (suc u) g (share x) s le p = need_meets s _ p (λ r _. need_meets s _ p (λ v _. by_ok tt p))
      eval_meets (suc u) g (lend x) s le p = need_meets s _ p (λ r _. by_ok tt p)
      eval_meets (suc u) g (load x) s le p =
          need_meets s _ p (λ r _. need_meets s _ p (λ v _. need_meets s _ p (λ l _. need_meets s _ p (λ w ew. need_meets s _ p (λ k ek.
          by_ok (num_numbers w k (read_numbers L s l w p.stored ew) ek) p)))))
      eval_meets (suc u) g get_e s le p = by_ok (cl.read_in s.ins) (record { stored = p.stored; shown = cl.marked s.outs p.shown })

      pub evals_meets : (u : ℕ) (g : Env) (es : Exprs) (vs : Values) (s : State) → LiteralsEs L es → NumbersOf L vs → P s
          → Meets (NumbersOf L) P (evals u m q g es vs s)
      evals_meets zero g es vs s le ns p = by_stop p
      evals_meets (suc u) g nil_e vs s le ns p = by_ok ns p
      evals_meets (suc u) g (cons_e e es) vs s le ns p =
          then_meets (eval_meets u g e s le.0 p) (λ v t nv pt. evals_meets u g es (append vs v) t le.1 (append_numbers L vs v ns nv) pt)

      pub calls_meets : (u : ℕ) (f : Fn) (vs : List Value) (s : State) → LiteralsBody L f.does → Every (Numbers L) vs → P s
          → Meets (Numbers L) P (calls u m q f vs s)
      calls_meets zero f vs s le ns p = by_stop p
      calls_meets (suc u) f vs s le ns p =
          turn_meets m s _ p (under_meets m (frame q f) (turned s) _ under_kept (turned_kept s p)
          (need_meets _ _ (under_kept (turned s) _ (turned_kept s p)) (λ g _.
          bodies_meets u g [] f.does _ le (roots_numbers L Q _ vs (under_kept (turned s) _ (turned_kept s p)) ns))))

      pub bodies_meets : (u : ℕ) (g h : Env) (d : Body) (s : State) → LiteralsBody L d → P s → Meets (Numbers L) P (bodies u m q g h d s)
      bodies_meets zero g h d s le p = by_stop p
      bodies_meets (suc u) g h (body ss t) s le p =
          then_meets (execs_meets u g ss s le.0 p) (λ i z _ pz. then_meets (tails_meets u i t z le.1 pz) (λ v y nv py.
          then_meets (ends_meets u (newer i h) y py) (λ k x _ px. by_ok nv px)))

      pub tails_meets : (u : ℕ) (g : Env) (t : Tail) (s : State) → LiteralsTail L t → P s → Meets (Numbers L) P (tails u m q g t s)
      tails_meets zero g t s le p = by_stop p
      tails_meets (suc u) g (give e) s le p = eval_meets u g e s le p
      tails_meets (suc u) g (give_cond e d f) s le p =
          then_meets (eval_meets u g e s le.0 p)
          (λ v t nv pt. need_meets t _ pt (λ k _. bodies_meets u g g (choose (eqb k 0) f d) t
          (either (LiteralsBody L) (eqb k 0) le.2 le.1) pt))
      tails_meets (suc u) g (give_match w x as₁) s le p =
          need_meets s _ p (λ r _. need_meets s _ p (λ v _. need_meets s _ p (λ z ez. need_meets s _ p (λ y ey.
          by_shape_meets u g w (place_of r v) as₁ y s le (shape_numbers z y (read_numbers L s (place_of r v) z p.stored ez) ey) p))))

      pub by_shape_meets : (u : ℕ) (g : Env) (w : Access) (l : Loc) (as₁ : Arms) (y : Shape) (s : State) → LiteralsArms L as₁ → ShapeNumbers L y
          → P s → Meets (Numbers L) P (by_shape u m q g w l as₁ y s)
      by_shape_meets zero g w l as₁ y s le ns p = by_stop p
      by_shape_meets (suc u) g w l as₁ (shape k vs) s le ns p =
          need_meets s _ p (λ a ea. need_meets s _ p (λ t et. need_meets t _ (taken_numbers L Q w s l t p et) (λ i _.
          bodies_meets u i g a.does _ (arm_literals as₁ k a le ea)
          (roots_numbers L Q t (parts w l vs) (taken_numbers L Q w s l t p et) (parts_numbers L w l vs ns)))))

      pub execs_meets : (u : ℕ) (g : Env) (ss : Stmts) (s : State) → LiteralsSs L ss → P s → Meets Any P (execs u m q g ss s)
      execs_meets zero g ss s le p = by_stop p
      execs_meets (suc u) g nil_s s le p = by_ok tt p
      execs_meets (suc u) g (cons_s x ss) s le p =
          then_meets (turn_meets m s _ p (exec_meets u g x (turned s) le.0 (turned_kept s p))) (λ h t _ pt. execs_meets u h ss t le.1 pt)

      pub block_meets : (u : ℕ) (g h : Env) (ss : Stmts) (s : State) → LiteralsSs L ss → P s → Meets Any P (block u m q g h ss s)
      block_meets zero g h ss s le p = by_stop p
      block_meets (suc u) g h ss s le p =
          then_meets (execs_meets u g ss s le p) (λ i t _ pt. then_meets (ends_meets u (newer i h) t pt) (λ k z _ pz. by_ok tt pz))

      pub exec_meets : (u : ℕ) (g : Env) (x : Stmt) (s : State) → LiteralsS L x → P s → Meets Any P (exec u m q g x s)
      exec_meets zero g x s le p = by_stop p
      exec_meets (suc u) g (bind x e) s le p = then_meets (eval_meets u g e s le p) (λ v t nv pt. by_ok tt (push_numbers L Q t v 0 pt nv))
      exec_meets (suc u) g (assign x e) s le p =
          then_meets (eval_meets u g e s le p) (λ v t nv pt. need_meets t _ pt (λ r _. need_meets t _ pt (λ old eo. need_meets t _ pt (λ z ez.
          then_meets (drops_meets u old z (read_numbers L t (here r) old pt.stored eo) (write_numbers L Q t (here r) v z pt nv ez))
          (λ k y _ py. by_ok tt py)))))
      exec_meets (suc u) g (store x e) s le p =
          then_meets (eval_meets u g e s le p) (λ v t nv pt. need_meets t _ pt
          (λ r _. need_meets t _ pt (λ w _. need_meets t _ pt (λ l _. need_meets t _ pt (λ old eo. need_meets t _ pt (λ z ez.
          then_meets (drops_meets u old z (there_numbers t l old pt eo) (write_numbers L Q t l v z pt nv ez)) (λ k y _ py. by_ok tt py)))))))
      exec_meets (suc u) g (put_s e) s le p =
          then_meets (eval_meets u g e s le p) (λ v t nv pt. need_meets t _ pt
          (λ k ek. by_ok tt (record { stored = pt.stored; shown = cl.shown_next t.outs k (num_numbers v k nv ek) pt.shown })))
      exec_meets (suc u) g (cond e d f) s le p =
          then_meets (eval_meets u g e s le.0 p)
          (λ v t nv pt. need_meets t _ pt (λ k _. block_meets u g g (choose (eqb k 0) f d) t
          (either (LiteralsSs L) (eqb k 0) le.2 le.1) pt))
      exec_meets (suc u) g (loop e d) s le p =
          then_meets (eval_meets u g e s le.0 p) (λ v t nv pt. need_meets t _ pt (λ k _. choose_meets (eqb k 0) (by_ok tt pt)
          (then_meets (block_meets u g g d t le.1 pt)
          (λ i z _ pz. turn_meets m z _ pz (exec_meets u g (loop e d) (turned z) le (turned_kept z pz))))))
      exec_meets (suc u) g (match_s w x as₁) s le p =
          need_meets s _ p (λ r _. need_meets s _ p (λ v _. need_meets s _ p (λ z ez. need_meets s _ p (λ y ey.
          by_alt_meets u g w (place_of r v) as₁ y s le (shape_numbers z y (read_numbers L s (place_of r v) z p.stored ez) ey) p))))
      exec_meets (suc u) g (open_s x y) s le p =
          need_meets s _ p (λ r _. need_meets s _ p (λ v _. need_meets s _ p (λ i _. need_meets s _ p (λ w ew. need_meets s _ p (λ t et.
          by_ok tt (push_numbers L Q (ends_box t i) w 0 (end_box_numbers L Q t i (write_numbers L Q s (here r) hole t p tt et))
          (read_numbers L s (here i) w p.stored ew)))))))
      exec_meets (suc u) g (inside x y) s le p =
          need_meets s _ p (λ r _. need_meets s _ p
          (λ v _. need_meets s _ p (λ l _. need_meets s _ p
          (λ w _. need_meets s _ p (λ i _. by_ok tt (push_numbers L Q s (ref_v (here i)) 0 p tt))))))

      pub by_alt_meets : (u : ℕ) (g : Env) (w : Access) (l : Loc) (as₁ : Alts) (y : Shape) (s : State) → LiteralsAlts L as₁ → ShapeNumbers L y → P s
          → Meets Any P (by_alt u m q g w l as₁ y s)
      by_alt_meets zero g w l as₁ y s le ns p = by_stop p
      by_alt_meets (suc u) g w l as₁ (shape k vs) s le ns p =
          need_meets s _ p (λ a ea. need_meets s _ p (λ t et. need_meets t _ (taken_numbers L Q w s l t p et) (λ i _.
          block_meets u i g a.does _ (alt_literals as₁ k a le ea)
          (roots_numbers L Q t (parts w l vs) (taken_numbers L Q w s l t p et) (parts_numbers L w l vs ns)))))

      pub ends_meets : (u : ℕ) (g : Env) (s : State) → P s → Meets Any P (ends u m q g s)
      ends_meets zero g s p = by_stop p
      ends_meets (suc u) [] s p = by_ok tt p
      ends_meets (suc u) (x ∷ xs) s p =
          need_meets s _ p (λ v ev. then_meets (drops_meets u v (kill s x.root) (read_numbers L s (here x.root) v p.stored ev)
          (kill_numbers L Q s x.root p)) (λ k t _ pt. ends_meets u xs t pt))

      pub drops_meets : (u : ℕ) (v : Value) (s : State) → Numbers L v → P s → Meets Any P (drops u m q v s)
      drops_meets zero v s n p = by_stop p
      drops_meets (suc u) (int_v k) s n p = by_ok tt p
      drops_meets (suc u) (con_v k vs) s n p =
          need_meets s _ p (λ h _. choose_meets (eqb (length h.data1.last) 0) (drops_all_meets u vs s n p)
          (need_meets s _ p (λ f ef. lasts_meets u f (con_v k vs) s (fn_literals q.funs h.data1.last f lits ef) n p)))
      drops_meets (suc u) (box_v r) s n p =
          need_meets s _ p (λ v ev. under_meets m 8 s _ under_kept p
          (then_meets (drops_meets u v (with_under s (s.under + 8)) (read_numbers L s (here r) v p.stored ev) (under_kept s _ p))
          (λ k z _ pz. by_ok tt (end_box_numbers L Q z r pz))))
      drops_meets (suc u) (ref_v l) s n p = by_ok tt p
      drops_meets (suc u) hole s n p = by_ok tt p

      pub lasts_meets : (u : ℕ) (f : Fn) (v : Value) (s : State) → LiteralsBody L f.does → Numbers L v → P s → Meets Any P (lasts u m q f v s)
      lasts_meets zero f v s le n p = by_stop p
      lasts_meets (suc u) f v s le n p =
          then_meets (calls_meets u f _ (adds_root s v 0) le (tt, tt) (push_numbers L Q s v 0 p n)) (λ k t _ pt. need_meets t _ pt (λ w ew.
          parts_meets u w (kill t (length s.roots)) (read_numbers L t (here (length s.roots)) w pt.stored ew)
          (kill_numbers L Q t (length s.roots) pt)))

      pub parts_meets : (u : ℕ) (v : Value) (s : State) → Numbers L v → P s → Meets Any P (parts_of u m q v s)
      parts_meets zero v s n p = by_stop p
      parts_meets (suc u) (int_v k) s n p = by_ok tt p
      parts_meets (suc u) (con_v k vs) s n p = drops_all_meets u vs s n p
      parts_meets (suc u) (box_v r) s n p = by_ok tt p
      parts_meets (suc u) (ref_v l) s n p = by_ok tt p
      parts_meets (suc u) hole s n p = by_ok tt p

      pub drops_all_meets : (u : ℕ) (vs : Values) (s : State) → NumbersOf L vs → P s → Meets Any P (drops_all u m q vs s)
      drops_all_meets zero vs s n p = by_stop p
      drops_all_meets (suc u) nil_v s n p = by_ok tt p
      drops_all_meets (suc u) (cons_v v vs) s n p = then_meets (drops_meets u v s n.0 p) (λ k t _ pt. drops_all_meets u vs t n.1 pt)

    pub numbers_kept : (u : ℕ) → NumbersKept L P q m u
    numbers_kept u = record {
      by_eval = λ g e s le p. behind (eval_meets u g e s le p);
      by_evals = λ g es vs s le ns p. behind (evals_meets u g es vs s le ns p);
      by_calls = λ f vs s le ns p. behind (calls_meets u f vs s le ns p);
      by_bodies = λ g h d s le p. behind (bodies_meets u g h d s le p);
      by_tails = λ g t s le p. behind (tails_meets u g t s le p);
      by_arms = λ g w l as₁ y s le ns p. behind (by_shape_meets u g w l as₁ y s le ns p);
      by_execs = λ g ss s le p. behind (execs_meets u g ss s le p);
      by_block = λ g h ss s le p. behind (block_meets u g h ss s le p);
      by_exec = λ g x s le p. behind (exec_meets u g x s le p);
      by_alts = λ g w l as₁ y s le ns p. behind (by_alt_meets u g w l as₁ y s le ns p);
      by_ends = λ g s p. behind (ends_meets u g s p);
      by_drops = λ v s n p. behind (drops_meets u v s n p);
      by_lasts = λ f v s le n p. behind (lasts_meets u f v s le n p);
      by_parts = λ v s n p. behind (parts_meets u v s n p);
      by_drops_all = λ vs s n p. behind (drops_all_meets u vs s n p);
    }
