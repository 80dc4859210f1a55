-- Reading and writing at a path in a tree, and at its place in the flat store.
use mathlib.Core.Bool.{Bool, true, false}
use mathlib.Core.List.{List, [], ◌∷◌, ◌++◌, append_assoc}
use mathlib.Core.Logic.{◌⊎◌, inl, inr}
use mathlib.Core.Option.{Option, some, none}
use mathlib.Core.Path.{◌≡◌, refl, sym, ◌∙◌, ap, subst}
use Prim.Native.Nat.{ℕ, zero, suc, ◌+◌, ◌≤◌}
use native.Mathlib.Omega.{arith}
use lib.Dec.{eqb, T, eqb_refl}
use Rattle.language.specs.Base.{choose, from_option, if_some, at_place, set_at, Lexeme}
use Rattle.language.specs.Meaning.{Loc, Value, int_v, con_v, Values, Root, here, box_v, ref_v, hole, nil_v, cons_v, at_path, nth_v, put_path, put_v}
use Rattle.soundness.specs.Trees.{Tree, int_t, con_t, box_t, hole_t, Trees, nil_t, cons_t, flat, flats, tree_sum, trees_sum, Stored, StoredAll, Step}
use Rattle.soundness.specs.Trees.{field_step, box_step, Path, nth_t, put_t, child, set_child, subtree, replace, loc_step, loc_down}
use Rattle.soundness.proofs.Basics.{no_some, some_is, if_some_is, append_nil}

-- the list of roots
pub at_put_same : {A : Type 0} (xs : List A) (r : ℕ) (x v : A) → at_place xs r ≡ some x → at_place (set_at xs r v) r ≡ some v
at_put_same [] r x v e = absurd (no_some e)
at_put_same (y ∷ ys) zero x v e = refl
at_put_same (y ∷ ys) (suc r) x v e = at_put_same ys r x v e

pub at_put_other : {A : Type 0} (xs : List A) (r j : ℕ) (v : A) → (r ≡ j → ⊥) → at_place (set_at xs r v) j ≡ at_place xs j
at_put_other [] r j v h = refl
at_put_other (y ∷ ys) zero zero v h = absurd (h refl)
at_put_other (y ∷ ys) zero (suc j) v h = refl
at_put_other (y ∷ ys) (suc r) zero v h = refl
at_put_other (y ∷ ys) (suc r) (suc j) v h = at_put_other ys r j v (λ e. h (ap suc e))

-- values
pub at_path_then : (is js : List ℕ) (v : Value) → at_path (is ++ js) v ≡ if_some (at_path is v) (at_path js)
at_path_then [] js v = refl
at_path_then (i ∷ is) js (int_v k) = refl
at_path_then (i ∷ is) js (con_v k vs) = go (nth_v vs i) (λ v. at_path_then is js v)
  where
    go : (o : Option Value) → ((v : Value) → at_path (is ++ js) v ≡ if_some (at_path is v) (at_path js))
        → if_some o (at_path (is ++ js)) ≡ if_some (if_some o (at_path is)) (at_path js)
    go none h = refl
    go (some v) h = h v
at_path_then (i ∷ is) js (box_v r) = refl
at_path_then (i ∷ is) js (ref_v l) = refl
at_path_then (i ∷ is) js hole = refl

-- trees and values
pub nth_flats : (ts : Trees) (i : ℕ) (t : Tree) → nth_t ts i ≡ some t → nth_v (flats ts) i ≡ some (flat t)
nth_flats nil_t i t e = absurd (no_some e)
nth_flats (cons_t x xs) zero t e = ap {B = Option Value} (λ z. some (flat z)) (some_is e)
nth_flats (cons_t x xs) (suc i) t e = nth_flats xs i t e

pub flats_put : (ts : Trees) (i : ℕ) (u : Tree) → flats (put_t ts i u) ≡ put_v (flats ts) i (flat u)
flats_put nil_t i u = refl
flats_put (cons_t x xs) zero u = refl
flats_put (cons_t x xs) (suc i) u = ap (cons_v (flat x)) (flats_put xs i u)

pub put_v_same : (vs : Values) (i : ℕ) (v : Value) → nth_v vs i ≡ some v → put_v vs i v ≡ vs
put_v_same nil_v i v e = refl
put_v_same (cons_v x xs) zero v e = ap (λ z. cons_v z xs) (sym (some_is e))
put_v_same (cons_v x xs) (suc i) v e = ap (cons_v x) (put_v_same xs i v e)

-- a root's mark, to be summed
abbrev pub mark : ℕ → ℕ → ℕ → ℕ
mark r i w = choose (eqb i r) 1 0

pub mark_self : (r w : ℕ) → mark r r w ≡ 1
mark_self r w = go (eqb r r) (eqb_refl r)
  where
    go : (x : Bool) → T x → ◌≡◌ {A = ℕ} (choose x 1 0) 1
    go true t = refl
    go false t = absurd t

pub nth_sum : (f : ℕ → ℕ → ℕ) (ts : Trees) (i : ℕ) (t : Tree) → nth_t ts i ≡ some t → tree_sum f t ≤ trees_sum f ts
nth_sum f nil_t i t e = absurd (no_some e)
nth_sum f (cons_t x xs) zero t e = let h : x ≡ t = some_is e in subst (λ z. tree_sum f z ≤ tree_sum f x + trees_sum f xs) h (omega arith)
nth_sum f (cons_t x xs) (suc i) t e = let h = nth_sum f xs i t e in omega arith

-- what's put in and what was there
pub sum_put : (f : ℕ → ℕ → ℕ) (ts : Trees) (i : ℕ) (t u : Tree) → nth_t ts i ≡ some t
    → trees_sum f (put_t ts i u) + tree_sum f t ≡ trees_sum f ts + tree_sum f u
sum_put f nil_t i t u e = absurd (no_some e)
sum_put f (cons_t x xs) zero t u e =
    let h : x ≡ t = some_is e in
    subst (λ z. (tree_sum f u + trees_sum f xs) + tree_sum f z ≡ (tree_sum f x + trees_sum f xs) + tree_sum f u) h (omega arith)
sum_put f (cons_t x xs) (suc i) t u e = let h = sum_put f xs i t u e in omega arith

pub replace_step : (i : Step) (is : Path) (u t k : Tree) → child i t ≡ some k → replace (i ∷ is) u t ≡ set_child i (replace is u k) t
replace_step i is u t k e = ap (λ o. from_option o t (λ z. set_child i (replace is u z) t)) e

pub loc_down_step : (l : Loc) (i : Step) (is : Path) (t k : Tree) → child i t ≡ some k → loc_down l (i ∷ is) t ≡ loc_down (loc_step l i t) is k
loc_down_step l i is t k e = ap (λ o. from_option o l (λ z. loc_down (loc_step l i t) is z)) e

pub subtree_step : (i : Step) (is : Path) (t k : Tree) → child i t ≡ some k → subtree (i ∷ is) t ≡ subtree is k
subtree_step i is t k e = ap (λ o. if_some o (subtree is)) e

-- a child put in
pub sum_child : (f : ℕ → ℕ → ℕ) (i : Step) (t k u : Tree) → child i t ≡ some k
    → tree_sum f (set_child i u t) + tree_sum f k ≡ tree_sum f t + tree_sum f u
sum_child f (field_step i) (int_t a) k u e = absurd (no_some e)
sum_child f (field_step i) (con_t a ts) k u e = sum_put f ts i k u e
sum_child f (field_step i) (box_t r w t) k u e = absurd (no_some e)
sum_child f (field_step i) hole_t k u e = absurd (no_some e)
sum_child f box_step (int_t a) k u e = absurd (no_some e)
sum_child f box_step (con_t a ts) k u e = absurd (no_some e)
sum_child f box_step (box_t r w t) k u e =
    let h : t ≡ k = some_is e in subst (λ z. (f r w + tree_sum f u) + tree_sum f z ≡ (f r w + tree_sum f t) + tree_sum f u) h (omega arith)
sum_child f box_step hole_t k u e = absurd (no_some e)

-- weights move with what is swapped
pub sum_replace : (f : ℕ → ℕ → ℕ) (q : Path) (u t old : Tree) → subtree q t ≡ some old
    → tree_sum f (replace q u t) + tree_sum f old ≡ tree_sum f t + tree_sum f u
sum_replace f [] u t old e = let h : t ≡ old = some_is e in subst (λ z. tree_sum f u + tree_sum f z ≡ tree_sum f t + tree_sum f u) h (omega arith)
sum_replace f (i ∷ is) u t old e = go (if_some_is (child i t) (subtree is) old e) (λ k h. sum_replace f is u k old h)
  where
    go : (k : Tree) × (child i t ≡ some k) × (subtree is k ≡ some old)
        → ((k : Tree) → subtree is k ≡ some old → tree_sum f (replace is u k) + tree_sum f old ≡ tree_sum f k + tree_sum f u)
        → tree_sum f (replace (i ∷ is) u t) + tree_sum f old ≡ tree_sum f t + tree_sum f u
    go x h =
        let k = x.0 in
        let e1 = sum_child f i t k (replace is u k) x.1 in
        let e2 = h k x.2 in
        let e3 : tree_sum f (replace (i ∷ is) u t) ≡ tree_sum f (set_child i (replace is u k) t) = ap (tree_sum f) (replace_step i is u t k x.1) in
        omega arith

-- where a path leads: into the same root, or into a box of the tree
abbrev pub extend : Loc → List ℕ → Loc
extend l is = record { root = l.root; path = l.path ++ is }

pub data Outcome (l : Loc) (q : Path) (t u : Tree) : Type 0 where
  same_root : (is : List ℕ) → loc_down l q t ≡ extend l is → flat (replace q u t) ≡ put_path is (flat u) (flat t) → Outcome l q t u
  in_a_box : 1 ≤ tree_sum (mark (loc_down l q t).root) t → flat (replace q u t) ≡ flat t → Outcome l q t u

outcome_fld : (l : Loc) (i : ℕ) (is : Path) (a : Lexeme) (ts : Trees) (u k : Tree) → nth_t ts i ≡ some k
    → Outcome (loc_step l (field_step i) (con_t a ts)) is k u → Outcome l (field_step i ∷ is) (con_t a ts) u
outcome_fld l i is a ts u k e (same_root js e1 e2) = same_root (i ∷ js)
    (loc_down_step l (field_step i) is (con_t a ts) k e ∙ e1 ∙ ap (λ z. record { root = l.root; path = z }) (append_assoc l.path (i ∷ []) js))
    (ap flat (replace_step (field_step i) is u (con_t a ts) k e) ∙ ap (con_v a)
    (flats_put ts i (replace is u k) ∙ ap (put_v (flats ts) i)
    (e2 ∙ ap (λ o. from_option o hole (put_path js (flat u))) (sym (nth_flats ts i k e)))))
outcome_fld l i is a ts u k e (in_a_box h e1) = in_a_box
    (subst (λ z. 1 ≤ tree_sum (mark z.root) (con_t a ts)) (sym (loc_down_step l (field_step i) is (con_t a ts) k e))
    (let g = nth_sum (mark (loc_down (loc_step l (field_step i) (con_t a ts)) is k).root) ts i k e in omega arith))
    (ap flat (replace_step (field_step i) is u (con_t a ts) k e) ∙ ap (con_v a)
    (flats_put ts i (replace is u k) ∙ ap (put_v (flats ts) i) e1 ∙ put_v_same (flats ts) i (flat k) (nth_flats ts i k e)))

outcome_ins : (l : Loc) (is : Path) (r w : ℕ) (t u : Tree) → Outcome (here r) is t u → Outcome l (box_step ∷ is) (box_t r w t) u
outcome_ins l is r w t u (same_root js e1 e2) =
    in_a_box (subst (λ z. 1 ≤ mark z.root r w + tree_sum (mark z.root) t) (sym e1) (let g = mark_self r w in omega arith)) refl
outcome_ins l is r w t u (in_a_box h e1) = in_a_box (omega arith) refl

pub outcome : (l : Loc) (q : Path) (t u old : Tree) → subtree q t ≡ some old → Outcome l q t u
outcome l [] t u old e = same_root [] (ap (λ z. record { root = l.root; path = z }) (sym (append_nil l.path))) refl
outcome l (field_step i ∷ is) (int_t a) u old e = absurd (no_some e)
outcome l (field_step i ∷ is) (con_t a ts) u old e =
    go (if_some_is (nth_t ts i) (subtree is) old e) (λ k h. outcome (loc_step l (field_step i) (con_t a ts)) is k u old h)
  where
    go : (k : Tree) × (nth_t ts i ≡ some k) × (subtree is k ≡ some old)
        → ((k : Tree) → subtree is k ≡ some old → Outcome (loc_step l (field_step i) (con_t a ts)) is k u)
        → Outcome l (field_step i ∷ is) (con_t a ts) u
    go x h = outcome_fld l i is a ts u x.0 x.1 (h x.0 x.2)
outcome l (field_step i ∷ is) (box_t r w t) u old e = absurd (no_some e)
outcome l (field_step i ∷ is) hole_t u old e = absurd (no_some e)
outcome l (box_step ∷ is) (int_t a) u old e = absurd (no_some e)
outcome l (box_step ∷ is) (con_t a ts) u old e = absurd (no_some e)
outcome l (box_step ∷ is) (box_t r w t) u old e = outcome_ins l is r w t u (outcome (here r) is t u old e)
outcome l (box_step ∷ is) hole_t u old e = absurd (no_some e)

-- roots that differ at one place, where a value was put into what was there
pub record Written (rs rs2 : List Root) (d : Loc) (v : Value) : Type 0 where
  pub others : (j : ℕ) → (d.root ≡ j → ⊥) → at_place rs2 j ≡ at_place rs j
  pub now_there : (x : Root) → at_place rs d.root ≡ some x
      → at_place rs2 d.root ≡ some (record { live = true; val = put_path d.path v x.val; words = x.words })

pub mark_apart : (r i w : ℕ) → mark r i w ≡ 0 → r ≡ i → ⊥
mark_apart r i w h e = let g : mark r r w ≡ 0 = subst (λ z. mark r z w ≡ 0) (sym e) h in let k = mark_self r w in omega arith

-- a tree in which that root isn't stays stored
mutual
  pub stored_other : (rs rs2 : List Root) (d : Loc) (v : Value) (t : Tree) → Written rs rs2 d v → tree_sum (mark d.root) t ≡ 0
      → Stored rs t → Stored rs2 t
  stored_other rs rs2 d v (int_t k) w h s = tt
  stored_other rs rs2 d v (con_t k ts) w h s = storeds_other rs rs2 d v ts w h s
  stored_other rs rs2 d v (box_t r k t) w h s =
      (w.others r (mark_apart d.root r k (omega arith)) ∙ s.0, stored_other rs rs2 d v t w (omega arith) s.1)
  stored_other rs rs2 d v hole_t w h s = tt

  pub storeds_other : (rs rs2 : List Root) (d : Loc) (v : Value) (ts : Trees) → Written rs rs2 d v → trees_sum (mark d.root) ts ≡ 0
      → StoredAll rs ts → StoredAll rs2 ts
  storeds_other rs rs2 d v nil_t w h s = tt
  storeds_other rs rs2 d v (cons_t t ts) w h s =
      (stored_other rs rs2 d v t w (omega arith) s.0, storeds_other rs rs2 d v ts w (omega arith) s.1)

-- that root is in one field only
storeds_put : (rs rs2 : List Root) (d : Loc) (v : Value) (ts : Trees) (i : ℕ) (k u : Tree) → Written rs rs2 d v → nth_t ts i ≡ some k
    → trees_sum (mark d.root) ts ≤ tree_sum (mark d.root) k → StoredAll rs ts → Stored rs2 u → StoredAll rs2 (put_t ts i u)
storeds_put rs rs2 d v nil_t i k u w e h s su = tt
storeds_put rs rs2 d v (cons_t t ts) zero k u w e h s su = (
  su,
  storeds_other rs rs2 d v ts w (let g : tree_sum (mark d.root) t ≡ tree_sum (mark d.root) k = ap (tree_sum (mark d.root))
      (some_is e) in omega arith) s.1,
)
storeds_put rs rs2 d v (cons_t t ts) (suc i) k u w e h s su = (
  stored_other rs rs2 d v t w (let g = nth_sum (mark d.root) ts i k e in omega arith) s.0,
  storeds_put rs rs2 d v ts i k u w e
      (omega arith) s.1 su,
)

-- where the path leads is in the same root or in a box of the tree
loc_down_root : (l : Loc) (q : Path) (t u : Tree) → Outcome l q t u
    → ((loc_down l q t).root ≡ l.root) ⊎ (1 ≤ tree_sum (mark (loc_down l q t).root) t)
loc_down_root l q t u (same_root is e f) = inl (ap (λ z. z.root) e)
loc_down_root l q t u (in_a_box h f) = inr h

-- writing: the tree with u put in at q is stored in the roots after the write at the path's place
pub stored_box : (rs rs2 : List Root) (is : Path) (r w : ℕ) (t u : Tree) → Stored rs (box_t r w t) → tree_sum (mark r) t ≡ 0
    → Written rs rs2 (loc_down (here r) is t) (flat u) → Outcome (here r) is t u → Stored rs2 (replace is u t)
    → Stored rs2 (box_t r w (replace is u t))
stored_box rs rs2 is r w t u s z wr (same_root js e1 e2) h =
    let at_r : (loc_down (here r) is t).root ≡ r = ap (λ x. x.root) e1 in
    let path_r : (loc_down (here r) is t).path ≡ js = ap (λ x. x.path) e1 in
    let x : Root = record { live = true; val = flat t; words = w } in
    let got = wr.now_there x (subst (λ y. at_place rs y ≡ some x) (sym at_r) s.0) in (
      ap (at_place rs2) (sym at_r) ∙ got ∙ ap {B = Option Root} (λ y. some (record { live = true; val = y; words = w }))
          (ap (λ y. put_path y (flat u) (flat t)) path_r ∙ sym e2),
      h,
    )
stored_box rs rs2 is r w t u s z wr (in_a_box g e1) h =
    let apart : (loc_down (here r) is t).root ≡ r
    → ⊥ = λ e. (let k : 1 ≤ tree_sum (mark r) t = subst (λ y. 1 ≤ tree_sum (mark y) t) e g in omega arith) in
    (wr.others r apart ∙ s.0 ∙ ap {B = Option Root} (λ y. some (record { live = true; val = y; words = w })) (sym e1), h)

pub stored_replace : (rs rs2 : List Root) (l : Loc) (q : Path) (t u old : Tree) → subtree q t ≡ some old → Stored rs t → Stored rs2 u
    → ((r : ℕ) → tree_sum (mark r) t ≤ 1) → tree_sum (mark l.root) t ≡ 0 → Written rs rs2 (loc_down l q t) (flat u) → Stored rs2 (replace q u t)
stored_replace rs rs2 l [] t u old e s su once out wr = su
stored_replace rs rs2 l (field_step i ∷ is) (int_t a) u old e s su once out wr = absurd (no_some e)
stored_replace rs rs2 l (field_step i ∷ is) (con_t a ts) u old e s su once out wr =
    go (if_some_is (nth_t ts i) (subtree is) old e)
    (λ k h x y z v. stored_replace rs rs2 (loc_step l (field_step i) (con_t a ts)) is k u old h x su y z v)
  where
    nth_stored : (ts : Trees) (i : ℕ) (k : Tree) → nth_t ts i ≡ some k → StoredAll rs ts → Stored rs k
    nth_stored nil_t i k e s = absurd (no_some e)
    nth_stored (cons_t t ts) zero k e s = subst (Stored rs) (some_is e) s.0
    nth_stored (cons_t t ts) (suc i) k e s = nth_stored ts i k e s.1

    go : (k : Tree) × (nth_t ts i ≡ some k) × (subtree is k ≡ some old)
        → ((k : Tree) → subtree is k ≡ some old → Stored rs k → ((r : ℕ) → tree_sum (mark r) k ≤ 1) → tree_sum (mark l.root) k ≡ 0
        → Written rs rs2 (loc_down (loc_step l (field_step i) (con_t a ts)) is k) (flat u) → Stored rs2 (replace is u k))
        → Stored rs2 (replace (field_step i ∷ is) u (con_t a ts))
    go x ih =
        let k = x.0 in
        let d = loc_down (loc_step l (field_step i) (con_t a ts)) is k in
        let wr2 : Written rs rs2 d (flat u) = subst (λ y. Written rs rs2 y (flat u)) (loc_down_step l (field_step i) is (con_t a ts) k x.1) wr in
        let le : (r : ℕ) → tree_sum (mark r) k ≤ trees_sum (mark r) ts = λ r. nth_sum (mark r) ts i k x.1 in
        let inner = ih k x.2 (nth_stored ts i k x.1 s) (λ r. (let g = le r in let g2 = once r in omega arith))
        (let g = le l.root in omega arith) wr2 in
        let all_there : trees_sum (mark d.root) ts ≤ tree_sum
        (mark d.root) k = elim (loc_down_root (loc_step l (field_step i) (con_t a ts)) is k u
        (outcome (loc_step l (field_step i) (con_t a ts)) is k u old x.2)) [
          | inl e2 ↦ (let o2 : trees_sum (mark d.root) ts ≡ 0 = ap
              (λ y. trees_sum (mark y) ts) e2 ∙ out in omega arith)
          | inr h2 ↦ (let g2 = once d.root in omega arith)
        ] in
        subst (Stored rs2) (sym (replace_step (field_step i) is u (con_t a ts) k x.1))
        (storeds_put rs rs2 d (flat u) ts i k (replace is u k) wr2 x.1 all_there s inner)
stored_replace rs rs2 l (field_step i ∷ is) (box_t r w t) u old e s su once out wr = absurd (no_some e)
stored_replace rs rs2 l (field_step i ∷ is) hole_t u old e s su once out wr = absurd (no_some e)
stored_replace rs rs2 l (box_step ∷ is) (int_t a) u old e s su once out wr = absurd (no_some e)
stored_replace rs rs2 l (box_step ∷ is) (con_t a ts) u old e s su once out wr = absurd (no_some e)
stored_replace rs rs2 l (box_step ∷ is) (box_t r w t) u old e s su once out wr =
    let none_inside : tree_sum (mark r) t ≡ 0 = (let g = once r in let g2 = mark_self r w in omega arith) in
    stored_box rs rs2 is r w t u s none_inside wr (outcome (here r) is t u old e)
    (stored_replace rs rs2 (here r) is t u old e s.1 su (λ j. (let g = once j in omega arith)) none_inside wr)
stored_replace rs rs2 l (box_step ∷ is) hole_t u old e s su once out wr = absurd (no_some e)
