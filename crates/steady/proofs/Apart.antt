-- Places of two paths in one tree: if one place is strictly inside the other, so is the path strictly below.
use mathlib.Core.List.{List, [], ◌∷◌, ◌++◌, append_assoc}
use mathlib.Core.Logic.{◌⊎◌, inl, inr}
use mathlib.Core.Option.{some}
use mathlib.Core.Path.{◌≡◌, refl, sym, ◌∙◌, ap, subst}
use Prim.Native.Nat.{ℕ, zero, suc, ◌+◌, ◌≤◌, ◌<◌}
use native.Mathlib.Omega.{arith}
use lib.ListN.{length, length-append}
use Rattle.language.specs.Meaning.{Loc, here}
use Rattle.soundness.specs.Trees.{Tree, int_t, con_t, box_t, hole_t, Trees, nil_t, cons_t, tree_sum, trees_sum, Step, field_step, box_step, Path, nth_t}
use Rattle.soundness.specs.Trees.{subtree, loc_down, StrictlyBelow}
use Rattle.soundness.proofs.Basics.{no_some, some_is, if_some_is, append_nil, order_case}
use Rattle.soundness.proofs.memory.Paths.{mark, mark_self, nth_sum, loc_down_step, extend, Outcome, same_root, in_a_box, outcome}
use Rattle.simulation.specs.Borrows.{Inside}

-- lists of numbers
longer : (a d : List ℕ) (j : ℕ) (js : List ℕ) → a ≡ (a ++ d) ++ (j ∷ js) → ⊥
longer a d j js e =
    let k : length a ≡ length ((a ++ d) ++ (j ∷ js)) = ap length e in
    let k1 = length-append (a ++ d) (j ∷ js) in let k2 = length-append a d in omega arith

same_next : (a : List ℕ) (i j : ℕ) (x y : List ℕ) → (a ++ (j ∷ [])) ++ y ≡ (a ++ (i ∷ [])) ++ x → i ≡ j
same_next [] i j x y e = let k : i ≡ j = cc in k
same_next (z ∷ a) i j x y e = same_next a i j x y (let k : (a ++ (j ∷ [])) ++ y ≡ (a ++ (i ∷ [])) ++ x = cc in k)

-- two fields
nth_two : (f : ℕ → ℕ → ℕ) (ts : Trees) (i j : ℕ) (x y : Tree) → i < j → nth_t ts i ≡ some x → nth_t ts j ≡ some y
    → tree_sum f x + tree_sum f y ≤ trees_sum f ts
nth_two f nil_t i j x y lt a d = absurd (no_some a)
nth_two f (cons_t t ts) zero zero x y lt a d = absurd (omega arith)
nth_two f (cons_t t ts) zero (suc j) x y lt a d = let k = nth_sum f ts j y d in let h = ap (tree_sum f) (some_is a) in omega arith
nth_two f (cons_t t ts) (suc i) zero x y lt a d = absurd (omega arith)
nth_two f (cons_t t ts) (suc i) (suc j) x y lt a d = let k = nth_two f ts i j x y (omega arith) a d in omega arith

-- down two different fields the places are apart
fields_apart : (l : Loc) (i j : ℕ) (p q : Path) (x y : Tree) (k : ℕ) (ks : List ℕ) → (i ≡ j → ⊥)
    → Outcome (extend l (i ∷ [])) p x hole_t → Outcome (extend l (j ∷ [])) q y hole_t
    → ((r : ℕ) → tree_sum (mark r) x + tree_sum (mark r) y ≤ 1) → tree_sum (mark l.root) x + tree_sum (mark l.root) y ≡ 0
    → (loc_down (extend l (j ∷ [])) q y).root ≡ (loc_down (extend l (i ∷ [])) p x).root
    → (loc_down (extend l (j ∷ [])) q y).path ≡ (loc_down (extend l (i ∷ [])) p x).path ++ (k ∷ ks) → ⊥
fields_apart l i j p q x y k ks ne (same_root is e f) (same_root js e2 f2) once out rt pt =
    ne (same_next l.path i j (is ++ (k ∷ ks)) js
    (sym (ap (λ z. z.path) e2) ∙ pt ∙ ap (λ z. z.path ++ (k ∷ ks)) e ∙ append_assoc (l.path ++ (i ∷ [])) is (k ∷ ks)))
fields_apart l i j p q x y k ks ne (same_root is e f) (in_a_box h2 f2) once out rt pt =
    let h3 : 1 ≤ tree_sum (mark l.root) y = subst (λ z. 1 ≤ tree_sum (mark z) y) (rt ∙ ap (λ z. z.root) e) h2 in omega arith
fields_apart l i j p q x y k ks ne (in_a_box h f) (same_root js e2 f2) once out rt pt =
    let h3 : 1 ≤ tree_sum (mark l.root) x = subst (λ z. 1 ≤ tree_sum (mark z) x) (sym rt ∙ ap (λ z. z.root) e2) h in omega arith
fields_apart l i j p q x y k ks ne (in_a_box h f) (in_a_box h2 f2) once out rt pt =
    let r = (loc_down (extend l (i ∷ [])) p x).root in
    let h3 : 1 ≤ tree_sum (mark r) y = subst (λ z. 1 ≤ tree_sum (mark z) y) rt h2 in let o = once r in omega arith

-- back at the start: not strictly inside
not_back : (l : Loc) (i : Step) (p : Path) (t : Tree) (k : ℕ) (ks : List ℕ) → Outcome l (i ∷ p) t hole_t → tree_sum (mark l.root) t ≡ 0
    → l.root ≡ (loc_down l (i ∷ p) t).root → l.path ≡ (loc_down l (i ∷ p) t).path ++ (k ∷ ks) → ⊥
not_back l i p t k ks (same_root is e f) out rt pt = longer l.path is k ks (pt ∙ ap (λ z. z.path ++ (k ∷ ks)) e)
not_back l i p t k ks (in_a_box h f) out rt pt =
    let h2 : 1 ≤ tree_sum (mark l.root) t = subst (λ z. 1 ≤ tree_sum (mark z) t) (sym rt) h in omega arith

abbrev Down : Path → Tree → Tree → Type 0
Down p t a = subtree p t ≡ some a

below_step : (i : Step) (p q : Path) → StrictlyBelow p q → StrictlyBelow (i ∷ p) (i ∷ q)
below_step i p q h = (h.0, h.1, ap (λ z. i ∷ z) h.2)

pub inside_below : (l : Loc) (p q : Path) (t a d : Tree) → subtree p t ≡ some a → subtree q t ≡ some d → ((r : ℕ) → tree_sum (mark r) t ≤ 1)
    → tree_sum (mark l.root) t ≡ 0 → (loc_down l q t).root ≡ (loc_down l p t).root → Inside (loc_down l p t).path (loc_down l q t).path
    → StrictlyBelow p q
inside_below l [] [] t a d ea ed once out rt ins =
    absurd (longer l.path [] ins.0 ins.1.0 (ins.1.1 ∙ ap (λ z. z ++ (ins.0 ∷ ins.1.0)) (sym (append_nil l.path))))
inside_below l [] (i ∷ q) t a d ea ed once out rt ins = (i, q, refl)
inside_below l (i ∷ p) [] t a d ea ed once out rt ins =
    absurd (not_back l i p t ins.0 ins.1.0 (outcome l (i ∷ p) t hole_t a ea) out rt ins.1.1)
inside_below l (field_step i ∷ p) (j ∷ q) (int_t k) a d ea ed once out rt ins = absurd (no_some ea)
inside_below l (field_step i ∷ p) (field_step j ∷ q) (con_t k ts) a d ea ed once out rt ins =
    go (if_some_is (nth_t ts i) (subtree p) a ea) (if_some_is (nth_t ts j) (subtree q) d ed) (order_case i j)
    (λ c e1 e2 o1 o2 r1 n1. inside_below (extend l (i ∷ [])) p q c a d e1 e2 o1 o2 r1 n1)
  where
    Found : ℕ → Path → Tree → Type 0
    Found n w z = (c : Tree) × (nth_t ts n ≡ some c) × (subtree w c ≡ some z)

    l1_is : (x : Found i p a) → loc_down l (field_step i ∷ p) (con_t k ts) ≡ loc_down (extend l (i ∷ [])) p x.0
    l1_is x = loc_down_step l (field_step i) p (con_t k ts) x.0 x.1

    l2_is : (y : Found j q d) → loc_down l (field_step j ∷ q) (con_t k ts) ≡ loc_down (extend l (j ∷ [])) q y.0
    l2_is y = loc_down_step l (field_step j) q (con_t k ts) y.0 y.1

    differ : (x : Found i p a) (y : Found j q d) → (i ≡ j → ⊥) → ((f : ℕ → ℕ → ℕ) → tree_sum f x.0 + tree_sum f y.0 ≤ trees_sum f ts) → ⊥
    differ x y ne sm =
        fields_apart l i j p q x.0 y.0 ins.0 ins.1.0 ne (outcome (extend l (i ∷ [])) p x.0 hole_t a x.2)
        (outcome (extend l (j ∷ [])) q y.0 hole_t d y.2) (λ r. (let z = sm (mark r) in let o = once r in omega arith))
        (let z = sm (mark l.root) in omega arith)
        (sym (ap (λ z. z.root) (l2_is y)) ∙ rt ∙ ap (λ z. z.root) (l1_is x))
        (sym (ap (λ z. z.path) (l2_is y)) ∙ ins.1.1 ∙ ap (λ z. z.path ++ (ins.0 ∷ ins.1.0)) (l1_is x))

    go : Found i p a → Found j q d → (i < j) ⊎ ((i ≡ j) ⊎ (j < i))
        → ((c : Tree) → Down p c a → Down q c d → ((r : ℕ) → tree_sum (mark r) c ≤ 1) → tree_sum (mark l.root) c ≡ 0
        → (loc_down (extend l (i ∷ [])) q c).root ≡ (loc_down (extend l (i ∷ [])) p c).root
        → Inside (loc_down (extend l (i ∷ [])) p c).path (loc_down (extend l (i ∷ [])) q c).path → StrictlyBelow p q)
        → StrictlyBelow (field_step i ∷ p) (field_step j ∷ q)
    go x y (inl lt) rec = absurd (differ x y (λ e. omega arith) (λ f. nth_two f ts i j x.0 y.0 lt x.1 y.1))
    go x y (inr (inr gt)) rec =
        absurd (differ x y (λ e. omega arith) (λ f. (let z = nth_two f ts j i y.0 x.0 gt y.1 x.1 in omega arith)))
    go x y (inr (inl e)) rec =
        let c_is : y.0 ≡ x.0 = some_is (sym y.1 ∙ ap (nth_t ts) (sym e) ∙ x.1) in
        let l2 : loc_down l (field_step j ∷ q) (con_t k ts) ≡ loc_down (extend l (i ∷ [])) q x.0
        = l2_is y ∙ ap (λ z. loc_down (extend l (z ∷ [])) q y.0) (sym e) ∙ ap (loc_down (extend l (i ∷ [])) q) c_is in
        let r = rec x.0 x.2 (subst (λ z. subtree q z ≡ some d) c_is y.2)
        (λ r. (let z = nth_sum (mark r) ts i x.0 x.1 in let o = once r in omega arith))
        (let z = nth_sum (mark l.root) ts i x.0 x.1 in omega arith)
        (sym (ap (λ z. z.root) l2) ∙ rt ∙ ap (λ z. z.root) (l1_is x))
        (ins.0, (ins.1.0, sym (ap (λ z. z.path) l2) ∙ ins.1.1 ∙ ap (λ z. z.path ++ (ins.0 ∷ ins.1.0)) (l1_is x))) in
        subst (λ z. StrictlyBelow (field_step i ∷ p) (field_step z ∷ q)) e (below_step (field_step i) p q r)
inside_below l (field_step i ∷ p) (box_step ∷ q) (con_t k ts) a d ea ed once out rt ins = absurd (no_some ed)
inside_below l (field_step i ∷ p) (j ∷ q) (box_t r w t) a d ea ed once out rt ins = absurd (no_some ea)
inside_below l (field_step i ∷ p) (j ∷ q) hole_t a d ea ed once out rt ins = absurd (no_some ea)
inside_below l (box_step ∷ p) (j ∷ q) (int_t k) a d ea ed once out rt ins = absurd (no_some ea)
inside_below l (box_step ∷ p) (j ∷ q) (con_t k ts) a d ea ed once out rt ins = absurd (no_some ea)
inside_below l (box_step ∷ p) (field_step j ∷ q) (box_t r w t) a d ea ed once out rt ins = absurd (no_some ed)
inside_below l (box_step ∷ p) (box_step ∷ q) (box_t r w t) a d ea ed once out rt ins =
    below_step box_step p q (inside_below (here r) p q t a d ea ed (λ j. (let o = once j in omega arith))
    (let o = once r in let k = mark_self r w in omega arith) rt ins)
inside_below l (box_step ∷ p) (j ∷ q) hole_t a d ea ed once out rt ins = absurd (no_some ea)
