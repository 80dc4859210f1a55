-- Typed trees: one type each; what is replaced by the like keeps the types of all that's above or beside, and where it lies.
use mathlib.Core.List.{List, [], ◌∷◌}
use mathlib.Core.Logic.{◌⊎◌, inl, inr}
use mathlib.Core.Option.{some}
use mathlib.Core.Path.{◌≡◌, refl, sym, ◌∙◌, ap, subst}
use Prim.Native.Nat.{ℕ, zero, suc}
use native.Mathlib.Omega.{arith}
use Rattle.language.specs.Syntax.{Ty, int, dat, box, ref, mut, Data}
use Rattle.language.specs.Meaning.{Loc}
use Rattle.soundness.specs.Trees.{Tree, int_t, con_t, box_t, hole_t, Trees, nil_t, cons_t, Typed, TypedAll, Step, field_step, box_step, Path, nth_t}
use Rattle.soundness.specs.Trees.{put_t, child, set_child, subtree, replace, loc_step, loc_down, StrictlyBelow}
use Rattle.soundness.proofs.Basics.{no_some, some_is, if_some_is, order_case}
use Rattle.soundness.proofs.memory.Paths.{replace_step, loc_down_step, subtree_step}

pub typed_unique : (ds : List Data) (x : Tree) (t u : Ty) → Typed ds x t → Typed ds x u → t ≡ u
typed_unique ds (int_t k) int int a d = refl
typed_unique ds (int_t k) int (dat e) a d = absurd d
typed_unique ds (int_t k) int (box u) a d = absurd d
typed_unique ds (int_t k) int (ref u) a d = absurd d
typed_unique ds (int_t k) int (mut u) a d = absurd d
typed_unique ds (int_t k) (dat e) u a d = absurd a
typed_unique ds (int_t k) (box t) u a d = absurd a
typed_unique ds (int_t k) (ref t) u a d = absurd a
typed_unique ds (int_t k) (mut t) u a d = absurd a
typed_unique ds (con_t k ts) int u a d = absurd a
typed_unique ds (con_t k ts) (dat e) int a d = absurd d
typed_unique ds (con_t k ts) (dat e) (dat f) a d = ap dat (sym a.2 ∙ ap (λ h. h.data1.name) (some_is (sym a.1 ∙ d.1)) ∙ d.2)
typed_unique ds (con_t k ts) (dat e) (box u) a d = absurd d
typed_unique ds (con_t k ts) (dat e) (ref u) a d = absurd d
typed_unique ds (con_t k ts) (dat e) (mut u) a d = absurd d
typed_unique ds (con_t k ts) (box t) u a d = absurd a
typed_unique ds (con_t k ts) (ref t) u a d = absurd a
typed_unique ds (con_t k ts) (mut t) u a d = absurd a
typed_unique ds (box_t r w x) int u a d = absurd a
typed_unique ds (box_t r w x) (dat e) u a d = absurd a
typed_unique ds (box_t r w x) (box t) int a d = absurd d
typed_unique ds (box_t r w x) (box t) (dat e) a d = absurd d
typed_unique ds (box_t r w x) (box t) (box u) a d = ap box (typed_unique ds x t u a.1 d.1)
typed_unique ds (box_t r w x) (box t) (ref u) a d = absurd d
typed_unique ds (box_t r w x) (box t) (mut u) a d = absurd d
typed_unique ds (box_t r w x) (ref t) u a d = absurd a
typed_unique ds (box_t r w x) (mut t) u a d = absurd a
typed_unique ds hole_t t u a d = absurd a

-- a field's type, and another of that type in its place
nth_typed : (ds : List Data) (ts : Trees) (fs : List Ty) (i : ℕ) (k : Tree) → nth_t ts i ≡ some k → TypedAll ds ts fs
    → (t : Ty) × Typed ds k t × ((y : Tree) → Typed ds y t → TypedAll ds (put_t ts i y) fs)
nth_typed ds nil_t fs i k e h = absurd (no_some e)
nth_typed ds (cons_t x xs) [] i k e h = absurd h
nth_typed ds (cons_t x xs) (f ∷ fs) zero k e h = (f, subst (λ z. Typed ds z f) (some_is e) h.0, λ y ty. (ty, h.1))
nth_typed ds (cons_t x xs) (f ∷ fs) (suc i) k e h = let r = nth_typed ds xs fs i k e h.1 in (r.0, r.1, λ y ty. (h.0, r.2 y ty))

child_typed : (ds : List Data) (i : Step) (x k : Tree) (t : Ty) → child i x ≡ some k → Typed ds x t
    → (u : Ty) × Typed ds k u × ((y : Tree) → Typed ds y u → Typed ds (set_child i y x) t)
child_typed ds (field_step i) (int_t a) k t e h = absurd (no_some e)
child_typed ds (field_step i) (con_t a ts) k int e h = absurd h
child_typed ds (field_step i) (con_t a ts) k (dat d) e h =
    let r = nth_typed ds ts h.0.ctor1.fields i k e h.3 in (r.0, r.1, λ y ty. (h.0, h.1, h.2, r.2 y ty))
child_typed ds (field_step i) (con_t a ts) k (box t) e h = absurd h
child_typed ds (field_step i) (con_t a ts) k (ref t) e h = absurd h
child_typed ds (field_step i) (con_t a ts) k (mut t) e h = absurd h
child_typed ds (field_step i) (box_t r w x) k t e h = absurd (no_some e)
child_typed ds (field_step i) hole_t k t e h = absurd (no_some e)
child_typed ds box_step (int_t a) k t e h = absurd (no_some e)
child_typed ds box_step (con_t a ts) k t e h = absurd (no_some e)
child_typed ds box_step (box_t r w x) k int e h = absurd h
child_typed ds box_step (box_t r w x) k (dat d) e h = absurd h
child_typed ds box_step (box_t r w x) k (box t) e h = (t, subst (λ z. Typed ds z t) (some_is e) h.1, λ y ty. (h.0, ty))
child_typed ds box_step (box_t r w x) k (ref t) e h = absurd h
child_typed ds box_step (box_t r w x) k (mut t) e h = absurd h
child_typed ds box_step hole_t k t e h = absurd (no_some e)

pub typed_replace : (ds : List Data) (q : Path) (x y old : Tree) (t u : Ty) → subtree q x ≡ some old → Typed ds x t → Typed ds old u → Typed ds y u
    → Typed ds (replace q y x) t
typed_replace ds [] x y old t u e hx ho hy = subst (Typed ds y) (sym (typed_unique ds x t u hx (subst (λ z. Typed ds z u) (sym (some_is e)) ho))) hy
typed_replace ds (i ∷ is) x y old t u e hx ho hy =
    go (if_some_is (child i x) (subtree is) old e) (λ k v ek hk. typed_replace ds is k y old v u ek hk ho hy)
  where
    go : (k : Tree) × (child i x ≡ some k) × (subtree is k ≡ some old)
        → ((k : Tree) (v : Ty) → subtree is k ≡ some old → Typed ds k v → Typed ds (replace is y k) v) → Typed ds (replace (i ∷ is) y x) t
    go z ih =
        let r = child_typed ds i x z.0 t z.1 hx in
        subst (λ w. Typed ds w t) (sym (replace_step i is y x z.0 z.1)) (r.2 (replace is y z.0) (ih z.0 r.0 z.2 r.1))

-- steps
nth_put_same : (ts : Trees) (i : ℕ) (k z : Tree) → nth_t ts i ≡ some k → nth_t (put_t ts i z) i ≡ some z
nth_put_same nil_t i k z e = absurd (no_some e)
nth_put_same (cons_t x xs) zero k z e = refl
nth_put_same (cons_t x xs) (suc i) k z e = nth_put_same xs i k z e

nth_put_other : (ts : Trees) (i j : ℕ) (z : Tree) → (i ≡ j → ⊥) → nth_t (put_t ts i z) j ≡ nth_t ts j
nth_put_other nil_t i j z ne = refl
nth_put_other (cons_t x xs) zero zero z ne = absurd (ne refl)
nth_put_other (cons_t x xs) zero (suc j) z ne = refl
nth_put_other (cons_t x xs) (suc i) zero z ne = refl
nth_put_other (cons_t x xs) (suc i) (suc j) z ne = nth_put_other xs i j z (λ e. ne (ap suc e))

pub child_set_same : (i : Step) (x k z : Tree) → child i x ≡ some k → child i (set_child i z x) ≡ some z
child_set_same (field_step i) (int_t a) k z e = absurd (no_some e)
child_set_same (field_step i) (con_t a ts) k z e = nth_put_same ts i k z e
child_set_same (field_step i) (box_t r w x) k z e = absurd (no_some e)
child_set_same (field_step i) hole_t k z e = absurd (no_some e)
child_set_same box_step (int_t a) k z e = absurd (no_some e)
child_set_same box_step (con_t a ts) k z e = absurd (no_some e)
child_set_same box_step (box_t r w x) k z e = refl
child_set_same box_step hole_t k z e = absurd (no_some e)

child_set_other : (i j : Step) (x z : Tree) → (i ≡ j → ⊥) → child j (set_child i z x) ≡ child j x
child_set_other (field_step i) (field_step j) (int_t a) z ne = refl
child_set_other (field_step i) (field_step j) (con_t a ts) z ne = nth_put_other ts i j z (λ e. ne (ap field_step e))
child_set_other (field_step i) (field_step j) (box_t r w x) z ne = refl
child_set_other (field_step i) (field_step j) hole_t z ne = refl
child_set_other (field_step i) box_step (int_t a) z ne = refl
child_set_other (field_step i) box_step (con_t a ts) z ne = refl
child_set_other (field_step i) box_step (box_t r w x) z ne = refl
child_set_other (field_step i) box_step hole_t z ne = refl
child_set_other box_step (field_step j) (int_t a) z ne = refl
child_set_other box_step (field_step j) (con_t a ts) z ne = refl
child_set_other box_step (field_step j) (box_t r w x) z ne = refl
child_set_other box_step (field_step j) hole_t z ne = refl
child_set_other box_step box_step x z ne = absurd (ne refl)

pub loc_step_set : (l : Loc) (i j : Step) (x z : Tree) → loc_step l j (set_child i z x) ≡ loc_step l j x
loc_step_set l i (field_step j) x z = refl
loc_step_set l (field_step i) box_step (int_t a) z = refl
loc_step_set l (field_step i) box_step (con_t a ts) z = refl
loc_step_set l (field_step i) box_step (box_t r w x) z = refl
loc_step_set l (field_step i) box_step hole_t z = refl
loc_step_set l box_step box_step (int_t a) z = refl
loc_step_set l box_step box_step (con_t a ts) z = refl
loc_step_set l box_step box_step (box_t r w x) z = refl
loc_step_set l box_step box_step hole_t z = refl

step_case : (i j : Step) → (i ≡ j) ⊎ (i ≡ j → ⊥)
step_case (field_step i) (field_step j) =
    elim (order_case i j) [
      | inl h ↦ inr (λ e. (let k : i ≡ j = cc in omega arith))
      | inr h ↦ elim h [ inl k ↦ inl (ap field_step k) | inr k ↦ inr (λ e. (let k2 : i ≡ j = cc in omega arith)) ]
    ]
step_case (field_step i) box_step = inr (λ e. (let z : ◌≡◌ {A = ℕ} 0 1 = cc in omega arith))
step_case box_step (field_step j) = inr (λ e. (let z : ◌≡◌ {A = ℕ} 0 1 = cc in omega arith))
step_case box_step box_step = inl refl

-- references that stay: not strictly below the place, they lead to a tree of their type, where it lay
abbrev pub RefStays : List Data → Loc → Path → Path → Tree → Tree → Ty → Type 0
RefStays ds l q way x y t =
    (part2 : Tree) × (subtree way (replace q y x) ≡ some part2) × Typed ds part2 t × (loc_down l way (replace q y x) ≡ loc_down l way x)

pub subtree_replace : (ds : List Data) (l : Loc) (q way : Path) (x y old part : Tree) (u t : Ty) → subtree q x ≡ some old → Typed ds old u
    → Typed ds y u → (StrictlyBelow q way → ⊥) → subtree way x ≡ some part → Typed ds part t → RefStays ds l q way x y t
subtree_replace ds l q [] x y old part u t e ho hy nb es hp =
    (replace q y x, refl, typed_replace ds q x y old t u e (subst (λ z. Typed ds z t) (sym (some_is es)) hp) ho hy, refl)
subtree_replace ds l [] (j ∷ js) x y old part u t e ho hy nb es hp = absurd (nb (j, js, refl))
subtree_replace ds l (i ∷ is) (j ∷ js) x y old part u t e ho hy nb es hp =
    go (if_some_is (child i x) (subtree is) old e) (if_some_is (child j x) (subtree js) part es)
    (λ l2 k ek nb2 ep. subtree_replace ds l2 is js k y old part u t ek ho hy nb2 ep hp)
  where
    go : (k : Tree) × (child i x ≡ some k) × (subtree is k ≡ some old) → (k : Tree) × (child j x ≡ some k) × (subtree js k ≡ some part)
        → ((l2 : Loc) (k : Tree) → subtree is k ≡ some old → (StrictlyBelow is js → ⊥) → subtree js k ≡ some part → RefStays ds l2 is js k y t)
        → RefStays ds l (i ∷ is) (j ∷ js) x y t
    go a d ih = elim (step_case i j) [
      | inl e1 ↦ (let k_is : a.0 ≡ d.0 = some_is (sym a.1 ∙ ap (λ z. child z x) e1 ∙ d.1) in
          let z = replace is y a.0 in
          let r = ih (loc_step l j x) a.0 a.2 (λ b. nb (b.0, b.1, (let b2 = b.2 in cc)))
          (subst (λ w. subtree js w ≡ some part) (sym k_is) d.2) in
          let kd : child j (set_child i z x) ≡ some z = subst (λ w. child w (set_child i z x) ≡ some z) e1 (child_set_same i x a.0 z a.1) in
          let rs = replace_step i is y x a.0 a.1 in (
            r.0,
            ap (subtree (j ∷ js)) rs ∙ subtree_step j js (set_child i z x) z kd ∙ r.1,
            r.2,
            ap (loc_down l (j ∷ js)) rs ∙ loc_down_step l j js (set_child i z x) z kd ∙ ap (λ w. loc_down w js z) (loc_step_set l i j x z) ∙ r.3 ∙ ap
                (loc_down (loc_step l j x) js) k_is ∙ sym (loc_down_step l j js x d.0 d.1),
          ))
      | inr ne ↦ (let z = replace is y a.0 in
          let kd : child j (set_child i z x) ≡ some d.0 = child_set_other i j x z ne ∙ d.1 in
          let rs = replace_step i is y x a.0 a.1 in (
            part,
            ap (subtree (j ∷ js)) rs ∙ subtree_step j js (set_child i z x) d.0 kd ∙ d.2,
            hp,
            ap (loc_down l (j ∷ js)) rs ∙ loc_down_step l j js (set_child i z x) d.0 kd ∙ ap (λ w. loc_down w js d.0) (loc_step_set l i j x z)
                ∙ sym (loc_down_step l j js x d.0 d.1),
          ))
    ]
