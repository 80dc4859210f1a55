-- The places of boxes.
use mathlib.Core.Path.{◌≡◌, refl, sym, ap, subst, ◌∙◌}
use mathlib.Core.Bool.{Bool, true, false, ◌&&◌, not}
use mathlib.Core.List.{List, [], ◌∷◌, ◌++◌}
use mathlib.Core.Option.{some}
use Prim.Native.Nat.{ℕ, zero, suc, ◌+◌, ◌≤◌, ◌<◌}
use native.Mathlib.Omega.{arith}
use lib.ListN.{length}
use lib.Dec.{eqb, eqb-suc-zero}
use Rattle.language.specs.Base.{choose, at_place, set_at}
use Rattle.language.specs.Meaning.{hole, Root}
pub use Rattle.simulation.specs.Pooling.{In, in_this, in_rest}
use Rattle.simulation.proofs.Machine.{Place}
use Rattle.simulation.proofs.Memory.{no_some, some_is, Pl, Live}

-- the places of boxes
abbrev pub boxes : List Root → List Pl → List Place
boxes [] L = []
boxes (x ∷ rs) [] = []
boxes (x ∷ rs) (y ∷ L) = choose (x.live && not (eqb x.words 0)) (record { at = y.at; size = x.words } ∷ boxes rs L) (boxes rs L)

pub boxes_put : (rs : List Root) (L : List Pl) (r : ℕ) (x v : Root) → Live rs r x → v.live ≡ true → v.words ≡ x.words → boxes (set_at rs r v) L ≡ boxes rs L
boxes_put [] L r x v h e1 e2 = refl
boxes_put (y ∷ rs) [] zero x v h e1 e2 = refl
boxes_put (y ∷ rs) [] (suc r) x v h e1 e2 = refl
boxes_put (y ∷ rs) (z ∷ L) zero x v h e1 e2 = let q : y ≡ x = some_is h.is in let q1 : v.live ≡ y.live = e1 ∙ sym (ap (λ k. k.live) q ∙ h.lives) in let q2 : v.words ≡ y.words = e2 ∙ sym (ap (λ k. k.words) q) in
    ap (λ k. choose (k && not (eqb v.words 0)) (record { at = z.at; size = v.words } ∷ boxes rs L) (boxes rs L)) q1 ∙ ap (λ (k : ℕ). choose {A = List Place} (y.live && not (eqb k 0)) (record { at = z.at; size = k } ∷ boxes rs L) (boxes rs L)) q2
boxes_put (y ∷ rs) (z ∷ L) (suc r) x v h e1 e2 = let ih = boxes_put rs L r x v (record { is = h.is; lives = h.lives }) e1 e2 in ap (λ (k : List Place). choose (y.live && not (eqb y.words 0)) (record { at = z.at; size = y.words } ∷ k) k) ih

-- a name comes, or goes
and_no : (z : Bool) → (z && false) ≡ false
and_no true = refl
and_no false = refl

pub boxes_name : (rs : List Root) (L : List Pl) (v : Root) (y : Pl) → length L ≡ length rs → v.words ≡ 0 → boxes (rs ++ (v ∷ [])) (L ++ (y ∷ [])) ≡ boxes rs L
boxes_name [] [] v y e q = ap (λ k. choose k (record { at = y.at; size = v.words } ∷ []) []) (ap (λ k. v.live && not (eqb k 0)) q ∙ and_no v.live)
boxes_name [] (z ∷ L) v y e q = absurd (omega arith)
boxes_name (x ∷ rs) [] v y e q = absurd (omega arith)
boxes_name (x ∷ rs) (z ∷ L) v y e q = let ih = boxes_name rs L v y (omega arith) q in ap (λ (k : List Place). choose (x.live && not (eqb x.words 0)) (record { at = z.at; size = x.words } ∷ k) k) ih

pub boxes_kill : (rs : List Root) (L : List Pl) (r : ℕ) (x v : Root) → Live rs r x → x.words ≡ 0 → v.live ≡ false → boxes (set_at rs r v) L ≡ boxes rs L
boxes_kill [] L r x v h e1 e2 = refl
boxes_kill (y ∷ rs) [] zero x v h e1 e2 = refl
boxes_kill (y ∷ rs) [] (suc r) x v h e1 e2 = refl
boxes_kill (y ∷ rs) (z ∷ L) zero x v h e1 e2 = let q : y ≡ x = some_is h.is in
    ap (λ k. choose (k && not (eqb v.words 0)) (record { at = z.at; size = v.words } ∷ boxes rs L) (boxes rs L)) e2 ∙ sym (ap (λ k. choose k (record { at = z.at; size = y.words } ∷ boxes rs L) (boxes rs L)) (ap (λ k. y.live && not (eqb k 0)) (ap (λ k. k.words) q ∙ e1) ∙ and_no y.live))
boxes_kill (y ∷ rs) (z ∷ L) (suc r) x v h e1 e2 = let ih = boxes_kill rs L r x v (record { is = h.is; lives = h.lives }) e1 e2 in ap (λ (k : List Place). choose (y.live && not (eqb y.words 0)) (record { at = z.at; size = y.words } ∷ k) k) ih

-- a box comes
and_nz : (z : ℕ) → 1 ≤ z → not (eqb z 0) ≡ true
and_nz zero h = absurd (omega arith)
and_nz (suc z) h = ap not (eqb-suc-zero z)

tt_and : (a e : Bool) → a ≡ true → e ≡ true → (a && e) ≡ true
tt_and true e h g = g
tt_and false e h g = h

pub boxes_box : (rs : List Root) (L : List Pl) (v : Root) (y : Pl) → length L ≡ length rs → v.live ≡ true → 1 ≤ v.words → boxes (rs ++ (v ∷ [])) (L ++ (y ∷ [])) ≡ boxes rs L ++ (record { at = y.at; size = v.words } ∷ [])
boxes_box [] [] v y e q h = ap (λ k. choose k (record { at = y.at; size = v.words } ∷ []) []) (tt_and v.live _ q (and_nz v.words h))
boxes_box [] (z ∷ L) v y e q h = absurd (omega arith)
boxes_box (x ∷ rs) [] v y e q h = absurd (omega arith)
boxes_box (x ∷ rs) (z ∷ L) v y e q h = let ih = boxes_box rs L v y (omega arith) q h in by (x.live && not (eqb x.words 0)) ih
  where
    by : (t : Bool) → boxes (rs ++ (v ∷ [])) (L ++ (y ∷ [])) ≡ boxes rs L ++ (record { at = y.at; size = v.words } ∷ []) → choose t (record { at = z.at; size = x.words } ∷ boxes (rs ++ (v ∷ [])) (L ++ (y ∷ []))) (boxes (rs ++ (v ∷ [])) (L ++ (y ∷ []))) ≡ choose t (record { at = z.at; size = x.words } ∷ boxes rs L) (boxes rs L) ++ (record { at = y.at; size = v.words } ∷ [])
    by true k = ap (λ (u : List Place). record { at = z.at; size = x.words } ∷ u) k
    by false k = k

-- a live box's place is among them, with what's before and behind
pub record Among (rs : List Root) (L : List Pl) (r : ℕ) (x : Root) (y : Pl) (v : Root) : Type 0 where
  pub before : List Place
  pub behind : List Place
  pub is : boxes rs L ≡ before ++ (record { at = y.at; size = x.words } ∷ behind)
  pub gone : boxes (set_at rs r v) L ≡ before ++ behind

pub among : (rs : List Root) (L : List Pl) (r : ℕ) (x : Root) (y : Pl) (v : Root) → Live rs r x → at_place L r ≡ some y → 1 ≤ x.words → v.live ≡ false → Among rs L r x y v
among [] L r x y v h e g d = absurd (no_some h.is)
among (z ∷ rs) [] r x y v h e g d = absurd (no_some e)
among (z ∷ rs) (u ∷ L) zero x y v h e g d =
    let q : z ≡ x = some_is h.is in let q2 : u ≡ y = some_is e in
    let a0 : (x.live && not (eqb x.words 0)) ≡ true = tt_and x.live _ h.lives (and_nz x.words g) in
    let a1 : boxes (x ∷ rs) (y ∷ L) ≡ record { at = y.at; size = x.words } ∷ boxes rs L = ap (λ k. choose k (record { at = y.at; size = x.words } ∷ boxes rs L) (boxes rs L)) a0 in
    record { before = []; behind = boxes rs L; is = ap (λ (k : Root). boxes (k ∷ rs) (u ∷ L)) q ∙ (ap (λ (k : Pl). boxes (x ∷ rs) (k ∷ L)) q2 ∙ a1); gone = ap (λ k. choose (k && not (eqb v.words 0)) (record { at = u.at; size = v.words } ∷ boxes rs L) (boxes rs L)) d }
among (z ∷ rs) (u ∷ L) (suc r) x y v h e g d = by (z.live && not (eqb z.words 0)) refl (among rs L r x y v (record { is = h.is; lives = h.lives }) e g d)
  where
    by : (t : Bool) → (z.live && not (eqb z.words 0)) ≡ t → Among rs L r x y v → Among (z ∷ rs) (u ∷ L) (suc r) x y v
    by true q k = record { before = record { at = u.at; size = z.words } ∷ k.before; behind = k.behind; is = ap (λ o. choose o (record { at = u.at; size = z.words } ∷ boxes rs L) (boxes rs L)) q ∙ ap (λ (o : List Place). record { at = u.at; size = z.words } ∷ o) k.is; gone = ap (λ o. choose o (record { at = u.at; size = z.words } ∷ boxes (set_at rs r v) L) (boxes (set_at rs r v) L)) q ∙ ap (λ (o : List Place). record { at = u.at; size = z.words } ∷ o) k.gone }
    by false q k = record { before = k.before; behind = k.behind; is = ap (λ o. choose o (record { at = u.at; size = z.words } ∷ boxes rs L) (boxes rs L)) q ∙ k.is; gone = ap (λ o. choose o (record { at = u.at; size = z.words } ∷ boxes (set_at rs r v) L) (boxes (set_at rs r v) L)) q ∙ k.gone }

pub in_mid : (j : ℕ) (xs ys : List Place) (u : Place) → u.at ≤ j → j < u.at + u.size → In j (xs ++ (u ∷ ys))
in_mid j [] ys u h g = in_this h g
in_mid j (x ∷ xs) ys u h g = in_rest (in_mid j xs ys u h g)

-- one that's in boxes is in one of them, or in those before and behind
pub in_apart : (j : ℕ) (xs ys : List Place) (u : Place) → In j (xs ++ (u ∷ ys)) → (u.at ≤ j → j < u.at + u.size → ⊥) → In j (xs ++ ys)
in_apart j [] ys u (in_this h g) f = absurd (f h g)
in_apart j [] ys u (in_rest h) f = h
in_apart j (x ∷ xs) ys u (in_this h g) f = in_this h g
in_apart j (x ∷ xs) ys u (in_rest h) f = in_rest (in_apart j xs ys u h f)

pub in_front : (j : ℕ) (xs ys : List Place) → In j xs → In j (xs ++ ys)
in_front j [] ys x = elim x [ ]
in_front j (x ∷ xs) ys (in_this h g) = in_this h g
in_front j (x ∷ xs) ys (in_rest h) = in_rest (in_front j xs ys h)

-- a live box's words are in boxes
pub in_boxes : (rs : List Root) (L : List Pl) (r : ℕ) (x : Root) (y : Pl) (j : ℕ) → Live rs r x → at_place L r ≡ some y → 1 ≤ x.words → y.at ≤ j → j < y.at + x.words → In j (boxes rs L)
in_boxes rs L r x y j h e g h1 h2 =
    let a = among rs L r x y (record { live = false; val = hole; words = 0 }) h e g refl in
    subst (λ us. In j us) (sym a.is) (in_mid j a.before a.behind _ h1 h2)
