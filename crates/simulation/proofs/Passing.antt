-- Arguments become parameters: their words are copied into the callee's slots.
use mathlib.Core.Path.{◌≡◌, refl, sym, ap, subst, ◌∙◌}
use mathlib.Core.List.{List, [], ◌∷◌}
use Prim.Native.Nat.{ℕ, ◌+◌, ◌≤◌, ◌<◌}
use native.Mathlib.Omega.{arith}
use Rattle.language.specs.Syntax.{Ty, int, dat, box, ref, mut}
use Rattle.language.specs.Meaning.{Loc, Value, ref_v, Values, nil_v, cons_v, list_of, Root}
use Rattle.simulation.proofs.Machine.{Kit, upd, copy, passed}
use Rattle.simulation.proofs.Memory.{Pl, Lay, Lays, total, Fits, Refers, upd_same, upd_other, copied, copied_all}
use Rattle.simulation.proofs.WordOps.{copy_in, copy_under}
use Rattle.simulation.proofs.Pointers.{Spot, spot_word}
use Rattle.simulation.proofs.Context.{Flying, Ctx, Has, has_this, with_flying, fly, Core}
use Rattle.simulation.proofs.Arguments.{flies, has_flies}
use Rattle.simulation.proofs.Binding.{InSlots}

-- references among arguments are right
abbrev pub ArgSpots : Kit → List Pl → List Root → (ℕ → ℕ) → ℕ → List Ty → Values → Type 0
ArgSpots K L ws w a [] vs = Unit {0}
ArgSpots K L ws w a (t ∷ ts) nil_v = Unit {0}
ArgSpots K L ws w a (t ∷ ts) (cons_v v vs) = ((l : Loc) (u : Ty) → v ≡ ref_v l → Refers t u → Spot K L ws l (w a) u) × ArgSpots K L ws w (a + K.size t) ts vs

no_cons : {t : Ty} {ts : List Ty} → [] ≡ t ∷ ts → ⊥
no_cons {t} {ts} e = let z : ◌≡◌ {A = ℕ} 0 1 = cc in omega arith

cons_no : {t : Ty} {ts : List Ty} → t ∷ ts ≡ [] → ⊥
cons_no {t} {ts} e = let z : ◌≡◌ {A = ℕ} 0 1 = cc in omega arith

has_it : (a : ℕ) (t : Ty) (v : Value) (fs : List Flying) (l : Loc) (u : Ty) → v ≡ ref_v l → Refers t u → Has (record { loc = l; at = a; ty = u }) (fly a t v fs)
has_it a t v fs l u e rf = subst (λ (v1 : Value). Has (record { loc = l; at = a; ty = u }) (fly a t v1 fs)) (sym e) (by t rf)
  where
    by : (t : Ty) → Refers t u → Has (record { loc = l; at = a; ty = u }) (fly a t (ref_v l) fs)
    by int r1 = absurd r1
    by (dat d) r1 = absurd r1
    by (box d) r1 = absurd r1
    by (ref d) r1 = has_this (ap (λ (k : Ty). record { loc = l; at = a; ty = k }) r1)
    by (mut d) r1 = has_this (ap (λ (k : Ty). record { loc = l; at = a; ty = k }) r1)

module _ (K : Kit) (F : Fits K) where
  pub flies_spots : (Z : Ctx) (bound : ℕ) (L : List Pl) (rs ws : List Root) (w : ℕ → ℕ) (a : ℕ) (ts : List Ty) (vs : Values) (fs : List Flying) → Core K (with_flying (flies K a ts vs fs) Z) bound L rs ws w → ArgSpots K L ws w a ts vs
  flies_spots Z bound L rs ws w a [] vs fs c = tt
  flies_spots Z bound L rs ws w a (t ∷ ts) nil_v fs c = tt
  flies_spots Z bound L rs ws w a (t ∷ ts) (cons_v v vs) fs c = ((λ l u e rf. c.flown _ (has_flies K (a + K.size t) ts vs (fly a t v fs) _ (has_it a t v fs l u e rf))), flies_spots Z bound L rs ws w (a + K.size t) ts vs (fly a t v fs) c)

  pub spots_words : (L : List Pl) (ws : List Root) (w w' : ℕ → ℕ) (a : ℕ) (ts : List Ty) (vs : Values) → ((j : ℕ) → a ≤ j → j < a + total K ts → w' j ≡ w j) → ArgSpots K L ws w a ts vs → ArgSpots K L ws w' a ts vs
  spots_words L ws w w' a [] vs f h = tt
  spots_words L ws w w' a (t ∷ ts) nil_v f h = tt
  spots_words L ws w w' a (t ∷ ts) (cons_v v vs) f h = let sw = F.some_word t in ((λ l u e rf. spot_word K F L ws l (w a) (w' a) u (f a (omega arith) (omega arith)) (h.0 l u e rf)), spots_words L ws w w' (a + K.size t) ts vs (λ j g1 g2. f j (omega arith) (omega arith)) h.1)

  pub passed_under : (ts : List Ty) (w : ℕ → ℕ) (d a j : ℕ) → j < d → passed K w d a ts j ≡ w j
  passed_under [] w d a j h = refl
  passed_under (t ∷ ts) w d a j h = let w1 : ℕ → ℕ = copy w (d + 1) a (K.size t) in passed_under ts (upd w1 d 1) (d + (1 + K.size t)) (a + K.size t) j (omega arith) ∙ (upd_other w1 d 1 j (λ e. omega arith) ∙ copy_under w (d + 1) a (K.size t) j (omega arith))

  pub passed_slots : (L : List Pl) (ws : List Root) (ts : List Ty) (vs : Values) (w : ℕ → ℕ) (d a : ℕ) → Lays K L w a ts vs → ArgSpots K L ws w a ts vs → a + total K ts ≤ d → InSlots K L ws (passed K w d a ts) d ts (list_of vs)
  passed_slots L ws [] nil_v w d a y sp h = tt
  passed_slots L ws [] (cons_v v vs) w d a y sp h = absurd (no_cons y.1.1.0)
  passed_slots L ws (t ∷ ts) nil_v w d a y sp h = absurd (cons_no y)
  passed_slots L ws (t ∷ ts) (cons_v v vs) w d a y sp h =
      let q2 : t ≡ y.0 = (let e = y.1.1.0 in cc) in let q3 : ts ≡ y.1.0 = (let e = y.1.1.0 in cc) in
      let l0 : Lay K L w a t v = subst (λ (x : Ty). Lay K L w a x v) (sym q2) y.1.1.1 in
      let l1 : Lays K L w (a + K.size t) ts vs = subst (λ (x : Ty). Lays K L w (a + K.size x) ts vs) (sym q2) (subst (λ (x : List Ty). Lays K L w (a + K.size y.0) x vs) (sym q3) y.1.1.2) in
      let z : ℕ = K.size t in let sw = F.some_word t in
      let w1 : ℕ → ℕ = copy w (d + 1) a z in let w2 : ℕ → ℕ = upd w1 d 1 in
      let w3 : ℕ → ℕ = passed K w2 (d + (1 + z)) (a + z) ts in
      let under1 : (j : ℕ) → j < d → w2 j ≡ w j = λ j g. upd_other w1 d 1 j (λ e. omega arith) ∙ copy_under w (d + 1) a z j (omega arith) in
      let keep3 : (j : ℕ) → j < d + (1 + z) → w3 j ≡ w2 j = λ j g. passed_under ts w2 (d + (1 + z)) (a + z) j g in
      let at2 : (i : ℕ) → i < z → w2 ((d + 1) + i) ≡ w (a + i) = λ i g. upd_other w1 d 1 ((d + 1) + i) (λ e. omega arith) ∙ copy_in w (d + 1) a z i g in
      let l2 : Lays K L w2 (a + z) ts vs = copied_all K F L w w2 (a + z) (a + z) ts vs l1 (λ i g. under1 ((a + z) + i) (omega arith)) in
      let rest = passed_slots L ws ts vs w2 (d + (1 + z)) (a + z) l2 (spots_words L ws w w2 (a + z) ts vs (λ j g1 g2. under1 j (omega arith)) sp.1) (omega arith) in
      let e1 : d + 1 ≡ (d + 1) + 0 = omega arith in let e2 : a + 0 ≡ a = omega arith in (
        record {
          flag = keep3 d (omega arith) ∙ upd_same w1 d 1;
          lay = copied K F L w w3 a (d + 1) t v l0 (λ i g. keep3 ((d + 1) + i) (omega arith) ∙ at2 i g);
          there = y.1.1.3;
          spot = λ l u e rf. spot_word K F L ws l (w a) (w3 (d + 1)) u (keep3 (d + 1) (omega arith) ∙ (ap w2 e1 ∙ (at2 0 (omega arith) ∙ ap w e2))) (sp.0 l u e rf);
        },
        rest,
      )
