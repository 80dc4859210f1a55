-- Values that lie in their slots get names: parameters, and the parts of what is matched.
use mathlib.Core.Path.{◌≡◌, refl, sym, ap, subst, ◌∙◌}
use mathlib.Core.Bool.{true}
use mathlib.Core.List.{List, [], ◌∷◌, ◌++◌}
use mathlib.Core.Option.{Option, some}
use mathlib.Core.Logic.{◌⊎◌, inl, inr}
use Prim.Native.Nat.{ℕ, ◌+◌, ◌≤◌, ◌<◌}
use native.Mathlib.Omega.{arith}
use lib.ListN.{length}
use Rattle.language.specs.Base.{Lexeme, at_place}
use Rattle.language.specs.Syntax.{Ty}
use Rattle.language.specs.Meaning.{Loc, Value, ref_v, Root, State, Name, Env, with_roots, adds_root, names_in, roots_in}
use Rattle.simulation.proofs.Machine.{Kit}
use Rattle.simulation.proofs.Lowering.{Slot, Sc, Entry, enter, enter_all}
use Rattle.simulation.proofs.Memory.{no_some, some_is, at_end, at_old, Pl, Lay, Fits, Ext, flag_of, Refers, Owns, lay_ext, ext_more, own_more}
use Rattle.simulation.proofs.Dying.{hush_length, hush_more}
use Rattle.simulation.proofs.Boxes.{boxes, boxes_name}
use Rattle.simulation.proofs.Pointers.{Spot}
use Rattle.simulation.proofs.Context.{Flying, Ctx, Has, roots_in_dying, awake, with_held, Core, dying_below}
use Rattle.simulation.proofs.Changes.{core_add}
use Rattle.simulation.specs.Borrows.{env_roots}
use Rattle.simulation.proofs.Relation.{pl_of, Names, no_names, one_name}
use Rattle.simulation.proofs.Scopes.{Stack, stack_on, names_on}

-- one value in its slot: its flag is up, and if it's a reference it's right
pub record InSlot (K : Kit) (L : List Pl) (ws : List Root) (w : ℕ → ℕ) (d : ℕ) (t : Ty) (v : Value) : Type 0 where
  pub flag : w d ≡ 1
  pub lay : Lay K L w (d + 1) t v
  pub there : flag_of v ≡ 1
  pub spot : (l : Loc) (u : Ty) → v ≡ ref_v l → Refers t u → Spot K L ws l (w (d + 1)) u

abbrev pub InSlots : (K : Kit) → List Pl → List Root → (ℕ → ℕ) → ℕ → List Ty → List Value → Type 0
InSlots K L ws w d [] [] = Unit {0}
InSlots K L ws w d [] (v ∷ vs) = ⊥
InSlots K L ws w d (t ∷ ts) [] = ⊥
InSlots K L ws w d (t ∷ ts) (v ∷ vs) = InSlot K L ws w d t v × InSlots K L ws w (d + (1 + K.size t)) ts vs

pub roots_same : (s : State) (vs : List Value) → roots_in s vs ≡ with_roots s (roots_in s vs).roots
roots_same s [] = refl
roots_same s (v ∷ vs) = roots_same (adds_root s v 0) vs

env_end : (ks : Env) (m : Name) (hs : List ℕ) → env_roots ks ++ (m.root ∷ hs) ≡ env_roots (ks ++ (m ∷ [])) ++ hs
env_end [] m hs = refl
env_end (k ∷ ks) m hs = ap (λ (z : List ℕ). k.root ∷ z) (env_end ks m hs)

assoc1 : {A : Type 0} (ks : List A) (m : A) (g : List A) → ks ++ (m ∷ g) ≡ (ks ++ (m ∷ [])) ++ g
assoc1 [] m g = refl
assoc1 (k ∷ ks) m g = ap (λ z. k ∷ z) (assoc1 ks m g)

module _ (K : Kit) (F : Fits K) (fns : Lexeme → Option Entry) where
  spot_added : (L : List Pl) (ws : List Root) (y : Pl) (v : Root) (l : Loc) (a : ℕ) (u : Ty) → Spot K L ws l a u → Spot K (L ++ (y ∷ [])) (ws ++ (v ∷ [])) l a u
  spot_added L ws y v l a u h = record { root = h.root; pl = h.pl; off = h.off; val = h.val; lives = record { is = at_old ws (v ∷ []) l.root h.root h.lives.is; lives = h.lives.lives }; is = at_old L (y ∷ []) l.root h.pl h.is; goes = h.goes; at = h.at }

  slots_added : (L : List Pl) (ws : List Root) (y : Pl) (v : Root) (w : ℕ → ℕ) (d : ℕ) (ts : List Ty) (vs : List Value) → InSlots K L ws w d ts vs → InSlots K (L ++ (y ∷ [])) (ws ++ (v ∷ [])) w d ts vs
  slots_added L ws y v w d [] [] h = tt
  slots_added L ws y v w d [] (x ∷ vs) h = absurd h
  slots_added L ws y v w d (t ∷ ts) [] h = absurd h
  slots_added L ws y v w d (t ∷ ts) (x ∷ vs) h = (record { flag = h.0.flag; lay = lay_ext K L (L ++ (y ∷ [])) (ext_more K F L y) w (d + 1) t x h.0.lay; there = h.0.there; spot = λ l u e rf. spot_added L ws y v l (w (d + 1)) u (h.0.spot l u e rf) }, slots_added L ws y v w (d + (1 + K.size t)) ts vs h.1)

  pub record Bound (Z : Ctx) (fb : ℕ) (C C2 : Sc) (L : List Pl) (rs rs2 : List Root) (w : ℕ → ℕ) (g g2 : Env) : Type 0 where
    pub L2 : List Pl
    pub ls : List Slot
    pub ks : Env
    pub slots : C2.names ≡ ls ++ C.names
    pub names : g2 ≡ ks ++ g
    pub stack : Stack K C.high ls C2.high
    pub new : Names L2 fb ls ks
    pub core : Core K (with_held (env_roots ks ++ Z.held) Z) (fb + C2.high) L2 rs2 (awake Z rs2) w
    pub same_boxes : boxes rs2 L2 ≡ boxes rs L
    pub ext : Ext L L2
    pub grew : (r j : ℕ) → Owns K (awake Z rs2) L2 r j → Owns K (awake Z rs) L r j ⊎ (fb + C.high ≤ j)

  pub binds : (Z : Ctx) (fb : ℕ) (C : Sc) (xs : List Lexeme) (ts : List Ty) (vs : List Value) (L : List Pl) (s : State) (w : ℕ → ℕ) (g g2 : Env) → K.lent.heap ≤ fb → ((f : Flying) → Has f Z.flying → f.at < fb + C.high) → names_in g s xs vs ≡ some g2 → InSlots K L (awake Z s.roots) w (fb + C.high) ts vs → Core K Z (fb + C.high) L s.roots (awake Z s.roots) w → Bound Z fb C (enter_all K fns C xs ts) L s.roots (roots_in s vs).roots w g g2
  binds Z fb C [] ts [] L s w g g2 h1 un en sl c = record { L2 = L; ls = []; ks = []; slots = refl; names = sym (some_is en); stack = refl; new = no_names; core = c; same_boxes = refl; ext = λ r x e. e; grew = λ r j o. inl o }
  binds Z fb C [] ts (v ∷ vs) L s w g g2 h1 un en sl c = absurd (no_some en)
  binds Z fb C (x ∷ xs) ts [] L s w g g2 h1 un en sl c = absurd (no_some en)
  binds Z fb C (x ∷ xs) [] (v ∷ vs) L s w g g2 h1 un en sl c = absurd sl
  binds Z fb C (x ∷ xs) (t ∷ ts) (v ∷ vs) L s w g g2 h1 un en sl c =
      let h : ℕ = C.high in let ws : List Root = awake Z s.roots in let sw = F.some_word t in
      let l : Slot = record { name = x; ty = t; flag = h } in
      let y : Pl = pl_of fb l in
      let x1 : Root = record { live = true; val = v; words = 0 } in
      let L3 : List Pl = L ++ (y ∷ []) in let rs3 : List Root = s.roots ++ (x1 ∷ []) in
      let e0 : (fb + h) + 1 ≡ fb + (h + 1) = omega arith in let e2 : (fb + h) + (1 + K.size t) ≡ fb + (h + (1 + K.size t)) = omega arith in
      let lay1 : Lay K L3 w (fb + (h + 1)) t v = lay_ext K L L3 (ext_more K F L y) w (fb + (h + 1)) t v (subst (λ (a : ℕ). Lay K L w a t v) e0 sl.0.lay) in
      let m1 : Name = record { name = x; root = length s.roots } in
      let lenL : length L ≡ length s.roots = c.mem.long ∙ hush_length (roots_in_dying Z.dying) s.roots in
      let Z2 : Ctx = with_held (length s.roots ∷ Z.held) Z in
      let core2 : Core K Z2 (fb + (h + (1 + K.size t))) L3 rs3 (awake Z2 rs3) w = core_add K F (fb + (h + (1 + K.size t))) y x1
      (record { lay = lay1; order = omega arith; flag = λ k. sl.0.flag ∙ sym sl.0.there; full = λ k. sl.0.there; kind = inr (refl, refl) })
      (λ r j o k1 k2. (let z = c.mem.low r j o in omega arith)) (omega arith) (omega arith)
      (λ i u e rf. subst (λ (a : ℕ). Spot K L ws i (w a) u) e0 (sl.0.spot i u e rf)) (λ f i k1 k2. (let z = un f i in omega arith)) (λ j k1 k2 k3. absurd (omega arith)) c in
      let em : awake Z rs3 ≡ ws ++ (x1 ∷ []) = hush_more (roots_in_dying Z.dying) s.roots x1 (dying_below K L s.roots Z.dying c.dead) in
      let sl2 : InSlots K L3 (awake Z2 rs3) w (fb + (h + (1 + K.size t))) ts vs = subst (λ (a : ℕ). InSlots K L3 (awake Z2 rs3) w a ts vs) e2 (subst (λ (k : List Root). InSlots K L3 k w ((fb + h) + (1 + K.size t)) ts vs) (sym em) (slots_added L ws y x1 w ((fb + h) + (1 + K.size t)) ts vs sl.1)) in
      let B = binds Z2 fb (enter K fns C x t) xs ts vs L3 (adds_root s v 0) w (m1 ∷ g) g2 h1 (λ f i. (let z = un f i in omega arith)) en sl2 core2 in
      let at1 : at_place L3 (length s.roots) ≡ some y = subst (λ k. at_place L3 k ≡ some y) lenL (at_end L y) in
      record {
        L2 = B.L2;
        ls = B.ls ++ (l ∷ []);
        ks = B.ks ++ (m1 ∷ []);
        slots = B.slots ∙ assoc1 B.ls l C.names;
        names = B.names ∙ assoc1 B.ks m1 g;
        stack = stack_on K B.ls (l ∷ []) h (h + (1 + K.size t)) _ (refl, refl) B.stack;
        new = names_on B.new (one_name refl (B.ext (length s.roots) y at1) no_names);
        core = subst (λ (hs : List ℕ). Core K (with_held hs Z) (fb + (enter_all K fns C (x ∷ xs) (t ∷ ts)).high) B.L2 (roots_in s (v ∷ vs)).roots (awake Z (roots_in s (v ∷ vs)).roots) w) (env_end B.ks m1 Z.held) B.core;
        same_boxes = B.same_boxes ∙ boxes_name s.roots L x1 y lenL refl;
        ext = λ r x2 e. B.ext r x2 (ext_more K F L y r x2 e);
        grew = λ r j o. more Z L s w y x1 h t r j c refl refl em (B.grew r j o);
      }
    where
      more : (Z : Ctx) (L : List Pl) (s : State) (w : ℕ → ℕ) (y : Pl) (x1 : Root) (h : ℕ) (t : Ty) (r j : ℕ) → Core K Z (fb + C.high) L s.roots (awake Z s.roots) w → y.flag ≡ fb + h → y.ty ≡ t → awake Z (s.roots ++ (x1 ∷ [])) ≡ awake Z s.roots ++ (x1 ∷ []) → Owns K (awake Z (s.roots ++ (x1 ∷ []))) (L ++ (y ∷ [])) r j ⊎ (fb + (h + (1 + K.size t)) ≤ j) → Owns K (awake Z s.roots) L r j ⊎ (fb + h ≤ j)
      more Z L s w y x1 h t r j c e1 e2 em (inr o) = inr (omega arith)
      more Z L s w y x1 h t r j c e1 e2 em (inl o) = two (own_more K F L (awake Z s.roots) y x1 r j c.mem.long (subst (λ (k : List Root). Owns K k (L ++ (y ∷ [])) r j) em o))
        where
          two : Owns K (awake Z s.roots) L r j ⊎ ((r ≡ length (awake Z s.roots)) × (y.flag ≤ j) × (j < y.at + K.size y.ty)) → Owns K (awake Z s.roots) L r j ⊎ (fb + h ≤ j)
          two (inl o2) = inl o2
          two (inr o2) = let z = o2.1 in inr (omega arith)
