-- The parts of what is matched, into their slots: as addresses, or moved out.
use mathlib.Core.Path.{◌≡◌, refl, sym, ap, subst, ◌∙◌}
use mathlib.Core.List.{List, [], ◌∷◌, ◌++◌}
use mathlib.Core.Option.{Option, some}
use Prim.Native.Nat.{ℕ, suc, ◌+◌, ◌≤◌, ◌<◌}
use native.Mathlib.Omega.{arith}
use Rattle.language.specs.Base.{Lexeme, at_place}
use Rattle.language.specs.Syntax.{Ty, int, dat, box, ref, mut, Access, take}
use Rattle.language.specs.Meaning.{Loc, Value, Values, nil_v, cons_v, Root, nth_v, list_of, refs_to}
use Rattle.simulation.proofs.Machine.{Kit, Info, Instr, NUM, PADDR, PART, Mode, running, Mach, go, upd, copy, sets, does, Leads, leads_on, lead_one}
use Rattle.simulation.proofs.Lowering.{Entry, part_ty, part_tys, part_code, code_parts}
use Rattle.simulation.proofs.Memory.{Pl, Lay, Lays, total, Fits, flag_of, Refers, upd_same, upd_other, copied, copied_all}
use Rattle.simulation.proofs.WordOps.{copy_in, copy_under}
use Rattle.simulation.proofs.Paths.{field_off}
use Rattle.simulation.proofs.Pointers.{Spot}
use Rattle.simulation.proofs.Stand.{Base, not_ref}
use Rattle.simulation.proofs.Binding.{InSlots}
use Rattle.simulation.proofs.Drops.{AllOwned}

abbrev pub step_to : Loc → ℕ → Loc
step_to l i = record { root = l.root; path = l.path ++ (i ∷ []) }

no_cons : {t : Ty} {ts : List Ty} → [] ≡ t ∷ ts → ⊥
no_cons {t} {ts} e = let z : ◌≡◌ {A = ℕ} 0 1 = cc in omega arith

cons_no : {t : Ty} {ts : List Ty} → t ∷ ts ≡ [] → ⊥
cons_no {t} {ts} e = let z : ◌≡◌ {A = ℕ} 0 1 = cc in omega arith

module _ (K : Kit) (F : Fits K) (code : List Instr) (fns : Lexeme → Option Entry) where
  -- the parts lie in their slots, and nothing below has changed
  pub record Fetched (L : List Pl) (ws : List Root) (fb h : ℕ) (ts : List Ty) (vs : List Value) (js : List Instr) (M : Mach) : Type 0 where
    pub words : ℕ → ℕ
    pub leads : Leads K code M (sets M js words)
    pub below : (j : ℕ) → j < fb + h → words j ≡ M.words j
    pub slots : InSlots K L ws words (fb + h) ts vs

  rest_of : (L : List Pl) (w : ℕ → ℕ) (a : ℕ) (t : Ty) (ts : List Ty) (v : Value) (vs : Values) → Lays K L w a (t ∷ ts) (cons_v v vs) → Lay K L w a t v × Lays K L w (a + K.size t) ts vs × (flag_of v ≡ 1)
  rest_of L w a t ts v vs y =
      let e = y.1.1.0 in let q2 : t ≡ y.0 = cc in let q3 : ts ≡ y.1.0 = cc in
      (subst (λ (x : Ty). Lay K L w a x v) (sym q2) y.1.1.1, subst (λ (x : Ty). Lays K L w (a + K.size x) ts vs) (sym q2) (subst (λ (x : List Ty). Lays K L w (a + K.size y.0) x vs) (sym q3) y.1.1.2), y.1.1.3)

  pub fetch_refs : (w : Access) → ((base f h o z : ℕ) → part_code K fns w base f h o z ≡ PADDR (h + 1) base o) → ((t : Ty) → Refers (part_ty w t) t) → ((t : Ty) → K.size (part_ty w t) ≡ 1)
      → (ts : List Ty) (vs : Values) (L : List Pl) (ws : List Root) (fb sp base f h a d i o : ℕ) (loc : Loc) (wd : ℕ → ℕ) (js : List Instr) (M : Mach) → Lays K L wd d ts vs → Base M fb sp → base < h → M.words (fb + base) ≡ a → ((j : ℕ) (x : Value) (t : Ty) → nth_v vs j ≡ some x → at_place ts j ≡ some t → Spot K L ws (step_to loc (i + j)) (a + (o + field_off K ts j)) t) → M.ctl ≡ code_parts K fns w base f h o ts js → Fetched L ws fb h (part_tys w ts) (refs_to loc i vs) js M
  fetch_refs w pc pt p1 [] nil_v L ws fb sp base f h a d i o loc wd js M y B hb ea sp1 ec = record { words = M.words; leads = λ x os r. same_ctl x os r; below = λ j g. refl; slots = tt }
    where
      same_ctl : Leads K code M (sets M js M.words)
      same_ctl x os r = subst (λ (N : Mach). Rattle.simulation.proofs.Machine.Runs K code N x os) (ap (λ (c : List Instr). sets M c M.words) (sym ec)) r
  fetch_refs w pc pt p1 [] (cons_v v vs) L ws fb sp base f h a d i o loc wd js M y B hb ea sp1 ec = absurd (no_cons y.1.1.0)
  fetch_refs w pc pt p1 (t ∷ ts) nil_v L ws fb sp base f h a d i o loc wd js M y B hb ea sp1 ec = absurd (cons_no y)
  fetch_refs w pc pt p1 (t ∷ ts) (cons_v v vs) L ws fb sp base f h a d i o loc wd js M y B hb ea sp1 ec =
      let z : ℕ = K.size (part_ty w t) in let ez = p1 t in
      let rest : List Instr = code_parts K fns w base f (h + (1 + z)) (o + K.size t) ts js in
      let W0 : ℕ → ℕ = upd M.words (fb + (h + 1)) (a + o) in
      let W1 : ℕ → ℕ = upd W0 (fb + h) 1 in
      let M1 : Mach = sets M (NUM h 1 ∷ rest) W0 in let M2 : Mach = sets M rest W1 in
      let r = rest_of L wd d t ts v vs y in
      let low1 : (j : ℕ) → j < fb + h → W1 j ≡ M.words j = λ j g. upd_other W0 (fb + h) 1 j (λ e. omega arith) ∙ upd_other M.words (fb + (h + 1)) (a + o) j (λ e. omega arith) in
      let ih = fetch_refs w pc pt p1 ts vs L ws fb sp base f (h + (1 + z)) a (d + K.size t) (suc i) (o + K.size t) loc wd js M2 r.1 (record { mode = B.mode; fb = B.fb; sp = B.sp; full = B.full }) (omega arith) (low1 (fb + base) (omega arith) ∙ ea)
      (λ j x u en ef. (let e3 : i + suc j ≡ suc i + j = omega arith in let e4 : a + (o + (K.size t + field_off K ts j)) ≡ a + ((o + K.size t) + field_off K ts j) = omega arith in
      subst (λ (k : ℕ). Spot K L ws (step_to loc k) (a + ((o + K.size t) + field_off K ts j)) u) e3 (subst (λ (k : ℕ). Spot K L ws (step_to loc (i + suc j)) k u) e4 (sp1 (suc j) x u en ef)))) refl in
      let e0 : (fb + h) + 1 ≡ fb + (h + 1) = omega arith in let e5 : fb + (h + (1 + z)) ≡ (fb + h) + (1 + z) = omega arith in
      let wh : ih.words (fb + h) ≡ 1 = ih.below (fb + h) (omega arith) ∙ upd_same W0 (fb + h) 1 in
      let wh1 : ih.words ((fb + h) + 1) ≡ a + o = ap ih.words e0 ∙ (ih.below (fb + (h + 1)) (omega arith) ∙ (upd_other W0 (fb + h) 1 (fb + (h + 1)) (λ e. omega arith) ∙ upd_same M.words (fb + (h + 1)) (a + o))) in
      let s0 : Spot K L ws (step_to loc i) (a + o) t = (let e1 : i + 0 ≡ i = omega arith in let e2 : a + (o + 0) ≡ a + o = omega arith in subst (λ (k : ℕ). Spot K L ws (step_to loc k) (a + o) t) e1 (subst (λ (k : ℕ). Spot K L ws (step_to loc (i + 0)) k t) e2 (sp1 0 v t refl refl))) in
      record {
        words = ih.words;
        leads = leads_on (lead_one {N = M1} (PADDR (h + 1) base o) (NUM h 1 ∷ rest) B.mode (ec ∙ ap (λ (k : Instr). k ∷ NUM h 1 ∷ rest) (pc base f h o (K.size t))) (ap (λ k. go (sets M (NUM h 1 ∷ rest) (upd M.words (k + (h + 1)) (M.words (k + base) + o)))) B.fb ∙ ap (λ k. go (sets M (NUM h 1 ∷ rest) (upd M.words (fb + (h + 1)) (k + o)))) ea))
            (leads_on (lead_one {N = M2} (NUM h 1) rest B.mode refl (ap (λ k. go (sets M rest (upd W0 (k + h) 1))) B.fb)) ih.leads);
        below = λ j g. ih.below j (omega arith) ∙ low1 j g;
        slots = (record { flag = wh; lay = (t, pt t); there = refl; spot = λ l u e rf. (let el : step_to loc i ≡ l = cc in subst (λ (k : Loc). Spot K L ws k (ih.words ((fb + h) + 1)) u) el (subst (λ (k : ℕ). Spot K L ws (step_to loc i) k u) (sym wh1) (subst (λ (k : Ty). Spot K L ws (step_to loc i) (a + o) k) (same_ref (part_ty w t) t u (pt t) rf) s0))) }, subst (λ (k : ℕ). InSlots K L ws ih.words k (part_tys w ts) (refs_to loc (suc i) vs)) e5 ih.slots);
      }
    where
      same_ref : (t a c : Ty) → Refers t a → Refers t c → a ≡ c
      same_ref int a c e1 e2 = absurd e1
      same_ref (dat d) a c e1 e2 = absurd e1
      same_ref (box d) a c e1 e2 = absurd e1
      same_ref (ref d) a c e1 e2 = sym e1 ∙ e2
      same_ref (mut d) a c e1 e2 = sym e1 ∙ e2

  pub fetch_words : (ts : List Ty) (vs : Values) (L : List Pl) (ws : List Root) (fb sp base f h o : ℕ) (js : List Instr) (M : Mach) → AllOwned ts → Lays K L M.words (fb + (f + (1 + o))) ts vs → f + (1 + o) + total K ts ≤ h → Base M fb sp → M.ctl ≡ code_parts K fns take base f h o ts js → Fetched L ws fb h (part_tys take ts) (list_of vs) js M
  fetch_words [] nil_v L ws fb sp base f h o js M ow y hb B ec = record { words = M.words; leads = λ x os r. same_ctl x os r; below = λ j g. refl; slots = tt }
    where
      same_ctl : Leads K code M (sets M js M.words)
      same_ctl x os r = subst (λ (N : Mach). Rattle.simulation.proofs.Machine.Runs K code N x os) (ap (λ (c : List Instr). sets M c M.words) (sym ec)) r
  fetch_words [] (cons_v v vs) L ws fb sp base f h o js M ow y hb B ec = absurd (no_cons y.1.1.0)
  fetch_words (t ∷ ts) nil_v L ws fb sp base f h o js M ow y hb B ec = absurd (cons_no y)
  fetch_words (t ∷ ts) (cons_v v vs) L ws fb sp base f h o js M ow y hb B ec =
      let z : ℕ = K.size t in let sw = F.some_word t in
      let rest : List Instr = code_parts K fns take base f (h + (1 + z)) (o + z) ts js in
      let src : ℕ = fb + (f + (1 + o)) in
      let W0 : ℕ → ℕ = copy M.words (fb + (h + 1)) src z in
      let W1 : ℕ → ℕ = upd W0 (fb + h) 1 in
      let M1 : Mach = sets M (NUM h 1 ∷ rest) W0 in let M2 : Mach = sets M rest W1 in
      let r = rest_of L M.words src t ts v vs y in
      let low1 : (j : ℕ) → j < fb + h → W1 j ≡ M.words j = λ j g. upd_other W0 (fb + h) 1 j (λ e. omega arith) ∙ copy_under M.words (fb + (h + 1)) src z j (omega arith) in
      let e6 : src + z ≡ fb + (f + (1 + (o + z))) = omega arith in
      let y2 : Lays K L W1 (fb + (f + (1 + (o + z)))) ts vs = subst (λ (k : ℕ). Lays K L W1 k ts vs) e6 (copied_all K F L M.words W1 (src + z) (src + z) ts vs r.1 (λ i g. low1 ((src + z) + i) (omega arith))) in
      let ih = fetch_words ts vs L ws fb sp base f (h + (1 + z)) (o + z) js M2 ow.1 y2 (omega arith) (record { mode = B.mode; fb = B.fb; sp = B.sp; full = B.full }) refl in
      let e5 : fb + (h + (1 + z)) ≡ (fb + h) + (1 + z) = omega arith in
      let at1 : (i : ℕ) → i < z → ih.words (((fb + h) + 1) + i) ≡ M.words (src + i) = λ i g. (let q1 : ((fb + h) + 1) + i ≡ (fb + (h + 1)) + i = omega arith in ap ih.words q1 ∙ (ih.below ((fb + (h + 1)) + i) (omega arith) ∙ (upd_other W0 (fb + h) 1 ((fb + (h + 1)) + i) (λ e. omega arith) ∙ copy_in M.words (fb + (h + 1)) src z i g))) in
      record {
        words = ih.words;
        leads = leads_on (lead_one {N = M1} (PART (h + 1) f o z) (NUM h 1 ∷ rest) B.mode ec (ap (λ k. go (sets M (NUM h 1 ∷ rest) (copy M.words (k + (h + 1)) (k + (f + (1 + o))) z))) B.fb))
            (leads_on (lead_one {N = M2} (NUM h 1) rest B.mode refl (ap (λ k. go (sets M rest (upd W0 (k + h) 1))) B.fb)) ih.leads);
        below = λ j g. ih.below j (omega arith) ∙ low1 j g;
        slots = (record { flag = ih.below (fb + h) (omega arith) ∙ upd_same W0 (fb + h) 1; lay = copied K F L M.words ih.words src ((fb + h) + 1) t v r.0 at1; there = r.2; spot = λ l u e rf. absurd (not_ref K L M.words src t l ow.0 (subst (λ (v1 : Value). Lay K L M.words src t v1) e r.0)) }, subst (λ (k : ℕ). InSlots K L ws ih.words k (part_tys take ts) (list_of vs)) e5 ih.slots);
      }
