-- Values are dropped: the statements; fields one after the other, with the way back in the dead tag; boxes.
use mathlib.Core.Path.{◌≡◌, refl, sym, ap, subst, ◌∙◌}
use mathlib.Core.List.{List, [], ◌∷◌}
use mathlib.Core.Option.{Option, some, none}
use mathlib.Core.Logic.{inl, inr}
use Prim.Native.Nat.{ℕ, suc, ◌+◌, ◌-◌, ◌≤◌, ◌<◌}
use native.Mathlib.Omega.{arith}
use lib.Dec.{eqb}
use Rattle.language.specs.Base.{Lexeme, from_option}
use Rattle.language.specs.Syntax.{Ty, int, dat, box, ref, mut, Fn, Prog}
use Rattle.language.specs.Checks.{fn_named}
use Rattle.language.specs.Meaning.{Value, int_v, con_v, box_v, ref_v, hole, Values, nil_v, cons_v, Root, Class, State, ok, words_of, eval, drops, drops_all, parts_of, lasts}
pub use Rattle.simulation.specs.Fitting.{Run, AllOwned}
use Rattle.simulation.proofs.Machine.{Kit, Info, Ent, Place, Pools, Instr, Mode, dropping, tagged, fields, whole, Mach, go, upd, to_mode, behind, drop_step, lead_mode}
use Rattle.simulation.proofs.Lowering.{Entry, Suf}
use Rattle.simulation.proofs.Memory.{Pl, Lay, Lays, total, Fits, flag_of, Owns, eqb_no, upd_same, upd_other, copied_all, lays_ext, Frame, frame_none, frame_words, frame_less, frame_on, frame_free}
use Rattle.simulation.proofs.Boxes.{boxes, In, Among, among}
use Rattle.simulation.proofs.WordOps.{choose_false}
use Rattle.simulation.proofs.Context.{Flying, Dying, Ctx, Has, roots_in_dying, locs, awake, Core, core_words}
use Rattle.simulation.specs.Borrows.{SteadyDrop, SteadyDrops, SteadyParts, SteadyLast}
use Rattle.simulation.proofs.Relation.{Pooling, Keep, Rep, Does, by_ok, back, does_then, does_as}
use Rattle.simulation.proofs.Stand.{Under}

module _ (K : Kit) (F : Fits K) (P : Pools → (ℕ → ℕ) → List Class → List Place → Type 0) (Q : Pooling K P) (code : List Instr) (fns : Lexeme → Option Entry) (q : Prog) (dw : (k : Lexeme) (vs : Values) (i : Info) → K.info k ≡ some i → words_of q (con_v k vs) ≡ K.size (dat i.home)) where
  abbrev pub LastFn : Lexeme → Lexeme → Type 0
  LastFn d f = Rattle.simulation.specs.Fitting.LastFn K fns code q d f

  abbrev pub Tables : Type 0
  Tables = Rattle.simulation.specs.Fitting.Tables K fns code q

  -- words that stay while those from a on, z of them, are dropped
  abbrev pub SameBut : List Dying → ℕ → ℕ → ℕ → ℕ → Type 0
  SameBut D top a z j = Keep K D top j × (a ≤ j → j < a + z → ⊥)

  abbrev pub Dropped : List Dying → ℕ → ℕ → ℕ → List Pl → List Root → (ℕ → ℕ) → List Pl → List Root → (ℕ → ℕ) → Type 0
  Dropped D top a z L ws w L2 ws2 w2 = Frame K F (SameBut D top a z) (Keep K D top) L ws w L2 ws2 w2

  pub record AfterDrop (Z : Ctx) (a z : ℕ) (o : Mode) (lo : ℕ) (L : List Pl) (rs : List Root) (M : Mach) (st : State) (N : Mach) : Type 0 where
    pub L2 : List Pl
    pub mode : N.mode ≡ o
    pub ctl : N.ctl ≡ M.ctl
    pub fb : N.fb ≡ M.fb
    pub sp : N.sp ≡ M.sp
    pub full : N.full ≡ M.full
    pub rep : Rep K F P Z lo L2 st N
    pub frame : Dropped Z.dying (K.lent.heap + M.sp) a z L (awake Z rs) M.words L2 (awake Z st.roots) N.words

  -- words handed over: they are kept by all others, nobody owns them, no operand is there
  pub record Handed (Z : Ctx) (a z top : ℕ) (L : List Pl) (ws : List Root) : Type 0 where
    pub keep : (j : ℕ) → a ≤ j → j < a + z → Keep K Z.dying top j
    pub free : (r j : ℕ) → a ≤ j → j < a + z → Owns K ws L r j → ⊥
    pub off : (f : Flying) → Has f Z.flying → a ≤ f.at → f.at < a + z → ⊥

  pub record Dropping (Z : Ctx) (lo : ℕ) (M : Mach) : Type 0 where
    pub low : lo ≤ K.lent.heap + M.sp
    pub heap : K.lent.heap ≤ lo
    pub under : Under Z (K.lent.heap + M.sp)
    pub full : M.full ≤ M.sp
    pub suf : Suf K fns M.ctl code

  abbrev pub DropSim : ℕ → Type 0
  DropSim u = (v : Value) (t : Ty) (a pe : ℕ) (Z : Ctx) (lo : ℕ) (L : List Pl) (s : State) (M : Mach) → M.mode ≡ dropping a t pe → flag_of v ≡ 1 → Lay K L M.words a t v → Handed Z a (K.size t) (K.lent.heap + M.sp) L (awake Z s.roots) → Dropping Z lo M → Rep K F P Z lo L s M → SteadyDrop K.lent q u (roots_in_dying Z.dying) Z.held (locs Z.flying) v s → Does K F P code (λ k z N. AfterDrop Z a (K.size t) (behind K a pe) lo L s.roots M z N) M (drops u K.lent q v s)

  abbrev pub FieldsSim : ℕ → Type 0
  FieldsSim u = (vs : Values) (ts : List Ty) (o e a : ℕ) (Z : Ctx) (lo : ℕ) (L : List Pl) (s : State) (M : Mach) → M.mode ≡ fields a e → 1 ≤ e → 1 ≤ o → Run K e o ts → Lays K L M.words (a + o) ts vs → Handed Z (a + o) (total K ts) (K.lent.heap + M.sp) L (awake Z s.roots) → Handed Z a 1 (K.lent.heap + M.sp) L (awake Z s.roots) → Dropping Z lo M → Rep K F P Z lo L s M → SteadyDrops K.lent q u (roots_in_dying Z.dying) Z.held (locs Z.flying) vs s → Does K F P code (λ k z N. AfterDrop Z (a + o) (total K ts) (behind K a (M.words a)) lo L s.roots M z N) M (drops_all u K.lent q vs s)

  abbrev pub PartsSim : ℕ → Type 0
  PartsSim u = (v : Value) (d : Lexeme) (a pe : ℕ) (Z : Ctx) (lo : ℕ) (L : List Pl) (s : State) (M : Mach) → M.mode ≡ tagged a d pe → flag_of v ≡ 1 → Lay K L M.words a (dat d) v → Handed Z a (K.size (dat d)) (K.lent.heap + M.sp) L (awake Z s.roots) → Dropping Z lo M → Rep K F P Z lo L s M → SteadyParts K.lent q u (roots_in_dying Z.dying) Z.held (locs Z.flying) v s → Does K F P code (λ k z N. AfterDrop Z a (K.size (dat d)) (behind K a pe) lo L s.roots M z N) M (parts_of u K.lent q v s)

  abbrev pub LastSim : ℕ → Type 0
  LastSim u = (v : Value) (f d : Lexeme) (fn : Fn) (a pe : ℕ) (Z : Ctx) (lo : ℕ) (L : List Pl) (s : State) (M : Mach) → M.mode ≡ dropping a (dat d) pe → flag_of v ≡ 1 → LastFn d f → fn_named q.funs f ≡ some fn → Lay K L M.words a (dat d) v → Handed Z a (K.size (dat d)) (K.lent.heap + M.sp) L (awake Z s.roots) → Dropping Z lo M → Rep K F P Z lo L s M → SteadyLast K.lent q u (roots_in_dying Z.dying) Z.held (locs Z.flying) fn v s → Does K F P code (λ k z N. AfterDrop Z a (K.size (dat d)) (behind K a pe) lo L s.roots M z N) M (lasts u K.lent q fn v s)

  drop_lower : {D : List Dying} {top : ℕ} {L : List Pl} {ws : List Root} {w : ℕ → ℕ} {L2 : List Pl} {ws2 : List Root} {w2 : ℕ → ℕ} (a z a2 z2 : ℕ) → a2 ≤ a → a + z ≤ a2 + z2 → Dropped D top a z L ws w L2 ws2 w2 → Dropped D top a2 z2 L ws w L2 ws2 w2
  drop_lower a z a2 z2 h1 h2 f = frame_less K F (λ j k. (k.0, λ g1 g2. k.1 (omega arith) (omega arith))) (λ j k. k) f

  drop_on : {D : List Dying} {top : ℕ} {L : List Pl} {ws : List Root} {w : ℕ → ℕ} {L2 : List Pl} {ws2 : List Root} {w2 : ℕ → ℕ} {L3 : List Pl} {ws3 : List Root} {w3 : ℕ → ℕ} (a z : ℕ) → Dropped D top a z L ws w L2 ws2 w2 → Dropped D top a z L2 ws2 w2 L3 ws3 w3 → Dropped D top a z L ws w L3 ws3 w3
  drop_on a z f g = frame_on K F (λ j k. k.0) f g

  handed_part : {Z : Ctx} {a z top : ℕ} {L : List Pl} {ws : List Root} (a2 z2 : ℕ) → a ≤ a2 → a2 + z2 ≤ a + z → Handed Z a z top L ws → Handed Z a2 z2 top L ws
  handed_part a2 z2 h1 h2 H = record { keep = λ j g1 g2. H.keep j (omega arith) (omega arith); free = λ r j g1 g2. H.free r j (omega arith) (omega arith); off = λ f i g1 g2. H.off f i (omega arith) (omega arith) }

  handed_on : {Z : Ctx} {a2 z2 top : ℕ} {L : List Pl} {ws : List Root} {w : ℕ → ℕ} {L2 : List Pl} {ws2 : List Root} {w2 : ℕ → ℕ} (a z : ℕ) → Dropped Z.dying top a z L ws w L2 ws2 w2 → Handed Z a2 z2 top L ws → Handed Z a2 z2 top L2 ws2
  handed_on a z f H = record { keep = H.keep; free = λ r j g1 g2 o. frame_free K F f j (H.keep j g1 g2) (λ r1 o1. H.free r1 j g1 g2 o1) r o; off = H.off }

  -- nothing is to be done
  pub at_once : (a z pe : ℕ) (t : Ty) (Z : Ctx) (lo : ℕ) (L : List Pl) (s : State) (M : Mach) → M.mode ≡ dropping a t pe → drop_step K code a t pe M ≡ go (to_mode M M.ctl M.words (behind K a pe)) → Rep K F P Z lo L s M → Does K F P code (λ (k : ℕ) y N. AfterDrop Z a z (behind K a pe) lo L s.roots M y N) M (ok 0 s)
  at_once a z pe t Z lo L s M em e R = by_ok (to_mode M M.ctl M.words (behind K a pe)) (lead_mode (dropping a t pe) em e) (record { L2 = L; mode = refl; ctl = refl; fb = refl; sp = refl; full = refl; rep = record { core = R.core; pool = R.pool; sp = R.sp; turns = R.turns; ins = R.ins; outs = R.outs }; frame = frame_none K F (SameBut Z.dying (K.lent.heap + M.sp) a z) (Keep K Z.dying (K.lent.heap + M.sp)) L (awake Z s.roots) M.words })

  module _ (TB : Tables) (u : ℕ) (ID : DropSim u) (IF : FieldsSim u) where
    pub sim_fields : FieldsSim (suc u)
    unfolding eval
    sim_fields nil_v ts o e a Z lo L s M em he ho rn ly hd1 hd0 dr R st =
        let e0 : K.ent e ≡ none = subst (λ (x : List Ty). Run K e o x) ly rn in
        let N : Mach = to_mode M M.ctl M.words (behind K a (M.words a)) in
        by_ok N (lead_mode (fields a e) em (ap (λ (x : Option Ent). go (to_mode M M.ctl M.words (from_option x (behind K a (M.words a)) (λ y. dropping (a + y.off) y.ty e)))) e0))
        (record { L2 = L; mode = refl; ctl = refl; fb = refl; sp = refl; full = refl; rep = record { core = R.core; pool = R.pool; sp = R.sp; turns = R.turns; ins = R.ins; outs = R.outs }; frame = frame_none K F (SameBut Z.dying (K.lent.heap + M.sp) (a + o) (total K ts)) (Keep K Z.dying (K.lent.heap + M.sp)) L (awake Z s.roots) M.words })
    sim_fields (cons_v v vs) [] o e a Z lo L s M em he ho rn ly hd1 hd0 dr R st = absurd (no_cons ly.1.1.0)
      where
        no_cons : {t : Ty} {ts : List Ty} → [] ≡ t ∷ ts → ⊥
        no_cons {t} {ts} e = let z : ◌≡◌ {A = ℕ} 0 1 = cc in omega arith
    sim_fields (cons_v v vs) (t ∷ ts) o e a Z lo L s M em he ho rn ly hd1 hd0 dr R st =
        let q2 : t ≡ ly.0 = (let e1 = ly.1.1.0 in cc) in let q3 : ts ≡ ly.1.0 = (let e1 = ly.1.1.0 in cc) in
        let l0 : Lay K L M.words (a + o) t v = subst (λ (x : Ty). Lay K L M.words (a + o) x v) (sym q2) ly.1.1.1 in
        let l1 : Lays K L M.words ((a + o) + K.size t) ts vs = subst (λ (x : Ty). Lays K L M.words ((a + o) + K.size x) ts vs) (sym q2) (subst (λ (x : List Ty). Lays K L M.words ((a + o) + K.size ly.0) x vs) (sym q3) ly.1.1.2) in
        let sw = F.some_word t in
        let N0 : Mach = to_mode M M.ctl M.words (dropping (a + o) t e) in
        let hd2 = handed_part (a + o) (K.size t) (omega arith) (omega arith) hd1 in
        let R0 : Rep K F P Z lo L s N0 = record { core = R.core; pool = R.pool; sp = R.sp; turns = R.turns; ins = R.ins; outs = R.outs } in
        let eo : (a + o) - o ≡ a = omega arith in
        let eb : behind K (a + o) e ≡ fields a (e + 1) = choose_false (eqb e 0) whole _ (eqb_no e 0 (λ z. omega arith)) ∙ (ap (λ (x : Option Ent). from_option x whole (λ y. fields ((a + o) - y.off) (e + 1))) rn.0 ∙ ap (λ (x : ℕ). fields x (e + 1)) eo) in
        back K F P code (lead_mode {N = N0} (fields a e) em (ap (λ (x : Option Ent). go (to_mode M M.ctl M.words (from_option x (behind K a (M.words a)) (λ y. dropping (a + y.off) y.ty e)))) rn.0))
        (does_then K F P code (drops u K.lent q v s) (ID v t (a + o) e Z lo L s N0 refl ly.1.1.3 l0 hd2 (record { low = dr.low; heap = dr.heap; under = dr.under; full = dr.full; suf = dr.suf }) R0 st.0) (λ k y N ek A.
        let asp = A.sp in let afl = A.full in
        let etop : K.lent.heap + M.sp ≡ K.lent.heap + N.sp = ap (λ i. K.lent.heap + i) (sym asp) in
        let same1 : (j : ℕ) → Keep K Z.dying (K.lent.heap + M.sp) j → (a + o ≤ j → j < (a + o) + K.size t → ⊥) → ((r : ℕ) → Owns K (awake Z s.roots) L r j → ⊥) → N.words j ≡ M.words j = λ j g1 g2 g3. A.frame.kept j (g1, g2) g3 in
        let e3 : (a + o) + K.size t ≡ a + (o + K.size t) = omega arith in
        let l2 : Lays K A.L2 N.words (a + (o + K.size t)) ts vs = subst (λ (x : ℕ). Lays K A.L2 N.words x ts vs) e3 (lays_ext K L A.L2 A.frame.ext N.words ((a + o) + K.size t) ts vs (copied_all K F L M.words N.words ((a + o) + K.size t) ((a + o) + K.size t) ts vs l1 (λ i g. same1 (((a + o) + K.size t) + i) (hd1.keep (((a + o) + K.size t) + i) (omega arith) (omega arith)) (λ g1 g2. omega arith) (λ r ow. hd1.free r (((a + o) + K.size t) + i) (omega arith) (omega arith) ow)))) in
        let ewa : N.words a ≡ M.words a = same1 a (hd0.keep a (omega arith) (omega arith)) (λ g1 g2. omega arith) (λ r ow. hd0.free r a (omega arith) (omega arith) ow) in
        let hd3 : Handed Z (a + (o + K.size t)) (total K ts) (K.lent.heap + N.sp) A.L2 (awake Z y.roots) = subst (λ (x : ℕ). Handed Z (a + (o + K.size t)) (total K ts) x A.L2 (awake Z y.roots)) etop (handed_on (a + o) (K.size t) A.frame (handed_part (a + (o + K.size t)) (total K ts) (omega arith) (omega arith) hd1)) in
        let hd4 : Handed Z a 1 (K.lent.heap + N.sp) A.L2 (awake Z y.roots) = subst (λ (x : ℕ). Handed Z a 1 x A.L2 (awake Z y.roots)) etop (handed_on (a + o) (K.size t) A.frame hd0) in
        let dr2 : Dropping Z lo N = record { low = subst (λ (x : ℕ). lo ≤ x) etop dr.low; heap = dr.heap; under = λ f i. subst (λ (x : ℕ). f.at < x) etop (dr.under f i); full = (let df = dr.full in omega arith); suf = subst (λ (x : List Instr). Suf K fns x code) (sym A.ctl) dr.suf } in
        does_as K F P code (IF vs ts (o + K.size t) (e + 1) a Z lo A.L2 y N (A.mode ∙ eb) (omega arith) (omega arith) rn.1 l2 hd3 hd4 dr2 A.rep (st.1 k y ek)) (λ k2 y2 O B1.
        record {
          L2 = B1.L2;
          mode = B1.mode ∙ ap (behind K a) ewa;
          ctl = B1.ctl ∙ A.ctl;
          fb = B1.fb ∙ A.fb;
          sp = B1.sp ∙ A.sp;
          full = B1.full ∙ A.full;
          rep = B1.rep;
          frame = drop_on (a + o) (total K (t ∷ ts)) (drop_lower (a + o) (K.size t) (a + o) (total K (t ∷ ts)) (omega arith) (omega arith) A.frame) (drop_lower (a + (o + K.size t)) (total K ts) (a + o) (total K (t ∷ ts)) (omega arith) (omega arith) (subst (λ (x : ℕ). Dropped Z.dying x (a + (o + K.size t)) (total K ts) A.L2 (awake Z y.roots) N.words B1.L2 (awake Z y2.roots) O.words) (sym etop) B1.frame));
        })))

    -- a constructor whose tag is still there: the way back in its place, then its fields
    pub sim_tagged : (k : Lexeme) (vs : Values) (d : Lexeme) (a pe : ℕ) (Z : Ctx) (lo : ℕ) (L : List Pl) (s : State) (M : Mach) → M.mode ≡ tagged a d pe → Lay K L M.words a (dat d) (con_v k vs) → Handed Z a (K.size (dat d)) (K.lent.heap + M.sp) L (awake Z s.roots) → Dropping Z lo M → Rep K F P Z lo L s M → SteadyDrops K.lent q u (roots_in_dying Z.dying) Z.held (locs Z.flying) vs s → Does K F P code (λ n1 z N. AfterDrop Z a (K.size (dat d)) (behind K a pe) lo L s.roots M z N) M (drops_all u K.lent q vs s)
    sim_tagged k vs d a pe Z lo L s M em ly hd1 dr R st =
        let m : Info = ly.0 in let ek = ly.1.0 in let eh = ly.1.1 in let sw = F.some_word (dat d) in
        let ehome : d ≡ m.home = (let z : d ≡ m.home = cc in z) in
        let sz : 1 + total K m.fields ≤ K.size (dat d) = subst (λ (t1 : Ty). 1 + total K m.fields ≤ K.size t1) (sym eh) (F.inside k m ek) in
        let rn = TB.run k m ek in
        let ef : K.first_of d (M.words a) ≡ m.first = ap (K.first_of d) ly.1.2 ∙ (ap (λ (x : Lexeme). K.first_of x m.tag) ehome ∙ TB.first k m ek) in
        let W : ℕ → ℕ = upd M.words a pe in
        let N : Mach = to_mode M M.ctl W (fields a m.first) in
        let off1 : (j : ℕ) → (j ≡ a → ⊥) → W j ≡ M.words j = λ j g. upd_other M.words a pe j g in
        let c1 : Core K Z lo L s.roots (awake Z s.roots) W = core_words K F W (λ r j o. off1 j (λ ej. hd1.free r a (omega arith) (omega arith) (subst (λ (x : ℕ). Owns K (awake Z s.roots) L r x) ej o))) (λ f i. off1 f.at (λ ej. hd1.off f i (omega arith) (omega arith))) R.core in
        let R1 : Rep K F P Z lo L s N = record { core = c1; pool = Q.same_words M.pool M.words W s.classes (boxes s.roots L) R.pool (λ j g n1. off1 j (λ ej. n1 (subst (λ (x : ℕ). In x (boxes s.roots L)) (sym ej) (in_of Z lo L s M M.words a (K.lent.heap + M.sp) (omega arith) R.core (hd1.keep a (omega arith) (omega arith)))))); sp = R.sp; turns = R.turns; ins = R.ins; outs = R.outs } in
        let l1 : Lays K L W (a + 1) m.fields vs = copied_all K F L M.words W (a + 1) (a + 1) m.fields vs ly.1.3 (λ i g. off1 ((a + 1) + i) (λ ej. omega arith)) in
        back K F P code (lead_mode {N = N} (tagged a d pe) em (ap (λ (x : ℕ). go (to_mode M M.ctl W (fields a x))) ef))
        (does_as K F P code (IF vs m.fields 1 m.first a Z lo L s N refl rn.0 (omega arith) rn.1 l1 (handed_part (a + 1) (total K m.fields) (omega arith) (omega arith) hd1) (handed_part a 1 (omega arith) (omega arith) hd1) (record { low = dr.low; heap = dr.heap; under = dr.under; full = dr.full; suf = dr.suf }) R1 st) (λ k2 y2 O B1.
        record {
          L2 = B1.L2;
          mode = B1.mode ∙ ap (behind K a) (upd_same M.words a pe);
          ctl = B1.ctl;
          fb = B1.fb;
          sp = B1.sp;
          full = B1.full;
          rep = B1.rep;
          frame = drop_on a (K.size (dat d)) (frame_words K F (SameBut Z.dying (K.lent.heap + M.sp) a (K.size (dat d))) (Keep K Z.dying (K.lent.heap + M.sp)) L (awake Z s.roots) M.words W (λ j g n1. off1 j (λ ej. g.1 (omega arith) (omega arith)))) (drop_lower (a + 1) (total K m.fields) a (K.size (dat d)) (omega arith) (omega arith) B1.frame);
        }))
      where
        in_of : (Z : Ctx) (lo : ℕ) (L : List Pl) (s : State) (M : Mach) (w : ℕ → ℕ) (a top : ℕ) → a < K.lent.heap → Core K Z lo L s.roots (awake Z s.roots) w → Keep K Z.dying top a → In a (boxes s.roots L)
        in_of Z lo L s M w a top g c (inl k) = let k0 = k.0 in absurd (omega arith)
        in_of Z lo L s M w a top g c (inr k) = let dd = c.dead k.0 k.1.0 in let ew = dd.words in let sw = F.some_word k.0.pl.ty in let k2 = k.1.2 in
            Rattle.simulation.proofs.Boxes.in_boxes s.roots L k.0.root dd.root k.0.pl a dd.lives dd.is (omega arith) k.1.1 (omega arith)

    pub sim_parts : PartsSim (suc u)
    unfolding eval
    sim_parts (int_v k) d a pe Z lo L s M em fl ly hd1 dr R st = absurd (no_int ly.0)
      where
        no_int : dat d ≡ int → ⊥
        no_int e = subst (λ (t : Ty). is_dat t) e tt
          where
            is_dat : Ty → Type 0
            is_dat int = ⊥
            is_dat (dat d) = Unit {0}
            is_dat (box t) = ⊥
            is_dat (ref t) = ⊥
            is_dat (mut t) = ⊥
    sim_parts (con_v k vs) d a pe Z lo L s M em fl ly hd1 dr R st = sim_tagged k vs d a pe Z lo L s M em ly hd1 dr R st
    sim_parts (box_v r) d a pe Z lo L s M em fl ly hd1 dr R st = absurd (no_box ly.0 ly.1.0)
      where
        is_dat : Ty → Type 0
        is_dat int = ⊥
        is_dat (dat d) = Unit {0}
        is_dat (box t) = ⊥
        is_dat (ref t) = ⊥
        is_dat (mut t) = ⊥

        no_box : (t : Ty) → dat d ≡ box t → ⊥
        no_box t e = subst (λ (t1 : Ty). is_dat t1) e tt
    sim_parts (ref_v l) d a pe Z lo L s M em fl ly hd1 dr R st = absurd ly.1
    sim_parts hole d a pe Z lo L s M em fl ly hd1 dr R st = absurd (omega arith)
