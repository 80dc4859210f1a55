-- A box is dropped: a record goes on what's under way, what's in it is dropped, its place is given back. One value's drop.
use mathlib.Core.Path.{◌≡◌, refl, sym, ap, subst, ◌∙◌}
use mathlib.Core.Bool.{Bool, true, false, not}
use mathlib.Core.List.{List, [], ◌∷◌, ◌++◌}
use mathlib.Core.Option.{Option, some}
use mathlib.Core.Logic.{◌⊎◌, inl, inr}
use Prim.Native.Nat.{ℕ, suc, ◌+◌, ◌-◌, ◌≤◌, ◌<◌}
use native.Mathlib.Omega.{arith}
use lib.ListN.{length}
use lib.Dec.{eqb, leb, T}
use Rattle.language.specs.Base.{Lexeme, from_option, at_place, set_at}
use Rattle.language.specs.Syntax.{Ty, int, dat, box, ref, mut, Prog}
use Rattle.language.specs.Checks.{fn_named, home_of}
use Rattle.language.specs.Meaning.{Value, int_v, con_v, box_v, ref_v, hole, Values, Root, Class, State, no_stack, ok, then, goes_under, with_under, with_roots, with_classes, live_root, read_at, here, ends_box, count_out, words_of, at_path, eval, drops}
use Rattle.simulation.proofs.Machine.{Kit, Info, Ent, Place, Pools, Instr, RESUME, Mode, running, dropping, tagged, fields, whole, Mach, Next, go, halt, stopped, upd, to_mode, pushed, popped, behind, from_end, does, drop_step, tagged_step, fields_step, whole_step, mode_step, Runs, Leads, leads_on, lead_mode, halt_mode}
use Rattle.simulation.proofs.Lowering.{Entry}
use Rattle.simulation.proofs.Memory.{no_some, some_is, Pl, At, Lay, Lays, total, Fits, Ext, Live, lives, live, flag_of, Refers, Owns, Sits, Mem, Kind, eqb_yes, eqb_no, upd_same, upd_other, copied, copied_all, lay_ext, lays_ext, at_put_same, Frame, frame_none, frame_words, frame_less, frame_on, frame_free}
use Rattle.simulation.proofs.Dying.{NotIn, quiet, hush, live_hush, quiet_live, owns_fewer, hush_put}
use Rattle.simulation.proofs.Boxes.{boxes, among}
use Rattle.simulation.proofs.WordOps.{if_some_is, choose_true, choose_false}
use Rattle.simulation.proofs.Context.{Dying, Ctx, has_this, has_rest, roots_in_dying, locs, awake, with_dying, Core, core_words}
use Rattle.simulation.proofs.Changes.{core_dying, core_dropped, gone_root}
use Rattle.simulation.specs.Borrows.{SteadyDrop}
use Rattle.simulation.proofs.Relation.{Pooling, Keep, keep_low, Rep, Does, by_ok, by_stop, back, does_then, does_need, does_choose, does_as}
use Rattle.simulation.proofs.Drops.{Tables, Dropped, AfterDrop, Handed, Dropping, DropSim, FieldsSim, LastSim, at_once, sim_tagged}

module _ (K : Kit) (F : Fits K) (P : Pools → (ℕ → ℕ) → List Class → List Place → Type 0) (Q : Pooling K P) (code : List Instr) (fns : Lexeme → Option Entry) (q : Prog) (dw : (k : Lexeme) (vs : Values) (i : Info) → K.info k ≡ some i → words_of q (con_v k vs) ≡ K.size (dat i.home)) where
  ends_is : (z : State) (r : ℕ) (x : Root) → Live z.roots r x → ends_box z r ≡ with_classes (with_roots z (set_at z.roots r (gone_root K F x.words))) (count_out z.classes x.words)
  ends_is z r x h = ap (λ (o : Option Root). from_option o z (λ y. with_classes (from_option o z (λ y2. with_roots z (set_at z.roots r (record { live = false; val = hole; words = y2.words })))) (count_out z.classes y.words))) h.is

  module _ (TB : Tables K F P Q code fns q dw) (u : ℕ) (ID : DropSim K F P Q code fns q dw u) (IF : FieldsSim K F P Q code fns q dw u) (IL : LastSim K F P Q code fns q dw u) where
    sim_box : (r : ℕ) (t : Ty) (a pe : ℕ) (Z : Ctx) (lo : ℕ) (L : List Pl) (s : State) (M : Mach) → M.mode ≡ dropping a t pe → Lay K L M.words a t (box_v r) → Handed K F P Q code fns q dw Z a (K.size t) (K.lent.heap + M.sp) L (awake Z s.roots) → Dropping K F P Q code fns q dw Z lo M → Rep K F P Z lo L s M → SteadyDrop K.lent q (suc u) (roots_in_dying Z.dying) Z.held (locs Z.flying) (box_v r) s → Does K F P code (λ k z N. AfterDrop K F P Q code fns q dw Z a (K.size t) (behind K a pe) lo L s.roots M z N) M (drops (suc u) K.lent q (box_v r) s)
    unfolding eval goes_under
    sim_box r t a pe Z lo L s M em ly hd1 dr R st =
        let H : ℕ = K.lent.heap in let X : ℕ = H + M.sp in let u1 : Ty = ly.0 in let A0 = ly.1.1.0 in let pl : Pl = A0.pl in
        let lw0 = dr.low in let hp = dr.heap in let fu = dr.full in
        let em2 : M.mode ≡ dropping a (box u1) pe = em ∙ ap (λ (t1 : Ty). dropping a t1 pe) ly.1.0 in
        let w0 : ℕ → ℕ = M.words in
        let w1 : ℕ → ℕ = upd w0 X (w0 a) in let w2 : ℕ → ℕ = upd w1 (X + 1) (K.size u1) in let w3 : ℕ → ℕ = upd w2 (X + 2) a in
        let W : ℕ → ℕ = upd w3 (X + 3) pe in
        let N0 : Mach = pushed M W (dropping (w0 a) u1 0) in
        let lowW : (j : ℕ) → j < X → W j ≡ w0 j = λ j g. upd_other w3 (X + 3) pe j (λ e. omega arith) ∙ (upd_other w2 (X + 2) a j (λ e. omega arith) ∙ (upd_other w1 (X + 1) (K.size u1) j (λ e. omega arith) ∙ upd_other w0 X (w0 a) j (λ e. omega arith))) in
        let s8 : State = with_under s (s.under + 8) in
        let room : leb (M.sp + 8) K.lent.stack ≡ leb (s.under + 8) K.lent.stack = ap (λ i. leb (i + 8) K.lent.stack) R.sp in
        does_need K F P code s (read_at s (here r)) (λ v ev. does_choose K F P code (leb (s.under + 8) K.lent.stack) _ _
        (λ p1.
        let rd = if_some_is (live_root s r) (λ x. at_path [] x.val) v ev in
        let x : Root = rd.0 in let lraw : Live s.roots r x = lives s.roots r x rd.1.0 in
        let ex : x.val ≡ v = some_is rd.1.1 in
        let law : Live (awake Z s.roots) r x = live_hush (roots_in_dying Z.dying) s.roots r x st.0 lraw in
        let si = R.core.mem.laid r x pl law A0.is in
        let d1 : Dying = record { root = r; pl = pl } in
        let Z2 : Ctx = with_dying d1 Z in
        let c1 : Core K Z lo L s.roots (awake Z s.roots) W = core_words K F W (λ i j o. lowW j (let lw = R.core.mem.low i j o in omega arith)) (λ f i. lowW f.at (dr.under f i)) R.core in
        let c2 : Core K Z2 lo L s.roots (awake Z2 s.roots) W = core_dying K F d1 x law A0.is ly.1.1.1 st.1 c1 in
        let R2 : Rep K F P Z2 lo L s8 N0 = record { core = c2; pool = Q.same_words M.pool w0 W s.classes (boxes s.roots L) R.pool (λ j g1 g2. lowW j (omega arith)); sp = ap (λ i. i + 8) R.sp; turns = R.turns; ins = R.ins; outs = R.outs } in
        let dd = c2.dead d1 (has_this refl) in let dwi = dd.within in let sw = F.some_word pl.ty in
        let kd = kind_of pl x.words ly.1.1.1 si.kind in
        let ewa : W (w0 a) ≡ w0 (w0 a) = lowW (w0 a) (let q1 = A0.at in omega arith) in
        let esz : K.size pl.ty ≡ K.size u1 = ap K.size A0.ty in
        let lay1 : Lay K L W (w0 a) u1 v = copied K F L w0 W (w0 a) (w0 a) u1 v (subst (λ (v1 : Value). Lay K L w0 (w0 a) u1 v1) ex (subst (λ (i : ℕ). Lay K L w0 i u1 x.val) A0.at (subst (λ (t1 : Ty). Lay K L w0 pl.at t1 x.val) A0.ty si.lay))) (λ i g. lowW (w0 a + i) (let q1 = A0.at in omega arith)) in
        let fl : flag_of v ≡ 1 = ap flag_of (sym ex) ∙ si.full kd.0 in
        let qa = A0.at in
        let hd2 : Handed K F P Q code fns q dw Z2 (w0 a) (K.size u1) (H + N0.sp) L (awake Z2 s.roots) = record { keep = λ j g1 g2. inr (d1, (has_this refl, omega arith, omega arith)); free = λ i j g1 g2 o. own_none Z L s.roots r x pl i j law A0.is kd.0 R.core.mem.apart o (omega arith) (omega arith); off = λ f i g1 g2. (let hi = R.core.high f i in omega arith) } in
        let dr2 : Dropping K F P Q code fns q dw Z2 lo N0 = record { low = omega arith; heap = hp; under = λ f i. (let z = dr.under f i in omega arith); full = omega arith; suf = dr.suf } in
        back K F P code (lead_mode {N = N0} (dropping a (box u1) pe) em2 (choose_true (leb (M.sp + 8) K.lent.stack) _ _ (room ∙ p1)))
        (does_then K F P code (then (drops u K.lent q v s8) (λ k z. ok 0 (ends_box z r)))
        (does_then K F P code (drops u K.lent q v s8) (ID v u1 (w0 a) 0 Z2 lo L s8 N0 refl fl lay1 hd2 dr2 R2 (st.2 v ev)) (λ k z N ek A.
        over r t a pe Z lo L s M pl u1 x law A0.is A0.at A0.ty ly.1.1.1 kd.0 dr R W lowW
        (upd_other w3 (X + 3) pe X (λ e. omega arith) ∙ (upd_other w2 (X + 2) a X (λ e. omega arith) ∙ (upd_other w1 (X + 1) (K.size u1) X (λ e. omega arith) ∙ upd_same w0 X (w0 a))))
        (upd_other w3 (X + 3) pe (X + 1) (λ e. omega arith) ∙ (upd_other w2 (X + 2) a (X + 1) (λ e. omega arith) ∙ upd_same w1 (X + 1) (K.size u1)))
        (upd_other w3 (X + 3) pe (X + 2) (λ e. omega arith) ∙ upd_same w2 (X + 2) a) (upd_same w3 (X + 3) pe) st.0 hd2.free z N A))
        (λ k z O ek A. by_ok O (λ x1 os r1. r1) A)))
        (λ p1. by_stop (subst (λ os. Runs K code M (stopped no_stack) os) R.outs (halt_mode (dropping a (box u1) pe) em2 (choose_false (leb (M.sp + 8) K.lent.stack) _ _ (room ∙ p1))))))
      where
        kind_of : (y : Pl) (k : ℕ) → y.box ≡ true → Kind K y k → (y.flag ≡ y.at) × (k ≡ K.size y.ty)
        kind_of y k eb (inl g) = (g.1, g.2)
        kind_of y k eb (inr g) = absurd (subst (λ (z : Bool). T (not z)) (sym g.0 ∙ eb) tt)

        own_none : (Z : Ctx) (L : List Pl) (rs : List Root) (r : ℕ) (x : Root) (pl : Pl) (i j : ℕ) → Live (awake Z rs) r x → at_place L r ≡ some pl → pl.flag ≡ pl.at → ((r i j : ℕ) → Owns K (awake Z rs) L r j → Owns K (awake Z rs) L i j → r ≡ i) → Owns K (quiet (awake Z rs) r) L i j → pl.at ≤ j → j < pl.at + K.size pl.ty → ⊥
        own_none Z L rs r x pl i j lv e fe ap1 o g1 g2 = (quiet_live (awake Z rs) r i o.root o.lives).1 (ap1 r i j (record { root = x; pl = pl; lives = lv; is = e; from = omega arith; upto = g2 }) (owns_fewer K F L (awake Z rs) (quiet (awake Z rs) r) i j (λ k z g. (quiet_live (awake Z rs) r k z g).0) o))

        over : (r : ℕ) (t : Ty) (a pe : ℕ) (Z : Ctx) (lo : ℕ) (L : List Pl) (s : State) (M : Mach) (pl : Pl) (u1 : Ty) (x : Root) → Live (awake Z s.roots) r x → at_place L r ≡ some pl → pl.at ≡ M.words a → pl.ty ≡ u1 → pl.box ≡ true → pl.flag ≡ pl.at → Dropping K F P Q code fns q dw Z lo M → Rep K F P Z lo L s M → (W : ℕ → ℕ) → ((j : ℕ) → j < K.lent.heap + M.sp → W j ≡ M.words j)
            → W (K.lent.heap + M.sp) ≡ M.words a → W (K.lent.heap + M.sp + 1) ≡ K.size u1 → W (K.lent.heap + M.sp + 2) ≡ a → W (K.lent.heap + M.sp + 3) ≡ pe → NotIn r (roots_in_dying Z.dying)
            → ((i j : ℕ) → M.words a ≤ j → j < M.words a + K.size u1 → Owns K (awake (with_dying (record { root = r; pl = pl }) Z) s.roots) L i j → ⊥)
            → (z : State) (N : Mach) → AfterDrop K F P Q code fns q dw (with_dying (record { root = r; pl = pl }) Z) (M.words a) (K.size u1) (behind K (M.words a) 0) lo L s.roots (pushed M W (dropping (M.words a) u1 0)) z N
            → Does K F P code (λ (k : ℕ) z1 O. AfterDrop K F P Q code fns q dw Z a (K.size t) (behind K a pe) lo L s.roots M (with_under z1 s.under) O) N (ok 0 (ends_box z r))
        over r t a pe Z lo L s M pl u1 x law ea aa at1 bx fe dr R W lowW k0 k1 k2 k3 nd free0 z N A =
            let H : ℕ = K.lent.heap in let X : ℕ = H + M.sp in let d1 : Dying = record { root = r; pl = pl } in let Z2 : Ctx = with_dying d1 Z in
            let a1 = A.sp in let a2 = A.full in let rs1 = R.sp in let lw0 = dr.low in let hp = dr.heap in let fu = dr.full in
            let dd = A.rep.core.dead d1 (has_this refl) in
            let x2 : Root = dd.root in let kz = dd.words in let wi = dd.within in let sw = F.some_word pl.ty in let esz : K.size pl.ty ≡ K.size u1 = ap K.size at1 in
            let none1 : (i j : ℕ) → X ≤ j → Owns K (awake Z2 s.roots) L i j → ⊥ = λ i j g o. (let lw = R.core.mem.low i j (owns_fewer K F L (awake Z s.roots) (quiet (awake Z s.roots) r) i j (λ k1 z1 g1. (quiet_live (awake Z s.roots) r k1 z1 g1).0) o) in omega arith) in
            let kp : (j : ℕ) → X ≤ j → j < X + 8 → N.words j ≡ W j = λ j g1 g2. A.frame.kept j (inl (omega arith, omega arith), λ g3 g4. omega arith) (λ i o. none1 i j g1 o) in
            let e8 : N.sp - 8 ≡ M.sp = omega arith in
            let eA : N.words (H + (N.sp - 8)) ≡ pl.at = ap (λ i. N.words (H + i)) e8 ∙ (kp X (omega arith) (omega arith) ∙ (k0 ∙ sym aa)) in
            let eZ : N.words (H + (N.sp - 8) + 1) ≡ K.size pl.ty = ap (λ i. N.words (H + i + 1)) e8 ∙ (kp (X + 1) (omega arith) (omega arith) ∙ (k1 ∙ sym esz)) in
            let eB : N.words (H + (N.sp - 8) + 2) ≡ a = ap (λ i. N.words (H + i + 2)) e8 ∙ (kp (X + 2) (omega arith) (omega arith) ∙ k2) in
            let eP : N.words (H + (N.sp - 8) + 3) ≡ pe = ap (λ i. N.words (H + i + 3)) e8 ∙ (kp (X + 3) (omega arith) (omega arith) ∙ k3) in
            let W2 : ℕ → ℕ = K.link N.pool pl.at (K.size pl.ty) N.words in
            let O : Mach = popped N W2 (K.give N.pool pl.at (K.size pl.ty)) (behind K a pe) in
            let gone : Root = gone_root K F x2.words in
            let am = among z.roots A.L2 r x2 pl gone dd.lives dd.is (omega arith) refl in
            let clr : (i j : ℕ) → Owns K (awake Z2 z.roots) A.L2 i j → pl.at ≤ j → j < pl.at + K.size pl.ty → ⊥ = λ i j o g1 g2. frame_free K F A.frame j (inr (d1, (has_this refl, g1, g2))) (λ i1 o1. free0 i1 j (omega arith) (omega arith) o1) i o in
            let c3 : Core K Z lo A.L2 (set_at z.roots r gone) (awake Z (set_at z.roots r gone)) W2 = core_dropped K F W2 d1 x2 nd dd.lives kz clr (λ j g. Q.link_at N.pool N.words pl.at pl.ty j g) A.rep.core in
            let pool3 : P (K.give N.pool pl.at (K.size pl.ty)) W2 (count_out z.classes x2.words) (boxes (set_at z.roots r gone) A.L2) = subst (λ (us : List Place). P (K.give N.pool pl.at (K.size pl.ty)) W2 (count_out z.classes x2.words) us) (sym am.gone)
            (subst (λ (k : ℕ). P (K.give N.pool pl.at (K.size pl.ty)) W2 (count_out z.classes k) (am.before ++ am.behind)) (sym kz)
            (Q.given N.pool N.words z.classes am.before am.behind pl.at pl.ty (subst (λ (k : ℕ). P N.pool N.words z.classes (am.before ++ (record { at = pl.at; size = k } ∷ am.behind))) kz (subst (λ (us : List Place). P N.pool N.words z.classes us) am.is A.rep.pool)))) in
            let ne : eqb N.sp N.full ≡ false = eqb_no N.sp N.full (λ e. omega arith) in
            let em3 : N.mode ≡ whole = A.mode in
            let Dn : State = with_classes (with_roots z (set_at z.roots r gone)) (count_out z.classes x2.words) in
            let hp3 : awake Z (set_at z.roots r gone) ≡ set_at (awake Z z.roots) r gone = hush_put (roots_in_dying Z.dying) z.roots r gone nd in
            let owner : (j : ℕ) → pl.at ≤ j → j < pl.at + K.size pl.ty → Owns K (awake Z s.roots) L r j = λ j g1 g2. record { root = x; pl = pl; lives = law; is = ea; from = omega arith; upto = g2 } in
            let fewer0 : (i j : ℕ) → Owns K (awake Z2 s.roots) L i j → Owns K (awake Z s.roots) L i j = λ i j o. owns_fewer K F L (awake Z s.roots) (quiet (awake Z s.roots) r) i j (λ k4 z4 g4. (quiet_live (awake Z s.roots) r k4 z4 g4).0) o in
            let fr : Dropped K F P Q code fns q dw Z.dying X a (K.size t) L (awake Z s.roots) M.words A.L2 (awake Z (set_at z.roots r gone)) W2 = record {
              ext = A.frame.ext;
              kept = λ j k n1. (let nin : (pl.at ≤ j) × (j < pl.at + K.size pl.ty) → ⊥ = λ g. n1 r (owner j g.0 g.1) in
                  let lj = keep_low K Z.dying X L s.roots (omega arith) R.core.dead j k.0 in
                  Q.link_at N.pool N.words pl.at pl.ty j nin ∙ (A.frame.kept j (keep_more Z d1 j k.0, λ g1 g2. nin (omega arith, omega arith)) (λ i o. n1 i (fewer0 i j o)) ∙ lowW j lj));
              grew = λ i j o. grew1 Z d1 L s.roots i j fewer0 (A.frame.grew i j (to_quiet Z z.roots A.L2 r x2 gone i j refl nd dd.lives (subst (λ (k : List Root). Owns K k A.L2 i j) hp3 o)));
            } in
            subst (λ (d : State). Does K F P code (λ (k : ℕ) z1 O1. AfterDrop K F P Q code fns q dw Z a (K.size t) (behind K a pe) lo L s.roots M (with_under z1 s.under) O1) N (ok 0 d)) (sym (ends_is z r x2 dd.lives))
            (by_ok O (lead_mode {N = O} whole em3 (choose_false (eqb N.sp N.full) _ _ ne ∙ (ap (λ i. go (popped N (K.link N.pool i (N.words (H + (N.sp - 8) + 1)) N.words) (K.give N.pool i (N.words (H + (N.sp - 8) + 1))) (behind K (N.words (H + (N.sp - 8) + 2)) (N.words (H + (N.sp - 8) + 3))))) eA
            ∙ (ap (λ i. go (popped N (K.link N.pool pl.at i N.words) (K.give N.pool pl.at i) (behind K (N.words (H + (N.sp - 8) + 2)) (N.words (H + (N.sp - 8) + 3))))) eZ
            ∙ (ap (λ i. go (popped N W2 (K.give N.pool pl.at (K.size pl.ty)) (behind K i (N.words (H + (N.sp - 8) + 3))))) eB ∙ ap (λ i. go (popped N W2 (K.give N.pool pl.at (K.size pl.ty)) (behind K a i))) eP)))))
            (record {
              L2 = A.L2;
              mode = refl;
              ctl = A.ctl;
              fb = A.fb;
              sp = e8;
              full = A.full;
              rep = record { core = c3; pool = pool3; sp = e8 ∙ rs1; turns = A.rep.turns; ins = A.rep.ins; outs = A.rep.outs };
              frame = fr;
            }))
          where
            keep_more : (Z : Ctx) (d1 : Dying) (j : ℕ) → Keep K Z.dying (K.lent.heap + M.sp) j → Keep K (d1 ∷ Z.dying) (K.lent.heap + (M.sp + 8)) j
            keep_more Z d1 j (inl k) = let k1 = k.1 in inl (k.0, omega arith)
            keep_more Z d1 j (inr k) = inr (k.0, (has_rest k.1.0, k.1.1, k.1.2))

            grew1 : (Z : Ctx) (d1 : Dying) (L : List Pl) (rs : List Root) (i j : ℕ) → ((i j : ℕ) → Owns K (awake (with_dying d1 Z) rs) L i j → Owns K (awake Z rs) L i j) → Owns K (awake (with_dying d1 Z) rs) L i j ⊎ (Keep K (d1 ∷ Z.dying) (K.lent.heap + (M.sp + 8)) j → ⊥) → Owns K (awake Z rs) L i j ⊎ (Keep K Z.dying (K.lent.heap + M.sp) j → ⊥)
            grew1 Z d1 L rs i j f (inl o) = inl (f i j o)
            grew1 Z d1 L rs i j f (inr o) = inr (λ k. o (keep_more Z d1 j k))

            to_quiet : (Z : Ctx) (rs : List Root) (L : List Pl) (r : ℕ) (x gone : Root) (i j : ℕ) → gone.live ≡ false → NotIn r (roots_in_dying Z.dying) → Live rs r x → Owns K (set_at (awake Z rs) r gone) L i j → Owns K (quiet (awake Z rs) r) L i j
            to_quiet Z rs L r x gone i j eg nd lv o = owns_fewer K F L (quiet (awake Z rs) r) (set_at (awake Z rs) r gone) i j (λ k z g. one k z g (Rattle.simulation.proofs.Memory.same_or r k)) o
              where
                one : (k : ℕ) (z : Root) → Live (set_at (awake Z rs) r gone) k z → (r ≡ k) ⊎ (r ≡ k → ⊥) → Live (quiet (awake Z rs) r) k z
                one k z g (inl q1) =
                    let lvw : Live (awake Z rs) r x = live_hush (roots_in_dying Z.dying) rs r x nd lv in
                    let e1 : gone ≡ z = some_is (sym (subst (λ (k1 : ℕ). at_place (set_at (awake Z rs) r gone) k1 ≡ some gone) q1 (at_put_same (awake Z rs) r x gone lvw.is)) ∙ g.is) in
                    absurd (subst (λ (t1 : Bool). T (not t1)) (sym eg ∙ (ap (λ (k1 : Root). k1.live) e1 ∙ g.lives)) tt)
                one k z g (inr q1) = record { is = Rattle.simulation.proofs.Dying.quiet_at (awake Z rs) r k q1 ∙ (sym (Rattle.simulation.proofs.Memory.at_put_other (awake Z rs) r k gone q1) ∙ g.is); lives = g.lives }

    pub sim_drop : DropSim K F P Q code fns q dw (suc u)
    unfolding eval
    sim_drop (int_v k) t a pe Z lo L s M em fl ly hd1 dr R st = at_once K F P Q code fns q dw a (K.size t) pe int Z lo L s M (em ∙ ap (λ (t1 : Ty). dropping a t1 pe) ly.0) refl R
    sim_drop (con_v k vs) t a pe Z lo L s M em fl ly hd1 dr R st =
        let m : Info = ly.0 in let ek = ly.1.0 in let d : Lexeme = m.home in
        let em2 : M.mode ≡ dropping a (dat d) pe = em ∙ ap (λ (t1 : Ty). dropping a t1 pe) ly.1.1 in
        let ly2 : Lay K L M.words a (dat d) (con_v k vs) = subst (λ (t1 : Ty). Lay K L M.words a t1 (con_v k vs)) ly.1.1 ly in
        let hd2 : Handed K F P Q code fns q dw Z a (K.size (dat d)) (K.lent.heap + M.sp) L (awake Z s.roots) = subst (λ (t1 : Ty). Handed K F P Q code fns q dw Z a (K.size t1) (K.lent.heap + M.sp) L (awake Z s.roots)) ly.1.1 hd1 in
        subst (λ (t1 : Ty). Does K F P code (λ (n1 : ℕ) z N. AfterDrop K F P Q code fns q dw Z a (K.size t1) (behind K a pe) lo L s.roots M z N) M (drops (suc u) K.lent q (con_v k vs) s)) (sym ly.1.1)
        (does_need K F P code s (home_of q.datas k) (λ h eh. does_choose K F P code (eqb (length h.data1.last) 0) _ _
        (λ e0. let N0 : Mach = to_mode M M.ctl M.words (tagged a d pe) in
        back K F P code (lead_mode {N = N0} (dropping a (dat d) pe) em2 (ap (λ (o : Option Lexeme). from_option o (go N0) (λ f. Rattle.simulation.proofs.Machine.enters K code M (K.resume d) (K.lent.heap + M.sp + 2) a pe (length M.ctl) f 1 (mut (dat d) ∷ []) (K.lent.heap + M.sp + 4))) (TB.plain k m h ek eh e0)))
        (does_as K F P code (sim_tagged K F P Q code fns q dw TB u ID IF k vs d a pe Z lo L s N0 refl ly2 hd2 (record { low = dr.low; heap = dr.heap; under = dr.under; full = dr.full; suf = dr.suf }) (record { core = R.core; pool = R.pool; sp = R.sp; turns = R.turns; ins = R.ins; outs = R.outs }) ((st h eh).0 e0))
        (λ n1 z N A. record { L2 = A.L2; mode = A.mode; ctl = A.ctl; fb = A.fb; sp = A.sp; full = A.full; rep = A.rep; frame = A.frame })))
        (λ e0. does_need K F P code s (fn_named q.funs h.data1.last) (λ fn ef. IL (con_v k vs) h.data1.last d fn a pe Z lo L s M em2 refl (TB.last k m h ek eh e0) ef ly2 hd2 dr R ((st h eh).1 e0 fn ef)))))
    sim_drop (box_v r) t a pe Z lo L s M em fl ly hd1 dr R st = sim_box r t a pe Z lo L s M em ly hd1 dr R st
    sim_drop (ref_v l) int a pe Z lo L s M em fl ly hd1 dr R st = absurd ly.1
    sim_drop (ref_v l) (dat d) a pe Z lo L s M em fl ly hd1 dr R st = absurd ly.1
    sim_drop (ref_v l) (box d) a pe Z lo L s M em fl ly hd1 dr R st = absurd ly.1
    sim_drop (ref_v l) (ref d) a pe Z lo L s M em fl ly hd1 dr R st = at_once K F P Q code fns q dw a (K.size (ref d)) pe (ref d) Z lo L s M em refl R
    sim_drop (ref_v l) (mut d) a pe Z lo L s M em fl ly hd1 dr R st = at_once K F P Q code fns q dw a (K.size (mut d)) pe (mut d) Z lo L s M em refl R
    sim_drop hole t a pe Z lo L s M em fl ly hd1 dr R st = absurd (omega arith)
