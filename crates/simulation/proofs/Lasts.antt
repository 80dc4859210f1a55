-- Data with a last function is dropped: the function runs on the data where it lies, as a root of its own; then its parts are dropped.
use mathlib.Core.Path.{◌≡◌, refl, sym, ap, subst, ◌∙◌}
use mathlib.Core.Bool.{Bool, true, false, not}
use mathlib.Core.List.{List, [], ◌∷◌, ◌++◌}
use mathlib.Core.Option.{Option, some}
use mathlib.Core.Logic.{◌⊎◌, inl, inr}
use Prim.Native.Nat.{ℕ, suc, ◌+◌, ◌-◌, ◌≤◌, ◌<◌}
use native.Mathlib.Omega.{arith}
use lib.ListN.{length}
use lib.Dec.{T}
use Rattle.language.specs.Base.{Lexeme, from_option, at_place, set_at}
use Rattle.language.specs.Syntax.{Ty, int, dat, mut, Fn, Prog}
use Rattle.language.specs.Checks.{types_of_pars}
use Rattle.language.specs.Meaning.{Loc, Value, con_v, ref_v, hole, Values, nil_v, cons_v, Root, Class, State, with_under, with_roots, read_at, here, adds_root, kill, frame, words_of, eval, calls, parts_of}
use Rattle.simulation.proofs.Machine.{Kit, Info, Place, Pools, Instr, RESUME, dropping, tagged, Mach, go, to_mode, behind, from_end, enters, drop_step, Leads, leads_on, lead_one, lead_mode, halt_mode}
use Rattle.simulation.proofs.Lowering.{Entry}
use Rattle.simulation.proofs.Memory.{no_some, some_is, at_end, at_old, more_length, Pl, At, Lay, Lays, total, Fits, Ext, Live, lives, live, flag_of, Refers, Owns, Sits, Mem, Kind, upd_same, upd_other, copied, lay_ext, ext_more, own_more, own_put, mem_write, Frame, frame_free}
use Rattle.simulation.proofs.Dying.{NotIn, hush, hush_length, hush_more, live_hush}
use Rattle.simulation.proofs.Boxes.{boxes, In, boxes_name, boxes_kill}
use Rattle.simulation.proofs.WordOps.{copy_off, le_or}
use Rattle.simulation.proofs.Pointers.{Spot, spot_root}
use Rattle.simulation.proofs.Context.{Dying, Ctx, Has, has_rest, roots_in_dying, locs, awake, awake_live, awake_not, Unseen, Dead, Core, core_less, core_unfly, dying_below, in_added}
use Rattle.simulation.proofs.Changes.{core_add, core_end, gone_root}
use Rattle.simulation.specs.Borrows.{SteadyParts}
use Rattle.simulation.proofs.Relation.{Pooling, Keep, keep_low, Work, Rep, Does, by_ok, by_stop, back, does_then, does_need, does_as}
use Rattle.simulation.proofs.Scopes.{jump}
use Rattle.simulation.proofs.Stand.{reads, core_above}
use Rattle.simulation.proofs.Passing.{ArgSpots}
use Rattle.simulation.proofs.Calls.{Coded, CallsSim, Gave, hd, headed, under_header, narrow, back_at, returned}
use Rattle.simulation.proofs.Drops.{LastFn, Dropped, AfterDrop, Handed, Dropping, PartsSim, LastSim}

module _ (K : Kit) (F : Fits K) (P : Pools → (ℕ → ℕ) → List Class → List Place → Type 0) (Q : Pooling K P) (code : List Instr) (fns : Lexeme → Option Entry) (q : Prog) (dw : (k : Lexeme) (vs : Values) (i : Info) → K.info k ≡ some i → words_of q (con_v k vs) ≡ K.size (dat i.home)) where
  -- what is handed over ends where what is kept ends
  handed_top : (Z : Ctx) (a z top : ℕ) (L : List Pl) (rs ws : List Root) → 1 ≤ z → K.lent.heap ≤ top → ((d : Dying) → Has d Z.dying → Dead K L rs d) → Handed K F P Q code fns q dw Z a z top L ws → a + z ≤ top
  handed_top Z a z top L rs ws h1 h2 dd hd1 = let k = keep_low K Z.dying top L rs h2 dd ((a + z) - 1) (hd1.keep ((a + z) - 1) (omega arith) (omega arith)) in omega arith

  in_heap : (Z : Ctx) (lo : ℕ) (L : List Pl) (rs : List Root) (w : ℕ → ℕ) (j top : ℕ) → j < K.lent.heap → Core K Z lo L rs (awake Z rs) w → Keep K Z.dying top j → In j (boxes rs L)
  in_heap Z lo L rs w j top g c (inl k) = let k0 = k.0 in absurd (omega arith)
  in_heap Z lo L rs w j top g c (inr k) = let dd = c.dead k.0 k.1.0 in let ew = dd.words in let sw = F.some_word k.0.pl.ty in let k2 = k.1.2 in
      Rattle.simulation.proofs.Boxes.in_boxes rs L k.0.root dd.root k.0.pl j dd.lives dd.is (omega arith) k.1.1 (omega arith)

  kill_is : (s : State) (r : ℕ) (x : Root) → Live s.roots r x → kill s r ≡ with_roots s (set_at s.roots r (gone_root K F x.words))
  kill_is s r x h = ap (λ (o : Option Root). from_option o s (λ y. with_roots s (set_at s.roots r (record { live = false; val = hole; words = y.words })))) h.is

  module _ (cd : Coded K F P Q code fns q dw) (u : ℕ) (IC : CallsSim K F P Q code fns q dw u) (IP : PartsSim K F P Q code fns q dw u) where
    pub sim_last : LastSim K F P Q code fns q dw (suc u)
    unfolding eval
    sim_last v f d fn a pe Z lo L s M em fl lf ef ly hd1 dr R st =
        let H : ℕ = K.lent.heap in let X : ℕ = H + M.sp in let z : ℕ = K.size (dat d) in let sw = F.some_word (dat d) in
        let hp = dr.heap in let lw0 = dr.low in
        let ws : List Root = awake Z s.roots in let nr : ℕ = length s.roots in
        let atop = handed_top Z a z X L s.roots ws sw (omega arith) R.core.dead hd1 in
        let y : Pl = record { flag = a; at = a; ty = dat d; box = false } in
        let x1 : Root = record { live = true; val = v; words = 0 } in
        let L1 : List Pl = L ++ (y ∷ []) in let rs1 : List Root = s.roots ++ (x1 ∷ []) in let s1 : State = adds_root s v 0 in
        let lenL : length L ≡ length s.roots = R.core.mem.long ∙ hush_length (roots_in_dying Z.dying) s.roots in
        let ebx : boxes rs1 L1 ≡ boxes s.roots L = boxes_name s.roots L x1 y lenL refl in
        let c1 : Core K Z X L1 rs1 (awake Z rs1) M.words = core_less K F Z.held Z.flying (λ r i. has_rest i) (λ f1 i. i)
        (core_add K F X y x1 (record { lay = lay_ext K L L1 (ext_more K F L y) M.words a (dat d) v ly; order = omega arith; flag = λ g. absurd (omega arith); full = λ g. fl; kind = inr (refl, refl) })
        (λ r j o g1 g2. hd1.free r j g1 g2 o) lw0 atop (λ l u1 e1 rf. absurd rf) (λ f1 i g1 g2. hd1.off f1 i g1 g2)
        (λ j g1 g2 g3. in_added K F s.roots L x1 y j lenL (in_heap Z lo L s.roots M.words j X g3 R.core (hd1.keep j g1 g2))) R.core) in
        let R1 : Rep K F P Z X L1 s1 M = record { core = c1; pool = subst (λ (us : List Place). P M.pool M.words s.classes us) (sym ebx) R.pool; sp = R.sp; turns = R.turns; ins = R.ins; outs = R.outs } in
        let pr = lf.pars fn ef in
        let er : K.size fn.ret ≡ 1 = ap K.size pr.1 ∙ F.one_int in
        let b1 : ℕ = K.resume d in let e3 : ℕ = length M.ctl in
        let hw : ℕ → ℕ = hd K F P Q code fns q dw M b1 (X + 2) a pe e3 in
        let hh = headed M.words X b1 M.fb (X + 2) M.full a pe e3 in
        let eent : enters K code M b1 (X + 2) a pe e3 f (K.size fn.ret) (types_of_pars fn.pars) (X + 4) ≡ drop_step K code a (dat d) pe M = ap (λ (r : ℕ). enters K code M b1 (X + 2) a pe e3 f r (types_of_pars fn.pars) (X + 4)) er ∙ (ap (λ (ts : List Ty). enters K code M b1 (X + 2) a pe e3 f 1 ts (X + 4)) pr.0
        ∙ ap (λ (o : Option Lexeme). from_option o (go (to_mode M M.ctl M.words (tagged a d pe))) (λ f1. enters K code M b1 (X + 2) a pe e3 f1 1 (mut (dat d) ∷ []) (X + 4))) (sym lf.is)) in
        let at1 : at_place L1 nr ≡ some y = subst (λ k. at_place L1 k ≡ some y) lenL (at_end L y) in
        let em1 : awake Z rs1 ≡ ws ++ (x1 ∷ []) = hush_more (roots_in_dying Z.dying) s.roots x1 (dying_below K L s.roots Z.dying R.core.dead) in
        let lvr : Live rs1 nr x1 = record { is = at_end s.roots x1; lives = refl } in
        let lvn : Live (awake Z rs1) nr x1 = record { is = subst (λ (k : List Root). at_place k nr ≡ some x1) (sym em1) (subst (λ (k : ℕ). at_place (ws ++ (x1 ∷ [])) k ≡ some x1) (hush_length (roots_in_dying Z.dying) s.roots) (at_end ws x1)); lives = refl } in
        let arg : Values = cons_v (ref_v (here nr)) nil_v in
        let lys : Lays K L1 hw (X + 4) (types_of_pars fn.pars) arg = subst (λ (ts : List Ty). Lays K L1 hw (X + 4) ts arg) (sym pr.0) (mut (dat d), ([], (refl, (dat d, refl), refl, refl))) in
        let sp0 : Spot K L1 (awake Z rs1) (here nr) (hw (X + 4)) (dat d) = subst (λ (k : ℕ). Spot K L1 (awake Z rs1) (here nr) k (dat d)) (sym hh.h4) (spot_root K F L1 (awake Z rs1) nr x1 y lvn at1) in
        let asp : ArgSpots K L1 (awake Z rs1) hw (X + 4) (types_of_pars fn.pars) arg = subst (λ (ts : List Ty). ArgSpots K L1 (awake Z rs1) hw (X + 4) ts arg) (sym pr.0) ((λ l u1 e1 rf. (let el : here nr ≡ l = cc in subst (λ (k : Loc). Spot K L1 (awake Z rs1) k (hw (X + 4)) u1) el (subst (λ (k : Ty). Spot K L1 (awake Z rs1) (here nr) (hw (X + 4)) k) rf sp0))), tt) in
        let tot : total K (types_of_pars fn.pars) ≡ 1 = ap (total K) pr.0 ∙ (let q1 = F.one_mut (dat d) in let q2 : K.size (mut (dat d)) + 0 ≡ 1 = omega arith in q2) in
        does_then K F P code (calls u K.lent q fn (ref_v (here nr) ∷ []) s1)
        (IC f fn arg b1 (X + 2) a pe e3 (X + 4) Z X L1 s1 M ef (λ N e. lead_mode (dropping a (dat d) pe) em (sym eent ∙ e)) (λ x os e. halt_mode (dropping a (dat d) pe) em (sym eent ∙ e)) (omega arith) dr.under (omega arith) lys asp R1 st.0)
        (λ v2 t N ev G1. does_need K F P code t (read_at t (here nr)) (λ w ew. after v f d fn a pe Z lo L s M em fl lf pr.1 ly hd1 dr R c1 atop v2 t N G1 w ew (st.1 v2 t ev).0 ((st.1 v2 t ev).1 w ew)))
      where
        after : (v : Value) (f d : Lexeme) (fn : Fn) (a pe : ℕ) (Z : Ctx) (lo : ℕ) (L : List Pl) (s : State) (M : Mach) → M.mode ≡ dropping a (dat d) pe → flag_of v ≡ 1 → LastFn K F P Q code fns q dw d f → fn.ret ≡ int → Lay K L M.words a (dat d) v → Handed K F P Q code fns q dw Z a (K.size (dat d)) (K.lent.heap + M.sp) L (awake Z s.roots) → Dropping K F P Q code fns q dw Z lo M → Rep K F P Z lo L s M
            → Core K Z (K.lent.heap + M.sp) (L ++ (record { flag = a; at = a; ty = dat d; box = false } ∷ [])) (s.roots ++ (record { live = true; val = v; words = 0 } ∷ [])) (awake Z (s.roots ++ (record { live = true; val = v; words = 0 } ∷ []))) M.words → a + K.size (dat d) ≤ K.lent.heap + M.sp
            → (v2 : Value) (t : State) (N : Mach) → Gave K F P Q code fns q dw Z (K.lent.heap + M.sp) (M.sp + frame q fn) s.under (L ++ (record { flag = a; at = a; ty = dat d; box = false } ∷ [])) (s.roots ++ (record { live = true; val = v; words = 0 } ∷ [])) (hd K F P Q code fns q dw M (K.resume d) (K.lent.heap + M.sp + 2) a pe (length M.ctl)) fn.ret v2 t N
            → (w : Value) → read_at t (here (length s.roots)) ≡ some w → Unseen Z.held (locs Z.flying) t.roots (length s.roots) → SteadyParts K.lent q u (roots_in_dying Z.dying) Z.held (locs Z.flying) w (kill t (length s.roots))
            → Does K F P code (λ (k : ℕ) y N1. AfterDrop K F P Q code fns q dw Z a (K.size (dat d)) (behind K a pe) lo L s.roots M y N1) N (parts_of u K.lent q w (kill t (length s.roots)))
        after v f d fn a pe Z lo L s M em fl lf ert ly hd1 dr R c1 atop v2 t N G1 w ew un stp =
            let H : ℕ = K.lent.heap in let X : ℕ = H + M.sp in let z : ℕ = K.size (dat d) in let sw = F.some_word (dat d) in let hp = dr.heap in let lw0 = dr.low in
            let nr : ℕ = length s.roots in let ws : List Root = awake Z s.roots in
            let y : Pl = record { flag = a; at = a; ty = dat d; box = false } in let x1 : Root = record { live = true; val = v; words = 0 } in
            let L1 : List Pl = L ++ (y ∷ []) in let rs1 : List Root = s.roots ++ (x1 ∷ []) in
            let zr : ℕ = K.size fn.ret in
            let b1 : ℕ = K.resume d in let e3 : ℕ = length M.ctl in let hw : ℕ → ℕ = hd K F P Q code fns q dw M b1 (X + 2) a pe e3 in
            let rt = returned K F P Q code fns q dw Z X s.under (M.sp + frame q fn) b1 (X + 2) a pe e3 L1 rs1 fn.ret v2 t M N (omega arith) c1.mem.low G1 in
            let O : Mach = back_at K F P Q code fns q dw M N b1 (X + 2) zr in
            let W : ℕ → ℕ = O.words in let hk = rt.1 in
            let swr = F.some_word fn.ret in
            let rs2 : List Root = G1.inner.roots in let ws2 : List Root = awake Z rs2 in let L2 : List Pl = G1.L2 in
            let er : zr ≡ 1 = ap K.size ert ∙ F.one_int in
            let low1 : (j : ℕ) → (j ≡ X + 2 → ⊥) → W j ≡ N.words j = λ j g. copy_off N.words (X + 2) (X + 8) zr j (λ g1 g2. g (omega arith)) in
            let O2 : Mach = to_mode O M.ctl W (tagged a d pe) in
            let lead2 : Leads K code N O2 = leads_on rt.0 (lead_one {N = O2} (RESUME d) lf.rest refl lf.at
            (ap (λ i. go (to_mode O (from_end code i) W (tagged (W (X + 4)) d (W (X + 5))))) (low1 (X + 6) (λ e. omega arith) ∙ hk.h6)
            ∙ (ap (λ i. go (to_mode O i W (tagged (W (X + 4)) d (W (X + 5))))) (jump dr.suf)
            ∙ (ap (λ i. go (to_mode O M.ctl W (tagged i d (W (X + 5))))) (low1 (X + 4) (λ e. omega arith) ∙ hk.h4)
            ∙ ap (λ i. go (to_mode O M.ctl W (tagged a d i))) (low1 (X + 5) (λ e. omega arith) ∙ hk.h5))))) in
            let c2 : Core K Z X L2 rs2 ws2 N.words = narrow K F P Q code fns q dw X (X + (8 + zr)) (omega arith) (λ r j k1 k2 o. G1.area r j k1 k2 o) c1.mem.low G1.frame (core_unfly K F (X + 8) fn.ret v2 G1.rep.core) in
            let c3 : Core K Z X L2 rs2 ws2 W = core_above K F P Q W X (λ j g. low1 j (λ e. omega arith)) (omega arith) dr.under c2 in
            let lenL : length L ≡ length s.roots = R.core.mem.long ∙ hush_length (roots_in_dying Z.dying) s.roots in
            let at1 : at_place L2 nr ≡ some y = G1.frame.ext nr y (subst (λ k. at_place L1 k ≡ some y) lenL (at_end L y)) in
            let ew2 : read_at G1.inner (here nr) ≡ some w = subst (λ (t1 : State). read_at t1 (here nr) ≡ some w) G1.is ew in
            let rd = reads K F P Q Z X L2 G1.inner W nr y w c3 at1 refl ew2 in
            let x2 : Root = rd.root in
            let layw : Lay K L2 W a (dat d) w = subst (λ (v1 : Value). Lay K L2 W a (dat d) v1) rd.val rd.sits.lay in
            let flw : flag_of w ≡ 1 = ap flag_of (sym rd.val) ∙ rd.sits.full refl in
            let dead : Root = gone_root K F x2.words in
            let own1 : (j : ℕ) → a ≤ j → j < a + z → Owns K ws2 L2 nr j = λ j g1 g2. record { root = x2; pl = y; lives = rd.lives; is = at1; from = g1; upto = g2 } in
            let em1 : awake Z rs1 ≡ ws ++ (x1 ∷ []) = hush_more (roots_in_dying Z.dying) s.roots x1 (dying_below K L s.roots Z.dying R.core.dead) in
            let was : (i j : ℕ) → Owns K ws2 L2 i j → (nr ≡ i → ⊥) → Owns K ws L i j ⊎ (Keep K Z.dying (X + 8) j → ⊥) = λ i j o ne. old1 Z L s y x1 (X + 8) i j R.core.mem.long (hush_length (roots_in_dying Z.dying) s.roots) em1 ne (G1.frame.grew i j o) in
            let kw : (j : ℕ) → Keep K Z.dying X j → Keep K Z.dying (X + 8) j = λ j k. Rattle.simulation.proofs.Relation.keep_wide K Z.dying X (X + 8) (omega arith) j k in
            let mw : Mem K X L2 (set_at ws2 nr dead) W = mem_write K F X L2 ws2 W W nr x2 dead y c3.mem rd.lives at1 (λ g. absurd (subst (λ (b2 : Bool). T (not b2)) g tt)) (λ i j o ne. refl) in
            let mem2 : Mem K lo L2 (set_at ws2 nr dead) W = record { long = mw.long; laid = mw.laid; apart = mw.apart; low = λ i j o. (let o2 = own_put K F L2 ws2 nr i j x2 dead rd.lives o in lower Z L s lo X i j hp (mw.low i j o) R.core.mem.low (was i j o2.0 (λ e. subst (λ (b2 : Bool). T (not b2)) (o2.1 (sym e)) tt)) (le_or H j)) } in
            let rawl : Live rs2 nr x2 = awake_live Z rs2 nr x2 rd.lives in
            let kind0 : x2.words ≡ 0 = no_words y x2.words refl rd.sits.kind in
            let ebk : boxes (set_at rs2 nr dead) L2 ≡ boxes rs2 L2 = boxes_kill rs2 L2 nr x2 dead rawl kind0 refl in
            let un2 : Unseen Z.held (locs Z.flying) rs2 nr = subst (λ (t1 : State). Unseen Z.held (locs Z.flying) t1.roots nr) G1.is un in
            let c4 : Core K Z lo L2 (set_at rs2 nr dead) (awake Z (set_at rs2 nr dead)) W = core_end K F lo W nr x2 rd.lives un2 mem2 (λ i j o ne. refl) (λ f1 i. refl) (λ i j o ne g. subst (λ (us : List Place). In j us) (sym ebk) (c3.inside i j o g)) c3 in
            let s3 : State = with_roots (with_under G1.inner s.under) (set_at rs2 nr dead) in
            let ek : kill t nr ≡ s3 = ap (λ (t1 : State). kill t1 nr) G1.is ∙ kill_is (with_under G1.inner s.under) nr x2 rawl in
            let ep2 : awake Z (set_at rs2 nr dead) ≡ set_at ws2 nr dead = Rattle.simulation.proofs.Dying.hush_put (roots_in_dying Z.dying) rs2 nr dead (awake_not Z rs2 nr x2 rd.lives) in
            let R3 : Rep K F P Z lo L2 s3 O2 = record { core = c4; pool = subst (λ (us : List Place). P N.pool W G1.inner.classes us) (sym ebk) (Q.same_words N.pool N.words W G1.inner.classes (boxes rs2 L2) G1.rep.pool (λ j g1 g2. low1 j (λ e. omega arith))); sp = R.sp; turns = G1.rep.turns; ins = G1.rep.ins; outs = G1.rep.outs } in
            let alive : (i j : ℕ) → Owns K (awake Z (set_at rs2 nr dead)) L2 i j → Owns K ws2 L2 i j × (nr ≡ i → ⊥) = λ i j o. (let o2 = own_put K F L2 ws2 nr i j x2 dead rd.lives (subst (λ (k : List Root). Owns K k L2 i j) ep2 o) in (o2.0, λ e. subst (λ (b2 : Bool). T (not b2)) (o2.1 (sym e)) tt)) in
            let hd3 : Handed K F P Q code fns q dw Z a z (H + O2.sp) L2 (awake Z (set_at rs2 nr dead)) = record { keep = hd1.keep; off = hd1.off; free = λ i j g1 g2 o. (let o2 = alive i j o in not_old Z L s X i j (hd1.keep j g1 g2) (λ o3. hd1.free i j g1 g2 o3) kw (was i j o2.0 o2.1)) } in
            let fr0 : Dropped K F P Q code fns q dw Z.dying X a z L ws M.words L2 (awake Z (set_at rs2 nr dead)) W = record {
              ext = λ r x e. G1.frame.ext r x (at_old L (y ∷ []) r x e);
              kept = λ j k n1. (let lj = keep_low K Z.dying X L s.roots (omega arith) R.core.dead j k.0 in low1 j (λ e. omega arith) ∙ (G1.frame.kept j (kw j k.0) (λ i o. un_owned Z L s y x1 i j R.core.mem.long em1 (λ i1 o1. n1 i1 o1) k.1 o) ∙ under_header M.words X b1 M.fb (X + 2) M.full a pe e3 j lj));
              grew = λ i j o. (let o2 = alive i j o in grow Z L s X i j kw (was i j o2.0 o2.1));
            } in
            back K F P code lead2
            (subst (λ (k : State). Does K F P code (λ (k1 : ℕ) y1 N1. AfterDrop K F P Q code fns q dw Z a z (behind K a pe) lo L s.roots M y1 N1) O2 (parts_of u K.lent q w k)) (sym ek)
            (does_as K F P code (IP w d a pe Z lo L2 s3 O2 refl flw layw hd3 (record { low = lw0; heap = hp; under = dr.under; full = dr.full; suf = dr.suf }) R3 (subst (λ (k : State). SteadyParts K.lent q u (roots_in_dying Z.dying) Z.held (locs Z.flying) w k) ek stp))
            (λ k1 y1 N1 B1. record { L2 = B1.L2; mode = B1.mode; ctl = B1.ctl; fb = B1.fb; sp = B1.sp; full = B1.full; rep = B1.rep; frame = Rattle.simulation.proofs.Memory.frame_on K F (λ j k. k.0) fr0 B1.frame })))
          where
            no_words : (y : Pl) (k : ℕ) → y.box ≡ false → Kind K y k → k ≡ 0
            no_words y k e (inl g) = absurd (subst (λ (b2 : Bool). T (not b2)) (sym e ∙ g.0) tt)
            no_words y k e (inr g) = g.1

            old1 : (Z : Ctx) (L : List Pl) (s : State) (y : Pl) (x1 : Root) (b2 i j : ℕ) → length L ≡ length (awake Z s.roots) → length (awake Z s.roots) ≡ length s.roots → awake Z (s.roots ++ (x1 ∷ [])) ≡ awake Z s.roots ++ (x1 ∷ []) → (length s.roots ≡ i → ⊥) → Owns K (awake Z (s.roots ++ (x1 ∷ []))) (L ++ (y ∷ [])) i j ⊎ (Keep K Z.dying b2 j → ⊥) → Owns K (awake Z s.roots) L i j ⊎ (Keep K Z.dying b2 j → ⊥)
            old1 Z L s y x1 b2 i j e e0 em ne (inr o) = inr o
            old1 Z L s y x1 b2 i j e e0 em ne (inl o) = two (own_more K F L (awake Z s.roots) y x1 i j e (subst (λ (k : List Root). Owns K k (L ++ (y ∷ [])) i j) em o))
              where
                two : Owns K (awake Z s.roots) L i j ⊎ ((i ≡ length (awake Z s.roots)) × (y.flag ≤ j) × (j < y.at + K.size y.ty)) → Owns K (awake Z s.roots) L i j ⊎ (Keep K Z.dying b2 j → ⊥)
                two (inl o2) = inl o2
                two (inr o2) = absurd (ne (sym (o2.0 ∙ e0)))

            lower : (Z : Ctx) (L : List Pl) (s : State) (lo X i j : ℕ) → K.lent.heap ≤ lo → j < X → ((r j : ℕ) → Owns K (awake Z s.roots) L r j → j < lo) → Owns K (awake Z s.roots) L i j ⊎ (Keep K Z.dying (X + 8) j → ⊥) → (K.lent.heap ≤ j) ⊎ (j < K.lent.heap) → j < lo
            lower Z L s lo X i j h g f (inl o) k = f i j o
            lower Z L s lo X i j h g f (inr o) (inl k) = absurd (o (inl (k, omega arith)))
            lower Z L s lo X i j h g f (inr o) (inr k) = omega arith

            not_old : (Z : Ctx) (L : List Pl) (s : State) (X i j : ℕ) → Keep K Z.dying X j → (Owns K (awake Z s.roots) L i j → ⊥) → ((j : ℕ) → Keep K Z.dying X j → Keep K Z.dying (X + 8) j) → Owns K (awake Z s.roots) L i j ⊎ (Keep K Z.dying (X + 8) j → ⊥) → ⊥
            not_old Z L s X i j k f kw (inl o) = f o
            not_old Z L s X i j k f kw (inr o) = o (kw j k)

            grow : (Z : Ctx) (L : List Pl) (s : State) (X i j : ℕ) → ((j : ℕ) → Keep K Z.dying X j → Keep K Z.dying (X + 8) j) → Owns K (awake Z s.roots) L i j ⊎ (Keep K Z.dying (X + 8) j → ⊥) → Owns K (awake Z s.roots) L i j ⊎ (Keep K Z.dying X j → ⊥)
            grow Z L s X i j kw (inl o) = inl o
            grow Z L s X i j kw (inr o) = inr (λ k. o (kw j k))

            un_owned : (Z : Ctx) (L : List Pl) (s : State) (y : Pl) (x1 : Root) (i j : ℕ) → length L ≡ length (awake Z s.roots) → awake Z (s.roots ++ (x1 ∷ [])) ≡ awake Z s.roots ++ (x1 ∷ []) → ((i : ℕ) → Owns K (awake Z s.roots) L i j → ⊥) → (y.flag ≤ j → j < y.at + K.size y.ty → ⊥) → Owns K (awake Z (s.roots ++ (x1 ∷ []))) (L ++ (y ∷ [])) i j → ⊥
            un_owned Z L s y x1 i j e em f g o = two (own_more K F L (awake Z s.roots) y x1 i j e (subst (λ (k : List Root). Owns K k (L ++ (y ∷ [])) i j) em o))
              where
                two : Owns K (awake Z s.roots) L i j ⊎ ((i ≡ length (awake Z s.roots)) × (y.flag ≤ j) × (j < y.at + K.size y.ty)) → ⊥
                two (inl o2) = f i o2
                two (inr o2) = g o2.1 o2.2
