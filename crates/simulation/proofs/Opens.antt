-- open: what's in a box becomes a name's, the box ends; inside: a reference to what's in a box.
use mathlib.Core.Path.{◌≡◌, refl, sym, ap, subst, ◌∙◌}
use mathlib.Core.Bool.{Bool, true, false, not}
use mathlib.Core.List.{List, [], ◌∷◌, ◌++◌}
use mathlib.Core.Option.{Option, some}
use mathlib.Core.Logic.{◌⊎◌, inl, inr}
use Prim.Native.Nat.{ℕ, suc, ◌+◌, ◌≤◌, ◌<◌}
use native.Mathlib.Omega.{arith}
use lib.ListN.{length}
use lib.Dec.{T}
use Rattle.language.specs.Base.{Lexeme, from_option, at_place, set_at}
use Rattle.language.specs.Syntax.{Ty, int, dat, box, ref, mut, open_s, inside, Prog}
use Rattle.language.specs.Checks.{owned}
use Rattle.language.specs.Meaning.{Loc, Value, con_v, box_v, ref_v, hole, Values, Root, Class, State, ok, Env, root_of, with_roots, with_classes, live_root, read_at, write_at, here, adds_root, ends_box, count_out, loc_of, box_of, words_of, at_path, eval, exec}
use Rattle.simulation.proofs.Machine.{Kit, Info, Place, Pools, Instr, NUM, LOAD, OPEN, Mach, go, upd, copy, sets, pooled, lead_one}
use Rattle.simulation.proofs.Lowering.{Slot, Sc, slot_at, Entry, unboxed, inside_ty, enter, after_s, code_s}
use Rattle.simulation.proofs.Memory.{no_some, some_is, Pl, At, Lay, Fits, Ext, Live, lives, live, flag_of, Refers, Holed, Owns, Sits, Mem, Kind, upd_same, upd_other, at_put_same, at_put_other, copied, mem_write, own_put, frame_words}
use Rattle.simulation.proofs.Dying.{live_hush, hush_put}
use Rattle.simulation.proofs.Boxes.{boxes, In, in_apart, boxes_put, among}
use Rattle.simulation.proofs.WordOps.{if_some_is, copy_in, copy_under}
use Rattle.simulation.proofs.Pointers.{Spot, spot_root, at_spot, spot_reads}
use Rattle.simulation.proofs.Context.{Flying, Dying, Ctx, Has, has_this, has_rest, roots_in_dying, locs, awake, awake_live, awake_not, Core, core_put}
use Rattle.simulation.proofs.Changes.{core_end, gone_root}
use Rattle.simulation.specs.Borrows.{SteadyS}
use Rattle.simulation.proofs.Relation.{Pooling, pl_of, found, keep_low, Work, work_lower, Rep, Does, back, does_need, does_as}
use Rattle.simulation.proofs.Stand.{held_root, reads, wrote, loc_is, box_is, not_ref, rep_above, base_set, work_above, EvalSim}
use Rattle.simulation.proofs.Statements.{FitS, AfterS, Ready, names_one, s_on}
use Rattle.simulation.proofs.Matches.{slot_is}

module _ (K : Kit) (F : Fits K) (P : Pools → (ℕ → ℕ) → List Class → List Place → Type 0) (Q : Pooling K P) (code : List Instr) (fns : Lexeme → Option Entry) (q : Prog) (dw : (k : Lexeme) (vs : Values) (i : Info) → K.info k ≡ some i → words_of q (con_v k vs) ≡ K.size (dat i.home)) where
  ends_is : (z : State) (r : ℕ) (x : Root) → Live z.roots r x → ends_box z r ≡ with_classes (with_roots z (set_at z.roots r (gone_root K F x.words))) (count_out z.classes x.words)
  ends_is z r x h = ap (λ (o : Option Root). from_option o z (λ y. with_classes (from_option o z (λ y2. with_roots z (set_at z.roots r (record { live = false; val = hole; words = y2.words })))) (count_out z.classes y.words))) h.is

  module _ (u : ℕ) (IE : EvalSim K F P Q code fns q dw u) where
    pub sim_inside : (x y : Lexeme) (C : Sc) (g : Env) (Z : Ctx) (fb sp room : ℕ) (is : List Instr) (L : List Pl) (s : State) (M : Mach) → Ready K F P Q code fns q dw Z fb sp room C g L M → M.ctl ≡ code_s K fns C (inside x y) is → Rep K F P Z (fb + C.high) L s M → SteadyS K.lent q (suc u) (roots_in_dying Z.dying) Z.held (locs Z.flying) g (inside x y) s → Does K F P code (AfterS K F P Q code fns q dw Z fb sp C (after_s K fns C (inside x y)) g L s.roots M.words is) M (exec (suc u) K.lent q g (inside x y) s)
    unfolding eval
    sim_inside x y C g Z fb sp room is L s M Y ec R st =
        does_need K F P code s (root_of g y) (λ r er. does_need K F P code s (read_at s (here r)) (λ v ev. does_need K F P code s (loc_of v) (λ l el. does_need K F P code s (read_at s l) (λ w ew. does_need K F P code s (box_of w) (λ i ei. by r er v ev l el w ew i ei)))))
      where
        by : (r : ℕ) → root_of g y ≡ some r → (v : Value) → read_at s (here r) ≡ some v → (l : Loc) → loc_of v ≡ some l → (w : Value) → read_at s l ≡ some w → (i : ℕ) → box_of w ≡ some i → Does K F P code (AfterS K F P Q code fns q dw Z fb sp C (after_s K fns C (inside x y)) g L s.roots M.words is) M (ok (record { name = x; root = length s.roots } ∷ g) (adds_root s (ref_v (here i)) 0))
        by r er v ev l el w ew i ei =
            let h0 : ℕ = C.high in let fo = found Y.names y r er in let sl : Slot = fo.slot in let hp = Y.heap in let ws : List Root = awake Z s.roots in
            let es : slot_at C.names y ≡ sl = slot_is C.names y sl fo.is in
            let rd = reads K F P Q Z (fb + h0) L s M.words r (pl_of fb sl) v R.core fo.at refl ev in
            let y1 : Lay K L M.words (fb + (sl.flag + 1)) sl.ty (ref_v l) = subst (λ (v1 : Value). Lay K L M.words (fb + (sl.flag + 1)) sl.ty v1) (rd.val ∙ loc_is v l el) rd.sits.lay in
            let a : ℕ = M.words (fb + (sl.flag + 1)) in let u1 : Ty = y1.0 in
            let sp1 : Spot K L ws l a u1 = R.core.named r (held_root g Z.held Y.held y r er) rd.root (pl_of fb sl) l u1 rd.lives fo.at (rd.val ∙ loc_is v l el) y1.1 in
            let li = at_spot K F (fb + h0) L (with_roots s ws) M.words l a u1 w R.core.mem sp1 (spot_reads K F L s ws l a u1 w (λ j x1 g1. awake_live Z s.roots j x1 g1) sp1 ew) in
            let y2 : Lay K L M.words a u1 (box_v i) = subst (λ (v1 : Value). Lay K L M.words a u1 v1) (box_is w i ei) li.lay in
            let u2 : Ty = y2.0 in let A0 = y2.1.1.0 in
            let st1 = st r er v ev l el w ew i ei in
            let lvi : Live ws i st1.1.0 = live_hush (roots_in_dying Z.dying) s.roots i st1.1.0 st1.0 st1.1.1 in
            let sp2 : Spot K L ws (here i) (M.words a) u2 = subst (λ (k : ℕ). Spot K L ws (here i) k u2) A0.at (subst (λ (k : Ty). Spot K L ws (here i) A0.pl.at k) A0.ty (spot_root K F L ws i st1.1.0 A0.pl lvi A0.is)) in
            let W : ℕ → ℕ = upd M.words (fb + (h0 + 1)) (M.words a) in
            let js : List Instr = NUM h0 1 ∷ is in
            let N : Mach = sets M js W in
            let below : (j : ℕ) → j < fb + (h0 + 1) → W j ≡ M.words j = λ j k. upd_other M.words (fb + (h0 + 1)) (M.words a) j (λ e. omega arith) in
            let R1 : Rep K F P Z (fb + h0) L s N = rep_above K F P Q js W (fb + (h0 + 1)) below (omega arith) (omega arith) (λ f1 i1. (let z1 = Y.under f1 i1 in omega arith)) R in
            let ty : Ty = inside_ty sl.ty in
            let rft : Refers ty u2 = ref_of sl.ty u1 u2 y1.1 y2.1.0 in
            let ec2 : M.ctl ≡ LOAD (h0 + 1) sl.flag ∷ js = ec ∙ ap (λ (k : Slot). LOAD (h0 + 1) k.flag ∷ js) es in
            let ww : W (fb + (h0 + 1)) ≡ M.words a = upd_same M.words (fb + (h0 + 1)) (M.words a) in
            back K F P code (lead_one {N = N} (LOAD (h0 + 1) sl.flag) js Y.base.mode ec2 (ap (λ k. go (sets M js (upd M.words (k + (h0 + 1)) (M.words (M.words (k + (sl.flag + 1))))))) Y.base.fb))
            (does_as K F P code
            (subst (λ (k : Slot). Does K F P code (AfterS K F P Q code fns q dw Z fb sp C (enter K fns C x (inside_ty k.ty)) g L s.roots W is) N (ok (record { name = x; root = length s.roots } ∷ g) (adds_root s (ref_v (here i)) 0))) (sym es)
            (names_one K F P Q code fns q dw u IE x (ref_v (here i)) ty C g Z fb sp is L s N hp Y.under (base_set K F P Q js W Y.base) refl (u2, rft) refl
            (λ j t1 e1 rf. (let ej : here i ≡ j = cc in subst (λ (k : Loc). Spot K L ws k (W (fb + (h0 + 1))) t1) ej (subst (λ (k : ℕ). Spot K L ws (here i) k t1) (sym ww) (subst (λ (k : Ty). Spot K L ws (here i) (M.words a) k) (same_ref ty u2 t1 rft rf) sp2)))) R1))
            (λ g2 z2 O A2. s_on K F P Q code fns q dw u IE (work_lower K F P (omega arith) (work_above K F P Q W (fb + (h0 + 1)) below (omega arith) R.core)) A2))
          where
            ref_of : (t u1 u2 : Ty) → Refers t u1 → u1 ≡ box u2 → Refers (inside_ty t) u2
            ref_of int u1 u2 e1 e2 = absurd e1
            ref_of (dat d) u1 u2 e1 e2 = absurd e1
            ref_of (box d) u1 u2 e1 e2 = absurd e1
            ref_of (ref d) u1 u2 e1 e2 = ap unboxed (e1 ∙ e2)
            ref_of (mut d) u1 u2 e1 e2 = ap unboxed (e1 ∙ e2)

            same_ref : (t a c : Ty) → Refers t a → Refers t c → a ≡ c
            same_ref int a c e1 e2 = absurd e1
            same_ref (dat d) a c e1 e2 = absurd e1
            same_ref (box d) a c e1 e2 = absurd e1
            same_ref (ref d) a c e1 e2 = sym e1 ∙ e2
            same_ref (mut d) a c e1 e2 = sym e1 ∙ e2

    pub sim_open : (x y : Lexeme) (C : Sc) (g : Env) (Z : Ctx) (fb sp room : ℕ) (is : List Instr) (L : List Pl) (s : State) (M : Mach) → FitS K F P Q code fns q dw room C (open_s x y) → Ready K F P Q code fns q dw Z fb sp room C g L M → M.ctl ≡ code_s K fns C (open_s x y) is → Rep K F P Z (fb + C.high) L s M → SteadyS K.lent q (suc u) (roots_in_dying Z.dying) Z.held (locs Z.flying) g (open_s x y) s → Does K F P code (AfterS K F P Q code fns q dw Z fb sp C (after_s K fns C (open_s x y)) g L s.roots M.words is) M (exec (suc u) K.lent q g (open_s x y) s)
    unfolding eval
    sim_open x y C g Z fb sp room is L s M ft Y ec R st =
        does_need K F P code s (root_of g y) (λ r er. does_need K F P code s (read_at s (here r)) (λ v ev. does_need K F P code s (box_of v) (λ i ei. does_need K F P code s (read_at s (here i)) (λ w ew. does_need K F P code s (write_at s (here r) hole) (λ t et. by r er v ev i ei w ew t et)))))
      where
        by : (r : ℕ) → root_of g y ≡ some r → (v : Value) → read_at s (here r) ≡ some v → (i : ℕ) → box_of v ≡ some i → (w : Value) → read_at s (here i) ≡ some w → (t : State) → write_at s (here r) hole ≡ some t → Does K F P code (AfterS K F P Q code fns q dw Z fb sp C (after_s K fns C (open_s x y)) g L s.roots M.words is) M (ok (record { name = x; root = length t.roots } ∷ g) (adds_root (ends_box t i) w 0))
        by r er v ev i ei w ew t et =
            let H : ℕ = K.lent.heap in let h0 : ℕ = C.high in let fo = found Y.names y r er in let sl : Slot = fo.slot in let hp = Y.heap in let ws : List Root = awake Z s.roots in
            let es : slot_at C.names y ≡ sl = slot_is C.names y sl fo.is in
            let st1 = st r er v ev i ei in
            let rd = reads K F P Q Z (fb + h0) L s M.words r (pl_of fb sl) v R.core fo.at refl ev in
            let wr = wrote K F P Q s r hole t et in
            let y1 : Lay K L M.words (fb + (sl.flag + 1)) sl.ty (box_v i) = subst (λ (v1 : Value). Lay K L M.words (fb + (sl.flag + 1)) sl.ty v1) (rd.val ∙ box_is v i ei) rd.sits.lay in
            let u1 : Ty = y1.0 in let A0 = y1.1.1.0 in let pl : Pl = A0.pl in let p1 : ℕ = M.words (fb + (sl.flag + 1)) in let bx = y1.1.1.1 in let qa = A0.at in
            let eu : unboxed sl.ty ≡ u1 = ap unboxed y1.1.0 in
            let esz : K.size pl.ty ≡ K.size u1 = ap K.size A0.ty in let sw = F.some_word u1 in let sws = F.some_word sl.ty in
            let z : ℕ = K.size pl.ty in
            let rdi = if_some_is (live_root s i) (λ x1. at_path [] x1.val) w ew in
            let xi : Root = rdi.0 in let lri : Live s.roots i xi = lives s.roots i xi rdi.1.0 in
            let lwi : Live ws i xi = live_hush (roots_in_dying Z.dying) s.roots i xi st1.0 lri in
            let sit = R.core.mem.laid i xi pl lwi A0.is in
            let kd = kind_of pl xi.words bx sit.kind in let kdf = kd.0 in let kdw = kd.1 in let kdh = kd.2 in
            let own : (j : ℕ) → fb + sl.flag ≤ j → j < fb + (sl.flag + 1) + K.size sl.ty → Owns K ws L r j = λ j g1 g2. record { root = rd.root; pl = pl_of fb sl; lives = rd.lives; is = fo.at; from = g1; upto = g2 } in
            let owni : (j : ℕ) → pl.at ≤ j → j < pl.at + z → Owns K ws L i j = λ j g1 g2. record { root = xi; pl = pl; lives = lwi; is = A0.is; from = omega arith; upto = g2 } in
            let flow : fb + sl.flag < fb + h0 = R.core.mem.low r (fb + sl.flag) (own (fb + sl.flag) (omega arith) (omega arith)) in
            let w0 : ℕ → ℕ = M.words in
            let W0 : ℕ → ℕ = copy w0 (fb + (h0 + 1)) pl.at z in let W1 : ℕ → ℕ = upd W0 (fb + sl.flag) 0 in
            let W2 : ℕ → ℕ = K.link M.pool pl.at z W1 in
            let js : List Instr = NUM h0 1 ∷ is in
            let N : Mach = pooled M js W2 (K.give M.pool pl.at z) in
            let low0 : (j : ℕ) → j < fb + (h0 + 1) → (j ≡ fb + sl.flag → ⊥) → W1 j ≡ w0 j = λ j g1 g2. upd_other W0 (fb + sl.flag) 0 j g2 ∙ copy_under w0 (fb + (h0 + 1)) pl.at z j g1 in
            let lk : (j : ℕ) → ((pl.at ≤ j) × (j < pl.at + z) → ⊥) → W2 j ≡ W1 j = λ j g1. Q.link_at M.pool W1 pl.at pl.ty j g1 in
            let ne : i ≡ r → ⊥ = λ e. (let q1 : pl ≡ pl_of fb sl = some_is (sym A0.is ∙ (ap (at_place L) e ∙ fo.at)) in subst (λ (b1 : Bool). T (not b1)) (sym (ap (λ (k : Pl). k.box) q1) ∙ bx) tt) in
            let rawl = awake_live Z s.roots r rd.root rd.lives in
            let x1 : Root = record { live = true; val = hole; words = rd.root.words } in let rs1 : List Root = set_at s.roots r x1 in
            let eb1 : boxes rs1 L ≡ boxes s.roots L = boxes_put s.roots L r rd.root x1 rawl refl refl in
            let aside : (i1 j : ℕ) → Owns K ws L i1 j → (r ≡ i1 → ⊥) → W1 j ≡ w0 j = λ i1 j o n1. low0 j (let lw = R.core.mem.low i1 j o in omega arith) (λ ej. n1 (R.core.mem.apart r i1 j (own j (omega arith) (omega arith)) o)) in
            let flies : (f1 : Flying) → Has f1 Z.flying → W1 f1.at ≡ w0 f1.at = λ f1 i1. (let z1 = Y.under f1 i1 in low0 f1.at (omega arith) (λ ej. R.core.free f1 i1 r (own f1.at (omega arith) (omega arith)))) in
            let mem1 : Mem K (fb + h0) L (set_at ws r x1) W1 = mem_write K F (fb + h0) L ws w0 W1 r rd.root x1 (pl_of fb sl) R.core.mem rd.lives fo.at
            (λ g1. record { lay = subst Holed (sym y1.1.0) tt; order = omega arith; flag = λ g2. upd_same W0 (fb + sl.flag) 0; full = λ g2. absurd (omega arith); kind = rd.sits.kind }) aside in
            let c1 : Core K Z (fb + h0) L rs1 (awake Z rs1) W1 = core_put K F W1 r rd.root [] hole rd.lives st1.1 (λ k1 e1. no_hole k1 e1) mem1 aside flies eb1 R.core in
            let ep1 : awake Z rs1 ≡ set_at ws r x1 = hush_put (roots_in_dying Z.dying) s.roots r x1 (awake_not Z s.roots r rd.root rd.lives) in
            let lw1 : Live (awake Z rs1) i xi = record { is = subst (λ (k : List Root). at_place k i ≡ some xi) (sym ep1) (at_put_other ws r i x1 (λ e. ne (sym e)) ∙ lwi.is); lives = lwi.lives } in
            let lr1 : Live rs1 i xi = awake_live Z rs1 i xi lw1 in
            let gone : Root = gone_root K F xi.words in
            let owni1 : (j : ℕ) → pl.at ≤ j → j < pl.at + z → Owns K (awake Z rs1) L i j = λ j g1 g2. record { root = xi; pl = pl; lives = lw1; is = A0.is; from = omega arith; upto = g2 } in
            let aside2 : (i1 j : ℕ) → Owns K (awake Z rs1) L i1 j → (i ≡ i1 → ⊥) → W2 j ≡ W1 j = λ i1 j o n1. lk j (λ g1. n1 (c1.mem.apart i i1 j (owni1 j g1.0 g1.1) o)) in
            let flies2 : (f1 : Flying) → Has f1 Z.flying → W2 f1.at ≡ W1 f1.at = λ f1 i1. lk f1.at (λ g1. (let hi = c1.high f1 i1 in let g2 = g1.1 in omega arith)) in
            let mem2 : Mem K (fb + h0) L (set_at (awake Z rs1) i gone) W2 = mem_write K F (fb + h0) L (awake Z rs1) W1 W2 i xi gone pl c1.mem lw1 A0.is (λ g1. absurd (subst (λ (b1 : Bool). T (not b1)) g1 tt)) aside2 in
            let am = among rs1 L i xi pl gone lr1 A0.is (omega arith) refl in
            let un1 = unseen_put Z s r i rd.root x1 rawl (λ l1 e1. no_hole l1 e1) st1.2 in
            let c2 : Core K Z (fb + h0) L (set_at rs1 i gone) (awake Z (set_at rs1 i gone)) W2 = core_end K F (fb + h0) W2 i xi lw1 un1 mem2 aside2 flies2
            (λ i1 j o n1 g1. subst (λ (us : List Place). In j us) (sym am.gone) (in_apart j am.before am.behind _ (subst (λ (us : List Place). In j us) am.is (c1.inside i1 j o g1)) (λ g2 g3. n1 (c1.mem.apart i i1 j (owni1 j g2 (omega arith)) o)))) c1 in
            let pool1 : P M.pool W1 s.classes (boxes rs1 L) = subst (λ (us : List Place). P M.pool W1 s.classes us) (sym eb1) (Q.same_words M.pool w0 W1 s.classes (boxes s.roots L) R.pool (λ j g1 g2. low0 j (omega arith) (λ ej. omega arith))) in
            let pool2 : P (K.give M.pool pl.at z) W2 (count_out s.classes xi.words) (boxes (set_at rs1 i gone) L) = subst (λ (us : List Place). P (K.give M.pool pl.at z) W2 (count_out s.classes xi.words) us) (sym am.gone)
            (subst (λ (k : ℕ). P (K.give M.pool pl.at z) W2 (count_out s.classes k) (am.before ++ am.behind)) (sym kdw) (Q.given M.pool W1 s.classes am.before am.behind pl.at pl.ty (subst (λ (k : ℕ). P M.pool W1 s.classes (am.before ++ (record { at = pl.at; size = k } ∷ am.behind))) kdw (subst (λ (us : List Place). P M.pool W1 s.classes us) am.is pool1)))) in
            let t2 : State = with_classes (with_roots s (set_at rs1 i gone)) (count_out s.classes xi.words) in
            let same_root : rd.root ≡ wr.root = some_is (sym rawl.is ∙ wr.lives.is) in
            let tt1 : State = with_roots s rs1 in
            let ez : tt1 ≡ t = ap (λ (k1 : Root). with_roots s (set_at s.roots r (record { live = true; val = hole; words = k1.words }))) same_root ∙ sym wr.is in
            let et2 : ends_box tt1 i ≡ t2 = ends_is tt1 i xi lr1 in
            let R2 : Rep K F P Z (fb + h0) L t2 N = record { core = c2; pool = pool2; sp = R.sp; turns = R.turns; ins = R.ins; outs = R.outs } in
            let exw : xi.val ≡ w = some_is rdi.1.1 in
            let lay0 : Lay K L w0 pl.at u1 w = subst (λ (v1 : Value). Lay K L w0 pl.at u1 v1) exw (subst (λ (t1 : Ty). Lay K L w0 pl.at t1 xi.val) A0.ty sit.lay) in
            let layN : Lay K L W2 (fb + (h0 + 1)) u1 w = copied K F L w0 W2 pl.at (fb + (h0 + 1)) u1 w lay0 (λ k g1. lk ((fb + (h0 + 1)) + k) (λ g2. (let g3 = g2.1 in omega arith)) ∙ (upd_other W0 (fb + sl.flag) 0 ((fb + (h0 + 1)) + k) (λ ej. omega arith) ∙ copy_in w0 (fb + (h0 + 1)) pl.at z k (omega arith))) in
            let flw : flag_of w ≡ 1 = ap flag_of (sym exw) ∙ sit.full kdf in
            let ep2 : awake Z (set_at rs1 i gone) ≡ set_at (awake Z rs1) i gone = hush_put (roots_in_dying Z.dying) rs1 i gone (awake_not Z rs1 i xi lw1) in
            let fr : Work K F P Z.dying (fb + h0) L ws w0 L (awake Z (set_at rs1 i gone)) W2 = subst (λ (k : List Root). Work K F P Z.dying (fb + h0) L ws w0 L k W2) (sym ep2)
            (record {
              ext = λ r1 x2 e. e;
              kept = λ j kp n1. (let lj = keep_low K Z.dying (fb + h0) L s.roots (omega arith) R.core.dead j kp in lk j (λ g1. n1 i (owni j g1.0 g1.1)) ∙ low0 j (omega arith) (λ ej. n1 r (own j (omega arith) (omega arith))));
              grew = λ i1 j o. inl (own_put K F L ws r i1 j rd.root x1 rd.lives (subst (λ (k : List Root). Owns K k L i1 j) ep1 (own_put K F L (awake Z rs1) i i1 j xi gone lw1 o).0)).0;
            }) in
            let ec2 : M.ctl ≡ OPEN (h0 + 1) sl.flag (K.size (unboxed sl.ty)) ∷ js = ec ∙ ap (λ (k : Slot). OPEN (h0 + 1) k.flag (K.size (unboxed k.ty)) ∷ js) es in
            let ezz : K.size (unboxed sl.ty) ≡ z = ap K.size eu ∙ sym esz in
            let owu : owned u1 ≡ true = subst (λ (t1 : Ty). owned t1 ≡ true) eu (ft.1 sl fo.is) in
            let len1 : length t.roots ≡ length t2.roots = ap (λ (k : State). length k.roots) (sym ez) ∙ sym (Rattle.simulation.proofs.Memory.put_length rs1 i gone) in
            back K F P code (lead_one {N = N} (OPEN (h0 + 1) sl.flag (K.size (unboxed sl.ty))) js Y.base.mode ec2
            (ap (λ k. go (pooled M js (K.link M.pool (w0 (k + (sl.flag + 1))) (K.size (unboxed sl.ty)) (upd (copy w0 (k + (h0 + 1)) (w0 (k + (sl.flag + 1))) (K.size (unboxed sl.ty))) (k + sl.flag) 0)) (K.give M.pool (w0 (k + (sl.flag + 1))) (K.size (unboxed sl.ty))))) Y.base.fb
            ∙ (ap (λ k. go (pooled M js (K.link M.pool k (K.size (unboxed sl.ty)) (upd (copy w0 (fb + (h0 + 1)) k (K.size (unboxed sl.ty))) (fb + sl.flag) 0)) (K.give M.pool k (K.size (unboxed sl.ty))))) (sym qa)
            ∙ ap (λ k. go (pooled M js (K.link M.pool pl.at k (upd (copy w0 (fb + (h0 + 1)) pl.at k) (fb + sl.flag) 0)) (K.give M.pool pl.at k))) ezz)))
            (subst (λ (k : ℕ). Does K F P code (AfterS K F P Q code fns q dw Z fb sp C (after_s K fns C (open_s x y)) g L s.roots w0 is) N (ok (record { name = x; root = k } ∷ g) (adds_root (ends_box t i) w 0))) (sym len1)
            (subst (λ (k : State). Does K F P code (AfterS K F P Q code fns q dw Z fb sp C (after_s K fns C (open_s x y)) g L s.roots w0 is) N (ok (record { name = x; root = length t2.roots } ∷ g) (adds_root k w 0))) (sym et2 ∙ ap (λ (k : State). ends_box k i) ez)
            (subst (λ (k : Slot). Does K F P code (AfterS K F P Q code fns q dw Z fb sp C (enter K fns C x (unboxed k.ty)) g L s.roots w0 is) N (ok (record { name = x; root = length t2.roots } ∷ g) (adds_root t2 w 0))) (sym es)
            (subst (λ (k : Ty). Does K F P code (AfterS K F P Q code fns q dw Z fb sp C (enter K fns C x k) g L s.roots w0 is) N (ok (record { name = x; root = length t2.roots } ∷ g) (adds_root t2 w 0))) (sym eu)
            (does_as K F P code (names_one K F P Q code fns q dw u IE x w u1 C g Z fb sp is L t2 N hp Y.under (record { mode = Y.base.mode; fb = Y.base.fb; sp = Y.base.sp; full = Y.base.full }) refl layN flw (λ l1 t1 e1 rf. absurd (not_ref K L W2 (fb + (h0 + 1)) u1 l1 owu (subst (λ (v1 : Value). Lay K L W2 (fb + (h0 + 1)) u1 v1) e1 layN))) R2)
            (λ g2 z2 O A2. s_on K F P Q code fns q dw u IE fr A2))))))
          where
            no_hole : (l1 : Loc) → hole ≡ ref_v l1 → ⊥
            no_hole l1 e = let z : ◌≡◌ {A = ℕ} 0 1 = ap flag_of e in omega arith

            kind_of : (y : Pl) (k : ℕ) → y.box ≡ true → Kind K y k → (y.flag ≡ y.at) × (k ≡ K.size y.ty) × (y.at + K.size y.ty ≤ K.lent.heap)
            kind_of y k eb (inl g) = (g.1, g.2, g.3)
            kind_of y k eb (inr g) = absurd (subst (λ (z : Bool). T (not z)) (sym g.0 ∙ eb) tt)

            unseen_put : (Z : Ctx) (s : State) (r i : ℕ) (x x1 : Root) → Live s.roots r x → ((l : Loc) → x1.val ≡ ref_v l → ⊥) → Rattle.simulation.proofs.Context.Unseen Z.held (locs Z.flying) s.roots i → Rattle.simulation.proofs.Context.Unseen Z.held (locs Z.flying) (set_at s.roots r x1) i
            unseen_put Z s r i x x1 lv nr un = ((λ r1 h x2 lv2 l e el. one r1 h x2 lv2 l e el (Rattle.simulation.proofs.Memory.same_or r r1)), un.1)
              where
                one : (r1 : ℕ) → Has r1 Z.held → (x2 : Root) → Live (set_at s.roots r x1) r1 x2 → (l : Loc) → x2.val ≡ ref_v l → l.root ≡ i → (r ≡ r1) ⊎ (r ≡ r1 → ⊥) → ⊥
                one r1 h x2 lv2 l e el (inl q1) = nr l (ap (λ (k : Root). k.val) (some_is (sym (subst (λ (k : ℕ). at_place (set_at s.roots r x1) k ≡ some x1) q1 (at_put_same s.roots r x x1 lv.is)) ∙ lv2.is)) ∙ e)
                one r1 h x2 lv2 l e el (inr q1) = un.0 r1 h x2 (record { is = sym (at_put_other s.roots r r1 x1 q1) ∙ lv2.is; lives = lv2.lives }) l e el
