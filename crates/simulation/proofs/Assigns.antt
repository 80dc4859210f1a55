-- x = e and *r = e: the new value is in place while the old one is dropped.
use mathlib.Core.Path.{◌≡◌, refl, sym, ap, subst, ◌∙◌}
use mathlib.Core.Bool.{true}
use mathlib.Core.List.{List, [], ◌∷◌}
use mathlib.Core.Option.{Option, some}
use mathlib.Core.Logic.{◌⊎◌, inl, inr}
use Prim.Native.Nat.{ℕ, suc, ◌+◌, ◌-◌, ◌≤◌, ◌<◌}
use native.Mathlib.Omega.{arith}
use lib.Dec.{eqb}
use Rattle.language.specs.Base.{Lexeme, choose, from_option, if_some, set_at}
use Rattle.language.specs.Syntax.{Ty, dat, mut, Expr, assign, store, Prog}
use Rattle.language.specs.Meaning.{Loc, Value, int_v, con_v, box_v, ref_v, hole, Values, Root, Class, State, ok, then, Env, root_of, with_roots, read_at, write_at, here, loc_of, there, words_of, put_path, eval, exec, drops}
use Rattle.simulation.proofs.Machine.{Kit, Info, Place, Pools, Instr, ASSIGN, STORE, STUCK, Mode, running, dropping, Mach, go, upd, copy, swap, to_mode, Leads, lead_one}
use Rattle.simulation.proofs.Lowering.{Slot, Sc, slot_of, Entry, type_e, code_s, Suf, same1, later, suf_trans, suf_e}
use Rattle.simulation.proofs.Memory.{some_is, Pl, Lay, Fits, flag_of, Refers, Owns, Mem, upd_same, upd_other, copied, mem_words, mem_write, own_put}
use Rattle.simulation.proofs.Dying.{hush_put}
use Rattle.simulation.proofs.Paths.{Goes}
use Rattle.simulation.proofs.Boxes.{boxes, boxes_put}
use Rattle.simulation.proofs.WordOps.{if_some_is, copy_in, copy_under, copy_over, swap_low, swap_high, swap_off, swap_copy}
use Rattle.simulation.proofs.Pointers.{Spot, Lies, at_spot, spot_reads}
use Rattle.simulation.proofs.Context.{Flying, Dying, Ctx, Has, has_this, has_rest, roots_in_dying, locs, awake, awake_live, awake_not, with_flying, fly, Unseen, Core, core_words, core_put, core_unfly}
use Rattle.simulation.specs.Borrows.{SteadyDrop, SteadyS}
use Rattle.simulation.proofs.Relation.{Pooling, pl_of, names_ext, Found, found, keep_low, Work, work_on, Rep, Does, by_ok, back, does_then, does_need, does_as}
use Rattle.simulation.proofs.Stand.{Base, held_root, Under, reads, wrote, loc_is, not_ref, rep_unfly, After, EvalSim}
use Rattle.simulation.proofs.Statements.{FitS, AfterS, Ready, stand, no_more}
use Rattle.simulation.proofs.Drops.{Handed, DropSim}
use Rattle.simulation.proofs.Stores.{flag_or, there_is, wrote_at, put_no, size_high, rests, drop_below, by_hole}

module _ (K : Kit) (F : Fits K) (P : Pools → (ℕ → ℕ) → List Class → List Place → Type 0) (Q : Pooling K P) (code : List Instr) (fns : Lexeme → Option Entry) (q : Prog) (dw : (k : Lexeme) (vs : Values) (i : Info) → K.info k ≡ some i → words_of q (con_v k vs) ≡ K.size (dat i.home)) where
  goes_ref : (q1 : List ℕ) (v : Value) (t : Ty) (o : ℕ) (u : Ty) (x : Value) (k : Loc) → Goes K q1 v t o u x → v ≡ ref_v k → (q1 ≡ []) ⊎ ⊥
  goes_ref [] v t o u x k g e = inl refl
  goes_ref (i ∷ q1) v t o u x k g e = inr (subst is_ref (sym g.is ∙ e) tt)
    where
      is_ref : Value → Type 0
      is_ref (int_v k) = Unit {0}
      is_ref (con_v k vs) = Unit {0}
      is_ref (box_v r) = Unit {0}
      is_ref (ref_v l) = ⊥
      is_ref hole = Unit {0}

  module _ (u : ℕ) (IE : EvalSim K F P Q code fns q dw u) (ID : DropSim K F P Q code fns q dw u) where
    -- behind the exchange: the old value, at h, is dropped; then on
    old_dropped : (old : Value) (ty : Ty) (C : Sc) (g : Env) (Z : Ctx) (fb sp room : ℕ) (is : List Instr) (L : List Pl) (t2 : State) (W : ℕ → ℕ) (N : Mach) → Base N fb sp → K.lent.heap ≤ fb → fb + room ≤ K.lent.heap + sp → C.high + K.size ty ≤ room → Under Z (fb + C.high) → Suf K fns is code → flag_of old ≡ 1 → Lay K L W (fb + C.high) ty old → Rep K F P Z (fb + C.high) L t2 (to_mode N is W (dropping (fb + C.high) ty 0)) → SteadyDrop K.lent q u (roots_in_dying Z.dying) Z.held (locs Z.flying) old t2 → Does K F P code (AfterS K F P Q code fns q dw Z fb sp C C g L t2.roots W is) (to_mode N is W (dropping (fb + C.high) ty 0)) (then (drops u K.lent q old t2) (λ k y. ok g y))
    old_dropped old ty C g Z fb sp room is L t2 W N B hp rm sz un sf fl ly R sd =
        let h0 : ℕ = C.high in let b1 = B.sp in let b2 = B.full in let N0 : Mach = to_mode N is W (dropping (fb + h0) ty 0) in
        let hd1 : Handed K F P Q code fns q dw Z (fb + h0) (K.size ty) (K.lent.heap + N.sp) L (awake Z t2.roots) = record { keep = λ j g1 g2. inl (omega arith, omega arith); free = λ i j g1 g2 o. (let lw = R.core.mem.low i j o in omega arith); off = λ f i g1 g2. (let z = un f i in omega arith) } in
        does_then K F P code (drops u K.lent q old t2) (ID old ty (fb + h0) 0 Z (fb + h0) L t2 N0 refl fl ly hd1 (record { low = omega arith; heap = omega arith; under = λ f i. (let z = un f i in omega arith); full = omega arith; suf = sf }) R sd) (λ k z1 O e1 D1.
        by_ok (to_mode O O.ctl O.words running) (rests K F P Q code fns q dw (b2 ∙ sym b1) D1)
        (no_more K F P Q code fns q dw (record {
          L2 = D1.L2;
          base = record { mode = refl; fb = D1.fb ∙ B.fb; sp = D1.sp ∙ b1; full = D1.full ∙ b2 };
          ctl = D1.ctl;
          rep = record { core = D1.rep.core; pool = D1.rep.pool; sp = D1.rep.sp; turns = D1.rep.turns; ins = D1.rep.ins; outs = D1.rep.outs };
          frame = drop_below K F P Q code fns q dw (fb + h0) (K.size ty) (fb + h0) (omega arith) (λ j k1 g1 g2. (let lj = keep_low K Z.dying (fb + h0) L t2.roots (omega arith) R.core.dead j k1 in omega arith)) D1.frame;
        })))

    s_on1 : {Z : Ctx} {fb sp : ℕ} {C : Sc} {g : Env} {L : List Pl} {rs : List Root} {w : ℕ → ℕ} {L1 : List Pl} {rs1 : List Root} {w1 : ℕ → ℕ} {is : List Instr} {g2 : Env} {z : State} {N : Mach} → Work K F P Z.dying (fb + C.high) L (awake Z rs) w L1 (awake Z rs1) w1 → AfterS K F P Q code fns q dw Z fb sp C C g L1 rs1 w1 is g2 z N → AfterS K F P Q code fns q dw Z fb sp C C g L rs w is g2 z N
    s_on1 {Z} {fb} {C = C} f A = record { L2 = A.L2; base = A.base; ctl = A.ctl; ls = A.ls; ks = A.ks; slots = A.slots; names = A.names; stack = A.stack; new = A.new; rep = A.rep; frame = work_on K F P (fb + C.high) (omega arith) f A.frame }

    pub sim_assign : (x : Lexeme) (e : Expr) (C : Sc) (g : Env) (Z : Ctx) (fb sp room : ℕ) (is : List Instr) (L : List Pl) (s : State) (M : Mach) → FitS K F P Q code fns q dw room C (assign x e) → Ready K F P Q code fns q dw Z fb sp room C g L M → M.ctl ≡ code_s K fns C (assign x e) is → Suf K fns (code_s K fns C (assign x e) is) code → Rep K F P Z (fb + C.high) L s M → SteadyS K.lent q (suc u) (roots_in_dying Z.dying) Z.held (locs Z.flying) g (assign x e) s → Does K F P code (AfterS K F P Q code fns q dw Z fb sp C C g L s.roots M.words is) M (exec (suc u) K.lent q g (assign x e) s)
    unfolding exec
    sim_assign x e C g Z fb sp room is L s M ft Y ec sf R st =
        let rm = Y.room in let ft0 = ft.0 in
        does_then K F P code (eval u K.lent q g e s) (IE e C.names g Z fb sp (fb + C.high) C.high _ L s M ft.1 ec sf (stand K F P Q code fns q dw C.high (omega arith) Y) (omega arith) R st.0) (λ v t N ev A.
        does_need K F P code t (root_of g x) (λ r er. does_need K F P code t (read_at t (here r)) (λ old eo. does_need K F P code t (write_at t (here r) v) (λ z ew.
        (let st1 = st.1 v t ev r er in puts v t N A r (found (names_ext A.frame.ext Y.names) x r er) old eo z ew st1.0 (st1.1 old eo z ew))))))
      where
        puts : (v : Value) (t : State) (N : Mach) (A : After K F P Q code fns q dw Z fb sp (fb + C.high) C.high L s.roots M.words (type_e K fns C.names e) (from_option (slot_of C.names x) STUCK (λ l. ASSIGN l.flag C.high l.ty) ∷ is) v t N) (r : ℕ) → Found A.L2 fb C.names x r → (old : Value) → read_at t (here r) ≡ some old → (z : State) → write_at t (here r) v ≡ some z → Rattle.simulation.proofs.Context.Clear Z.held (locs Z.flying) t.roots r [] → SteadyDrop K.lent q u (roots_in_dying Z.dying) Z.held (locs Z.flying) old z → Does K F P code (AfterS K F P Q code fns q dw Z fb sp C C g L s.roots M.words is) N (then (drops u K.lent q old z) (λ k y. ok g y))
        puts v t N A r fo old eo z ew cl sd =
            let H : ℕ = K.lent.heap in let h0 : ℕ = C.high in let l : Slot = fo.slot in let sz : ℕ = K.size l.ty in
            let hp = Y.heap in let rm = Y.room in let ft0 = ft.0 in let un = Y.under in
            let fx = ft.2 l fo.is in
            let ty_is : type_e K fns C.names e ≡ l.ty = fx.0 in
            let szh = size_high K F P Q code fns q dw C.names e in let esz : K.size (type_e K fns C.names e) ≡ sz = ap K.size ty_is in
            let Ra = rep_unfly K F P Q Z (fb + h0) (type_e K fns C.names e) v A.rep in
            let c : Core K Z (fb + h0) A.L2 t.roots (awake Z t.roots) N.words = Ra.core in let ws : List Root = awake Z t.roots in
            let rd = reads K F P Q Z (fb + h0) A.L2 t N.words r (pl_of fb l) old c fo.at refl eo in
            let wr = wrote K F P Q t r v z ew in
            let sw = F.some_word l.ty in
            let own : (j : ℕ) → fb + l.flag ≤ j → j < fb + (l.flag + 1) + sz → Owns K ws A.L2 r j = λ j g1 g2. record { root = rd.root; pl = pl_of fb l; lives = rd.lives; is = fo.at; from = g1; upto = g2 } in
            let top : fb + (l.flag + sz) < fb + h0 = c.mem.low r (fb + (l.flag + sz)) (own (fb + (l.flag + sz)) (omega arith) (omega arith)) in
            let W0 : ℕ → ℕ = swap N.words (fb + (l.flag + 1)) (fb + h0) sz in
            let W : ℕ → ℕ = upd W0 (fb + l.flag) 1 in
            let keeps1 : (j : ℕ) → j < fb + h0 → (fb + l.flag ≤ j → j < fb + (l.flag + 1) + sz → ⊥) → W j ≡ N.words j = λ j g1 g2. upd_other W0 (fb + l.flag) 1 j (λ ej. g2 (omega arith) (omega arith)) ∙ swap_off N.words (fb + (l.flag + 1)) (fb + h0) sz j g1 (λ g3 g4. g2 (omega arith) g4) in
            let x1 : Root = record { live = true; val = v; words = rd.root.words } in
            let rawl = awake_live Z t.roots r rd.root rd.lives in
            let same_root : rd.root ≡ wr.root = some_is (sym rawl.is ∙ wr.lives.is) in
            let lv : Lay K A.L2 N.words (fb + h0) l.ty v = subst (λ (t1 : Ty). Lay K A.L2 N.words (fb + h0) t1 v) ty_is A.lay in
            let lo1 : Lay K A.L2 N.words (fb + (l.flag + 1)) l.ty old = subst (λ (v1 : Value). Lay K A.L2 N.words (fb + (l.flag + 1)) l.ty v1) rd.val rd.sits.lay in
            let lv2 : Lay K A.L2 W (fb + (l.flag + 1)) l.ty v = copied K F A.L2 N.words W (fb + h0) (fb + (l.flag + 1)) l.ty v lv (λ i g1. upd_other W0 (fb + l.flag) 1 ((fb + (l.flag + 1)) + i) (λ ej. omega arith) ∙ swap_low N.words (fb + (l.flag + 1)) (fb + h0) sz i g1) in
            let lo2 : Lay K A.L2 W (fb + h0) l.ty old = copied K F A.L2 N.words W (fb + (l.flag + 1)) (fb + h0) l.ty old lo1 (λ i g1. upd_other W0 (fb + l.flag) 1 ((fb + h0) + i) (λ ej. omega arith) ∙ swap_high N.words (fb + (l.flag + 1)) (fb + h0) sz i g1 (omega arith)) in
            let rs2 : List Root = set_at t.roots r x1 in
            let t2 : State = with_roots t rs2 in
            let eb : boxes rs2 A.L2 ≡ boxes t.roots A.L2 = boxes_put t.roots A.L2 r rd.root x1 rawl refl refl in
            let aside : (i j : ℕ) → Owns K ws A.L2 i j → (r ≡ i → ⊥) → W j ≡ N.words j = λ i j o ne. keeps1 j (c.mem.low i j o) (λ g1 g2. ne (c.mem.apart r i j (own j g1 g2) o)) in
            let flies : (f1 : Flying) → Has f1 Z.flying → W f1.at ≡ N.words f1.at = λ f1 i. keeps1 f1.at (un f1 i) (λ g1 g2. c.free f1 i r (own f1.at g1 g2)) in
            let mem2 : Mem K (fb + h0) A.L2 (set_at ws r x1) W = mem_write K F (fb + h0) A.L2 ws N.words W r rd.root x1 (pl_of fb l) c.mem rd.lives fo.at
            (λ g1. record { lay = lv2; order = omega arith; flag = λ g2. upd_same W0 (fb + l.flag) 1 ∙ sym A.there; full = λ g2. A.there; kind = rd.sits.kind }) aside in
            let core2 : Core K Z (fb + h0) A.L2 rs2 (awake Z rs2) W = core_put K F W r rd.root [] v rd.lives cl (λ i e1. not_ref K A.L2 N.words (fb + h0) l.ty i fx.1 (subst (λ (v1 : Value). Lay K A.L2 N.words (fb + h0) l.ty v1) e1 lv)) mem2 aside flies eb c in
            let RW : (js : List Instr) (o : Mode) → Rep K F P Z (fb + h0) A.L2 t2 (to_mode N js W o) = λ js o. record {
              core = core2;
              sp = A.rep.sp;
              turns = A.rep.turns;
              ins = A.rep.ins;
              outs = A.rep.outs;
              pool = subst (λ (us : List Place). P N.pool W t.classes us) (sym eb) (Q.same_words N.pool N.words W t.classes (boxes t.roots A.L2) A.rep.pool (λ j g1 g2. keeps1 j (omega arith) (λ g3 g4. omega arith)));
            } in
            let ep : awake Z rs2 ≡ set_at ws r x1 = hush_put (roots_in_dying Z.dying) t.roots r x1 (awake_not Z t.roots r rd.root rd.lives) in
            let fr : Work K F P Z.dying (fb + h0) A.L2 ws N.words A.L2 (awake Z rs2) W = subst (λ (k : List Root). Work K F P Z.dying (fb + h0) A.L2 ws N.words A.L2 k W) (sym ep) (record { ext = λ i k1 k2. k2; kept = λ j k no1. keeps1 j (keep_low K Z.dying (fb + h0) A.L2 t.roots (omega arith) c.dead j k) (λ g3 g4. no1 r (own j g3 g4)); grew = λ i j o. inl (own_put K F A.L2 ws r i j rd.root x1 rd.lives o).0 }) in
            let ctl2 : N.ctl ≡ ASSIGN l.flag h0 l.ty ∷ is = A.ctl ∙ ap (λ (o : Option Slot). from_option o STUCK (λ l1. ASSIGN l1.flag h0 l1.ty) ∷ is) fo.is in
            let stepped : (f0 : ℕ) → N.words (fb + l.flag) ≡ f0 → Leads K code N (to_mode N is W (choose (eqb f0 0) running (dropping (fb + h0) l.ty 0))) = λ f0 e0. lead_one (ASSIGN l.flag h0 l.ty) is A.base.mode ctl2 (ap (λ i. go (to_mode N is (upd (swap N.words (i + (l.flag + 1)) (i + h0) sz) (i + l.flag) 1) (choose (eqb (N.words (i + l.flag)) 0) running (dropping (i + h0) l.ty 0)))) A.base.fb ∙ ap (λ i. go (to_mode N is W (choose (eqb i 0) running (dropping (fb + h0) l.ty 0)))) e0) in
            let ez : t2 ≡ z = ap (λ (k : Root). with_roots t (set_at t.roots r (record { live = true; val = v; words = k.words }))) same_root ∙ sym wr.is in
            let sfi : Suf K fns is code = suf_trans K fns (suf_trans K fns (later same1) (suf_e K fns e C.names h0 _)) sf in
            subst (λ (z1 : State). Does K F P code (AfterS K F P Q code fns q dw Z fb sp C C g L s.roots M.words is) N (then (drops u K.lent q old z1) (λ k y. ok g y))) ez (elim (flag_or old) [
              | inl fl ↦ back K F P code (stepped 1 (rd.sits.flag (omega arith) ∙ (ap flag_of rd.val ∙ fl)))
                  (does_as K F P code (old_dropped old l.ty C g Z fb sp room is A.L2 t2 W N A.base hp rm (omega arith) un sfi fl lo2 (RW is (dropping (fb + h0) l.ty 0)) (subst (λ (z1 : State). SteadyDrop K.lent q u (roots_in_dying Z.dying) Z.held (locs Z.flying) old z1) (sym ez) sd))
                  (λ g2 z1 O A2. s_on1 (work_on K F P (fb + h0) (omega arith) A.frame fr) A2))
              | inr hl ↦ back K F P code (stepped 0 (rd.sits.flag (omega arith) ∙ (ap flag_of rd.val ∙ ap flag_of hl)))
                  (subst (λ (o1 : Value). Does K F P code (AfterS K F P Q code fns q dw Z fb sp C C g L s.roots M.words is) (to_mode N is W running) (then (drops u K.lent q o1 t2) (λ k y. ok g y))) (sym hl) (by_hole K F P Q code fns q dw u t2 (to_mode N is W running) (λ k y. ok g y)
                  (by_ok (to_mode N is W running) (λ x1 os r1. r1) (no_more K F P Q code fns q dw (record { L2 = A.L2; base = record { mode = refl; fb = A.base.fb; sp = A.base.sp; full = A.base.full }; ctl = refl; rep = RW is running; frame = work_on K F P (fb + h0) (omega arith) A.frame fr })))))
            ])

    pub sim_store : (x : Lexeme) (e : Expr) (C : Sc) (g : Env) (Z : Ctx) (fb sp room : ℕ) (is : List Instr) (L : List Pl) (s : State) (M : Mach) → FitS K F P Q code fns q dw room C (store x e) → Ready K F P Q code fns q dw Z fb sp room C g L M → M.ctl ≡ code_s K fns C (store x e) is → Suf K fns (code_s K fns C (store x e) is) code → Rep K F P Z (fb + C.high) L s M → SteadyS K.lent q (suc u) (roots_in_dying Z.dying) Z.held (locs Z.flying) g (store x e) s → Does K F P code (AfterS K F P Q code fns q dw Z fb sp C C g L s.roots M.words is) M (exec (suc u) K.lent q g (store x e) s)
    unfolding exec
    sim_store x e C g Z fb sp room is L s M ft Y ec sf R st =
        let rm = Y.room in let ft0 = ft.0 in
        does_then K F P code (eval u K.lent q g e s) (IE e C.names g Z fb sp (fb + C.high) C.high _ L s M ft.1 ec sf (stand K F P Q code fns q dw C.high (omega arith) Y) (omega arith) R st.0) (λ v t N ev A.
        does_need K F P code t (root_of g x) (λ r er. does_need K F P code t (read_at t (here r)) (λ rv ew. does_need K F P code t (loc_of rv) (λ l el. does_need K F P code t (if_some (read_at t l) there) (λ old eo. does_need K F P code t (write_at t l v) (λ z ez.
        (let st1 = st.1 v t ev r er rv ew l el in puts v t N A r er (found (names_ext A.frame.ext Y.names) x r er) rv ew l el old eo z ez st1.0 (st1.1 old eo z ez))))))))
      where
        puts : (v : Value) (t : State) (N : Mach) (A : After K F P Q code fns q dw Z fb sp (fb + C.high) C.high L s.roots M.words (type_e K fns C.names e) (from_option (slot_of C.names x) STUCK (λ l. STORE l.flag C.high (type_e K fns C.names e)) ∷ is) v t N) (r : ℕ) → root_of g x ≡ some r → Found A.L2 fb C.names x r → (rv : Value) → read_at t (here r) ≡ some rv → (i : Loc) → loc_of rv ≡ some i → (old : Value) → if_some (read_at t i) there ≡ some old → (z : State) → write_at t i v ≡ some z → Rattle.simulation.proofs.Context.Clear Z.held (locs Z.flying) t.roots i.root i.path → SteadyDrop K.lent q u (roots_in_dying Z.dying) Z.held (locs Z.flying) old z → Does K F P code (AfterS K F P Q code fns q dw Z fb sp C C g L s.roots M.words is) N (then (drops u K.lent q old z) (λ k y. ok g y))
        puts v t N A r er fo rv ev i ei old eo z ew cl sd =
            let h0 : ℕ = C.high in let l : Slot = fo.slot in let ty : Ty = type_e K fns C.names e in let sz : ℕ = K.size ty in
            let hp = Y.heap in let rm = Y.room in let sw = F.some_word ty in let ft0 = ft.0 in let un = Y.under in
            let szh = size_high K F P Q code fns q dw C.names e in
            let Ra = rep_unfly K F P Q Z (fb + h0) ty v A.rep in
            let c : Core K Z (fb + h0) A.L2 t.roots (awake Z t.roots) N.words = Ra.core in let ws : List Root = awake Z t.roots in
            let w : ℕ → ℕ = N.words in
            let a : ℕ = w (fb + (l.flag + 1)) in
            let tyl : l.ty ≡ mut ty = ft.2 l fo.is in
            let rd = reads K F P Q Z (fb + h0) A.L2 t w r (pl_of fb l) rv c fo.at refl ev in
            let sp1 : Spot K A.L2 ws i a ty = c.named r (held_root g Z.held Y.held x r er) rd.root (pl_of fb l) i ty rd.lives fo.at (rd.val ∙ loc_is rv i ei) (subst (λ (t1 : Ty). Refers t1 ty) (sym tyl) refl) in
            let ol = if_some_is (read_at t i) there old eo in
            let ti = there_is ol.0 old ol.1.1 in
            let li : Lies K F (fb + h0) A.L2 ws w i a ty old = at_spot K F (fb + h0) A.L2 (with_roots t ws) w i a ty old c.mem sp1 (spot_reads K F A.L2 t ws i a ty old (λ j x1 g1. awake_live Z t.roots j x1 g1) sp1 (ol.1.0 ∙ ap some ti.0)) in
            let wr = wrote_at t i v z ew in
            let rawl = awake_live Z t.roots i.root li.root li.lives in
            let same_root : li.root ≡ wr.root = some_is (sym rawl.is ∙ wr.lives.is) in
            let top : a + (sz - 1) < fb + h0 = c.mem.low i.root (a + (sz - 1)) (li.owned (a + (sz - 1)) (omega arith) (omega arith)) in
            let W1 : ℕ → ℕ = copy w a (fb + h0) sz in
            let W : ℕ → ℕ = swap w a (fb + h0) sz in
            let x1 : Root = record { live = true; val = put_path i.path v li.root.val; words = li.root.words } in
            let rs2 : List Root = set_at t.roots i.root x1 in
            let t2 : State = with_roots t rs2 in
            let lv1 : Lay K A.L2 W1 a ty v = copied K F A.L2 w W1 (fb + h0) a ty v A.lay (λ j g1. copy_in w a (fb + h0) sz j g1) in
            let lo2 : Lay K A.L2 W (fb + h0) ty old = copied K F A.L2 w W a (fb + h0) ty old li.lay (λ j g1. swap_high w a (fb + h0) sz j g1 (omega arith)) in
            let mem1 : Mem K (fb + h0) A.L2 (set_at ws i.root x1) W1 = li.written W1 v ((λ j g1. copy_under w a (fb + h0) sz j g1), (λ j g1. copy_over w a (fb + h0) sz j g1)) A.there ti.1 lv1 in
            let mem2 : Mem K (fb + h0) A.L2 (set_at ws i.root x1) W = mem_words K F (fb + h0) A.L2 (set_at ws i.root x1) W1 W mem1 (λ i1 j o. swap_copy w a (fb + h0) sz j (mem1.low i1 j o)) in
            let keeps1 : (j : ℕ) → j < fb + h0 → (a ≤ j → j < a + sz → ⊥) → W j ≡ w j = λ j g1 g2. swap_off w a (fb + h0) sz j g1 g2 in
            let aside : (i1 j : ℕ) → Owns K ws A.L2 i1 j → (i.root ≡ i1 → ⊥) → W j ≡ w j = λ i1 j o ne. keeps1 j (c.mem.low i1 j o) (λ g1 g2. ne (c.mem.apart i.root i1 j (li.owned j g1 g2) o)) in
            let flies : (f1 : Flying) → Has f1 Z.flying → W f1.at ≡ w f1.at = λ f1 i1. keeps1 f1.at (un f1 i1) (λ g1 g2. c.free f1 i1 i.root (li.owned f1.at g1 g2)) in
            let eb : boxes rs2 A.L2 ≡ boxes t.roots A.L2 = boxes_put t.roots A.L2 i.root li.root x1 rawl refl refl in
            let core2 : Core K Z (fb + h0) A.L2 rs2 (awake Z rs2) W = core_put K F W i.root li.root i.path v li.lives cl
            (λ k e1. put_no i.path li.root.val v k (λ k1 e2. not_ref K A.L2 w (fb + h0) ty k1 ft.3 (subst (λ (v1 : Value). Lay K A.L2 w (fb + h0) ty v1) e2 A.lay)) (λ k1 e2. goes_ref i.path li.root.val sp1.pl.ty sp1.off ty sp1.val k1 (subst (λ (k2 : Root). Goes K i.path k2.val sp1.pl.ty sp1.off ty sp1.val) (some_is (sym sp1.lives.is ∙ li.lives.is)) sp1.goes) e2) e1)
            mem2 aside flies eb c in
            let RW : Rep K F P Z (fb + h0) A.L2 t2 (to_mode N is W (dropping (fb + h0) ty 0)) = record {
              core = core2;
              sp = A.rep.sp;
              turns = A.rep.turns;
              ins = A.rep.ins;
              outs = A.rep.outs;
              pool = subst (λ (us : List Place). P N.pool W t.classes us) (sym eb) (Q.same_words N.pool w W t.classes (boxes t.roots A.L2) A.rep.pool (λ j g1 g2. keeps1 j (omega arith) (λ g3 g4. g2 (c.inside i.root j (li.owned j g3 g4) g1))));
            } in
            let ep : awake Z rs2 ≡ set_at ws i.root x1 = hush_put (roots_in_dying Z.dying) t.roots i.root x1 (awake_not Z t.roots i.root li.root li.lives) in
            let fr : Work K F P Z.dying (fb + h0) A.L2 ws w A.L2 (awake Z rs2) W = subst (λ (k : List Root). Work K F P Z.dying (fb + h0) A.L2 ws w A.L2 k W) (sym ep) (record { ext = λ i1 k1 k2. k2; kept = λ j k no1. keeps1 j (keep_low K Z.dying (fb + h0) A.L2 t.roots (omega arith) c.dead j k) (λ g3 g4. no1 i.root (li.owned j g3 g4)); grew = λ i1 j o. inl (own_put K F A.L2 ws i.root i1 j li.root x1 li.lives o).0 }) in
            let ctl2 : N.ctl ≡ STORE l.flag h0 ty ∷ is = A.ctl ∙ ap (λ (o : Option Slot). from_option o STUCK (λ l1. STORE l1.flag h0 ty) ∷ is) fo.is in
            let same_z : t2 ≡ z = ap (λ (k : Root). with_roots t (set_at t.roots i.root (record { live = true; val = put_path i.path v k.val; words = k.words }))) same_root ∙ sym wr.is in
            let sfi : Suf K fns is code = suf_trans K fns (suf_trans K fns (later same1) (suf_e K fns e C.names h0 _)) sf in
            subst (λ (z1 : State). Does K F P code (AfterS K F P Q code fns q dw Z fb sp C C g L s.roots M.words is) N (then (drops u K.lent q old z1) (λ k y. ok g y))) same_z
            (back K F P code (lead_one (STORE l.flag h0 ty) is A.base.mode ctl2 (ap (λ j. go (to_mode N is (swap w (w (j + (l.flag + 1))) (j + h0) sz) (dropping (j + h0) ty 0))) A.base.fb))
            (does_as K F P code (old_dropped old ty C g Z fb sp room is A.L2 t2 W N A.base hp rm (omega arith) un sfi ti.1 lo2 RW (subst (λ (z1 : State). SteadyDrop K.lent q u (roots_in_dying Z.dying) Z.held (locs Z.flying) old z1) (sym same_z) sd))
            (λ g2 z1 O A2. s_on1 (work_on K F P (fb + h0) (omega arith) A.frame fr) A2)))
