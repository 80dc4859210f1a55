-- match as what is given.
use mathlib.Core.Path.{◌≡◌, refl, sym, ap, subst, ◌∙◌}
use mathlib.Core.Bool.{Bool, true, false}
use mathlib.Core.List.{List, ◌∷◌, ◌++◌, append_assoc}
use mathlib.Core.Option.{Option, some}
use Prim.Native.Nat.{ℕ, suc, ◌+◌, ◌≤◌}
use native.Mathlib.Omega.{arith}
use lib.ListN.{length}
use Rattle.language.specs.Base.{Lexeme, choose, same}
use Rattle.language.specs.Syntax.{Ty, dat, Access, give_match, Arms, no_arms, arm, Prog}
use Rattle.language.specs.Meaning.{Value, con_v, ref_v, Values, Class, State, Res, ok, need, Env, root_of, read_at, here, words_of, parts, taken, names_in, roots_in, place_of, FoundArm, find_arm, Shape, shape, shape_of, eval, tails, bodies, by_shape}
use Rattle.simulation.proofs.Machine.{Kit, Info, Place, Pools, Instr, JMP, Mach, sets}
use Rattle.simulation.proofs.Lowering.{Slot, Sc, slot_at, Entry, share_code, share_ty, alt_scope, code_open, code_body, code_tail, code_arms, Suf, same1, later, suf_trans, suf_open, suf_body, suf_arms}
use Rattle.simulation.proofs.Memory.{no_some, some_is, Pl, Lay, Fits}
use Rattle.simulation.proofs.Pointers.{Spot}
use Rattle.simulation.proofs.Context.{Ctx, roots_in_dying, locs, awake, with_held, with_flying, fly, fly_spot, Core}
use Rattle.simulation.specs.Borrows.{env_roots, TakesClear, SteadyTail, SteadyArm, SteadyBody}
use Rattle.simulation.proofs.Relation.{Pooling, pl_of, names_ext, found, Rep, Does, by_ok, back, does_need, does_as, does_more}
use Rattle.simulation.proofs.Scopes.{jump}
use Rattle.simulation.proofs.Stand.{Under, reads, rep_ctl, rep_unfly, base_set, EvalSim}
use Rattle.simulation.proofs.Expressions.{looked}
use Rattle.simulation.proofs.Statements.{seen_ty, Ready, stand, jumps}
use Rattle.simulation.proofs.Bodies.{FitBody, FitTail, FitArms, Area, area_on, Given1, BodySim}
use Rattle.simulation.proofs.Calls.{narrow}
use Rattle.simulation.proofs.Drops.{Tables}
use Rattle.simulation.proofs.Scopes.{roots_on}
use Rattle.simulation.proofs.Bodies.{TailSim}
use Rattle.simulation.proofs.Matches.{same_eq, seen_ref, slot_is, Looking, opened, tested, looking_ctl, ready_ctl, ready_opened}
use Rattle.simulation.proofs.Bodies.{Giving, giving_of, giving_less, giving_on}
use Rattle.simulation.proofs.Alternatives.{shape_is, takes_of, take_ext, ArmSim}

module _ (K : Kit) (F : Fits K) (P : Pools → (ℕ → ℕ) → List Class → List Place → Type 0) (Q : Pooling K P) (code : List Instr) (fns : Lexeme → Option Entry) (q : Prog) (dw : (k : Lexeme) (vs : Values) (i : Info) → K.info k ≡ some i → words_of q (con_v k vs) ≡ K.size (dat i.home)) where
  module _ (TB : Tables K F P Q code fns q dw) (u : ℕ) (IB : BodySim K F P Q code fns q dw u) where
    pub sim_arm : ArmSim K F P Q code fns q dw (suc u)
    unfolding eval
    sim_arm no_arms w l loc k vs d C g Z fb sp room ty is L s M ft h8 un ar Y ec sf ej R lk st = does_need K F P code s (find_arm no_arms k) (λ a ea. absurd (no_some ea))
    sim_arm (arm c xs dd as₁) w l loc k vs d C g Z fb sp room ty is L s M ft h8 un ar Y ec sf ej R lk st = which (same c k) refl (λ f1 Y1 e1 s1 R1 lk1 st1. sim_arm as₁ w l loc k vs d C g Z fb sp room ty is L s (sets M (code_arms K fns (K.size ty) C w l as₁ is) M.words) f1 h8 un ar Y1 e1 s1 ej R1 lk1 st1)
      where
        Z1 : Ctx
        Z1 = with_held (env_roots g ++ Z.held) Z

        mine : Lexeme → List Instr
        mine c1 = code_open K fns C w l c1 (code_body K fns C.names (K.size ty) (alt_scope K fns C w c1 xs) dd (JMP (length is) ∷ code_arms K fns (K.size ty) C w l as₁ is))

        tl : (o : Option FoundArm) → Res Value
        tl o = need s o (λ a. need s (taken w s loc) (λ t. need t (names_in g t a.names (parts w loc vs)) (λ i. bodies u K.lent q i g a.does (roots_in t (parts w loc vs)))))

        this_one : FitBody K F P Q code fns q dw room ty (alt_scope K fns C w k xs) dd → Suf K fns (mine k) code → ((a : FoundArm) → some (record { names = xs; does = dd }) ≡ some a → TakesClear w (env_roots g ++ Z.held) (locs Z.flying) s.roots loc × ((t : State) → taken w s loc ≡ some t → (i : Env) → names_in g t a.names (parts w loc vs) ≡ some i → SteadyBody K.lent q u (roots_in_dying Z.dying) Z.held (locs Z.flying) i g a.does (roots_in t (parts w loc vs)))) → Does K F P code (Given1 K F P Q code fns q dw Z fb sp C.high L s.roots M.words ty is) (sets M (mine k) M.words) (tl (some (record { names = xs; does = dd })))
        this_one ft1 sf1 st1 =
            let a0 : FoundArm = record { names = xs; does = dd } in let st2 = st1 a0 refl in
            does_need K F P code s (some a0) (λ a ea. let q1 : a0 ≡ a = some_is ea in subst (λ (a1 : FoundArm). Does K F P code (Given1 K F P Q code fns q dw Z fb sp C.high L s.roots M.words ty is) (sets M (mine k) M.words) (need s (taken w s loc) (λ t. need t (names_in g t a1.names (parts w loc vs)) (λ i. bodies u K.lent q i g a1.does (roots_in t (parts w loc vs)))))) q1
            (does_need K F P code s (taken w s loc) (λ t et. does_need K F P code t (names_in g t xs (parts w loc vs)) (λ i ei.
            let M1 : Mach = sets M (mine k) M.words in let Y1 = ready_ctl K F P Q code fns q dw (mine k) Y in let hp = Y.heap in
            let C2 : Sc = alt_scope K fns C w k xs in
            let rest : List Instr = JMP (length is) ∷ code_arms K fns (K.size ty) C w l as₁ is in
            let js : List Instr = code_body K fns C.names (K.size ty) C2 dd rest in
            let op = opened K F P Q code fns q dw TB w l loc k vs d (with_held (env_roots g ++ Z.held) Z) fb sp C xs g i L s t js M1 hp Y.under Y1.base (looking_ctl K F P Q code fns q dw (mine k) lk) (rep_ctl K F P Q (mine k) R) st2.0 et ei refl in
            let N : Mach = op.0 in let O = op.1.1 in let z : State = roots_in t (parts w loc vs) in
            let sfj : Suf K fns js code = suf_trans K fns (suf_open K fns C w l k js) sf1 in
            let eh : env_roots O.ks ++ (env_roots g ++ Z.held) ≡ env_roots (O.ks ++ g) ++ Z.held = sym (append_assoc (env_roots O.ks) (env_roots g) Z.held) ∙ ap (λ (hs : List ℕ). hs ++ Z.held) (sym (roots_on O.ks g)) in
            let rp : Rep K F P (with_held (env_roots (O.ks ++ g) ++ Z.held) Z) (fb + C2.high) O.L2 z N = subst (λ (hs : List ℕ). Rep K F P (with_held hs Z) (fb + C2.high) O.L2 z N) eh O.rep in
            let Y2 : Ready K F P Q code fns q dw (with_held (env_roots (O.ks ++ g) ++ Z.held) Z) fb sp room C2 (O.ks ++ g) O.L2 N = subst (λ (hs : List ℕ). Ready K F P Q code fns q dw (with_held hs Z) fb sp room C2 (O.ks ++ g) O.L2 N) eh (ready_opened K F P Q code fns q dw Y1 O) in
            let ar2 : Area K F P Q code fns q dw fb (K.size ty) (awake Z z.roots) O.L2 = area_on K F P Q code fns q dw fb (K.size ty) hp (omega arith) O.frame ar in
            back K F P code op.1.0 (subst (λ (i1 : Env). Does K F P code (Given1 K F P Q code fns q dw Z fb sp C.high L s.roots M.words ty is) N (bodies u K.lent q i1 g dd z)) (sym O.names)
            (does_more K F P code (IB dd C2 O.ls C.names O.ks g (C.high + 1) Z fb sp room ty rest O.L2 z N ft1 O.slots O.new O.stack (omega arith) un ar2 Y2 O.ctl sfj rp (subst (λ (i1 : Env). SteadyBody K.lent q u (roots_in_dying Z.dying) Z.held (locs Z.flying) i1 g dd z) O.names (st2.1 t et i ei)))
            (λ v2 z2 O2 A.
            let fr : Giving K F P Q code fns q dw Z.dying fb (C.high + 1) L (awake Z s.roots) M.words A.L2 (awake Z z2.roots) O2.words = giving_on K F P Q code fns q dw fb (C.high + 1) (omega arith) (giving_of K F P Q code fns q dw fb (C.high + 1) (omega arith) (omega arith) O.frame) A.frame in
            let c1 : Core K (with_flying (fly (fb + 8) ty v2 Z.flying) Z) (fb + C.high) A.L2 z2.roots (awake Z z2.roots) O2.words = narrow K F P Q code fns q dw (fb + C.high) (fb + (C.high + 1)) (omega arith) (λ r j k1 k2 o. omega arith) R.core.mem.low fr A.rep.core in (
              sets O2 is O2.words,
              (
                jumps K F P Q code fns q dw O2 is _ A.base.mode A.ctl ej,
                record { L2 = A.L2; base = base_set K F P Q is O2.words A.base; ctl = refl; there = A.there; area = A.area; lay = A.lay; rep = record { core = c1; pool = A.rep.pool; sp = A.rep.sp; turns = A.rep.turns; ins = A.rep.ins; outs = A.rep.outs }; frame = giving_less K F P Q code fns q dw fb C.high (C.high + 1) (omega arith) fr },
              ),
            ))))))))

        which : (t : Bool) → same c k ≡ t → (FitArms K F P Q code fns q dw room ty C w d as₁ → Ready K F P Q code fns q dw Z1 fb sp room C g L (sets M (code_arms K fns (K.size ty) C w l as₁ is) M.words) → code_arms K fns (K.size ty) C w l as₁ is ≡ code_arms K fns (K.size ty) C w l as₁ is → Suf K fns (code_arms K fns (K.size ty) C w l as₁ is) code → Rep K F P Z1 (fb + C.high) L s (sets M (code_arms K fns (K.size ty) C w l as₁ is) M.words) → Looking K F P Q code fns q dw w l loc k vs d Z1 fb C.high L s (sets M (code_arms K fns (K.size ty) C w l as₁ is) M.words) → SteadyArm K.lent q (suc u) (roots_in_dying Z.dying) Z.held (locs Z.flying) g w loc as₁ (shape k vs) s → Does K F P code (Given1 K F P Q code fns q dw Z fb sp C.high L s.roots M.words ty is) (sets M (code_arms K fns (K.size ty) C w l as₁ is) M.words) (tl (find_arm as₁ k))) → Does K F P code (Given1 K F P Q code fns q dw Z fb sp C.high L s.roots M.words ty is) M (tl (find_arm (arm c xs dd as₁) k))
        which true e ih =
            let ec1 : c ≡ k = same_eq c k e in
            let ef : find_arm (arm c xs dd as₁) k ≡ some (record { names = xs; does = dd }) = ap (λ (b1 : Bool). choose b1 (some (record { names = xs; does = dd })) (find_arm as₁ k)) e in
            let sfm : Suf K fns (mine c) code = suf_trans K fns (later same1) sf in
            let sfr : Suf K fns (code_arms K fns (K.size ty) C w l as₁ is) code = suf_trans K fns (suf_trans K fns (later same1) (suf_body K fns dd C.names (K.size ty) (alt_scope K fns C w c xs) _)) (suf_trans K fns (suf_open K fns C w l c _) sfm) in
            back K F P code (tested K F P Q code fns q dw TB w l loc k c vs d Z1 fb sp (fb + C.high) C.high (length (code_arms K fns (K.size ty) C w l as₁ is)) L s (mine c) (code_arms K fns (K.size ty) C w l as₁ is) M Y.base R lk ft.0 ec (jump sfr) true e)
            (subst (λ (o : Option FoundArm). Does K F P code (Given1 K F P Q code fns q dw Z fb sp C.high L s.roots M.words ty is) (sets M (mine c) M.words) (tl o)) (sym ef)
            (subst (λ (c1 : Lexeme). Does K F P code (Given1 K F P Q code fns q dw Z fb sp C.high L s.roots M.words ty is) (sets M (mine c1) M.words) (tl (some (record { names = xs; does = dd })))) (sym ec1)
            (this_one (subst (λ (c1 : Lexeme). FitBody K F P Q code fns q dw room ty (alt_scope K fns C w c1 xs) dd) ec1 ft.1) (subst (λ (c1 : Lexeme). Suf K fns (mine c1) code) ec1 sfm) (λ a ea. st a (ef ∙ ea)))))
        which false e ih =
            let ef : find_arm (arm c xs dd as₁) k ≡ find_arm as₁ k = ap (λ (b1 : Bool). choose b1 (some (record { names = xs; does = dd })) (find_arm as₁ k)) e in
            let sfm : Suf K fns (mine c) code = suf_trans K fns (later same1) sf in
            let sfr : Suf K fns (code_arms K fns (K.size ty) C w l as₁ is) code = suf_trans K fns (suf_trans K fns (later same1) (suf_body K fns dd C.names (K.size ty) (alt_scope K fns C w c xs) _)) (suf_trans K fns (suf_open K fns C w l c _) sfm) in
            back K F P code (tested K F P Q code fns q dw TB w l loc k c vs d Z1 fb sp (fb + C.high) C.high (length (code_arms K fns (K.size ty) C w l as₁ is)) L s (mine c) (code_arms K fns (K.size ty) C w l as₁ is) M Y.base R lk ft.0 ec (jump sfr) false e)
            (subst (λ (o : Option FoundArm). Does K F P code (Given1 K F P Q code fns q dw Z fb sp C.high L s.roots M.words ty is) (sets M (code_arms K fns (K.size ty) C w l as₁ is) M.words) (tl o)) (sym ef)
            (ih ft.2 (ready_ctl K F P Q code fns q dw _ Y) refl sfr (rep_ctl K F P Q _ R) (looking_ctl K F P Q code fns q dw _ lk) (λ a ea. st a (ef ∙ ea))))

  module _ (u : ℕ) (IE : EvalSim K F P Q code fns q dw u) (IA : ArmSim K F P Q code fns q dw u) where
    pub sim_give_match : (w : Access) (x : Lexeme) (as₁ : Arms) (C : Sc) (g : Env) (Z : Ctx) (fb sp room : ℕ) (ty : Ty) (is : List Instr) (L : List Pl) (s : State) (M : Mach) → FitTail K F P Q code fns q dw room ty C (give_match w x as₁) → 8 + K.size ty ≤ C.high → Under Z fb → Area K F P Q code fns q dw fb (K.size ty) (awake Z s.roots) L → Ready K F P Q code fns q dw (with_held (env_roots g ++ Z.held) Z) fb sp room C g L M → M.ctl ≡ code_tail K fns (K.size ty) C (give_match w x as₁) is → Suf K fns (code_tail K fns (K.size ty) C (give_match w x as₁) is) code → Rep K F P (with_held (env_roots g ++ Z.held) Z) (fb + C.high) L s M → SteadyTail K.lent q (suc u) (roots_in_dying Z.dying) Z.held (locs Z.flying) g (give_match w x as₁) s → Does K F P code (Given1 K F P Q code fns q dw Z fb sp C.high L s.roots M.words ty is) M (tails (suc u) K.lent q g (give_match w x as₁) s)
    unfolding eval
    sim_give_match w x as₁ C g Z fb sp room ty is L s M ft h8 un ar Y ec sf R st =
        does_need K F P code s (root_of g x) (λ r er. does_need K F P code s (read_at s (here r)) (λ v ev. does_need K F P code s (read_at s (place_of r v)) (λ z ez. does_need K F P code s (shape_of z) (λ y ey. shaped r er v ev z ez y ey))))
      where
        shaped : (r : ℕ) → root_of g x ≡ some r → (v : Value) → read_at s (here r) ≡ some v → (z : Value) → read_at s (place_of r v) ≡ some z → (y : Shape) → shape_of z ≡ some y → Does K F P code (Given1 K F P Q code fns q dw Z fb sp C.high L s.roots M.words ty is) M (by_shape u K.lent q g w (place_of r v) as₁ y s)
        shaped r er v ev z ez (shape k vs) ey =
            let Z1 : Ctx = with_held (env_roots g ++ Z.held) Z in
            let h0 : ℕ = C.high in let fo = found Y.names x r er in let l : Slot = fo.slot in let hp = Y.heap in
            let es : slot_at C.names x ≡ l = slot_is C.names x l fo.is in
            let js : List Instr = code_arms K fns (K.size ty) C w l as₁ is in
            let ec1 : M.ctl ≡ share_code h0 l l.ty ∷ js = ec ∙ ap (λ (k1 : Slot). share_code h0 k1 k1.ty ∷ code_arms K fns (K.size ty) C w k1 as₁ is) es in
            let sf1 : Suf K fns js code = subst (λ (k1 : Slot). Suf K fns (code_arms K fns (K.size ty) C w k1 as₁ is) code) es (suf_trans K fns (later same1) sf) in
            let rd = reads K F P Q Z1 (fb + h0) L s M.words r (pl_of fb l) v R.core fo.at refl ev in
            let ly : Lay K L M.words (fb + (l.flag + 1)) l.ty v = subst (λ (v1 : Value). Lay K L M.words (fb + (l.flag + 1)) l.ty v1) rd.val rd.sits.lay in
            let d : Lexeme = ft.1.0 in let fx = ft.1.1.0 l fo.is in
            via (looked K F P Q code fns q dw u IE x r l v C.names g Z1 fb sp (fb + h0) h0 js L s M er fo.at rd ec1 (stand K F P Q code fns q dw h0 (omega arith) Y) R) (λ N A.
            let sp1 : Spot K A.L2 (awake Z s.roots) (place_of r v) (N.words (fb + h0)) (dat d) = subst (λ (t1 : Ty). Spot K A.L2 (awake Z s.roots) (place_of r v) (N.words (fb + h0)) t1) fx.0 (fly_spot K F Z1 (fb + h0) A.L2 s.roots (awake Z s.roots) N.words (fb + h0) (share_ty l.ty) (ref_v (place_of r v)) A.rep.core (place_of r v) (seen_ty l.ty) refl (seen_ref l.ty)) in
            let lk : Looking K F P Q code fns q dw w l (place_of r v) k vs d Z1 fb h0 A.L2 s N = record { addr = N.words (fb + h0); word = refl; spot = sp1; reads1 = ez ∙ ap some (shape_is z k vs ey); takes = take_ext K F P Q code fns q dw w l (place_of r v) fb L A.L2 A.frame.ext (takes_of K F P Q code fns q dw w l r fb v L M.words fx.1 fo.at ly) } in
            let Y2 : Ready K F P Q code fns q dw Z1 fb sp room C g A.L2 N = record { base = A.base; names = names_ext A.frame.ext Y.names; held = Y.held; heap = Y.heap; room = Y.room; under = Y.under } in
            let ar2 : Area K F P Q code fns q dw fb (K.size ty) (awake Z s.roots) A.L2 = area_on K F P Q code fns q dw fb (K.size ty) hp (omega arith) A.frame ar in
            does_as K F P code (IA as₁ w l (place_of r v) k vs d C g Z fb sp room ty is A.L2 s N ft.1.1.1 h8 un ar2 Y2 A.ctl sf1 (jump (suf_trans K fns (suf_arms K fns as₁ (K.size ty) C w l is) sf1)) (rep_unfly K F P Q Z1 (fb + h0) (share_ty l.ty) (ref_v (place_of r v)) A.rep) lk (st r er v ev z ez (shape k vs) ey))
            (λ v2 z2 O A2. Rattle.simulation.proofs.Bodies.given_on K F P Q code fns q dw (fb + h0) (omega arith) (omega arith) A.frame A2))
          where
            via : {A1 : Type 0} {R1 : A1 → State → Mach → Type 0} {Q1 : Value → State → Mach → Type 0} {M1 : Mach} {v1 : Value} {s1 : State} {r1 : Res A1} → Does K F P code Q1 M1 (ok v1 s1) → ((N : Mach) → Q1 v1 s1 N → Does K F P code R1 N r1) → Does K F P code R1 M1 r1
            via (by_ok N l1 h1) f = back K F P code l1 (f N h1)
