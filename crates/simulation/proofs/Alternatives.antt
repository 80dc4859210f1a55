-- match as a statement and as what is given.
use mathlib.Core.Path.{◌≡◌, refl, sym, ap, subst, ◌∙◌}
use mathlib.Core.Bool.{Bool, true, false}
use mathlib.Core.List.{List, [], ◌∷◌, ◌++◌}
use mathlib.Core.Option.{Option, some}
use Prim.Native.Nat.{ℕ, suc, ◌+◌, ◌≤◌}
use native.Mathlib.Omega.{arith}
use lib.ListN.{length}
use Rattle.language.specs.Base.{Lexeme, choose, at_place, same}
use Rattle.language.specs.Syntax.{Ty, dat, Access, take, view, edit, match_s, Alts, no_alts, alt, Arms, Prog}
use Rattle.language.specs.Meaning.{Loc, Value, int_v, con_v, box_v, ref_v, hole, Values, Root, Class, State, Res, ok, need, Env, root_of, read_at, here, words_of, parts, taken, names_in, roots_in, place_of, Found, find_alt, Shape, shape, shape_of, eval, exec, block, by_alt, by_shape}
use Rattle.simulation.proofs.Machine.{Kit, Info, Place, Pools, Instr, JMP, Mach, sets, from_end}
use Rattle.simulation.proofs.Lowering.{Slot, Sc, slot_at, Entry, share_code, share_ty, alt_scope, code_open, newer_slots, after_ss, code_ends, code_ss, code_s, code_alts, code_arms, Suf, same1, later, suf_trans, suf_ends, suf_ss, suf_alts, suf_open}
use Rattle.simulation.proofs.Memory.{no_some, some_is, Pl, Lay, Fits, Ext}
use Rattle.simulation.proofs.Pointers.{Spot}
use Rattle.simulation.proofs.Context.{Ctx, roots_in_dying, locs, awake, with_held, fly_spot, Core}
use Rattle.simulation.specs.Borrows.{env_roots, TakesClear, SteadyS, SteadyAlt, SteadyBlock, SteadyArm}
use Rattle.simulation.proofs.Relation.{Pooling, pl_of, names_ext, found, Work, work_on, work_lower, Rep, Does, by_ok, back, does_need, does_as, does_more}
use Rattle.simulation.proofs.Scopes.{jump}
use Rattle.simulation.proofs.Stand.{Under, reads, rep_ctl, rep_unfly, base_set, EvalSim}
use Rattle.simulation.proofs.Expressions.{looked}
use Rattle.simulation.proofs.Statements.{seen_ty, Takes, FitS, FitSs, FitAlts, AfterS, Ready, BlockSim, stand, no_more, jumps}
use Rattle.simulation.proofs.Bodies.{FitArms, Area, Given1}
use Rattle.simulation.proofs.Calls.{narrow}
use Rattle.simulation.proofs.Drops.{Tables}
use Rattle.simulation.proofs.Matches.{same_eq, seen_ref, slot_is, TakeAt, Looking, opened, tested, looking_ctl, ready_ctl, ready_opened}

pub shape_is : (v : Value) (k : Lexeme) (vs : Values) → shape_of v ≡ some (shape k vs) → v ≡ con_v k vs
shape_is (int_v j) k vs e = absurd (no_some e)
shape_is (con_v j us) k vs e = let e1 : shape j us ≡ shape k vs = some_is e in let q1 : j ≡ k = cc in let q2 : us ≡ vs = cc in ap (λ (x : Lexeme). con_v x us) q1 ∙ ap (con_v k) q2
shape_is (box_v r) k vs e = absurd (no_some e)
shape_is (ref_v l) k vs e = absurd (no_some e)
shape_is hole k vs e = absurd (no_some e)

module _ (K : Kit) (F : Fits K) (P : Pools → (ℕ → ℕ) → List Class → List Place → Type 0) (Q : Pooling K P) (code : List Instr) (fns : Lexeme → Option Entry) (q : Prog) (dw : (k : Lexeme) (vs : Values) (i : Info) → K.info k ≡ some i → words_of q (con_v k vs) ≡ K.size (dat i.home)) where
  place_here : (L : List Pl) (w : ℕ → ℕ) (a r : ℕ) (d : Lexeme) (v : Value) → Lay K L w a (dat d) v → here r ≡ place_of r v
  place_here L w a r d (int_v k) y = refl
  place_here L w a r d (con_v k vs) y = refl
  place_here L w a r d (box_v k) y = refl
  place_here L w a r d (ref_v l) y = absurd y.1
  place_here L w a r d hole y = refl

  pub takes_of : (w : Access) (l : Slot) (r fb : ℕ) (v : Value) (L : List Pl) (wd : ℕ → ℕ) → Takes w l.ty → at_place L r ≡ some (pl_of fb l) → Lay K L wd (fb + (l.flag + 1)) l.ty v → TakeAt K F P Q code fns q dw w l (place_of r v) fb L
  takes_of take l r fb v L wd tk ea ly = subst (λ (p1 : Loc). (at_place L p1.root ≡ some (pl_of fb l)) × (p1.path ≡ [])) (place_here L wd (fb + (l.flag + 1)) r tk.0 v (subst (λ (t1 : Ty). Lay K L wd (fb + (l.flag + 1)) t1 v) tk.1 ly)) (ea, refl)
  takes_of view l r fb v L wd tk ea ly = tt
  takes_of edit l r fb v L wd tk ea ly = tt

  pub take_ext : (w : Access) (l : Slot) (p1 : Loc) (fb : ℕ) (L L2 : List Pl) → Ext L L2 → TakeAt K F P Q code fns q dw w l p1 fb L → TakeAt K F P Q code fns q dw w l p1 fb L2
  take_ext take l p1 fb L L2 e t = (e p1.root _ t.0, t.1)
  take_ext view l p1 fb L L2 e t = tt
  take_ext edit l p1 fb L L2 e t = tt

  abbrev pub AltSim : ℕ → Type 0
  AltSim u = (as₁ : Alts) (w : Access) (l : Slot) (loc : Loc) (k : Lexeme) (vs : Values) (d : Lexeme) (C : Sc) (g : Env) (Z : Ctx) (fb sp room : ℕ) (is : List Instr) (L : List Pl) (s : State) (M : Mach) → FitAlts K F P Q code fns q dw room C w d as₁ → Ready K F P Q code fns q dw Z fb sp room C g L M → M.ctl ≡ code_alts K fns C w l as₁ is → Suf K fns (code_alts K fns C w l as₁ is) code → from_end code (length is) ≡ is → Rep K F P Z (fb + C.high) L s M → Looking K F P Q code fns q dw w l loc k vs d Z fb C.high L s M → SteadyAlt K.lent q u (roots_in_dying Z.dying) Z.held (locs Z.flying) g w loc as₁ (shape k vs) s → Does K F P code (AfterS K F P Q code fns q dw Z fb sp C C g L s.roots M.words is) M (by_alt u K.lent q g w loc as₁ (shape k vs) s)

  -- Z is without the frame's names
  abbrev pub ArmSim : ℕ → Type 0
  ArmSim u = (as₁ : Arms) (w : Access) (l : Slot) (loc : Loc) (k : Lexeme) (vs : Values) (d : Lexeme) (C : Sc) (g : Env) (Z : Ctx) (fb sp room : ℕ) (t : Ty) (is : List Instr) (L : List Pl) (s : State) (M : Mach) → FitArms K F P Q code fns q dw room t C w d as₁ → 8 + K.size t ≤ C.high → Under Z fb → Area K F P Q code fns q dw fb (K.size t) (awake Z s.roots) L → Ready K F P Q code fns q dw (with_held (env_roots g ++ Z.held) Z) fb sp room C g L M → M.ctl ≡ code_arms K fns (K.size t) C w l as₁ is → Suf K fns (code_arms K fns (K.size t) C w l as₁ is) code → from_end code (length is) ≡ is → Rep K F P (with_held (env_roots g ++ Z.held) Z) (fb + C.high) L s M → Looking K F P Q code fns q dw w l loc k vs d (with_held (env_roots g ++ Z.held) Z) fb C.high L s M → SteadyArm K.lent q u (roots_in_dying Z.dying) Z.held (locs Z.flying) g w loc as₁ (shape k vs) s → Does K F P code (Given1 K F P Q code fns q dw Z fb sp C.high L s.roots M.words t is) M (by_shape u K.lent q g w loc as₁ (shape k vs) s)

  module _ (TB : Tables K F P Q code fns q dw) (u : ℕ) (IB : BlockSim K F P Q code fns q dw u) where
    pub sim_alt : AltSim (suc u)
    unfolding eval
    sim_alt no_alts w l loc k vs d C g Z fb sp room is L s M ft Y ec sf ej R lk st = does_need K F P code s (find_alt no_alts k) (λ a ea. absurd (no_some ea))
    sim_alt (alt c xs ss as₁) w l loc k vs d C g Z fb sp room is L s M ft Y ec sf ej R lk st = which (same c k) refl (λ f1 Y1 e1 s1 R1 lk1 st1. sim_alt as₁ w l loc k vs d C g Z fb sp room is L s (sets M (code_alts K fns C w l as₁ is) M.words) f1 Y1 e1 s1 ej R1 lk1 st1)
      where
        mine : Lexeme → List Instr
        mine c1 = code_open K fns C w l c1 (code_ss K fns (alt_scope K fns C w c1 xs) ss (code_ends K fns (newer_slots K fns (after_ss K fns (alt_scope K fns C w c1 xs) ss).names C.names) (JMP (length is) ∷ code_alts K fns C w l as₁ is)))

        Post : Env → State → Mach → Type 0
        Post = AfterS K F P Q code fns q dw Z fb sp C C g L s.roots M.words is

        tl : (o : Option Found) → Res Env
        tl o = need s o (λ a. need s (taken w s loc) (λ t. need t (names_in g t a.names (parts w loc vs)) (λ i. block u K.lent q i g a.does (roots_in t (parts w loc vs)))))

        this_one : FitSs K F P Q code fns q dw room (alt_scope K fns C w k xs) ss → Suf K fns (mine k) code → ((a : Found) → some (record { names = xs; does = ss }) ≡ some a → TakesClear w Z.held (locs Z.flying) s.roots loc × ((t : State) → taken w s loc ≡ some t → (i : Env) → names_in g t a.names (parts w loc vs) ≡ some i → SteadyBlock K.lent q u (roots_in_dying Z.dying) Z.held (locs Z.flying) i g a.does (roots_in t (parts w loc vs)))) → Does K F P code (AfterS K F P Q code fns q dw Z fb sp C C g L s.roots M.words is) (sets M (mine k) M.words) (tl (some (record { names = xs; does = ss })))
        this_one ft1 sf1 st1 =
            let a0 : Found = record { names = xs; does = ss } in let st2 = st1 a0 refl in
            does_need K F P code s (some a0) (λ a ea. let q1 : a0 ≡ a = some_is ea in subst (λ (a1 : Found). Does K F P code (AfterS K F P Q code fns q dw Z fb sp C C g L s.roots M.words is) (sets M (mine k) M.words) (need s (taken w s loc) (λ t. need t (names_in g t a1.names (parts w loc vs)) (λ i. block u K.lent q i g a1.does (roots_in t (parts w loc vs)))))) q1
            (does_need K F P code s (taken w s loc) (λ t et. does_need K F P code t (names_in g t xs (parts w loc vs)) (λ i ei.
            let M1 : Mach = sets M (mine k) M.words in let Y1 = ready_ctl K F P Q code fns q dw (mine k) Y in let hp = Y.heap in
            let C2 : Sc = alt_scope K fns C w k xs in
            let rest : List Instr = JMP (length is) ∷ code_alts K fns C w l as₁ is in
            let js : List Instr = code_ss K fns C2 ss (code_ends K fns (newer_slots K fns (after_ss K fns C2 ss).names C.names) rest) in
            let op = opened K F P Q code fns q dw TB w l loc k vs d Z fb sp C xs g i L s t js M1 hp Y.under Y1.base (looking_ctl K F P Q code fns q dw (mine k) lk) (rep_ctl K F P Q (mine k) R) st2.0 et ei refl in
            let N : Mach = op.0 in let O = op.1.1 in let z : State = roots_in t (parts w loc vs) in
            let sfj : Suf K fns js code = suf_trans K fns (suf_open K fns C w l k js) sf1 in
            back K F P code op.1.0 (subst (λ (i1 : Env). Does K F P code (AfterS K F P Q code fns q dw Z fb sp C C g L s.roots M.words is) N (block u K.lent q i1 g ss z)) (sym O.names)
            (does_more K F P code (IB ss C2 O.ls C.names O.ks g (C.high + 1) Z fb sp room rest O.L2 z N ft1 O.slots O.new O.stack (ready_opened K F P Q code fns q dw Y1 O) (λ f1 i1. (let z1 = Y.under f1 i1 in omega arith)) O.ctl sfj O.rep (subst (λ (i1 : Env). SteadyBlock K.lent q u (roots_in_dying Z.dying) Z.held (locs Z.flying) i1 g ss z) O.names (st2.1 t et i ei)))
            (λ g2 z2 O2 A2. let A = A2.1 in
            let fr : Work K F P Z.dying (fb + (C.high + 1)) L (awake Z s.roots) M.words A.L2 (awake Z z2.roots) O2.words = work_on K F P (fb + (C.high + 1)) (omega arith) O.frame A.frame in
            let c1 : Core K Z (fb + C.high) A.L2 z2.roots (awake Z z2.roots) O2.words = narrow K F P Q code fns q dw (fb + C.high) (fb + (C.high + 1)) (omega arith) (λ r j k1 k2 o. omega arith) R.core.mem.low fr A.rep.core in (
              sets O2 is O2.words,
              (
                jumps K F P Q code fns q dw O2 is _ A.base.mode A.ctl ej,
                subst (λ (g3 : Env). AfterS K F P Q code fns q dw Z fb sp C C g L s.roots M.words is g3 z2 (sets O2 is O2.words)) (sym A2.0)
                    (no_more K F P Q code fns q dw (record { L2 = A.L2; base = base_set K F P Q is O2.words A.base; ctl = refl; rep = record { core = c1; pool = A.rep.pool; sp = A.rep.sp; turns = A.rep.turns; ins = A.rep.ins; outs = A.rep.outs }; frame = work_lower K F P (omega arith) fr })),
              ),
            ))))))))

        which : (t : Bool) → same c k ≡ t → (FitAlts K F P Q code fns q dw room C w d as₁ → Ready K F P Q code fns q dw Z fb sp room C g L (sets M (code_alts K fns C w l as₁ is) M.words) → code_alts K fns C w l as₁ is ≡ code_alts K fns C w l as₁ is → Suf K fns (code_alts K fns C w l as₁ is) code → Rep K F P Z (fb + C.high) L s (sets M (code_alts K fns C w l as₁ is) M.words) → Looking K F P Q code fns q dw w l loc k vs d Z fb C.high L s (sets M (code_alts K fns C w l as₁ is) M.words) → SteadyAlt K.lent q (suc u) (roots_in_dying Z.dying) Z.held (locs Z.flying) g w loc as₁ (shape k vs) s → Does K F P code (AfterS K F P Q code fns q dw Z fb sp C C g L s.roots M.words is) (sets M (code_alts K fns C w l as₁ is) M.words) (tl (find_alt as₁ k))) → Does K F P code (AfterS K F P Q code fns q dw Z fb sp C C g L s.roots M.words is) M (tl (find_alt (alt c xs ss as₁) k))
        which true e ih =
            let ec1 : c ≡ k = same_eq c k e in
            let ef : find_alt (alt c xs ss as₁) k ≡ some (record { names = xs; does = ss }) = ap (λ (b1 : Bool). choose b1 (some (record { names = xs; does = ss })) (find_alt as₁ k)) e in
            let sfm : Suf K fns (mine c) code = suf_trans K fns (later same1) sf in
            let sfr : Suf K fns (code_alts K fns C w l as₁ is) code = suf_trans K fns (suf_trans K fns (suf_trans K fns (later same1) (suf_ends K fns _ (JMP (length is) ∷ code_alts K fns C w l as₁ is))) (suf_ss K fns ss (alt_scope K fns C w c xs) _)) (suf_trans K fns (suf_open K fns C w l c _) sfm) in
            back K F P code (tested K F P Q code fns q dw TB w l loc k c vs d Z fb sp (fb + C.high) C.high (length (code_alts K fns C w l as₁ is)) L s (mine c) (code_alts K fns C w l as₁ is) M Y.base R lk ft.0 ec (jump sfr) true e)
            (subst (λ (o : Option Found). Does K F P code (AfterS K F P Q code fns q dw Z fb sp C C g L s.roots M.words is) (sets M (mine c) M.words) (tl o)) (sym ef)
            (subst (λ (c1 : Lexeme). Does K F P code (AfterS K F P Q code fns q dw Z fb sp C C g L s.roots M.words is) (sets M (mine c1) M.words) (tl (some (record { names = xs; does = ss })))) (sym ec1)
            (this_one (subst (λ (c1 : Lexeme). FitSs K F P Q code fns q dw room (alt_scope K fns C w c1 xs) ss) ec1 ft.1) (subst (λ (c1 : Lexeme). Suf K fns (mine c1) code) ec1 sfm) (λ a ea. st a (ef ∙ ea)))))
        which false e ih =
            let ef : find_alt (alt c xs ss as₁) k ≡ find_alt as₁ k = ap (λ (b1 : Bool). choose b1 (some (record { names = xs; does = ss })) (find_alt as₁ k)) e in
            let sfm : Suf K fns (mine c) code = suf_trans K fns (later same1) sf in
            let sfr : Suf K fns (code_alts K fns C w l as₁ is) code = suf_trans K fns (suf_trans K fns (suf_trans K fns (later same1) (suf_ends K fns _ (JMP (length is) ∷ code_alts K fns C w l as₁ is))) (suf_ss K fns ss (alt_scope K fns C w c xs) _)) (suf_trans K fns (suf_open K fns C w l c _) sfm) in
            back K F P code (tested K F P Q code fns q dw TB w l loc k c vs d Z fb sp (fb + C.high) C.high (length (code_alts K fns C w l as₁ is)) L s (mine c) (code_alts K fns C w l as₁ is) M Y.base R lk ft.0 ec (jump sfr) false e)
            (subst (λ (o : Option Found). Does K F P code (AfterS K F P Q code fns q dw Z fb sp C C g L s.roots M.words is) (sets M (code_alts K fns C w l as₁ is) M.words) (tl o)) (sym ef)
            (ih ft.2 (ready_ctl K F P Q code fns q dw _ Y) refl sfr (rep_ctl K F P Q _ R) (looking_ctl K F P Q code fns q dw _ lk) (λ a ea. st a (ef ∙ ea))))

  module _ (u : ℕ) (IE : EvalSim K F P Q code fns q dw u) (IA : AltSim u) where
    pub sim_match : (w : Access) (x : Lexeme) (as₁ : Alts) (C : Sc) (g : Env) (Z : Ctx) (fb sp room : ℕ) (is : List Instr) (L : List Pl) (s : State) (M : Mach) → FitS K F P Q code fns q dw room C (match_s w x as₁) → Ready K F P Q code fns q dw Z fb sp room C g L M → M.ctl ≡ code_s K fns C (match_s w x as₁) is → Suf K fns (code_s K fns C (match_s w x as₁) is) code → Rep K F P Z (fb + C.high) L s M → SteadyS K.lent q (suc u) (roots_in_dying Z.dying) Z.held (locs Z.flying) g (match_s w x as₁) s → Does K F P code (AfterS K F P Q code fns q dw Z fb sp C C g L s.roots M.words is) M (exec (suc u) K.lent q g (match_s w x as₁) s)
    unfolding eval
    sim_match w x as₁ C g Z fb sp room is L s M ft Y ec sf R st =
        does_need K F P code s (root_of g x) (λ r er. does_need K F P code s (read_at s (here r)) (λ v ev. does_need K F P code s (read_at s (place_of r v)) (λ z ez. does_need K F P code s (shape_of z) (λ y ey. shaped r er v ev z ez y ey))))
      where
        shaped : (r : ℕ) → root_of g x ≡ some r → (v : Value) → read_at s (here r) ≡ some v → (z : Value) → read_at s (place_of r v) ≡ some z → (y : Shape) → shape_of z ≡ some y → Does K F P code (AfterS K F P Q code fns q dw Z fb sp C C g L s.roots M.words is) M (by_alt u K.lent q g w (place_of r v) as₁ y s)
        shaped r er v ev z ez (shape k vs) ey =
            let h0 : ℕ = C.high in let fo = found Y.names x r er in let l : Slot = fo.slot in
            let es : slot_at C.names x ≡ l = slot_is C.names x l fo.is in
            let js : List Instr = code_alts K fns C w l as₁ is in
            let ec1 : M.ctl ≡ share_code h0 l l.ty ∷ js = ec ∙ ap (λ (k1 : Slot). share_code h0 k1 k1.ty ∷ code_alts K fns C w k1 as₁ is) es in
            let sf1 : Suf K fns js code = subst (λ (k1 : Slot). Suf K fns (code_alts K fns C w k1 as₁ is) code) es (suf_trans K fns (later same1) sf) in
            let rd = reads K F P Q Z (fb + h0) L s M.words r (pl_of fb l) v R.core fo.at refl ev in
            let ly : Lay K L M.words (fb + (l.flag + 1)) l.ty v = subst (λ (v1 : Value). Lay K L M.words (fb + (l.flag + 1)) l.ty v1) rd.val rd.sits.lay in
            let d : Lexeme = ft.1.0 in let fx = ft.1.1.0 l fo.is in
            via (looked K F P Q code fns q dw u IE x r l v C.names g Z fb sp (fb + h0) h0 js L s M er fo.at rd ec1 (stand K F P Q code fns q dw h0 (omega arith) Y) R) (λ N A.
            let A1 = A in
            let sp1 : Spot K A.L2 (awake Z s.roots) (place_of r v) (N.words (fb + h0)) (dat d) = subst (λ (t1 : Ty). Spot K A.L2 (awake Z s.roots) (place_of r v) (N.words (fb + h0)) t1) fx.0 (fly_spot K F Z (fb + h0) A.L2 s.roots (awake Z s.roots) N.words (fb + h0) (share_ty l.ty) (ref_v (place_of r v)) A.rep.core (place_of r v) (seen_ty l.ty) refl (seen_ref l.ty)) in
            let lk : Looking K F P Q code fns q dw w l (place_of r v) k vs d Z fb h0 A.L2 s N = record { addr = N.words (fb + h0); word = refl; spot = sp1; reads1 = ez ∙ ap some (shape_is z k vs ey); takes = take_ext w l (place_of r v) fb L A.L2 A.frame.ext (takes_of w l r fb v L M.words fx.1 fo.at ly) } in
            let Y2 : Ready K F P Q code fns q dw Z fb sp room C g A.L2 N = record { base = A.base; names = names_ext A.frame.ext Y.names; held = Y.held; heap = Y.heap; room = Y.room; under = Y.under } in
            does_as K F P code (IA as₁ w l (place_of r v) k vs d C g Z fb sp room is A.L2 s N ft.1.1.1 Y2 A.ctl sf1 (jump (suf_trans K fns (suf_alts K fns as₁ C w l is) sf1)) (rep_unfly K F P Q Z (fb + h0) (share_ty l.ty) (ref_v (place_of r v)) A.rep) lk (st r er v ev z ez (shape k vs) ey))
            (λ g2 z2 O A2. s_on1 A.frame A2))
          where
            via : {A1 : Type 0} {R1 : A1 → State → Mach → Type 0} {Q1 : Value → State → Mach → Type 0} {M1 : Mach} {v1 : Value} {s1 : State} {r1 : Res A1} → Does K F P code Q1 M1 (ok v1 s1) → ((N : Mach) → Q1 v1 s1 N → Does K F P code R1 N r1) → Does K F P code R1 M1 r1
            via (by_ok N l1 h1) f = back K F P code l1 (f N h1)

            s_on1 : {L : List Pl} {rs : List Root} {wd : ℕ → ℕ} {L1 : List Pl} {rs1 : List Root} {w1 : ℕ → ℕ} {g2 : Env} {z : State} {N : Mach} → Work K F P Z.dying (fb + C.high) L (awake Z rs) wd L1 (awake Z rs1) w1 → AfterS K F P Q code fns q dw Z fb sp C C g L1 rs1 w1 is g2 z N → AfterS K F P Q code fns q dw Z fb sp C C g L rs wd is g2 z N
            s_on1 f A = record { L2 = A.L2; base = A.base; ctl = A.ctl; ls = A.ls; ks = A.ks; slots = A.slots; names = A.names; stack = A.stack; new = A.new; rep = A.rep; frame = work_on K F P (fb + C.high) (omega arith) f A.frame }
