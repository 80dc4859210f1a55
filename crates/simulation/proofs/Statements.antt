-- Statements: what the rules say of them, where they stand, what is behind them; let, put, if, while, blocks.
use mathlib.Core.Path.{◌≡◌, refl, sym, ap, subst, ◌∙◌}
use mathlib.Core.Bool.{Bool}
use mathlib.Core.List.{List, [], ◌∷◌, ◌++◌}
use mathlib.Core.Option.{Option, some}
use mathlib.Core.Logic.{◌⊎◌, inl, inr}
use Prim.Native.Nat.{ℕ, suc, ◌+◌, ◌≤◌, ◌<◌}
use native.Mathlib.Omega.{arith}
use lib.ListN.{length}
use lib.Dec.{eqb}
use Rattle.language.specs.Base.{Lexeme, choose}
use Rattle.language.specs.Syntax.{Ty, dat, Expr, Access, Stmt, bind, put_s, Stmts, Alts, Prog}
use Rattle.language.specs.Meaning.{Loc, Value, int_v, con_v, ref_v, Values, Root, Class, State, ok, Env, adds_root, words_of, num_of, two_64, eval, exec, execs, block, ends}
use Rattle.language.specs.Says.{shown_only}
pub use Rattle.simulation.specs.Fitting.{seen_ty, Takes}
use Rattle.simulation.proofs.Machine.{Kit, Info, Place, Pools, Instr, NUM, PUT, JZ, JMP, running, Mach, go, upd, sets, showing, from_end, Leads, lead_one}
use Rattle.simulation.proofs.Lowering.{Slot, Sc, Entry, type_e, enter, after_s, after_ss, code_ends, newer_slots, code_s, code_ss, Suf}
use Rattle.simulation.proofs.Memory.{no_some, some_is, Pl, Lay, Fits, Ext, Live, flag_of, Refers, Owns, Sits, Mem, Kind, upd_same, upd_other, at_end, copied, lay_ext, ext_more, own_more}
use Rattle.simulation.proofs.Pointers.{Spot}
use Rattle.simulation.proofs.Context.{Ctx, has_this, has_front, roots_in_dying, locs, awake, with_held, fly_spot}
use Rattle.simulation.specs.Borrows.{env_roots, SteadyS, SteadySs, SteadyBlock, SteadyEnds}
use Rattle.simulation.proofs.Relation.{Pooling, Names, no_names, Keep, keep_low, Work, work_on, work_lower, Rep, Does, by_ok, does_then, does_need, does_as}
use Rattle.simulation.proofs.Scopes.{Stack}
use Rattle.simulation.proofs.Stand.{Base, AllHeld, Under, num_is, rep_ctl, rep_above, rep_unfly, base_set, work_above, Stand, EvalSim}
use Rattle.simulation.proofs.Binding.{binds}
use Rattle.simulation.proofs.Expressions.{shown_more}

pub held_front : (g : Env) (xs hs : List ℕ) → AllHeld g hs → AllHeld g (xs ++ hs)
held_front [] xs hs h = tt
held_front (m ∷ g) xs hs h = (has_front xs h.0, held_front g xs hs h.1)

pub held_more : (ks g : Env) (hs : List ℕ) → AllHeld g hs → AllHeld (ks ++ g) (env_roots ks ++ hs)
held_more [] g hs h = h
held_more (k ∷ ks) g hs h = (has_this refl, held_front (ks ++ g) (k.root ∷ []) (env_roots ks ++ hs) (held_more ks g hs h))

module _ (K : Kit) (F : Fits K) (P : Pools → (ℕ → ℕ) → List Class → List Place → Type 0) (Q : Pooling K P) (code : List Instr) (fns : Lexeme → Option Entry) (q : Prog) (dw : (k : Lexeme) (vs : Values) (i : Info) → K.info k ≡ some i → words_of q (con_v k vs) ≡ K.size (dat i.home)) where
  abbrev pub FitS : ℕ → Sc → Stmt → Type 0
  FitS room C x = Rattle.simulation.specs.Fitting.FitS K fns room C x

  abbrev pub FitSs : ℕ → Sc → Stmts → Type 0
  FitSs room C xs = Rattle.simulation.specs.Fitting.FitSs K fns room C xs

  abbrev pub FitAlts : ℕ → Sc → Access → Lexeme → Alts → Type 0
  FitAlts room C w d as₁ = Rattle.simulation.specs.Fitting.FitAlts K fns room C w d as₁

  pub record AfterS (Z : Ctx) (f1 s1 : ℕ) (C C2 : Sc) (g : Env) (L : List Pl) (rs : List Root) (w : ℕ → ℕ) (is : List Instr) (g2 : Env) (z : State) (N : Mach) : Type 0 where
    pub L2 : List Pl
    pub base : Base N f1 s1
    pub ctl : N.ctl ≡ is
    pub ls : List Slot
    pub ks : Env
    pub slots : C2.names ≡ ls ++ C.names
    pub names : g2 ≡ ks ++ g
    pub stack : Stack K C.high ls C2.high
    pub new : Names L2 f1 ls ks
    pub rep : Rep K F P (with_held (env_roots ks ++ Z.held) Z) (f1 + C2.high) L2 z N
    pub frame : Work K F P Z.dying (f1 + C.high) L (awake Z rs) w L2 (awake Z z.roots) N.words

  pub record AfterEnd (Z : Ctx) (f1 s1 lo : ℕ) (L : List Pl) (rs : List Root) (w : ℕ → ℕ) (is : List Instr) (z : State) (N : Mach) : Type 0 where
    pub L2 : List Pl
    pub base : Base N f1 s1
    pub ctl : N.ctl ≡ is
    pub rep : Rep K F P Z (f1 + lo) L2 z N
    pub frame : Work K F P Z.dying (f1 + lo) L (awake Z rs) w L2 (awake Z z.roots) N.words

  -- a place in the code, and room
  pub record Ready (Z : Ctx) (f1 s1 ro : ℕ) (C : Sc) (g : Env) (L : List Pl) (M : Mach) : Type 0 where
    pub base : Base M f1 s1
    pub names : Names L f1 C.names g
    pub held : AllHeld g Z.held
    pub heap : K.lent.heap ≤ f1
    pub room : f1 + ro ≤ K.lent.heap + s1
    pub under : Under Z (f1 + C.high)

  abbrev pub ExecSim : ℕ → Type 0
  ExecSim u = (x : Stmt) (C : Sc) (g : Env) (Z : Ctx) (fb sp room : ℕ) (is : List Instr) (L : List Pl) (s : State) (M : Mach) → FitS room C x → Ready Z fb sp room C g L M → M.ctl ≡ code_s K fns C x is → Suf K fns (code_s K fns C x is) code → Rep K F P Z (fb + C.high) L s M → SteadyS K.lent q u (roots_in_dying Z.dying) Z.held (locs Z.flying) g x s → Does K F P code (AfterS Z fb sp C (after_s K fns C x) g L s.roots M.words is) M (exec u K.lent q g x s)

  abbrev pub ExecsSim : ℕ → Type 0
  ExecsSim u = (xs : Stmts) (C : Sc) (g : Env) (Z : Ctx) (fb sp room : ℕ) (is : List Instr) (L : List Pl) (s : State) (M : Mach) → FitSs room C xs → Ready Z fb sp room C g L M → M.ctl ≡ code_ss K fns C xs is → Suf K fns (code_ss K fns C xs is) code → Rep K F P Z (fb + C.high) L s M → SteadySs K.lent q u (roots_in_dying Z.dying) Z.held (locs Z.flying) g xs s → Does K F P code (AfterS Z fb sp C (after_ss K fns C xs) g L s.roots M.words is) M (execs u K.lent q g xs s)

  -- statements of their own: the names ks that are newer than those of h end with those that they make; Z is without them
  abbrev pub BlockSim : ℕ → Type 0
  BlockSim u = (xs : Stmts) (C : Sc) (ls D1 : List Slot) (ks h : Env) (lo : ℕ) (Z : Ctx) (fb sp room : ℕ) (is : List Instr) (L : List Pl) (s : State) (M : Mach) → FitSs room C xs → C.names ≡ ls ++ D1 → Names L fb ls ks → Stack K lo ls C.high → Ready (with_held (env_roots ks ++ Z.held) Z) fb sp room C (ks ++ h) L M → Under Z (fb + lo) → M.ctl ≡ code_ss K fns C xs (code_ends K fns (newer_slots K fns (after_ss K fns C xs).names D1) is) → Suf K fns (code_ss K fns C xs (code_ends K fns (newer_slots K fns (after_ss K fns C xs).names D1) is)) code → Rep K F P (with_held (env_roots ks ++ Z.held) Z) (fb + C.high) L s M → SteadyBlock K.lent q u (roots_in_dying Z.dying) Z.held (locs Z.flying) (ks ++ h) h xs s → Does K F P code (λ g2 z N. (g2 ≡ h) × AfterEnd Z fb sp lo L s.roots M.words is z N) M (block u K.lent q (ks ++ h) h xs s)

  abbrev pub EndsSim : ℕ → Type 0
  EndsSim u = (ls : List Slot) (ks : Env) (lo hi : ℕ) (Z : Ctx) (fb sp : ℕ) (is : List Instr) (L : List Pl) (s : State) (M : Mach) → Names L fb ls ks → Stack K lo ls hi → K.lent.heap ≤ fb → fb + hi ≤ K.lent.heap + sp → Under Z (fb + lo) → Base M fb sp → M.ctl ≡ code_ends K fns ls is → Suf K fns (code_ends K fns ls is) code → Rep K F P Z (fb + hi) L s M → SteadyEnds K.lent q u (roots_in_dying Z.dying) Z.held (locs Z.flying) ks s → Does K F P code (λ k z N. AfterEnd Z fb sp lo L s.roots M.words is z N) M (ends u K.lent q ks s)

  pub stand : {Z : Ctx} {fb sp room : ℕ} {C : Sc} {g : Env} {L : List Pl} {M : Mach} (h : ℕ) → C.high ≤ h → Ready Z fb sp room C g L M → Stand K F P Q code fns q dw Z fb sp (fb + C.high) h C.names g L M
  stand {Z} {fb} h le Y = record { base = Y.base; names = Y.names; held = Y.held; heap = Y.heap; low = omega arith; here = omega arith; under = λ f i. (let z = Y.under f i in omega arith) }

  -- no new names
  pub no_more : {Z : Ctx} {fb sp : ℕ} {C : Sc} {g : Env} {L : List Pl} {rs : List Root} {w : ℕ → ℕ} {is : List Instr} {z : State} {N : Mach} → AfterEnd Z fb sp C.high L rs w is z N → AfterS Z fb sp C C g L rs w is g z N
  no_more A = record { L2 = A.L2; base = A.base; ctl = A.ctl; ls = []; ks = []; slots = refl; names = refl; stack = refl; new = no_names; rep = A.rep; frame = A.frame }

  pub end_on : {Z : Ctx} {fb sp lo : ℕ} {L : List Pl} {rs : List Root} {w : ℕ → ℕ} {L1 : List Pl} {rs1 : List Root} {w1 : ℕ → ℕ} {is : List Instr} {z : State} {N : Mach} → Work K F P Z.dying (fb + lo) L (awake Z rs) w L1 (awake Z rs1) w1 → AfterEnd Z fb sp lo L1 rs1 w1 is z N → AfterEnd Z fb sp lo L rs w is z N
  end_on {Z} {fb} {lo = lo} f A = record { L2 = A.L2; base = A.base; ctl = A.ctl; rep = A.rep; frame = work_on K F P (fb + lo) (omega arith) f A.frame }

  pub end_ctl : {Z : Ctx} {fb sp lo : ℕ} {L : List Pl} {rs : List Root} {w : ℕ → ℕ} {js : List Instr} {z : State} {N : Mach} (is : List Instr) → AfterEnd Z fb sp lo L rs w js z N → AfterEnd Z fb sp lo L rs w is z (sets N is N.words)
  end_ctl is A = record { L2 = A.L2; base = base_set K F P Q is _ A.base; ctl = refl; rep = rep_ctl K F P Q is A.rep; frame = A.frame }

  pub jumps : (O : Mach) (is js : List Instr) → O.mode ≡ running → O.ctl ≡ JMP (length is) ∷ js → from_end code (length is) ≡ is → Leads K code O (sets O is O.words)
  jumps O is js em ec ej = lead_one (JMP (length is)) js em ec (ap (λ i. go (sets O i O.words)) ej)

  -- a test is 0 or not: to the place behind, or on
  pub test_zero : (k : ℕ) (N : Mach) (fb h0 j : ℕ) (is js : List Instr) → N.mode ≡ running → N.fb ≡ fb → N.ctl ≡ JZ h0 j ∷ is → N.words (fb + h0) ≡ k → from_end code j ≡ js → Leads K code N (sets N (choose (eqb k 0) js is) N.words)
  test_zero k N fb h0 j is js em ef ec ew ej = lead_one (JZ h0 j) is em ec (ap (λ i. go (sets N (choose (eqb (N.words (i + h0)) 0) (from_end code j) is) N.words)) ef ∙ (ap (λ i. go (sets N (choose (eqb i 0) (from_end code j) is) N.words)) ew ∙ ap (λ i. go (sets N (choose (eqb k 0) i is) N.words)) ej))

  pub int_word : (L : List Pl) (w : ℕ → ℕ) (a : ℕ) (t : Ty) (v : Value) (k : ℕ) → Lay K L w a t v → num_of v ≡ some k → (w a ≡ k) × (k < two_64)
  int_word L w a t v k y e = let y1 : Lay K L w a t (int_v k) = subst (λ (v1 : Value). Lay K L w a t v1) (num_is v k e) y in (y1.1, y1.2)

  module _ (u : ℕ) (IE : EvalSim K F P Q code fns q dw u) where
    -- one value at h + 1 gets a name: its flag goes up
    pub names_one : (x : Lexeme) (v : Value) (ty : Ty) (C : Sc) (g : Env) (Z : Ctx) (fb sp : ℕ) (is : List Instr) (L : List Pl) (t : State) (N : Mach) → K.lent.heap ≤ fb → Under Z (fb + C.high) → Base N fb sp → N.ctl ≡ NUM C.high 1 ∷ is → Lay K L N.words (fb + (C.high + 1)) ty v → flag_of v ≡ 1 → ((l : Loc) (u1 : Ty) → v ≡ ref_v l → Refers ty u1 → Spot K L (awake Z t.roots) l (N.words (fb + (C.high + 1))) u1) → Rep K F P Z (fb + C.high) L t N → Does K F P code (AfterS Z fb sp C (enter K fns C x ty) g L t.roots N.words is) N (ok (record { name = x; root = length t.roots } ∷ g) (adds_root t v 0))
    names_one x v ty C g Z fb sp is L t N hp un B ec ly fl sp1 R =
        let h0 : ℕ = C.high in let sw = F.some_word ty in
        let W : ℕ → ℕ = upd N.words (fb + h0) 1 in
        let below : (j : ℕ) → j < fb + h0 → W j ≡ N.words j = λ j k. upd_other N.words (fb + h0) 1 j (λ ej. omega arith) in
        let R1 = rep_above K F P Q is W (fb + h0) below (omega arith) (omega arith) un R in
        let e0 : fb + (h0 + 1) ≡ (fb + h0) + 1 = omega arith in
        let w1 : W (fb + (h0 + 1)) ≡ N.words (fb + (h0 + 1)) = upd_other N.words (fb + h0) 1 (fb + (h0 + 1)) (λ ej. omega arith) in
        let lay3 : Lay K L W ((fb + h0) + 1) ty v = copied K F L N.words W (fb + (h0 + 1)) ((fb + h0) + 1) ty v ly (λ i k. upd_other N.words (fb + h0) 1 (((fb + h0) + 1) + i) (λ ej. omega arith) ∙ ap (λ a. N.words (a + i)) (sym e0)) in
        let Bd = binds K F fns Z fb C (x ∷ []) (ty ∷ []) (v ∷ []) L t W g (record { name = x; root = length t.roots } ∷ g) hp un refl
        (record { flag = upd_same N.words (fb + h0) 1; lay = lay3; there = fl; spot = λ l u1 e rf. subst (λ (a : ℕ). Spot K L (awake Z t.roots) l a u1) (sym w1 ∙ ap W e0) (sp1 l u1 e rf) }, tt) R1.core in
        by_ok (sets N is W) (lead_one (NUM h0 1) is B.mode ec (ap (λ i. go (sets N is (upd N.words (i + h0) 1))) B.fb))
        (record {
          L2 = Bd.L2;
          base = base_set K F P Q is W B;
          ctl = refl;
          ls = Bd.ls;
          ks = Bd.ks;
          slots = Bd.slots;
          names = Bd.names;
          stack = Bd.stack;
          new = Bd.new;
          rep = record { core = Bd.core; pool = subst (λ (us : List Place). P N.pool W t.classes us) (sym Bd.same_boxes) R1.pool; sp = R.sp; turns = R.turns; ins = R.ins; outs = R.outs };
          frame = work_on K F P (fb + h0) (omega arith) (work_above K F P Q W (fb + h0) below (omega arith) R.core)
              (record { ext = Bd.ext; kept = λ j k n1. refl; grew = λ r j o. grew1 Z (fb + h0) L t r j (λ k. keep_low K Z.dying (fb + h0) L t.roots (omega arith) R.core.dead j k) (Bd.grew r j o) });
        })
      where
        grew1 : (Z : Ctx) (b1 : ℕ) (L : List Pl) (t : State) (r j : ℕ) → (Keep K Z.dying b1 j → j < b1) → Owns K (awake Z t.roots) L r j ⊎ (b1 ≤ j) → Owns K (awake Z t.roots) L r j ⊎ (Keep K Z.dying b1 j → ⊥)
        grew1 Z b1 L t r j f (inl o) = inl o
        grew1 Z b1 L t r j f (inr o) = inr (λ k. (let z = f k in omega arith))

    pub s_on : {Z : Ctx} {fb sp : ℕ} {C C2 : Sc} {g : Env} {L : List Pl} {rs : List Root} {w : ℕ → ℕ} {L1 : List Pl} {rs1 : List Root} {w1 : ℕ → ℕ} {is : List Instr} {g2 : Env} {z : State} {N : Mach} → Work K F P Z.dying (fb + C.high) L (awake Z rs) w L1 (awake Z rs1) w1 → AfterS Z fb sp C C2 g L1 rs1 w1 is g2 z N → AfterS Z fb sp C C2 g L rs w is g2 z N
    s_on {Z} {fb} {C = C} f A = record { L2 = A.L2; base = A.base; ctl = A.ctl; ls = A.ls; ks = A.ks; slots = A.slots; names = A.names; stack = A.stack; new = A.new; rep = A.rep; frame = work_on K F P (fb + C.high) (omega arith) f A.frame }

    pub sim_bind : (x : Lexeme) (e : Expr) (C : Sc) (g : Env) (Z : Ctx) (fb sp room : ℕ) (is : List Instr) (L : List Pl) (s : State) (M : Mach) → FitS room C (bind x e) → Ready Z fb sp room C g L M → M.ctl ≡ code_s K fns C (bind x e) is → Suf K fns (code_s K fns C (bind x e) is) code → Rep K F P Z (fb + C.high) L s M → SteadyS K.lent q (suc u) (roots_in_dying Z.dying) Z.held (locs Z.flying) g (bind x e) s → Does K F P code (AfterS Z fb sp C (after_s K fns C (bind x e)) g L s.roots M.words is) M (exec (suc u) K.lent q g (bind x e) s)
    unfolding exec
    sim_bind x e C g Z fb sp room is L s M ft Y ec sf R st =
        let h0 : ℕ = C.high in let ty : Ty = type_e K fns C.names e in let ft0 = ft.0 in let rm = Y.room in let hp = Y.heap in
        does_then K F P code (eval u K.lent q g e s) (IE e C.names g Z fb sp (fb + h0) (h0 + 1) (NUM h0 1 ∷ is) L s M ft.1 ec sf (stand (h0 + 1) (omega arith) Y) (omega arith) R st) (λ v t N ev A.
        does_as K F P code (names_one x v ty C g Z fb sp is A.L2 t N hp Y.under A.base A.ctl A.lay A.there (fly_spot K F Z (fb + h0) A.L2 t.roots (awake Z t.roots) N.words (fb + (h0 + 1)) ty v A.rep.core) (rep_unfly K F P Q Z (fb + (h0 + 1)) ty v A.rep))
        (λ g2 z O A2. s_on (work_lower K F P (omega arith) A.frame) A2))

    pub sim_put : (e : Expr) (C : Sc) (g : Env) (Z : Ctx) (fb sp room : ℕ) (is : List Instr) (L : List Pl) (s : State) (M : Mach) → FitS room C (put_s e) → Ready Z fb sp room C g L M → M.ctl ≡ code_s K fns C (put_s e) is → Suf K fns (code_s K fns C (put_s e) is) code → Rep K F P Z (fb + C.high) L s M → SteadyS K.lent q (suc u) (roots_in_dying Z.dying) Z.held (locs Z.flying) g (put_s e) s → Does K F P code (AfterS Z fb sp C C g L s.roots M.words is) M (exec (suc u) K.lent q g (put_s e) s)
    unfolding exec
    sim_put e C g Z fb sp room is L s M ft Y ec sf R st =
        let h0 : ℕ = C.high in let ty : Ty = type_e K fns C.names e in let ft0 = ft.0 in let rm = Y.room in
        does_then K F P code (eval u K.lent q g e s) (IE e C.names g Z fb sp (fb + h0) h0 (PUT h0 ∷ is) L s M ft.1 ec sf (stand h0 (omega arith) Y) (omega arith) R st) (λ v t N ev A.
        does_need K F P code t (num_of v) (λ k ek.
        let wk = int_word A.L2 N.words (fb + h0) ty v k A.lay ek in
        let R1 = rep_unfly K F P Q Z (fb + h0) ty v A.rep in
        by_ok (showing N is k) (lead_one (PUT h0) is A.base.mode A.ctl (ap (λ i. go (showing N is (N.words (i + h0)))) A.base.fb ∙ ap (λ i. go (showing N is i)) wk.0))
        (no_more (record {
          L2 = A.L2;
          base = record { mode = A.base.mode; fb = A.base.fb; sp = A.base.sp; full = A.base.full };
          ctl = refl;
          rep = record { core = R1.core; pool = R1.pool; sp = R1.sp; turns = R1.turns; ins = R1.ins; outs = ap (λ os. os ++ (k ∷ [])) R1.outs ∙ (ap (λ (xs : List ℕ). shown_only t.outs ++ xs) (shown_one k wk.1) ∙ sym (shown_more t.outs k)) };
          frame = A.frame;
        }))))
      where
        shown_one : (k : ℕ) → k < two_64 → k ∷ [] ≡ shown_only (k ∷ [])
        shown_one k h = ap (λ (b1 : Bool). choose b1 [] (k ∷ [])) (sym (Rattle.simulation.proofs.Memory.eqb_no k two_64 (λ e. omega arith)))
