-- Calls: a frame is entered, with the arguments as parameters; the body; RETURN.
use mathlib.Core.Path.{◌≡◌, refl, sym, ap, subst, ◌∙◌}
use mathlib.Core.List.{List, [], ◌∷◌, ◌++◌}
use mathlib.Core.Option.{Option, some}
use mathlib.Core.Logic.{◌⊎◌, inl, inr}
use Prim.Native.Nat.{ℕ, suc, ◌+◌, ◌-◌, ◌≤◌, ◌<◌}
use native.Mathlib.Omega.{arith}
use lib.ListN.{length}
use lib.Dec.{ltb, leb}
use Rattle.language.specs.Base.{Lexeme, from_option}
use Rattle.language.specs.Syntax.{Ty, int, dat, call, Exprs, nil_e, cons_e, Fn, Prog}
use Rattle.language.specs.Checks.{fn_named, types_of_pars}
use Rattle.language.specs.Meaning.{Value, con_v, Values, nil_v, list_of, Root, Class, State, no_stack, no_turns, Res, need, turn, goes_under, with_under, Env, names_of, names_in, roots_in, words_of, frame, eval, evals, calls, bodies}
use Rattle.simulation.proofs.Machine.{Kit, Info, Place, Pools, Instr, CALL, RETURN, STUCK, running, Mach, go, halt, Outcome, stopped, upd, copy, header, entered, enters, from_end, Runs, Leads, lead_one, halt_one}
use Rattle.simulation.proofs.Lowering.{Slot, Sc, Entry, type_e, code_e, high_e, high_es, first_scope, pars_scope, Suf, same1, later, suf_trans, suf_es}
use Rattle.simulation.proofs.Memory.{no_some, some_is, Pl, Lay, Lays, total, Fits, Ext, Live, flag_of, Refers, Owns, Mem, upd_same, upd_other, copied, copied_all}
use Rattle.simulation.proofs.Boxes.{boxes}
use Rattle.simulation.proofs.WordOps.{copy_in, copy_under, copy_off, choose_true, choose_false}
use Rattle.simulation.proofs.Pointers.{spot_word}
use Rattle.simulation.proofs.Context.{Ctx, roots_in_dying, locs, awake, with_held, with_flying, fly, fly_spot, Core, core_less, core_wider, core_fly, core_unfly}
use Rattle.simulation.specs.Borrows.{env_roots, turned_state, SteadyE, SteadyCalls, SteadyBody}
use Rattle.simulation.proofs.Relation.{Pooling, Names, names_ext, Keep, keep_low, keep_wide, Work, work_none, work_on, work_lower, Rep, Does, by_ok, by_stop, back, does_then, does_need, does_choose, does_as}
use Rattle.simulation.proofs.Scopes.{jump}
use Rattle.simulation.proofs.Stand.{Base, AllHeld, Under, core_above, Stand, FitE, types_of, After, after_on}
use Rattle.simulation.proofs.Arguments.{has_flies, AfterEs, EvalsSim}
use Rattle.simulation.proofs.Binding.{InSlots, binds, roots_same}
use Rattle.simulation.proofs.Passing.{ArgSpots, flies_spots, spots_words, passed_under, passed_slots}
use Rattle.simulation.proofs.Statements.{held_more, Ready}
use Rattle.simulation.proofs.Bodies.{Area, BodySim}

app_nil : {A : Type 0} (xs : List A) → xs ++ [] ≡ xs
app_nil [] = refl
app_nil (x ∷ xs) = ap (λ z. x ∷ z) (app_nil xs)

pub under_header : (w : ℕ → ℕ) (X b1 b2 b3 b4 b5 b6 b7 j : ℕ) → j < X → header w X b1 b2 b3 b4 b5 b6 b7 j ≡ w j
under_header w X b1 b2 b3 b4 b5 b6 b7 j g =
    let w1 : ℕ → ℕ = upd w X b1 in let w2 : ℕ → ℕ = upd w1 (X + 1) b2 in let w3 : ℕ → ℕ = upd w2 (X + 2) b3 in let w4 : ℕ → ℕ = upd w3 (X + 3) b4 in let w5 : ℕ → ℕ = upd w4 (X + 4) b5 in let w6 : ℕ → ℕ = upd w5 (X + 5) b6 in
    upd_other w6 (X + 6) b7 j (λ e. omega arith) ∙ (upd_other w5 (X + 5) b6 j (λ e. omega arith) ∙ (upd_other w4 (X + 4) b5 j (λ e. omega arith) ∙ (upd_other w3 (X + 3) b4 j (λ e. omega arith) ∙ (upd_other w2 (X + 2) b3 j (λ e. omega arith) ∙ (upd_other w1 (X + 1) b2 j (λ e. omega arith) ∙ upd_other w X b1 j (λ e. omega arith))))))

-- the words of a header
pub record Headed (h : ℕ → ℕ) (X b1 b2 b3 b4 b5 b6 b7 : ℕ) : Type 0 where
  pub h0 : h X ≡ b1
  pub h1 : h (X + 1) ≡ b2
  pub h2 : h (X + 2) ≡ b3
  pub h3 : h (X + 3) ≡ b4
  pub h4 : h (X + 4) ≡ b5
  pub h5 : h (X + 5) ≡ b6
  pub h6 : h (X + 6) ≡ b7

pub headed : (w : ℕ → ℕ) (X b1 b2 b3 b4 b5 b6 b7 : ℕ) → Headed (header w X b1 b2 b3 b4 b5 b6 b7) X b1 b2 b3 b4 b5 b6 b7
headed w X b1 b2 b3 b4 b5 b6 b7 =
    let w1 : ℕ → ℕ = upd w X b1 in let w2 : ℕ → ℕ = upd w1 (X + 1) b2 in let w3 : ℕ → ℕ = upd w2 (X + 2) b3 in let w4 : ℕ → ℕ = upd w3 (X + 3) b4 in let w5 : ℕ → ℕ = upd w4 (X + 4) b5 in let w6 : ℕ → ℕ = upd w5 (X + 5) b6 in
    let o6 : (j : ℕ) → j < X + 6 → header w X b1 b2 b3 b4 b5 b6 b7 j ≡ w6 j = λ j g. upd_other w6 (X + 6) b7 j (λ e. omega arith) in
    let o5 : (j : ℕ) → j < X + 5 → header w X b1 b2 b3 b4 b5 b6 b7 j ≡ w5 j = λ j g. o6 j (omega arith) ∙ upd_other w5 (X + 5) b6 j (λ e. omega arith) in
    let o4 : (j : ℕ) → j < X + 4 → header w X b1 b2 b3 b4 b5 b6 b7 j ≡ w4 j = λ j g. o5 j (omega arith) ∙ upd_other w4 (X + 4) b5 j (λ e. omega arith) in
    let o3 : (j : ℕ) → j < X + 3 → header w X b1 b2 b3 b4 b5 b6 b7 j ≡ w3 j = λ j g. o4 j (omega arith) ∙ upd_other w3 (X + 3) b4 j (λ e. omega arith) in
    let o2 : (j : ℕ) → j < X + 2 → header w X b1 b2 b3 b4 b5 b6 b7 j ≡ w2 j = λ j g. o3 j (omega arith) ∙ upd_other w2 (X + 2) b3 j (λ e. omega arith) in
    let o1 : (j : ℕ) → j < X + 1 → header w X b1 b2 b3 b4 b5 b6 b7 j ≡ w1 j = λ j g. o2 j (omega arith) ∙ upd_other w1 (X + 1) b2 j (λ e. omega arith) in
    record { h0 = o1 X (omega arith) ∙ upd_same w X b1; h1 = o2 (X + 1) (omega arith) ∙ upd_same w1 (X + 1) b2; h2 = o3 (X + 2) (omega arith) ∙ upd_same w2 (X + 2) b3; h3 = o4 (X + 3) (omega arith) ∙ upd_same w3 (X + 3) b4; h4 = o5 (X + 4) (omega arith) ∙ upd_same w4 (X + 4) b5; h5 = o6 (X + 5) (omega arith) ∙ upd_same w5 (X + 5) b6; h6 = upd_same w6 (X + 6) b7 }

module _ (K : Kit) (F : Fits K) (P : Pools → (ℕ → ℕ) → List Class → List Place → Type 0) (Q : Pooling K P) (code : List Instr) (fns : Lexeme → Option Entry) (q : Prog) (dw : (k : Lexeme) (vs : Values) (i : Info) → K.info k ≡ some i → words_of q (con_v k vs) ≡ K.size (dat i.home)) where
  abbrev pub Coded : Type 0
  Coded = Rattle.simulation.specs.Fitting.Coded K fns code q

  abbrev pub hd : Mach → ℕ → ℕ → ℕ → ℕ → ℕ → ℕ → ℕ
  hd M back1 res e1 e2 e3 = header M.words (K.lent.heap + M.sp) back1 M.fb res M.full e1 e2 e3

  -- at RETURN: what the body gives is in the result area, the header is as it was
  pub record Gave (Z : Ctx) (X s1 k : ℕ) (L : List Pl) (rs : List Root) (w : ℕ → ℕ) (t : Ty) (v : Value) (z : State) (N : Mach) : Type 0 where
    pub inner : State
    pub is : z ≡ with_under inner k
    pub L2 : List Pl
    pub rest : List Instr
    pub base : Base N X s1
    pub ctl : N.ctl ≡ RETURN (K.size t) ∷ rest
    pub rep : Rep K F P (with_flying (fly (X + 8) t v Z.flying) Z) (X + (8 + K.size t)) L2 inner N
    pub lay : Lay K L2 N.words (X + 8) t v
    pub there : flag_of v ≡ 1
    pub area : Area K F P Q code fns q dw X (K.size t) (awake Z inner.roots) L2
    pub frame : Work K F P Z.dying (X + 8) L (awake Z rs) w L2 (awake Z inner.roots) N.words

  abbrev pub CallsSim : ℕ → Type 0
  CallsSim u = (f : Lexeme) (fn : Fn) (vs : Values) (back1 res e1 e2 e3 a : ℕ) (Z : Ctx) (lo : ℕ) (L : List Pl) (s : State) (M : Mach) → fn_named q.funs f ≡ some fn
      → ((N : Mach) → enters K code M back1 res e1 e2 e3 f (K.size fn.ret) (types_of_pars fn.pars) a ≡ go N → Leads K code M N)
      → ((x : Outcome) (os : List ℕ) → enters K code M back1 res e1 e2 e3 f (K.size fn.ret) (types_of_pars fn.pars) a ≡ halt x os → Runs K code M x os)
      → lo ≤ K.lent.heap + M.sp → Under Z (K.lent.heap + M.sp) → a + total K (types_of_pars fn.pars) ≤ K.lent.heap + M.sp + 8
      → Lays K L (hd M back1 res e1 e2 e3) a (types_of_pars fn.pars) vs → ArgSpots K L (awake Z s.roots) (hd M back1 res e1 e2 e3) a (types_of_pars fn.pars) vs
      → Rep K F P Z lo L s M → SteadyCalls K.lent q u (roots_in_dying Z.dying) Z.held (locs Z.flying) fn (list_of vs) s
      → Does K F P code (Gave Z (K.lent.heap + M.sp) (M.sp + frame q fn) s.under L s.roots (hd M back1 res e1 e2 e3) fn.ret) M (calls u K.lent q fn (list_of vs) s)

  module _ (cd : Coded) (u : ℕ) (IB : BodySim K F P Q code fns q dw u) where
    pub sim_calls : CallsSim (suc u)
    unfolding eval turn goes_under
    sim_calls f fn vs back1 res e1 e2 e3 a Z lo L s M ef lead hlt h1 un ha ly asp R st =
        let cf = cd f fn ef in let H : ℕ = K.lent.heap in let X : ℕ = H + M.sp in let r : ℕ = K.size fn.ret in let ts : List Ty = types_of_pars fn.pars in
        let Fr : ℕ = frame q fn in let efr = cf.words in
        let E1 : Mach = entered K code M back1 res e1 e2 e3 f r ts a in
        let hw : ℕ → ℕ = hd M back1 res e1 e2 e3 in
        let W : ℕ → ℕ = E1.words in
        let z0 : State = with_under (turned_state s) (s.under + Fr) in
        let t1 : ltb M.turns K.lent.max_turns ≡ ltb s.turns K.lent.max_turns = ap (λ i. ltb i K.lent.max_turns) R.turns in
        let t2 : leb (M.sp + K.frame f) K.lent.stack ≡ leb (s.under + Fr) K.lent.stack = ap (λ i. leb (i + K.frame f) K.lent.stack) R.sp ∙ ap (λ i. leb (s.under + i) K.lent.stack) efr in
        let low1 : (j : ℕ) → j < X → W j ≡ M.words j = λ j g. passed_under K F ts hw (X + (8 + r)) a j (omega arith) ∙ under_header M.words X back1 M.fb res M.full e1 e2 e3 j g in
        let c0 : Core K Z (X + (8 + r)) L s.roots (awake Z s.roots) W = core_wider K F (X + (8 + r)) (omega arith) (core_above K F P Q W X low1 h1 un R.core) in
        let sl : InSlots K L (awake Z s.roots) W (X + (8 + r)) ts (list_of vs) = passed_slots K F L (awake Z s.roots) ts vs hw (X + (8 + r)) a ly asp (omega arith) in
        does_choose K F P code (ltb s.turns K.lent.max_turns) _ _
        (λ p1. does_choose K F P code (leb (s.under + Fr) K.lent.stack) _ _
        (λ p2. back K F P code (lead E1 (choose_true (ltb M.turns K.lent.max_turns) _ _ (t1 ∙ p1) ∙ choose_true (leb (M.sp + K.frame f) K.lent.stack) _ _ (t2 ∙ p2)))
        (does_then K F P code (need z0 (names_in [] z0 (names_of fn.pars) (list_of vs)) (λ g. bodies u K.lent q g [] fn.does (roots_in z0 (list_of vs))))
        (does_need K F P code z0 (names_in [] z0 (names_of fn.pars) (list_of vs)) (λ g eg.
        let Bd = binds K F fns Z X (first_scope K fns r) (names_of fn.pars) ts (list_of vs) L z0 W [] g (omega arith) (λ f1 i. (let z1 = un f1 i in omega arith)) eg sl c0 in
        let eg2 : g ≡ Bd.ks ++ [] = Bd.names in
        let eh : env_roots Bd.ks ++ Z.held ≡ env_roots (Bd.ks ++ []) ++ Z.held = ap (λ (k : Env). env_roots k ++ Z.held) (sym (app_nil Bd.ks)) in
        let C2 : Sc = pars_scope K fns fn in
        let Z2 : Ctx = with_held (env_roots (Bd.ks ++ []) ++ Z.held) Z in
        let s2 : State = roots_in z0 (list_of vs) in
        let E2 : Mach = E1 in
        let rp : Rep K F P Z2 (X + C2.high) Bd.L2 s2 E1 = subst (λ (y : State). Rep K F P Z2 (X + C2.high) Bd.L2 y E1) (sym (roots_same z0 (list_of vs)))
        (record {
          core = subst (λ (hs : List ℕ). Core K (with_held hs Z) (X + C2.high) Bd.L2 s2.roots (awake Z s2.roots) W) eh Bd.core;
          pool = subst (λ (us : List Place). P M.pool W s.classes us) (sym Bd.same_boxes) (Q.same_words M.pool M.words W s.classes (boxes s.roots L) R.pool (λ j g1 g2. low1 j (omega arith)));
          sp = ap (λ i. i + K.frame f) R.sp ∙ ap (λ i. s.under + i) efr;
          turns = ap suc R.turns;
          ins = R.ins;
          outs = R.outs;
        }) in
        let e9 : M.sp + K.frame f ≡ M.sp + Fr = ap (λ i. M.sp + i) efr in
        let Y : Ready K F P Q code fns q dw Z2 X (M.sp + Fr) Fr C2 (Bd.ks ++ []) Bd.L2 E1 = record {
          base = record { mode = refl; fb = refl; sp = e9; full = e9 };
          names = subst (λ (sl1 : List Slot). Names Bd.L2 X sl1 (Bd.ks ++ [])) (sym Bd.slots) (Rattle.simulation.proofs.Scopes.names_on Bd.new Rattle.simulation.proofs.Relation.no_names);
          held = subst (λ (hs : List ℕ). AllHeld (Bd.ks ++ []) hs) eh (held_more Bd.ks [] Z.held tt);
          heap = omega arith;
          room = omega arith;
          under = λ f1 i. (let z1 = un f1 i in let le = Rattle.simulation.proofs.Scopes.stack_le K Bd.ls (8 + r) C2.high Bd.stack in omega arith);
        } in
        let gw : (r1 j : ℕ) → Owns K (awake Z s2.roots) Bd.L2 r1 j → Owns K (awake Z s.roots) L r1 j ⊎ (X + (8 + r) ≤ j) = Bd.grew in
        let low2 : (r1 j : ℕ) → Owns K (awake Z s.roots) L r1 j → j < X = λ r1 j o. (let lw = R.core.mem.low r1 j o in omega arith) in
        let ar : Area K F P Q code fns q dw X r (awake Z s2.roots) Bd.L2 = λ r1 j g1 g2 o. no_area Z L s r1 j X r low2 g1 g2 (gw r1 j o) in
        let wk : Work K F P Z.dying (X + 8) L (awake Z s.roots) hw Bd.L2 (awake Z s2.roots) W = record {
          ext = Bd.ext;
          kept = λ j k n1. passed_under K F ts hw (X + (8 + r)) a j (let lw = keep_low K Z.dying (X + 8) L s.roots (omega arith) R.core.dead j k in omega arith);
          grew = λ r1 j o. grew1 Z L s (X + 8) (X + (8 + r)) r1 j (omega arith) (λ k. keep_low K Z.dying (X + 8) L s.roots (omega arith) R.core.dead j k) (gw r1 j o);
        } in
        subst (λ (g1 : Env). Does K F P code (λ v y N. Gave Z X (M.sp + Fr) s.under L s.roots hw fn.ret v (with_under y s.under) N) E1 (bodies u K.lent q g1 [] fn.does s2)) (sym eg2)
        (does_as K F P code (IB fn.does C2 Bd.ls [] Bd.ks [] (8 + r) Z X (M.sp + Fr) Fr fn.ret (RETURN r ∷ cf.rest) Bd.L2 s2 E1 cf.fit Bd.slots Bd.new Bd.stack (omega arith) un ar Y cf.at cf.suf rp (subst (λ (g1 : Env). SteadyBody K.lent q u (roots_in_dying Z.dying) Z.held (locs Z.flying) g1 [] fn.does s2) eg2 (st g eg)))
        (λ v y N A. record { inner = y; is = refl; L2 = A.L2; rest = cf.rest; base = A.base; ctl = A.ctl; rep = A.rep; lay = A.lay; there = A.there; area = A.area; frame = work_on K F P (X + 8) (omega arith) wk (Rattle.simulation.proofs.Memory.frame_less K F (λ j k. k) (λ j k. keep_wide K Z.dying (X + 8) (X + (8 + r)) (omega arith) j k) A.frame) }))))
        (λ v y N ev A. by_ok N (λ x os r1. r1) A)))
        (λ p2. by_stop (subst (λ os. Runs K code M (stopped no_stack) os) R.outs (hlt (stopped no_stack) M.outs (choose_true (ltb M.turns K.lent.max_turns) _ _ (t1 ∙ p1) ∙ choose_false (leb (M.sp + K.frame f) K.lent.stack) _ _ (t2 ∙ p2))))))
        (λ p1. by_stop (subst (λ os. Runs K code M (stopped no_turns) os) R.outs (hlt (stopped no_turns) M.outs (choose_false (ltb M.turns K.lent.max_turns) _ _ (t1 ∙ p1)))))
      where
        no_area : (Z : Ctx) (L : List Pl) (s : State) (r1 j X r : ℕ) → ((r1 j : ℕ) → Owns K (awake Z s.roots) L r1 j → j < X) → X + 8 ≤ j → j < X + (8 + r) → Owns K (awake Z s.roots) L r1 j ⊎ (X + (8 + r) ≤ j) → ⊥
        no_area Z L s r1 j X r f g1 g2 (inl o) = let lw = f r1 j o in omega arith
        no_area Z L s r1 j X r f g1 g2 (inr o) = omega arith

        grew1 : (Z : Ctx) (L : List Pl) (s : State) (b1 b2 r1 j : ℕ) → b1 ≤ b2 → (Keep K Z.dying b1 j → j < b1) → Owns K (awake Z s.roots) L r1 j ⊎ (b2 ≤ j) → Owns K (awake Z s.roots) L r1 j ⊎ (Keep K Z.dying b1 j → ⊥)
        grew1 Z L s b1 b2 r1 j h f (inl o) = inl o
        grew1 Z L s b1 b2 r1 j h f (inr o) = inr (λ k. (let z = f k in omega arith))

  -- the bound comes down to what it was
  pub narrow : {Z : Ctx} {S1 : ℕ → Type 0} {b1 : ℕ} {L : List Pl} {rs2 : List Root} {ws : List Root} {w w2 : ℕ → ℕ} {L2 : List Pl} (lo X : ℕ) → K.lent.heap ≤ lo → ((r j : ℕ) → b1 ≤ j → j < X → Owns K (awake Z rs2) L2 r j → ⊥) → ((r j : ℕ) → Owns K ws L r j → j < lo) → Rattle.simulation.proofs.Memory.Frame K F S1 (Keep K Z.dying b1) L ws w L2 (awake Z rs2) w2 → Core K Z X L2 rs2 (awake Z rs2) w2 → Core K Z lo L2 rs2 (awake Z rs2) w2
  narrow {Z} {S1} {b1} {L} {rs2} {ws} {w} {w2} {L2} lo X h ar low f c = record { mem = record { long = c.mem.long; laid = c.mem.laid; apart = c.mem.apart; low = λ r j o. by r j o (f.grew r j o) (c.mem.low r j o) (Rattle.simulation.proofs.WordOps.le_or K.lent.heap j) (Rattle.simulation.proofs.WordOps.le_or b1 j) }; dead = c.dead; inside = c.inside; named = c.named; flown = c.flown; high = c.high; free = c.free }
    where
      by : (r j : ℕ) → Owns K (awake Z rs2) L2 r j → Owns K ws L r j ⊎ (Keep K Z.dying b1 j → ⊥) → j < X → (K.lent.heap ≤ j) ⊎ (j < K.lent.heap) → (b1 ≤ j) ⊎ (j < b1) → j < lo
      by r j o0 (inl o) g k k2 = low r j o
      by r j o0 (inr o) g (inl k) (inl k2) = absurd (ar r j k2 g o0)
      by r j o0 (inr o) g (inl k) (inr k2) = absurd (o (inl (k, k2)))
      by r j o0 (inr o) g (inr k) k2 = omega arith

  -- RETURN
  abbrev pub back_at : Mach → Mach → ℕ → ℕ → ℕ → Mach
  back_at M N back1 res z = record { ctl = from_end code back1; mode = running; words = copy N.words res (K.lent.heap + M.sp + 8) z; fb = M.fb; sp = M.sp; full = M.full; turns = N.turns; pool = N.pool; ins = N.ins; outs = N.outs }

  pub returned : (Z : Ctx) (lo k s1 back1 res e1 e2 e3 : ℕ) (L : List Pl) (rs : List Root) (t : Ty) (v : Value) (z : State) (M N : Mach) → lo ≤ K.lent.heap + M.sp → ((r j : ℕ) → Owns K (awake Z rs) L r j → j < lo) → Gave Z (K.lent.heap + M.sp) s1 k L rs (hd M back1 res e1 e2 e3) t v z N → Leads K code N (back_at M N back1 res (K.size t)) × Headed N.words (K.lent.heap + M.sp) back1 M.fb res M.full e1 e2 e3
  returned Z lo k s1 back1 res e1 e2 e3 L rs t v z M N h1 low A =
      let H : ℕ = K.lent.heap in let X : ℕ = H + M.sp in let zz : ℕ = K.size t in
      let hh = headed M.words X back1 M.fb res M.full e1 e2 e3 in
      let kp : (j : ℕ) → X ≤ j → j < X + 8 → N.words j ≡ hd M back1 res e1 e2 e3 j = λ j g1 g2. A.frame.kept j (inl (omega arith, omega arith)) (λ r o. (let lw = low r j o in omega arith)) in
      let k0 = kp X (omega arith) (omega arith) ∙ hh.h0 in let k1 = kp (X + 1) (omega arith) (omega arith) ∙ hh.h1 in let k2 = kp (X + 2) (omega arith) (omega arith) ∙ hh.h2 in let k3 = kp (X + 3) (omega arith) (omega arith) ∙ hh.h3 in
      let esp : X - H ≡ M.sp = omega arith in (
        lead_one {N = back_at M N back1 res zz} (RETURN zz) A.rest A.base.mode A.ctl
            (ap (λ i. go (record { ctl = from_end code (N.words i); mode = running; words = copy N.words (N.words (i + 2)) (i + 8) zz; fb = N.words (i + 1); sp = i - H; full = N.words (i + 3); turns = N.turns; pool = N.pool; ins = N.ins; outs = N.outs })) A.base.fb
            ∙ (ap (λ i. go (record { ctl = from_end code i; mode = running; words = copy N.words (N.words (X + 2)) (X + 8) zz; fb = N.words (X + 1); sp = X - H; full = N.words (X + 3); turns = N.turns; pool = N.pool; ins = N.ins; outs = N.outs })) k0
            ∙ (ap (λ i. go (record { ctl = from_end code back1; mode = running; words = copy N.words i (X + 8) zz; fb = N.words (X + 1); sp = X - H; full = N.words (X + 3); turns = N.turns; pool = N.pool; ins = N.ins; outs = N.outs })) k2
            ∙ (ap (λ i. go (record { ctl = from_end code back1; mode = running; words = copy N.words res (X + 8) zz; fb = i; sp = X - H; full = N.words (X + 3); turns = N.turns; pool = N.pool; ins = N.ins; outs = N.outs })) k1
            ∙ (ap (λ i. go (record { ctl = from_end code back1; mode = running; words = copy N.words res (X + 8) zz; fb = M.fb; sp = i; full = N.words (X + 3); turns = N.turns; pool = N.pool; ins = N.ins; outs = N.outs })) esp
            ∙ ap (λ i. go (record { ctl = from_end code back1; mode = running; words = copy N.words res (X + 8) zz; fb = M.fb; sp = M.sp; full = i; turns = N.turns; pool = N.pool; ins = N.ins; outs = N.outs })) k3))))),
        record { h0 = k0; h1 = k1; h2 = k2; h3 = k3; h4 = kp (X + 4) (omega arith) (omega arith) ∙ hh.h4; h5 = kp (X + 5) (omega arith) (omega arith) ∙ hh.h5; h6 = kp (X + 6) (omega arith) (omega arith) ∙ hh.h6 },
      )

  total_high : (G : List Slot) (es : Exprs) → total K (types_of K F P Q code fns q dw G es) ≤ high_es K fns G es
  total_high G nil_e = omega arith
  total_high G (cons_e e es) = let h = total_high G es in omega arith

  module _ (cd : Coded) (u : ℕ) (IS : EvalsSim K F P Q code fns q dw u) (IC : CallsSim u) where
    pub sim_call : (f : Lexeme) (es : Exprs) (G : List Slot) (g : Env) (Z : Ctx) (fb sp lo h : ℕ) (is : List Instr) (L : List Pl) (s : State) (M : Mach) → FitE K F P Q code fns q dw G (call f es) → M.ctl ≡ code_e K fns G h (call f es) is → Suf K fns (code_e K fns G h (call f es) is) code → Stand K F P Q code fns q dw Z fb sp lo h G g L M → fb + (h + high_e K fns G (call f es)) ≤ K.lent.heap + sp → Rep K F P Z lo L s M → SteadyE K.lent q (suc u) (roots_in_dying Z.dying) Z.held (locs Z.flying) g (call f es) s → Does K F P code (After K F P Q code fns q dw Z fb sp lo h L s.roots M.words (type_e K fns G (call f es)) is) M (eval (suc u) K.lent q g (call f es) s)
    unfolding eval
    sim_call f es G g Z fb sp lo h is L s M ft ec sf S rm R st =
        let h1 = S.heap in let h2 = S.here in let h0 = S.low in
        let y : Entry = ft.1.0 in let ey = ft.1.1.0 in
        let js : List Instr = from_option (fns f) STUCK (λ y1. CALL h f y1.pars (K.size y1.ret)) ∷ is in
        let sfi : Suf K fns is code = suf_trans K fns (suf_trans K fns (later same1) (suf_es K fns es G h js)) sf in
        does_then K F P code (evals u K.lent q g es nil_v s) (IS es nil_v G g Z fb sp lo h js L s M ft.0 ec sf S (omega arith) R st.0) (λ us t N ev A.
        does_need K F P code t (fn_named q.funs f) (λ fn ef. enter f es G g Z fb sp lo h is L s M ft S rm sfi us t N A fn ef (st.1 us t ev fn ef)))
      where
        enter : (f : Lexeme) (es : Exprs) (G : List Slot) (g : Env) (Z : Ctx) (fb sp lo h : ℕ) (is : List Instr) (L : List Pl) (s : State) (M : Mach) → FitE K F P Q code fns q dw G (call f es) → Stand K F P Q code fns q dw Z fb sp lo h G g L M → fb + (h + high_e K fns G (call f es)) ≤ K.lent.heap + sp → Suf K fns is code → (us : Values) (t : State) (N : Mach) → AfterEs K F P Q code fns q dw Z fb sp lo h L s.roots M.words (types_of K F P Q code fns q dw G es) nil_v (from_option (fns f) STUCK (λ y1. CALL h f y1.pars (K.size y1.ret)) ∷ is) us t N → (fn : Fn) → fn_named q.funs f ≡ some fn → SteadyCalls K.lent q u (roots_in_dying Z.dying) Z.held (locs Z.flying) fn (list_of us) t → Does K F P code (After K F P Q code fns q dw Z fb sp lo h L s.roots M.words (type_e K fns G (call f es)) is) N (calls u K.lent q fn (list_of us) t)
        enter f es G g Z fb sp lo h is L s M ft S rm sfi us t N A fn ef st1 =
            let h1 = S.heap in let h2 = S.here in let h0 = S.low in
            let H : ℕ = K.lent.heap in let X : ℕ = H + N.sp in let bs = A.base.sp in let bf = A.base.fb in
            let cf = cd f fn ef in let r : ℕ = K.size fn.ret in let ts : List Ty = types_of_pars fn.pars in
            let ty : type_e K fns G (call f es) ≡ fn.ret = ap (λ (o : Option Entry). from_option o int (λ y1. y1.ret)) cf.sig in
            let et : types_of K F P Q code fns q dw G es ≡ ts = ft.1.1.1 ∙ ap (λ (k : Entry). k.pars) (some_is (sym ft.1.1.0 ∙ cf.sig)) in
            let th = total_high G es in
            let ett : total K (types_of K F P Q code fns q dw G es) ≡ total K ts = ap (total K) et in
            let esz : K.size (type_e K fns G (call f es)) ≡ r = ap K.size ty in
            let ec2 : N.ctl ≡ CALL h f ts r ∷ is = A.ctl ∙ ap (λ (o : Option Entry). from_option o STUCK (λ y1. CALL h f y1.pars (K.size y1.ret)) ∷ is) cf.sig in
            let R0 : Rep K F P Z lo A.L2 t N = record { core = core_less K F Z.held Z.flying (λ r1 i1. i1) (λ f1 i1. has_flies K (fb + h) (types_of K F P Q code fns q dw G es) A.new Z.flying f1 i1) A.rep.core; pool = A.rep.pool; sp = A.rep.sp; turns = A.rep.turns; ins = A.rep.ins; outs = A.rep.outs } in
            let hw : ℕ → ℕ = hd N (length is) (N.fb + h) 0 0 0 in
            let uh : (j : ℕ) → j < X → hw j ≡ N.words j = λ j k. under_header N.words X (length is) N.fb (N.fb + h) N.full 0 0 0 j k in
            let ly0 : Lays K A.L2 N.words (N.fb + h) ts us = subst (λ (x : Values). Lays K A.L2 N.words (N.fb + h) ts x) (sym A.all) (subst (λ (x : List Ty). Lays K A.L2 N.words (N.fb + h) x A.new) et (subst (λ (x : ℕ). Lays K A.L2 N.words (x + h) (types_of K F P Q code fns q dw G es) A.new) (sym bf) A.lays)) in
            let ly1 : Lays K A.L2 hw (N.fb + h) ts us = copied_all K F A.L2 N.words hw (N.fb + h) (N.fb + h) ts us ly0 (λ i k. uh ((N.fb + h) + i) (omega arith)) in
            let as0 : ArgSpots K A.L2 (awake Z t.roots) N.words (N.fb + h) ts us = subst (λ (x : Values). ArgSpots K A.L2 (awake Z t.roots) N.words (N.fb + h) ts x) (sym A.all) (subst (λ (x : List Ty). ArgSpots K A.L2 (awake Z t.roots) N.words (N.fb + h) x A.new) et (subst (λ (x : ℕ). ArgSpots K A.L2 (awake Z t.roots) N.words (x + h) (types_of K F P Q code fns q dw G es) A.new) (sym bf) (flies_spots K F Z lo A.L2 t.roots (awake Z t.roots) N.words (fb + h) (types_of K F P Q code fns q dw G es) A.new Z.flying A.rep.core))) in
            let as1 : ArgSpots K A.L2 (awake Z t.roots) hw (N.fb + h) ts us = spots_words K F A.L2 (awake Z t.roots) N.words hw (N.fb + h) ts us (λ j k1 k2. uh j (omega arith)) as0 in
            let low0 : (r1 j : ℕ) → Owns K (awake Z t.roots) A.L2 r1 j → j < lo = R0.core.mem.low in
            does_more1 (IC f fn us (length is) (N.fb + h) 0 0 0 (N.fb + h) Z lo A.L2 t N ef (λ O e. lead_one (CALL h f ts r) is A.base.mode ec2 e) (λ x os e. halt_one (CALL h f ts r) is A.base.mode ec2 e) (omega arith) (λ f1 i1. (let z1 = S.under f1 i1 in omega arith)) (omega arith) ly1 as1 R0 st1)
            (λ v z O G1.
            let rt = returned Z lo t.under (N.sp + frame q fn) (length is) (N.fb + h) 0 0 0 A.L2 t.roots fn.ret v z N O (omega arith) low0 G1 in
            let W : ℕ → ℕ = copy O.words (N.fb + h) (X + 8) r in
            let sw = F.some_word fn.ret in
            let c0 : Core K Z (X + (8 + r)) G1.L2 G1.inner.roots (awake Z G1.inner.roots) O.words = core_unfly K F (X + 8) fn.ret v G1.rep.core in
            let c1 : Core K Z lo G1.L2 G1.inner.roots (awake Z G1.inner.roots) O.words = narrow lo (X + (8 + r)) (omega arith) (λ r1 j k1 k2 o. G1.area r1 j k1 k2 o) low0 G1.frame c0 in
            let below : (j : ℕ) → j < fb + h → W j ≡ O.words j = λ j k. copy_under O.words (N.fb + h) (X + 8) r j (omega arith) in
            let c2 : Core K Z lo G1.L2 G1.inner.roots (awake Z G1.inner.roots) W = core_above K F P Q W (fb + h) below h2 S.under c1 in
            let w8 : W (fb + h) ≡ O.words (X + 8) = (let q1 : fb + h ≡ (N.fb + h) + 0 = omega arith in let q2 : (X + 8) + 0 ≡ X + 8 = omega arith in ap W q1 ∙ (copy_in O.words (N.fb + h) (X + 8) r 0 (omega arith) ∙ ap O.words q2)) in
            let c3 : Core K (with_flying (fly (fb + h) fn.ret v Z.flying) Z) lo G1.L2 G1.inner.roots (awake Z G1.inner.roots) W = core_fly K F (fb + h) fn.ret v (omega arith) (λ r1 o. (let lw = c2.mem.low r1 (fb + h) o in omega arith))
            (λ l u1 q1 rf. spot_word K F G1.L2 (awake Z G1.inner.roots) l (O.words (X + 8)) (W (fb + h)) u1 w8 (fly_spot K F Z (X + (8 + r)) G1.L2 G1.inner.roots (awake Z G1.inner.roots) O.words (X + 8) fn.ret v G1.rep.core l u1 q1 rf)) c2 in
            let O2 : Mach = back_at N O (length is) (N.fb + h) r in
            let rs0 = R0.sp in
            let fr : Work K F P Z.dying (fb + h) A.L2 (awake Z t.roots) N.words G1.L2 (awake Z G1.inner.roots) W = work_on K F P (fb + h) (omega arith) (Rattle.simulation.proofs.Memory.frame_words K F (Keep K Z.dying (fb + h)) (Keep K Z.dying (fb + h)) A.L2 (awake Z t.roots) N.words hw (λ j k n1. uh j (let lw = keep_low K Z.dying (fb + h) A.L2 t.roots (omega arith) R0.core.dead j k in omega arith)))
            (work_on K F P (fb + h) (omega arith) (work_lower K F P (omega arith) G1.frame) (Rattle.simulation.proofs.Memory.frame_words K F (Keep K Z.dying (fb + h)) (Keep K Z.dying (fb + h)) G1.L2 (awake Z G1.inner.roots) O.words W (λ j k n1. below j (keep_low K Z.dying (fb + h) G1.L2 G1.inner.roots (omega arith) c0.dead j k)))) in (
              O2,
              (
                rt.0,
                subst (λ (t1 : Ty). After K F P Q code fns q dw Z fb sp lo h L s.roots M.words t1 is v z O2) (sym ty)
                    (subst (λ (z1 : State). After K F P Q code fns q dw Z fb sp lo h L s.roots M.words fn.ret is v z1 O2) (sym G1.is)
                    (after_on K F P Q code fns q dw A.frame (record {
                      L2 = G1.L2;
                      base = record { mode = refl; fb = bf; sp = bs; full = A.base.full };
                      ctl = jump sfi;
                      there = G1.there;
                      rep = record { core = c3; pool = Q.same_words O.pool O.words W G1.inner.classes (boxes G1.inner.roots G1.L2) G1.rep.pool (λ j k1 k2. below j (omega arith)); sp = rs0; turns = G1.rep.turns; ins = G1.rep.ins; outs = G1.rep.outs };
                      lay = copied K F G1.L2 O.words W (X + 8) (fb + h) fn.ret v G1.lay (λ i k. (let q1 : (fb + h) + i ≡ (N.fb + h) + i = omega arith in ap W q1 ∙ copy_in O.words (N.fb + h) (X + 8) r i k));
                      frame = fr;
                    }))),
              ),
            ))
          where
            does_more1 : {A1 : Type 0} {Q1 R1 : A1 → State → Mach → Type 0} {M1 : Mach} {r1 : Res A1} → Does K F P code Q1 M1 r1 → ((a1 : A1) (t1 : State) (N1 : Mach) → Q1 a1 t1 N1 → (O1 : Mach) × (Leads K code N1 O1 × R1 a1 t1 O1)) → Does K F P code R1 M1 r1
            does_more1 d f1 = Rattle.simulation.proofs.Relation.does_more K F P code d f1
