-- Bodies and what they give: the value goes to the frame's result area, then the names end.
use mathlib.Core.Path.{◌≡◌, refl, sym, ap, subst, ◌∙◌}
use mathlib.Core.Bool.{Bool, true, false}
use mathlib.Core.List.{List, [], ◌∷◌, ◌++◌, append_assoc}
use mathlib.Core.Option.{Option, some}
use mathlib.Core.Logic.{inl}
use Prim.Native.Nat.{ℕ, suc, ◌+◌, ◌≤◌, ◌<◌}
use native.Mathlib.Omega.{arith}
use lib.ListN.{length}
use lib.Dec.{eqb}
use Rattle.language.specs.Base.{Lexeme, choose}
use Rattle.language.specs.Syntax.{Ty, dat, Expr, Access, Body, body, Tail, give, give_cond, Arms, Prog}
use Rattle.language.specs.Meaning.{Loc, Value, con_v, Values, Root, Class, State, Env, newer, words_of, num_of, eval, execs, ends, bodies, tails}
use Rattle.simulation.proofs.Machine.{Kit, Info, Place, Pools, Instr, JZ, JMP, RESULT, Mach, go, copy, sets, from_end, lead_one}
use Rattle.simulation.proofs.Lowering.{Slot, Sc, Entry, type_e, after_ss, code_ends, newer_slots, code_body, code_tail, Suf, same1, later, suf_trans, suf_e, suf_ss, suf_body, suf_tail}
use Rattle.simulation.proofs.Memory.{no_some, some_is, Pl, Lay, Fits, Ext, Live, flag_of, Refers, Owns, Mem, copied, Frame, frame_words, frame_free, frame_less, frame_on}
use Rattle.simulation.proofs.Boxes.{boxes}
use Rattle.simulation.proofs.WordOps.{copy_in, copy_off}
use Rattle.simulation.proofs.Pointers.{spot_word}
use Rattle.simulation.proofs.Context.{Dying, Ctx, has_front, roots_in_dying, locs, awake, with_held, with_flying, fly, fly_spot, Core, core_less, core_words, core_fly, core_unfly}
use Rattle.simulation.specs.Borrows.{env_roots, add_loc, SteadyBody, SteadyTail, SteadyEnds}
use Rattle.simulation.proofs.Relation.{Pooling, Names, names_ext, Keep, keep_low, keep_wide, Work, work_none, work_on, work_lower, Rep, Does, by_ok, by_stop, back, does_then, does_need, does_as, does_more}
use Rattle.simulation.proofs.Scopes.{Stack, stack_on, stack_le, names_on, newer_on, newer_slots_on, jump, roots_on}
use Rattle.simulation.proofs.Stand.{Base, Under, rep_ctl, rep_unfly, base_set, EvalSim}
use Rattle.simulation.proofs.Arguments.{fly_locs, fly_under}
use Rattle.simulation.proofs.Statements.{AfterEnd, Ready, ExecsSim, EndsSim, stand, jumps, test_zero, int_word}
use Rattle.simulation.proofs.Flow.{ready_on}

module _ (K : Kit) (F : Fits K) (P : Pools → (ℕ → ℕ) → List Class → List Place → Type 0) (Q : Pooling K P) (code : List Instr) (fns : Lexeme → Option Entry) (q : Prog) (dw : (k : Lexeme) (vs : Values) (i : Info) → K.info k ≡ some i → words_of q (con_v k vs) ≡ K.size (dat i.home)) where
  abbrev pub FitBody : ℕ → Ty → Sc → Body → Type 0
  FitBody room t C d = Rattle.simulation.specs.Fitting.FitBody K fns room t C d

  abbrev pub FitTail : ℕ → Ty → Sc → Tail → Type 0
  FitTail room t C x = Rattle.simulation.specs.Fitting.FitTail K fns room t C x

  abbrev pub FitArms : ℕ → Ty → Sc → Access → Lexeme → Arms → Type 0
  FitArms room t C w d as₁ = Rattle.simulation.specs.Fitting.FitArms K fns room t C w d as₁

  -- nobody owns a word of the result area
  abbrev pub Area : ℕ → ℕ → List Root → List Pl → Type 0
  Area fb z ws L = (r j : ℕ) → fb + 8 ≤ j → j < fb + (8 + z) → Owns K ws L r j → ⊥

  -- the result area is written; what's owned is owned from lo on
  abbrev pub Giving : List Dying → ℕ → ℕ → List Pl → List Root → (ℕ → ℕ) → List Pl → List Root → (ℕ → ℕ) → Type 0
  Giving D fb lo L ws w L2 ws2 w2 = Frame K F (Keep K D (fb + 8)) (Keep K D (fb + lo)) L ws w L2 ws2 w2

  pub giving_of : {D : List Dying} {b1 : ℕ} {L : List Pl} {ws : List Root} {w : ℕ → ℕ} {L2 : List Pl} {ws2 : List Root} {w2 : ℕ → ℕ} (fb lo : ℕ) → fb + 8 ≤ b1 → fb + lo ≤ b1 → Work K F P D b1 L ws w L2 ws2 w2 → Giving D fb lo L ws w L2 ws2 w2
  giving_of {D} {b1} fb lo h1 h2 f = frame_less K F (λ j k. keep_wide K D (fb + 8) b1 h1 j k) (λ j k. keep_wide K D (fb + lo) b1 h2 j k) f

  pub giving_less : {D : List Dying} {L : List Pl} {ws : List Root} {w : ℕ → ℕ} {L2 : List Pl} {ws2 : List Root} {w2 : ℕ → ℕ} (fb lo hi : ℕ) → fb + lo ≤ fb + hi → Giving D fb hi L ws w L2 ws2 w2 → Giving D fb lo L ws w L2 ws2 w2
  giving_less {D} fb lo hi h f = frame_less K F (λ j k. k) (λ j k. keep_wide K D (fb + lo) (fb + hi) h j k) f

  pub giving_on : {D : List Dying} {L : List Pl} {ws : List Root} {w : ℕ → ℕ} {L2 : List Pl} {ws2 : List Root} {w2 : ℕ → ℕ} {L3 : List Pl} {ws3 : List Root} {w3 : ℕ → ℕ} (fb lo : ℕ) → 8 ≤ lo → Giving D fb lo L ws w L2 ws2 w2 → Giving D fb lo L2 ws2 w2 L3 ws3 w3 → Giving D fb lo L ws w L3 ws3 w3
  giving_on {D} fb lo h f g = frame_on K F (λ j k. keep_wide K D (fb + 8) (fb + lo) (omega arith) j k) f g

  pub record Given1 (Z : Ctx) (f1 s1 lo : ℕ) (L : List Pl) (rs : List Root) (w : ℕ → ℕ) (t : Ty) (is : List Instr) (v : Value) (z : State) (N : Mach) : Type 0 where
    pub L2 : List Pl
    pub base : Base N f1 s1
    pub ctl : N.ctl ≡ is
    pub rep : Rep K F P (with_flying (fly (f1 + 8) t v Z.flying) Z) (f1 + lo) L2 z N
    pub lay : Lay K L2 N.words (f1 + 8) t v
    pub there : flag_of v ≡ 1
    pub area : Area f1 (K.size t) (awake Z z.roots) L2
    pub frame : Giving Z.dying f1 lo L (awake Z rs) w L2 (awake Z z.roots) N.words

  -- Z is without the frame's names: behind what is given they are of no use
  abbrev pub BodySim : ℕ → Type 0
  BodySim u = (d : Body) (C : Sc) (ls D1 : List Slot) (ks h : Env) (lo : ℕ) (Z : Ctx) (fb sp room : ℕ) (t : Ty) (is : List Instr) (L : List Pl) (s : State) (M : Mach) → FitBody room t C d → C.names ≡ ls ++ D1 → Names L fb ls ks → Stack K lo ls C.high → 8 + K.size t ≤ lo → Under Z fb → Area fb (K.size t) (awake Z s.roots) L → Ready K F P Q code fns q dw (with_held (env_roots (ks ++ h) ++ Z.held) Z) fb sp room C (ks ++ h) L M → M.ctl ≡ code_body K fns D1 (K.size t) C d is → Suf K fns (code_body K fns D1 (K.size t) C d is) code → Rep K F P (with_held (env_roots (ks ++ h) ++ Z.held) Z) (fb + C.high) L s M → SteadyBody K.lent q u (roots_in_dying Z.dying) Z.held (locs Z.flying) (ks ++ h) h d s → Does K F P code (Given1 Z fb sp lo L s.roots M.words t is) M (bodies u K.lent q (ks ++ h) h d s)

  abbrev pub TailSim : ℕ → Type 0
  TailSim u = (x : Tail) (C : Sc) (g : Env) (Z : Ctx) (fb sp room : ℕ) (t : Ty) (is : List Instr) (L : List Pl) (s : State) (M : Mach) → FitTail room t C x → 8 + K.size t ≤ C.high → Under Z fb → Area fb (K.size t) (awake Z s.roots) L → Ready K F P Q code fns q dw (with_held (env_roots g ++ Z.held) Z) fb sp room C g L M → M.ctl ≡ code_tail K fns (K.size t) C x is → Suf K fns (code_tail K fns (K.size t) C x is) code → Rep K F P (with_held (env_roots g ++ Z.held) Z) (fb + C.high) L s M → SteadyTail K.lent q u (roots_in_dying Z.dying) Z.held (locs Z.flying) g x s → Does K F P code (Given1 Z fb sp C.high L s.roots M.words t is) M (tails u K.lent q g x s)

  -- what the area was, it is: nobody new owns a word below
  pub area_on : {D : List Dying} {b1 : ℕ} {L : List Pl} {ws : List Root} {w : ℕ → ℕ} {L2 : List Pl} {ws2 : List Root} {w2 : ℕ → ℕ} (fb z : ℕ) → K.lent.heap ≤ fb → fb + (8 + z) ≤ b1 → Work K F P D b1 L ws w L2 ws2 w2 → Area fb z ws L → Area fb z ws2 L2
  area_on fb z h1 h2 f a r j g1 g2 o = frame_free K F f j (inl (omega arith, omega arith)) (λ r1 o1. a r1 j g1 g2 o1) r o

  pub given_on : {Z : Ctx} {fb sp lo : ℕ} {L : List Pl} {rs : List Root} {w : ℕ → ℕ} {L1 : List Pl} {rs1 : List Root} {w1 : ℕ → ℕ} {t : Ty} {is : List Instr} {v : Value} {z : State} {N : Mach} (b1 : ℕ) → 8 ≤ lo → fb + lo ≤ b1 → Work K F P Z.dying b1 L (awake Z rs) w L1 (awake Z rs1) w1 → Given1 Z fb sp lo L1 rs1 w1 t is v z N → Given1 Z fb sp lo L rs w t is v z N
  given_on {Z} {fb} {lo = lo} b1 h8 h f A = record { L2 = A.L2; base = A.base; ctl = A.ctl; rep = A.rep; lay = A.lay; there = A.there; area = A.area; frame = giving_on fb lo h8 (giving_of fb lo (omega arith) h f) A.frame }

  pub given_ctl : {Z : Ctx} {fb sp lo : ℕ} {L : List Pl} {rs : List Root} {w : ℕ → ℕ} {t : Ty} {js : List Instr} {v : Value} {z : State} {N : Mach} (is : List Instr) → Given1 Z fb sp lo L rs w t js v z N → Given1 Z fb sp lo L rs w t is v z (sets N is N.words)
  given_ctl is A = record { L2 = A.L2; base = base_set K F P Q is _ A.base; ctl = refl; rep = rep_ctl K F P Q is A.rep; lay = A.lay; there = A.there; area = A.area; frame = A.frame }

  module _ (u : ℕ) (IE : EvalSim K F P Q code fns q dw u) (IB : BodySim u) where
    pub sim_give : (e : Expr) (C : Sc) (g : Env) (Z : Ctx) (fb sp room : ℕ) (t : Ty) (is : List Instr) (L : List Pl) (s : State) (M : Mach) → FitTail room t C (give e) → 8 + K.size t ≤ C.high → Under Z fb → Area fb (K.size t) (awake Z s.roots) L → Ready K F P Q code fns q dw (with_held (env_roots g ++ Z.held) Z) fb sp room C g L M → M.ctl ≡ code_tail K fns (K.size t) C (give e) is → Suf K fns (code_tail K fns (K.size t) C (give e) is) code → Rep K F P (with_held (env_roots g ++ Z.held) Z) (fb + C.high) L s M → SteadyTail K.lent q (suc u) (roots_in_dying Z.dying) Z.held (locs Z.flying) g (give e) s → Does K F P code (Given1 Z fb sp C.high L s.roots M.words t is) M (tails (suc u) K.lent q g (give e) s)
    unfolding eval
    sim_give e C g Z fb sp room t is L s M ft h8 un ar Y ec sf R st =
        let h0 : ℕ = C.high in let ty : Ty = type_e K fns C.names e in let ft0 = ft.0 in let rm = Y.room in let hp = Y.heap in
        let z : ℕ = K.size t in let sw = F.some_word t in
        let Z1 : Ctx = with_held (env_roots g ++ Z.held) Z in
        does_more K F P code (IE e C.names g Z1 fb sp (fb + h0) h0 (RESULT h0 z ∷ is) L s M ft.1 ec sf (stand K F P Q code fns q dw h0 (omega arith) Y) (omega arith) R st) (λ v y N A.
        let W : ℕ → ℕ = copy N.words (fb + 8) (fb + h0) z in
        let ar2 : Area fb z (awake Z y.roots) A.L2 = area_on fb z hp (omega arith) A.frame ar in
        let out : (j : ℕ) → (fb + 8 ≤ j → j < fb + (8 + z) → ⊥) → W j ≡ N.words j = λ j k. copy_off N.words (fb + 8) (fb + h0) z j (λ g1 g2. k g1 (omega arith)) in
        let lay0 : Lay K A.L2 N.words (fb + h0) t v = subst (λ (t1 : Ty). Lay K A.L2 N.words (fb + h0) t1 v) ft.2 A.lay in
        let c0 : Core K Z (fb + h0) A.L2 y.roots (awake Z y.roots) N.words = core_less K F Z.held Z.flying (λ r i. has_front (env_roots g) i) (λ f i. i) (core_unfly K F (fb + h0) ty v A.rep.core) in
        let c1 : Core K Z (fb + h0) A.L2 y.roots (awake Z y.roots) W = core_words K F W (λ r j o. out j (λ g1 g2. ar2 r j g1 g2 o)) (λ f i. out f.at (λ g1 g2. (let z1 = un f i in omega arith))) c0 in
        let w8 : W (fb + 8) ≡ N.words (fb + h0) = (let e1 : fb + 8 ≡ (fb + 8) + 0 = omega arith in let e2 : (fb + h0) + 0 ≡ fb + h0 = omega arith in ap W e1 ∙ (copy_in N.words (fb + 8) (fb + h0) z 0 (omega arith) ∙ ap N.words e2)) in
        let c2 : Core K (with_flying (fly (fb + 8) t v Z.flying) Z) (fb + h0) A.L2 y.roots (awake Z y.roots) W = core_fly K F (fb + 8) t v (omega arith) (λ r o. ar2 r (fb + 8) (omega arith) (omega arith) o)
        (λ l u1 e1 rf. spot_word K F A.L2 (awake Z y.roots) l (N.words (fb + h0)) (W (fb + 8)) u1 w8 (fly_spot K F Z1 (fb + h0) A.L2 y.roots (awake Z y.roots) N.words (fb + h0) ty v A.rep.core l u1 e1 (subst (λ (t1 : Ty). Refers t1 u1) (sym ft.2) rf))) c1 in (
          sets N is W,
          (
            lead_one (RESULT h0 z) is A.base.mode A.ctl (ap (λ i. go (sets N is (copy N.words (i + 8) (i + h0) z))) A.base.fb),
            record {
              L2 = A.L2;
              base = base_set K F P Q is W A.base;
              ctl = refl;
              there = A.there;
              area = ar2;
              rep = record { core = c2; pool = Q.same_words N.pool N.words W y.classes (boxes y.roots A.L2) A.rep.pool (λ j g1 g2. out j (λ g3 g4. omega arith)); sp = A.rep.sp; turns = A.rep.turns; ins = A.rep.ins; outs = A.rep.outs };
              lay = copied K F A.L2 N.words W (fb + h0) (fb + 8) t v lay0 (λ i k. copy_in N.words (fb + 8) (fb + h0) z i k);
              frame = giving_on fb h0 (omega arith) (giving_of fb h0 (omega arith) (omega arith) A.frame) (frame_words K F (Keep K Z.dying (fb + 8)) (Keep K Z.dying (fb + h0)) A.L2 (awake Z y.roots) N.words W (λ j k n1. out j (λ g1 g2. (let lw = keep_low K Z.dying (fb + 8) A.L2 y.roots (omega arith) c0.dead j k in omega arith))));
            },
          ),
        ))

    pub sim_give_cond : (e : Expr) (a d : Body) (C : Sc) (g : Env) (Z : Ctx) (fb sp room : ℕ) (t : Ty) (is : List Instr) (L : List Pl) (s : State) (M : Mach) → FitTail room t C (give_cond e a d) → 8 + K.size t ≤ C.high → Under Z fb → Area fb (K.size t) (awake Z s.roots) L → Ready K F P Q code fns q dw (with_held (env_roots g ++ Z.held) Z) fb sp room C g L M → M.ctl ≡ code_tail K fns (K.size t) C (give_cond e a d) is → Suf K fns (code_tail K fns (K.size t) C (give_cond e a d) is) code → Rep K F P (with_held (env_roots g ++ Z.held) Z) (fb + C.high) L s M → SteadyTail K.lent q (suc u) (roots_in_dying Z.dying) Z.held (locs Z.flying) g (give_cond e a d) s → Does K F P code (Given1 Z fb sp C.high L s.roots M.words t is) M (tails (suc u) K.lent q g (give_cond e a d) s)
    unfolding eval
    sim_give_cond e a d C g Z fb sp room t is L s M ft h8 un ar Y ec sf R st =
        let h0 : ℕ = C.high in let ty : Ty = type_e K fns C.names e in let ft0 = ft.0 in let rm = Y.room in let hp = Y.heap in let z : ℕ = K.size t in
        let Z1 : Ctx = with_held (env_roots g ++ Z.held) Z in
        let other : List Instr = code_body K fns C.names z C d is in
        let one : List Instr = code_body K fns C.names z C a (JMP (length is) ∷ other) in
        let sf1 : Suf K fns (JZ h0 (length other) ∷ one) code = suf_trans K fns (suf_e K fns e C.names h0 (JZ h0 (length other) ∷ one)) sf in
        let sf2 : Suf K fns one code = suf_trans K fns (later same1) sf1 in
        let sf3 : Suf K fns (JMP (length is) ∷ other) code = suf_trans K fns (suf_body K fns a C.names z C (JMP (length is) ∷ other)) sf2 in
        let sf4 : Suf K fns other code = suf_trans K fns (later same1) sf3 in
        let sf5 : Suf K fns is code = suf_trans K fns (suf_body K fns d C.names z C is) sf4 in
        does_then K F P code (eval u K.lent q g e s) (IE e C.names g Z1 fb sp (fb + h0) h0 (JZ h0 (length other) ∷ one) L s M ft.1 ec sf (stand K F P Q code fns q dw h0 (omega arith) Y) (omega arith) R st.0) (λ v y N ev A.
        does_need K F P code y (num_of v) (λ k ek.
        let wk = int_word K F P Q code fns q dw A.L2 N.words (fb + h0) ty v k A.lay ek in
        let R1 = rep_unfly K F P Q Z1 (fb + h0) ty v A.rep in
        let ar2 : Area fb z (awake Z y.roots) A.L2 = area_on fb z hp (omega arith) A.frame ar in
        let Y2 : (js : List Instr) → Ready K F P Q code fns q dw Z1 fb sp room C g A.L2 (sets N js N.words) = λ js. record { base = base_set K F P Q js N.words A.base; names = names_ext A.frame.ext Y.names; held = Y.held; heap = hp; room = rm; under = Y.under } in
        back K F P code (test_zero K F P Q code fns q dw k N fb h0 (length other) one other A.base.mode A.base.fb A.ctl wk.0 (jump sf4))
        (does_as K F P code (two (eqb k 0) A.L2 y N ar2 Y2 R1 sf2 sf4 (jump sf5) (st.1 v y ev k ek)) (λ v2 z2 O A2. given_on (fb + h0) (omega arith) (omega arith) A.frame A2))))
      where
        two : (b1 : Bool) (L2 : List Pl) (y : State) (N : Mach) → Area fb (K.size t) (awake Z y.roots) L2 → ((js : List Instr) → Ready K F P Q code fns q dw (with_held (env_roots g ++ Z.held) Z) fb sp room C g L2 (sets N js N.words)) → Rep K F P (with_held (env_roots g ++ Z.held) Z) (fb + C.high) L2 y N → Suf K fns (code_body K fns C.names (K.size t) C a (JMP (length is) ∷ code_body K fns C.names (K.size t) C d is)) code → Suf K fns (code_body K fns C.names (K.size t) C d is) code → from_end code (length is) ≡ is
            → SteadyBody K.lent q u (roots_in_dying Z.dying) Z.held (locs Z.flying) g g (choose b1 d a) y
            → Does K F P code (Given1 Z fb sp C.high L2 y.roots N.words t is) (sets N (choose b1 (code_body K fns C.names (K.size t) C d is) (code_body K fns C.names (K.size t) C a (JMP (length is) ∷ code_body K fns C.names (K.size t) C d is))) N.words) (bodies u K.lent q g g (choose b1 d a) y)
        two true L2 y N ar2 Y2 R1 sx sy ej st1 = IB d C [] C.names [] g C.high Z fb sp room t is L2 y _ ft.3 refl Rattle.simulation.proofs.Relation.no_names refl h8 un ar2 (Y2 _) refl sy (rep_ctl K F P Q _ R1) st1
        two false L2 y N ar2 Y2 R1 sx sy ej st1 = does_more K F P code (IB a C [] C.names [] g C.high Z fb sp room t (JMP (length is) ∷ code_body K fns C.names (K.size t) C d is) L2 y _ ft.2 refl Rattle.simulation.proofs.Relation.no_names refl h8 un ar2 (Y2 _) refl sx (rep_ctl K F P Q _ R1) st1)
            (λ v2 z2 O A2. (sets O is O.words, (jumps K F P Q code fns q dw O is _ A2.base.mode A2.ctl ej, given_ctl is A2)))

  module _ (u : ℕ) (IXS : ExecsSim K F P Q code fns q dw u) (IT : TailSim u) (IN : EndsSim K F P Q code fns q dw u) where
    pub sim_body : BodySim (suc u)
    unfolding eval
    sim_body (body ss x) C ls D1 ks h lo Z fb sp room t is L s M ft en ns sk h8 un ar Y ec sf R st =
        let z : ℕ = K.size t in let hp = Y.heap in let rm = Y.room in let ft2 = ft.2 in
        let le = stack_le K ls lo C.high sk in
        let C2 : Sc = after_ss K fns C ss in
        let js : List Instr = code_ends K fns (newer_slots K fns C2.names D1) is in
        does_then K F P code (execs u K.lent q (ks ++ h) ss s) (IXS ss C (ks ++ h) (with_held (env_roots (ks ++ h) ++ Z.held) Z) fb sp room (code_tail K fns z C2 x js) L s M ft.0 Y ec sf R st.0) (λ i y N ei A.
        let le2 = stack_le K A.ls C.high C2.high A.stack in
        let sl : C2.names ≡ (A.ls ++ ls) ++ D1 = A.slots ∙ (ap (λ z1. A.ls ++ z1) en ∙ sym (append_assoc A.ls ls D1)) in
        let nm : i ≡ (A.ks ++ ks) ++ h = A.names ∙ sym (append_assoc A.ks ks h) in
        let e1 : newer_slots K fns C2.names D1 ≡ A.ls ++ ls = ap (λ z1. newer_slots K fns z1 D1) sl ∙ newer_slots_on K fns (A.ls ++ ls) D1 in
        let e2 : newer i h ≡ A.ks ++ ks = ap (λ z1. newer z1 h) nm ∙ newer_on (A.ks ++ ks) h in
        let eh : env_roots A.ks ++ (env_roots (ks ++ h) ++ Z.held) ≡ env_roots i ++ Z.held = sym (append_assoc (env_roots A.ks) (env_roots (ks ++ h)) Z.held) ∙ ap (λ (hs : List ℕ). hs ++ Z.held) (sym (roots_on A.ks (ks ++ h)) ∙ ap env_roots (sym A.names)) in
        let ar2 : Area fb z (awake Z y.roots) A.L2 = area_on fb z hp (omega arith) A.frame ar in
        let sft : Suf K fns (code_tail K fns z C2 x js) code = suf_trans K fns (suf_ss K fns ss C (code_tail K fns z C2 x js)) sf in
        let Y2 : Ready K F P Q code fns q dw (with_held (env_roots i ++ Z.held) Z) fb sp room C2 i A.L2 N = subst (λ (hs : List ℕ). Ready K F P Q code fns q dw (with_held hs Z) fb sp room C2 i A.L2 N) eh (ready_on K F P Q code fns q dw Y A) in
        let R2 : Rep K F P (with_held (env_roots i ++ Z.held) Z) (fb + C2.high) A.L2 y N = subst (λ (hs : List ℕ). Rep K F P (with_held hs Z) (fb + C2.high) A.L2 y N) eh A.rep in
        let stt = st.1 i y ei in
        does_then K F P code (tails u K.lent q i x y) (IT x C2 i Z fb sp room t js A.L2 y N ft.1 (omega arith) un ar2 Y2 A.ctl sft R2 stt.0) (λ v y2 O ev B1.
        let Z2 : Ctx = with_flying (fly (fb + 8) t v Z.flying) Z in
        let D2 : Does K F P code (λ k z1 O1. AfterEnd K F P Q code fns q dw Z2 fb sp lo B1.L2 y2.roots O.words is z1 O1) O (ends u K.lent q (newer i h) y2) = subst (λ (z1 : Env). Does K F P code (λ k z2 O1. AfterEnd K F P Q code fns q dw Z2 fb sp lo B1.L2 y2.roots O.words is z2 O1) O (ends u K.lent q z1 y2)) (sym e2)
        (IN (A.ls ++ ls) (A.ks ++ ks) lo C2.high Z2 fb sp is B1.L2 y2 O (names_ext B1.frame.ext (names_on A.new (names_ext A.frame.ext ns))) (stack_on K A.ls ls lo C.high C2.high sk A.stack) hp (omega arith)
        (fly_under (fb + 8) t v Z.flying (fb + lo) (let sw = F.some_word t in omega arith) (λ f i1. (let z1 = un f i1 in omega arith))) B1.base (B1.ctl ∙ ap (λ z1. code_ends K fns z1 is) e1)
        (subst (λ (z1 : List Slot). Suf K fns (code_ends K fns z1 is) code) e1 (suf_trans K fns (suf_tail K fns x z C2 js) sft)) B1.rep
        (subst (λ (ls1 : List Loc). SteadyEnds K.lent q u (roots_in_dying Z.dying) Z.held ls1 (A.ks ++ ks) y2) (sym (fly_locs K B1.L2 O.words (fb + 8) t v Z.flying B1.lay)) (subst (λ (z1 : Env). SteadyEnds K.lent q u (roots_in_dying Z.dying) Z.held (add_loc v (locs Z.flying)) z1 y2) e2 (stt.1 v y2 ev)))) in
        does_then K F P code (ends u K.lent q (newer i h) y2) D2 (λ k z2 O1 ez E1. by_ok O1 (λ x1 os r. r)
        (record {
          L2 = E1.L2;
          base = E1.base;
          ctl = E1.ctl;
          rep = E1.rep;
          there = B1.there;
          area = area_on fb z hp (omega arith) E1.frame B1.area;
          lay = Rattle.simulation.proofs.Memory.lay_ext K B1.L2 E1.L2 E1.frame.ext O1.words (fb + 8) t v (copied K F B1.L2 O.words O1.words (fb + 8) (fb + 8) t v B1.lay (λ j g1. E1.frame.kept ((fb + 8) + j) (inl (omega arith, omega arith)) (λ r o. B1.area r ((fb + 8) + j) (omega arith) (omega arith) o)));
          frame = giving_on fb lo (omega arith) (giving_of fb lo (omega arith) (omega arith) A.frame) (giving_on fb lo (omega arith) (giving_less fb lo C2.high (omega arith) B1.frame) (giving_of fb lo (omega arith) (omega arith) E1.frame));
        }))))
