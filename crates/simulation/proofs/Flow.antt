-- if, while, statements one after the other, and blocks.
use mathlib.Core.Path.{◌≡◌, refl, sym, ap, subst, ◌∙◌}
use mathlib.Core.Bool.{Bool, true, false}
use mathlib.Core.List.{List, [], ◌∷◌, ◌++◌, append_assoc}
use mathlib.Core.Option.{Option, some}
use Prim.Native.Nat.{ℕ, suc, ◌+◌, ◌≤◌}
use native.Mathlib.Omega.{arith}
use lib.ListN.{length}
use lib.Dec.{eqb}
use Rattle.language.specs.Base.{Lexeme, choose}
use Rattle.language.specs.Syntax.{Ty, dat, Expr, cond, loop, Stmts, nil_s, cons_s, Prog}
use Rattle.language.specs.Meaning.{con_v, Values, Root, Class, State, Res, ok, stop, then, turn, Env, newer, words_of, num_of, eval, exec, execs, block, ends}
use Rattle.simulation.proofs.Machine.{Kit, Info, Place, Pools, Instr, JZ, JMP, TURN, STUCK, Mach, go, sets, turned, from_end, lead_one}
use Rattle.simulation.proofs.Lowering.{Slot, Sc, Entry, type_e, code_e, after_s, after_ss, code_ends, newer_slots, closes, code_s, code_ss, Suf, same1, later, suf_trans, suf_e, suf_ends, suf_s, suf_ss}
use Rattle.simulation.proofs.Memory.{Pl, Fits}
use Rattle.simulation.proofs.Context.{Ctx, has_front, roots_in_dying, locs, awake, with_held, core_less}
use Rattle.simulation.specs.Borrows.{env_roots, turned_state, SteadyS, SteadySs, SteadyBlock, SteadyEnds}
use Rattle.simulation.proofs.Relation.{Pooling, Names, no_names, names_ext, Work, work_none, work_on, work_lower, Rep, Does, by_ok, by_stop, back, does_then, does_need, does_as, does_more, does_turn}
use Rattle.simulation.proofs.Scopes.{stack_on, stack_le, names_on, newer_on, newer_slots_on, jump, len_e, len_ends, len_ss, roots_on}
use Rattle.simulation.proofs.Stand.{AllHeld, rep_ctl, rep_unfly, base_set, EvalSim}
use Rattle.simulation.proofs.Statements.{held_more, FitS, FitSs, AfterS, AfterEnd, Ready, ExecSim, ExecsSim, BlockSim, EndsSim, stand, no_more, end_on, end_ctl, jumps, test_zero, int_word}

module _ (K : Kit) (F : Fits K) (P : Pools → (ℕ → ℕ) → List Class → List Place → Type 0) (Q : Pooling K P) (code : List Instr) (fns : Lexeme → Option Entry) (q : Prog) (dw : (k : Lexeme) (vs : Values) (i : Info) → K.info k ≡ some i → words_of q (con_v k vs) ≡ K.size (dat i.home)) where
  module _ (u : ℕ) (IE : EvalSim K F P Q code fns q dw u) (IX : ExecSim K F P Q code fns q dw u) (IB : BlockSim K F P Q code fns q dw u) where
    -- a block with no names of its own yet
    plain : (xs : Stmts) (C : Sc) (g : Env) (Z : Ctx) (fb sp room : ℕ) (is : List Instr) (L : List Pl) (s : State) (M : Mach) → FitSs K F P Q code fns q dw room C xs → Ready K F P Q code fns q dw Z fb sp room C g L M → M.ctl ≡ code_ss K fns C xs (closes K fns C xs is) → Suf K fns (code_ss K fns C xs (closes K fns C xs is)) code → Rep K F P Z (fb + C.high) L s M → SteadyBlock K.lent q u (roots_in_dying Z.dying) Z.held (locs Z.flying) g g xs s → Does K F P code (λ g2 z N. (g2 ≡ g) × AfterEnd K F P Q code fns q dw Z fb sp C.high L s.roots M.words is z N) M (block u K.lent q g g xs s)
    plain xs C g Z fb sp room is L s M ft Y ec sf R st = IB xs C [] C.names [] g C.high Z fb sp room is L s M ft refl no_names refl Y Y.under ec sf R st

    pub sim_cond : (e : Expr) (x y : Stmts) (C : Sc) (g : Env) (Z : Ctx) (fb sp room : ℕ) (is : List Instr) (L : List Pl) (s : State) (M : Mach) → FitS K F P Q code fns q dw room C (cond e x y) → Ready K F P Q code fns q dw Z fb sp room C g L M → M.ctl ≡ code_s K fns C (cond e x y) is → Suf K fns (code_s K fns C (cond e x y) is) code → Rep K F P Z (fb + C.high) L s M → SteadyS K.lent q (suc u) (roots_in_dying Z.dying) Z.held (locs Z.flying) g (cond e x y) s → Does K F P code (AfterS K F P Q code fns q dw Z fb sp C C g L s.roots M.words is) M (exec (suc u) K.lent q g (cond e x y) s)
    unfolding exec
    sim_cond e x y C g Z fb sp room is L s M ft Y ec sf R st =
        let hp = Y.heap in let rm = Y.room in let ft0 = ft.0 in let h0 : ℕ = C.high in let ty : Ty = type_e K fns C.names e in
        let other : List Instr = code_ss K fns C y (closes K fns C y is) in
        let one : List Instr = code_ss K fns C x (closes K fns C x (JMP (length is) ∷ other)) in
        let sf1 : Suf K fns (JZ h0 (length other) ∷ one) code = suf_trans K fns (suf_e K fns e C.names h0 (JZ h0 (length other) ∷ one)) sf in
        let sf2 : Suf K fns one code = suf_trans K fns (later same1) sf1 in
        let sf3 : Suf K fns (JMP (length is) ∷ other) code = suf_trans K fns (suf_trans K fns (suf_ends K fns (newer_slots K fns (after_ss K fns C x).names C.names) (JMP (length is) ∷ other)) (suf_ss K fns x C (closes K fns C x (JMP (length is) ∷ other)))) sf2 in
        let sf4 : Suf K fns other code = suf_trans K fns (later same1) sf3 in
        let sf5 : Suf K fns is code = suf_trans K fns (suf_trans K fns (suf_ends K fns (newer_slots K fns (after_ss K fns C y).names C.names) is) (suf_ss K fns y C (closes K fns C y is))) sf4 in
        does_then K F P code (eval u K.lent q g e s) (IE e C.names g Z fb sp (fb + h0) h0 (JZ h0 (length other) ∷ one) L s M ft.1 ec sf (stand K F P Q code fns q dw h0 (omega arith) Y) (omega arith) R st.0) (λ v t N ev A.
        does_need K F P code t (num_of v) (λ k ek.
        let wk = int_word K F P Q code fns q dw A.L2 N.words (fb + h0) ty v k A.lay ek in
        let R1 = rep_unfly K F P Q Z (fb + h0) ty v A.rep in
        let Y2 : (js : List Instr) → Ready K F P Q code fns q dw Z fb sp room C g A.L2 (sets N js N.words) = λ js. record { base = base_set K F P Q js N.words A.base; names = names_ext A.frame.ext Y.names; held = Y.held; heap = hp; room = rm; under = Y.under } in
        back K F P code (test_zero K F P Q code fns q dw k N fb h0 (length other) one other A.base.mode A.base.fb A.ctl wk.0 (jump sf4))
        (does_as K F P code (two (eqb k 0) other one A.L2 t N Y2 R1 sf2 sf4 (jump sf5) ft (st.1 v t ev k ek)) (λ g2 z O A2. subst (λ (g3 : Env). AfterS K F P Q code fns q dw Z fb sp C C g L s.roots M.words is g3 z O) (sym A2.0) (no_more K F P Q code fns q dw (end_on K F P Q code fns q dw A.frame A2.1))))))
      where
        two : (b1 : Bool) (other one : List Instr) (L2 : List Pl) (t : State) (N : Mach) → ((js : List Instr) → Ready K F P Q code fns q dw Z fb sp room C g L2 (sets N js N.words)) → Rep K F P Z (fb + C.high) L2 t N → Suf K fns (code_ss K fns C x (closes K fns C x (JMP (length is) ∷ code_ss K fns C y (closes K fns C y is)))) code → Suf K fns (code_ss K fns C y (closes K fns C y is)) code → from_end code (length is) ≡ is → FitS K F P Q code fns q dw room C (cond e x y) → SteadyBlock K.lent q u (roots_in_dying Z.dying) Z.held (locs Z.flying) g g (choose b1 y x) t
            → Does K F P code (λ g2 z O. (g2 ≡ g) × AfterEnd K F P Q code fns q dw Z fb sp C.high L2 t.roots N.words is z O) (sets N (choose b1 (code_ss K fns C y (closes K fns C y is)) (code_ss K fns C x (closes K fns C x (JMP (length is) ∷ code_ss K fns C y (closes K fns C y is))))) N.words) (block u K.lent q g g (choose b1 y x) t)
        two true other one L2 t N Y2 R1 sx sy ej ft st1 = plain y C g Z fb sp room is L2 t _ ft.3 (Y2 _) refl sy (rep_ctl K F P Q _ R1) st1
        two false other one L2 t N Y2 R1 sx sy ej ft st1 = does_more K F P code (plain x C g Z fb sp room (JMP (length is) ∷ code_ss K fns C y (closes K fns C y is)) L2 t _ ft.2 (Y2 _) refl sx (rep_ctl K F P Q _ R1) st1)
            (λ g2 z O A2. (sets O is O.words, (jumps K F P Q code fns q dw O is _ A2.1.base.mode A2.1.ctl ej, (A2.0, end_ctl K F P Q code fns q dw is A2.1))))

    pub sim_loop : (e : Expr) (x : Stmts) (C : Sc) (g : Env) (Z : Ctx) (fb sp room : ℕ) (is : List Instr) (L : List Pl) (s : State) (M : Mach) → FitS K F P Q code fns q dw room C (loop e x) → Ready K F P Q code fns q dw Z fb sp room C g L M → M.ctl ≡ code_s K fns C (loop e x) is → Suf K fns (code_s K fns C (loop e x) is) code → Rep K F P Z (fb + C.high) L s M → SteadyS K.lent q (suc u) (roots_in_dying Z.dying) Z.held (locs Z.flying) g (loop e x) s → Does K F P code (AfterS K F P Q code fns q dw Z fb sp C C g L s.roots M.words is) M (exec (suc u) K.lent q g (loop e x) s)
    unfolding exec
    sim_loop e x C g Z fb sp room is L s M ft Y ec sf R st =
        let hp = Y.heap in let rm = Y.room in let ft0 = ft.0 in let h0 : ℕ = C.high in let ty : Ty = type_e K fns C.names e in
        let target : ℕ = length (code_e K fns C.names h0 e (STUCK ∷ code_ss K fns C x (closes K fns C x (STUCK ∷ STUCK ∷ is)))) in
        let again : List Instr = TURN ∷ JMP target ∷ is in
        let one : List Instr = code_ss K fns C x (closes K fns C x again) in
        let all1 : List Instr = code_e K fns C.names h0 e (JZ h0 (length is) ∷ one) in
        let sf1 : Suf K fns (JZ h0 (length is) ∷ one) code = suf_trans K fns (suf_e K fns e C.names h0 (JZ h0 (length is) ∷ one)) sf in
        let sf2 : Suf K fns one code = suf_trans K fns (later same1) sf1 in
        let sf3 : Suf K fns again code = suf_trans K fns (suf_trans K fns (suf_ends K fns (newer_slots K fns (after_ss K fns C x).names C.names) again) (suf_ss K fns x C (closes K fns C x again))) sf2 in
        let sf5 : Suf K fns is code = suf_trans K fns (later (later same1)) sf3 in
        let back_to : from_end code target ≡ all1 = ap (from_end code) (len_e K fns e C.names h0 _ _ (ap suc (len_ss K fns x C _ _ (len_ends K fns (newer_slots K fns (after_ss K fns C x).names C.names) (STUCK ∷ STUCK ∷ is) again refl)))) ∙ jump sf in
        does_then K F P code (eval u K.lent q g e s) (IE e C.names g Z fb sp (fb + h0) h0 (JZ h0 (length is) ∷ one) L s M ft.1 ec sf (stand K F P Q code fns q dw h0 (omega arith) Y) (omega arith) R st.0) (λ v t N ev A.
        does_need K F P code t (num_of v) (λ k ek.
        let wk = int_word K F P Q code fns q dw A.L2 N.words (fb + h0) ty v k A.lay ek in
        let R1 = rep_unfly K F P Q Z (fb + h0) ty v A.rep in
        let Y2 : (js : List Instr) → Ready K F P Q code fns q dw Z fb sp room C g A.L2 (sets N js N.words) = λ js. record { base = base_set K F P Q js N.words A.base; names = names_ext A.frame.ext Y.names; held = Y.held; heap = hp; room = rm; under = Y.under } in
        back K F P code (test_zero K F P Q code fns q dw k N fb h0 (length is) one is A.base.mode A.base.fb A.ctl wk.0 (jump sf5))
        (does_as K F P code {Q = AfterS K F P Q code fns q dw Z fb sp C C g A.L2 t.roots N.words is} (two (eqb k 0) k refl A.L2 t N Y2 R1 sf2 back_to ft (st.1 v t ev k ek)) (λ g2 z O A2. s_on1 A.frame A2))))
      where
        s_on1 : {L : List Pl} {rs : List Root} {w : ℕ → ℕ} {L1 : List Pl} {rs1 : List Root} {w1 : ℕ → ℕ} {g2 : Env} {z : State} {N : Mach} → Work K F P Z.dying (fb + C.high) L (awake Z rs) w L1 (awake Z rs1) w1 → AfterS K F P Q code fns q dw Z fb sp C C g L1 rs1 w1 is g2 z N → AfterS K F P Q code fns q dw Z fb sp C C g L rs w is g2 z N
        s_on1 f A = record { L2 = A.L2; base = A.base; ctl = A.ctl; ls = A.ls; ks = A.ks; slots = A.slots; names = A.names; stack = A.stack; new = A.new; rep = A.rep; frame = work_on K F P (fb + C.high) (omega arith) f A.frame }

        two : (b1 : Bool) (k : ℕ) → eqb k 0 ≡ b1 → (L2 : List Pl) (t : State) (N : Mach) → ((js : List Instr) → Ready K F P Q code fns q dw Z fb sp room C g L2 (sets N js N.words)) → Rep K F P Z (fb + C.high) L2 t N
            → Suf K fns (code_ss K fns C x (closes K fns C x (TURN ∷ JMP (length (code_e K fns C.names C.high e (STUCK ∷ code_ss K fns C x (closes K fns C x (STUCK ∷ STUCK ∷ is))))) ∷ is))) code
            → from_end code (length (code_e K fns C.names C.high e (STUCK ∷ code_ss K fns C x (closes K fns C x (STUCK ∷ STUCK ∷ is))))) ≡ code_s K fns C (loop e x) is
            → FitS K F P Q code fns q dw room C (loop e x)
            → (eqb k 0 ≡ false → SteadyBlock K.lent q u (roots_in_dying Z.dying) Z.held (locs Z.flying) g g x t × ((i : Env) (z : State) → block u K.lent q g g x t ≡ ok i z → SteadyS K.lent q u (roots_in_dying Z.dying) Z.held (locs Z.flying) g (loop e x) (turned_state z)))
            → Does K F P code (AfterS K F P Q code fns q dw Z fb sp C C g L2 t.roots N.words is) (sets N (choose b1 is (code_ss K fns C x (closes K fns C x (TURN ∷ JMP (length (code_e K fns C.names C.high e (STUCK ∷ code_ss K fns C x (closes K fns C x (STUCK ∷ STUCK ∷ is))))) ∷ is)))) N.words) (choose b1 (ok g t) (then (block u K.lent q g g x t) (λ i z. turn K.lent z (λ y. exec u K.lent q g (loop e x) y))))
        two true k eb L2 t N Y2 R1 sx bt ft st1 = by_ok (sets N is N.words) (λ x1 os r. r) (no_more K F P Q code fns q dw (record { L2 = L2; base = (Y2 is).base; ctl = refl; rep = rep_ctl K F P Q is R1; frame = work_none K F P Z.dying (fb + C.high) L2 (awake Z t.roots) N.words }))
        two false k eb L2 t N Y2 R1 sx bt ft st1 =
            let h0 : ℕ = C.high in let st2 = st1 eb in
            let target : ℕ = length (code_e K fns C.names h0 e (STUCK ∷ code_ss K fns C x (closes K fns C x (STUCK ∷ STUCK ∷ is)))) in
            let again : List Instr = TURN ∷ JMP target ∷ is in
            let one : List Instr = code_ss K fns C x (closes K fns C x again) in
            let all1 : List Instr = code_s K fns C (loop e x) is in
            does_then K F P code (block u K.lent q g g x t) (plain x C g Z fb sp room again L2 t (sets N one N.words) ft.2 (Y2 one) refl sx (rep_ctl K F P Q one R1) st2.0) (λ g2 z O ez A2.
            does_turn K F P code z _ Z (fb + h0) A2.1.L2 O (JMP target ∷ is) A2.1.base.mode A2.1.ctl A2.1.rep (λ R2.
            let O1 : Mach = turned O (JMP target ∷ is) in
            let O2 : Mach = sets O1 all1 O1.words in
            back K F P code (lead_one {N = O2} (JMP target) is A2.1.base.mode refl (ap (λ j. go (sets O1 j O1.words)) bt))
            (does_as K F P code (IX (loop e x) C g Z fb sp room is A2.1.L2 (turned_state z) O2 ft (record { base = record { mode = A2.1.base.mode; fb = A2.1.base.fb; sp = A2.1.base.sp; full = A2.1.base.full }; names = names_ext A2.1.frame.ext (Y2 is).names; held = Y.held; heap = Y.heap; room = Y.room; under = Y.under }) refl sf (rep_ctl K F P Q all1 R2) (st2.1 g2 z ez))
            (λ g3 z3 O3 A3. s_on1 A2.1.frame A3))))

  -- two runs of statements, one behind the other
  seq : {Z : Ctx} {fb sp : ℕ} {C C1 C2 : Sc} {g g1 : Env} {L : List Pl} {rs : List Root} {w : ℕ → ℕ} {js is : List Instr} {g2 : Env} {t z : State} {N O : Mach} → (A : AfterS K F P Q code fns q dw Z fb sp C C1 g L rs w js g1 t N) → AfterS K F P Q code fns q dw (with_held (env_roots A.ks ++ Z.held) Z) fb sp C1 C2 g1 A.L2 t.roots N.words is g2 z O → AfterS K F P Q code fns q dw Z fb sp C C2 g L rs w is g2 z O
  seq {Z} {fb} {C = C} {C1 = C1} {C2 = C2} {g = g} {z = z} {O = O} A B1 = let le = stack_le K A.ls C.high C1.high A.stack in record {
    L2 = B1.L2;
    base = B1.base;
    ctl = B1.ctl;
    ls = B1.ls ++ A.ls;
    ks = B1.ks ++ A.ks;
    slots = B1.slots ∙ (ap (λ z. B1.ls ++ z) A.slots ∙ sym (append_assoc B1.ls A.ls C.names));
    names = B1.names ∙ (ap (λ z. B1.ks ++ z) A.names ∙ sym (append_assoc B1.ks A.ks g));
    stack = stack_on K B1.ls A.ls C.high C1.high _ A.stack B1.stack;
    new = names_on B1.new (names_ext B1.frame.ext A.new);
    rep = subst (λ (hs : List ℕ). Rep K F P (with_held hs Z) (fb + C2.high) B1.L2 z O) (sym (append_assoc (env_roots B1.ks) (env_roots A.ks) Z.held) ∙ ap (λ (hs : List ℕ). hs ++ Z.held) (sym (roots_on B1.ks A.ks))) B1.rep;
    frame = work_on K F P (fb + C1.high) (omega arith) A.frame B1.frame;
  }

  pub ready_on : {Z : Ctx} {fb sp room : ℕ} {C C1 : Sc} {g g1 : Env} {L : List Pl} {rs : List Root} {w : ℕ → ℕ} {js : List Instr} {t : State} {M N : Mach} → Ready K F P Q code fns q dw Z fb sp room C g L M → (A : AfterS K F P Q code fns q dw Z fb sp C C1 g L rs w js g1 t N) → Ready K F P Q code fns q dw (with_held (env_roots A.ks ++ Z.held) Z) fb sp room C1 g1 A.L2 N
  ready_on {Z} {fb} {C = C} {C1 = C1} {g = g} {g1 = g1} Y A = let le = stack_le K A.ls C.high C1.high A.stack in
      record {
        base = A.base;
        names = subst (λ (z : List Slot). Names A.L2 fb z g1) (sym A.slots) (subst (λ (z : Env). Names A.L2 fb (A.ls ++ C.names) z) (sym A.names) (names_on A.new (names_ext A.frame.ext Y.names)));
        held = subst (λ (z : Env). AllHeld z (env_roots A.ks ++ Z.held)) (sym A.names) (held_more A.ks g Z.held Y.held);
        heap = Y.heap;
        room = Y.room;
        under = λ f i. (let z = Y.under f i in omega arith);
      }

  fit_last : (xs : Stmts) (room : ℕ) (C : Sc) → FitSs K F P Q code fns q dw room C xs → (after_ss K fns C xs).high ≤ room
  fit_last nil_s room C f = f
  fit_last (cons_s x xs) room C f = fit_last xs room (after_s K fns C x) f.1

  module _ (u : ℕ) (IX : ExecSim K F P Q code fns q dw u) (IXS : ExecsSim K F P Q code fns q dw u) (IN : EndsSim K F P Q code fns q dw u) where
    pub sim_execs : ExecsSim K F P Q code fns q dw (suc u)
    unfolding exec
    sim_execs nil_s C g Z fb sp room is L s M ft Y ec sf R st = by_ok M (λ x os r. r) (no_more K F P Q code fns q dw (record { L2 = L; base = Y.base; ctl = ec; rep = R; frame = work_none K F P Z.dying (fb + C.high) L (awake Z s.roots) M.words }))
    sim_execs (cons_s x xs) C g Z fb sp room is L s M ft Y ec sf R st =
        let rest : List Instr = code_ss K fns (after_s K fns C x) xs is in
        let here1 : List Instr = code_s K fns C x rest in
        let sf1 : Suf K fns here1 code = suf_trans K fns (later same1) sf in
        does_then K F P code {Q = λ g2 t N. AfterS K F P Q code fns q dw Z fb sp C (after_s K fns C x) g L s.roots M.words rest g2 t N × (exec u K.lent q g x (turned_state s) ≡ ok g2 t)} (turn K.lent s (λ t. exec u K.lent q g x t))
        (does_turn K F P code s _ Z (fb + C.high) L M here1 Y.base.mode ec R (λ R2.
        with_eq (exec u K.lent q g x (turned_state s)) refl (IX x C g Z fb sp room rest L (turned_state s) (turned M here1) ft.0 (record { base = record { mode = Y.base.mode; fb = Y.base.fb; sp = Y.base.sp; full = Y.base.full }; names = Y.names; held = Y.held; heap = Y.heap; room = Y.room; under = Y.under }) refl sf1 R2 st.0)))
        (λ g2 t N eq A1. let A = A1.0 in does_as K F P code (IXS xs (after_s K fns C x) g2 (with_held (env_roots A.ks ++ Z.held) Z) fb sp room is A.L2 t N ft.1 (ready_on Y A) A.ctl (suf_trans K fns (suf_s K fns x C rest) sf1) A.rep
        (subst (λ (ks : Env). SteadySs K.lent q u (roots_in_dying Z.dying) (env_roots ks ++ Z.held) (locs Z.flying) g2 xs t) (ap (λ (z : Env). newer z g) A.names ∙ newer_on A.ks g) (st.1 g2 t A1.1))) (λ g3 z O A2. seq A A2))
      where
        with_eq : {Q1 : Env → State → Mach → Type 0} {M1 : Mach} (r : Res Env) → {r0 : Res Env} → r0 ≡ r → Does K F P code Q1 M1 r → Does K F P code (λ g2 t N. Q1 g2 t N × (r0 ≡ ok g2 t)) M1 r
        with_eq (ok a t) e (by_ok N l h) = by_ok N l (h, e)
        with_eq (stop k t) e (by_stop h) = by_stop h

    pub sim_block : BlockSim K F P Q code fns q dw (suc u)
    unfolding exec
    sim_block xs C ls D1 ks h lo Z fb sp room is L s M ft en ns sk Y un ec sf R st =
        let Z1 : Ctx = with_held (env_roots ks ++ Z.held) Z in
        let le = stack_le K ls lo C.high sk in
        let ek : newer (ks ++ h) h ≡ ks = newer_on ks h in
        does_then K F P code (execs u K.lent q (ks ++ h) xs s) (IXS xs C (ks ++ h) Z1 fb sp room (code_ends K fns (newer_slots K fns (after_ss K fns C xs).names D1) is) L s M ft Y ec sf R (subst (λ (k1 : Env). SteadySs K.lent q u (roots_in_dying Z.dying) (env_roots k1 ++ Z.held) (locs Z.flying) (ks ++ h) xs s) ek st.0)) (λ i t N ei A.
        let C2 : Sc = after_ss K fns C xs in
        let sl : C2.names ≡ (A.ls ++ ls) ++ D1 = A.slots ∙ (ap (λ z. A.ls ++ z) en ∙ sym (append_assoc A.ls ls D1)) in
        let nm : i ≡ (A.ks ++ ks) ++ h = A.names ∙ sym (append_assoc A.ks ks h) in
        let e1 : newer_slots K fns C2.names D1 ≡ A.ls ++ ls = ap (λ z. newer_slots K fns z D1) sl ∙ newer_slots_on K fns (A.ls ++ ls) D1 in
        let e2 : newer i h ≡ A.ks ++ ks = ap (λ z. newer z h) nm ∙ newer_on (A.ks ++ ks) h in
        let fl = fit_last xs room C ft in let rm = Y.room in
        let R1 : Rep K F P Z (fb + C2.high) A.L2 t N = record { core = core_less K F Z.held Z.flying (λ r i1. has_front (env_roots A.ks) (has_front (env_roots ks) i1)) (λ f1 i1. i1) A.rep.core; pool = A.rep.pool; sp = A.rep.sp; turns = A.rep.turns; ins = A.rep.ins; outs = A.rep.outs } in
        let D2 : Does K F P code (λ k z O. AfterEnd K F P Q code fns q dw Z fb sp lo A.L2 t.roots N.words is z O) N (ends u K.lent q (newer i h) t) = subst (λ (z : Env). Does K F P code (λ k z1 O. AfterEnd K F P Q code fns q dw Z fb sp lo A.L2 t.roots N.words is z1 O) N (ends u K.lent q z t)) (sym e2)
        (IN (A.ls ++ ls) (A.ks ++ ks) lo C2.high Z fb sp is A.L2 t N (names_on A.new (names_ext A.frame.ext ns)) (stack_on K A.ls ls lo C.high C2.high sk A.stack) Y.heap (omega arith) un A.base (A.ctl ∙ ap (λ z. code_ends K fns z is) e1)
        (subst (λ (z : List Slot). Suf K fns (code_ends K fns z is) code) e1 (suf_trans K fns (suf_ss K fns xs C _) sf)) R1
        (subst (λ (z : Env). SteadyEnds K.lent q u (roots_in_dying Z.dying) Z.held (locs Z.flying) z t) e2 (st.1 i t ei))) in
        does_then K F P code (ends u K.lent q (newer i h) t) D2 (λ k z O ez E1. by_ok O (λ x os r. r) (refl, end_on K F P Q code fns q dw (work_lower K F P (omega arith) A.frame) E1)))
