-- The whole run: the machine started at MAIN halts as the meaning says.
use mathlib.Core.Path.{◌≡◌, refl, sym, ap, subst, ◌∙◌}
use mathlib.Core.List.{List, [], ◌∷◌}
use mathlib.Core.Option.{Option, some}
use Prim.Native.Nat.{ℕ, ◌+◌}
use native.Mathlib.Omega.{arith}
use Rattle.language.specs.Base.{Lexeme}
use Rattle.language.specs.Syntax.{Ty, int, dat, box, ref, mut, Fn, Prog}
use Rattle.language.specs.Checks.{fn_named, types_of_pars, w_main}
use Rattle.language.specs.Meaning.{Value, int_v, con_v, box_v, ref_v, hole, Values, nil_v, Class, State, wrong, out_of_fuel, no_heap, no_stack, no_turns, Res, blank, frame, words_of, run}
use Rattle.language.specs.Says.{shown_only}
use Rattle.simulation.proofs.Machine.{Kit, Info, Place, Pools, Instr, MAIN, HALT, RETURN, Mode, running, Mach, Next, go, halt, Outcome, ended, stopped, copy, from_end, does, Runs, halts, Leads, lead_one, halt_one}
use Rattle.simulation.proofs.Lowering.{Entry, Suf}
use Rattle.simulation.proofs.Memory.{Pl, Lay, Lays, Fits, Ext, Live, Owns, Mem, total}
use Rattle.simulation.proofs.WordOps.{copy_in}
use Rattle.simulation.proofs.Context.{Ctx, has_none, Core}
use Rattle.simulation.specs.Borrows.{SteadyCalls}
use Rattle.simulation.proofs.Relation.{Pooling, Rep, Does, by_ok, by_stop}
use Rattle.simulation.proofs.Scopes.{jump}
use Rattle.simulation.proofs.Calls.{Coded, Gave, back_at, returned}
use Rattle.simulation.proofs.Drops.{Tables}
use Rattle.simulation.proofs.All.{all_sims}

module _ (K : Kit) (F : Fits K) (P : Pools → (ℕ → ℕ) → List Class → List Place → Type 0) (Q : Pooling K P) (code : List Instr) (fns : Lexeme → Option Entry) (q : Prog) (dw : (k : Lexeme) (vs : Values) (i : Info) → K.info k ≡ some i → words_of q (con_v k vs) ≡ K.size (dat i.home)) where
  abbrev pub start : Pools → (ℕ → ℕ) → List ℕ → Mach
  start ps w ins = Rattle.simulation.specs.Says.start K ps w ins

  abbrev pub Halts : Mach → Res Value → Type 0
  Halts M r = Rattle.simulation.specs.Says.Halts K code M r

  abbrev pub MainFn : Type 0
  MainFn = Rattle.simulation.specs.Says.MainFn q

  Z0 : Ctx
  Z0 = record { dying = []; held = []; flying = [] }

  module _ (TB : Tables K F P Q code fns q dw) (cd : Coded K F P Q code fns q dw) (main : MainFn) (suf : Suf K fns (HALT ∷ []) code) (u : ℕ) (ins : List ℕ) (ps : Pools) (w : ℕ → ℕ) (free : P ps w [] []) where
    halting : {r : Res Value} → Does K F P code (λ v s N. (k : ℕ) × ((v ≡ int_v k) × Runs K code N (ended k) (shown_only s.outs))) (start ps w ins) r → Halts (start ps w ins) r
    halting (by_ok N l h) = (h.0, (h.1.0, l (ended h.0) _ h.1.1))
    halting (by_stop {k = wrong} h) = tt
    halting (by_stop {k = out_of_fuel} h) = tt
    halting (by_stop {k = no_heap} h) = h
    halting (by_stop {k = no_stack} h) = h
    halting (by_stop {k = no_turns} h) = h

    pub whole_run : (Steady : (fn : Fn) → fn_named q.funs w_main ≡ some fn → SteadyCalls K.lent q u [] [] [] fn [] (blank ins)) → Halts (start ps w ins) (run u K.lent q ins)
    unfolding Z0
    whole_run steady = halting (Rattle.simulation.proofs.Relation.does_need K F P code (blank ins) (fn_named q.funs w_main) (λ fn ef.
        let M : Mach = start ps w ins in let H : ℕ = K.lent.heap in let X : ℕ = H + M.sp in
        let mn = main fn ef in let er : K.size fn.ret ≡ 1 = ap K.size mn.1 ∙ F.one_int in
        let ets : types_of_pars fn.pars ≡ [] = ap types_of_pars mn.0 in
        let none1 : (r j : ℕ) → Owns K [] [] r j → ⊥ = λ r j o. Rattle.simulation.proofs.Memory.no_some o.lives.is in
        let c0 : Core K Z0 H [] [] [] w = record {
          mem = record { long = refl; laid = λ r x y lv e. absurd (Rattle.simulation.proofs.Memory.no_some e); apart = λ r i j o1 o2. absurd (none1 r j o1); low = λ r j o. absurd (none1 r j o) };
          dead = λ d h. absurd (has_none h);
          inside = λ r j o h. absurd (none1 r j o);
          named = λ r h. absurd (has_none h);
          flown = λ f h. absurd (has_none h);
          high = λ f h. absurd (has_none h);
          free = λ f h. absurd (has_none h);
        } in
        let R : Rep K F P Z0 H [] (blank ins) M = record { core = c0; pool = free; sp = refl; turns = refl; ins = refl; outs = refl } in
        let es : Rattle.simulation.proofs.Machine.enters K code M 1 (X + 2) 0 0 0 w_main (K.size fn.ret) (types_of_pars fn.pars) 0 ≡ does K code (MAIN w_main) (HALT ∷ []) M = ap (λ (r : ℕ). Rattle.simulation.proofs.Machine.enters K code M 1 (X + 2) 0 0 0 w_main r (types_of_pars fn.pars) 0) er ∙ ap (λ (ts : List Ty). Rattle.simulation.proofs.Machine.enters K code M 1 (X + 2) 0 0 0 w_main 1 ts 0) ets in
        let tot : total K (types_of_pars fn.pars) ≡ 0 = ap (total K) ets in
        Rattle.simulation.proofs.Relation.does_as K F P code
        ((all_sims K F P Q code fns q dw TB cd u).calls1 w_main fn nil_v 1 (X + 2) 0 0 0 0 Z0 H [] (blank ins) M ef (λ N e. lead_one (MAIN w_main) (HALT ∷ []) refl refl (sym es ∙ e)) (λ x os e. halt_one (MAIN w_main) (HALT ∷ []) refl refl (sym es ∙ e)) (omega arith) (λ f h. absurd (has_none h)) (omega arith) ets (subst (λ (ts : List Ty). Rattle.simulation.proofs.Passing.ArgSpots K [] [] (Rattle.simulation.proofs.Calls.hd K F P Q code fns q dw M 1 (X + 2) 0 0 0) 0 ts nil_v) (sym ets) tt) R (steady fn ef))
        (λ v s N G1.
        let rt = returned K F P Q code fns q dw Z0 H 0 (M.sp + frame q fn) 1 (X + 2) 0 0 0 [] [] fn.ret v s M N (omega arith) (λ r j o. absurd (none1 r j o)) G1 in
        let O : Mach = back_at K F P Q code fns q dw M N 1 (X + 2) (K.size fn.ret) in
        let num = is_int G1.L2 N.words (X + 8) v G1.there (subst (λ (t : Ty). Lay K G1.L2 N.words (X + 8) t v) mn.1 G1.lay) in
        let e1 : (X + 2) + 0 ≡ H + 2 = omega arith in let e2 : (X + 8) + 0 ≡ X + 8 = omega arith in
        let wd : O.words (H + 2) ≡ num.0 = ap O.words (sym e1) ∙ (copy_in N.words (X + 2) (X + 8) (K.size fn.ret) 0 (omega arith) ∙ (ap N.words e2 ∙ num.1.1)) in
        let os : O.outs ≡ shown_only s.outs = G1.rep.outs ∙ ap (λ (t : State). shown_only t.outs) (sym G1.is) in
        (num.0, (num.1.0, rt.0 (ended num.0) _ (halt_one HALT [] refl (jump suf) (ap (λ (k : ℕ). halt (ended k) O.outs) wd ∙ ap (λ (x : List ℕ). halt (ended num.0) x) os)))))))
      where
        is_int : (L : List Pl) (wd : ℕ → ℕ) (a : ℕ) (v : Value) → Rattle.simulation.proofs.Memory.flag_of v ≡ 1 → Lay K L wd a int v → (k : ℕ) × ((v ≡ int_v k) × (wd a ≡ k))
        is_int L wd a (int_v k) f y = (k, (refl, y.1))
        is_int L wd a (con_v k vs) f y = absurd (subst (λ (t : Ty). is1 t) y.1.1 tt)
          where
            is1 : Ty → Type 0
            is1 int = Unit {0}
            is1 (dat d) = ⊥
            is1 (box t) = ⊥
            is1 (ref t) = ⊥
            is1 (mut t) = ⊥
        is_int L wd a (box_v r) f y = absurd (subst (λ (t : Ty). is1 t) y.1.0 tt)
          where
            is1 : Ty → Type 0
            is1 int = Unit {0}
            is1 (dat d) = ⊥
            is1 (box t) = ⊥
            is1 (ref t) = ⊥
            is1 (mut t) = ⊥
        is_int L wd a (ref_v l) f y = absurd y.1
        is_int L wd a hole f y = absurd y

pub run_words : Rattle.simulation.specs.Says.RunWords
run_words K code fns q u ins ps w pr st =
    let P : Pools → (ℕ → ℕ) → List Class → List Place → Type 0 = Rattle.simulation.specs.Pooling.InUse K ps w in
    whole_run K pr.sizes (Rattle.simulation.specs.Pooling.InUse K ps w) (Rattle.simulation.proofs.Relation.pooling K ps w pr.pools) code fns q pr.words pr.tables pr.coded pr.main pr.halt u ins ps w Rattle.simulation.specs.Pooling.at_first st
