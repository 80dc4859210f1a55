-- The induction on fuel; NeverWrong and NothingLeft from it.
use mathlib.Core.Bool.{true, false}
use mathlib.Core.List.{List, [], ◌∷◌}
use mathlib.Core.Option.{Option, some, none}
use mathlib.Core.Path.{◌≡◌, refl, sym, ◌∙◌, ap, subst}
use Prim.Native.Nat.{ℕ, zero, suc, ◌+◌}
use lib.Dec.{eqb}
use lib.ListN.{length}
use Rattle.language.specs.Base.{choose, from_option}
use Rattle.language.specs.Syntax.{int, Fn, Prog, Param}
use Rattle.language.specs.Checks.{fn_named, types_of_pars, same_ty}
use Rattle.language.specs.Checks as ch
use Rattle.language.specs.Meaning.{Root, need, calls, blank}
use Rattle.language.specs.Meaning as me
use Rattle.language.specs.Says.{NeverWrong, NothingLeft, live_roots}
use Rattle.soundness.specs.Invariant.{live_sum, is_box, Invariant}
use Rattle.soundness.specs.Frames.{Arguments, no_args}
use Rattle.soundness.specs.Preserved.{Safe, AfterCall, InvariantKept, RunSafe}
use Rattle.soundness.proofs.Basics.{true_false, and_left, and_right}
use Rattle.soundness.proofs.invariant.Top.{pop_int}
use Rattle.soundness.proofs.statics.Rules.{same_ty_is}
use Rattle.soundness.proofs.statics.Accepted.{okay, fns_ok}
use Rattle.soundness.proofs.Safety.{preserved_zero, ended, stopped}
use Rattle.soundness.proofs.drops.Drops.{drops_all_suc, ends_suc, parts_suc, drops_suc}
use Rattle.soundness.proofs.drops.Lasts.{lasts_suc}
use Rattle.soundness.proofs.exprs.Args.{evals_suc}
use Rattle.soundness.proofs.exprs.Step.{eval_suc}
use Rattle.soundness.proofs.matches.Step.{by_alt_suc, by_shape_suc}
use Rattle.soundness.proofs.stmts.Blocks.{block_suc, execs_suc}
use Rattle.soundness.proofs.stmts.Step.{exec_suc}
use Rattle.soundness.proofs.calls.Bodies.{bodies_suc}
use Rattle.soundness.proofs.calls.Calls.{calls_suc}
use Rattle.soundness.proofs.calls.Step.{tails_suc}

pub preserved : InvariantKept
preserved q m o zero = preserved_zero q m
preserved q m o (suc u) = let h = preserved q m o u in record {
  eval_ok = eval_suc q m u o h;
  evals_ok = evals_suc q m u o h;
  calls_ok = calls_suc q m u o h;
  bodies_ok = bodies_suc q m u o h;
  tails_ok = tails_suc q m u o h;
  by_shape_ok = by_shape_suc q m u o h;
  execs_ok = execs_suc q m u o h;
  block_ok = block_suc q m u o h;
  exec_ok = exec_suc q m u o h;
  by_alt_ok = by_alt_suc q m u o h;
  ends_ok = ends_suc q m u o h;
  drops_ok = drops_suc q m u o h;
  lasts_ok = lasts_suc q m u o h;
  parts_ok = parts_suc q m u o h;
  drops_all_ok = drops_all_suc q m u o h;
}

-- the theorems
no_pars : (ps : List Param) → eqb (length ps) 0 ≡ true → types_of_pars ps ≡ []
no_pars [] e = refl
no_pars (x ∷ ps) e = absurd (true_false (sym e ∙ lib.Dec.eqb-suc-zero (length ps)))

pub main_fn : (q : Prog) (o : Option Fn) → from_option o false ch.is_main ≡ true
    → (f : Fn) × (o ≡ some f) × (types_of_pars f.pars ≡ []) × (f.ret ≡ int)
main_fn q none e = absurd (true_false (sym e))
main_fn q (some f) e = (
  f,
  refl,
  no_pars f.pars (and_left (eqb (length f.pars) 0) (same_ty f.ret int) e),
  same_ty_is f.ret int
      (and_right (eqb (length f.pars) 0) (same_ty f.ret int) e),
)

pub first_world : (q : Prog) (ins : List ℕ) → Invariant q.datas [] [] (blank ins)
first_world q ins =
    record {
      borrows = record { exclusivity = tt; anchored = tt };
      entries = tt;
      sums = λ f. refl;
      counted = record { by_size = λ k. refl; in_all = refl };
    }

pub run_ok : RunSafe
unfolding need
run_ok u m q ins o =
    let mn = main_fn q (fn_named q.funs ch.w_main) (okay q o).main1 in
    subst (λ z. Safe (AfterCall q [] [] int 0) (need (blank ins) z (λ f. calls u m q f [] (blank ins)))) (sym mn.1)
    (subst (λ z. Safe (AfterCall q [] [] z 0) (calls u m q mn.0 [] (blank ins))) mn.3
    ((preserved q m o u).calls_ok [] [] [] (blank ins) mn.0 me.nil_v (fns_ok q o ch.w_main mn.0 mn.1)
    (subst (λ z. Arguments [] z me.nil_v) (sym mn.2) no_args) (λ l i. absurd i) (first_world q ins)))

pub never_wrong : NeverWrong
never_wrong u m q ins s o e = stopped (subst (Safe (AfterCall q [] [] int 0)) e (run_ok u m q ins o))

live_total : (i : ℕ) (rs : List Root) → live_sum (λ j w. 1) i rs ≡ live_roots rs
live_total i [] = refl
live_total i (r ∷ rs) = ap (λ z. choose r.live 1 0 + z) (live_total (suc i) rs)

pub nothing_left : NothingLeft
nothing_left u m q ins v s o e =
    let a : AfterCall q [] [] int 0 v s = ended (subst (Safe (AfterCall q [] [] int 0)) e (run_ok u m q ins o)) in
    let w = pop_int q.datas a.top [] a.T s v a.value_entry a.invariant in
    (sym (live_total 0 s.roots) ∙ sym (w.1.sums (λ j k. 1)), w.1.counted.in_all ∙ sym (w.1.sums is_box), a.under)
