-- The induction on fuel: runs of accepted programs are steady.
use mathlib.Core.Bool.{true}
use mathlib.Core.List.{[]}
use mathlib.Core.Path.{◌≡◌, sym, ◌∙◌, subst}
use Prim.Native.Nat.{ℕ, zero, suc}
use Rattle.language.specs.Syntax.{Prog}
use Rattle.language.specs.Checks.{accepts, fn_named, w_main, types_of_pars}
use Rattle.language.specs.Meaning.{Limits, nil_v, blank}
use Rattle.soundness.specs.Frames.{Arguments, no_args}
use Rattle.soundness.proofs.Basics.{some_is}
use Rattle.soundness.proofs.statics.Accepted.{okay, fns_ok}
use Rattle.soundness.proofs.Theorems.{preserved, main_fn, first_world}
use Rattle.steady.specs.Promise.{SteadyAccepted}
use Rattle.steady.proofs.Watch.{no_watch}
use Rattle.steady.proofs.Steadies.{Steadies, steadies_zero}
use Rattle.steady.proofs.Drops.{steady_ends, steady_drop, steady_lasts, steady_parts, steady_drops_all}
use Rattle.steady.proofs.Exprs.{steady_e, steady_es}
use Rattle.steady.proofs.Calls.{steady_calls, steady_bodies, steady_tails}
use Rattle.steady.proofs.Matches.{steady_alt, steady_arm}
use Rattle.steady.proofs.Stmts.{steady_ss, steady_block, steady_s}

steadies : (q : Prog) (m : Limits) → accepts q ≡ true → (u : ℕ) → Steadies q m u
steadies q m o zero = steadies_zero q m
steadies q m o (suc u) = let p = preserved q m o u in let h = steadies q m o u in record {
  eval_steady = steady_e q m u o p h;
  evals_steady = steady_es q m u p h;
  calls_steady = steady_calls q m u h;
  bodies_steady = steady_bodies q m u p h;
  tails_steady = steady_tails q m u p h;
  by_shape_steady = steady_arm q m u o h;
  execs_steady = steady_ss q m u p h;
  block_steady = steady_block q m u p h;
  exec_steady = steady_s q m u p h;
  by_alt_steady = steady_alt q m u o h;
  ends_steady = steady_ends q m u p h;
  drops_steady = steady_drop q m u o p h;
  lasts_steady = steady_lasts q m u p h;
  parts_steady = steady_parts q m u h;
  drops_all_steady = steady_drops_all q m u p h;
}

-- main is called with nothing on the stack
pub steady_accepted : SteadyAccepted
steady_accepted q o K u ins fn fn_is =
    let mn = main_fn q (fn_named q.funs w_main) (okay q o).main1 in
    let f_is : mn.0 ≡ fn = some_is (sym mn.1 ∙ fn_is) in
    (steadies q K.lent o u).calls_steady [] [] [] (blank ins) fn nil_v [] [] [] (fns_ok q o w_main fn fn_is)
    (subst (λ z. Arguments [] z nil_v) (sym (subst (λ z. types_of_pars z.pars ≡ []) f_is mn.2)) no_args) (λ l i. absurd i)
    (first_world q ins) (no_watch [])
