-- The step for an expression, case by case.
use mathlib.Core.Bool.{true}
use mathlib.Core.Path.{◌≡◌}
use Prim.Native.Nat.{ℕ, suc}
use Rattle.language.specs.Syntax.{num, var, op, ctor, boxed, call, share, lend, load, get_e, Prog}
use Rattle.language.specs.Checks as ch
use Rattle.language.specs.Meaning.{Limits}
use Rattle.soundness.specs.Preserved.{EvalOk, Preserved}
use Rattle.soundness.proofs.exprs.Ints.{num_step, read_step, op_step, load_step}
use Rattle.soundness.proofs.exprs.Names.{var_step, share_step}
use Rattle.soundness.proofs.exprs.Lend.{lend_step}
use Rattle.soundness.proofs.exprs.Construct.{ctor_step, boxed_step, call_step}

pub eval_suc : (q : Prog) (m : Limits) (u : ℕ) → ch.accepts q ≡ true → Preserved q m u → EvalOk q m (suc u)
eval_suc q m u o h C ln held g d H F T s (num k) r e sc w = num_step q m u C ln held g d H F T s k r e sc w
eval_suc q m u o h C ln held g d H F T s (var x) r e sc w = var_step q m u C ln held g d H F T s x r e sc w
eval_suc q m u o h C ln held g d H F T s (op i a1 a2) r e sc w = op_step q m u h C ln held g d H F T s i a1 a2 r e sc w
eval_suc q m u o h C ln held g d H F T s (ctor k es) r e sc w = ctor_step q m u o h C ln held g d H F T s k es r e sc w
eval_suc q m u o h C ln held g d H F T s (boxed x) r e sc w = boxed_step q m u h C ln held g d H F T s x r e sc w
eval_suc q m u o h C ln held g d H F T s (call f es) r e sc w = call_step q m u o h C ln held g d H F T s f es r e sc w
eval_suc q m u o h C ln held g d H F T s (share x) r e sc w = share_step q m u C ln held g d H F T s x r e sc w
eval_suc q m u o h C ln held g d H F T s (lend x) r e sc w = lend_step q m u C ln held g d H F T s x r e sc w
eval_suc q m u o h C ln held g d H F T s (load x) r e sc w = load_step q m u C ln held g d H F T s x r e sc w
eval_suc q m u o h C ln held g d H F T s get_e r e sc w = read_step q m u C ln held g d H F T s r e sc w
