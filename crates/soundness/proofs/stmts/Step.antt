-- The step for a statement, case by case.
use mathlib.Core.Bool.{true}
use mathlib.Core.Path.{◌≡◌}
use Prim.Native.Nat.{ℕ, suc}
use Rattle.language.specs.Syntax.{Prog, assign, store, bind, put_s, cond, loop, match_s, open_s, inside}
use Rattle.language.specs.Checks as ch
use Rattle.language.specs.Meaning.{Limits}
use Rattle.soundness.specs.Preserved.{ExecOk, Preserved}
use Rattle.soundness.proofs.matches.Step.{match_step}
use Rattle.soundness.proofs.stmts.Plain.{bind_step, show_step, cond_step, loop_step}
use Rattle.soundness.proofs.stmts.Assign.{assign_step}
use Rattle.soundness.proofs.stmts.Store.{store_step}
use Rattle.soundness.proofs.stmts.Open.{open_step}
use Rattle.soundness.proofs.stmts.Inside.{inside_step}

pub exec_suc : (q : Prog) (m : Limits) (u : ℕ) → ch.accepts q ≡ true → Preserved q m u → ExecOk q m (suc u)
exec_suc q m u o h C ln g g2 d F T s (bind x a) e sc w = bind_step q m u h C ln g g2 d F T s x a e sc w
exec_suc q m u o h C ln g g2 d F T s (assign x a) e sc w = assign_step q m u h C ln g g2 d F T s x a e sc w
exec_suc q m u o h C ln g g2 d F T s (store x a) e sc w = store_step q m u h C ln g g2 d F T s x a e sc w
exec_suc q m u o h C ln g g2 d F T s (put_s a) e sc w = show_step q m u h C ln g g2 d F T s a e sc w
exec_suc q m u o h C ln g g2 d F T s (cond a f1 f2) e sc w = cond_step q m u h C ln g g2 d F T s a f1 f2 e sc w
exec_suc q m u o h C ln g g2 d F T s (loop a f1) e sc w = loop_step q m u h C ln g g2 d F T s a f1 e sc w
exec_suc q m u o h C ln g g2 d F T s (match_s y x as₁) e sc w = match_step q m u h C ln g g2 d F T s y x as₁ e sc w
exec_suc q m u o h C ln g g2 d F T s (open_s x y) e sc w = open_step q m u C ln g g2 d F T s x y e sc w
exec_suc q m u o h C ln g g2 d F T s (inside x y) e sc w = inside_step q m u C ln g g2 d F T s x y e sc w
