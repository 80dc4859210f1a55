-- The step for what a body gives, case by case.
use mathlib.Core.Bool.{true}
use mathlib.Core.Path.{◌≡◌}
use Prim.Native.Nat.{ℕ, suc}
use Rattle.language.specs.Syntax.{Prog, give, give_cond, give_match}
use Rattle.language.specs.Checks as ch
use Rattle.language.specs.Meaning.{Limits}
use Rattle.soundness.specs.Preserved.{TailsOk, Preserved}
use Rattle.soundness.proofs.matches.Step.{give_match_step}
use Rattle.soundness.proofs.calls.Give.{give_step, give_cond_step}

pub tails_suc : (q : Prog) (m : Limits) (u : ℕ) → ch.accepts q ≡ true → Preserved q m u → TailsOk q m (suc u)
tails_suc q m u o h C ln g d F T s qs t (give a) e lp sc w = give_step q m u h C ln g d F T s qs t a e lp sc w
tails_suc q m u o h C ln g d F T s qs t (give_cond a f1 f2) e lp sc w = give_cond_step q m u h C ln g d F T s qs t a f1 f2 e lp sc w
tails_suc q m u o h C ln g d F T s qs t (give_match y x as₁) e lp sc w = give_match_step q m u h C ln g d F T s qs t y x as₁ e lp sc w
