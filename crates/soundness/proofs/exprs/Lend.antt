-- The step of eval for &mut x.
use mathlib.Core.Bool.{true}
use mathlib.Core.List.{List, [], ◌++◌}
use mathlib.Core.Option.{some}
use mathlib.Core.Path.{◌≡◌, refl}
use Prim.Native.Nat.{ℕ, suc}
use Rattle.language.specs.Base.{Lexeme}
use Rattle.language.specs.Syntax.{lend, Prog}
use Rattle.language.specs.Checks.{Loan}
use Rattle.language.specs.Checks as ch
use Rattle.language.specs.Meaning.{State, Limits, here, eval, ref_v}
use Rattle.language.specs.Meaning as me
use Rattle.soundness.specs.Trees.{Tree}
use Rattle.soundness.specs.Borrows.{LevelLoan, own}
use Rattle.soundness.specs.Invariant.{Entry, Invariant}
use Rattle.soundness.specs.Frames.{Frame}
use Rattle.soundness.specs.Preserved.{safe_ok, Safe, AfterEval}
use Rattle.soundness.proofs.statics.Rules.{there_is}
use Rattle.soundness.proofs.Safety.{safe_need}
use Rattle.soundness.proofs.statics.ExprRules.{lend_rule}
use Rattle.soundness.proofs.frames.Lookup.{name_at}
use Rattle.soundness.proofs.exprs.Results.{loan_after}
use Rattle.soundness.proofs.frames.AtName.{own_at}

-- &mut x
pub lend_step : (q : Prog) (m : Limits) (u : ℕ) (C : List Entry) (ln : List LevelLoan) (held : List Loan) (g : ch.Env) (d : me.Env)
    (H F : List Entry) (T : List Tree) (s : State) (x : Lexeme) (r : ch.Typed) → ch.expr q held g (lend x) ≡ some r → Frame C ln held g d H F
    → Invariant q.datas (H ++ (F ++ C)) T s → Safe (AfterEval q C ln d H r s.under) (eval (suc u) m q d (lend x) s)
unfolding me.eval
lend_step q m u C ln held g d H F T s x r e sc w =
    let i = lend_rule q held g x r e in
    let th = there_is g x i.var1 i.is_there in
    let n = name_at q.datas C ln held g d H F T s x i.var1 sc w th.0 in
    let own1 = own_at q.datas C ln g d H F T s x i.var1 n i.is_owned th.1 in
    safe_need (AfterEval q C ln d H r s.under) _ _ _ n.named
    (safe_ok (loan_after q C ln held g d H F T s x n.level true (own i.var1.ty) (record { owner = n.level; path = [] }) i.var1.ty
    (ref_v (here n.root)) r sc w n.levelled i.free own1.at_kind refl refl own1.valid i.behind))
