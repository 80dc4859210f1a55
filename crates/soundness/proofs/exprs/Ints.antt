-- The steps of eval whose value is a number: num, read, op, *r.
use mathlib.Core.List.{List, [], ◌∷◌, ◌++◌}
use mathlib.Core.Option.{some}
use mathlib.Core.Path.{◌≡◌, refl, ◌∙◌, ap, subst}
use Prim.Native.Nat.{ℕ, suc}
use lib.ListN.{drop}
use Rattle.language.specs.Base.{Lexeme}
use Rattle.language.specs.Syntax.{int, Expr, num, op, load, get_e, Prog}
use Rattle.language.specs.Checks.{Loan}
use Rattle.language.specs.Checks as ch
use Rattle.language.specs.Meaning.{State, Limits, eval, num_of, worked, next_read, two_64}
use Rattle.language.specs.Meaning as me
use Rattle.soundness.specs.Trees.{Tree}
use Rattle.soundness.specs.Borrows.{LevelLoan}
use Rattle.soundness.specs.Invariant.{Entry, Invariant}
use Rattle.soundness.specs.Frames.{ValueEntry, Frame}
use Rattle.soundness.specs.Preserved.{safe_ok, Safe, AfterEval, Preserved}
use Rattle.soundness.proofs.invariant.Top.{invariant_same, pop_int}
use Rattle.soundness.proofs.invariant.Values.{typed_int, top_int}
use Rattle.soundness.proofs.statics.Rules.{there_is}
use Rattle.soundness.proofs.frames.Lookup.{name_at}
use Rattle.soundness.proofs.Safety.{safe_then, safe_need}
use Rattle.soundness.proofs.exprs.Results.{int_after, frame_after}
use Rattle.soundness.proofs.statics.ExprRules.{op_rule, load_rule}
use Rattle.soundness.proofs.frames.AtName.{borrow_at}
use Rattle.soundness.proofs.invariant.Kinds.{loadable_is}

pub num_step : (q : Prog) (m : Limits) (u : ℕ) (C : List Entry) (ln : List LevelLoan) (held : List Loan) (g : ch.Env) (d : me.Env) (H F : List Entry)
    (T : List Tree) (s : State) (k : ℕ) (r : ch.Typed) → ch.expr q held g (num k) ≡ some r → Frame C ln held g d H F
    → Invariant q.datas (H ++ (F ++ C)) T s → Safe (AfterEval q C ln d H r s.under) (eval (suc u) m q d (num k) s)
unfolding me.eval
num_step q m u C ln held g d H F T s k r e sc w = safe_ok (int_after q C ln g d H F T s k s.under r e sc.names w refl)

pub read_step : (q : Prog) (m : Limits) (u : ℕ) (C : List Entry) (ln : List LevelLoan) (held : List Loan) (g : ch.Env) (d : me.Env)
    (H F : List Entry) (T : List Tree) (s : State) (r : ch.Typed) → ch.expr q held g get_e ≡ some r → Frame C ln held g d H F
    → Invariant q.datas (H ++ (F ++ C)) T s → Safe (AfterEval q C ln d H r s.under) (eval (suc u) m q d get_e s)
unfolding me.eval
read_step q m u C ln held g d H F T s r e sc w =
    let s2 : State = record {
      roots = s.roots;
      classes = s.classes;
      under = s.under;
      turns = s.turns;
      ins = drop 1 s.ins;
      outs = s.outs ++ (two_64 ∷ []);
    } in
    safe_ok (int_after q C ln g d H F T s2 (next_read s.ins) s.under r e sc.names
    (invariant_same q.datas (H ++ (F ++ C)) T s s2 refl refl w) refl)

-- the two numbers leave the stack as soon as they're there
pub op_step : (q : Prog) (m : Limits) (u : ℕ) → Preserved q m u
    → (C : List Entry) (ln : List LevelLoan) (held : List Loan) (g : ch.Env) (d : me.Env) (H F : List Entry) (T : List Tree) (s : State) (o : ℕ)
    (a1 a2 : Expr) (r : ch.Typed) → ch.expr q held g (op o a1 a2) ≡ some r → Frame C ln held g d H F → Invariant q.datas (H ++ (F ++ C)) T s
    → Safe (AfterEval q C ln d H r s.under) (eval (suc u) m q d (op o a1 a2) s)
unfolding me.eval
op_step q m u h C ln held g d H F T s o a1 a2 r e sc w =
    let i = op_rule q held g o a1 a2 r e in
    let g1 = i.left.env in
    let P = AfterEval q C ln d H r s.under in
    safe_then P (h.eval_ok C ln held g d H F T s a1 i.left i.is_left sc w)
    (λ v t a. (let fl1 : ValueEntry v int a.top = subst (λ k. ValueEntry v k a.top) i.left_int a.value_entry in
    let n1 = top_int q.datas a.top (H ++ (a.F ++ C)) a.T t v fl1 a.invariant in
    let p1 = pop_int q.datas a.top (H ++ (a.F ++ C)) a.T t v fl1 a.invariant in
    safe_then P
    (h.eval_ok C ln held g1 d H a.F p1.0 t a2 i.right i.is_right (frame_after C ln held g g1 d H F a.F sc a.names) p1.1)
    (λ v2 t2 a3. (let fl2 : ValueEntry v2 int a3.top = subst (λ k. ValueEntry v2 k a3.top) i.right_int a3.value_entry in
    let n2 = top_int q.datas a3.top (H ++ (a3.F ++ C)) a3.T t2 v2 fl2 a3.invariant in
    let p2 = pop_int q.datas a3.top (H ++ (a3.F ++ C)) a3.T t2 v2 fl2 a3.invariant in
    safe_need P _ _ _ n1.2
    (safe_need P _ _ _ n2.2
    (safe_ok (int_after q C ln i.right.env d H a3.F p2.0 t2 (worked o n1.0 n2.0) s.under r i.behind a3.names p2.1
    (a3.under ∙ a.under))))))))

-- *x
pub load_step : (q : Prog) (m : Limits) (u : ℕ) (C : List Entry) (ln : List LevelLoan) (held : List Loan) (g : ch.Env) (d : me.Env)
    (H F : List Entry) (T : List Tree) (s : State) (x : Lexeme) (r : ch.Typed) → ch.expr q held g (load x) ≡ some r → Frame C ln held g d H F
    → Invariant q.datas (H ++ (F ++ C)) T s → Safe (AfterEval q C ln d H r s.under) (eval (suc u) m q d (load x) s)
unfolding me.eval
load_step q m u C ln held g d H F T s x r e sc w =
    let i = load_rule q held g x r e in
    let n = name_at q.datas C ln held g d H F T s x i.var1 sc w (there_is g x i.var1 i.is_there).0 in
    let ld = loadable_is i.var1.ty i.is_loadable in
    let b = borrow_at q.datas C ln g d H F T s x i.var1 ld.0 int w n ld.1 in
    let k = typed_int q.datas b.valid.part b.valid.typed in
    let Q = AfterEval q C ln d H r s.under in
    safe_need Q _ _ _ n.named
    (safe_need Q _ _ _ b.reads_it
    (safe_need Q _ _ _ refl
    (safe_need Q _ _ _ b.leads
    (safe_need Q _ _ _ (ap num_of k.1)
    (safe_ok (int_after q C ln g d H F T s k.0 s.under r i.behind sc.names w refl))))))
