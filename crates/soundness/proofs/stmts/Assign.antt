-- The step for x = e: the new value goes in, what was there is dropped.
use mathlib.Core.Bool.{false}
use mathlib.Core.List.{List, [], ◌∷◌, ◌++◌}
use mathlib.Core.Logic.{inl}
use mathlib.Core.Option.{some}
use mathlib.Core.Path.{◌≡◌, refl, ◌∙◌, ap, subst}
use Prim.Native.Nat.{ℕ, suc}
use lib.ListN.{length}
use Rattle.language.specs.Base.{Lexeme}
use Rattle.language.specs.Syntax.{Expr, Prog, assign}
use Rattle.language.specs.Checks as ch
use Rattle.language.specs.Meaning.{Value, State, Limits, here, exec, drops, write_at}
use Rattle.language.specs.Meaning as me
use Rattle.soundness.specs.Trees.{Tree, flat}
use Rattle.soundness.specs.Borrows.{LevelLoan}
use Rattle.soundness.specs.Invariant.{in_flight, Entry, Invariant}
use Rattle.soundness.specs.Frames.{Scope, ValueEntry, Frame}
use Rattle.soundness.specs.Preserved.{safe_ok, Safe, AfterExec, Preserved}
use Rattle.soundness.proofs.invariant.Replace.{removed_entry}
use Rattle.soundness.proofs.invariant.Values.{owned_top}
use Rattle.soundness.proofs.frames.Moves.{swap_name}
use Rattle.soundness.proofs.Safety.{safe_then, safe_need}
use Rattle.soundness.proofs.statics.StmtRules.{assign_rule}

-- what was there is dropped; the frame stands
pub drop_old : (q : Prog) (m : Limits) (u : ℕ) → Preserved q m u
    → (C : List Entry) (ln : List LevelLoan) (g2 : ch.Env) (d : me.Env) (F : List Entry) (T : List Tree) (t : State) (k : ℕ) (e : Entry) (v : Value)
    → e.at ≡ in_flight v → t.under ≡ k → Scope (length C) ln g2 d F → Invariant q.datas (e ∷ (F ++ C)) T t
    → Safe (AfterExec q C ln g2 d k) (me.then (drops u m q v t) (λ j y. me.ok d y))
drop_old q m u h C ln g2 d F T t k e v e-at un mt w =
    safe_then (AfterExec q C ln g2 d k) (h.drops_ok e (F ++ C) T t v e-at w)
    (λ j y a. safe_ok (record { newer = []; grown = refl; F = F; T = a.T; names = mt; invariant = a.invariant; under = a.under ∙ un }))

-- x = e
pub assign_step : (q : Prog) (m : Limits) (u : ℕ) → Preserved q m u
    → (C : List Entry) (ln : List LevelLoan) (g g2 : ch.Env) (d : me.Env) (F : List Entry) (T : List Tree) (s : State) (x : Lexeme) (e1 : Expr)
    → ch.stmt q g (assign x e1) ≡ some g2 → Frame C ln [] g d [] F → Invariant q.datas (F ++ C) T s
    → Safe (AfterExec q C ln g2 d s.under) (exec (suc u) m q d (assign x e1) s)
unfolding me.eval
assign_step q m u h C ln g g2 d F T s x e1 e sc w =
    let i = assign_rule q g x e1 g2 e in
    let g1 = i.result.env in
    let vx = i.var1 in
    let P = AfterExec q C ln g2 d s.under in
    safe_then P (h.eval_ok C ln [] g d [] F T s e1 i.result i.is_expr sc w)
    (λ v t a. (let fl : ValueEntry v vx.ty a.top = subst (λ k. ValueEntry v k a.top) i.same_type a.value_entry in
    let o = owned_top q.datas a.top (a.F ++ C) a.T t v vx.ty i.is_owned fl a.invariant in
    let sc1 : Frame C ln [] g1 d [] a.F = record { names = a.names; above = λ l j. absurd j; under = sc.under } in
    let sw = swap_name q.datas C ln [] g1 d [] a.F x vx false a.top o.tree o.rest t sc1 i.is_var i.is_owned i.free
    (fl.place ∙ ap in_flight o.value) o.stored (inl o.typed)
    (subst (λ k. Invariant q.datas (a.top ∷ (a.F ++ C)) k t) o.trees a.invariant) in
    safe_need P _ _ _ sw.named
    (safe_need P _ _ _ sw.reads_old
    (safe_need P _ _ _ (ap (write_at t (here sw.root)) o.value ∙ sw.writes_new)
    (drop_old q m u h C ln g2 d sw.F (sw.old ∷ sw.T) sw.s2 s.under (removed_entry sw.old vx.gone vx.ty) (flat sw.old) refl
    (sw.under ∙ a.under) (subst (λ k. Scope (length C) ln k d sw.F) i.behind sw.names) sw.invariant)))))
