-- The steps for let, put, if and while.
use mathlib.Core.Bool.{true, false}
use mathlib.Core.List.{List, [], ◌∷◌, ◌++◌}
use mathlib.Core.Option.{some}
use mathlib.Core.Path.{◌≡◌, refl, ◌∙◌, subst}
use Prim.Native.Nat.{ℕ, suc}
use lib.Dec.{eqb}
use lib.ListN.{length}
use Rattle.language.specs.Base.{choose, Lexeme}
use Rattle.language.specs.Syntax.{int, Expr, Stmts, Prog, bind, put_s, cond, loop}
use Rattle.language.specs.Checks.{fresh, outer}
use Rattle.language.specs.Checks as ch
use Rattle.language.specs.Meaning.{State, Limits, Res, eval, block, exec, num_of, shows}
use Rattle.language.specs.Meaning as me
use Rattle.soundness.specs.Trees.{Tree}
use Rattle.soundness.specs.Borrows.{LevelLoan}
use Rattle.soundness.specs.Invariant.{Entry, Invariant}
use Rattle.soundness.specs.Frames.{Scope, ValueEntry, Frame}
use Rattle.soundness.specs.Preserved.{safe_ok, Safe, AfterExec, Preserved}
use Rattle.soundness.proofs.invariant.Top.{invariant_same, with_root, pop_int}
use Rattle.soundness.proofs.invariant.Rooting.{root_mid}
use Rattle.soundness.proofs.invariant.Flags.{Weaker}
use Rattle.soundness.proofs.invariant.Values.{top_int}
use Rattle.soundness.proofs.statics.Exprs.{like_then, expr_like}
use Rattle.soundness.proofs.statics.Scopes.{scope_distinct, like_distinct, like_sym, both_left, both_right, not_more_gone, fresh_none, outer_like}
use Rattle.soundness.proofs.statics.Stmts.{stmts_grows}
use Rattle.soundness.proofs.Safety.{safe_then, safe_need, safe_turn, safe_choose, safe_weaken, after_weak, turned}
use Rattle.soundness.proofs.statics.StmtRules.{bind_rule, put_rule, cond_rule, loop_rule}

-- let x = e
pub bind_step : (q : Prog) (m : Limits) (u : ℕ) → Preserved q m u
    → (C : List Entry) (ln : List LevelLoan) (g g2 : ch.Env) (d : me.Env) (F : List Entry) (T : List Tree) (s : State) (x : Lexeme) (e1 : Expr)
    → ch.stmt q g (bind x e1) ≡ some g2 → Frame C ln [] g d [] F → Invariant q.datas (F ++ C) T s
    → Safe (AfterExec q C ln g2 d s.under) (exec (suc u) m q d (bind x e1) s)
unfolding me.eval
bind_step q m u h C ln g g2 d F T s x e1 e sc w =
    let i = bind_rule q g x e1 g2 e in
    safe_then (AfterExec q C ln g2 d s.under) (h.eval_ok C ln [] g d [] F T s e1 i.result i.is_expr sc w)
    (λ v t a. safe_ok (record {
      newer = record { name = x; root = length t.roots } ∷ [];
      grown = refl;
      F = with_root a.top (length t.roots) ∷ a.F;
      T = a.T;
      names =
          subst (λ k. Scope (length C) ln k (record { name = x; root = length t.roots } ∷ d) (with_root a.top (length t.roots) ∷ a.F))
          i.behind (
            record {
              name = refl;
              place = refl;
              flag = a.value_entry.flag;
              type = a.value_entry.type;
              loans = a.covered;
              fresh = fresh_none i.result.env x i.is_fresh;
            },
            a.names,
          );
      invariant = root_mid q.datas [] a.top v (a.F ++ C) a.T t a.value_entry.place a.invariant;
      under = a.under;
    }))

-- an int is computed, then what's to be done with it
pub int_then : (q : Prog) (m : Limits) (u : ℕ) → Preserved q m u
    → {A : Type 0} (Q : A → State → Type 0) (f : State → ℕ → Res A) (C : List Entry) (ln : List LevelLoan) (g : ch.Env) (d : me.Env) (F : List Entry)
    (T : List Tree) (s : State) (e1 : Expr) (r : ch.Typed) → ch.expr q [] g e1 ≡ some r → r.ty ≡ int → Frame C ln [] g d [] F
    → Invariant q.datas (F ++ C) T s
    → ((k : ℕ) (F2 : List Entry) (T2 : List Tree) (t : State) → t.under ≡ s.under → Frame C ln [] r.env d [] F2
    → Invariant q.datas (F2 ++ C) T2 t → Safe Q (f t k)) → Safe Q (me.then (eval u m q d e1 s) (λ v t. me.need t (num_of v) (f t)))
int_then q m u h {A} Q f C ln g d F T s e1 r e ty sc w go =
    safe_then Q (h.eval_ok C ln [] g d [] F T s e1 r e sc w)
    (λ v t a. (let fl : ValueEntry v int a.top = subst (λ z. ValueEntry v z a.top) ty a.value_entry in
    let nm = top_int q.datas a.top (a.F ++ C) a.T t v fl a.invariant in
    let po = pop_int q.datas a.top (a.F ++ C) a.T t v fl a.invariant in
    safe_need Q _ _ _ nm.2
    (go nm.0 a.F po.0 t a.under (record { names = a.names; above = λ l i. absurd i; under = sc.under }) po.1)))

-- put e
pub show_step : (q : Prog) (m : Limits) (u : ℕ) → Preserved q m u
    → (C : List Entry) (ln : List LevelLoan) (g g2 : ch.Env) (d : me.Env) (F : List Entry) (T : List Tree) (s : State) (e1 : Expr)
    → ch.stmt q g (put_s e1) ≡ some g2 → Frame C ln [] g d [] F → Invariant q.datas (F ++ C) T s
    → Safe (AfterExec q C ln g2 d s.under) (exec (suc u) m q d (put_s e1) s)
unfolding me.eval
show_step q m u h C ln g g2 d F T s e1 e sc w =
    let i = put_rule q g e1 g2 e in
    int_then q m u h (AfterExec q C ln g2 d s.under) (λ t k. me.ok d (shows t k)) C ln g d F T s e1 i.result i.is_expr i.is_int sc w
    (λ k F2 T2 t un sc2 w2. safe_ok (record {
      newer = [];
      grown = refl;
      F = F2;
      T = T2;
      names = subst (λ z. Scope (length C) ln z d F2) i.behind sc2.names;
      invariant = invariant_same q.datas (F2 ++ C) T2 t (shows t k) refl refl w2;
      under = un;
    }))

-- a block of the frame's own names
own_block : (q : Prog) (m : Limits) (u : ℕ) → Preserved q m u
    → (C : List Entry) (ln : List LevelLoan) (g i g2 : ch.Env) (d : me.Env) (F : List Entry) (T : List Tree) (s : State) (x : Stmts) (k : ℕ)
    → ch.stmts q g x ≡ some i → Weaker (outer g i) g2 → s.under ≡ k → Frame C ln [] g d [] F → Invariant q.datas (F ++ C) T s
    → Safe (AfterExec q C ln g2 d k) (block u m q d d x s)
own_block q m u h C ln g i g2 d F T s x k e wk un sc w =
    safe_weaken (AfterExec q C ln g2 d k) (h.block_ok C ln [] g i [] d F T s x e refl sc w)
    (λ d2 t a. subst (λ z. AfterExec q C ln g2 d z d2 t) un (after_weak q C ln (outer g i) g2 d s.under d2 t wk a.1))

-- if e
pub cond_step : (q : Prog) (m : Limits) (u : ℕ) → Preserved q m u
    → (C : List Entry) (ln : List LevelLoan) (g g2 : ch.Env) (d : me.Env) (F : List Entry) (T : List Tree) (s : State) (e1 : Expr) (f1 f2 : Stmts)
    → ch.stmt q g (cond e1 f1 f2) ≡ some g2 → Frame C ln [] g d [] F → Invariant q.datas (F ++ C) T s
    → Safe (AfterExec q C ln g2 d s.under) (exec (suc u) m q d (cond e1 f1 f2) s)
unfolding me.eval
cond_step q m u h C ln g g2 d F T s e1 f1 f2 e sc w =
    let i = cond_rule q g e1 f1 f2 g2 e in
    let gr = i.result.env in
    let P = AfterExec q C ln g2 d s.under in
    int_then q m u h P (λ t k. block u m q d d (choose (eqb k 0) f2 f1) t) C ln g d F T s e1 i.result i.is_expr i.is_int sc w
    (λ k F2 T2 t un sc2 w2. (let di = scope_distinct (length C) ln gr d F2 sc2.names in
    let l1 = outer_like gr i.yes (stmts_grows q gr f1 i.yes di i.is_yes) in
    let l2 = outer_like gr i.no (stmts_grows q gr f2 i.no di i.is_no) in
    let alike = like_then (outer gr i.yes) gr (outer gr i.no) (like_sym gr (outer gr i.yes) l1) l2 in
    elim (eqb k 0) as (λ z. Safe P (block u m q d d (choose z f2 f1) t)) [
      | true ↦ own_block q m u h C ln gr i.no g2 d F2 T2 t f2 s.under i.is_no
          (subst (Weaker (outer gr i.no)) i.behind
          (both_right (outer gr i.yes) (outer gr i.no) alike (like_distinct gr (outer gr i.no) l2 di))) un sc2 w2
      | false ↦ own_block q m u h C ln gr i.yes g2 d F2 T2 t f1 s.under i.is_yes
          (subst (Weaker (outer gr i.yes)) i.behind (both_left (outer gr i.yes) (outer gr i.no))) un sc2 w2
    ]))

-- while e
pub loop_step : (q : Prog) (m : Limits) (u : ℕ) → Preserved q m u
    → (C : List Entry) (ln : List LevelLoan) (g g2 : ch.Env) (d : me.Env) (F : List Entry) (T : List Tree) (s : State) (e1 : Expr) (f1 : Stmts)
    → ch.stmt q g (loop e1 f1) ≡ some g2 → Frame C ln [] g d [] F → Invariant q.datas (F ++ C) T s
    → Safe (AfterExec q C ln g2 d s.under) (exec (suc u) m q d (loop e1 f1) s)
unfolding me.eval
loop_step q m u h C ln g g2 d F T s e1 f1 e sc w =
    let i = loop_rule q g e1 f1 g2 e in
    let gr = i.result.env in
    let lk = expr_like q [] g e1 i.result i.is_expr in
    let P = AfterExec q C ln g2 d s.under in
    let again : me.Env → State → Res me.Env = λ d2 t. me.turn m t (λ t2. exec u m q d (loop e1 f1) t2) in
    int_then q m u h P (λ t k. choose (eqb k 0) (me.ok d t) (me.then (block u m q d d f1 t) again)) C ln g d F T s e1 i.result
    i.is_expr i.is_int sc w
    (λ k F2 T2 t un sc2 w2. (let di = scope_distinct (length C) ln gr d F2 sc2.names in
    let l1 = outer_like gr i.round (stmts_grows q gr f1 i.round di i.is_round) in
    let wk = not_more_gone g (outer gr i.round) (like_then g gr (outer gr i.round) lk l1) (like_distinct gr (outer gr i.round) l1 di)
    i.nothing_moved in
    safe_choose P (eqb k 0)
    (λ _. safe_ok (record {
      newer = [];
      grown = refl;
      F = F2;
      T = T2;
      names = subst (λ j. Scope (length C) ln j d F2) i.behind sc2.names;
      invariant = w2;
      under = un;
    }))
    (λ _. safe_then P (h.block_ok C ln [] gr i.round [] d F2 T2 t f1 i.is_round refl sc2 w2)
    (λ d2 t2 a. (let b = after_weak q C ln (outer gr i.round) g d t.under d2 t2 wk a.1 in
    let sc3 : Frame C ln [] g d [] b.F
    = record { names = subst (λ j. Scope (length C) ln g j b.F) a.0 b.names; above = λ l j. absurd j; under = sc.under } in
    safe_turn P _ _ _
    (subst (λ j. Safe (AfterExec q C ln g2 d j) (exec u m q d (loop e1 f1) (turned t2))) (b.under ∙ un)
    (h.exec_ok C ln g g2 d b.F b.T (turned t2) (loop e1 f1) e sc3
    (invariant_same q.datas (b.F ++ C) b.T t2 (turned t2) refl refl b.invariant))))))))
