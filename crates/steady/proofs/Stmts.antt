-- Steady: statements one after the other, blocks, and each statement.
use mathlib.Core.Bool.{true, false}
use mathlib.Core.List.{List, [], ◌++◌, append_assoc}
use mathlib.Core.Option.{some}
use mathlib.Core.Path.{◌≡◌, refl, sym, ◌∙◌, ap, subst}
use Prim.Native.Nat.{ℕ, suc}
use lib.Dec.{eqb}
use lib.ListN.{length}
use Rattle.language.specs.Base.{choose}
use Rattle.language.specs.Syntax.{int, Prog, nil_s, cons_s, Stmts, Expr, assign, store, bind, put_s, cond, loop, match_s, open_s, inside}
use Rattle.language.specs.Checks.{outer}
use Rattle.language.specs.Checks as ch
use Rattle.language.specs.Meaning.{Loc, Value, State, Limits, newer, eval, execs, block, exec, place_of}
use Rattle.language.specs.Meaning as me
use Rattle.soundness.specs.Trees.{Tree}
use Rattle.soundness.specs.Borrows.{LevelLoan}
use Rattle.soundness.specs.Invariant.{Entry, Invariant}
use Rattle.soundness.specs.Frames.{Scope, ValueEntry, Frame}
use Rattle.soundness.specs.Preserved.{AfterEval, AfterExec, Preserved}
use Rattle.soundness.proofs.Basics.{if_some_is}
use Rattle.soundness.proofs.Safety.{turned, after_weak}
use Rattle.soundness.proofs.invariant.Top.{invariant_same, pop_int}
use Rattle.soundness.proofs.statics.Exprs.{expr_like, like_then}
use Rattle.soundness.proofs.statics.Scopes.{scope_distinct, like_distinct, not_more_gone, outer_like}
use Rattle.soundness.proofs.statics.Stmts.{stmts_grows}
use Rattle.soundness.proofs.statics.StmtRules.{bind_rule, put_rule, cond_rule, loop_rule, match_rule}
use Rattle.soundness.proofs.frames.Parts.{newer_is, Parted, scope_parted}
use Rattle.simulation.specs.Borrows.{env_roots, SteadyEnds, SteadyBlock, SteadyS}
use Rattle.steady.proofs.Watch.{FrameWatch, frame_watched, watch_names}
use Rattle.steady.proofs.Steadies.{got, Steadies, ExecsSteady, BlockSteady, ExecSteady}
use Rattle.steady.proofs.Writes.{steady_assign, steady_store}
use Rattle.steady.proofs.Boxes.{steady_open, steady_inside}

pub steady_ss : (q : Prog) (m : Limits) (u : ℕ) → Preserved q m u → Steadies q m u → ExecsSteady q m (suc u)
steady_ss q m u p h C ln g g2 d F T s nil_s D hs ls e sc w wa = tt
steady_ss q m u p h C ln g g2 d F T s (cons_s x ss) D hs ls e sc w wa =
    let st = if_some_is (ch.stmt q g x) (λ k. ch.stmts q k ss) g2 e in
    let w1 = invariant_same q.datas (F ++ C) T s (turned s) refl refl w in (
      h.exec_steady C ln g st.0 d F T (turned s) x D hs ls st.1 sc w1 wa,
      λ d2 t eq. (let a = got (AfterExec q C ln st.0 d s.under) (exec u m q d x (turned s)) d2 t
          (p.exec_ok C ln g st.0 d F T (turned s) x st.1 sc w1) eq in
          h.execs_steady C ln st.0 g2 d2 a.F a.T t ss D (env_roots (newer d2 d) ++ hs) ls st.2
          (record { names = a.names; above = λ l i. absurd i; under = sc.under }) a.invariant
          (subst (λ z. FrameWatch C [] z D (env_roots (newer z d) ++ hs) ls) (sym a.grown) (watch_names C a.newer d D hs ls wa))),
    )

-- the inner names end: nobody that stays points to them
pub steady_block : (q : Prog) (m : Limits) (u : ℕ) → Preserved q m u → Steadies q m u → BlockSteady q m (suc u)
steady_block q m u p hyp C ln gk gh g2 k h F T s x D hs ls e le sc w wa = (
  hyp.execs_steady C ln (gk ++ gh) g2 (k ++ h) F T s x D (env_roots (newer (k ++ h) h) ++ hs) ls e sc w (watch_names C k h D hs ls wa),
  λ i t eq. behind i t (got (AfterExec q C ln g2 (k ++ h) s.under) (execs u m q (k ++ h) x s) i t
      (p.execs_ok C ln (gk ++ gh) g2 (k ++ h) F T s x e sc w) eq),
)
  where
    behind : (i : me.Env) (t : State) → AfterExec q C ln g2 (k ++ h) s.under i t → SteadyEnds m q u D hs ls (newer i h) t
    behind i t a =
        subst (λ z. SteadyEnds m q u D hs ls z t) (sym new_is)
        (hyp.ends_steady pa.F1 (pa.F2 ++ C) a.T t (a.newer ++ k) D hs ls pa.named
        (subst (λ z. Invariant q.datas z a.T t) (ap (λ z. z ++ C) pa.FIs ∙ append_assoc pa.F1 pa.F2 C) a.invariant)
        (frame_watched C [] ln pa.g2 h pa.F2 D hs ls pa.names wa))
      where
        i_is : i ≡ (a.newer ++ k) ++ h
        i_is = a.grown ∙ sym (append_assoc a.newer k h)

        new_is : newer i h ≡ a.newer ++ k
        new_is = ap (λ z. newer z h) i_is ∙ newer_is (a.newer ++ k) h

        pa : Parted (length C) ln g2 (a.newer ++ k) h a.F
        pa = scope_parted (length C) ln g2 (a.newer ++ k) h a.F (subst (λ z. Scope (length C) ln g2 z a.F) i_is a.names)

-- behind a number that was computed: the frame as it is then
record NumberBehind (q : Prog) (C : List Entry) (ln : List LevelLoan) (d : me.Env) (r : ch.Typed) (t : State) : Type 0 where
  F : List Entry
  T : List Tree
  frame : Frame C ln [] r.env d [] F
  invariant : Invariant q.datas (F ++ C) T t

number_behind : (q : Prog) (m : Limits) (u : ℕ) → Preserved q m u
    → (C : List Entry) (ln : List LevelLoan) (g : ch.Env) (d : me.Env) (F : List Entry) (T : List Tree) (s : State) (e1 : Expr) (r : ch.Typed)
    (v : Value) (t : State) → ch.expr q [] g e1 ≡ some r → r.ty ≡ int → Frame C ln [] g d [] F → Invariant q.datas (F ++ C) T s
    → eval u m q d e1 s ≡ me.ok v t → NumberBehind q C ln d r t
number_behind q m u p C ln g d F T s e1 r v t e ty sc w eq =
    let a = got (AfterEval q C ln d [] r s.under) (eval u m q d e1 s) v t (p.eval_ok C ln [] g d [] F T s e1 r e sc w) eq in
    let po = pop_int q.datas a.top (a.F ++ C) a.T t v (subst (λ z. ValueEntry v z a.top) ty a.value_entry) a.invariant in
    record { F = a.F; T = po.0; frame = record { names = a.names; above = λ l i. absurd i; under = sc.under }; invariant = po.1 }

-- if e
steady_cond : (q : Prog) (m : Limits) (u : ℕ) → Preserved q m u → Steadies q m u
    → (C : List Entry) (ln : List LevelLoan) (g g2 : ch.Env) (d : me.Env) (F : List Entry) (T : List Tree) (s : State) (e1 : Expr) (f1 f2 : Stmts)
    (D hs : List ℕ) (ls : List Loc) → ch.stmt q g (cond e1 f1 f2) ≡ some g2 → Frame C ln [] g d [] F → Invariant q.datas (F ++ C) T s
    → FrameWatch C [] d D hs ls → SteadyS m q (suc u) D hs ls d (cond e1 f1 f2) s
steady_cond q m u p h C ln g g2 d F T s e1 f1 f2 D hs ls e sc w wa =
    let i = cond_rule q g e1 f1 f2 g2 e in
    let gr = i.result.env in (
      h.eval_steady C ln [] g d [] F T s e1 i.result D hs ls i.is_expr sc w wa,
      λ v t eq k k_is. (let b = number_behind q m u p C ln g d F T s e1 i.result v t i.is_expr i.is_int sc w eq in
          elim (eqb k 0) as (λ z. SteadyBlock m q u D hs ls d d (choose z f2 f1) t) [
            | true ↦ h.block_steady C ln [] gr i.no [] d b.F b.T t f2 D hs ls i.is_no refl b.frame b.invariant wa
            | false ↦ h.block_steady C ln [] gr i.yes [] d b.F b.T t f1 D hs ls i.is_yes refl b.frame b.invariant wa
          ]),
    )

-- while e
steady_loop : (q : Prog) (m : Limits) (u : ℕ) → Preserved q m u → Steadies q m u
    → (C : List Entry) (ln : List LevelLoan) (g g2 : ch.Env) (d : me.Env) (F : List Entry) (T : List Tree) (s : State) (e1 : Expr) (f1 : Stmts)
    (D hs : List ℕ) (ls : List Loc) → ch.stmt q g (loop e1 f1) ≡ some g2 → Frame C ln [] g d [] F → Invariant q.datas (F ++ C) T s
    → FrameWatch C [] d D hs ls → SteadyS m q (suc u) D hs ls d (loop e1 f1) s
steady_loop q m u p h C ln g g2 d F T s e1 f1 D hs ls e sc w wa =
    let i = loop_rule q g e1 f1 g2 e in
    let gr = i.result.env in
    let lk = expr_like q [] g e1 i.result i.is_expr in (
      h.eval_steady C ln [] g d [] F T s e1 i.result D hs ls i.is_expr sc w wa,
      λ v t eq k k_is ne. (let b = number_behind q m u p C ln g d F T s e1 i.result v t i.is_expr i.is_int sc w eq in
          let di = scope_distinct (length C) ln gr d b.F b.frame.names in
          let l1 = outer_like gr i.round (stmts_grows q gr f1 i.round di i.is_round) in
          let wk = not_more_gone g (outer gr i.round) (like_then g gr (outer gr i.round) lk l1) (like_distinct gr (outer gr i.round) l1 di)
          i.nothing_moved in (
            h.block_steady C ln [] gr i.round [] d b.F b.T t f1 D hs ls i.is_round refl b.frame b.invariant wa,
            λ d2 t2 eq2. (let a = got (λ d3 y. (d3 ≡ d) × AfterExec q C ln (outer gr i.round) d t.under d3 y) (block u m q d d f1 t) d2 t2
                (p.block_ok C ln [] gr i.round [] d b.F b.T t f1 i.is_round refl b.frame b.invariant) eq2 in
                let c = after_weak q C ln (outer gr i.round) g d t.under d2 t2 wk a.1 in
                h.exec_steady C ln g g2 d c.F c.T (turned t2) (loop e1 f1) D hs ls e
                (record { names = subst (λ j. Scope (length C) ln g j c.F) a.0 c.names; above = λ l j. absurd j; under = sc.under })
                (invariant_same q.datas (c.F ++ C) c.T t2 (turned t2) refl refl c.invariant) wa),
          )),
    )

pub steady_s : (q : Prog) (m : Limits) (u : ℕ) → Preserved q m u → Steadies q m u → ExecSteady q m (suc u)
steady_s q m u p h C ln g g2 d F T s (bind x a) D hs ls e sc w wa =
    let i = bind_rule q g x a g2 e in h.eval_steady C ln [] g d [] F T s a i.result D hs ls i.is_expr sc w wa
steady_s q m u p h C ln g g2 d F T s (assign x a) D hs ls e sc w wa = steady_assign q m u p h C ln g g2 d F T s x a D hs ls e sc w wa
steady_s q m u p h C ln g g2 d F T s (store x a) D hs ls e sc w wa = steady_store q m u p h C ln g g2 d F T s x a D hs ls e sc w wa
steady_s q m u p h C ln g g2 d F T s (put_s a) D hs ls e sc w wa =
    let i = put_rule q g a g2 e in h.eval_steady C ln [] g d [] F T s a i.result D hs ls i.is_expr sc w wa
steady_s q m u p h C ln g g2 d F T s (cond a f1 f2) D hs ls e sc w wa = steady_cond q m u p h C ln g g2 d F T s a f1 f2 D hs ls e sc w wa
steady_s q m u p h C ln g g2 d F T s (loop a f1) D hs ls e sc w wa = steady_loop q m u p h C ln g g2 d F T s a f1 D hs ls e sc w wa
steady_s q m u p h C ln g g2 d F T s (match_s y x as₁) D hs ls e sc w wa =
    let i = match_rule q g y x as₁ g2 e in
    λ r r_is v rd z se sh sh_is. h.by_alt_steady C ln g g2 d F T s y x i.var1 i.seen as₁ (place_of r v) sh D hs ls i.is_there i.is_seen
    i.is_covered i.behind
    (record { root = r; val = v; seen = z; named = r_is; reads = rd; place = refl; sees = se; shaped = sh_is }) sc w wa
steady_s q m u p h C ln g g2 d F T s (open_s x y) D hs ls e sc w wa = steady_open q m u C ln g g2 d F T s x y D hs ls e sc w wa
steady_s q m u p h C ln g g2 d F T s (inside x y) D hs ls e sc w wa = steady_inside q m u C ln g g2 d F T s x y D hs ls e sc w wa
