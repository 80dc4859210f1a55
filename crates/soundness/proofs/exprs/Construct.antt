-- The steps of eval for a constructor, a box and a call.
use mathlib.Core.Bool.{true, false}
use mathlib.Core.List.{List, [], ◌∷◌, ◌++◌}
use mathlib.Core.Logic.{inl, inr}
use mathlib.Core.Option.{some}
use mathlib.Core.Path.{◌≡◌, refl, sym, ◌∙◌, ap, subst}
use Prim.Native.Nat.{ℕ, suc, ◌<◌}
use native.Mathlib.Omega.{arith}
use lib.Dec.{leb}
use lib.ListN.{length, length-append}
use Rattle.language.specs.Base.{Lexeme}
use Rattle.language.specs.Syntax.{Ty, dat, box, Expr, ctor, boxed, call, Exprs, Fn, Prog}
use Rattle.language.specs.Checks.{Loan, types_of_pars, loan, Home, holds}
use Rattle.language.specs.Checks as ch
use Rattle.language.specs.Meaning.{Value, con_v, State, Limits, eval, nil_v, makes_box, count_in, words_of, peaks}
use Rattle.language.specs.Meaning as me
use Rattle.soundness.specs.Borrows.{In, LevelLoan, Kind, own, borrow, inert, loans_of}
use Rattle.soundness.specs.Trees.{Tree, con_t, box_t, flat}
use Rattle.soundness.specs.Invariant.{in_flight, Entry, Invariant}
use Rattle.soundness.specs.Frames.{LoansCover, KindFits, Scope, ValueEntry, all_loans_of, Arguments, no_args, Frame, owned_entry}
use Rattle.soundness.specs.Preserved.{safe_ok, safe_stop, Safe, AfterEval, Preserved}
use Rattle.soundness.proofs.Basics.{some_is, append_nil}
use Rattle.soundness.proofs.invariant.Values.{OwnedTop, owned_top}
use Rattle.soundness.proofs.invariant.Construct.{make_con, words_is, make_box}
use Rattle.soundness.proofs.statics.Accepted.{fields_owned, fns_ok}
use Rattle.soundness.proofs.frames.Levels.{name_level_low, scope_length}
use Rattle.soundness.proofs.Safety.{safe_then, safe_need, safe_choose, safe_weaken}
use Rattle.soundness.proofs.statics.ExprRules.{ctor_rule, call_rule, boxed_rule, BoxedRule}

-- C(..)
pub ctor_step : (q : Prog) (m : Limits) (u : ℕ) → ch.accepts q ≡ true → Preserved q m u
    → (C : List Entry) (ln : List LevelLoan) (held : List Loan) (g : ch.Env) (d : me.Env) (H F : List Entry) (T : List Tree) (s : State) (k : Lexeme)
    (es : Exprs) (r : ch.Typed) → ch.expr q held g (ctor k es) ≡ some r → Frame C ln held g d H F → Invariant q.datas (H ++ (F ++ C)) T s
    → Safe (AfterEval q C ln d H r s.under) (eval (suc u) m q d (ctor k es) s)
unfolding me.eval
ctor_step q m u o h C ln held g d H F T s k es r e sc w =
    let i = ctor_rule q held g k es r e in
    let hm : Home = i.home in
    let ts = hm.ctor1.fields in
    let r_is : record { ty = dat hm.data1.name; loans = []; env = i.fields.env } ≡ r = some_is i.behind in
    safe_then (AfterEval q C ln d H r s.under) (h.evals_ok C ln held g d [] H F T s es [] ts nil_v i.fields i.is_args no_args sc w)
    (λ vs t a. (let mk = make_con q.datas (H ++ (a.F ++ C)) a.K ts vs a.T t k hm i.is_home refl
    (subst (λ z. Arguments z ts vs) (append_nil a.K) a.arguments) (fields_owned q o k hm i.is_home) a.invariant in
    safe_ok (record {
      top = owned_entry (con_t k mk.0) (dat hm.data1.name);
      F = a.F;
      T = con_t k mk.0 ∷ mk.1;
      value_entry = record { place = ap (λ z. in_flight (con_v k z)) (sym mk.2); flag = refl; type = (sym (ap (λ z. z.ty) r_is), refl) };
      covered = λ l z. absurd z;
      names = subst (λ z. Scope (length C) ln z.env d a.F) r_is a.names;
      invariant = mk.3;
      under = a.under;
    })))

-- box e
pub boxed_step : (q : Prog) (m : Limits) (u : ℕ) → Preserved q m u
    → (C : List Entry) (ln : List LevelLoan) (held : List Loan) (g : ch.Env) (d : me.Env) (H F : List Entry) (T : List Tree) (s : State) (x : Expr)
    (r : ch.Typed) → ch.expr q held g (boxed x) ≡ some r → Frame C ln held g d H F → Invariant q.datas (H ++ (F ++ C)) T s
    → Safe (AfterEval q C ln d H r s.under) (eval (suc u) m q d (boxed x) s)
unfolding me.eval
boxed_step q m u h C ln held g d H F T s x r e sc w =
    safe_then Q (h.eval_ok C ln held g d H F T s x r1 i.is_expr sc w)
    (λ v t a. after v t a (owned_top q.datas a.top (H ++ (a.F ++ C)) a.T t v ty1 i.is_owned a.value_entry a.invariant))
  where
    Q : Value → State → Type 0
    Q = AfterEval q C ln d H r s.under

    i : BoxedRule q held g x r
    i = boxed_rule q held g x r e

    r1 : ch.Typed
    r1 = i.content

    ty1 : Ty
    ty1 = r1.ty

    r_is : record { ty = box r1.ty; loans = []; env = r1.env } ≡ r
    r_is = some_is i.behind

    after : (v : Value) (t : State) (a : AfterEval q C ln d H r1 s.under v t) → OwnedTop q.datas a.T t v ty1 a.top
        → Safe Q (makes_box m t v (words_of q v))
    after v t a ot = subst (λ z. Safe Q (makes_box m t z (words_of q z))) (sym ot.value)
        (safe_choose Q (leb (peaks (count_in t.classes k)) m.heap)
        (λ _. safe_ok (record {
          top = owned_entry (box_t (length t.roots) k tr) (box ty1);
          F = a.F;
          T = box_t (length t.roots) k tr ∷ ot.rest;
          value_entry = record { place = refl; flag = refl; type = (sym (ap (λ j. j.ty) r_is), i.is_owned) };
          covered = λ l j. absurd j;
          names = subst (λ j. Scope (length C) ln j.env d a.F) r_is a.names;
          invariant =
              make_box q.datas a.top (H ++ (a.F ++ C)) tr ot.rest t v ty1 k a.value_entry.place
              (words_is q tr ty1 ot.typed) ot.stored
              ot.typed (subst (λ j. Invariant q.datas (a.top ∷ (H ++ (a.F ++ C))) j t) ot.trees a.invariant);
          under = a.under;
        }))
        (λ _. safe_stop tt))
      where
        tr : Tree
        tr = ot.tree

        k : ℕ
        k = words_of q (flat tr)

-- f(..): all that's there is under the call
holds_all : (t : Ty) (sh : Kind) (ls : List Loan) (l : LevelLoan) → KindFits t sh → In l (loans_of sh) → holds t ls ≡ ls
holds_all t (own u) ls l su i = absurd i
holds_all t (borrow true u a L) ls l su i = ap (λ z. holds z ls) su
holds_all t (borrow false u a L) ls l su i = ap (λ z. holds z ls) su
holds_all t inert ls l su i = absurd su

-- loans that are covered are of the frame or under it
pub covered_low : (C : List Entry) (ln : List LevelLoan) (g : ch.Env) (d : me.Env) (H F : List Entry) (ls : List Loan) (L : List LevelLoan)
    → Scope (length C) ln g d F → ((l : LevelLoan) → In l ln → l.level < length C) → LoansCover (length C) ln g ls L → (l : LevelLoan) → In l L
    → l.level < length (H ++ (F ++ C))
covered_low C ln g d H F ls L mt low cov l i =
    let k1 = length-append H (F ++ C) in
    let k2 = length-append F C in
    let k3 = scope_length (length C) ln g d F mt in
    elim (cov l i) [
      | inl j ↦ (let k4 = low l j in omega arith)
      | inr j ↦ (let k4 = (name_level_low (length C) g j.0 l.level j.1).1 in omega arith)
    ]

pub call_step : (q : Prog) (m : Limits) (u : ℕ) → ch.accepts q ≡ true → Preserved q m u
    → (C : List Entry) (ln : List LevelLoan) (held : List Loan) (g : ch.Env) (d : me.Env) (H F : List Entry) (T : List Tree) (s : State) (f : Lexeme)
    (es : Exprs) (r : ch.Typed) → ch.expr q held g (call f es) ≡ some r → Frame C ln held g d H F → Invariant q.datas (H ++ (F ++ C)) T s
    → Safe (AfterEval q C ln d H r s.under) (eval (suc u) m q d (call f es) s)
unfolding me.eval
call_step q m u o h C ln held g d H F T s f es r e sc w =
    let i = call_rule q held g f es r e in
    let fn : Fn = i.callee in
    let ts = types_of_pars fn.pars in
    let r1 = i.arguments in
    let P = AfterEval q C ln d H r s.under in
    let r_is : record { ty = fn.ret; loans = holds fn.ret r1.loans; env = r1.env } ≡ r = some_is i.behind in
    safe_then P (h.evals_ok C ln held g d [] H F T s es [] ts nil_v r1 i.is_args no_args sc w)
    (λ vs t a. safe_need P _ _ _ i.is_fn
    (safe_weaken P
    (h.calls_ok (H ++ (a.F ++ C)) a.K a.T t fn vs (fns_ok q o f fn i.is_fn)
    (subst (λ z. Arguments z ts vs) (append_nil a.K) a.arguments)
    (covered_low C ln r1.env d H a.F r1.loans (all_loans_of a.K) a.names sc.under a.covered) a.invariant)
    (λ v t2 a2. record {
      top = a2.top;
      F = a.F;
      T = a2.T;
      value_entry = subst (λ z. ValueEntry v z.ty a2.top) r_is a2.value_entry;
      covered = subst (λ z. LoansCover (length C) ln z.env z.loans (loans_of a2.top.kind)) r_is
          (λ l j. elim (a.covered l (a2.loans l j)) [
            | inl k ↦ inl k
            | inr k ↦ inr (
              k.0,
              k.1,
              subst (In (loan k.0 l.alone)) (sym (holds_all fn.ret a2.top.kind r1.loans l a2.value_entry.type j)) k.2,
            )
          ]);
      names = subst (λ z. Scope (length C) ln z.env d a.F) r_is a.names;
      invariant = a2.invariant;
      under = a2.under ∙ a.under;
    })))
