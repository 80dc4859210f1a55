-- The step for a call: arguments become the parameters' names, the body runs above all that's there.
use mathlib.Core.Bool.{true}
use mathlib.Core.List.{List, [], ◌∷◌, ◌++◌}
use mathlib.Core.Path.{◌≡◌, refl, sym}
use Prim.Native.Nat.{ℕ, suc, ◌+◌}
use Rattle.language.specs.Base.{no_twice}
use Rattle.language.specs.Syntax.{Ty, Prog}
use Rattle.language.specs.Checks.{types_of_pars, pars_env, ref_pars, names_of_pars, is_body}
use Rattle.language.specs.Checks as ch
use Rattle.language.specs.Meaning.{Value, State, Limits, list_of, with_under, roots_in, frame}
use Rattle.language.specs.Meaning as me
use Rattle.soundness.specs.Borrows.{LevelLoan}
use Rattle.soundness.specs.Invariant.{Entry, Invariant}
use Rattle.soundness.specs.Frames.{all_loans_of, RootsNamed}
use Rattle.soundness.specs.Preserved.{AfterCall, AfterGive, CallsOk, Preserved}
use Rattle.soundness.proofs.Basics.{append_nil}
use Rattle.soundness.proofs.invariant.Top.{invariant_same}
use Rattle.soundness.proofs.statics.Accepted.{body_right}
use Rattle.soundness.proofs.Safety.{safe_need, safe_turn, safe_under}
use Rattle.soundness.proofs.calls.Enter.{lent_of, Entered, entered}

-- the call
given_call : (q : Prog) (C A : List Entry) (t : Ty) (j k : ℕ) (v : Value) (s : State) → AfterGive q C (all_loans_of A) [] t j v s
    → AfterCall q C A t k v (with_under s k)
given_call q C A t j k v s a = go a.F a.named a.invariant
  where
    go : (F : List Entry) → RootsNamed [] F → Invariant q.datas (F ++ (a.top ∷ C)) a.T s → AfterCall q C A t k v (with_under s k)
    go [] nm w =
        record {
          top = a.top;
          T = a.T;
          value_entry = a.value_entry;
          loans = a.loans;
          invariant = invariant_same q.datas (a.top ∷ C) a.T s
              (with_under s k) refl refl w;
          under = refl;
        }
    go (e ∷ F) nm w = absurd nm

pub calls_suc : (q : Prog) (m : Limits) (u : ℕ) → ch.accepts q ≡ true → Preserved q m u → CallsOk q m (suc u)
unfolding me.eval
calls_suc q m u o h C A T s f vs ok1 fl low w =
    safe_turn (AfterCall q C A f.ret s.under) _ _ _
    (safe_under (AfterCall q C A f.ret s.under) _ _ _ _
    (safe_need (AfterGive q C ln [] f.ret (roots_in s2 (list_of vs)).under) _ _ _ en.named
    (h.bodies_ok C ln (pars_env f.pars []) en.env en.env [] en.F T (roots_in s2 (list_of vs)) (ref_pars f.pars) f.ret
    f.does is_b (lent_of f.pars [] nt) (sym (append_nil en.env))
    (record { names = en.names; above = λ l i. absurd i; under = low }) en.invariant))
    (λ v t a. given_call q C A f.ret (roots_in s2 (list_of vs)).under s.under v t a))
  where
    ln : List LevelLoan
    ln = all_loans_of A

    s1 : State
    s1 = record { roots = s.roots; classes = s.classes; under = s.under; turns = suc s.turns; ins = s.ins; outs = s.outs }

    s2 : State
    s2 = with_under s1 (s1.under + frame q f)

    nt : no_twice (names_of_pars f.pars) ≡ true
    nt = (body_right q f ok1).0

    is_b : is_body q (ref_pars f.pars) f.ret (pars_env f.pars []) f.does ≡ true
    is_b = (body_right q f ok1).1

    en : Entered q.datas [] C ln T s2 f.pars vs
    en =
        entered q.datas [] C ln T s2 f.pars A (types_of_pars f.pars) vs fl refl nt (λ l i. i)
        (invariant_same q.datas (A ++ C) T s s2 refl refl w)
