-- The step for arguments, one after the other.
use mathlib.Core.Bool.{true}
use mathlib.Core.List.{[], ◌∷◌, ◌++◌, append_assoc, List}
use mathlib.Core.Logic.{inl, inr}
use mathlib.Core.Path.{◌≡◌, refl, sym, ◌∙◌, subst}
use Prim.Native.Nat.{ℕ, suc}
use lib.ListN.{length}
use Rattle.language.specs.Syntax.{Prog, nil_e, cons_e}
use Rattle.language.specs.Checks.{loan}
use Rattle.language.specs.Checks as ch
use Rattle.language.specs.Meaning.{Limits, append}
use Rattle.language.specs.Meaning as me
use Rattle.soundness.specs.Borrows.{In, loans_of, LevelLoan}
use Rattle.soundness.specs.Invariant.{Invariant, Entry}
use Rattle.soundness.specs.Frames.{LoansCover, Scope, ValueEntry, all_loans_of, Arguments, snoc_arg}
use Rattle.soundness.specs.Preserved.{safe_ok, AfterArgs, EvalsOk, Preserved}
use Rattle.soundness.proofs.Basics.{no_some, some_is, append_nil, in_left, in_right}
use Rattle.soundness.proofs.frames.Covers.{cover_same, in_either, cover_both, all_loans_both}
use Rattle.soundness.proofs.Safety.{safe_then, safe_weaken}
use Rattle.soundness.proofs.statics.ExprRules.{args_rule}

-- the loans of one argument, and those of the arguments behind it
all_covered : (q : Prog) (C : List Entry) (ln : List LevelLoan) (d : me.Env) (F F2 K : List Entry) (e : Entry) (r1 r2 : ch.Typed)
    → Scope (length C) ln r1.env d F → Scope (length C) ln r2.env d F2 → LoansCover (length C) ln r1.env r1.loans (loans_of e.kind)
    → LoansCover (length C) ln r2.env r2.loans (all_loans_of K)
    → LoansCover (length C) ln r2.env (r1.loans ++ r2.loans) (all_loans_of (K ++ (e ∷ [])))
all_covered q C ln d F F2 K e r1 r2 mt1 mt2 c1 c2 l i =
    elim (in_either l (all_loans_of K) (loans_of e.kind ++ []) (subst (In l) (all_loans_both K (e ∷ [])) i)) [
      | inl k ↦ elim (c2 l k) [ inl j ↦ inl j | inr j ↦ inr (j.0, j.1, in_right (loan j.0 l.alone) r1.loans r2.loans j.2) ]
      | inr k ↦ elim (cover_same (length C) ln r1.env r2.env d F F2 mt1 mt2 r1.loans (loans_of e.kind) c1 l
          (subst (In l) (append_nil (loans_of e.kind)) k)) [
            | inl j ↦ inl j
            | inr j ↦ inr (j.0, j.1, in_left (loan j.0 l.alone) r1.loans r2.loans j.2)
          ]
    ]

pub evals_suc : (q : Prog) (m : Limits) (u : ℕ) → ch.accepts q ≡ true → Preserved q m u → EvalsOk q m (suc u)
unfolding me.eval
evals_suc q m u o h C ln held g d A H F T s nil_e us [] vs r e fl sc w =
    safe_ok (record {
      K = [];
      F = F;
      T = T;
      arguments = subst (λ z. Arguments A z vs) (sym (append_nil us)) fl;
      covered = λ l i. absurd i;
      names = subst
          (λ z. Scope (length C) ln z.env d F) (some_is e) sc.names;
      invariant = w;
      under = refl;
    })
evals_suc q m u o h C ln held g d A H F T s nil_e us (t ∷ ts) vs r e fl sc w = absurd (no_some e)
evals_suc q m u o h C ln held g d A H F T s (cons_e x es) us [] vs r e fl sc w = absurd (no_some e)
evals_suc q m u o h C ln held g d A H F T s (cons_e x es) us (t ∷ ts) vs r e fl sc w =
    let i = args_rule q held g x es t ts r e in
    let r1 = i.first in
    let r2 = i.others in
    let P = AfterArgs q C ln d A H (us ++ (t ∷ ts)) r s.under in
    safe_then P (h.eval_ok C ln held g d (A ++ H) F T s x r1 i.is_first sc w)
    (λ v z a. (let tp = a.top in
    let held_on = cover_same (length C) ln g r1.env d F a.F sc.names a.names held (all_loans_of (A ++ H)) sc.above in
    safe_weaken P
    (h.evals_ok C ln (r1.loans ++ held) r1.env d (tp ∷ A) H a.F a.T z es (us ++ (t ∷ [])) ts (append vs v) r2 i.is_others
    (snoc_arg tp t v fl (subst (λ k. ValueEntry v k tp) i.first_type a.value_entry))
    (record {
      names = a.names;
      above = cover_both (length C) ln r1.env r1.loans held (loans_of tp.kind) (all_loans_of (A ++ H)) a.covered held_on;
      under = sc.under;
    })
    a.invariant)
    (λ ws z2 b. record {
      K = b.K ++ (tp ∷ []);
      F = b.F;
      T = b.T;
      arguments = subst (λ k. Arguments k (us ++ (t ∷ ts)) ws) (sym (append_assoc b.K (tp ∷ []) A))
          (subst (λ k. Arguments (b.K ++ (tp ∷ A)) k ws) (append_assoc us (t ∷ []) ts) b.arguments);
      covered = subst (λ k. LoansCover (length C) ln k.env k.loans (all_loans_of (b.K ++ (tp ∷ [])))) (some_is i.behind)
          (all_covered q C ln d a.F b.F b.K tp r1 r2 a.names b.names a.covered b.covered);
      names = subst (λ k. Scope (length C) ln k.env d b.F) (some_is i.behind) b.names;
      invariant = subst (λ k. Invariant q.datas k b.T z2) (sym (append_assoc b.K (tp ∷ []) ((A ++ H) ++ (b.F ++ C)))) b.invariant;
      under = b.under ∙ a.under;
    })))
