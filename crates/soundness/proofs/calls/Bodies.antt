-- The step for a body: statements, what's given, and then the newer names end.
use mathlib.Core.Bool.{true, false}
use mathlib.Core.List.{◌∷◌, ◌++◌, append_assoc}
use mathlib.Core.Option.{Option, some, none}
use mathlib.Core.Path.{◌≡◌, refl, sym, ◌∙◌, ap, subst}
use Prim.Native.Nat.{ℕ, suc}
use lib.ListN.{length}
use Rattle.language.specs.Base.{from_option}
use Rattle.language.specs.Syntax.{Prog, body}
use Rattle.language.specs.Checks as ch
use Rattle.language.specs.Meaning.{Value, State, Limits, Res, tails, execs, ends, newer}
use Rattle.language.specs.Meaning as me
use Rattle.soundness.specs.Invariant.{kinds, Invariant}
use Rattle.soundness.specs.Frames.{RootsNamed, NoBorrows}
use Rattle.soundness.specs.Preserved.{safe_ok, Safe, AfterGive, AfterExec, BodiesOk, Preserved}
use Rattle.soundness.proofs.Basics.{true_false}
use Rattle.soundness.proofs.statics.Scopes.{scope_distinct, grows_lent}
use Rattle.soundness.proofs.statics.Stmts.{stmts_grows}
use Rattle.soundness.proofs.frames.Parts.{newer_is, roots_parted}
use Rattle.soundness.proofs.Safety.{safe_then}
use Rattle.soundness.proofs.stmts.Blocks.{no_borrows_under}

pub bodies_suc : (q : Prog) (m : Limits) (u : ℕ) → ch.accepts q ≡ true → Preserved q m u → BodiesOk q m (suc u)
unfolding me.eval
bodies_suc q m u o hyp C ln g d k h F T s qs t (body ss tl) e lp d_is sc w = go (ch.stmts q g ss) refl e
  where
    Post : Value → State → Type 0
    Post = AfterGive q C ln h t s.under

    rest : me.Env → State → Res Value
    rest i z = me.then (tails u m q i tl z) (λ v y. me.then (ends u m q (newer i h) y) (λ j x. me.ok v x))

    go : (ob : Option ch.Env) → ch.stmts q g ss ≡ ob → from_option ob false (λ g2. ch.is_tail q qs t g2 tl) ≡ true
        → Safe Post (me.then (execs u m q d ss s) rest)
    go none eq e1 = absurd (true_false (sym e1))
    go (some g2) eq e1 =
        safe_then Post (hyp.execs_ok C ln g g2 d F T s ss eq sc w) behind
      where
        behind : (i : me.Env) (z : State) → AfterExec q C ln g2 d s.under i z → Safe Post (rest i z)
        behind i z a =
            safe_then Post (hyp.tails_ok C ln g2 i a.F a.T z qs t tl e1
            (grows_lent qs g g2 (stmts_grows q g ss g2 (scope_distinct (length C) ln g d F sc.names) eq) lp)
            (record { names = a.names; above = λ l j. absurd j; under = sc.under }) a.invariant)
            given
          where
            i_is : i ≡ (a.newer ++ k) ++ h
            i_is = a.grown ∙ ap (λ y. a.newer ++ y) d_is ∙ sym (append_assoc a.newer k h)

            new_is : newer i h ≡ a.newer ++ k
            new_is = ap (λ y. newer y h) i_is ∙ newer_is (a.newer ++ k) h

            given : (v : Value) (y : State) → AfterGive q C ln i t z.under v y → Safe Post (me.then (ends u m q (newer i h) y) (λ j x. me.ok v x))
            given v y b =
                let pa = roots_parted (a.newer ++ k) h b.F (subst (λ j. RootsNamed j b.F) i_is b.named) in
                subst (λ j. Safe Post (me.then (ends u m q j y) (λ j1 x. me.ok v x))) (sym new_is)
                (safe_then Post (hyp.ends_ok pa.0 (pa.1 ++ (b.top ∷ C)) b.T y (a.newer ++ k) pa.3
                (subst (λ j. Invariant q.datas j b.T y)
                (ap (λ j. j ++ (b.top ∷ C)) pa.2 ∙ append_assoc pa.0 pa.1 (b.top ∷ C)) b.invariant))
                (λ j x f. safe_ok (record {
                  top = b.top;
                  F = pa.1;
                  T = f.T;
                  value_entry = b.value_entry;
                  loans = b.loans;
                  named = pa.4;
                  no_refs = no_borrows_under
                      pa.0 pa.1 (subst (λ y1. NoBorrows (kinds y1)) pa.2 b.no_refs);
                  invariant = f.invariant;
                  under = f.under
                      ∙ b.under ∙ a.under;
                })))
