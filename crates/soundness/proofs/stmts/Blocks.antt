-- The steps for statements one after the other, and for a block, whose names end.
use mathlib.Core.Bool.{true}
use mathlib.Core.List.{List, [], ◌∷◌, ◌++◌, append_assoc}
use mathlib.Core.Path.{◌≡◌, refl, sym, ◌∙◌, ap, subst}
use Prim.Native.Nat.{ℕ, suc}
use native.Mathlib.Omega.{arith}
use lib.ListN.{length, length-append}
use Rattle.language.specs.Syntax.{Prog, nil_s, cons_s}
use Rattle.language.specs.Checks.{outer}
use Rattle.language.specs.Checks as ch
use Rattle.language.specs.Meaning.{State, Limits, ends, newer}
use Rattle.language.specs.Meaning as me
use Rattle.soundness.specs.Borrows.{Kind, own, borrow, inert}
use Rattle.soundness.specs.Invariant.{Entry, kinds, Invariant}
use Rattle.soundness.specs.Frames.{Scope, NoBorrows}
use Rattle.soundness.specs.Preserved.{safe_ok, Safe, AfterExec, ExecsOk, BlockOk, Preserved}
use Rattle.soundness.proofs.Basics.{some_is, if_some_is}
use Rattle.soundness.proofs.invariant.Top.{invariant_same}
use Rattle.soundness.proofs.statics.Exprs.{EnvLike, like_length}
use Rattle.soundness.proofs.statics.Scopes.{scope_distinct, outer_part}
use Rattle.soundness.proofs.statics.Stmts.{stmts_grows}
use Rattle.soundness.proofs.frames.Parts.{newer_is, scope_names, Parted, scope_parted}
use Rattle.soundness.proofs.Safety.{safe_then, safe_turn, safe_weaken}

pub no_borrows_under : (F1 F2 : List Entry) → NoBorrows (kinds (F1 ++ F2)) → NoBorrows (kinds F2)
no_borrows_under [] F2 h = h
no_borrows_under (e ∷ F1) F2 h = no_borrows_under F1 F2 (go e.kind h)
  where
    go : (s : Kind) → NoBorrows (s ∷ kinds (F1 ++ F2)) → NoBorrows (kinds (F1 ++ F2))
    go (own t) k = k
    go (borrow al t a ls) k = absurd k
    go inert k = k

suffix_is : (K g K2 g2 : ch.Env) → K ++ g ≡ K2 ++ g2 → length g ≡ length g2 → g ≡ g2
suffix_is [] g [] g2 e l = e
suffix_is [] g (y ∷ K2) g2 e l = absurd (let a : length g ≡ suc (length (K2 ++ g2)) = ap length e in let a2 = length-append K2 g2 in omega arith)
suffix_is (x ∷ K) g [] g2 e l = absurd (let a : suc (length (K ++ g)) ≡ length g2 = ap length e in let a2 = length-append K g in omega arith)
suffix_is (x ∷ K) g (y ∷ K2) g2 e l = let t : K ++ g ≡ K2 ++ g2 = cc in suffix_is K g K2 g2 t l

pub block_suc : (q : Prog) (m : Limits) (u : ℕ) → ch.accepts q ≡ true → Preserved q m u → BlockOk q m (suc u)
unfolding me.eval
block_suc q m u o hyp C ln gk gh g2 k h F T s x e le sc w =
    safe_then Post (hyp.execs_ok C ln (gk ++ gh) g2 (k ++ h) F T s x e sc w) behind
  where
    Post : me.Env → State → Type 0
    Post d2 t = (d2 ≡ h) × AfterExec q C ln (outer gh g2) h s.under d2 t

    behind : (i : me.Env) (t : State) → AfterExec q C ln g2 (k ++ h) s.under i t
        → Safe Post (me.then (ends u m q (newer i h) t) (λ j z. me.ok h z))
    behind i t a = subst (λ z. Safe Post (me.then (ends u m q z t) (λ j y. me.ok h y))) (sym new_is)
        (safe_then Post (hyp.ends_ok pa.F1 (pa.F2 ++ C) a.T t (a.newer ++ k) pa.named
        (subst (λ z. Invariant q.datas z a.T t) (ap (λ z. z ++ C) pa.FIs ∙ append_assoc pa.F1 pa.F2 C) a.invariant))
        (λ j z b. safe_ok (
          refl,
          record {
            newer = [];
            grown = refl;
            F = pa.F2;
            T = b.T;
            names = subst (λ y. Scope (length C) ln y h pa.F2)
                (low ∙ sym op.4) pa.names;
            invariant = b.invariant;
            under = b.under ∙ a.under;
          },
        )))
      where
        i_is : i ≡ (a.newer ++ k) ++ h
        i_is = a.grown ∙ sym (append_assoc a.newer k h)

        new_is : newer i h ≡ a.newer ++ k
        new_is = ap (λ z. newer z h) i_is ∙ newer_is (a.newer ++ k) h

        pa : Parted (length C) ln g2 (a.newer ++ k) h a.F
        pa = scope_parted (length C) ln g2 (a.newer ++ k) h a.F (subst (λ z. Scope (length C) ln g2 z a.F) i_is a.names)

        op : (K : ch.Env) × (gl : ch.Env) × (g2 ≡ K ++ gl) × EnvLike gh gl × (outer gh g2 ≡ gl)
        op = outer_part gk gh g2 (stmts_grows q (gk ++ gh) x g2 (scope_distinct (length C) ln (gk ++ gh) (k ++ h) F sc.names) e)

        low : pa.g2 ≡ op.1
        low = suffix_is pa.g1 pa.g2 op.0 op.1 (sym pa.g_is ∙ op.2)
            (let l1 = scope_names (length C) ln pa.g2 h pa.F2 pa.names in let l2 = like_length gh op.1 op.3 in let l3 = scope_names
            (length C) ln (gk ++ gh) (k ++ h) F sc.names in let l4 = length-append gk gh in let l5 = length-append k h in omega arith)

pub execs_suc : (q : Prog) (m : Limits) (u : ℕ) → ch.accepts q ≡ true → Preserved q m u → ExecsOk q m (suc u)
unfolding me.eval
execs_suc q m u o h C ln g g2 d F T s nil_s e sc w =
    safe_ok (record {
      newer = [];
      grown = refl;
      F = F;
      T = T;
      names = subst (λ z. Scope (length C) ln z d F) (some_is e) sc.names;
      invariant = w;
      under = refl;
    })
execs_suc q m u o h C ln g g2 d F T s (cons_s x ss) e sc w =
    let st = if_some_is (ch.stmt q g x) (λ k. ch.stmts q k ss) g2 e in
    let s1 : State = record { roots = s.roots; classes = s.classes; under = s.under; turns = suc s.turns; ins = s.ins; outs = s.outs } in
    safe_then (AfterExec q C ln g2 d s.under)
    (safe_turn (AfterExec q C ln st.0 d s.under) _ _ _
    (h.exec_ok C ln g st.0 d F T s1 x st.1 sc (invariant_same q.datas (F ++ C) T s s1 refl refl w)))
    (λ d2 t a. safe_weaken (AfterExec q C ln g2 d s.under)
    (h.execs_ok C ln st.0 g2 d2 a.F a.T t ss st.2
    (record { names = a.names; above = λ l i. absurd i; under = sc.under }) a.invariant)
    (λ d3 y b. record {
      newer = b.newer ++ a.newer;
      grown = b.grown ∙ ap (λ z. b.newer ++ z) a.grown ∙ sym
          (append_assoc b.newer a.newer d);
      F = b.F;
      T = b.T;
      names = b.names;
      invariant = b.invariant;
      under = b.under ∙ a.under;
    }))
