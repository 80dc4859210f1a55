-- Steady: calls, bodies and what is given.
use mathlib.Core.Bool.{true, false, ◌&&◌}
use mathlib.Core.List.{List, [], ◌∷◌, ◌++◌, append_assoc}
use mathlib.Core.Option.{Option, some, none}
use mathlib.Core.Path.{◌≡◌, refl, sym, ◌∙◌, ap, subst}
use Prim.Native.Nat.{ℕ, suc, ◌+◌}
use lib.Dec.{eqb}
use lib.ListN.{length}
use Rattle.language.specs.Base.{choose, from_option, no_twice}
use Rattle.language.specs.Syntax.{int, body, give, give_cond, give_match, Prog}
use Rattle.language.specs.Checks.{types_of_pars, pars_env, ref_pars, names_of_pars, is_body, same_ty, from_caller, looks_at, covers, arm_names}
use Rattle.language.specs.Checks as ch
use Rattle.language.specs.Meaning.{Value, State, Limits, list_of, with_under, roots_in, frame, newer, eval, tails, execs, place_of}
use Rattle.language.specs.Meaning as me
use Rattle.soundness.specs.Borrows.{LevelLoan}
use Rattle.soundness.specs.Invariant.{Invariant}
use Rattle.soundness.specs.Frames.{ValueEntry, all_loans_of, RootsNamed, Frame, RefParams}
use Rattle.soundness.specs.Preserved.{AfterEval, AfterGive, AfterExec, Preserved}
use Rattle.soundness.proofs.Basics.{some_is, true_false, append_nil, and_left, and_right}
use Rattle.soundness.proofs.invariant.Top.{invariant_same, pop_int}
use Rattle.soundness.proofs.statics.Rules.{same_ty_is}
use Rattle.soundness.proofs.statics.Exprs.{expr_like}
use Rattle.soundness.proofs.statics.Scopes.{scope_distinct, grows_lent}
use Rattle.soundness.proofs.statics.Accepted.{body_right}
use Rattle.soundness.proofs.statics.FromCaller.{lent_like}
use Rattle.soundness.proofs.statics.Stmts.{stmts_grows}
use Rattle.soundness.proofs.statics.Alternatives.{from_is}
use Rattle.soundness.proofs.frames.Parts.{newer_is, roots_parted}
use Rattle.soundness.proofs.calls.Enter.{lent_of, Entered, entered}
use Rattle.simulation.specs.Borrows.{env_roots, add_loc, SteadyE, SteadyBody, SteadyTail, SteadyEnds}
use Rattle.steady.proofs.Watch.{watch_push, watch_enter, watch_value}
use Rattle.steady.proofs.Steadies.{got, Steadies, CallsSteady, BodiesSteady, TailsSteady}

-- arguments become names; who is watched is under the call
pub steady_calls : (q : Prog) (m : Limits) (u : ℕ) → Steadies q m u → CallsSteady q m (suc u)
steady_calls q m u h C A T s f vs D hs ls ok1 fl low w wa =
    λ g g_is. subst (λ z. SteadyBody m q u D hs ls z [] f.does (roots_in s2 (list_of vs))) (some_is (sym en.named ∙ g_is))
    (h.bodies_steady C ln (pars_env f.pars []) en.env en.env [] en.F T (roots_in s2 (list_of vs)) (ref_pars f.pars) f.ret
    f.does D hs ls rt.1 (lent_of f.pars [] rt.0) (sym (append_nil en.env))
    (record { names = en.names; above = λ l i. absurd i; under = low }) en.invariant wa)
  where
    ln : List LevelLoan
    ln = all_loans_of A

    s1 : State
    s1 = record { roots = s.roots; classes = s.classes; under = s.under; turns = suc s.turns; ins = s.ins; outs = s.outs }

    s2 : State
    s2 = with_under s1 (s1.under + frame q f)

    rt : (no_twice (names_of_pars f.pars) ≡ true) × (is_body q (ref_pars f.pars) f.ret (pars_env f.pars []) f.does ≡ true)
    rt = body_right q f ok1

    en : Entered q.datas [] C ln T s2 f.pars vs
    en =
        entered q.datas [] C ln T s2 f.pars A (types_of_pars f.pars) vs fl refl rt.0 (λ l i. i)
        (invariant_same q.datas (A ++ C) T s s2 refl refl w)

-- a body: the frame's names are watched in its statements; what is given is under the names that end
pub steady_bodies : (q : Prog) (m : Limits) (u : ℕ) → Preserved q m u → Steadies q m u → BodiesSteady q m (suc u)
steady_bodies q m u p hyp C ln g d k h F T s qs t (body ss tl) D hs ls e lp d_is sc w wa = go (ch.stmts q g ss) refl e
  where
    go : (ob : Option ch.Env) → ch.stmts q g ss ≡ ob → from_option ob false (λ g2. ch.is_tail q qs t g2 tl) ≡ true
        → SteadyBody m q (suc u) D hs ls d h (body ss tl) s
    go none eq e1 = absurd (true_false (sym e1))
    go (some g2) eq e1 = (
      hyp.execs_steady C ln g g2 d F T s ss D (env_roots d ++ hs) ls eq sc w (watch_enter C d D hs ls wa),
      λ i z ex. behind i z (got (AfterExec q C ln g2 d s.under) (execs u m q d ss s) i z (p.execs_ok C ln g g2 d F T s ss eq sc w) ex),
    )
      where
        behind : (i : me.Env) (z : State) → AfterExec q C ln g2 d s.under i z → SteadyTail m q u D hs ls i tl z
            × ((v : Value) (y : State) → tails u m q i tl z ≡ me.ok v y → SteadyEnds m q u D hs (add_loc v ls) (newer i h) y)
        behind i z a = (
          hyp.tails_steady C ln g2 i a.F a.T z qs t tl D hs ls e1 lp2 sc2 a.invariant wa,
          λ v y ty. given v y
              (got (AfterGive q C ln i t z.under) (tails u m q i tl z) v y (p.tails_ok C ln g2 i a.F a.T z qs t tl e1 lp2 sc2 a.invariant) ty),
        )
          where
            lp2 : RefParams qs g2
            lp2 = grows_lent qs g g2 (stmts_grows q g ss g2 (scope_distinct (length C) ln g d F sc.names) eq) lp

            sc2 : Frame C ln [] g2 i [] a.F
            sc2 = record { names = a.names; above = λ l j. absurd j; under = sc.under }

            i_is : i ≡ (a.newer ++ k) ++ h
            i_is = a.grown ∙ ap (λ y. a.newer ++ y) d_is ∙ sym (append_assoc a.newer k h)

            new_is : newer i h ≡ a.newer ++ k
            new_is = ap (λ y. newer y h) i_is ∙ newer_is (a.newer ++ k) h

            given : (v : Value) (y : State) → AfterGive q C ln i t z.under v y → SteadyEnds m q u D hs (add_loc v ls) (newer i h) y
            given v y b =
                let pa = roots_parted (a.newer ++ k) h b.F (subst (λ j. RootsNamed j b.F) i_is b.named) in
                subst (λ j. SteadyEnds m q u D hs (add_loc v ls) j y) (sym new_is)
                (hyp.ends_steady pa.0 (pa.1 ++ (b.top ∷ C)) b.T y (a.newer ++ k) D hs (add_loc v ls) pa.3
                (subst (λ j. Invariant q.datas j b.T y)
                (ap (λ j. j ++ (b.top ∷ C)) pa.2 ∙ append_assoc pa.0 pa.1 (b.top ∷ C)) b.invariant)
                (watch_push pa.1 (b.top ∷ C) D hs (add_loc v ls) (watch_value C D hs ls b.top t v b.value_entry wa)))

pub steady_tails : (q : Prog) (m : Limits) (u : ℕ) → Preserved q m u → Steadies q m u → TailsSteady q m (suc u)
steady_tails q m u p h C ln g d F T s qs t (give x) D hs ls e lp sc w wa = go (ch.expr q [] g x) refl e
  where
    go : (o : Option ch.Typed) → ch.expr q [] g x ≡ o
        → from_option o false (λ r. same_ty r.ty t && from_caller (suc (length g)) g qs r.loans) ≡ true
        → SteadyE m q u D (env_roots d ++ hs) ls d x s
    go none ex e1 = absurd (true_false (sym e1))
    go (some r) ex e1 = h.eval_steady C ln [] g d [] F T s x r D (env_roots d ++ hs) ls ex sc w (watch_enter C d D hs ls wa)
steady_tails q m u p h C ln g d F T s qs t (give_cond e1 f1 f2) D hs ls e lp sc w wa = go (ch.expr q [] g e1) refl e
  where
    go : (o : Option ch.Typed) → ch.expr q [] g e1 ≡ o
        → from_option o false (λ r. same_ty r.ty int && (ch.is_body q qs t r.env f1 && ch.is_body q qs t r.env f2)) ≡ true
        → SteadyTail m q (suc u) D hs ls d (give_cond e1 f1 f2) s
    go none ex e2 = absurd (true_false (sym e2))
    go (some r) ex e2 =
        let ty = same_ty_is r.ty int (and_left (same_ty r.ty int) (ch.is_body q qs t r.env f1 && ch.is_body q qs t r.env f2) e2) in
        let two = and_right (same_ty r.ty int) (ch.is_body q qs t r.env f1 && ch.is_body q qs t r.env f2) e2 in
        let lp2 = lent_like qs g r.env (expr_like q [] g e1 r ex) lp in (
          h.eval_steady C ln [] g d [] F T s e1 r D (env_roots d ++ hs) ls ex sc w (watch_enter C d D hs ls wa),
          λ v z eq k k_is. (let a = got (AfterEval q C ln d [] r s.under) (eval u m q d e1 s) v z
              (p.eval_ok C ln [] g d [] F T s e1 r ex sc w) eq in
              let po = pop_int q.datas a.top (a.F ++ C) a.T z v (subst (λ y. ValueEntry v y a.top) ty a.value_entry) a.invariant in
              let sc2 : Frame C ln [] r.env d [] a.F = record { names = a.names; above = λ l i. absurd i; under = sc.under } in
              elim (eqb k 0) as (λ j. SteadyBody m q u D hs ls d d (choose j f2 f1) z) [
                | true ↦ h.bodies_steady C ln r.env d [] d a.F po.0 z qs t f2 D hs ls
                    (and_right (ch.is_body q qs t r.env f1) (ch.is_body q qs t r.env f2) two) lp2 refl sc2 po.1 wa
                | false ↦ h.bodies_steady C ln r.env d [] d a.F po.0 z qs t f1 D hs ls
                    (and_left (ch.is_body q qs t r.env f1) (ch.is_body q qs t r.env f2) two) lp2 refl sc2 po.1 wa
              ]),
        )
steady_tails q m u p h C ln g d F T s qs t (give_match w x as₁) D hs ls e lp sc wo wa =
    let y = from_is (ch.there g x) (λ v. from_option (looks_at q g v w v.ty) false
    (λ mm. covers mm.data1 (arm_names as₁) && ch.are_arms q qs t mm.env w mm.loans mm.data1 as₁)) e in
    let v = y.0 in
    let z = from_is (looks_at q g v w v.ty)
    (λ mm. covers mm.data1 (arm_names as₁) && ch.are_arms q qs t mm.env w mm.loans mm.data1 as₁) y.2 in
    let mm = z.0 in
    λ r r_is v1 rd z1 se sh sh_is. h.by_shape_steady C ln g d F T s qs t w x v mm as₁ (place_of r v1) sh D hs ls y.1 z.1
    (and_left (covers mm.data1 (arm_names as₁)) (ch.are_arms q qs t mm.env w mm.loans mm.data1 as₁) z.2)
    (and_right (covers mm.data1 (arm_names as₁)) (ch.are_arms q qs t mm.env w mm.loans mm.data1 as₁) z.2) lp
    (record { root = r; val = v1; seen = z1; named = r_is; reads = rd; place = refl; sees = se; shaped = sh_is }) sc wo wa
