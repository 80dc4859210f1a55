-- The steps for matches: by_alt and by_shape, and the cases match of statements and of what is given.
use mathlib.Core.Bool.{true, false, ◌&&◌}
use mathlib.Core.List.{List, [], ◌++◌}
use mathlib.Core.Option.{Option, some}
use mathlib.Core.Path.{◌≡◌, refl, sym, ◌∙◌, subst}
use Prim.Native.Nat.{ℕ, suc}
use lib.ListN.{length}
use Rattle.language.specs.Base.{from_option, Lexeme}
use Rattle.language.specs.Syntax.{Ty, Access, Alts, Arms, Prog, match_s, give_match, Ctor}
use Rattle.language.specs.Checks.{outer, bind_all, looks_at, covers, alt_names, arm_names}
use Rattle.language.specs.Checks as ch
use Rattle.language.specs.Meaning.{Value, State, Limits, place_of, bodies, tails, exec, shape, roots_in, parts, find_alt}
use Rattle.language.specs.Meaning as me
use Rattle.soundness.specs.Trees.{Tree}
use Rattle.soundness.specs.Borrows.{LevelLoan}
use Rattle.soundness.specs.Invariant.{Entry, Invariant}
use Rattle.soundness.specs.Frames.{Scope, Frame, RefParams}
use Rattle.soundness.specs.Preserved.{Safe, AfterGive, AfterExec, ByShapeOk, ByAltOk, Preserved}
use Rattle.soundness.proofs.Basics.{some_is, and_left, and_right}
use Rattle.soundness.proofs.statics.Exprs.{EnvLike}
use Rattle.soundness.proofs.statics.Scopes.{Distinct, scope_distinct, like_distinct, grows_lent, bind_grows, looks_like}
use Rattle.soundness.proofs.statics.Stmts.{AltFound, alt_found}
use Rattle.soundness.proofs.statics.Alternatives.{covered, found_alt, ChosenArm, from_is, chosen_arm}
use Rattle.soundness.proofs.Safety.{safe_need, safe_weaken, after_weak}
use Rattle.soundness.proofs.matches.Patterns.{Bound}
use Rattle.soundness.proofs.matches.View.{Looked}
use Rattle.soundness.proofs.matches.Scrutinee.{looks}
use Rattle.soundness.proofs.statics.StmtRules.{match_rule}
use Rattle.soundness.proofs.matches.Found.{scrutinee_seen}

-- the fields of one constructor, found twice
pub same_ctor : (x y : Ctor) (o : Option Ctor) → o ≡ some x → o ≡ some y → x ≡ y
same_ctor x y o e f = some_is (sym e ∙ f)

pub by_alt_suc : (q : Prog) (m : Limits) (u : ℕ) → ch.accepts q ≡ true → Preserved q m u → ByAltOk q m (suc u)
unfolding me.eval
by_alt_suc q m u o h C ln g g2 d F T s w x v mm as₁ l (shape k vs) th la cv al lk sc wo =
    safe_need P _ _ _ fa.1
    (safe_need P _ _ _ lo.takes
    (safe_need P _ _ _ bd.named
    (safe_weaken P (h.block_ok C ln bd.gk mm.env ac.behind bd.k d bd.F bd.T t2 fa.0.does
    (subst (λ y. ch.stmts q y fa.0.does ≡ some ac.behind) bd.static ac.runs) bd.lens
    (record { names = subst (λ y. Scope (length C) ln y (bd.k ++ d) bd.F) bd.static bd.names; above = λ y i. absurd i; under = sc.under })
    bd.invariant)
    (λ d2 z a. subst (λ y. AfterExec q C ln g2 d y d2 z) (bd.under ∙ lo.under)
    (after_weak q C ln (outer mm.env ac.behind) g2 d t2.under d2 z ac.weaker a.1)))))
  where
    P : me.Env → State → Type 0
    P = AfterExec q C ln g2 d s.under

    lo : Looked q C ln mm d w l k vs s
    lo = looks q o C ln g d F T s x v sc wo th mm l k vs lk w la

    fa : (a : me.Found) × (find_alt as₁ k ≡ some a)
    fa = found_alt as₁ k (covered mm.data1 (alt_names as₁) k lo.ctor1 cv lo.is_ctor)

    ac : AltFound q mm.env w mm.loans mm.data1 k fa.0.names fa.0.does g2
    ac =
        alt_found q mm.env w mm.loans mm.data1 as₁ k fa.0 g2
        (like_distinct g mm.env (looks_like q g v w v.ty mm la) (scope_distinct (length C) ln g d F sc.names)) al fa.1

    bd : Bound q.datas C ln mm.env ac.inner d fa.0.names (parts w l vs) lo.t
    bd =
        lo.binds fa.0.names ac.inner (subst (λ y. bind_all w mm.loans mm.env fa.0.names y.fields ≡ some ac.inner)
        (same_ctor ac.ctor1 lo.ctor1 (ch.ctor_named mm.data1.ctors k) ac.named lo.is_ctor) ac.binds)

    t2 : State
    t2 = roots_in lo.t (parts w l vs)

pub by_shape_suc : (q : Prog) (m : Limits) (u : ℕ) → ch.accepts q ≡ true → Preserved q m u → ByShapeOk q m (suc u)
unfolding me.eval
by_shape_suc q m u o h C ln g d F T s qs t w x v mm as₁ l (shape k vs) th la cv al lp lk sc wo =
    safe_need P _ _ _ ca.is
    (safe_need P _ _ _ lo.takes
    (safe_need P _ _ _ bd.named
    (subst (λ y. Safe (AfterGive q C ln d t y) (bodies u m q (bd.k ++ d) d ca.found.does t2)) (bd.under ∙ lo.under)
    (h.bodies_ok C ln ca.bound (bd.k ++ d) bd.k d bd.F bd.T t2 qs t ca.found.does ca.does lent2 refl
    (record { names = bd.names; above = λ y i. absurd i; under = sc.under }) bd.invariant))))
  where
    P : Value → State → Type 0
    P = AfterGive q C ln d t s.under

    lo : Looked q C ln mm d w l k vs s
    lo = looks q o C ln g d F T s x v sc wo th mm l k vs lk w la

    ca : ChosenArm q qs t mm.env w mm.loans mm.data1 k as₁
    ca = chosen_arm q qs t mm.env w mm.loans mm.data1 k as₁ al (covered mm.data1 (arm_names as₁) k lo.ctor1 cv lo.is_ctor)

    bd : Bound q.datas C ln mm.env ca.bound d ca.found.names (parts w l vs) lo.t
    bd =
        lo.binds ca.found.names ca.bound
        (subst (λ y. bind_all w mm.loans mm.env ca.found.names y.fields ≡ some ca.bound)
        (same_ctor ca.ctor1 lo.ctor1 (ch.ctor_named mm.data1.ctors k) ca.named lo.is_ctor) ca.binds)

    t2 : State
    t2 = roots_in lo.t (parts w l vs)

    lk2 : EnvLike g mm.env
    lk2 = looks_like q g v w v.ty mm la

    bg : (K : ch.Env) × (ca.bound ≡ K ++ mm.env) × Distinct ca.bound
    bg =
        bind_grows w mm.loans mm.env ca.found.names ca.ctor1.fields ca.bound
        (like_distinct g mm.env lk2 (scope_distinct (length C) ln g d F sc.names)) ca.binds

    lent2 : RefParams qs ca.bound
    lent2 = grows_lent qs g ca.bound (record { newer = bg.0; older = mm.env; is = bg.1; like = lk2; distinct = bg.2 }) lp

-- the case match of exec
pub match_step : (q : Prog) (m : Limits) (u : ℕ) → Preserved q m u
    → (C : List Entry) (ln : List LevelLoan) (g g2 : ch.Env) (d : me.Env) (F : List Entry) (T : List Tree) (s : State) (w : Access) (x : Lexeme)
    (as₁ : Alts) → ch.stmt q g (match_s w x as₁) ≡ some g2 → Frame C ln [] g d [] F → Invariant q.datas (F ++ C) T s
    → Safe (AfterExec q C ln g2 d s.under) (exec (suc u) m q d (match_s w x as₁) s)
unfolding me.eval
match_step q m u h C ln g g2 d F T s w x as₁ e sc wo =
    let i = match_rule q g w x as₁ g2 e in
    let si = scrutinee_seen q C ln g d F T s w x i.var1 i.seen i.is_there i.is_seen sc wo in
    let lk = si.3 in
    let P : me.Env → State → Type 0 = AfterExec q C ln g2 d s.under in
    safe_need P _ _ _ si.4
    (safe_need P _ _ _ si.5
    (safe_need P _ _ _ lk.sees
    (safe_need P _ _ _ lk.shaped
    (h.by_alt_ok C ln g g2 d F T s w x i.var1 i.seen as₁ (place_of si.0 si.1) si.2 i.is_there i.is_seen i.is_covered
    i.behind lk sc wo))))

-- the case match of tails
pub give_match_step : (q : Prog) (m : Limits) (u : ℕ) → Preserved q m u
    → (C : List Entry) (ln : List LevelLoan) (g : ch.Env) (d : me.Env) (F : List Entry) (T : List Tree) (s : State) (qs : List Lexeme) (t : Ty)
    (w : Access) (x : Lexeme) (as₁ : Arms) → ch.is_tail q qs t g (give_match w x as₁) ≡ true → RefParams qs g → Frame C ln [] g d [] F
    → Invariant q.datas (F ++ C) T s → Safe (AfterGive q C ln d t s.under) (tails (suc u) m q d (give_match w x as₁) s)
unfolding me.eval
give_match_step q m u h C ln g d F T s qs t w x as₁ e lp sc wo =
    let y = from_is (ch.there g x) (λ v. from_option (looks_at q g v w v.ty) false
    (λ mm. covers mm.data1 (arm_names as₁) && ch.are_arms q qs t mm.env w mm.loans mm.data1 as₁)) e in
    let v = y.0 in
    let z = from_is (looks_at q g v w v.ty)
    (λ mm. covers mm.data1 (arm_names as₁) && ch.are_arms q qs t mm.env w mm.loans mm.data1 as₁) y.2 in
    let mm = z.0 in
    let r0 = and_left (covers mm.data1 (arm_names as₁)) (ch.are_arms q qs t mm.env w mm.loans mm.data1 as₁) z.2 in
    let r1 = and_right (covers mm.data1 (arm_names as₁)) (ch.are_arms q qs t mm.env w mm.loans mm.data1 as₁) z.2 in
    let si = scrutinee_seen q C ln g d F T s w x v mm y.1 z.1 sc wo in
    let lk = si.3 in
    let P : Value → State → Type 0 = AfterGive q C ln d t s.under in
    let l = place_of si.0 si.1 in
    safe_need P _ _ _ si.4
    (safe_need P _ _ _ si.5
    (safe_need P _ _ _ lk.sees
    (safe_need P _ _ _ lk.shaped (h.by_shape_ok C ln g d F T s qs t w x v mm as₁ l si.2 y.1 z.1 r0 r1 lp lk sc wo))))
