-- Steady: matches. What is taken apart is free.
use mathlib.Core.Bool.{true, false}
use mathlib.Core.List.{List, [], ◌++◌}
use mathlib.Core.Option.{some}
use mathlib.Core.Path.{◌≡◌, refl, sym, ◌∙◌, ap, subst}
use Prim.Native.Nat.{ℕ, suc}
use lib.ListN.{length}
use Rattle.language.specs.Base.{Lexeme}
use Rattle.language.specs.Syntax.{Ty, int, dat, box, ref, mut, Access, take, view, edit, Prog}
use Rattle.language.specs.Checks.{Var, Matched, owned, is_free, all_loans, looks_at, bind_all, arm_names}
use Rattle.language.specs.Checks as ch
use Rattle.language.specs.Meaning.{Loc, State, Limits, Shape, shape, here, read_at, place_of, roots_in, parts, taken, names_in, Found, find_alt, FoundArm}
use Rattle.language.specs.Meaning as me
use Rattle.soundness.specs.Trees.{Tree, flat, Typed}
use Rattle.soundness.specs.Borrows.{LevelLoan}
use Rattle.soundness.specs.Invariant.{Entry, Invariant}
use Rattle.soundness.specs.Frames.{Scope, Frame, RefParams}
use Rattle.soundness.specs.Preserved.{Scrutinee}
use Rattle.soundness.proofs.Basics.{no_some, some_is, only_is}
use Rattle.soundness.proofs.statics.Rules.{there_is}
use Rattle.soundness.proofs.statics.Exprs.{EnvLike, look_name}
use Rattle.soundness.proofs.statics.Scopes.{Distinct, scope_distinct, like_distinct, grows_lent, bind_grows, looks_like}
use Rattle.soundness.proofs.statics.Stmts.{AltFound, alt_found}
use Rattle.soundness.proofs.statics.Alternatives.{covered, ChosenArm, chosen_arm}
use Rattle.soundness.proofs.frames.Lookup.{NameAt, name_at}
use Rattle.soundness.proofs.matches.Patterns.{Bound}
use Rattle.soundness.proofs.matches.View.{Looked, place_con}
use Rattle.soundness.proofs.matches.Scrutinee.{looks}
use Rattle.soundness.proofs.matches.Step.{same_ctor}
use Rattle.simulation.specs.Borrows.{env_roots, TakesClear, Clear, SteadyBlock, SteadyBody}
use Rattle.steady.proofs.Watch.{Watch, frame_watched, watch_enter}
use Rattle.steady.proofs.Pointing.{unseen_clear}
use Rattle.steady.proofs.Steadies.{Steadies, ByAltSteady, ByShapeSteady}
use Rattle.steady.proofs.Names.{name_stands, free_unseen, owned_here}

takes_clear : (q : Prog) (C : List Entry) (ln : List LevelLoan) (g : ch.Env) (d : me.Env) (F : List Entry) (T : List Tree) (s : State) (x : Lexeme)
    (v : Var) (mm : Matched) (l : Loc) (y : Shape) (D hs : List ℕ) (ls : List Loc) → Frame C ln [] g d [] F → Invariant q.datas (F ++ C) T s
    → Watch (F ++ C) D hs ls → ch.there g x ≡ some v → Scrutinee d x l y s → (w : Access) → looks_at q g v w v.ty ≡ some mm
    → TakesClear w hs ls s.roots l
takes_clear q C ln g d F T s x v mm l y D hs ls sc wo wa th lk view la = tt
takes_clear q C ln g d F T s x v mm l y D hs ls sc wo wa th lk edit la = tt
takes_clear q C ln g d F T s x v mm l y D hs ls sc wo wa th lk take la = by_type v.ty refl la
  where
    it : (ch.look g x ≡ some v) × (v.gone ≡ false)
    it = there_is g x v th

    n : NameAt q.datas C ln g d [] F T s x v
    n = name_at q.datas C ln [] g d [] F T s x v sc wo it.0

    by_type : (t : Ty) → v.ty ≡ t → looks_at q g v take t ≡ some mm → Clear hs ls s.roots l.root l.path
    by_type int t_is e = absurd (no_some e)
    by_type (box t) t_is e = absurd (no_some e)
    by_type (ref t) t_is e = absurd (no_some e)
    by_type (mut t) t_is e = absurd (no_some e)
    by_type (dat k) t_is e =
        let free = (only_is (is_free (all_loans g) v.name) _ mm e).0 in
        let ow = ap owned t_is in
        let o = owned_here q.datas C ln g d [] F T s x v n ow it.1 in
        let ty : Typed q.datas n.stands.tree (dat k) = subst (Typed q.datas n.stands.tree) t_is o.typed in
        let root_is : lk.root ≡ n.root = some_is (sym lk.named ∙ n.named) in
        let val_is : lk.val ≡ flat n.stands.tree = some_is (sym lk.reads ∙ ap (λ z. read_at s (here z)) root_is ∙ o.reads_it) in
        let l_is : l ≡ here n.root
        = lk.place ∙ ap (place_of lk.root) val_is ∙ place_con q.datas lk.root n.stands.tree k ty ∙ ap here root_is in
        subst (λ z. Clear hs ls s.roots z.root z.path) (sym l_is)
        (unseen_clear hs ls s.roots n.root []
        (free_unseen q.datas C ln [] g d [] F T s x v D hs ls n.root sc wo wa it.0 ow
        (subst (λ z. is_free (all_loans g) z ≡ true) (look_name g x v it.0) free) n (name_stands q.datas C ln g d [] F T s x v n)))

pub steady_alt : (q : Prog) (m : Limits) (u : ℕ) → ch.accepts q ≡ true → Steadies q m u → ByAltSteady q m (suc u)
steady_alt q m u o h C ln g g2 d F T s w x v mm as₁ l (shape k vs) D hs ls th la cv al lk sc wo wa = λ a a_is. (
  takes_clear q C ln g d F T s x v mm l (shape k vs) D hs ls sc wo (frame_watched C [] ln g d F D hs ls sc.names wa) th lk w la,
  λ t t_is i i_is. subst (λ y. names_in d y a.names (parts w l vs) ≡ some i → SteadyBlock m q u D hs ls i d a.does (roots_in y (parts w l vs)))
      (some_is (sym lo.takes ∙ t_is)) (λ j-is. inner a a_is i j-is) i_is,
)
  where
    lo : Looked q C ln mm d w l k vs s
    lo = looks q o C ln g d F T s x v sc wo th mm l k vs lk w la

    inner : (a : Found) → find_alt as₁ k ≡ some a → (i : me.Env) → names_in d lo.t a.names (parts w l vs) ≡ some i
        → SteadyBlock m q u D hs ls i d a.does (roots_in lo.t (parts w l vs))
    inner a a_is i i_is =
        subst (λ y. SteadyBlock m q u D hs ls y d a.does (roots_in lo.t (parts w l vs))) (some_is (sym bd.named ∙ i_is))
        (h.block_steady C ln bd.gk mm.env ac.behind bd.k d bd.F bd.T (roots_in lo.t (parts w l vs)) a.does D hs ls
        (subst (λ y. ch.stmts q y a.does ≡ some ac.behind) bd.static ac.runs) bd.lens
        (record { names = subst (λ y. Scope (length C) ln y (bd.k ++ d) bd.F) bd.static bd.names; above = λ y j. absurd j; under = sc.under })
        bd.invariant wa)
      where
        ac : AltFound q mm.env w mm.loans mm.data1 k a.names a.does g2
        ac =
            alt_found q mm.env w mm.loans mm.data1 as₁ k a g2
            (like_distinct g mm.env (looks_like q g v w v.ty mm la) (scope_distinct (length C) ln g d F sc.names)) al a_is

        bd : Bound q.datas C ln mm.env ac.inner d a.names (parts w l vs) lo.t
        bd =
            lo.binds a.names ac.inner (subst (λ y. bind_all w mm.loans mm.env a.names y.fields ≡ some ac.inner)
            (same_ctor ac.ctor1 lo.ctor1 (ch.ctor_named mm.data1.ctors k) ac.named lo.is_ctor) ac.binds)

pub steady_arm : (q : Prog) (m : Limits) (u : ℕ) → ch.accepts q ≡ true → Steadies q m u → ByShapeSteady q m (suc u)
steady_arm q m u o h C ln g d F T s qs t w x v mm as₁ l (shape k vs) D hs ls th la cv al lp lk sc wo wa =
    λ a a_is. subst Goal (some_is (sym ca.is ∙ a_is)) (
      takes_clear q C ln g d F T s x v mm l (shape k vs) D (env_roots d ++ hs) ls sc wo
          (frame_watched C [] ln g d F D (env_roots d ++ hs) ls sc.names (watch_enter C d D hs ls wa)) th lk w la,
      λ z z-is i i_is. subst (λ y. names_in d y ca.found.names (parts w l vs) ≡ some i → SteadyBody m q u D hs ls i d ca.found.does
          (roots_in y (parts w l vs)))
          (some_is (sym lo.takes ∙ z-is)) (λ j-is. inner i j-is) i_is,
    )
  where
    Goal : FoundArm → Type 0
    Goal a = TakesClear w (env_roots d ++ hs) ls s.roots l × ((z : State) → taken w s l ≡ some z → (i : me.Env)
        → names_in d z a.names (parts w l vs) ≡ some i → SteadyBody m q u D hs ls i d a.does (roots_in z (parts w l vs)))

    lo : Looked q C ln mm d w l k vs s
    lo = looks q o C ln g d F T s x v sc wo th mm l k vs lk w la

    ca : ChosenArm q qs t mm.env w mm.loans mm.data1 k as₁
    ca = chosen_arm q qs t mm.env w mm.loans mm.data1 k as₁ al (covered mm.data1 (arm_names as₁) k lo.ctor1 cv lo.is_ctor)

    bd : Bound q.datas C ln mm.env ca.bound d ca.found.names (parts w l vs) lo.t
    bd =
        lo.binds ca.found.names ca.bound
        (subst (λ y. bind_all w mm.loans mm.env ca.found.names y.fields ≡ some ca.bound)
        (same_ctor ca.ctor1 lo.ctor1 (ch.ctor_named mm.data1.ctors k) ca.named lo.is_ctor) ca.binds)

    lk2 : EnvLike g mm.env
    lk2 = looks_like q g v w v.ty mm la

    bg : (K : ch.Env) × (ca.bound ≡ K ++ mm.env) × Distinct ca.bound
    bg =
        bind_grows w mm.loans mm.env ca.found.names ca.ctor1.fields ca.bound
        (like_distinct g mm.env lk2 (scope_distinct (length C) ln g d F sc.names)) ca.binds

    lent2 : RefParams qs ca.bound
    lent2 = grows_lent qs g ca.bound (record { newer = bg.0; older = mm.env; is = bg.1; like = lk2; distinct = bg.2 }) lp

    inner : (i : me.Env) → names_in d lo.t ca.found.names (parts w l vs) ≡ some i
        → SteadyBody m q u D hs ls i d ca.found.does (roots_in lo.t (parts w l vs))
    inner i i_is =
        subst (λ y. SteadyBody m q u D hs ls y d ca.found.does (roots_in lo.t (parts w l vs))) (some_is (sym bd.named ∙ i_is))
        (h.bodies_steady C ln ca.bound (bd.k ++ d) bd.k d bd.F bd.T (roots_in lo.t (parts w l vs)) qs t ca.found.does D hs ls
        ca.does lent2 refl (record { names = bd.names; above = λ y j. absurd j; under = sc.under }) bd.invariant wa)
