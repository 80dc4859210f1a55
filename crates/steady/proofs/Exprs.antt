-- Steady: expressions and arguments.
use mathlib.Core.Bool.{true, false}
use mathlib.Core.List.{List, [], ◌∷◌, ◌++◌}
use mathlib.Core.Option.{some}
use mathlib.Core.Path.{◌≡◌, refl, sym, ◌∙◌, ap, subst}
use Prim.Native.Nat.{ℕ, suc}
use lib.ListN.{length}
use Rattle.language.specs.Base.{Lexeme, at_place}
use Rattle.language.specs.Syntax.{Ty, int, dat, box, ref, mut, num, var, op, ctor, boxed, call, share, lend, load, get_e, nil_e, cons_e, Data, Fn, Prog}
use Rattle.language.specs.Checks.{Loan, Var, owned, look, is_free, all_loans, types_of_pars, value}
use Rattle.language.specs.Checks as ch
use Rattle.language.specs.Meaning.{Loc, Value, int_v, con_v, box_v, ref_v, hole, Root, nil_v, State, Limits, here, read_at, root_of, eval, evals, append, list_of}
use Rattle.language.specs.Meaning as me
use Rattle.soundness.specs.Trees.{Tree, flat, Typed}
use Rattle.soundness.specs.Borrows.{LevelLoan, loans_of}
use Rattle.soundness.specs.Invariant.{Entry, Invariant}
use Rattle.soundness.specs.Frames.{KindFits, ValueEntry, all_loans_of, Arguments, no_args, snoc_arg, Frame}
use Rattle.soundness.specs.Preserved.{AfterEval, AfterArgs, Preserved}
use Rattle.soundness.proofs.Basics.{no_some, some_is, if_some_is, only_is, append_nil}
use Rattle.soundness.proofs.invariant.Values.{typed_int}
use Rattle.soundness.proofs.invariant.Top.{pop_int}
use Rattle.soundness.proofs.invariant.Kinds.{box_owned}
use Rattle.soundness.proofs.statics.Rules.{there_is}
use Rattle.soundness.proofs.statics.Exprs.{look_name}
use Rattle.soundness.proofs.statics.ExprRules.{op_rule, ctor_rule, boxed_rule, call_rule, lend_rule, args_rule}
use Rattle.soundness.proofs.statics.Accepted.{fns_ok}
use Rattle.soundness.proofs.frames.Covers.{cover_same, cover_both}
use Rattle.soundness.proofs.frames.Lookup.{NameAt, name_at}
use Rattle.soundness.proofs.frames.AtName.{borrow_at}
use Rattle.soundness.proofs.exprs.Results.{frame_after}
use Rattle.soundness.proofs.exprs.Construct.{covered_low}
use Rattle.simulation.specs.Borrows.{Unseen, MovesClear, add_loc, SteadyCalls}
use Rattle.steady.proofs.Watch.{Watch, frame_watched, watch_flight}
use Rattle.steady.proofs.Pointing.{unseen_clear}
use Rattle.steady.proofs.Steadies.{got, Steadies, EvalSteady, EvalsSteady}
use Rattle.steady.proofs.Names.{name_stands, free_unseen, owned_here}

moves_clear : (hs : List ℕ) (ls : List Loc) (rs : List Root) (r : ℕ) (v : Value) → Unseen hs ls rs r → MovesClear hs ls rs r v
moves_clear hs ls rs r (int_v k) f = tt
moves_clear hs ls rs r (con_v k vs) f = unseen_clear hs ls rs r [] f
moves_clear hs ls rs r (box_v i) f = unseen_clear hs ls rs r [] f
moves_clear hs ls rs r (ref_v l) f = tt
moves_clear hs ls rs r hole f = tt

-- a name as a value: numbers and references are copied, what moves is free
module _ (ds : List Data) (C : List Entry) (ln : List LevelLoan) (held : List Loan) (g : ch.Env) (d : me.Env) (H F : List Entry) (T : List Tree)
    (s : State) (x : Lexeme) (v : Var) (r : ch.Typed) (D hs : List ℕ) (ls : List Loc) (lk : look g x ≡ some v) (ng : v.gone ≡ false)
    (sc : Frame C ln held g d H F) (w : Invariant ds (H ++ (F ++ C)) T s) (wa : Watch (H ++ (F ++ C)) D hs ls) where
  n : NameAt ds C ln g d H F T s x v
  n = name_at ds C ln held g d H F T s x v sc w lk

  abbrev Moved : Value → Type 0
  Moved z = MovesClear hs ls s.roots n.root z

  moved : owned v.ty ≡ true → is_free (held ++ all_loans g) v.name ≡ true → (z : Value) → Moved z
  moved ow free z =
      moves_clear hs ls s.roots n.root z
      (free_unseen ds C ln held g d H F T s x v D hs ls n.root sc w wa lk ow
      (subst (λ y. is_free (held ++ all_loans g) y ≡ true) (look_name g x v lk) free) n (name_stands ds C ln g d H F T s x v n))

  by_type : (t : Ty) → v.ty ≡ t → value held g v t ≡ some r → (z : Value) → read_at s (here n.root) ≡ some z → Moved z
  by_type int t_is e z rd =
      let o = owned_here ds C ln g d H F T s x v n (ap owned t_is) ng in
      let k = typed_int ds n.stands.tree (subst (Typed ds n.stands.tree) t_is o.typed) in
      subst Moved (sym (some_is (sym rd ∙ o.reads_it) ∙ k.1)) tt
  by_type (dat i) t_is e z rd = moved (ap owned t_is) (only_is _ _ r e).0 z
  by_type (box t) t_is e z rd =
      moved (ap owned t_is ∙ box_owned t n.en.kind (subst (λ y. KindFits y n.en.kind) t_is n.type)) (only_is _ _ r e).0 z
  by_type (ref t) t_is e z rd =
      let b = borrow_at ds C ln g d H F T s x v false t w n t_is in subst Moved (sym (some_is (sym rd ∙ b.reads_it))) tt
  by_type (mut t) t_is e z rd =
      let b = borrow_at ds C ln g d H F T s x v true t w n t_is in subst Moved (sym (some_is (sym rd ∙ b.reads_it))) tt

  pub as_value : value held g v v.ty ≡ some r → (k : ℕ) → root_of d x ≡ some k → (z : Value) → read_at s (here k) ≡ some z
      → MovesClear hs ls s.roots k z
  as_value e k k_is z rd =
      let root_is : n.root ≡ k = some_is (sym n.named ∙ k_is) in
      subst (λ y. MovesClear hs ls s.roots y z) root_is
      (by_type v.ty refl e z (ap (λ y. read_at s (here y)) root_is ∙ rd))

pub steady_e : (q : Prog) (m : Limits) (u : ℕ) → ch.accepts q ≡ true → Preserved q m u → Steadies q m u → EvalSteady q m (suc u)
steady_e q m u o p h C ln held g d H F T s (num k) r D hs ls e sc w wa = tt
steady_e q m u o p h C ln held g d H F T s (var x) r D hs ls e sc w wa =
    let y = if_some_is (ch.there g x) (λ v. value held g v v.ty) r e in
    let th = there_is g x y.0 y.1 in
    as_value q.datas C ln held g d H F T s x y.0 r D hs ls th.0 th.1 sc w (frame_watched C H ln g d F D hs ls sc.names wa) y.2
steady_e q m u o p h C ln held g d H F T s (op i a1 a2) r D hs ls e sc w wa =
    let ru = op_rule q held g i a1 a2 r e in (
      h.eval_steady C ln held g d H F T s a1 ru.left D hs ls ru.is_left sc w wa,
      λ v t eq. (let a = got (AfterEval q C ln d H ru.left s.under) (eval u m q d a1 s) v t
          (p.eval_ok C ln held g d H F T s a1 ru.left ru.is_left sc w) eq in
          let po = pop_int q.datas a.top (H ++ (a.F ++ C)) a.T t v
          (subst (λ k. ValueEntry v k a.top) ru.left_int a.value_entry) a.invariant in
          h.eval_steady C ln held ru.left.env d H a.F po.0 t a2 ru.right D hs ls ru.is_right
          (frame_after C ln held g ru.left.env d H F a.F sc a.names) po.1 wa),
    )
steady_e q m u o p h C ln held g d H F T s (ctor k es) r D hs ls e sc w wa =
    let i = ctor_rule q held g k es r e in
    h.evals_steady C ln held g d [] H F T s es [] i.home.ctor1.fields nil_v i.fields D hs ls i.is_args no_args sc w wa
steady_e q m u o p h C ln held g d H F T s (boxed x) r D hs ls e sc w wa =
    let i = boxed_rule q held g x r e in h.eval_steady C ln held g d H F T s x i.content D hs ls i.is_expr sc w wa
steady_e q m u o p h C ln held g d H F T s (call f es) r D hs ls e sc w wa =
    let i = call_rule q held g f es r e in
    let fn : Fn = i.callee in
    let ts = types_of_pars fn.pars in
    let r1 = i.arguments in (
      h.evals_steady C ln held g d [] H F T s es [] ts nil_v r1 D hs ls i.is_args no_args sc w wa,
      λ vs t eq k k_is. (let a = got (AfterArgs q C ln d [] H ts r1 s.under) (evals u m q d es nil_v s) vs t
          (p.evals_ok C ln held g d [] H F T s es [] ts nil_v r1 i.is_args no_args sc w) eq in
          subst (λ z. SteadyCalls m q u D hs ls z (list_of vs) t) (some_is (sym i.is_fn ∙ k_is))
          (h.calls_steady (H ++ (a.F ++ C)) a.K a.T t fn vs D hs ls (fns_ok q o f fn i.is_fn)
          (subst (λ z. Arguments z ts vs) (append_nil a.K) a.arguments)
          (covered_low C ln r1.env d H a.F r1.loans (all_loans_of a.K) a.names sc.under a.covered) a.invariant
          (frame_watched C H ln r1.env d a.F D hs ls a.names wa))),
    )
steady_e q m u o p h C ln held g d H F T s (share x) r D hs ls e sc w wa = tt
steady_e q m u o p h C ln held g d H F T s (lend x) r D hs ls e sc w wa =
    let i = lend_rule q held g x r e in
    let th = there_is g x i.var1 i.is_there in
    let n = name_at q.datas C ln held g d H F T s x i.var1 sc w th.0 in
    let y = owned_here q.datas C ln g d H F T s x i.var1 n i.is_owned th.1 in
    λ k k_is. (
      record { live = true; val = flat n.stands.tree; words = 0 },
      record {
        is = subst (λ z. at_place s.roots z ≡ some (record { live = true; val = flat n.stands.tree; words = 0 }))
            (some_is (sym n.named ∙ k_is)) y.lives;
        lives = refl;
      },
    )
steady_e q m u o p h C ln held g d H F T s (load x) r D hs ls e sc w wa = tt
steady_e q m u o p h C ln held g d H F T s get_e r D hs ls e sc w wa = tt

pub steady_es : (q : Prog) (m : Limits) (u : ℕ) → Preserved q m u → Steadies q m u → EvalsSteady q m (suc u)
steady_es q m u p h C ln held g d A H F T s nil_e us ts vs r D hs ls e fl sc w wa = tt
steady_es q m u p h C ln held g d A H F T s (cons_e x es) us [] vs r D hs ls e fl sc w wa = absurd (no_some e)
steady_es q m u p h C ln held g d A H F T s (cons_e x es) us (t ∷ ts) vs r D hs ls e fl sc w wa =
    let i = args_rule q held g x es t ts r e in
    let r1 = i.first in (
      h.eval_steady C ln held g d (A ++ H) F T s x r1 D hs ls i.is_first sc w wa,
      λ v z eq. (let a = got (AfterEval q C ln d (A ++ H) r1 s.under) (eval u m q d x s) v z
          (p.eval_ok C ln held g d (A ++ H) F T s x r1 i.is_first sc w) eq in
          let held_on = cover_same (length C) ln g r1.env d F a.F sc.names a.names held (all_loans_of (A ++ H)) sc.above in
          h.evals_steady C ln (r1.loans ++ held) r1.env d (a.top ∷ A) H a.F a.T z es (us ++ (t ∷ [])) ts (append vs v) i.others D hs
          (add_loc v ls) i.is_others (snoc_arg a.top t v fl (subst (λ k. ValueEntry v k a.top) i.first_type a.value_entry))
          (record {
            names = a.names;
            above = cover_both (length C) ln r1.env r1.loans held (loans_of a.top.kind) (all_loans_of (A ++ H)) a.covered held_on;
            under = sc.under;
          })
          a.invariant (watch_flight C (A ++ H) d D hs ls a.top r1.ty v a.value_entry wa)),
    )
