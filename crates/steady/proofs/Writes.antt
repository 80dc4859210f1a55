-- Steady: x = e and *x = e. Nobody of use points inside what is written over; what was there is dropped.
use mathlib.Core.Bool.{true, false}
use mathlib.Core.List.{List, [], ◌∷◌, ◌++◌}
use mathlib.Core.Logic.{inl}
use mathlib.Core.Option.{Option, some}
use mathlib.Core.Path.{◌≡◌, refl, sym, ◌∙◌, ap, subst}
use Prim.Native.Nat.{ℕ, suc}
use Rattle.language.specs.Base.{Lexeme, if_some}
use Rattle.language.specs.Syntax.{Ty, mut, Expr, Data, Prog, assign, store}
use Rattle.language.specs.Checks.{Var, owned, is_free, all_loans, set_gone}
use Rattle.language.specs.Checks as ch
use Rattle.language.specs.Meaning.{Loc, Value, State, Limits, here, read_at, write_at, root_of, ref_v, loc_of, eval}
use Rattle.language.specs.Meaning as me
use Rattle.soundness.specs.Trees.{Tree, flat}
use Rattle.soundness.specs.Borrows.{LevelLoan}
use Rattle.soundness.specs.Invariant.{in_flight, Entry, Invariant}
use Rattle.soundness.specs.Frames.{KindFits, ValueEntry, Frame}
use Rattle.soundness.specs.Preserved.{AfterEval, Preserved}
use Rattle.soundness.proofs.Basics.{some_is}
use Rattle.soundness.proofs.invariant.Levels.{anchored_under}
use Rattle.soundness.proofs.invariant.Replace.{removed_entry}
use Rattle.soundness.proofs.invariant.Values.{OwnedTop, owned_top}
use Rattle.soundness.proofs.frames.Free.{not_lent_by_name, free_not_among}
use Rattle.soundness.proofs.frames.Levels.{NameEntry, name_entry}
use Rattle.soundness.proofs.frames.Lookup.{NameAt, name_at}
use Rattle.soundness.proofs.frames.AtName.{BorrowAt, borrow_at}
use Rattle.soundness.proofs.frames.Moves.{Swapped, swap_name}
use Rattle.soundness.proofs.statics.StmtRules.{AssignRule, assign_rule, store_rule}
use Rattle.soundness.proofs.stmts.Store.{Put, put_in, MutAt, mut_at, typed_there}
use Rattle.simulation.specs.Borrows.{Clear, Unseen, SteadyDrop, SteadyS}
use Rattle.steady.proofs.Watch.{Watch, FrameWatch, frame_watched, watch_push}
use Rattle.steady.proofs.Pointing.{unseen_clear}
use Rattle.steady.proofs.Steadies.{got, Steadies}
use Rattle.steady.proofs.Names.{frame_own, name_stands, free_unseen, below_free}

pub steady_assign : (q : Prog) (m : Limits) (u : ℕ) → Preserved q m u → Steadies q m u
    → (C : List Entry) (ln : List LevelLoan) (g g2 : ch.Env) (d : me.Env) (F : List Entry) (T : List Tree) (s : State) (x : Lexeme) (e1 : Expr)
    (D hs : List ℕ) (ls : List Loc) → ch.stmt q g (assign x e1) ≡ some g2 → Frame C ln [] g d [] F → Invariant q.datas (F ++ C) T s
    → FrameWatch C [] d D hs ls → SteadyS m q (suc u) D hs ls d (assign x e1) s
steady_assign q m u p h C ln g g2 d F T s x e1 D hs ls e sc w wa = (
  h.eval_steady C ln [] g d [] F T s e1 ru.result D hs ls ru.is_expr sc w wa,
  λ v t eq r r_is. behind v t
      (got (AfterEval q C ln d [] ru.result s.under) (eval u m q d e1 s) v t
      (p.eval_ok C ln [] g d [] F T s e1 ru.result ru.is_expr sc w) eq) r r_is,
)
  where
    ds : List Data
    ds = q.datas

    ru : AssignRule q g x e1 g2
    ru = assign_rule q g x e1 g2 e

    g1 : ch.Env
    g1 = ru.result.env

    vx : Var
    vx = ru.var1

    Goal : Value → State → ℕ → Type 0
    Goal v t r = Clear hs ls t.roots r [] × ((old : Value) → read_at t (here r) ≡ some old → (z : State) → write_at t (here r) v ≡ some z
        → SteadyDrop m q u D hs ls old z)

    behind : (v : Value) (t : State) → AfterEval q C ln d [] ru.result s.under v t → (r : ℕ) → root_of d x ≡ some r → Goal v t r
    behind v t a r r_is = subst (Goal v t) (some_is (sym sw.named ∙ r_is)) (
      unseen_clear hs ls t.roots sw.root []
          (subst (λ z. Unseen hs ls t.roots z) (some_is (sym n.named ∙ sw.named))
          (free_unseen ds C ln [] g1 d (a.top ∷ []) a.F a.T t x vx D hs ls n.root sc2 a.invariant
          (watch_push (a.top ∷ []) (a.F ++ C) D hs ls (frame_watched C [] ln g1 d a.F D hs ls a.names wa)) ru.is_var ru.is_owned
          ru.free n (name_stands ds C ln g1 d (a.top ∷ []) a.F a.T t x vx n))),
      λ old rd z wr. subst (λ y. SteadyDrop m q u D hs ls y z) (some_is (sym sw.reads_old ∙ rd))
          (subst (SteadyDrop m q u D hs ls (flat sw.old))
          (some_is (sym (ap (write_at t (here sw.root)) o.value ∙ sw.writes_new) ∙ wr))
          (h.drops_steady (removed_entry sw.old vx.gone vx.ty) (sw.F ++ C) (sw.old ∷ sw.T) sw.s2 (flat sw.old) D hs ls refl
          sw.invariant (frame_watched C [] ln (set_gone false g1 x) d sw.F D hs ls sw.names wa))),
    )
      where
        fl : ValueEntry v vx.ty a.top
        fl = subst (λ k. ValueEntry v k a.top) ru.same_type a.value_entry

        o : OwnedTop ds a.T t v vx.ty a.top
        o = owned_top ds a.top (a.F ++ C) a.T t v vx.ty ru.is_owned fl a.invariant

        sc1 : Frame C ln [] g1 d [] a.F
        sc1 = record { names = a.names; above = λ l j. absurd j; under = sc.under }

        sc2 : Frame C ln [] g1 d (a.top ∷ []) a.F
        sc2 = frame_own C ln g1 d a.F a.top vx.ty o.shape sc1

        n : NameAt ds C ln g1 d (a.top ∷ []) a.F a.T t x vx
        n = name_at ds C ln [] g1 d (a.top ∷ []) a.F a.T t x vx sc2 a.invariant ru.is_var

        sw : Swapped ds C ln g1 d [] x vx false o.tree t
        sw =
            swap_name ds C ln [] g1 d [] a.F x vx false a.top o.tree o.rest t sc1 ru.is_var ru.is_owned ru.free
            (fl.place ∙ ap in_flight o.value) o.stored (inl o.typed)
            (subst (λ k. Invariant ds (a.top ∷ (a.F ++ C)) k t) o.trees a.invariant)

-- through a mut, with the new value on top
store_behind : (q : Prog) (m : Limits) (u : ℕ) → Steadies q m u
    → (C : List Entry) (ln : List LevelLoan) (g : ch.Env) (d : me.Env) (F : List Entry) (T : List Tree) (t : State) (x : Lexeme) (vx : Var) (ty : Ty)
    (top : Entry) (v : Value) (D hs : List ℕ) (ls : List Loc) → Frame C ln [] g d [] F → Invariant q.datas (top ∷ (F ++ C)) T t
    → ValueEntry v ty top → ch.look g x ≡ some vx → vx.ty ≡ mut ty → owned ty ≡ true → is_free (all_loans g) x ≡ true → FrameWatch C [] d D hs ls
    → (r : ℕ) → root_of d x ≡ some r → (w : Value) → read_at t (here r) ≡ some w → (l : Loc) → loc_of w ≡ some l
    → Clear hs ls t.roots l.root l.path × ((old : Value) → if_some (read_at t l) me.there ≡ some old → (z : State) → write_at t l v ≡ some z
    → SteadyDrop m q u D hs ls old z)
store_behind q m u h C ln g d F T t x vx ty top v D hs ls sc w fl lk is_mut ow free wa r r_is w1 rd l l_is = (
  subst (λ z. Clear hs ls t.roots z.root z.path) (loc_is n.root n.named b.loc b.reads_it)
      (below_free ds C ln [] g d (top ∷ []) F T t x n.level ty b.addr b.ls b.loc D hs ls sc2 w
      (watch_push (top ∷ []) (F ++ C) D hs ls wn) n.levelled free b.at_kind b.valid),
  λ old ro z wr. subst (λ y. SteadyDrop m q u D hs ls y z)
      (some_is (sym (ap (λ y. if_some y me.there) pu.reads_old ∙ typed_there ds pu.old ty pu.typed) ∙ ap (λ y. if_some (read_at t y) me.there)
      pu_is ∙ ro))
      (subst (SteadyDrop m q u D hs ls (flat pu.old))
      (some_is (sym (ap (write_at t pu.loc) o.value ∙ pu.writes_new) ∙ ap (λ y. write_at t y v) pu_is ∙ wr))
      (h.drops_steady (removed_entry pu.old false ty) (F ++ C) (pu.old ∷ pu.T) pu.s2 (flat pu.old) D hs ls refl pu.invariant wn)),
)
  where
    ds : List Data
    ds = q.datas

    o : OwnedTop ds T t v ty top
    o = owned_top ds top (F ++ C) T t v ty ow fl w

    wn : Watch (F ++ C) D hs ls
    wn = frame_watched C [] ln g d F D hs ls sc.names wa

    sc2 : Frame C ln [] g d (top ∷ []) F
    sc2 = frame_own C ln g d F top ty o.shape sc

    n : NameAt ds C ln g d (top ∷ []) F T t x vx
    n = name_at ds C ln [] g d (top ∷ []) F T t x vx sc2 w lk

    b : BorrowAt ds C ln g vx (top ∷ (F ++ C)) T t n.level n.root true ty
    b = borrow_at ds C ln g d (top ∷ []) F T t x vx true ty w n is_mut

    w2 : Invariant ds (top ∷ (F ++ C)) (o.tree ∷ o.rest) t
    w2 = subst (λ k. Invariant ds (top ∷ (F ++ C)) k t) o.trees w

    en : NameEntry C ln g d F x vx
    en = name_entry C ln g d F x vx sc.names lk

    mu : MutAt ds (F ++ C) o.rest t en.level en.root ty
    mu =
        mut_at ds (F ++ C) o.rest t en.level en.root ty en.en (subst (λ k. KindFits k en.en.kind) is_mut en.type) en.placed
        en.stands w2.entries.1

    pu : Put ds (F ++ C) o.tree t ty mu.val
    pu =
        put_in ds top (F ++ C) o.tree o.rest t ty mu.addr mu.ls mu.val en.level (fl.place ∙ ap in_flight o.value) o.stored
        o.typed ow mu.shaped (not_lent_by_name C ln [] g d [] F x en.level false sc (anchored_under F C w2.borrows.anchored.1)
        en.levelled (free_not_among (all_loans g) x free)) mu.points w2

    loc_is : (k : ℕ) → root_of d x ≡ some k → (a : Loc) → read_at t (here k) ≡ some (ref_v a) → a ≡ l
    loc_is k k_is a ra =
        let k_r : k ≡ r = some_is (sym k_is ∙ r_is) in
        let w_is : w1 ≡ ref_v a = some_is (sym rd ∙ ap (λ z. read_at t (here z)) (sym k_r) ∙ ra) in
        some_is (ap loc_of (sym w_is) ∙ l_is)

    pu_is : pu.loc ≡ l
    pu_is = loc_is en.root en.named pu.loc (mu.reads_it ∙ ap {B = Option Value} (λ z. some z) pu.place)

pub steady_store : (q : Prog) (m : Limits) (u : ℕ) → Preserved q m u → Steadies q m u
    → (C : List Entry) (ln : List LevelLoan) (g g2 : ch.Env) (d : me.Env) (F : List Entry) (T : List Tree) (s : State) (x : Lexeme) (e1 : Expr)
    (D hs : List ℕ) (ls : List Loc) → ch.stmt q g (store x e1) ≡ some g2 → Frame C ln [] g d [] F → Invariant q.datas (F ++ C) T s
    → FrameWatch C [] d D hs ls → SteadyS m q (suc u) D hs ls d (store x e1) s
steady_store q m u p h C ln g g2 d F T s x e1 D hs ls e sc w wa =
    let ru = store_rule q g x e1 g2 e in (
      h.eval_steady C ln [] g d [] F T s e1 ru.result D hs ls ru.is_expr sc w wa,
      λ v t eq. (let a = got (AfterEval q C ln d [] ru.result s.under) (eval u m q d e1 s) v t
          (p.eval_ok C ln [] g d [] F T s e1 ru.result ru.is_expr sc w) eq in
          store_behind q m u h C ln ru.result.env d a.F a.T t x ru.var1 ru.target a.top v D hs ls
          (record { names = a.names; above = λ l j. absurd j; under = sc.under }) a.invariant
          (subst (λ k. ValueEntry v k a.top) ru.same_type a.value_entry) ru.is_var ru.is_mut ru.is_owned ru.free wa),
    )
