-- The steps of eval for a name as a value, and for &x.
use mathlib.Core.Bool.{true, false}
use mathlib.Core.List.{List, [], ◌∷◌, ◌++◌}
use mathlib.Core.Option.{Option, some}
use mathlib.Core.Path.{◌≡◌, refl, sym, ◌∙◌, ap, subst}
use Prim.Native.Nat.{ℕ, suc}
use lib.ListN.{length}
use Rattle.language.specs.Base.{Lexeme, only_if}
use Rattle.language.specs.Syntax.{Ty, int, dat, box, ref, mut, var, share, Data, Prog}
use Rattle.language.specs.Checks.{Loan, Var, loan, owned, look, set_gone, is_free, readable, all_loans, typed, value, shared}
use Rattle.language.specs.Checks as ch
use Rattle.language.specs.Meaning.{Value, State, Limits, here, root_of, read_at, place_of, eval, ref_v, hole, write_at, moves}
use Rattle.language.specs.Meaning as me
use Rattle.soundness.specs.Trees.{Tree, int_t, con_t, box_t, hole_t, flat, Typed}
use Rattle.soundness.specs.Borrows.{Addr, LevelLoan, own, borrow}
use Rattle.soundness.specs.Invariant.{Entry, Invariant}
use Rattle.soundness.specs.Frames.{KindFits, Scope, Frame}
use Rattle.soundness.specs.Preserved.{safe_ok, Safe, AfterEval}
use Rattle.soundness.proofs.Basics.{no_some, some_is, if_some_is, only_is}
use Rattle.soundness.proofs.loans.Levels.{prefix_self}
use Rattle.soundness.proofs.invariant.Levels.{not_gone}
use Rattle.soundness.proofs.invariant.Replace.{removed_entry}
use Rattle.soundness.proofs.invariant.Values.{typed_int}
use Rattle.soundness.proofs.invariant.Borrows.{push_copy}
use Rattle.soundness.proofs.statics.Exprs.{look_name}
use Rattle.soundness.proofs.statics.Rules.{there_is}
use Rattle.soundness.proofs.frames.Moves.{Swapped, move_name}
use Rattle.soundness.proofs.frames.Lookup.{NameAt, name_at}
use Rattle.soundness.proofs.Safety.{safe_need}
use Rattle.soundness.proofs.exprs.Results.{int_after, ref_after, loan_after}
use Rattle.soundness.proofs.frames.AtName.{borrow_at, own_at}
use Rattle.soundness.proofs.invariant.Kinds.{box_owned}

-- what isn't a number moves
moves_dat : (ds : List Data) (Q : Value → State → Type 0) (s : State) (r : ℕ) (x : Tree) (i : Lexeme) → Typed ds x (dat i)
    → Safe Q (me.need s (write_at s (here r) hole) (λ t. me.ok (flat x) t)) → Safe Q (moves s r (flat x))
moves_dat ds Q s r (int_t k) i ty h = absurd ty
moves_dat ds Q s r (con_t k xs) i ty h = h
moves_dat ds Q s r (box_t k w y) i ty h = h
moves_dat ds Q s r hole_t i ty h = absurd ty

moves_box : (ds : List Data) (Q : Value → State → Type 0) (s : State) (r : ℕ) (x : Tree) (u : Ty) → Typed ds x (box u)
    → Safe Q (me.need s (write_at s (here r) hole) (λ t. me.ok (flat x) t)) → Safe Q (moves s r (flat x))
moves_box ds Q s r (int_t k) u ty h = absurd ty
moves_box ds Q s r (con_t k xs) u ty h = h
moves_box ds Q s r (box_t k w y) u ty h = h
moves_box ds Q s r hole_t u ty h = absurd ty

place_flat : (r : ℕ) (x : Tree) → place_of r (flat x) ≡ here r
place_flat r (int_t k) = refl
place_flat r (con_t k xs) = refl
place_flat r (box_t k w y) = refl
place_flat r hole_t = refl

module _ (q : Prog) (C : List Entry) (ln : List LevelLoan) (held : List Loan) (g : ch.Env) (d : me.Env) (H F : List Entry) (T : List Tree)
    (s : State) (x : Lexeme) (r : ch.Typed) (v : Var) (lk : look g x ≡ some v) (there1 : v.gone ≡ false) (sc : Frame C ln held g d H F)
    (w : Invariant q.datas (H ++ (F ++ C)) T s) where
  abbrev ds : List Data
  ds = q.datas

  abbrev N : List Entry
  N = H ++ (F ++ C)

  abbrev Q : Value → State → Type 0
  Q = AfterEval q C ln d H r s.under

  abbrev pl : NameAt ds C ln g d H F T s x v
  pl = name_at ds C ln held g d H F T s x v sc w lk

  nm : v.name ≡ x
  nm = look_name g x v lk

  -- the rules of a name say v .name for x
  abbrev with_name : Lexeme → Var
  with_name y = record { name = y; ty = v.ty; gone = v.gone; loans = v.loans }

  by_name : (R : Lexeme → Type 0) → R v.name → R x
  by_name R h = subst R nm h

  -- a value that moves
  moved : (t : Ty) → v.ty ≡ t → owned t ≡ true → only_if (is_free (held ++ all_loans g) v.name) (typed t [] (set_gone true g v.name)) ≡ some r
      → ((k : ℕ) (y : Tree) → Typed ds y t → Safe Q (me.need s (write_at s (here k) hole) (λ z. me.ok (flat y) z)) → Safe Q (moves s k (flat y)))
      → Safe Q (me.need s (root_of d x) (λ k. me.need s (read_at s (here k)) (λ z. moves s k z)))
  moved t t_is ow e how =
      safe_need Q _ _ _ sw.named
      (safe_need Q _ _ _ sw.reads_old
      (how sw.root sw.old (subst (Typed ds sw.old) t_is (not_gone ds v.gone v.ty sw.old there1 sw.content))
      (safe_need Q _ _ _ sw.writes_new
      (safe_ok (record {
        top = removed_entry sw.old v.gone v.ty;
        F = sw.F;
        T = sw.old ∷ sw.T;
        value_entry = record { place = refl; flag = there1; type = (sym (ap (λ z. z.ty) r_is) ∙ sym t_is, ap owned t_is ∙ ow) };
        covered = λ l i. absurd i;
        names =
            subst (λ z. Scope (length C) ln z.env d sw.F) r_is
            (subst (λ z. Scope (length C) ln (set_gone true g z) d sw.F) (sym nm) sw.names);
        invariant = sw.invariant;
        under = sw.under;
      })))))
    where
      ok1 : (is_free (held ++ all_loans g) v.name ≡ true) × (typed t [] (set_gone true g v.name) ≡ some r)
      ok1 = only_is (is_free (held ++ all_loans g) v.name) (typed t [] (set_gone true g v.name)) r e

      r_is : record { ty = t; loans = []; env = set_gone true g v.name } ≡ r
      r_is = some_is ok1.1

      sw : Swapped ds C ln g d H x v true hole_t s
      sw = move_name ds C ln held g d H F x v T s sc lk (ap owned t_is ∙ ow) (subst (λ z. is_free (held ++ all_loans g) z ≡ true) nm ok1.0) w

  -- by the type of x
  as_value : (t : Ty) → v.ty ≡ t → value held g v t ≡ some r
      → Safe Q (me.need s (root_of d x) (λ k. me.need s (read_at s (here k)) (λ z. moves s k z)))
  as_value int t_is e =
      let own1 = own_at ds C ln g d H F T s x v pl (ap owned t_is) there1 in
      let k = typed_int ds own1.tree (subst (Typed ds own1.tree) t_is own1.typed) in
      safe_need Q _ _ _ pl.named
      (safe_need Q _ _ _ (own1.reads_it ∙ ap {B = Option Value} (λ z. some z) k.1)
      (safe_ok (int_after q C ln g d H F T s k.0 s.under r (only_is _ _ r e).1 sc.names w refl)))
  as_value (dat i) t_is e = moved (dat i) t_is refl e (λ k y ty h. moves_dat ds Q s k y i ty h)
  as_value (box t) t_is e =
      moved (box t) t_is (box_owned t pl.en.kind (subst (λ z. KindFits z pl.en.kind) t_is pl.type)) e
      (λ k y ty h. moves_box ds Q s k y t ty h)
  as_value (ref t) t_is e =
      let b = borrow_at ds C ln g d H F T s x v false t w pl t_is in
      safe_need Q _ _ _ pl.named
      (safe_need Q _ _ _ b.reads_it
      (safe_ok (ref_after q C ln g d H F T s false t b.addr b.ls (ref_v b.loc) (ref t) v.loans r (only_is _ _ r e).1 refl b.covered
      sc.names (push_copy ds N T s pl.level t b.addr b.addr b.ls t (ref_v b.loc) b.at_kind (prefix_self b.addr)
      b.valid w))))
  as_value (mut t) t_is e =
      let b = borrow_at ds C ln g d H F T s x v true t w pl t_is in
      let ok1 = only_is (is_free (held ++ all_loans g) x) _ r (by_name (λ y. value held g (with_name y) (mut t) ≡ some r) e) in
      safe_need Q _ _ _ pl.named
      (safe_need Q _ _ _ b.reads_it
      (safe_ok (loan_after q C ln held g d H F T s x pl.level true (borrow true t b.addr b.ls) b.addr t (ref_v b.loc) r sc w
      pl.levelled ok1.0 b.at_kind refl refl b.valid ok1.1)))

  -- &x: of what x owns
  share_own : (t : Ty) → v.ty ≡ t → owned t ≡ true
      → only_if (readable (held ++ all_loans g) x) (typed (ref t) (loan x false ∷ []) g) ≡ some r
      → Safe Q (me.need s (root_of d x) (λ k. me.need s (read_at s (here k)) (λ z. me.ok (ref_v (place_of k z)) s)))
  share_own t t_is ow e =
      let own1 = own_at ds C ln g d H F T s x v pl (ap owned t_is ∙ ow) there1 in
      let ok1 = only_is (readable (held ++ all_loans g) x) _ r e in
      let a : Addr = record { owner = pl.level; path = [] } in
      safe_need Q _ _ _ pl.named
      (safe_need Q _ _ _ own1.reads_it
      (safe_ok (subst (λ z. Q (ref_v z) s) (sym (place_flat pl.root own1.tree))
      (loan_after q C ln held g d H F T s x pl.level false (own v.ty) a v.ty (ref_v (here pl.root)) r sc w pl.levelled
      ok1.0 own1.at_kind refl refl own1.valid (subst (λ z. typed (ref z) (loan x false ∷ []) g ≡ some r) (sym t_is) ok1.1)))))

  -- &x: of what was lent to x alone
  share_mut : (t : Ty) → v.ty ≡ mut t → only_if (readable (held ++ all_loans g) x) (typed (ref t) (loan x false ∷ []) g) ≡ some r
      → Safe Q (me.need s (root_of d x) (λ k. me.need s (read_at s (here k)) (λ z. me.ok (ref_v (place_of k z)) s)))
  share_mut t t_is e =
      let b = borrow_at ds C ln g d H F T s x v true t w pl t_is in
      let ok1 = only_is (readable (held ++ all_loans g) x) _ r e in
      safe_need Q _ _ _ pl.named
      (safe_need Q _ _ _ b.reads_it
      (safe_ok (loan_after q C ln held g d H F T s x pl.level false (borrow true t b.addr b.ls) b.addr t (ref_v b.loc) r sc w
      pl.levelled ok1.0 b.at_kind refl refl b.valid ok1.1)))

  as_shared : (t : Ty) → v.ty ≡ t → shared held g (with_name x) t ≡ some r
      → Safe Q (me.need s (root_of d x) (λ k. me.need s (read_at s (here k)) (λ z. me.ok (ref_v (place_of k z)) s)))
  as_shared int t_is e = share_own int t_is refl e
  as_shared (dat i) t_is e = share_own (dat i) t_is refl e
  as_shared (box t) t_is e = share_own (box t) t_is (box_owned t pl.en.kind (subst (λ z. KindFits z pl.en.kind) t_is pl.type)) e
  as_shared (ref t) t_is e = absurd (no_some e)
  as_shared (mut t) t_is e = share_mut t t_is e

pub var_step : (q : Prog) (m : Limits) (u : ℕ) (C : List Entry) (ln : List LevelLoan) (held : List Loan) (g : ch.Env) (d : me.Env) (H F : List Entry)
    (T : List Tree) (s : State) (x : Lexeme) (r : ch.Typed) → ch.expr q held g (var x) ≡ some r → Frame C ln held g d H F
    → Invariant q.datas (H ++ (F ++ C)) T s → Safe (AfterEval q C ln d H r s.under) (eval (suc u) m q d (var x) s)
unfolding me.eval
var_step q m u C ln held g d H F T s x r e sc w =
    let y = if_some_is (ch.there g x) (λ v. value held g v v.ty) r e in
    let th = there_is g x y.0 y.1 in
    as_value q C ln held g d H F T s x r y.0 th.0 th.1 sc w y.0.ty refl y.2

pub share_step : (q : Prog) (m : Limits) (u : ℕ) (C : List Entry) (ln : List LevelLoan) (held : List Loan) (g : ch.Env) (d : me.Env)
    (H F : List Entry) (T : List Tree) (s : State) (x : Lexeme) (r : ch.Typed) → ch.expr q held g (share x) ≡ some r → Frame C ln held g d H F
    → Invariant q.datas (H ++ (F ++ C)) T s → Safe (AfterEval q C ln d H r s.under) (eval (suc u) m q d (share x) s)
unfolding me.eval
share_step q m u C ln held g d H F T s x r e sc w =
    let y = if_some_is (ch.there g x) (λ v. shared held g v v.ty) r e in
    let th = there_is g x y.0 y.1 in
    as_shared q C ln held g d H F T s x r y.0 th.0 th.1 sc w y.0.ty refl
    (by_name q C ln held g d H F T s x r y.0 th.0 th.1 sc w
    (λ z. shared held g (record { name = z; ty = y.0.ty; gone = y.0.gone; loans = y.0.loans }) y.0.ty ≡ some r) y.2)
