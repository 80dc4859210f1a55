-- The steps for give e, where a value leaves its frame, and for a choice of bodies.
use mathlib.Core.Bool.{Bool, true, false, ◌&&◌}
use mathlib.Core.List.{List, [], ◌∷◌, ◌++◌}
use mathlib.Core.Option.{Option, some, none}
use mathlib.Core.Path.{◌≡◌, refl, sym, ap, subst}
use Prim.Native.Nat.{ℕ, suc, ◌<◌}
use native.Mathlib.Omega.{arith}
use lib.Dec.{eqb}
use lib.ListN.{length}
use Rattle.language.specs.Base.{choose, from_option, Lexeme}
use Rattle.language.specs.Syntax.{Ty, int, Expr, Body, Prog, give, give_cond}
use Rattle.language.specs.Checks.{same_ty, from_caller}
use Rattle.language.specs.Checks as ch
use Rattle.language.specs.Meaning.{Value, State, Limits, eval, bodies, tails, num_of}
use Rattle.language.specs.Meaning as me
use Rattle.soundness.specs.Borrows.{In, Addr, LevelLoan, Kind, own, borrow, inert, loans_of, WellBorrowed}
use Rattle.soundness.specs.Trees.{Tree}
use Rattle.soundness.specs.Invariant.{Entry, kinds, EntryOk, Invariant}
use Rattle.soundness.specs.Frames.{LoansCover, KindFits, Frame, RefParams}
use Rattle.soundness.specs.Preserved.{Safe, AfterEval, AfterGive, Preserved}
use Rattle.soundness.proofs.Basics.{true_false, and_left, and_right}
use Rattle.soundness.proofs.loans.Free.{push_own, pop_borrows}
use Rattle.soundness.proofs.invariant.Levels.{borrows_under, entries_length}
use Rattle.soundness.proofs.statics.Exprs.{EnvLike, expr_like}
use Rattle.soundness.proofs.statics.Rules.{same_ty_is}
use Rattle.soundness.proofs.statics.FromCaller.{from_caller_like, lent_like}
use Rattle.soundness.proofs.frames.Caller.{from_caller_ok}
use Rattle.soundness.proofs.frames.Return.{retired, retired_no_borrows, retired_named, given_borrows, valid_ref_down, give_below}
use Rattle.soundness.proofs.Safety.{safe_weaken}
use Rattle.soundness.proofs.stmts.Plain.{int_then}

split_by : (F C : List Entry) (T : List Tree) → length T ≡ length (F ++ C)
    → (T1 : List Tree) × (T2 : List Tree) × (T ≡ T1 ++ T2) × (length F ≡ length T1) × (length T2 ≡ length C)
split_by [] C T h = ([], T, refl, refl, h)
split_by (e ∷ F) C [] h = absurd (omega arith)
split_by (e ∷ F) C (x ∷ T) h = let r = split_by F C T (omega arith) in (x ∷ r.0, r.1, ap (λ z. x ∷ z) r.2, ap suc r.3, r.4)

-- from what's there behind the expression to what's there behind give
pub give_after : (q : Prog) (C : List Entry) (ln : List LevelLoan) (g : ch.Env) (d : me.Env) (qs : List Lexeme) (r : ch.Typed) (k : ℕ) (v : Value)
    (s : State) (n1 : ℕ) → EnvLike g r.env → RefParams qs g → ((l : LevelLoan) → In l ln → l.level < length C)
    → from_caller n1 g qs r.loans ≡ true → AfterEval q C ln d [] r k v s → AfterGive q C ln d r.ty k v s
give_after q C ln g d qs r k v s n1 lk lp low fc a = by_tree a.T a.invariant
  where
    F : List Entry
    F = a.F

    by_tree : (T : List Tree) → Invariant q.datas (a.top ∷ (F ++ C)) T s → AfterGive q C ln d r.ty k v s
    by_tree [] w = absurd w.entries
    by_tree (x ∷ T) w = by_shape1 a.top.kind refl
      where
        sp : (T1 : List Tree) × (T2 : List Tree) × (T ≡ T1 ++ T2) × (length F ≡ length T1) × (length T2 ≡ length C)
        sp = split_by F C T (entries_length q.datas s.roots (F ++ C) T w.entries.1)

        w2 : Invariant q.datas (a.top ∷ (F ++ C)) (x ∷ (sp.0 ++ sp.1)) s
        w2 = subst (λ z. Invariant q.datas (a.top ∷ (F ++ C)) (x ∷ z) s) sp.2 w

        finish : (sh : Kind) → KindFits r.ty sh → ((l : LevelLoan) → In l (loans_of sh) → In l ln) → WellBorrowed (sh ∷ kinds C)
            → EntryOk q.datas s.roots a.top.at a.top.gone sh x C sp.1 → AfterGive q C ln d r.ty k v s
        finish sh su lo1 sn f1 = record {
          top = record { at = a.top.at; gone = a.top.gone; kind = sh };
          F = retired F;
          T = sp.0 ++ (x ∷ sp.1);
          value_entry = record { place = a.value_entry.place; flag = a.value_entry.flag; type = su };
          loans = lo1;
          named = retired_named (length C) ln r.env d F a.names;
          no_refs = retired_no_borrows F;
          invariant =
              give_below q.datas (length C) ln r.env d a.top (record { at = a.top.at; gone = a.top.gone; kind = sh }) F C x sp.0
              sp.1 s a.names sp.3 refl sn f1 w2;
          under = a.under;
        }

        suits_lent : (al : Bool) (t : Ty) (b : Addr) (ls : List LevelLoan) → KindFits r.ty (borrow al t b ls)
            → KindFits r.ty (borrow al t b ln)
        suits_lent true t b ls h = h
        suits_lent false t b ls h = h

        by_shape1 : (sh : Kind) → a.top.kind ≡ sh → AfterGive q C ln d r.ty k v s
        by_shape1 (own t) e =
            finish (own t) (subst (KindFits r.ty) e a.value_entry.type) (λ l i. absurd i)
            (push_own (kinds C) (borrows_under F C (pop_borrows a.top.kind (kinds (F ++ C)) w.borrows)) t)
            (subst (λ z. EntryOk q.datas s.roots a.top.at a.top.gone z x (F ++ C) (sp.0 ++ sp.1)) e w2.entries.0)
        by_shape1 (borrow al t b ls) e =
            let sn1 : WellBorrowed (borrow al t b ls ∷ kinds (F ++ C)) = subst (λ z. WellBorrowed (z ∷ kinds (F ++ C))) e w.borrows in
            let f1 = subst (λ z. EntryOk q.datas s.roots a.top.at a.top.gone z x (F ++ C) (sp.0 ++ sp.1)) e w2.entries.0 in
            let cov : LoansCover (length C) ln r.env r.loans ls = subst (λ z. LoansCover (length C) ln r.env r.loans (loans_of z)) e
            a.covered in
            let oc = from_caller_ok C ln r.env d F qs a.names sn1.anchored.1 (lent_like qs g r.env lk lp) n1 r.loans ls b.owner
            (from_caller_like n1 g r.env qs r.loans lk fc) cov sn1.anchored.0.1 in
            let gs = given_borrows C ln r.env d F r.loans al t b ls a.names low cov oc sn1 in
            finish (borrow al t b ln) (suits_lent al t b ls (subst (KindFits r.ty) e a.value_entry.type)) (λ l i. i) gs.0
            (f1.0, (f1.1.0, f1.1.1, valid_ref_down q.datas F C sp.0 sp.1 t b f1.1.0 sp.4 gs.1 f1.1.2))
        by_shape1 inert e = absurd (subst (KindFits r.ty) e a.value_entry.type)

-- the case give e of tails
pub give_step : (q : Prog) (m : Limits) (u : ℕ) → Preserved q m u
    → (C : List Entry) (ln : List LevelLoan) (g : ch.Env) (d : me.Env) (F : List Entry) (T : List Tree) (s : State) (qs : List Lexeme) (t : Ty)
    (x : Expr) → ch.is_tail q qs t g (give x) ≡ true → RefParams qs g → Frame C ln [] g d [] F → Invariant q.datas (F ++ C) T s
    → Safe (AfterGive q C ln d t s.under) (tails (suc u) m q d (give x) s)
unfolding me.eval
give_step q m u h C ln g d F T s qs t x e lp sc w = go (ch.expr q [] g x) refl e
  where
    go : (o : Option ch.Typed) → ch.expr q [] g x ≡ o
        → from_option o false (λ r. same_ty r.ty t && from_caller (suc (length g)) g qs r.loans) ≡ true
        → Safe (AfterGive q C ln d t s.under) (eval u m q d x s)
    go none ex e1 = absurd (true_false (sym e1))
    go (some r) ex e1 =
        let ty_is : r.ty ≡ t = same_ty_is r.ty t (and_left (same_ty r.ty t) (from_caller (suc (length g)) g qs r.loans) e1) in
        safe_weaken (AfterGive q C ln d t s.under) (h.eval_ok C ln [] g d [] F T s x r ex sc w)
        (λ v z a. subst (λ y. AfterGive q C ln d y s.under v z) ty_is
        (give_after q C ln g d qs r s.under v z (suc (length g)) (expr_like q [] g x r ex) lp sc.under
        (and_right (same_ty r.ty t) (from_caller (suc (length g)) g qs r.loans) e1) a))

-- give if e
pub give_cond_step : (q : Prog) (m : Limits) (u : ℕ) → Preserved q m u
    → (C : List Entry) (ln : List LevelLoan) (g : ch.Env) (d : me.Env) (F : List Entry) (T : List Tree) (s : State) (qs : List Lexeme) (t : Ty)
    (e1 : Expr) (f1 f2 : Body) → ch.is_tail q qs t g (give_cond e1 f1 f2) ≡ true → RefParams qs g → Frame C ln [] g d [] F
    → Invariant q.datas (F ++ C) T s → Safe (AfterGive q C ln d t s.under) (tails (suc u) m q d (give_cond e1 f1 f2) s)
unfolding me.eval
give_cond_step q m u h C ln g d F T s qs t e1 f1 f2 e lp sc w = go (ch.expr q [] g e1) refl e
  where
    P : Value → State → Type 0
    P = AfterGive q C ln d t s.under

    go : (o : Option ch.Typed) → ch.expr q [] g e1 ≡ o
        → from_option o false (λ r. same_ty r.ty int && (ch.is_body q qs t r.env f1 && ch.is_body q qs t r.env f2)) ≡ true
        → Safe P (me.then (eval u m q d e1 s) (λ v z. me.need z (num_of v) (λ k. bodies u m q d d (choose (eqb k 0) f2 f1) z)))
    go none ex e2 = absurd (true_false (sym e2))
    go (some r) ex e2 =
        let ty = same_ty_is r.ty int (and_left (same_ty r.ty int) (ch.is_body q qs t r.env f1 && ch.is_body q qs t r.env f2) e2) in
        let two = and_right (same_ty r.ty int) (ch.is_body q qs t r.env f1 && ch.is_body q qs t r.env f2) e2 in
        let lp2 = lent_like qs g r.env (expr_like q [] g e1 r ex) lp in
        int_then q m u h P (λ z k. bodies u m q d d (choose (eqb k 0) f2 f1) z) C ln g d F T s e1 r ex ty sc w
        (λ k F2 T2 z un sc2 w2. subst (λ j. Safe (AfterGive q C ln d t j) (bodies u m q d d (choose (eqb k 0) f2 f1) z)) un
        (elim (eqb k 0) as (λ j. Safe (AfterGive q C ln d t z.under) (bodies u m q d d (choose j f2 f1) z)) [
          | true ↦ h.bodies_ok C ln r.env d [] d F2 T2 z qs t f2
              (and_right (ch.is_body q qs t r.env f1) (ch.is_body q qs t r.env f2) two) lp2 refl sc2 w2
          | false ↦ h.bodies_ok C ln r.env d [] d F2 T2 z qs t f1
              (and_left (ch.is_body q qs t r.env f1) (ch.is_body q qs t r.env f2) two) lp2 refl sc2 w2
        ]))
