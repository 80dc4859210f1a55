-- What stands behind an expression whose value is a number or a reference; and the frame for the next one.
use mathlib.Core.Bool.{Bool, true}
use mathlib.Core.List.{List, [], ◌∷◌, ◌++◌}
use mathlib.Core.Option.{some}
use mathlib.Core.Path.{◌≡◌, refl, sym, ap, subst}
use Prim.Native.Nat.{ℕ}
use lib.ListN.{length}
use Rattle.language.specs.Syntax.{Ty, int, Prog}
use Rattle.language.specs.Checks.{Loan, typed, loan, all_loans}
use Rattle.language.specs.Checks as ch
use Rattle.language.specs.Meaning.{Value, int_v, State}
use Rattle.language.specs.Meaning as me
use Rattle.language.specs.Base.{Lexeme}
use Rattle.soundness.specs.Trees.{Tree, int_t, hole_t}
use Rattle.soundness.specs.Borrows.{Addr, LevelLoan, borrow, at_level, addr_of, exclusive, Kind}
use Rattle.soundness.specs.Invariant.{Entry, Invariant, kinds, ValidRef}
use Rattle.soundness.specs.Frames.{LoansCover, KindFits, Scope, all_loans_of, Frame, owned_entry, name_level}
use Rattle.soundness.specs.Preserved.{AfterEval}
use Rattle.soundness.proofs.Basics.{some_is}
use Rattle.soundness.proofs.invariant.Values.{push_int}
use Rattle.soundness.proofs.invariant.Borrows.{borrow_entry, one_loan, push_loan}
use Rattle.soundness.proofs.frames.Covers.{cover_same}
use Rattle.soundness.proofs.frames.AtName.{MayLend, lendable}
use Rattle.soundness.proofs.frames.Lookup.{one_covered}
use Rattle.soundness.proofs.invariant.Kinds.{ref_type, borrow_fits}
use Rattle.soundness.proofs.loans.Levels.{prefix_self}

-- an expression whose value is a number
pub int_after : (q : Prog) (C : List Entry) (ln : List LevelLoan) (g : ch.Env) (d : me.Env) (H F : List Entry) (T : List Tree) (s : State) (k j : ℕ)
    (r : ch.Typed) → ch.typed int [] g ≡ some r → Scope (length C) ln g d F → Invariant q.datas (H ++ (F ++ C)) T s → s.under ≡ j
    → AfterEval q C ln d H r j (int_v k) s
int_after q C ln g d H F T s k j r e mt w un = record {
  top = owned_entry (int_t k) int;
  F = F;
  T = int_t k ∷ T;
  value_entry = record { place = refl; flag = refl; type = (sym (ap (λ z. z.ty) r_is), refl) };
  covered = λ l i. absurd i;
  names = subst (λ z. Scope (length C) ln z.env d F) r_is mt;
  invariant = push_int q.datas (H ++ (F ++ C)) T s k w;
  under = un;
}
  where
    r_is : record { ty = int; loans = []; env = g } ≡ r
    r_is = some_is e

-- the frame behind an expression
pub frame_after : (C : List Entry) (ln : List LevelLoan) (held : List Loan) (g g2 : ch.Env) (d : me.Env) (H F F2 : List Entry)
    → Frame C ln held g d H F → Scope (length C) ln g2 d F2 → Frame C ln held g2 d H F2
frame_after C ln held g g2 d H F F2 sc mt =
    record { names = mt; above = cover_same (length C) ln g g2 d F F2 sc.names mt held (all_loans_of H) sc.above; under = sc.under }

-- an expression whose value is a reference
pub ref_after : (q : Prog) (C : List Entry) (ln : List LevelLoan) (g : ch.Env) (d : me.Env) (H F : List Entry) (T : List Tree) (s : State)
    (al : Bool) (t : Ty) (a : Addr) (L : List LevelLoan) (v : Value) (ty : Ty) (ls : List Loan) (r : ch.Typed) → typed ty ls g ≡ some r
    → KindFits ty (borrow al t a L) → LoansCover (length C) ln g ls L → Scope (length C) ln g d F
    → Invariant q.datas (borrow_entry al t a L v ∷ (H ++ (F ++ C))) (hole_t ∷ T) s → AfterEval q C ln d H r s.under v s
ref_after q C ln g d H F T s al t a L v ty ls r e su cov mt w = record {
  top = borrow_entry al t a L v;
  F = F;
  T = hole_t ∷ T;
  value_entry = record { place = refl; flag = refl; type = subst (λ z. KindFits z.ty (borrow al t a L)) r_is su };
  covered = subst (λ z. LoansCover (length C) ln z.env z.loans L) r_is cov;
  names = subst (λ z. Scope (length C) ln z.env d F) r_is mt;
  invariant = w;
  under = refl;
}
  where
    r_is : record { ty = ty; loans = ls; env = g } ≡ r
    r_is = some_is e

-- an expression whose value is a loan of the name x: of what it owns, or of what it was lent alone
pub loan_after : (q : Prog) (C : List Entry) (ln : List LevelLoan) (held : List Loan) (g : ch.Env) (d : me.Env) (H F : List Entry) (T : List Tree)
    (s : State) (x : Lexeme) (lx : ℕ) (al : Bool) (z : Kind) (a : Addr) (t : Ty) (val : Value) (r : ch.Typed) → Frame C ln held g d H F
    → Invariant q.datas (H ++ (F ++ C)) T s → name_level (length C) g x ≡ some lx → MayLend (held ++ all_loans g) x al
    → at_level (kinds (H ++ (F ++ C))) lx ≡ some z → addr_of lx z ≡ some a → exclusive z ≡ true → ValidRef q.datas (H ++ (F ++ C)) T t a val
    → typed (ref_type al t) (loan x al ∷ []) g ≡ some r → AfterEval q C ln d H r s.under val s
loan_after q C ln held g d H F T s x lx al z a t val r sc w lv may z_at a_is xz pt e =
    ref_after q C ln g d H F T s al t a (one_loan lx al) val (ref_type al t) (loan x al ∷ []) r e (borrow_fits al t a (one_loan lx al))
    (one_covered (length C) ln g x lx al lv) sc.names
    (push_loan q.datas (H ++ (F ++ C)) T s lx z a a al t val z_at a_is xz (prefix_self a)
    (lendable q.datas C ln held g d H F T s x lx al z a a sc w lv may z_at a_is xz (prefix_self a)) pt w)
