-- What stands at a name of the frame, and what its rule (free, readable) says of the stack.
use mathlib.Core.Bool.{Bool, true, false}
use mathlib.Core.List.{List, [], ◌∷◌, ◌++◌}
use mathlib.Core.Logic.{inl, inr}
use mathlib.Core.Option.{Option, some}
use mathlib.Core.Path.{◌≡◌, sym, ◌∙◌, ap, subst}
use Prim.Native.Nat.{ℕ}
use lib.ListN.{length}
use Rattle.language.specs.Base.{Lexeme}
use Rattle.language.specs.Syntax.{Data}
use Rattle.language.specs.Checks.{Loan, Var, loan, look, is_free, readable, all_loans}
use Rattle.language.specs.Checks as ch
use Rattle.language.specs.Meaning.{State}
use Rattle.language.specs.Meaning as me
use Rattle.soundness.specs.Trees.{Tree}
use Rattle.soundness.specs.Borrows.{LevelLoan, at_level, loans_of, Lent}
use Rattle.soundness.specs.Invariant.{Place, rooted, Entry, kinds, places, EntryOk, Invariant}
use Rattle.soundness.specs.Frames.{name_level, LoansCover, KindFits, Frame}
use Rattle.soundness.proofs.invariant.Levels.{anchored_under, level_kinds, EntryAt, entry_at, level_under}
use Rattle.soundness.proofs.invariant.Borrows.{one_loan}
use Rattle.soundness.proofs.frames.Free.{not_lent_by_name, free_not_among, readable_not_among}
use Rattle.soundness.proofs.frames.Levels.{NameEntry, name_entry}

-- what stands at a name, in the whole stack
pub record NameAt (ds : List Data) (C : List Entry) (ln : List LevelLoan) (g : ch.Env) (d : me.Env) (H F : List Entry) (T : List Tree) (s : State)
    (x : Lexeme) (v : Var) : Type 0 where
  pub level : ℕ
  pub en : Entry
  pub root : ℕ
  pub levelled : name_level (length C) g x ≡ some level
  pub at_kind : at_level (kinds (H ++ (F ++ C))) level ≡ some en.kind
  pub named : me.root_of d x ≡ some root
  pub type : KindFits v.ty en.kind
  pub loans : LoansCover (length C) ln g v.loans (loans_of en.kind)
  pub stands : EntryAt ds s.roots (H ++ (F ++ C)) T level en
  pub ok_at_root : EntryOk ds s.roots (rooted root 0) v.gone en.kind stands.tree (H ++ (F ++ C)) T
  pub at_root : at_level (places (H ++ (F ++ C))) level ≡ some (rooted root 0)

pub name_at : (ds : List Data) (C : List Entry) (ln : List LevelLoan) (held : List Loan) (g : ch.Env) (d : me.Env) (H F : List Entry) (T : List Tree)
    (s : State) (x : Lexeme) (v : Var) → Frame C ln held g d H F → Invariant ds (H ++ (F ++ C)) T s → look g x ≡ some v
    → NameAt ds C ln g d H F T s x v
name_at ds C ln held g d H F T s x v sc w lk = record {
  level = en.level;
  en = en.en;
  root = en.root;
  levelled = en.levelled;
  at_kind = level_kinds N en.level en.en at_N;
  named = en.named;
  type = en.type;
  loans = en.loans;
  stands = st;
  ok_at_root =
      subst (λ k. EntryOk ds s.roots k v.gone en.en.kind st.tree N T) en.placed
      (subst (λ k. EntryOk ds s.roots en.en.at k en.en.kind st.tree N T) en.flag st.ok_entry);
  at_root = st.place ∙ ap {B = Option Place} (λ z. some z) en.placed;
}
  where
    N : List Entry
    N = H ++ (F ++ C)

    en : NameEntry C ln g d F x v
    en = name_entry C ln g d F x v sc.names lk

    at_N : at_level N en.level ≡ some en.en
    at_N = level_under H (F ++ C) en.level en.en en.stands

    st : EntryAt ds s.roots N T en.level en.en
    st = entry_at ds s.roots N T en.level en.en w.entries at_N

-- free and readable, at the name's level
pub free_at : (ds : List Data) (C : List Entry) (ln : List LevelLoan) (held : List Loan) (g : ch.Env) (d : me.Env) (H F : List Entry) (T : List Tree)
    (s : State) (x : Lexeme) (lx : ℕ) → Frame C ln held g d H F → Invariant ds (H ++ (F ++ C)) T s → name_level (length C) g x ≡ some lx
    → is_free (held ++ all_loans g) x ≡ true → Lent (kinds (H ++ (F ++ C))) lx false → ⊥
free_at ds C ln held g d H F T s x lx sc w e fr =
    not_lent_by_name C ln held g d H F x lx false sc (anchored_under F C (anchored_under H (F ++ C) w.borrows.anchored)) e
    (free_not_among (held ++ all_loans g) x fr)

pub readable_at : (ds : List Data) (C : List Entry) (ln : List LevelLoan) (held : List Loan) (g : ch.Env) (d : me.Env) (H F : List Entry)
    (T : List Tree) (s : State) (x : Lexeme) (lx : ℕ) → Frame C ln held g d H F → Invariant ds (H ++ (F ++ C)) T s
    → name_level (length C) g x ≡ some lx → readable (held ++ all_loans g) x ≡ true → Lent (kinds (H ++ (F ++ C))) lx true → ⊥
readable_at ds C ln held g d H F T s x lx sc w e fr =
    not_lent_by_name C ln held g d H F x lx true sc (anchored_under F C (anchored_under H (F ++ C) w.borrows.anchored)) e
    (readable_not_among (held ++ all_loans g) x fr)

-- the loan of a name is covered by the rule's
pub one_covered : (base : ℕ) (ln : List LevelLoan) (g : ch.Env) (x : Lexeme) (lx : ℕ) (al : Bool) → name_level base g x ≡ some lx
    → LoansCover base ln g (loan x al ∷ []) (one_loan lx al)
one_covered base ln g x lx al e l i =
    elim i [ inl k ↦ inr (x, e ∙ ap {B = Option ℕ} (λ z. some z.level) (sym k), inl (ap (λ z. loan x z.alone) k)) | inr k ↦ absurd k ]
