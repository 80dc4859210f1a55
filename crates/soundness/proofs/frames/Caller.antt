-- What may be given: a reference whose loans come from the caller leads into the caller's.
use mathlib.Core.Bool.{Bool, true, false, ◌&&◌, ◌||◌, not}
use mathlib.Core.List.{List, [], ◌∷◌, ◌++◌}
use mathlib.Core.Logic.{◌⊎◌, inl, inr}
use mathlib.Core.Option.{Option, some, none}
use mathlib.Core.Path.{◌≡◌, refl, sym, ◌∙◌, ap, subst}
use Prim.Native.Nat.{ℕ, zero, suc}
use lib.ListN.{length}
use Rattle.language.specs.Base.{from_option, if_some, Lexeme, is_in}
use Rattle.language.specs.Syntax.{Ty}
use Rattle.language.specs.Checks.{Loan, Var, loan, owned, look, from_caller}
use Rattle.language.specs.Checks as ch
use Rattle.language.specs.Meaning as me
use Rattle.soundness.specs.Borrows.{In, Addr, LevelLoan, Kind, own, borrow, inert, at_level, loans_of, addr_of, owner_at, Anchored1, Anchored}
use Rattle.soundness.specs.Invariant.{Entry, kinds}
use Rattle.soundness.specs.Frames.{name_level, LoansCover, KindFits, Scope, RefParams}
use Rattle.soundness.proofs.Basics.{no_some, some_is, true_false, and_left, and_right, or_case, each_in, not_true}
use Rattle.soundness.proofs.loans.Levels.{level_case, level_below, level_push}
use Rattle.soundness.proofs.invariant.Levels.{level_kinds}
use Rattle.soundness.proofs.frames.Levels.{NameEntry, name_entry}

-- what is given
anchored_loan : (N : List Kind) → Anchored N → (j : ℕ) (x : Bool) (t : Ty) (a : Addr) (ls : List LevelLoan) → at_level N j ≡ some (borrow x t a ls)
    → (l : LevelLoan) × In l ls × (owner_at N l.level ≡ some a.owner)
anchored_loan [] h j x t a ls e = absurd (no_some e)
anchored_loan (y ∷ N) h j x t a ls e = go (level_case y N j (borrow x t a ls) e) (anchored_loan N h.1 j x t a ls)
  where
    up : (l : LevelLoan) → owner_at N l.level ≡ some a.owner → owner_at (y ∷ N) l.level ≡ some a.owner
    up l k = found (at_level N l.level) refl k
      where
        found : (o : Option Kind) → at_level N l.level ≡ o
            → if_some o (λ z. if_some (addr_of l.level z) (λ b. some b.owner)) ≡ some a.owner → owner_at (y ∷ N) l.level ≡ some a.owner
        found none f r = absurd (no_some r)
        found (some z) f r =
            ap (λ o. if_some o (λ z1. if_some (addr_of l.level z1) (λ b. some b.owner)))
            (level_push y N l.level (level_below N l.level z f) ∙ f) ∙ r

    go : ((j ≡ length N) × (y ≡ borrow x t a ls)) ⊎ (at_level N j ≡ some (borrow x t a ls))
        → (at_level N j ≡ some (borrow x t a ls) → (l : LevelLoan) × In l ls × (owner_at N l.level ≡ some a.owner))
        → (l : LevelLoan) × In l ls × (owner_at (y ∷ N) l.level ≡ some a.owner)
    go (inl k) f = let hm : Anchored1 N (borrow x t a ls) = subst (Anchored1 N) k.1 h.0 in let w = hm.1 in (w.0, w.1, up w.0 w.2)
    go (inr k) f = let w = f k in (w.0, w.1, up w.0 w.2)

-- a reference's loans that come from the caller only: one of the caller's loans leads into its owner
abbrev pub OfOwner : List Entry → List LevelLoan → ℕ → Type 0
OfOwner N L cl = (l : LevelLoan) × In l L × (owner_at (kinds N) l.level ≡ some cl)

-- one step: from a loan of a name that is a reference to that name's own loans
pub loan_step : (C : List Entry) (ln : List LevelLoan) (g : ch.Env) (d : me.Env) (F : List Entry) (x : Lexeme) (v : Var) (lx cl : ℕ)
    → Scope (length C) ln g d F → Anchored (kinds (F ++ C)) → look g x ≡ some v → owned v.ty ≡ false → name_level (length C) g x ≡ some lx
    → owner_at (kinds (F ++ C)) lx ≡ some cl → (L : List LevelLoan) × LoansCover (length C) ln g v.loans L × OfOwner (F ++ C) L cl
loan_step C ln g d F x v lx cl mt hm lk ow lev-x cell = go y.en.kind (level_kinds (F ++ C) y.level y.en y.stands) y.type y.loans
  where
    y : NameEntry C ln g d F x v
    y = name_entry C ln g d F x v mt lk

    lx_is : lx ≡ y.level
    lx_is = some_is (sym lev-x ∙ y.levelled)

    cell_y : owner_at (kinds (F ++ C)) y.level ≡ some cl
    cell_y = subst (λ z. owner_at (kinds (F ++ C)) z ≡ some cl) lx_is cell

    go : (s : Kind) → at_level (kinds (F ++ C)) y.level ≡ some s → KindFits v.ty s → LoansCover (length C) ln g v.loans (loans_of s)
        → (L : List LevelLoan) × LoansCover (length C) ln g v.loans L × OfOwner (F ++ C) L cl
    go (own t) e su cov = absurd (true_false (sym su.1 ∙ ap owned (sym su.0) ∙ ow))
    go (borrow al t a ls) e su cov =
        let w = anchored_loan (kinds (F ++ C)) hm y.level al t a ls e in
        let c_is : a.owner ≡ cl = some_is (sym (ap (λ o. if_some o (λ z. if_some (addr_of y.level z) (λ b. some b.owner))) e) ∙ cell_y) in
        (ls, cov, (w.0, w.1, w.2 ∙ ap {B = Option ℕ} (λ z. some z) c_is))
    go inert e su cov = absurd su

pub from_caller_ok : (C : List Entry) (ln : List LevelLoan) (g : ch.Env) (d : me.Env) (F : List Entry) (qs : List Lexeme) → Scope (length C) ln g d F
    → Anchored (kinds (F ++ C)) → RefParams qs g → (k : ℕ) (ls : List Loan) (L : List LevelLoan) (cl : ℕ) → from_caller k g qs ls ≡ true
    → LoansCover (length C) ln g ls L → OfOwner (F ++ C) L cl → OfOwner (F ++ C) ln cl
from_caller_ok C ln g d F qs mt hm pars zero ls L cl e cov w = absurd (true_false (sym e))
from_caller_ok C ln g d F qs mt hm pars (suc k) ls L cl e cov w =
    go (cov w.0 w.1) (λ ls2 L2 e2 cov2 w2. from_caller_ok C ln g d F qs mt hm pars k ls2 L2 cl e2 cov2 w2)
  where
    Rec : Type 0
    Rec =
        (ls2 : List Loan) (L2 : List LevelLoan) → from_caller k g qs ls2 ≡ true → LoansCover (length C) ln g ls2 L2 → OfOwner (F ++ C) L2 cl
        → OfOwner (F ++ C) ln cl

    test : Loan → Bool
    test l = is_in l.root qs || from_option (look g l.root) false (λ v. not (owned v.ty) && from_caller k g qs v.loans)

    by_par : (x : Lexeme) → name_level (length C) g x ≡ some w.0.level → is_in x qs ≡ true → OfOwner (F ++ C) ln cl
    by_par x lv h =
        let p = pars x h in
        let st = loan_step C ln g d F x p.0 w.0.level cl mt hm p.1 p.3 lv w.2 in
        let cov0 : LoansCover (length C) ln g [] st.0 = subst (λ z. LoansCover (length C) ln g z st.0) p.2 st.1 in
        (st.2.0, elim (cov0 st.2.0 st.2.1) [ inl i ↦ i | inr j ↦ absurd j.2 ], st.2.2)

    by_name : (x : Lexeme) (o : Option Var) → look g x ≡ o → name_level (length C) g x ≡ some w.0.level
        → from_option o false (λ v. not (owned v.ty) && from_caller k g qs v.loans) ≡ true → Rec → OfOwner (F ++ C) ln cl
    by_name x none lk lv h rec = absurd (true_false (sym h))
    by_name x (some v) lk lv h rec =
        let st = loan_step C ln g d F x v w.0.level cl mt hm lk
        (not_true (owned v.ty) (and_left (not (owned v.ty)) (from_caller k g qs v.loans) h)) lv w.2 in
        rec v.loans st.0 (and_right (not (owned v.ty)) (from_caller k g qs v.loans) h) st.1 st.2

    go : In w.0 ln ⊎ ((x : Lexeme) × (name_level (length C) g x ≡ some w.0.level) × In (loan x w.0.alone) ls) → Rec
        → OfOwner (F ++ C) ln cl
    go (inl h) rec = (w.0, h, w.2)
    go (inr h) rec =
        elim (or_case (is_in h.0 qs) (from_option (look g h.0) false (λ v. not (owned v.ty) && from_caller k g qs v.loans))
        (each_in test ls (loan h.0 w.0.alone) e h.2)) [
          | inl i ↦ by_par h.0 h.1 i
          | inr i ↦ by_name h.0
              (look g h.0) refl h.1 i rec
        ]
