-- Static loans that cover an entry's: by other names of the same levels, and of two lists.
use mathlib.Core.List.{List, [], ◌∷◌, ◌++◌, append_assoc}
use mathlib.Core.Logic.{◌⊎◌, inl, inr}
use mathlib.Core.Option.{some}
use mathlib.Core.Path.{◌≡◌, refl, sym, ◌∙◌, ap}
use Prim.Native.Nat.{ℕ, suc, ◌+◌}
use lib.ListN.{length}
use Rattle.language.specs.Base.{choose, Lexeme, same}
use Rattle.language.specs.Checks.{Loan, loan}
use Rattle.language.specs.Checks as ch
use Rattle.language.specs.Meaning as me
use Rattle.soundness.specs.Borrows.{In, LevelLoan, loans_of}
use Rattle.soundness.specs.Invariant.{Entry}
use Rattle.soundness.specs.Frames.{name_level, LoansCover, Scope, all_loans_of}
use Rattle.soundness.proofs.Basics.{in_left, in_right}
use Rattle.soundness.proofs.frames.Levels.{scope_length}

-- two static environments of the same names
pub same_name_levels : (base : ℕ) (ln : List LevelLoan) (g g2 : ch.Env) (d : me.Env) (F F2 : List Entry) → Scope base ln g d F
    → Scope base ln g2 d F2 → (x : Lexeme) → name_level base g x ≡ name_level base g2 x
same_name_levels base ln [] [] [] [] [] a b x = refl
same_name_levels base ln [] [] [] [] (e2 ∷ F2) a b x = refl
same_name_levels base ln [] [] [] (e ∷ F) F2 a b x = refl
same_name_levels base ln [] [] (m ∷ d) F F2 a b x = refl
same_name_levels base ln [] (v2 ∷ g2) [] F F2 a b x = absurd b
same_name_levels base ln [] (v2 ∷ g2) (m ∷ d) F F2 a b x = absurd a
same_name_levels base ln (v ∷ g) [] [] F F2 a b x = absurd a
same_name_levels base ln (v ∷ g) [] (m ∷ d) F F2 a b x = absurd b
same_name_levels base ln (v ∷ g) (v2 ∷ g2) [] F F2 a b x = absurd a
same_name_levels base ln (v ∷ g) (v2 ∷ g2) (m ∷ d) [] F2 a b x = absurd a
same_name_levels base ln (v ∷ g) (v2 ∷ g2) (m ∷ d) (e ∷ F) [] a b x = absurd b
same_name_levels base ln (v ∷ g) (v2 ∷ g2) (m ∷ d) (e ∷ F) (e2 ∷ F2) a b x = go (same_name_levels base ln g g2 d F F2 a.1 b.1 x)
  where
    nm : v.name ≡ v2.name
    nm = a.0.name ∙ sym b.0.name

    lens : length g ≡ length g2
    lens =
        sym (scope_length base ln g d F a.1) ∙ both_len F F2 g2 d (scope_length base ln g d F a.1) a.1 b.1
        ∙ scope_length base ln g2 d F2 b.1
      where
        names_len : (g : ch.Env) (d : me.Env) (F : List Entry) → Scope base ln g d F → length F ≡ length d
        names_len [] [] [] k = refl
        names_len [] [] (e1 ∷ F1) k = absurd k
        names_len [] (m1 ∷ d1) F1 k = absurd k
        names_len (v1 ∷ g1) [] F1 k = absurd k
        names_len (v1 ∷ g1) (m1 ∷ d1) [] k = absurd k
        names_len (v1 ∷ g1) (m1 ∷ d1) (e1 ∷ F1) k = ap suc (names_len g1 d1 F1 k.1)

        both_len : (F F2 : List Entry) (g2 : ch.Env) (d : me.Env) → length F ≡ length g → Scope base ln g d F → Scope base ln g2 d F2
            → length F ≡ length F2
        both_len F F2 g2 d k a1 b1 = names_len g d F a1 ∙ sym (names_len g2 d F2 b1)

    go : name_level base g x ≡ name_level base g2 x → name_level base (v ∷ g) x ≡ name_level base (v2 ∷ g2) x
    go ih =
        ap (λ z. choose (same z x) (some (length g + base)) (name_level base g x)) nm ∙ ap
        (λ z. choose (same v2.name x) (some (z + base)) (name_level base g x)) lens ∙ ap
        (λ z. choose (same v2.name x) (some (length g2 + base)) z) ih

pub cover_same : (base : ℕ) (ln : List LevelLoan) (g g2 : ch.Env) (d : me.Env) (F F2 : List Entry) → Scope base ln g d F → Scope base ln g2 d F2
    → (ls : List Loan) (L : List LevelLoan) → LoansCover base ln g ls L → LoansCover base ln g2 ls L
cover_same base ln g g2 d F F2 a b ls L cov l i =
    elim (cov l i) [ inl k ↦ inl k | inr k ↦ inr (k.0, sym (same_name_levels base ln g g2 d F F2 a b k.0) ∙ k.1, k.2) ]

pub in_either : {A : Type 0} (x : A) (xs ys : List A) → In x (xs ++ ys) → In x xs ⊎ In x ys
in_either x [] ys h = inr h
in_either x (z ∷ zs) ys (inl h) = inl (inl h)
in_either x (z ∷ zs) ys (inr h) = elim (in_either x zs ys h) [ inl k ↦ inl (inr k) | inr k ↦ inr k ]

pub cover_both : (base : ℕ) (ln : List LevelLoan) (g : ch.Env) (ls ms : List Loan) (L M : List LevelLoan) → LoansCover base ln g ls L
    → LoansCover base ln g ms M → LoansCover base ln g (ls ++ ms) (L ++ M)
cover_both base ln g ls ms L M a b l i = elim (in_either l L M i) [
  | inl k ↦ elim (a l k) [ inl y ↦ inl y | inr y ↦ inr (y.0, y.1, in_left (loan y.0 l.alone) ls ms y.2) ]
  | inr k ↦ elim (b l k) [ inl y ↦ inl y | inr y ↦ inr (y.0, y.1, in_right (loan y.0 l.alone) ls ms y.2) ]
]

pub all_loans_both : (K A : List Entry) → all_loans_of (K ++ A) ≡ all_loans_of K ++ all_loans_of A
all_loans_both [] A = refl
all_loans_both (e ∷ K) A =
    ap (λ z. loans_of e.kind ++ z) (all_loans_both K A) ∙ sym (append_assoc (loans_of e.kind) (all_loans_of K) (all_loans_of A))
