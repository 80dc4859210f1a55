-- From the rules to the stack: what is free or readable by its name is so at its level; what may be given is the caller's.
use mathlib.Core.Bool.{Bool, true, false, ◌&&◌, ◌||◌, not}
use mathlib.Core.List.{List, [], ◌∷◌, ◌++◌}
use mathlib.Core.Logic.{◌⊎◌, inl, inr}
use mathlib.Core.Option.{Option, some}
use mathlib.Core.Path.{◌≡◌, refl, sym, ◌∙◌, ap, subst}
use Prim.Native.Nat.{ℕ, ◌+◌, ◌≤◌, ◌<◌}
use native.Mathlib.Omega.{arith}
use lib.ListN.{length}
use Rattle.language.specs.Base.{Lexeme, same, some_of}
use Rattle.language.specs.Checks.{Loan, Var, loan, is_free, readable, all_loans}
use Rattle.language.specs.Checks as ch
use Rattle.language.specs.Meaning as me
use Rattle.soundness.specs.Borrows.{In, LevelLoan, Kind, own, borrow, inert, loans_of, HasLoan, Lent, Anchored}
use Rattle.soundness.specs.Invariant.{Entry, kinds}
use Rattle.soundness.specs.Frames.{name_level, LoansCover, Scope, all_loans_of, Frame}
use Rattle.soundness.proofs.Basics.{true_false, or_right, same_self, in_left, in_right}
use Rattle.soundness.proofs.invariant.Levels.{kinds_length}
use Rattle.soundness.proofs.frames.Levels.{name_level_case, name_level_inj, name_level_low}

-- no loan of a level below
lent_low : (N : List Kind) → Anchored N → (i : ℕ) (al : Bool) → length N ≤ i → Lent N i al → ⊥
lent_low [] h i al le x = x
lent_low (own t ∷ N) h i al le (inl x) = x.1
lent_low (borrow y t a ls ∷ N) h i al le (inl x) = let g = h.0.0 x.0 x.1 in let k = x.2 in omega arith
lent_low (inert ∷ N) h i al le (inl x) = x.1
lent_low (y ∷ N) h i al le (inr x) = lent_low N h.1 i al (omega arith) x

-- the static loans speak of x only as is allowed: no loan of x, or none alone
abbrev pub NotAmong : List Loan → Lexeme → Bool → Type 0
NotAmong ls x al = (y : Lexeme) (z : Bool) → In (loan y z) ls → y ≡ x → (al ≡ true → z ≡ true) → ⊥

-- the name x has level lx in g, or g is all below it
abbrev Pos : ℕ → ch.Env → Lexeme → ℕ → Type 0
Pos base g x lx = (length g + base ≤ lx) ⊎ (name_level base g x ≡ some lx)

pos_tail : (base : ℕ) (v : Var) (vs : ch.Env) (x : Lexeme) (lx : ℕ) → Pos base (v ∷ vs) x lx → Pos base vs x lx
pos_tail base v vs x lx (inl h) = inl (omega arith)
pos_tail base v vs x lx (inr h) = elim (name_level_case base v vs x lx h) [ inl k ↦ inl (let a = k.1 in omega arith) | inr k ↦ inr k ]

-- a covered loan of level lx is a static loan of x
covered_no : (base : ℕ) (ln : List LevelLoan) (g : ch.Env) (ls : List Loan) (L : List LevelLoan) (x : Lexeme) (lx : ℕ) (al : Bool)
    → ((l : LevelLoan) → In l ln → l.level < base) → base ≤ lx → Pos base g x lx → LoansCover base ln g ls L → NotAmong ls x al
    → HasLoan L lx al → ⊥
covered_no base ln g ls L x lx al low le pos cov sp has = go (cov has.0 has.1)
  where
    go : In has.0 ln ⊎ ((y : Lexeme) × (name_level base g y ≡ some has.0.level) × In (loan y has.0.alone) ls) → ⊥
    go (inl h) = let a = low has.0 h in let k = has.2 in omega arith
    go (inr h) =
        let e : name_level base g h.0 ≡ some lx = h.1 ∙ ap {B = Option ℕ} (λ z. some z) has.2 in
        elim pos [
          | inl p ↦ (let a = name_level_low base g h.0 lx e in let a1 = a.1 in omega arith)
          | inr p ↦ sp h.0 has.0.alone h.2
              (name_level_inj base g h.0 x lx e p) has.3
        ]

lent_frame : (C : List Entry) (ln : List LevelLoan) (g : ch.Env) (d : me.Env) (F : List Entry) (x : Lexeme) (lx : ℕ) (al : Bool)
    → Scope (length C) ln g d F → ((l : LevelLoan) → In l ln → l.level < length C) → length C ≤ lx → Pos (length C) g x lx
    → NotAmong (all_loans g) x al → (Lent (kinds C) lx al → ⊥) → Lent (kinds (F ++ C)) lx al → ⊥
lent_frame C ln [] [] [] x lx al mt low le pos sp c h = c h
lent_frame C ln [] [] (e ∷ F) x lx al mt low le pos sp c h = absurd mt
lent_frame C ln [] (m ∷ d) F x lx al mt low le pos sp c h = absurd mt
lent_frame C ln (v ∷ g) [] F x lx al mt low le pos sp c h = absurd mt
lent_frame C ln (v ∷ g) (m ∷ d) [] x lx al mt low le pos sp c h = absurd mt
lent_frame C ln (v ∷ g) (m ∷ d) (e ∷ F) x lx al mt low le pos sp c (inl h) =
    covered_no (length C) ln g v.loans (loans_of e.kind) x lx al low le (pos_tail (length C) v g x lx pos) mt.0.loans
    (λ y z i. sp y z (in_left (loan y z) v.loans (all_loans g) i)) h
lent_frame C ln (v ∷ g) (m ∷ d) (e ∷ F) x lx al mt low le pos sp c (inr h) =
    lent_frame C ln g d F x lx al mt.1 low le (pos_tail (length C) v g x lx pos)
    (λ y z i. sp y z (in_right (loan y z) v.loans (all_loans g) i)) c h

lent_above : (X H : List Entry) (i : ℕ) (al : Bool) → (HasLoan (all_loans_of H) i al → ⊥) → (Lent (kinds X) i al → ⊥)
    → Lent (kinds (H ++ X)) i al → ⊥
lent_above X [] i al f c h = c h
lent_above X (e ∷ H) i al f c (inl h) = f (h.0, in_left h.0 (loans_of e.kind) (all_loans_of H) h.1, h.2, h.3)
lent_above X (e ∷ H) i al f c (inr h) =
    lent_above X H i al (λ k. f (k.0, in_right k.0 (loans_of e.kind) (all_loans_of H) k.1, k.2, k.3)) c h

-- free and readable by the rules, for the whole stack
pub not_lent_by_name : (C : List Entry) (ln : List LevelLoan) (held : List Loan) (g : ch.Env) (d : me.Env) (H F : List Entry) (x : Lexeme) (lx : ℕ)
    (al : Bool) → Frame C ln held g d H F → Anchored (kinds C) → name_level (length C) g x ≡ some lx → NotAmong (held ++ all_loans g) x al
    → Lent (kinds (H ++ (F ++ C))) lx al → ⊥
not_lent_by_name C ln held g d H F x lx al sc hm e sp =
    let le = (name_level_low (length C) g x lx e).0 in
    lent_above (F ++ C) H lx al (covered_no (length C) ln g held (all_loans_of H) x lx al sc.under le (inr e) sc.above
    (λ y z i. sp y z (in_left (loan y z) held (all_loans g) i)))
    (lent_frame C ln g d F x lx al sc.names sc.under le (inr e) (λ y z i. sp y z (in_right (loan y z) held (all_loans g) i))
    (lent_low (kinds C) hm lx al (len C le)))
  where
    len : (N : List Entry) → length N ≤ lx → length (kinds N) ≤ lx
    len N h = let k = kinds_length N in omega arith

some_of_in : {A : Type 0} (f : A → Bool) (xs : List A) (x : A) → In x xs → f x ≡ true → some_of f xs ≡ true
some_of_in f [] x h e = absurd h
some_of_in f (y ∷ ys) x (inl h) e = ap (λ z. z || some_of f ys) (ap f (sym h) ∙ e)
some_of_in f (y ∷ ys) x (inr h) e = or_right (f y) (some_of f ys) (some_of_in f ys x h e)

pub free_not_among : (ls : List Loan) (x : Lexeme) → is_free ls x ≡ true → NotAmong ls x false
free_not_among ls x e y z i same_name f =
    true_false (sym e ∙ ap not (some_of_in (λ l. same l.root x) ls (loan y z) i (subst (λ w. same y w ≡ true) same_name (same_self y))))

pub readable_not_among : (ls : List Loan) (x : Lexeme) → readable ls x ≡ true → NotAmong ls x true
readable_not_among ls x e y z i same_name f =
    true_false (sym e ∙ ap not (some_of_in (λ l. same l.root x && l.alone) ls (loan y z) i
    (ap (λ w. w && z) (subst (λ w. same y w ≡ true) same_name (same_self y)) ∙ f refl)))
