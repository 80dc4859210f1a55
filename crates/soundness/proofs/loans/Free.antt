-- Into what is free no reference leads; owners can be pushed, anything can be popped.
use mathlib.Core.Bool.{Bool, true, false}
use mathlib.Core.List.{List, [], ◌∷◌, ◌++◌, append_assoc}
use mathlib.Core.Logic.{◌⊎◌, inl, inr}
use mathlib.Core.Option.{Option, some, none}
use mathlib.Core.Path.{◌≡◌, refl, sym, ◌∙◌, ap, subst}
use Prim.Native.Nat.{ℕ, ◌<◌}
use native.Mathlib.Omega.{arith}
use lib.ListN.{length}
use Rattle.language.specs.Base.{from_option, if_some}
use Rattle.language.specs.Syntax.{Ty}
use Rattle.soundness.specs.Borrows.{Addr, Exclusivity, Comparable, Anchored, Anchored1, Lent, LevelLoan, Prefix, WellBorrowed, Kind, addr_of}
use Rattle.soundness.specs.Borrows.{owner_at, exclusive, inert, at_level, own, borrow}
use Rattle.soundness.specs.Trees.{StrictlyBelow}
use Rattle.soundness.proofs.Basics.{no_some, some_is, order_case}
use Rattle.soundness.proofs.loans.Levels.{level_push, level_case, level_below, path_longer}
use Rattle.soundness.proofs.loans.Exclusivity.{permitted_at, Permitted, lent_any, not_both}

-- into what is strictly below an exclusive and free entry, no reference leads
pub none_below : (N : List Kind) → Exclusivity N → (lz : ℕ) (z : Kind) (az : Addr) → at_level N lz ≡ some z → addr_of lz z ≡ some az
    → exclusive z ≡ true → (Lent N lz false → ⊥) → (j : ℕ) (y : Kind) (d : Addr) → at_level N j ≡ some y → addr_of j y ≡ some d → az.owner ≡ d.owner
    → StrictlyBelow az.path d.path → ⊥
none_below N h lz z az ez az_is xz free j y d y_at d_is same-cell bel = elim (order_case j lz) [
  | inl lt ↦ older (permitted_at N h j lz y z d az lt y_at ez d_is az_is (inr pre))
  | inr r ↦ elim r [
    | inl e ↦ (let y_is : z ≡ y = some_is (sym ez ∙ ap (at_level N) (sym e) ∙ y_at) in let d-eq : az ≡ d = some_is
        (sym az_is ∙ ap (addr_of lz) y_is ∙ ap (λ x. addr_of x y) (sym e) ∙ d_is) in path_longer az.path bel.1 bel.0
        (ap (λ x. x.path) d-eq ∙ bel.2))
    | inr gt ↦ newer (permitted_at N h lz j z y az d gt ez y_at az_is d_is (inl pre))
  ]
]
  where
    pre : Prefix az d
    pre = (same-cell, (bel.0 ∷ bel.1, bel.2))

    newer : Permitted N lz z az y d → ⊥
    newer (inl x) = not_both xz x.0
    newer (inr x) = free (lent_any N lz (exclusive y) x.2)

    older : Permitted N j y d z az → ⊥
    older (inl x) = not_both xz x.1
    older (inr x) =
        path_longer az.path (bel.1 ++ x.1.1.0) bel.0
        (x.1.1.1 ∙ ap (λ w. w ++ x.1.1.0) bel.2 ∙ append_assoc az.path (bel.0 ∷ bel.1) x.1.1.0)

-- references lead to older owners
pub owner_older : (N : List Kind) → Anchored N → (j : ℕ) (x : Bool) (t : Ty) (a : Addr) (ls : List LevelLoan)
    → at_level N j ≡ some (borrow x t a ls) → a.owner < j
owner_older [] h j x t a ls e = absurd (no_some e)
owner_older (y ∷ N) h j x t a ls e = go (level_case y N j (borrow x t a ls) e) (owner_older N h.1 j x t a ls)
  where
    go : ((j ≡ length N) × (y ≡ borrow x t a ls)) ⊎ (at_level N j ≡ some (borrow x t a ls))
        → (at_level N j ≡ some (borrow x t a ls) → a.owner < j) → a.owner < j
    go (inl k) f =
        let hm : Anchored1 N (borrow x t a ls) = subst (Anchored1 N) k.1 h.0 in
        let g = level_below N a.owner (own hm.2.0) hm.2.1 in let g2 = k.0 in omega arith
    go (inr k) f = f k

-- into what is owned and free no reference leads
pub none_into : (N : List Kind) → WellBorrowed N → (lz : ℕ) (u : Ty) → at_level N lz ≡ some (own u) → (Lent N lz false → ⊥)
    → (j : ℕ) (x : Bool) (t : Ty) (a : Addr) (ls : List LevelLoan) → at_level N j ≡ some (borrow x t a ls) → a.owner ≡ lz → ⊥
none_into N sn lz u ez free j x t a ls y_at e =
    go (permitted_at N sn.exclusivity lz j (own u) (borrow x t a ls) (record { owner = lz; path = [] }) a
    (let g = owner_older N sn.anchored j x t a ls y_at in omega arith) ez y_at refl refl (inl (sym e, (a.path, refl))))
  where
    go : Permitted N lz (own u) (record { owner = lz; path = [] }) (borrow x t a ls) a → ⊥
    go (inl k) = not_both refl k.0
    go (inr k) = free (lent_any N lz x k.2)

-- a new owner, or what's inert, is apart from all
pub push_own : (N : List Kind) → WellBorrowed N → (t : Ty) → WellBorrowed (own t ∷ N)
push_own N sn t =
    record { exclusivity = (λ d d_is i x a x-at a_is co. absurd (clash d d_is i x a x-at a_is co), sn.exclusivity); anchored = (tt, sn.anchored) }
  where
    cell_low : (i : ℕ) (x : Kind) (a : Addr) → at_level N i ≡ some x → addr_of i x ≡ some a → a.owner < length N
    cell_low i (own u) a x-at e =
        let g = level_below N i (own u) x-at in let k : i ≡ a.owner = ap (λ o. from_option o 0 (λ z. z.owner)) e in omega arith
    cell_low i (borrow y u f ls) a x-at e =
        let g = level_below N i (borrow y u f ls) x-at in
        let g2 = owner_older N sn.anchored i y u f ls x-at in
        let k : f.owner ≡ a.owner = ap (λ o. from_option o 0 (λ z. z.owner)) e in omega arith
    cell_low i inert a x-at e = absurd (no_some e)

    clash : (d : Addr) → addr_of (length N) (own t) ≡ some d → (i : ℕ) (x : Kind) (a : Addr) → at_level N i ≡ some x → addr_of i x ≡ some a
        → Comparable a d → ⊥
    clash d e i x a x-at a_is co =
        let g = cell_low i x a x-at a_is in
        let k : length N ≡ d.owner = ap (λ o. from_option o 0 (λ z. z.owner)) e in
        elim co [ inl c ↦ (let c0 = c.0 in omega arith) | inr c ↦ (let c0 = c.0 in omega arith) ]

pub push_inert : (N : List Kind) → WellBorrowed N → WellBorrowed (inert ∷ N)
push_inert N sn = record { exclusivity = (λ d d_is i x a x-at a_is co. absurd (no_some d_is), sn.exclusivity); anchored = (tt, sn.anchored) }

pub pop_borrows : (y : Kind) (N : List Kind) → WellBorrowed (y ∷ N) → WellBorrowed N
pop_borrows y N sn = record { exclusivity = sn.exclusivity.1; anchored = sn.anchored.1 }

-- Anchored, of a reference anywhere in the stack
pub owner_push : (y : Kind) (N : List Kind) (i k : ℕ) → owner_at N i ≡ some k → owner_at (y ∷ N) i ≡ some k
owner_push y N i k e = found (at_level N i) refl e
  where
    found : (o : Option Kind) → at_level N i ≡ o → if_some o (λ z. if_some (addr_of i z) (λ a. some a.owner)) ≡ some k
        → owner_at (y ∷ N) i ≡ some k
    found none f r = absurd (no_some r)
    found (some z) f r = ap (λ o. if_some o (λ z1. if_some (addr_of i z1) (λ a. some a.owner))) (level_push y N i (level_below N i z f) ∙ f) ∙ r
