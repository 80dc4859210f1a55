-- Levels, paths, and Exclusivity: what a reborrow keeps, and what it says of free and readable entries.
use mathlib.Core.Bool.{Bool, true, false}
use mathlib.Core.List.{List, [], ◌∷◌}
use mathlib.Core.Logic.{◌⊎◌, inl, inr}
use mathlib.Core.Option.{some}
use mathlib.Core.Path.{◌≡◌, refl, sym, ◌∙◌, ap, subst}
use Prim.Native.Nat.{ℕ, ◌<◌}
use native.Mathlib.Omega.{arith}
use lib.ListN.{length}
use Rattle.soundness.specs.Borrows.{Addr, Exclusivity, Comparable, HasLoan, Lent, Prefix, Kind, addr_of, exclusive, at_level, loans_of}
use Rattle.soundness.proofs.Basics.{no_some, some_is, bool_case, order_case}
use Rattle.soundness.proofs.loans.Levels.{level_push, level_case, level_below, comparable_up, prefix_trans}

pub lent_any : (N : List Kind) (i : ℕ) (al : Bool) → Lent N i al → Lent N i false
lent_any [] i al h = h
lent_any (y ∷ N) i al (inl h) = inl (h.0, h.1, h.2, λ e. absurd (let k : false ≡ true = e in let z : ◌≡◌ {A = ℕ} 0 1 = cc in omega arith))
lent_any (y ∷ N) i al (inr h) = inr (lent_any N i al h)

pub not_both : {x : Bool} → x ≡ true → x ≡ false → ⊥
not_both e f = let z : true ≡ false = sym e ∙ f in let k : ◌≡◌ {A = ℕ} 0 1 = cc in omega arith

-- Exclusivity, for any two levels
abbrev pub Permitted : List Kind → ℕ → Kind → Addr → Kind → Addr → Type 0
Permitted N i x a y d = ((exclusive x ≡ false) × (exclusive y ≡ false)) ⊎ ((exclusive x ≡ true) × Prefix a d × Lent N i (exclusive y))

pub permitted_at : (N : List Kind) → Exclusivity N → (i j : ℕ) (x y : Kind) (a d : Addr) → i < j → at_level N i ≡ some x → at_level N j ≡ some y
    → addr_of i x ≡ some a → addr_of j y ≡ some d → Comparable a d → Permitted N i x a y d
permitted_at [] h i j x y a d lt ex ey ax ay co = absurd (no_some ex)
permitted_at (t ∷ N) h i j x y a d lt ex ey ax ay co = go (level_case t N j y ey) (λ e. permitted_at N h.1 i j x y a d lt (down e) e ax ay co)
  where
    down : at_level N j ≡ some y → at_level N i ≡ some x
    down e = let g = level_below N j y e in sym (level_push t N i (omega arith)) ∙ ex

    under : j ≡ length N → at_level N i ≡ some x
    under e = sym (level_push t N i (omega arith)) ∙ ex

    more : Permitted N i x a y d → Permitted (t ∷ N) i x a y d
    more (inl b) = inl b
    more (inr b) = inr (b.0, b.1, inr b.2)

    go : ((j ≡ length N) × (t ≡ y)) ⊎ (at_level N j ≡ some y) → (at_level N j ≡ some y → Permitted N i x a y d) → Permitted (t ∷ N) i x a y d
    go (inl b) f =
        subst (λ z. Permitted (t ∷ N) i x a z d) b.1
        (h.0 d (ap (addr_of (length N)) b.1 ∙ subst (λ z. addr_of z y ≡ some d) b.0 ay) i x a (under b.0) ax co)
    go (inr b) f = more (f b)

-- a reborrow: a new entry w at or below z, exclusive only if z is. Either z is shared, or w has a loan of it,
-- and no newer entry that is comparable with w is in conflict
abbrev pub Unobstructed : List Kind → ℕ → Bool → Addr → Type 0
Unobstructed N lz wx aw =
    (j : ℕ) (v : Kind) (d : Addr) → lz < j → at_level N j ≡ some v → addr_of j v ≡ some d → Comparable d aw → (exclusive v ≡ true) ⊎ (wx ≡ true) → ⊥

pub reborrow : (N : List Kind) → Exclusivity N → (lz : ℕ) (z : Kind) (az : Addr) → at_level N lz ≡ some z → addr_of lz z ≡ some az
    → (w : Kind) (aw : Addr) → addr_of (length N) w ≡ some aw → Prefix az aw → (exclusive w ≡ true → exclusive z ≡ true)
    → (exclusive z ≡ false) ⊎ (HasLoan (loans_of w) lz (exclusive w) × Unobstructed N lz (exclusive w) aw) → Exclusivity (w ∷ N)
reborrow N h lz z az ez az_is w aw aw-is pre ex src = (
  λ d d_is i x a x-at a_is co. (let same_d : aw ≡ d = some_is (sym aw-is ∙ d_is) in subst (λ y. Permitted (w ∷ N) i x a w y) same_d
      (one i x a x-at a_is (subst (λ y. Comparable a y) (sym same_d) co))),
  h,
)
  where
    shared_w : exclusive z ≡ false → exclusive w ≡ false
    shared_w f = elim (bool_case (exclusive w)) [ inl t ↦ absurd (not_both (ex t) f) | inr t ↦ t ]

    conv : (i : ℕ) → Lent N i (exclusive z) → Lent N i (exclusive w)
    conv i l =
        elim (bool_case (exclusive w)) [
          | inl t ↦ subst (λ y. Lent N i y) (ex t ∙ sym t) l
          | inr t ↦ subst (λ y. Lent N i y) (sym t)
              (lent_any N i (exclusive z) l)
        ]

    older : (i : ℕ) (x : Kind) (a : Addr) → Permitted N i x a z az → Permitted (w ∷ N) i x a w aw
    older i x a (inl b) = inl (b.0, shared_w b.1)
    older i x a (inr b) = inr (b.0, prefix_trans a az aw b.1 pre, inr (conv i b.2))

    self : (exclusive z ≡ false) ⊎ (HasLoan (loans_of w) lz (exclusive w) × Unobstructed N lz (exclusive w) aw) → Permitted (w ∷ N) lz z az w aw
    self (inl f) = inl (f, shared_w f)
    self (inr f) = elim (bool_case (exclusive z)) [ inl t ↦ inr (t, pre, inl f.0) | inr t ↦ inl (t, shared_w t) ]

    newer : (i : ℕ) (x : Kind) (a : Addr) → lz < i → at_level N i ≡ some x → addr_of i x ≡ some a → Comparable a aw → Permitted N lz z az x a
        → (exclusive z ≡ false) ⊎ (HasLoan (loans_of w) lz (exclusive w) × Unobstructed N lz (exclusive w) aw) → Permitted (w ∷ N) i x a w aw
    newer i x a lt x-at a_is co (inl b) src1 = inl (b.1, shared_w b.0)
    newer i x a lt x-at a_is co (inr b) (inl f) = absurd (not_both b.0 f)
    newer i x a lt x-at a_is co (inr b) (inr f) =
        elim (bool_case (exclusive x)) [
          | inl t ↦ absurd (f.1 i x a lt x-at a_is co (inl t))
          | inr t ↦ elim (bool_case (exclusive w)) [ inl s ↦ absurd (f.1 i x a lt x-at a_is co (inr s)) | inr s ↦ inl (t, s) ]
        ]

    flip : (a d : Addr) → Comparable a d → Comparable d a
    flip a d (inl k) = inr k
    flip a d (inr k) = inl k

    one : (i : ℕ) (x : Kind) (a : Addr) → at_level N i ≡ some x → addr_of i x ≡ some a → Comparable a aw → Permitted (w ∷ N) i x a w aw
    one i x a x-at a_is co = elim (order_case i lz) [
      | inl lt ↦ older i x a (permitted_at N h i lz x z a az lt x-at ez a_is az_is (comparable_up a az aw pre co))
      | inr r ↦ elim r [
        | inl e ↦ (let x-is : z ≡ x = some_is (sym ez ∙ ap (at_level N) (sym e) ∙ x-at) in let a-eq : az ≡ a = some_is
            (sym az_is ∙ ap (addr_of lz) x-is ∙ ap (λ y. addr_of y x) (sym e) ∙ a_is) in subst (λ y. Permitted (w ∷ N) y x a w aw) (sym e)
            (subst (λ y. Permitted (w ∷ N) lz x y w aw) a-eq (subst (λ y. Permitted (w ∷ N) lz y az w aw) x-is (self src))))
        | inr gt ↦ newer i x a gt x-at a_is co (permitted_at N h lz i z x az a gt ez x-at az_is a_is (flip a az (comparable_up a az aw pre co))) src
      ]
    ]

-- what is free has no newer entry in conflict; what is readable, none that is exclusive
pub unobstructed_free : (N : List Kind) → Exclusivity N → (lz : ℕ) (z : Kind) (az : Addr) → at_level N lz ≡ some z → addr_of lz z ≡ some az
    → exclusive z ≡ true → (Lent N lz false → ⊥) → (wx : Bool) (aw : Addr) → Prefix az aw → Unobstructed N lz wx aw
unobstructed_free N h lz z az ez az_is xz free wx aw pre j v d lt v-at d_is co ex =
    go (permitted_at N h lz j z v az d lt ez v-at az_is d_is (swap d az (comparable_up d az aw pre co)))
  where
    swap : (a f : Addr) → Comparable a f → Comparable f a
    swap a f (inl k) = inr k
    swap a f (inr k) = inl k

    go : Permitted N lz z az v d → ⊥
    go (inl x) = not_both xz x.0
    go (inr x) = free (lent_any N lz (exclusive v) x.2)

pub unobstructed_readable : (N : List Kind) → Exclusivity N → (lz : ℕ) (z : Kind) (az : Addr) → at_level N lz ≡ some z → addr_of lz z ≡ some az
    → exclusive z ≡ true → (Lent N lz true → ⊥) → (aw : Addr) → Prefix az aw → Unobstructed N lz false aw
unobstructed_readable N h lz z az ez az_is xz free aw pre j v d lt v-at d_is co ex =
    go (permitted_at N h lz j z v az d lt ez v-at az_is d_is (swap d az (comparable_up d az aw pre co))) ex
  where
    swap : (a f : Addr) → Comparable a f → Comparable f a
    swap a f (inl k) = inr k
    swap a f (inr k) = inl k

    go : Permitted N lz z az v d → (exclusive v ≡ true) ⊎ (false ≡ true) → ⊥
    go (inl x) e = not_both xz x.0
    go (inr x) (inl e) = free (subst (λ y. Lent N lz y) e x.2)
    go (inr x) (inr e) = not_both e refl

-- parts of one name, lent one after the other: a sibling that is not comparable is no conflict
pub unobstructed_push : (N : List Kind) (lz : ℕ) (wx : Bool) (aw : Addr) (y : Kind) → Unobstructed N lz wx aw
    → ((d : Addr) → addr_of (length N) y ≡ some d → Comparable d aw → ⊥) → Unobstructed (y ∷ N) lz wx aw
unobstructed_push N lz wx aw y q no_way j v d lt v-at d_is co ex = go (level_case y N j v v-at)
  where
    go : ((j ≡ length N) × (y ≡ v)) ⊎ (at_level N j ≡ some v) → ⊥
    go (inl k) = no_way d (ap (addr_of (length N)) k.1 ∙ ap (λ z. addr_of z v) (sym k.0) ∙ d_is) co
    go (inr k) = q j v d lt k d_is co ex
