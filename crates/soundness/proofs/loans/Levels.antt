-- Levels of a stack; paths that are comparable.
use mathlib.Core.Bool.{Bool, true, false}
use mathlib.Core.List.{List, [], ◌∷◌, ◌++◌, append_assoc}
use mathlib.Core.Logic.{◌⊎◌, inl, inr}
use mathlib.Core.Option.{some}
use mathlib.Core.Path.{◌≡◌, refl, sym, ◌∙◌, ap}
use Prim.Native.Nat.{ℕ, suc, ◌<◌}
use native.Mathlib.Omega.{arith}
use lib.Dec.{eqb, T, eqb→eq, eqb_refl}
use lib.ListN.{length, length-append}
use Rattle.language.specs.Base.{choose}
use Rattle.soundness.specs.Borrows.{Addr, Comparable, Prefix, at_level}
use Rattle.soundness.specs.Trees.{Step, Path}
use Rattle.soundness.proofs.Basics.{no_some, some_is, append_nil}

-- levels
pub level_top : {A : Type 0} (x : A) (xs : List A) → at_level (x ∷ xs) (length xs) ≡ some x
level_top x xs = go (eqb (length xs) (length xs)) (eqb_refl (length xs))
  where
    go : (y : Bool) → T y → choose y (some x) (at_level xs (length xs)) ≡ some x
    go true t = refl
    go false t = absurd t

-- what stands at a level in x ∷ xs: the top, or further down
pub level_case : {A : Type 0} (x : A) (xs : List A) (i : ℕ) (y : A) → at_level (x ∷ xs) i ≡ some y
    → ((i ≡ length xs) × (x ≡ y)) ⊎ (at_level xs i ≡ some y)
level_case x xs i y e = go (eqb i (length xs)) (λ t. eqb→eq i (length xs) t) e
  where
    go : (o : Bool) → (T o → i ≡ length xs) → choose o (some x) (at_level xs i) ≡ some y → ((i ≡ length xs) × (x ≡ y)) ⊎ (at_level xs i ≡ some y)
    go true h e1 = inl (h tt, some_is e1)
    go false h e1 = inr e1

pub level_below : {A : Type 0} (xs : List A) (i : ℕ) (y : A) → at_level xs i ≡ some y → i < length xs
level_below [] i y e = absurd (no_some e)
level_below (x ∷ xs) i y e = go (level_case x xs i y e) (level_below xs i y)
  where
    go : ((i ≡ length xs) × (x ≡ y)) ⊎ (at_level xs i ≡ some y) → (at_level xs i ≡ some y → i < length xs) → i < suc (length xs)
    go (inl h) f = let g = h.0 in omega arith
    go (inr h) f = let g = f h in omega arith

pub level_push : {A : Type 0} (x : A) (xs : List A) (i : ℕ) → i < length xs → at_level (x ∷ xs) i ≡ at_level xs i
level_push x xs i h = go (eqb i (length xs)) (λ t. eqb→eq i (length xs) t)
  where
    go : (o : Bool) → (T o → i ≡ length xs) → choose o (some x) (at_level xs i) ≡ at_level xs i
    go true f = absurd (let g = f tt in omega arith)
    go false f = refl

-- paths
pub two_paths : (q r s t : Path) → q ++ s ≡ r ++ t → ((z : Path) × (r ≡ q ++ z)) ⊎ ((z : Path) × (q ≡ r ++ z))
two_paths [] r s t e = inl (r, refl)
two_paths (i ∷ q) [] s t e = inr (i ∷ q, refl)
two_paths (i ∷ q) (j ∷ r) s t e = go (let h : q ++ s ≡ r ++ t = cc in two_paths q r s t h)
  where
    go : ((z : Path) × (r ≡ q ++ z)) ⊎ ((z : Path) × (q ≡ r ++ z)) → ((z : Path) × (j ∷ r ≡ (i ∷ q) ++ z)) ⊎ ((z : Path) × (i ∷ q ≡ (j ∷ r) ++ z))
    go (inl h) = inl (h.0, (let a : j ≡ i = cc in let k = h.1 in cc))
    go (inr h) = inr (h.0, (let a : i ≡ j = cc in let k = h.1 in cc))

pub prefix_trans : (a d f : Addr) → Prefix a d → Prefix d f → Prefix a f
prefix_trans a d f h k = (h.0 ∙ k.0, (h.1.0 ++ k.1.0, k.1.1 ∙ ap (λ z. z ++ k.1.0) h.1.1 ∙ append_assoc a.path h.1.0 k.1.0))

-- what is comparable with something at or below z is comparable with z
pub comparable_up : (a z w : Addr) → Prefix z w → Comparable a w → Comparable a z
comparable_up a z w h (inl k) = go (two_paths a.path z.path k.1.0 h.1.0 (sym k.1.1 ∙ h.1.1))
  where
    go : ((r : Path) × (z.path ≡ a.path ++ r)) ⊎ ((r : Path) × (a.path ≡ z.path ++ r)) → Comparable a z
    go (inl r) = inl (k.0 ∙ sym h.0, r)
    go (inr r) = inr (h.0 ∙ sym k.0, r)
comparable_up a z w h (inr k) = inr (prefix_trans z w a h k)

pub path_longer : (q r : Path) (i : Step) → q ≡ q ++ (i ∷ r) → ⊥
path_longer q r i e = let k : length q ≡ length (q ++ (i ∷ r)) = ap length e in let g = length-append q (i ∷ r) in omega arith

-- two different steps below one address
pub siblings : (cell : ℕ) (q : Path) (i j : Step) → (i ≡ j → ⊥)
    → Comparable (record { owner = cell; path = q ++ (i ∷ []) }) (record { owner = cell; path = q ++ (j ∷ []) }) → ⊥
siblings cell q i j ne (inl h) = apart q h.1.0 h.1.1
  where
    apart : (q r : Path) → q ++ (j ∷ []) ≡ (q ++ (i ∷ [])) ++ r → ⊥
    apart [] r e = ne (let k : j ≡ i = cc in sym k)
    apart (x ∷ q) r e = apart q r (let k : q ++ (j ∷ []) ≡ (q ++ (i ∷ [])) ++ r = cc in k)
siblings cell q i j ne (inr h) = apart q h.1.0 h.1.1
  where
    apart : (q r : Path) → q ++ (i ∷ []) ≡ (q ++ (j ∷ [])) ++ r → ⊥
    apart [] r e = ne (let k : i ≡ j = cc in k)
    apart (x ∷ q) r e = apart q r (let k : q ++ (i ∷ []) ≡ (q ++ (j ∷ [])) ++ r = cc in k)

pub prefix_self : (a : Addr) → Prefix a a
prefix_self a = (refl, ([], sym (append_nil a.path)))
