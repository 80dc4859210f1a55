-- Tests; words copied and swapped.
use mathlib.Core.Path.{◌≡◌, refl, sym, ap, subst, ◌∙◌}
use mathlib.Core.Bool.{Bool, true, false, ◌&&◌, not}
use mathlib.Core.Option.{Option, some, none}
use mathlib.Core.Logic.{◌⊎◌, inl, inr}
use Prim.Native.Nat.{ℕ, suc, ◌+◌, ◌-◌, ◌≤◌, ◌<◌}
use native.Mathlib.Omega.{arith}
use lib.Dec.{eqb, ltb, leb, T, eqb→eq, leb→le, le→leb, nleb→lt}
use Rattle.language.specs.Base.{choose, if_some}
use Rattle.simulation.proofs.Machine.{copy, swap}
use Rattle.simulation.proofs.Memory.{no_some}

pub is_true : (z : Bool) → T z → z ≡ true
is_true true g = refl
is_true false g = absurd g

pub is_false : (z : Bool) → (T z → ⊥) → z ≡ false
is_false true g = absurd (g tt)
is_false false g = refl

pub leb_yes : {i j : ℕ} → i ≤ j → leb i j ≡ true
leb_yes {i} {j} h = is_true (leb i j) (le→leb i j h)

pub leb_no : {i j : ℕ} → j < i → leb i j ≡ false
leb_no {i} {j} h = is_false (leb i j) (λ t. let z = leb→le i j t in omega arith)

pub leb_says : (i j : ℕ) → leb i j ≡ true → i ≤ j
leb_says i j e = leb→le i j (subst T (sym e) tt)

pub leb_denies : (i j : ℕ) → leb i j ≡ false → j < i
leb_denies i j e = nleb→lt i j (subst (λ z. T (not z)) (sym e) tt)

pub eqb_says : (i j : ℕ) → eqb i j ≡ true → i ≡ j
eqb_says i j e = eqb→eq i j (subst T (sym e) tt)

in_range : (d z j : ℕ) → d ≤ j → j < d + z → (leb d j && ltb j (d + z)) ≡ true
in_range d z j h g = ap (λ x. x && ltb j (d + z)) (leb_yes h) ∙ leb_yes g

pub under_range : (d z j : ℕ) → j < d → (leb d j && ltb j (d + z)) ≡ false
under_range d z j h = ap (λ x. x && ltb j (d + z)) (leb_no h)

over_range : (d z j : ℕ) → d + z ≤ j → (leb d j && ltb j (d + z)) ≡ false
over_range d z j h = by (leb d j) (leb_no {i = suc j} {j = d + z} (omega arith))
  where
    by : (x : Bool) → ltb j (d + z) ≡ false → (x && ltb j (d + z)) ≡ false
    by true e = e
    by false e = refl

pub copy_in : (w : ℕ → ℕ) (d a z i : ℕ) → i < z → copy w d a z (d + i) ≡ w (a + i)
copy_in w d a z i h = ap (λ x. choose x (w (a + ((d + i) - d))) (w (d + i))) (in_range d z (d + i) (omega arith) (omega arith)) ∙ ap w (omega arith)

pub copy_under : (w : ℕ → ℕ) (d a z j : ℕ) → j < d → copy w d a z j ≡ w j
copy_under w d a z j h = ap (λ x. choose x (w (a + (j - d))) (w j)) (under_range d z j h)

pub copy_over : (w : ℕ → ℕ) (d a z j : ℕ) → d + z ≤ j → copy w d a z j ≡ w j
copy_over w d a z j h = ap (λ x. choose x (w (a + (j - d))) (w j)) (over_range d z j h)

-- d below a
pub swap_low : (w : ℕ → ℕ) (d a z i : ℕ) → i < z → swap w d a z (d + i) ≡ w (a + i)
swap_low w d a z i h = ap (λ x. choose x (w (a + ((d + i) - d))) (choose (leb a (d + i) && ltb (d + i) (a + z)) (w (d + ((d + i) - a))) (w (d + i)))) (in_range d z (d + i) (omega arith) (omega arith)) ∙ ap w (omega arith)

pub swap_high : (w : ℕ → ℕ) (d a z i : ℕ) → i < z → d + z ≤ a → swap w d a z (a + i) ≡ w (d + i)
swap_high w d a z i h g = ap (λ x. choose x (w (a + ((a + i) - d))) (choose (leb a (a + i) && ltb (a + i) (a + z)) (w (d + ((a + i) - a))) (w (a + i)))) (over_range d z (a + i) (omega arith)) ∙ (ap (λ x. choose x (w (d + ((a + i) - a))) (w (a + i))) (in_range a z (a + i) (omega arith) (omega arith)) ∙ ap w (omega arith))

pub swap_under : (w : ℕ → ℕ) (d a z j : ℕ) → d + z ≤ a → j < d → swap w d a z j ≡ w j
swap_under w d a z j g h = ap (λ x. choose x (w (a + (j - d))) (choose (leb a j && ltb j (a + z)) (w (d + (j - a))) (w j))) (under_range d z j h) ∙ ap (λ x. choose x (w (d + (j - a))) (w j)) (under_range a z j (omega arith))

pub swap_mid : (w : ℕ → ℕ) (d a z j : ℕ) → d + z ≤ j → j < a → swap w d a z j ≡ w j
swap_mid w d a z j g h = ap (λ x. choose x (w (a + (j - d))) (choose (leb a j && ltb j (a + z)) (w (d + (j - a))) (w j))) (over_range d z j g) ∙ ap (λ x. choose x (w (d + (j - a))) (w j)) (under_range a z j h)

pub swap_over : (w : ℕ → ℕ) (d a z j : ℕ) → d + z ≤ a → a + z ≤ j → swap w d a z j ≡ w j
swap_over w d a z j g h = ap (λ x. choose x (w (a + (j - d))) (choose (leb a j && ltb j (a + z)) (w (d + (j - a))) (w j))) (over_range d z j (omega arith)) ∙ ap (λ x. choose x (w (d + (j - a))) (w j)) (over_range a z j h)

pub copy_off : (w : ℕ → ℕ) (d a z j : ℕ) → (d ≤ j → j < d + z → ⊥) → copy w d a z j ≡ w j
copy_off w d a z j g = go1 (leb d j) refl (leb (suc j) (d + z)) refl
  where
    go1 : (x : Bool) → leb d j ≡ x → (y : Bool) → leb (suc j) (d + z) ≡ y → copy w d a z j ≡ w j
    go1 false e1 y e2 = copy_under w d a z j (leb_denies d j e1)
    go1 true e1 false e2 = copy_over w d a z j (let q1 = leb_denies (suc j) (d + z) e2 in omega arith)
    go1 true e1 true e2 = absurd (g (leb_says d j e1) (leb_says (suc j) (d + z) e2))

-- d below a: below a, outside of what's exchanged
pub swap_off : (w : ℕ → ℕ) (d a z j : ℕ) → j < a → (d ≤ j → j < d + z → ⊥) → swap w d a z j ≡ w j
swap_off w d a z j h g = ap (λ x. choose (leb d j && ltb j (d + z)) (w (a + (j - d))) x) (ap (λ x. choose x (w (d + (j - a))) (w j)) (under_range a z j h)) ∙ copy_off w d a z j g

pub swap_copy : (w : ℕ → ℕ) (d a z j : ℕ) → j < a → swap w d a z j ≡ copy w d a z j
swap_copy w d a z j h = ap (λ x. choose (leb d j && ltb j (d + z)) (w (a + (j - d))) x) (ap (λ x. choose x (w (d + (j - a))) (w j)) (under_range a z j h))

pub choose_true : {A : Type 0} (t : Bool) (x y : A) → t ≡ true → choose t x y ≡ x
choose_true true x y e = refl
choose_true false x y e = absurd (subst (λ z. T (not z)) e tt)

pub choose_false : {A : Type 0} (t : Bool) (x y : A) → t ≡ false → choose t x y ≡ y
choose_false true x y e = absurd (subst (λ z. T z) e tt)
choose_false false x y e = refl

pub le_or : (i j : ℕ) → (i ≤ j) ⊎ (j < i)
le_or i j = by (leb i j) refl
  where
    by : (z : Bool) → leb i j ≡ z → (i ≤ j) ⊎ (j < i)
    by true e = inl (leb_says i j e)
    by false e = inr (leb_denies i j e)

pub if_some_is : {A C : Type 0} (o : Option A) (f : A → Option C) (x : C) → if_some o f ≡ some x → (a : A) × ((o ≡ some a) × (f a ≡ some x))
if_some_is none f x e = absurd (no_some e)
if_some_is (some a) f x e = (a, (refl, e))
