-- Small facts of Booleans, options, lists and words.
use mathlib.Core.Bool.{Bool, true, false, ◌&&◌, ◌||◌, not}
use mathlib.Core.List.{List, [], ◌∷◌, ◌++◌}
use mathlib.Core.Logic.{◌⊎◌, inl, inr}
use mathlib.Core.Option.{Option, some, none}
use mathlib.Core.Path.{◌≡◌, refl, sym, ◌∙◌, ap, subst}
use Prim.Native.Nat.{ℕ, zero, suc, ◌<◌}
use native.Mathlib.Omega.{arith}
use lib.Dec.{eqb, T, eqb→eq, eqb_refl}
use Rattle.language.specs.Base.{if_some, Lexeme, same, only_if, each_of}
use Rattle.soundness.specs.Borrows.{In}

pub no_some : {A : Type 0} {x : A} → none ≡ some x → ⊥
no_some e = let z : ◌≡◌ {A = ℕ} 0 1 = cc in omega arith

pub some_is : {A : Type 0} {x y : A} → some x ≡ some y → x ≡ y
some_is e = cc

pub if_some_is : {A C : Type 0} (o : Option A) (f : A → Option C) (y : C) → if_some o f ≡ some y → (x : A) × (o ≡ some x) × (f x ≡ some y)
if_some_is none f y e = absurd (no_some e)
if_some_is (some x) f y e = (x, refl, e)

pub append_nil : {A : Type 0} (xs : List A) → xs ++ [] ≡ xs
append_nil [] = refl
append_nil (x ∷ xs) = ap (λ z. x ∷ z) (append_nil xs)

pub bool_case : (x : Bool) → (x ≡ true) ⊎ (x ≡ false)
bool_case true = inl refl
bool_case false = inr refl

pub order_case : (i j : ℕ) → (i < j) ⊎ ((i ≡ j) ⊎ (j < i))
order_case zero zero = inr (inl refl)
order_case zero (suc j) = inl (omega arith)
order_case (suc i) zero = inr (inr (omega arith))
order_case (suc i) (suc j) =
    elim (order_case i j) [ inl h ↦ inl (omega arith) | inr h ↦ elim h [ inl k ↦ inr (inl (ap suc k)) | inr k ↦ inr (inr (omega arith)) ] ]

pub only_is : {A : Type 0} (z : Bool) (y : Option A) (r : A) → only_if z y ≡ some r → (z ≡ true) × (y ≡ some r)
only_is true y r e = (refl, e)
only_is false y r e = absurd (no_some e)

pub true_false : true ≡ false → ⊥
true_false e = let z : ◌≡◌ {A = ℕ} 0 1 = cc in omega arith

pub or_left : (a z : Bool) → a ≡ true → (a || z) ≡ true
or_left true z e = refl
or_left false z e = absurd (true_false (sym e))

pub or_right : (a z : Bool) → z ≡ true → (a || z) ≡ true
or_right true z e = refl
or_right false z e = e

T_of : {x : Bool} → x ≡ true → T x
T_of e = subst T (sym e) tt

of_T : (x : Bool) → T x → x ≡ true
of_T true t = refl
of_T false t = absurd t

pub and_left : (x y : Bool) → (x && y) ≡ true → x ≡ true
and_left true y e = refl
and_left false y e = e

pub and_right : (x y : Bool) → (x && y) ≡ true → y ≡ true
and_right true y e = e
and_right false y e = absurd (true_false (sym e))

pub or_case : (x y : Bool) → (x || y) ≡ true → (x ≡ true) ⊎ (y ≡ true)
or_case true y e = inl refl
or_case false y e = inr e

pub same_is : (x y : Lexeme) → same x y ≡ true → x ≡ y
same_is [] [] e = refl
same_is [] (y ∷ ys) e = absurd (true_false (sym e))
same_is (x ∷ xs) [] e = absurd (true_false (sym e))
same_is (x ∷ xs) (y ∷ ys) e =
    let a : x ≡ y = eqb→eq x y (T_of (and_left (eqb x y) (same xs ys) e)) in let k = same_is xs ys (and_right (eqb x y) (same xs ys) e) in cc

pub same_self : (x : Lexeme) → same x x ≡ true
same_self [] = refl
same_self (x ∷ xs) = ap (λ z. z && same xs xs) (of_T (eqb x x) (eqb_refl x)) ∙ same_self xs

pub in_left : {A : Type 0} (x : A) (xs ys : List A) → In x xs → In x (xs ++ ys)
in_left x [] ys h = absurd h
in_left x (z ∷ zs) ys (inl h) = inl h
in_left x (z ∷ zs) ys (inr h) = inr (in_left x zs ys h)

pub in_right : {A : Type 0} (x : A) (xs ys : List A) → In x ys → In x (xs ++ ys)
in_right x [] ys h = h
in_right x (z ∷ zs) ys h = inr (in_right x zs ys h)

pub each_in : {A : Type 0} (f : A → Bool) (xs : List A) (x : A) → each_of f xs ≡ true → In x xs → f x ≡ true
each_in f [] x e h = absurd h
each_in f (y ∷ ys) x e (inl h) = ap f h ∙ and_left (f y) (each_of f ys) e
each_in f (y ∷ ys) x e (inr h) = each_in f ys x (and_right (f y) (each_of f ys) e) h

pub not_true : (x : Bool) → not x ≡ true → x ≡ false
not_true true e = absurd (true_false (sym e))
not_true false e = refl
