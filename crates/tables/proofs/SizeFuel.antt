-- The definition's fuel is enough for all data that has a size: what is inside is smaller, so no data is met twice on a way down.
use Rattle.std.proofs.Common.{◌≡◌, ℕ, suc, ◌+◌, ◌≤◌, Bool, true, false, not, ◌&&◌, T, eqb, ltb, leb, List, [], ◌∷◌, length, sym, refl, ap, ◌∙◌, subst, ap₂, arith, le→leb, eqb→eq, ltb→lt, leb→le, nltb→le}
use mathlib.Core.Option.{Option, some, none}
use Rattle.language.specs.Base.{choose, from_option, if_some, only_if, Lexeme, same}
use Rattle.language.specs.Syntax.{Ctor, Data}
use Rattle.language.specs.Checks.{data_named, many_ctors}
use Rattle.tables.specs.Sizes.{Sizes, cap}

pub some_same : {A : Type 0} {a b : A} → some a ≡ some b → a ≡ b
some_same {A} {a} {b} e = ap (λ (o : Option A). from_option o a (λ x. x)) e

pub none_some : {A C : Type 0} {a : A} → none ≡ some a → C
none_some {A} {C} {a} e = let z : ◌≡◌ {A = ℕ} 0 1 = ap (λ (o : Option A). from_option o 0 (λ x. 1)) e in absurd (omega arith)

pub if_inv : {A B : Type 0} (o : Option A) (f : A → Option B) (b : B) → if_some o f ≡ some b → (a : A) × (o ≡ some a) × (f a ≡ some b)
if_inv none f b e = none_some e
if_inv (some a) f b e = (a, refl, e)

pub is_true : (b : Bool) → T b → b ≡ true
is_true true t = refl
is_true false t = absurd t

pub is_T : {b : Bool} → b ≡ true → T b
is_T h = subst T (sym h) tt

pub is_not_T : {b : Bool} → b ≡ false → T (not b)
is_not_T h = subst (λ b. T (not b)) (sym h) tt

pub larger_le : (a b : ℕ) → (a ≤ choose (ltb a b) b a) × (b ≤ choose (ltb a b) b a)
larger_le a b = at (ltb a b) refl
  where
    at : (c : Bool) → ltb a b ≡ c → (a ≤ choose c b a) × (b ≤ choose c b a)
    at true e = let h = ltb→lt a b (is_T e) in (omega arith, omega arith)
    at false e = let h = nltb→le a b (is_not_T e) in (omega arith, omega arith)

pub same_is : (x y : Lexeme) → same x y ≡ true → x ≡ y
same_is [] [] e = refl
same_is [] (b ∷ y) e = absurd (is_T e)
same_is (a ∷ x) [] e = absurd (is_T e)
same_is (a ∷ x) (b ∷ y) e = at (eqb a b) refl e (λ h. same_is x y h)
  where
    at : (c : Bool) → eqb a b ≡ c → (c && same x y) ≡ true → (same x y ≡ true → x ≡ y) → a ∷ x ≡ b ∷ y
    at true h e f = ap₂ (λ (n : ℕ) (w : Lexeme). n ∷ w) (eqb→eq a b (is_T h)) (f e)
    at false h e f = absurd (is_T e)

pub cap_inv : (n m : ℕ) → cap n ≡ some m → (n ≡ m) × (m ≤ 4096)
cap_inv n m e = at (leb n 4096) refl e
  where
    at : (b : Bool) → leb n 4096 ≡ b → only_if b (some n) ≡ some m → (n ≡ m) × (m ≤ 4096)
    at true h e = let p : n ≡ m = some_same e in let q = leb→le n 4096 (is_T h) in (p, omega arith)
    at false h e = none_some e

pub cap_le : (n : ℕ) → n ≤ 4096 → cap n ≡ some n
cap_le n h = ap (λ b. only_if b (some n)) (is_true (leb n 4096) (le→leb n 4096 h))

-- what a way through one data costs; and through all that have at most size m
abbrev pub fields_in : List Ctor → ℕ
fields_in [] = 0
fields_in (k ∷ ks) = (2 + length k.fields) + fields_in ks

abbrev pub cost : Data → ℕ
cost d = (2 + length d.ctors) + fields_in d.ctors

abbrev pub costs : List Data → ℕ
costs [] = 0
costs (d ∷ ds) = cost d + costs ds

abbrev pub up_to : ℕ → Option ℕ → Bool
up_to m o = from_option o false (λ n. leb n m)

abbrev pub avail : Sizes → ℕ → List Data → ℕ
avail s m [] = 0
avail s m (d ∷ ds) = choose (up_to m (s d.name)) (cost d) 0 + avail s m ds

pub many_is : (ds : List Data) → many_ctors ds ≡ costs ds
many_is [] = refl
many_is (d ∷ ds) = let h = many_is ds in let e : many_ctors (d ∷ ds) ≡ (2 + length d.ctors) + (fields_in d.ctors + many_ctors ds) = refl in e ∙ ap (λ n. (2 + length d.ctors) + (fields_in d.ctors + n)) h ∙ omega arith

pub at_most : (s : Sizes) (m : ℕ) (ds : List Data) → avail s m ds ≤ costs ds
at_most s m [] = omega arith
at_most s m (d ∷ ds) = at (up_to m (s d.name)) (at_most s m ds)
  where
    at : (b : Bool) → avail s m ds ≤ costs ds → choose b (cost d) 0 + avail s m ds ≤ cost d + costs ds
    at true h = omega arith
    at false h = omega arith

up_more : (m : ℕ) (o : Option ℕ) → up_to m o ≡ true → up_to (suc m) o ≡ true
up_more m none h = h
up_more m (some n) h = let q = leb→le n m (is_T h) in is_true (leb n (suc m)) (le→leb n (suc m) (omega arith))

pub more : (s : Sizes) (m : ℕ) (ds : List Data) → avail s m ds ≤ avail s (suc m) ds
more s m [] = omega arith
more s m (d ∷ ds) = at (up_to m (s d.name)) (up_to (suc m) (s d.name)) (up_more m (s d.name)) (more s m ds)
  where
    at : (b c : Bool) → (b ≡ true → c ≡ true) → avail s m ds ≤ avail s (suc m) ds → choose b (cost d) 0 + avail s m ds ≤ choose c (cost d) 0 + avail s (suc m) ds
    at true true f h = omega arith
    at true false f h = absurd (is_T (f refl))
    at false true f h = omega arith
    at false false f h = omega arith

-- data of size m + 1 is among those up to m + 1, and not among those up to m
pub gap : (s : Sizes) (m : ℕ) (ds : List Data) (w : Lexeme) (k : Data) → data_named ds w ≡ some k → s w ≡ some (suc m) → cost k + avail s m ds ≤ avail s (suc m) ds
gap s m [] w k e h = none_some e
gap s m (d ∷ ds) w k e h = at (same d.name w) refl e (λ f. gap s m ds w k f h)
  where
    here : (o : Option ℕ) → o ≡ some (suc m) → (up_to m o ≡ false) × (up_to (suc m) o ≡ true)
    here none f = none_some f
    here (some n) f = let p : n ≡ suc m = some_same f in (no (leb n m) refl p, is_true (leb n (suc m)) (le→leb n (suc m) (omega arith)))
      where
        no : (b : Bool) → leb n m ≡ b → n ≡ suc m → b ≡ false
        no true q p = let r = leb→le n m (is_T q) in absurd (omega arith)
        no false q p = refl

    at : (b : Bool) → same d.name w ≡ b → choose b (some d) (data_named ds w) ≡ some k → (data_named ds w ≡ some k → cost k + avail s m ds ≤ avail s (suc m) ds) → cost k + avail s m (d ∷ ds) ≤ avail s (suc m) (d ∷ ds)
    at true q f g =
        let r = here (s d.name) (ap s (same_is d.name w q) ∙ h) in
        let z = more s m ds in
        rw (r.0, r.1) (subst (λ (x : Data). cost x + (0 + avail s m ds) ≤ cost d + avail s (suc m) ds) (some_same f) (omega arith))
    at false q f g = let z = g f in let y = up_more m (s d.name) in both (up_to m (s d.name)) (up_to (suc m) (s d.name)) y z
      where
        both : (b c : Bool) → (b ≡ true → c ≡ true) → cost k + avail s m ds ≤ avail s (suc m) ds → cost k + (choose b (cost d) 0 + avail s m ds) ≤ choose c (cost d) 0 + avail s (suc m) ds
        both true true f h = omega arith
        both true false f h = absurd (is_T (f refl))
        both false true f h = omega arith
        both false false f h = omega arith

-- u has what s has
abbrev pub Below : Sizes → Sizes → Type 0
Below s u = (w : Lexeme) (m : ℕ) → s w ≡ some m → u w ≡ some m
