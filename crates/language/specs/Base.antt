-- Choices, lists, and lexemes.
use Rattle.std.specs.Prelude.{Bool, true, false, ◌&&◌, ◌||◌, not, List, [], ◌∷◌, ℕ, zero, suc, eqb}
use Rattle.std.proofs.Math.Option.{Option, some, none}

-- the first if it is so, else the second
abbrev pub choose : {A : Type 0} → Bool → A → A → A
choose true a b = a
choose false a b = b

-- c where there is nothing, else f of what there is
abbrev pub from_option : {A C : Type 0} → Option A → C → (A → C) → C
from_option none c f = c
from_option (some x) c f = f x

-- goes on with what there is
abbrev pub if_some : {A C : Type 0} → Option A → (A → Option C) → Option C
if_some none f = none
if_some (some x) f = f x

-- nothing where it isn't so
abbrev pub only_if : {A : Type 0} → Bool → Option A → Option A
only_if true o = o
only_if false o = none

-- there is something
abbrev pub present : {A : Type 0} → Option A → Bool
present none = false
present (some x) = true

-- the list with v at place n; unchanged where there is no such place
abbrev pub set_at : {A : Type 0} → List A → ℕ → A → List A
set_at [] n v = []
set_at (x ∷ xs) zero v = v ∷ xs
set_at (x ∷ xs) (suc n) v = x ∷ set_at xs n v

-- what stands at a place, counted from 0
abbrev pub at_place : {A : Type 0} → List A → ℕ → Option A
at_place [] n = none
at_place (x ∷ xs) zero = some x
at_place (x ∷ xs) (suc n) = at_place xs n

-- f holds of all; of at least one
abbrev pub each_of : {A : Type 0} → (A → Bool) → List A → Bool
each_of f [] = true
each_of f (x ∷ xs) = f x && each_of f xs

abbrev pub some_of : {A : Type 0} → (A → Bool) → List A → Bool
some_of f [] = false
some_of f (x ∷ xs) = f x || some_of f xs

-- a word or sign of a text, as the numbers of its bytes
abbrev pub Lexeme : Type 0
Lexeme = List ℕ

-- the same bytes
abbrev pub same : Lexeme → Lexeme → Bool
same [] [] = true
same [] (y ∷ ys) = false
same (x ∷ xs) [] = false
same (x ∷ xs) (y ∷ ys) = eqb x y && same xs ys

abbrev pub is_in : Lexeme → List Lexeme → Bool
is_in w ws = some_of (same w) ws

-- none stands there twice
abbrev pub no_twice : List Lexeme → Bool
no_twice [] = true
no_twice (x ∷ xs) = not (is_in x xs) && no_twice xs
