-- Owned trees: values with boxes inlined, paths through fields and boxes, and how they lie in the meaning's flat store.
use Rattle.std.specs.Prelude.{true, List, [], ◌∷◌, ◌++◌, ◌≡◌, ℕ, zero, suc, ◌+◌}
use Rattle.std.proofs.Math.Option.{Option, some, none}
use Rattle.language.specs.Base.{from_option, if_some, at_place, Lexeme}
use Rattle.language.specs.Syntax.{Ty, int, dat, box, ref, mut, Data}
use Rattle.language.specs.Checks.{home_of, size_of, Home}
use Rattle.language.specs.Meaning.{Loc, Value, int_v, con_v, Values, Root, here, box_v, hole, nil_v, cons_v}

-- a tree: a number; a constructor; a box, with its root and its words; nothing
mutual
  pub data Tree : Type 0 where
    int_t : ℕ → Tree
    con_t : Lexeme → Trees → Tree
    box_t : ℕ → ℕ → Tree → Tree
    hole_t : Tree

  pub data Trees : Type 0 where
    nil_t : Trees
    cons_t : Tree → Trees → Trees

-- as the meaning has it: a box by its root alone
abbrev mutual
  pub flat : Tree → Value
  flat (int_t k) = int_v k
  flat (con_t k ts) = con_v k (flats ts)
  flat (box_t r w t) = box_v r
  flat hole_t = hole

  pub flats : Trees → Values
  flats nil_t = nil_v
  flats (cons_t t ts) = cons_v (flat t) (flats ts)

-- so much for each box, by its root and words
abbrev mutual
  pub tree_sum : (ℕ → ℕ → ℕ) → Tree → ℕ
  tree_sum f (int_t k) = 0
  tree_sum f (con_t k ts) = trees_sum f ts
  tree_sum f (box_t r w t) = f r w + tree_sum f t
  tree_sum f hole_t = 0

  pub trees_sum : (ℕ → ℕ → ℕ) → Trees → ℕ
  trees_sum f nil_t = 0
  trees_sum f (cons_t t ts) = tree_sum f t + trees_sum f ts

-- the boxes of a tree lie in the store
abbrev mutual
  pub Stored : List Root → Tree → Type 0
  Stored rs (int_t k) = Unit {0}
  Stored rs (con_t k ts) = StoredAll rs ts
  Stored rs (box_t r w t) = (at_place rs r ≡ some (record { live = true; val = flat t; words = w })) × Stored rs t
  Stored rs hole_t = Unit {0}

  pub StoredAll : List Root → Trees → Type 0
  StoredAll rs nil_t = Unit {0}
  StoredAll rs (cons_t t ts) = Stored rs t × StoredAll rs ts

-- typed trees have nothing missing
abbrev pub words_in : List Data → Ty → ℕ
words_in ds t = from_option (size_of ds t) 1 (λ z. z)

abbrev mutual
  pub Typed : List Data → Tree → Ty → Type 0
  Typed ds (int_t k) int = Unit {0}
  Typed ds (int_t k) (dat d) = ⊥
  Typed ds (int_t k) (box t) = ⊥
  Typed ds (int_t k) (ref t) = ⊥
  Typed ds (int_t k) (mut t) = ⊥
  Typed ds (con_t k ts) int = ⊥
  Typed ds (con_t k ts) (dat d) = (h : Home) × (home_of ds k ≡ some h) × (h.data1.name ≡ d) × TypedAll ds ts h.ctor1.fields
  Typed ds (con_t k ts) (box t) = ⊥
  Typed ds (con_t k ts) (ref t) = ⊥
  Typed ds (con_t k ts) (mut t) = ⊥
  Typed ds (box_t r w t) int = ⊥
  Typed ds (box_t r w t) (dat d) = ⊥
  Typed ds (box_t r w t) (box u) = (w ≡ words_in ds u) × Typed ds t u
  Typed ds (box_t r w t) (ref u) = ⊥
  Typed ds (box_t r w t) (mut u) = ⊥
  Typed ds hole_t t = ⊥

  pub TypedAll : List Data → Trees → List Ty → Type 0
  TypedAll ds nil_t [] = Unit {0}
  TypedAll ds nil_t (t ∷ ts) = ⊥
  TypedAll ds (cons_t x xs) [] = ⊥
  TypedAll ds (cons_t x xs) (t ∷ ts) = Typed ds x t × TypedAll ds xs ts

-- one step down: into a field, or into a box
pub data Step : Type 0 where
  field_step : ℕ → Step
  box_step : Step

abbrev pub Path : Type 0
Path = List Step

abbrev pub nth_t : Trees → ℕ → Option Tree
nth_t nil_t i = none
nth_t (cons_t t ts) zero = some t
nth_t (cons_t t ts) (suc i) = nth_t ts i

abbrev pub put_t : Trees → ℕ → Tree → Trees
put_t nil_t i u = nil_t
put_t (cons_t t ts) zero u = cons_t u ts
put_t (cons_t t ts) (suc i) u = cons_t t (put_t ts i u)

abbrev pub child : Step → Tree → Option Tree
child (field_step i) (int_t k) = none
child (field_step i) (con_t k ts) = nth_t ts i
child (field_step i) (box_t r w t) = none
child (field_step i) hole_t = none
child box_step (int_t k) = none
child box_step (con_t k ts) = none
child box_step (box_t r w t) = some t
child box_step hole_t = none

abbrev pub set_child : Step → Tree → Tree → Tree
set_child (field_step i) u (int_t k) = int_t k
set_child (field_step i) u (con_t k ts) = con_t k (put_t ts i u)
set_child (field_step i) u (box_t r w t) = box_t r w t
set_child (field_step i) u hole_t = hole_t
set_child box_step u (int_t k) = int_t k
set_child box_step u (con_t k ts) = con_t k ts
set_child box_step u (box_t r w t) = box_t r w u
set_child box_step u hole_t = hole_t

abbrev pub subtree : Path → Tree → Option Tree
subtree [] t = some t
subtree (i ∷ is) t = if_some (child i t) (subtree is)

abbrev pub replace : Path → Tree → Tree → Tree
replace [] u t = u
replace (i ∷ is) u t = from_option (child i t) t (λ k. set_child i (replace is u k) t)

-- where what is one step down lies; and what is down a path
abbrev pub loc_step : Loc → Step → Tree → Loc
loc_step l (field_step i) t = record { root = l.root; path = l.path ++ (i ∷ []) }
loc_step l box_step (int_t k) = l
loc_step l box_step (con_t k ts) = l
loc_step l box_step (box_t r w t) = here r
loc_step l box_step hole_t = l

abbrev pub loc_down : Loc → Path → Tree → Loc
loc_down l [] t = l
loc_down l (i ∷ is) t = from_option (child i t) l (λ k. loc_down (loc_step l i t) is k)

-- a path strictly below another
abbrev pub StrictlyBelow : Path → Path → Type 0
StrictlyBelow a q = (i : Step) × (r : Path) × (q ≡ a ++ (i ∷ r))
