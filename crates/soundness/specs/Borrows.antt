-- Who owns and who borrows: the stack of all names and of all values in flight, newest first, by kind. An entry's LEVEL is the number of entries under it,
-- so it stays the same when something is put on top.
use Rattle.std.specs.Prelude.{Bool, true, false, List, [], ◌∷◌, ◌++◌, ◌⊎◌, ◌≡◌, ℕ, ◌<◌, eqb, length}
use Rattle.std.proofs.Math.Option.{Option, some, none}
use Rattle.language.specs.Base.{if_some, choose}
use Rattle.language.specs.Syntax.{Ty}
use Rattle.soundness.specs.Trees.{Path}

abbrev pub In : {A : Type 0} → A → List A → Type 0
In x [] = ⊥
In x (y ∷ ys) = (x ≡ y) ⊎ In x ys

-- an address: the level of the entry that owns, and the path down its tree, through fields and boxes
pub record Addr : Type 0 where
  pub owner : ℕ
  pub path : Path

-- a loan of what stands at a level
pub record LevelLoan : Type 0 where
  pub level : ℕ
  pub alone : Bool

-- owns a tree of a type; borrows, alone or shared, a tree of a type at an address, with loans; or a root that is only there to be ended
pub data Kind : Type 0 where
  own : Ty → Kind
  borrow : Bool → Ty → Addr → List LevelLoan → Kind
  inert : Kind

abbrev pub at_level : {A : Type 0} → List A → ℕ → Option A
at_level [] i = none
at_level (x ∷ xs) i = choose (eqb i (length xs)) (some x) (at_level xs i)

abbrev pub exclusive : Kind → Bool
exclusive (own t) = true
exclusive (borrow x t a ls) = x
exclusive inert = true

abbrev pub loans_of : Kind → List LevelLoan
loans_of (own t) = []
loans_of (borrow x t a ls) = ls
loans_of inert = []

-- the address of what stands at a level: of what is owned, its own
abbrev pub addr_of : ℕ → Kind → Option Addr
addr_of i (own t) = some (record { owner = i; path = [] })
addr_of i (borrow x t a ls) = some a
addr_of i inert = none

abbrev pub Prefix : Addr → Addr → Type 0
Prefix a d = (a.owner ≡ d.owner) × ((r : Path) × (d.path ≡ a.path ++ r))

abbrev pub Comparable : Addr → Addr → Type 0
Comparable a d = Prefix a d ⊎ Prefix d a

-- somebody has a loan of level i; alone, if that's asked
abbrev pub HasLoan : List LevelLoan → ℕ → Bool → Type 0
HasLoan ls i al = (l : LevelLoan) × In l ls × (l.level ≡ i) × (al ≡ true → l.alone ≡ true)

abbrev pub Lent : List Kind → ℕ → Bool → Type 0
Lent [] i al = ⊥
Lent (y ∷ N) i al = HasLoan (loans_of y) i al ⊎ Lent N i al

-- EXCLUSIVITY, of an older x at level i and address a, and a newer y at address d, N up to y: if one of the addresses is above
-- the other, then both are shared; or
-- x is exclusive and above, and its level is lent, alone if y is exclusive
abbrev pub Pairwise : List Kind → ℕ → Kind → Addr → Kind → Addr → Type 0
Pairwise N i x a y d = Comparable a d → ((exclusive x ≡ false) × (exclusive y ≡ false)) ⊎ ((exclusive x ≡ true) × Prefix a d × Lent N i (exclusive y))

abbrev pub Exclusivity : List Kind → Type 0
Exclusivity [] = Unit {0}
Exclusivity (y ∷ N) =
    ((d : Addr) → addr_of (length N) y ≡ some d → (i : ℕ) (x : Kind) (a : Addr) → at_level N i ≡ some x → addr_of i x ≡ some a
    → Pairwise (y ∷ N) i x a y d) × Exclusivity N

-- ANCHORED: a reference's loans are of older entries, one of them leads into the same owner, and that owner owns
abbrev pub owner_at : List Kind → ℕ → Option ℕ
owner_at N i = if_some (at_level N i) (λ x. if_some (addr_of i x) (λ a. some a.owner))

abbrev pub Anchored1 : List Kind → Kind → Type 0
Anchored1 N (own t) = Unit {0}
Anchored1 N (borrow x t a ls) =
    ((l : LevelLoan) → In l ls → l.level < length N) × ((l : LevelLoan) × In l ls × (owner_at N l.level ≡ some a.owner))
    × ((u : Ty) × (at_level N a.owner ≡ some (own u)))
Anchored1 N inert = Unit {0}

abbrev pub Anchored : List Kind → Type 0
Anchored [] = Unit {0}
Anchored (y ∷ N) = Anchored1 N y × Anchored N

pub record WellBorrowed (N : List Kind) : Type 0 where
  pub exclusivity : Exclusivity N
  pub anchored : Anchored N
