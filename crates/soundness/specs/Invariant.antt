-- The invariant: a stack of entries, a tree for each, and the state of the meaning, agree.
use Rattle.std.specs.Prelude.{Bool, true, List, [], ◌∷◌, ◌⊎◌, ◌≡◌, ℕ, zero, suc, ◌+◌, eqb}
use Rattle.std.proofs.Math.Option.{some}
use Rattle.language.specs.Base.{choose, at_place}
use Rattle.language.specs.Syntax.{Ty, Data}
use Rattle.language.specs.Checks.{owned}
use Rattle.language.specs.Meaning.{Loc, Value, Root, State, here, ref_v, Class}
use Rattle.language.specs.Says.{boxes}
use Rattle.soundness.specs.Borrows.{Addr, Kind, own, borrow, inert, at_level, WellBorrowed}
use Rattle.soundness.specs.Trees.{Tree, hole_t, flat, tree_sum, Stored, Typed, subtree, loc_down}

-- where a value stands: in a root with so many words (0: a name's), or in flight
pub data Place : Type 0 where
  rooted : ℕ → ℕ → Place
  in_flight : Value → Place

-- an entry; gone: what it owns may have been moved
pub record Entry : Type 0 where
  pub at : Place
  pub gone : Bool
  pub kind : Kind

abbrev pub kinds : List Entry → List Kind
kinds [] = []
kinds (e ∷ N) = e.kind ∷ kinds N

abbrev pub places : List Entry → List Place
places [] = []
places (e ∷ N) = e.at ∷ places N

-- the value that stands at a place
abbrev pub Holds : List Root → Place → Value → Type 0
Holds rs (rooted r w) v = at_place rs r ≡ some (record { live = true; val = v; words = w })
Holds rs (in_flight u) v = u ≡ v

-- what's owned is whole, or it may be gone and is
abbrev pub Content : List Data → Bool → Ty → Tree → Type 0
Content ds gone t x = Typed ds x t ⊎ ((gone ≡ true) × (x ≡ hole_t))

-- a reference's address leads to a tree of its type, and its value to where that lies
pub record ValidRef (ds : List Data) (N : List Entry) (T : List Tree) (t : Ty) (a : Addr) (v : Value) : Type 0 where
  pub root : ℕ
  pub whole : Tree
  pub part : Tree
  pub standing : at_level (places N) a.owner ≡ some (rooted root 0)
  pub holding : at_level T a.owner ≡ some whole
  pub leading : subtree a.path whole ≡ some part
  pub typed : Typed ds part t
  pub value : v ≡ ref_v (loc_down (here root) a.path whole)

-- what only waits to be ended: a box that's being dropped, or a reference that's used no more
abbrev pub Idle : Place → Value → Type 0
Idle (rooted r zero) v = (l : Loc) × (v ≡ ref_v l)
Idle (rooted r (suc w)) v = Unit {0}
Idle (in_flight u) v = (l : Loc) × (v ≡ ref_v l)

abbrev pub EntryOk : List Data → List Root → Place → Bool → Kind → Tree → List Entry → List Tree → Type 0
EntryOk ds rs at gone (own t) x N T = Holds rs at (flat x) × Stored rs x × (owned t ≡ true) × Content ds gone t x
EntryOk ds rs at gone (borrow al t a ls) x N T = (x ≡ hole_t) × ((v : Value) × Holds rs at v × ValidRef ds N T t a v)
EntryOk ds rs at gone inert x N T = (x ≡ hole_t) × ((v : Value) × Holds rs at v × Idle at v)

abbrev pub EntriesOk : List Data → List Root → List Entry → List Tree → Type 0
EntriesOk ds rs [] [] = Unit {0}
EntriesOk ds rs [] (x ∷ T) = ⊥
EntriesOk ds rs (e ∷ N) [] = ⊥
EntriesOk ds rs (e ∷ N) (x ∷ T) = EntryOk ds rs e.at e.gone e.kind x N T × EntriesOk ds rs N T

-- sums: over the roots that stand in the stack, and over those that are live, of something by number and words
abbrev pub place_sum : (ℕ → ℕ → ℕ) → Place → ℕ
place_sum f (rooted r w) = f r w
place_sum f (in_flight v) = 0

abbrev pub stack_sum : (ℕ → ℕ → ℕ) → List Entry → List Tree → ℕ
stack_sum f [] T = 0
stack_sum f (e ∷ N) [] = 0
stack_sum f (e ∷ N) (x ∷ T) = place_sum f e.at + (tree_sum f x + stack_sum f N T)

abbrev pub live_sum : (ℕ → ℕ → ℕ) → ℕ → List Root → ℕ
live_sum f i [] = 0
live_sum f i (r ∷ rs) = choose r.live (f i r.words) 0 + live_sum f (suc i) rs

-- boxes by size: the state alone
abbrev pub in_use_of : List Class → ℕ → ℕ
in_use_of [] k = 0
in_use_of (x ∷ xs) k = choose (eqb x.words k) x.in_use (in_use_of xs k)

abbrev pub of_size : ℕ → ℕ → ℕ → ℕ
of_size k i w = choose (eqb w k) 1 0

abbrev pub is_box : ℕ → ℕ → ℕ
is_box i w = choose (eqb w 0) 0 1

pub record Counted (s : State) : Type 0 where
  pub by_size : (k : ℕ) → in_use_of s.classes (suc k) ≡ live_sum (of_size (suc k)) 0 s.roots
  pub in_all : boxes s.classes ≡ live_sum is_box 0 s.roots

pub record Invariant (ds : List Data) (N : List Entry) (T : List Tree) (s : State) : Type 0 where
  pub borrows : WellBorrowed (kinds N)
  pub entries : EntriesOk ds s.roots N T
  pub sums : (f : ℕ → ℕ → ℕ) → stack_sum f N T ≡ live_sum f 0 s.roots
  pub counted : Counted s
