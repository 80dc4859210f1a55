-- A live root stands once in the picture: at one level, as the place or within the tree.
use mathlib.Core.List.{List, [], ◌∷◌}
use mathlib.Core.Logic.{◌⊎◌, inl, inr}
use mathlib.Core.Option.{some}
use mathlib.Core.Path.{◌≡◌, ap}
use Prim.Native.Nat.{ℕ, ◌+◌, ◌≤◌, ◌<◌}
use native.Mathlib.Omega.{arith}
use lib.ListN.{length}
use Rattle.language.specs.Syntax.{Data}
use Rattle.language.specs.Meaning.{State}
use Rattle.soundness.specs.Trees.{Tree, tree_sum}
use Rattle.soundness.specs.Borrows.{at_level}
use Rattle.soundness.specs.Invariant.{Place, Entry, places, place_sum, stack_sum, Invariant}
use Rattle.soundness.proofs.Basics.{no_some, order_case}
use Rattle.soundness.proofs.memory.Paths.{mark}
use Rattle.soundness.proofs.loans.Levels.{level_case, level_below}
use Rattle.soundness.proofs.invariant.Levels.{places_length, entries_length}
use Rattle.soundness.proofs.invariant.Top.{once_in}

-- a place and a tree at one level: both on top, or both further down
level_both : (e : Entry) (N : List Entry) (x : Tree) (T : List Tree) (i : ℕ) (p : Place) (y : Tree) → length T ≡ length N
    → at_level (places (e ∷ N)) i ≡ some p → at_level (x ∷ T) i ≡ some y
    → ((i ≡ length N) × (e.at ≡ p) × (x ≡ y)) ⊎ ((at_level (places N) i ≡ some p) × (at_level T i ≡ some y))
level_both e N x T i p y len at_p at_y = go (level_case e.at (places N) i p at_p) (level_case x T i y at_y)
  where
    pl : length (places N) ≡ length N
    pl = places_length N

    go : ((i ≡ length (places N)) × (e.at ≡ p)) ⊎ (at_level (places N) i ≡ some p) → ((i ≡ length T) × (x ≡ y)) ⊎ (at_level T i ≡ some y)
        → ((i ≡ length N) × (e.at ≡ p) × (x ≡ y)) ⊎ ((at_level (places N) i ≡ some p) × (at_level T i ≡ some y))
    go (inl h) (inl k) = inl ((let a = h.0 in omega (arith, pl)), h.1, k.1)
    go (inl h) (inr k) = absurd (let a = level_below T i y k in let c = h.0 in omega (arith, pl))
    go (inr h) (inl k) = absurd (let a = level_below (places N) i p h in let c = k.0 in omega (arith, pl))
    go (inr h) (inr k) = inr (h, k)

-- what counts at one level is among all; at two levels, both are
one_sum : (f : ℕ → ℕ → ℕ) (N : List Entry) (T : List Tree) (i : ℕ) (p : Place) (y : Tree) → length T ≡ length N → at_level (places N) i ≡ some p
    → at_level T i ≡ some y → place_sum f p + tree_sum f y ≤ stack_sum f N T
one_sum f [] T i p y len a d = absurd (no_some a)
one_sum f (e ∷ N) [] i p y len a d = absurd (omega arith)
one_sum f (e ∷ N) (x ∷ T) i p y len a d = go (level_both e N x T i p y (omega arith) a d) (one_sum f N T i p y (omega arith))
  where
    go : ((i ≡ length N) × (e.at ≡ p) × (x ≡ y)) ⊎ ((at_level (places N) i ≡ some p) × (at_level T i ≡ some y))
        → (at_level (places N) i ≡ some p → at_level T i ≡ some y → place_sum f p + tree_sum f y ≤ stack_sum f N T)
        → place_sum f p + tree_sum f y ≤ stack_sum f (e ∷ N) (x ∷ T)
    go (inl h) r = let h1 = ap (place_sum f) h.1 in let h2 = ap (tree_sum f) h.2 in omega arith
    go (inr h) r = let k = r h.0 h.1 in omega arith

two_sum : (f : ℕ → ℕ → ℕ) (N : List Entry) (T : List Tree) (i j : ℕ) (p1 p2 : Place) (y1 y2 : Tree) → i < j → length T ≡ length N
    → at_level (places N) i ≡ some p1 → at_level T i ≡ some y1 → at_level (places N) j ≡ some p2 → at_level T j ≡ some y2
    → (place_sum f p1 + tree_sum f y1) + (place_sum f p2 + tree_sum f y2) ≤ stack_sum f N T
two_sum f [] T i j p1 p2 y1 y2 lt len a1 d1 a2 d2 = absurd (no_some a1)
two_sum f (e ∷ N) [] i j p1 p2 y1 y2 lt len a1 d1 a2 d2 = absurd (omega arith)
two_sum f (e ∷ N) (x ∷ T) i j p1 p2 y1 y2 lt len a1 d1 a2 d2 =
    go (level_both e N x T i p1 y1 (omega arith) a1 d1) (level_both e N x T j p2 y2 (omega arith) a2 d2)
    (two_sum f N T i j p1 p2 y1 y2 lt (omega arith))
  where
    go : ((i ≡ length N) × (e.at ≡ p1) × (x ≡ y1)) ⊎ ((at_level (places N) i ≡ some p1) × (at_level T i ≡ some y1))
        → ((j ≡ length N) × (e.at ≡ p2) × (x ≡ y2)) ⊎ ((at_level (places N) j ≡ some p2) × (at_level T j ≡ some y2))
        → (at_level (places N) i ≡ some p1 → at_level T i ≡ some y1 → at_level (places N) j ≡ some p2 → at_level T j ≡ some y2
        → (place_sum f p1 + tree_sum f y1) + (place_sum f p2 + tree_sum f y2) ≤ stack_sum f N T)
        → (place_sum f p1 + tree_sum f y1) + (place_sum f p2 + tree_sum f y2) ≤ stack_sum f (e ∷ N) (x ∷ T)
    go (inl h) (inl k) r = absurd (let a = h.0 in let c = k.0 in omega arith)
    go (inl h) (inr k) r = absurd (let a = h.0 in let c = level_below T j y2 k.1 in omega arith)
    go (inr h) (inl k) r =
        let k1 = ap (place_sum f) k.1 in
        let k2 = ap (tree_sum f) k.2 in let o = one_sum f N T i p1 y1 (omega arith) h.0 h.1 in omega arith
    go (inr h) (inr k) r = let o = r h.0 h.1 k.0 k.1 in omega arith

-- root r stands at level i: it is the place, or a box of the tree
pub record StandsAt (N : List Entry) (T : List Tree) (i r : ℕ) : Type 0 where
  pub place : Place
  pub tree : Tree
  pub placed : at_level (places N) i ≡ some place
  pub holds : at_level T i ≡ some tree
  pub counts : 1 ≤ place_sum (mark r) place + tree_sum (mark r) tree

pub one_level : (ds : List Data) (N : List Entry) (T : List Tree) (s : State) (i j r : ℕ) → Invariant ds N T s → StandsAt N T i r
    → StandsAt N T j r → i ≡ j
one_level ds N T s i j r w a d = go (order_case i j)
  where
    len : length T ≡ length N
    len = entries_length ds s.roots N T w.entries

    once : stack_sum (mark r) N T ≤ 1
    once = once_in ds N T s r w

    go : (i < j) ⊎ ((i ≡ j) ⊎ (j < i)) → i ≡ j
    go (inl lt) =
        absurd (let z = two_sum (mark r) N T i j a.place d.place a.tree d.tree lt len a.placed a.holds d.placed d.holds in
        let c1 = a.counts in let c2 = d.counts in omega (arith, once))
    go (inr (inl e)) = e
    go (inr (inr gt)) =
        absurd (let z = two_sum (mark r) N T j i d.place a.place d.tree a.tree gt len d.placed d.holds a.placed a.holds in
        let c1 = a.counts in let c2 = d.counts in omega (arith, once))

pub once_at : (ds : List Data) (N : List Entry) (T : List Tree) (s : State) (i r : ℕ) (p : Place) (y : Tree) → Invariant ds N T s
    → at_level (places N) i ≡ some p → at_level T i ≡ some y → place_sum (mark r) p + tree_sum (mark r) y ≤ 1
once_at ds N T s i r p y w a d =
    let z = one_sum (mark r) N T i p y (entries_length ds s.roots N T w.entries) a d in let o = once_in ds N T s r w in omega arith
