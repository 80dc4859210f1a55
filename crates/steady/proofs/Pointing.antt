-- A watched reference is one of the stack; so from the picture, where nobody of use points.
use mathlib.Core.Bool.{Bool, true}
use mathlib.Core.List.{List, [], ◌∷◌}
use mathlib.Core.Logic.{inl, inr}
use mathlib.Core.Option.{Option, some}
use mathlib.Core.Path.{◌≡◌, refl, sym, ◌∙◌, ap, subst}
use Prim.Native.Nat.{ℕ, ◌+◌, ◌≤◌}
use native.Mathlib.Omega.{arith}
use lib.ListN.{length}
use Rattle.language.specs.Syntax.{Ty, Data}
use Rattle.language.specs.Meaning.{Loc, Value, Root, State, ref_v, here, loc_of}
use Rattle.soundness.specs.Trees.{Tree, int_t, con_t, box_t, hole_t, flat, tree_sum, loc_down}
use Rattle.soundness.specs.Borrows.{In, Addr, LevelLoan, Kind, own, borrow, inert, at_level}
use Rattle.soundness.specs.Invariant.{Place, rooted, Entry, kinds, places, Holds, ValidRef, EntryOk, place_sum, Invariant}
use Rattle.soundness.proofs.Basics.{no_some, some_is}
use Rattle.soundness.proofs.memory.Paths.{mark, mark_self, Outcome, same_root, in_a_box, outcome}
use Rattle.soundness.proofs.loans.Levels.{level_top, level_below, level_push}
use Rattle.soundness.proofs.loans.Free.{owner_older}
use Rattle.soundness.proofs.invariant.Levels.{level_at, level_kinds, kinds_length, places_length, entries_length, EntryAt, entry_at}
use Rattle.simulation.specs.Borrows.{Has, has_this, has_rest, Live, NotIn, Inside, Clear, Unseen}
use Rattle.steady.proofs.Sums.{StandsAt, one_level, once_at}
use Rattle.steady.proofs.Watch.{OfUse, BoxIn, Watch}

in_level : (e : Entry) (N : List Entry) → In e N → (i : ℕ) × (at_level N i ≡ some e)
in_level e [] h = absurd h
in_level e (d ∷ N) (inl h) = (length N, level_top d N ∙ ap {B = Option Entry} (λ z. some z) (sym h))
in_level e (d ∷ N) (inr h) = let r = in_level e N h in (r.0, level_push d N r.0 (level_below N r.0 e r.1) ∙ r.1)

-- a reference of the stack with this value
pub record Pointing (ds : List Data) (N : List Entry) (T : List Tree) (l : Loc) : Type 0 where
  pub level : ℕ
  pub alone : Bool
  pub type : Ty
  pub addr : Addr
  pub loans : List LevelLoan
  pub at_kind : at_level (kinds N) level ≡ some (borrow alone type addr loans)
  pub valid : ValidRef ds N T type addr (ref_v l)

flat_ref : (x : Tree) (l : Loc) → flat x ≡ ref_v l → ⊥
flat_ref (int_t k) l e = no_some (ap loc_of e)
flat_ref (con_t k ts) l e = no_some (ap loc_of e)
flat_ref (box_t r w t) l e = no_some (ap loc_of e)
flat_ref hole_t l e = no_some (ap loc_of e)

points_at : (ds : List Data) (N : List Entry) (T : List Tree) (s : State) (e : Entry) (l : Loc) → Invariant ds N T s → In e N → OfUse e.kind
    → ((v : Value) → Holds s.roots e.at v → v ≡ ref_v l) → Pointing ds N T l
points_at ds N T s e l w i use1 is = go e.kind use1 (level_kinds N il.0 e il.1) st.ok_entry
  where
    il : (j : ℕ) × (at_level N j ≡ some e)
    il = in_level e N i

    st : EntryAt ds s.roots N T il.0 e
    st = entry_at ds s.roots N T il.0 e w.entries il.1

    go : (k : Kind) → OfUse k → at_level (kinds N) il.0 ≡ some k → EntryOk ds s.roots e.at e.gone k st.tree N T → Pointing ds N T l
    go (own t) u a f = absurd (flat_ref st.tree l (is (flat st.tree) f.0))
    go (borrow al t ad ms) u a f =
        record {
          level = il.0;
          alone = al;
          type = t;
          addr = ad;
          loans = ms;
          at_kind = a;
          valid = subst (ValidRef ds N T t ad) (is f.1.0 f.1.1) f.1.2;
        }
    go inert u a f = absurd u

name_points : (ds : List Data) (N : List Entry) (T : List Tree) (s : State) (D hs : List ℕ) (ls : List Loc) → Invariant ds N T s → Watch N D hs ls
    → (r : ℕ) → Has r hs → (x : Root) → Live s.roots r x → (l : Loc) → x.val ≡ ref_v l → Pointing ds N T l
name_points ds N T s D hs ls w wa r h x lv l e =
    let n = wa.names r h in
    points_at ds N T s n.0 l w n.1 n.3
    (λ v hd. (let k : x ≡ record { live = true; val = v; words = 0 } = some_is (sym lv.is ∙ subst (λ z. Holds s.roots z v) n.2 hd) in
    sym (ap (λ (z : Root). z.val) k) ∙ e))

value_points : (ds : List Data) (N : List Entry) (T : List Tree) (s : State) (D hs : List ℕ) (ls : List Loc) → Invariant ds N T s → Watch N D hs ls
    → (l : Loc) → Has l ls → Pointing ds N T l
value_points ds N T s D hs ls w wa l h =
    let n = wa.values l h in
    points_at ds N T s n.0 l w n.1 n.3 (λ v hd. sym (subst (λ z. Holds s.roots z v) n.2 hd))

-- what no reference of the stack does, nobody of use does
pub clear_by : (ds : List Data) (N : List Entry) (T : List Tree) (s : State) (D hs : List ℕ) (ls : List Loc) (r : ℕ) (q : List ℕ) → Invariant ds N T s
    → Watch N D hs ls → ((l : Loc) → Pointing ds N T l → l.root ≡ r → Inside q l.path → ⊥) → Clear hs ls s.roots r q
clear_by ds N T s D hs ls r q w wa f = (
  λ r1 h x lv l e e1 i. f l (name_points ds N T s D hs ls w wa r1 h x lv l e) e1 i,
  λ l h e1 i. f l (value_points ds N T s D hs ls w wa l h) e1 i,
)

pub unseen_clear : (hs : List ℕ) (ls : List Loc) (rs : List Root) (r : ℕ) (q : List ℕ) → Unseen hs ls rs r → Clear hs ls rs r q
unseen_clear hs ls rs r q f = (λ r1 h x lv l e e1 i. f.0 r1 h x lv l e e1, λ l h e1 i. f.1 l h e1)

-- where a reference leads, a root of its owner stands
pub pointing_stands : (ds : List Data) (N : List Entry) (T : List Tree) (l : Loc) (p : Pointing ds N T l) → StandsAt N T p.addr.owner l.root
pointing_stands ds N T l p = record {
  place = rooted pt.root 0;
  tree = pt.whole;
  placed = pt.standing;
  holds = pt.holding;
  counts = go (outcome (here pt.root) p.addr.path pt.whole hole_t pt.part pt.leading);
}
  where
    pt : ValidRef ds N T p.type p.addr (ref_v l)
    pt = p.valid

    l_is : l ≡ loc_down (here pt.root) p.addr.path pt.whole
    l_is = some_is (ap loc_of pt.value)

    go : Outcome (here pt.root) p.addr.path pt.whole hole_t
        → 1 ≤ mark l.root pt.root 0 + tree_sum (mark l.root) pt.whole
    go (same_root is e f) =
        subst (λ z. 1 ≤ mark z pt.root 0 + tree_sum (mark z) pt.whole) (sym (ap (λ z. z.root) (l_is ∙ e)))
        (let k = mark_self pt.root 0 in omega arith)
    go (in_a_box h f) =
        subst (λ z. 1 ≤ mark z.root pt.root 0 + tree_sum (mark z.root) pt.whole) (sym l_is) (omega arith)

pub unseen_by : (ds : List Data) (N : List Entry) (T : List Tree) (s : State) (D hs : List ℕ) (ls : List Loc) (i r : ℕ) → Invariant ds N T s
    → Watch N D hs ls → StandsAt N T i r
    → ((j : ℕ) (al : Bool) (t : Ty) (a : Addr) (ms : List LevelLoan) → at_level (kinds N) j ≡ some (borrow al t a ms) → a.owner ≡ i → ⊥)
    → Unseen hs ls s.roots r
unseen_by ds N T s D hs ls i r w wa st nobody =
    (λ r1 h x lv l e e1. hit l (name_points ds N T s D hs ls w wa r1 h x lv l e) e1, λ l h e1. hit l (value_points ds N T s D hs ls w wa l h) e1)
  where
    hit : (l : Loc) → Pointing ds N T l → l.root ≡ r → ⊥
    hit l p e =
        nobody p.level p.alone p.type p.addr p.loans p.at_kind
        (one_level ds N T s p.addr.owner i r w (subst (StandsAt N T p.addr.owner) e (pointing_stands ds N T l p)) st)

-- the top: references lead to older entries
pub stands_top : (ds : List Data) (e : Entry) (N : List Entry) (x : Tree) (T : List Tree) (s : State) (r : ℕ) → Invariant ds (e ∷ N) (x ∷ T) s
    → 1 ≤ place_sum (mark r) e.at + tree_sum (mark r) x → StandsAt (e ∷ N) (x ∷ T) (length N) r
stands_top ds e N x T s r w c = record {
  place = e.at;
  tree = x;
  placed = level_at e.at (places N) (length N) (places_length N);
  holds = level_at x T (length N) (entries_length ds s.roots N T w.entries.1);
  counts = c;
}

pub unseen_top : (ds : List Data) (e : Entry) (N : List Entry) (x : Tree) (T : List Tree) (s : State) (D hs : List ℕ) (ls : List Loc) (r : ℕ)
    → Invariant ds (e ∷ N) (x ∷ T) s → Watch (e ∷ N) D hs ls → 1 ≤ place_sum (mark r) e.at + tree_sum (mark r) x → Unseen hs ls s.roots r
unseen_top ds e N x T s D hs ls r w wa c =
    unseen_by ds (e ∷ N) (x ∷ T) s D hs ls (length N) r w wa (stands_top ds e N x T s r w c)
    (λ j al t a ms at_j own1. (let h = owner_older (kinds (e ∷ N)) w.borrows.anchored j al t a ms at_j in
    let k = level_below (kinds (e ∷ N)) j (borrow al t a ms) at_j in let n = kinds_length N in omega arith))

-- a box of a tree isn't being dropped
pub record BoxedAt (N : List Entry) (T : List Tree) (i r : ℕ) : Type 0 where
  pub place : Place
  pub tree : Tree
  pub placed : at_level (places N) i ≡ some place
  pub holds : at_level T i ≡ some tree
  pub counts : 1 ≤ tree_sum (mark r) tree

pub boxed_stands : (N : List Entry) (T : List Tree) (i r : ℕ) → BoxedAt N T i r → StandsAt N T i r
boxed_stands N T i r x =
    record { place = x.place; tree = x.tree; placed = x.placed; holds = x.holds; counts = (let c = x.counts in omega arith) }

pub boxed_top : (ds : List Data) (e : Entry) (N : List Entry) (x : Tree) (T : List Tree) (s : State) (r : ℕ) → Invariant ds (e ∷ N) (x ∷ T) s
    → 1 ≤ tree_sum (mark r) x → BoxedAt (e ∷ N) (x ∷ T) (length N) r
boxed_top ds e N x T s r w c = record {
  place = e.at;
  tree = x;
  placed = level_at e.at (places N) (length N) (places_length N);
  holds = level_at x T (length N) (entries_length ds s.roots N T w.entries.1);
  counts = c;
}

pub not_dropped : (ds : List Data) (N : List Entry) (T : List Tree) (s : State) (D : List ℕ) (k i : ℕ) → Invariant ds N T s → BoxedAt N T k i
    → ((r : ℕ) → Has r D → BoxIn N r) → NotIn i D
not_dropped ds N T s [] k i w bo bx = tt
not_dropped ds N T s (r ∷ D) k i w bo bx =
    (λ e. clash (subst (BoxIn N) e (bx r (has_this refl))), not_dropped ds N T s D k i w bo (λ j h. bx j (has_rest h)))
  where
    clash : BoxIn N i → ⊥
    clash x =
        let il = in_level x.0 N x.2 in
        let st = entry_at ds s.roots N T il.0 x.0 w.entries il.1 in
        let placed : at_level (places N) il.0 ≡ some (rooted i x.1) = st.place ∙ ap {B = Option Place} (λ z. some z) x.3 in
        let here1 : StandsAt N T il.0 i
        = record { place = rooted i x.1; tree = st.tree; placed = placed; holds = st.holds; counts = (let m = mark_self i x.1 in omega arith) } in
        let same : il.0 ≡ k = one_level ds N T s il.0 k i w here1 (boxed_stands N T k i bo) in
        let o = once_at ds N T s k i (rooted i x.1) bo.tree w (subst (λ z. at_level (places N) z ≡ some (rooted i x.1)) same placed)
        bo.holds in
        let m = mark_self i x.1 in let c = bo.counts in omega arith
