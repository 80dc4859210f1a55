-- References pushed on top of the stack, with a loan of what they are made from or with its loans; and read.
use mathlib.Core.Bool.{Bool, true, false}
use mathlib.Core.List.{List, [], ◌∷◌}
use mathlib.Core.Logic.{◌⊎◌, inl, inr}
use mathlib.Core.Option.{Option, some}
use mathlib.Core.Path.{◌≡◌, refl, sym, ◌∙◌, ap, subst}
use Prim.Native.Nat.{ℕ}
use native.Mathlib.Omega.{arith}
use lib.ListN.{length}
use Rattle.language.specs.Base.{if_some}
use Rattle.language.specs.Syntax.{Ty, Data}
use Rattle.language.specs.Meaning.{Value, State, here, read_at}
use Rattle.soundness.specs.Trees.{Tree, hole_t, flat, Stored, loc_down}
use Rattle.soundness.specs.Borrows.{Addr, LevelLoan, Kind, own, borrow, inert, at_level, exclusive, addr_of, Prefix, Exclusivity, Anchored1}
use Rattle.soundness.specs.Borrows.{Anchored}
use Rattle.soundness.specs.Invariant.{rooted, in_flight, Entry, kinds, ValidRef, EntryOk, Invariant}
use Rattle.soundness.proofs.Basics.{no_some, some_is, true_false}
use Rattle.soundness.proofs.loans.Levels.{level_case, level_below, level_push}
use Rattle.soundness.proofs.loans.Exclusivity.{Unobstructed, reborrow}
use Rattle.soundness.proofs.loans.Free.{owner_push}
use Rattle.soundness.proofs.invariant.Levels.{entry_back, EntryAt, entry_at}
use Rattle.soundness.proofs.invariant.Top.{reads}
use Rattle.soundness.proofs.memory.Reads.{subtree_stored, reads_way}

anchored_push : (y : Kind) (N : List Kind) (x : Bool) (t : Ty) (a : Addr) (ls : List LevelLoan) → Anchored1 N (borrow x t a ls)
    → Anchored1 (y ∷ N) (borrow x t a ls)
anchored_push y N x t a ls h = (
  λ l i. (let k = h.0 l i in omega arith),
  (h.1.0, h.1.1, owner_push y N h.1.0.level a.owner h.1.2),
  (h.2.0, level_push y N a.owner (level_below N a.owner (own h.2.0) h.2.1) ∙ h.2.1),
)

pub anchored_at : (N : List Kind) → Anchored N → (j : ℕ) (x : Bool) (t : Ty) (a : Addr) (ls : List LevelLoan) → at_level N j ≡ some (borrow x t a ls)
    → Anchored1 N (borrow x t a ls)
anchored_at [] h j x t a ls e = absurd (no_some e)
anchored_at (y ∷ N) h j x t a ls e = go (level_case y N j (borrow x t a ls) e) (anchored_at N h.1 j x t a ls)
  where
    go : ((j ≡ length N) × (y ≡ borrow x t a ls)) ⊎ (at_level N j ≡ some (borrow x t a ls))
        → (at_level N j ≡ some (borrow x t a ls) → Anchored1 N (borrow x t a ls)) → Anchored1 (y ∷ N) (borrow x t a ls)
    go (inl k) f = anchored_push y N x t a ls (subst (Anchored1 N) k.1 h.0)
    go (inr k) f = anchored_push y N x t a ls (f k)

-- at the owner of an address something is owned
pub owner_of : (N : List Kind) → Anchored N → (lx : ℕ) (z : Kind) (az : Addr) → at_level N lx ≡ some z → addr_of lx z ≡ some az
    → (u : Ty) × (at_level N az.owner ≡ some (own u))
owner_of N hm lx (own t) az z_at e = (t, ap (λ k. at_level N k.owner) (sym (some_is e)) ∙ z_at)
owner_of N hm lx (borrow al t a ls) az z_at e =
    let h = anchored_at N hm lx al t a ls z_at in (h.2.0, ap (λ k. at_level N k.owner) (sym (some_is e)) ∙ h.2.1)
owner_of N hm lx inert az z_at e = absurd (no_some e)

-- a loan of what is exclusive at level lx: a reference at or below its address, with that loan alone
abbrev pub one_loan : ℕ → Bool → List LevelLoan
one_loan i al = record { level = i; alone = al } ∷ []

-- a reference on top
abbrev pub borrow_entry : Bool → Ty → Addr → List LevelLoan → Value → Entry
borrow_entry al t a ls v = record { at = in_flight v; gone = false; kind = borrow al t a ls }

pub push_borrow : (ds : List Data) (N : List Entry) (T : List Tree) (s : State) (al : Bool) (t : Ty) (a : Addr) (ls : List LevelLoan) (v : Value)
    → Invariant ds N T s → Exclusivity (borrow al t a ls ∷ kinds N) → Anchored1 (kinds N) (borrow al t a ls) → ValidRef ds N T t a v
    → Invariant ds (borrow_entry al t a ls v ∷ N) (hole_t ∷ T) s
push_borrow ds N T s al t a ls v w ap1 hm pt = record {
  borrows = record { exclusivity = ap1; anchored = (hm, w.borrows.anchored) };
  entries = ((refl, (v, refl, pt)), w.entries);
  sums = λ f. (let k = w.sums f in omega arith);
  counted = w.counted;
}

pub push_loan : (ds : List Data) (N : List Entry) (T : List Tree) (s : State) (lx : ℕ) (z : Kind) (az aw : Addr) (al : Bool) (t : Ty) (v : Value)
    → at_level (kinds N) lx ≡ some z → addr_of lx z ≡ some az → exclusive z ≡ true → Prefix az aw → Unobstructed (kinds N) lx al aw
    → ValidRef ds N T t aw v → Invariant ds N T s → Invariant ds (borrow_entry al t aw (one_loan lx al) v ∷ N) (hole_t ∷ T) s
push_loan ds N T s lx z az aw al t v z_at az_is xz pre qu pt w =
    let l1 : LevelLoan = record { level = lx; alone = al } in
    let ow = owner_of (kinds N) w.borrows.anchored lx z az z_at az_is in
    push_borrow ds N T s al t aw (one_loan lx al) v w
    (reborrow (kinds N) w.borrows.exclusivity lx z az z_at az_is (borrow al t aw (one_loan lx al)) aw refl pre (λ k. xz)
    (inr ((l1, inl refl, refl, λ k. k), qu))) (
      (λ l i. elim i [
        | inl k ↦ (let k1 : l.level ≡ lx = ap (λ y. y.level) k in let k2 = level_below (kinds N) lx z z_at in omega arith)
        | inr k ↦ absurd k
      ]),
      (
        l1,
        inl refl,
        ap (λ o. if_some o (λ y. if_some (addr_of lx y) (λ a. some a.owner))) z_at ∙ ap (λ o. if_some o (λ a. some a.owner)) az_is
            ∙ ap {B = Option ℕ} (λ y. some y) pre.0,
      ),
      (ow.0, ap (at_level (kinds N)) (sym pre.0) ∙ ow.1),
    )
    pt

-- a copy of a shared reference: at or below its address, with its loans
pub push_copy : (ds : List Data) (N : List Entry) (T : List Tree) (s : State) (lx : ℕ) (t0 : Ty) (a aw : Addr) (ls : List LevelLoan) (t : Ty)
    (v : Value) → at_level (kinds N) lx ≡ some (borrow false t0 a ls) → Prefix a aw → ValidRef ds N T t aw v → Invariant ds N T s
    → Invariant ds (borrow_entry false t aw ls v ∷ N) (hole_t ∷ T) s
push_copy ds N T s lx t0 a aw ls t v z_at pre pt w =
    let h = anchored_at (kinds N) w.borrows.anchored lx false t0 a ls z_at in
    push_borrow ds N T s false t aw ls v w
    (reborrow (kinds N) w.borrows.exclusivity lx (borrow false t0 a ls) a z_at refl (borrow false t aw ls) aw refl pre
    (λ k. absurd (true_false (sym k))) (inl refl))
    (h.0, (h.1.0, h.1.1, h.1.2 ∙ ap {B = Option ℕ} (λ y. some y) pre.0), (h.2.0, ap (at_level (kinds N)) (sym pre.0) ∙ h.2.1))
    pt

pub valid_ref_read : (ds : List Data) (N : List Entry) (T : List Tree) (s : State) (t u : Ty) (a : Addr) (v : Value) → Invariant ds N T s
    → at_level (kinds N) a.owner ≡ some (own u) → (pt : ValidRef ds N T t a v)
    → (read_at s (loc_down (here pt.root) a.path pt.whole) ≡ some (flat pt.part)) × Stored s.roots pt.part × Stored s.roots
    pt.whole × (read_at s (here pt.root) ≡ some (flat pt.whole))
valid_ref_read ds N T s t u a v w ow pt = (
  reads_way s (here pt.root) a.path pt.whole pt.part pt.leading f2.1 rd,
  subtree_stored s.roots a.path pt.whole pt.part pt.leading f2.1,
  f2.1,
  rd,
)
  where
    e : (e : Entry) × (at_level N a.owner ≡ some e) × (e.kind ≡ own u)
    e = entry_back N a.owner (own u) ow

    st : EntryAt ds s.roots N T a.owner e.0
    st = entry_at ds s.roots N T a.owner e.0 w.entries e.1

    place_is : e.0.at ≡ rooted pt.root 0
    place_is = some_is (sym st.place ∙ pt.standing)

    tree_is : st.tree ≡ pt.whole
    tree_is = some_is (sym st.holds ∙ pt.holding)

    f2 : EntryOk ds s.roots (rooted pt.root 0) e.0.gone (own u) pt.whole N T
    f2 =
        subst (λ k. EntryOk ds s.roots k e.0.gone (own u) pt.whole N T) place_is
        (subst (λ k. EntryOk ds s.roots e.0.at e.0.gone k pt.whole N T) e.2
        (subst (λ k. EntryOk ds s.roots e.0.at e.0.gone e.0.kind k N T) tree_is st.ok_entry))

    rd : read_at s (here pt.root) ≡ some (flat pt.whole)
    rd = reads s pt.root (flat pt.whole) 0 f2.0
