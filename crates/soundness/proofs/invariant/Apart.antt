-- Values in flight that come apart: a constructor, a box.
use mathlib.Core.Bool.{Bool, true, false}
use mathlib.Core.List.{List, [], ◌∷◌, ◌++◌}
use mathlib.Core.Logic.{inl}
use mathlib.Core.Option.{some}
use mathlib.Core.Path.{◌≡◌, refl, sym, ◌∙◌, ap, subst}
use Prim.Native.Nat.{ℕ, zero, suc, ◌+◌, ◌≤◌, ◌-◌}
use native.Mathlib.Omega.{arith}
use lib.Dec.{eqb, T, eqb→eq, eqb_refl}
use Rattle.language.specs.Base.{choose, from_option, at_place, set_at, Lexeme}
use Rattle.language.specs.Syntax.{Ty, Data}
use Rattle.language.specs.Meaning.{Value, Root, State, hole, Class, with_roots, with_classes, kill, ends_box, count_out}
use Rattle.language.specs.Says.{boxes}
use Rattle.soundness.specs.Trees.{Tree, con_t, box_t, hole_t, Trees, nil_t, cons_t, flat, flats, tree_sum, trees_sum, Stored, StoredAll, Typed}
use Rattle.soundness.specs.Trees.{TypedAll}
use Rattle.soundness.specs.Borrows.{inert, WellBorrowed}
use Rattle.soundness.specs.Invariant.{rooted, in_flight, Entry, kinds, Idle, EntriesOk, place_sum, stack_sum, live_sum, in_use_of, of_size, is_box}
use Rattle.soundness.specs.Invariant.{Invariant}
use Rattle.soundness.specs.Frames.{Dropping, owned_entry}
use Rattle.soundness.proofs.memory.Paths.{mark, mark_self}
use Rattle.soundness.proofs.loans.Free.{push_own, push_inert, pop_borrows}
use Rattle.soundness.proofs.memory.Sizes.{typed_owned}
use Rattle.soundness.proofs.memory.Roots.{kill_roots, sum_kill}
use Rattle.soundness.proofs.invariant.Elsewhere.{entries_ok_else, rest_else}
use Rattle.soundness.proofs.invariant.Top.{once_in}

abbrev pub owned_entries : Trees → List Ty → List Entry
owned_entries nil_t ts = []
owned_entries (cons_t x xs) [] = []
owned_entries (cons_t x xs) (t ∷ ts) = owned_entry x t ∷ owned_entries xs ts

abbrev pub trees_of : Trees → List Tree
trees_of nil_t = []
trees_of (cons_t x xs) = x ∷ trees_of xs

pub parts_borrows : (ds : List Data) (xs : Trees) (ts : List Ty) (N : List Entry) → WellBorrowed (kinds N)
    → WellBorrowed (kinds (owned_entries xs ts ++ N))
parts_borrows ds nil_t ts N h = h
parts_borrows ds (cons_t x xs) [] N h = h
parts_borrows ds (cons_t x xs) (t ∷ ts) N h = push_own (kinds (owned_entries xs ts ++ N)) (parts_borrows ds xs ts N h) t

parts_entries : (ds : List Data) (rs : List Root) (xs : Trees) (ts : List Ty) (N : List Entry) (T : List Tree) → TypedAll ds xs ts → StoredAll rs xs
    → EntriesOk ds rs N T → EntriesOk ds rs (owned_entries xs ts ++ N) (trees_of xs ++ T)
parts_entries ds rs nil_t [] N T ty st f = f
parts_entries ds rs nil_t (t ∷ ts) N T ty st f = absurd ty
parts_entries ds rs (cons_t x xs) [] N T ty st f = absurd ty
parts_entries ds rs (cons_t x xs) (t ∷ ts) N T ty st f =
    ((refl, st.0, typed_owned ds x t ty.0, inl ty.0), parts_entries ds rs xs ts N T ty.1 st.1 f)

pub parts_sum : (ds : List Data) (f : ℕ → ℕ → ℕ) (xs : Trees) (ts : List Ty) (N : List Entry) (T : List Tree) → TypedAll ds xs ts
    → stack_sum f (owned_entries xs ts ++ N) (trees_of xs ++ T) ≡ trees_sum f xs + stack_sum f N T
parts_sum ds f nil_t [] N T ty = omega arith
parts_sum ds f nil_t (t ∷ ts) N T ty = absurd ty
parts_sum ds f (cons_t x xs) [] N T ty = absurd ty
parts_sum ds f (cons_t x xs) (t ∷ ts) N T ty = let h = parts_sum ds f xs ts N T ty.1 in omega arith

pub parts_dropping : (ds : List Data) (xs : Trees) (ts : List Ty) → TypedAll ds xs ts → Dropping (flats xs) (owned_entries xs ts)
parts_dropping ds nil_t [] ty = tt
parts_dropping ds nil_t (t ∷ ts) ty = absurd ty
parts_dropping ds (cons_t x xs) [] ty = absurd ty
parts_dropping ds (cons_t x xs) (t ∷ ts) ty = (refl, parts_dropping ds xs ts ty.1)

-- a constructor in flight comes apart
pub open_con : (ds : List Data) (e : Entry) (N : List Entry) (k : Lexeme) (xs : Trees) (ts : List Ty) (T : List Tree) (s : State) (v : Value)
    → e.at ≡ in_flight v → StoredAll s.roots xs → TypedAll ds xs ts → Invariant ds (e ∷ N) (con_t k xs ∷ T) s
    → Invariant ds (owned_entries xs ts ++ N) (trees_of xs ++ T) s
open_con ds e N k xs ts T s v at-is st ty w = record {
  borrows = parts_borrows ds xs ts N (pop_borrows e.kind (kinds N) w.borrows);
  entries = parts_entries ds s.roots xs ts N T ty st w.entries.1;
  sums = λ f. (let a = w.sums f in let a2 : place_sum f e.at ≡ 0 = ap (place_sum f) at-is in let a3 = parts_sum ds f xs ts N T ty in omega arith);
  counted = w.counted;
}

-- a box in flight: what's in it in flight, above the box that's to end
abbrev pub shell : ℕ → ℕ → Entry
shell r w = record { at = rooted r w; gone = false; kind = inert }

idle_box : (r w : ℕ) (v : Value) → 1 ≤ w → Idle (rooted r w) v
idle_box r zero v h = absurd (omega arith)
idle_box r (suc w) v h = tt

pub open_box : (ds : List Data) (e : Entry) (N : List Entry) (r w : ℕ) (x : Tree) (t : Ty) (T : List Tree) (s : State) (v : Value)
    → e.at ≡ in_flight v → 1 ≤ w → Stored s.roots (box_t r w x) → Typed ds x t → Invariant ds (e ∷ N) (box_t r w x ∷ T) s
    → Invariant ds (owned_entry x t ∷ (shell r w ∷ N)) (x ∷ (hole_t ∷ T)) s
open_box ds e N r w x t T s v at-is le st ty wo = record {
  borrows = push_own (inert ∷ kinds N) (push_inert (kinds N) (pop_borrows e.kind (kinds N) wo.borrows)) t;
  entries = ((refl, st.1, typed_owned ds x t ty, inl ty), ((refl, (flat x, st.0, idle_box r w (flat x) le)), wo.entries.1));
  sums = λ f. (let a = wo.sums f in let a2 : place_sum f e.at ≡ 0 = ap (place_sum f) at-is in omega arith);
  counted = wo.counted;
}

-- classes
in_use_out : (cs : List Class) (k j : ℕ) → (k ≡ j → ⊥) → in_use_of (count_out cs k) j ≡ in_use_of cs j
in_use_out [] k j ne = refl
in_use_out (x ∷ xs) k j ne = go (eqb x.words k) (λ t. eqb→eq x.words k t) (in_use_out xs k j ne)
  where
    off : (z : Bool) → (T z → k ≡ j) → choose z (x.in_use - 1) (in_use_of xs j) ≡ in_use_of xs j
    off true h = absurd (ne (h tt))
    off false h = refl

    go : (z : Bool) → (T z → x.words ≡ k) → in_use_of (count_out xs k) j ≡ in_use_of xs j
        → in_use_of (choose z (record { words = k; in_use = x.in_use - 1; peak = x.peak } ∷ xs) (x ∷ count_out xs k)) j ≡ in_use_of (x ∷ xs) j
    go true h ih = off (eqb k j) (λ t. eqb→eq k j t) ∙ sym (off2 (eqb x.words j) (λ t. sym (h tt) ∙ eqb→eq x.words j t))
      where
        off2 : (z : Bool) → (T z → k ≡ j) → choose z x.in_use (in_use_of xs j) ≡ in_use_of xs j
        off2 true h = absurd (ne (h tt))
        off2 false h = refl
    go false h ih = ap (λ z. choose (eqb x.words j) x.in_use z) ih

in_use_out_same : (cs : List Class) (k : ℕ) → 1 ≤ in_use_of cs k → suc (in_use_of (count_out cs k) k) ≡ in_use_of cs k
in_use_out_same [] k h = absurd (omega arith)
in_use_out_same (x ∷ xs) k h = go (eqb x.words k) h (in_use_out_same xs k) refl
  where
    self : (z : Bool) → T z → (a d : ℕ) → choose z a d ≡ a
    self true t a d = refl
    self false t a d = absurd t

    go : (z : Bool) → 1 ≤ choose z x.in_use (in_use_of xs k) → (1 ≤ in_use_of xs k → suc (in_use_of (count_out xs k) k) ≡ in_use_of xs k)
        → eqb x.words k ≡ z → suc (in_use_of (choose z (record { words = k; in_use = x.in_use - 1; peak = x.peak } ∷ xs)
        (x ∷ count_out xs k)) k) ≡ choose z x.in_use (in_use_of xs k)
    go true h1 ih e = let a = self (eqb k k) (eqb_refl k) (x.in_use - 1) (in_use_of xs k) in omega arith
    go false h1 ih e =
        let a = ih h1 in
        let a2 : choose (eqb x.words k) x.in_use (in_use_of (count_out xs k) k) ≡ in_use_of (count_out xs k) k = ap
        (λ z. choose z x.in_use (in_use_of (count_out xs k) k)) e in omega arith

boxes_out : (cs : List Class) (k : ℕ) → 1 ≤ in_use_of cs k → suc (boxes (count_out cs k)) ≡ boxes cs
boxes_out [] k h = absurd (omega arith)
boxes_out (x ∷ xs) k h = go (eqb x.words k) h (boxes_out xs k)
  where
    go : (z : Bool) → 1 ≤ choose z x.in_use (in_use_of xs k) → (1 ≤ in_use_of xs k → suc (boxes (count_out xs k)) ≡ boxes xs)
        → suc (boxes (choose z (record { words = k; in_use = x.in_use - 1; peak = x.peak } ∷ xs) (x ∷ count_out xs k))) ≡ x.in_use + boxes xs
    go true h1 ih = omega arith
    go false h1 ih = let a = ih h1 in omega arith

-- the box at the top ends
pub end_box_top : (ds : List Data) (N : List Entry) (r w : ℕ) (T : List Tree) (s : State) → 1 ≤ w → Invariant ds (shell r w ∷ N) T s
    → (U : List Tree) × Invariant ds N U (ends_box s r)
end_box_top ds N r zero T s le wo = absurd (omega arith)
end_box_top ds N r (suc w) [] s le wo = absurd wo.entries
end_box_top ds N r (suc w) (x ∷ T) s le wo = (
  T,
  subst (Invariant ds N T) (sym ended) (record {
    borrows = pop_borrows inert (kinds N) wo.borrows;
    entries = entries_ok_else ds s.roots (set_at s.roots r y) r N T (rest_else s.roots r y) none_else wo.entries.1;
    sums =
        λ f. (let a = wo.sums f in let a1 : tree_sum f x ≡ 0 = ap (tree_sum f) wo.entries.0.0 in let k = sum_kill f 0 s.roots r v
        (suc w) r_is in let k2 : f (r + 0) (suc w) ≡ f r (suc w) = ap (λ z. f z (suc w)) (omega arith) in omega arith);
    counted = record {
      by_size = λ k. sized k (eqb (suc w) (suc k)) refl;
      in_all =
          (let a = wo.counted.in_all in let b1 = sum_kill is_box 0 s.roots r v (suc w) r_is in let b2 = boxes_out s.classes (suc w) enough in
          let b3 : is_box (r + 0) (suc w) ≡ 1 = ap {B = ℕ} (λ z. choose z 0 1) (lib.Dec.eqb-suc-zero w) in omega arith);
    };
  }),
)
  where
    v : Value
    v = wo.entries.0.1.0

    r_is : at_place s.roots r ≡ some (record { live = true; val = v; words = suc w })
    r_is = wo.entries.0.1.1

    y : Root
    y = record { live = false; val = hole; words = suc w }

    ended : ends_box s r ≡ with_classes (with_roots s (set_at s.roots r y)) (count_out s.classes (suc w))
    ended =
        ap (λ o. from_option o s (λ z. with_classes (kill s r) (count_out s.classes z.words))) r_is ∙ ap
        (λ z. with_classes z (count_out s.classes (suc w))) (kill_roots s r (record { live = true; val = v; words = suc w }) r_is)

    none_else : stack_sum (mark r) N T ≡ 0
    none_else = let a = once_in ds (shell r (suc w) ∷ N) (x ∷ T) s r wo in let a3 = mark_self r (suc w) in omega arith

    size_self : (k : ℕ) → of_size k (r + 0) k ≡ 1
    size_self k = go (eqb k k) (eqb_refl k)
      where
        go : (z : Bool) → lib.Dec.T z → ◌≡◌ {A = ℕ} (choose z 1 0) 1
        go true t = refl
        go false t = absurd t

    enough : 1 ≤ in_use_of s.classes (suc w)
    enough =
        let a = wo.counted.by_size w in
        let b1 = sum_kill (of_size (suc w)) 0 s.roots r v (suc w) r_is in let b2 = size_self (suc w) in omega arith

    sized : (k : ℕ) (z : Bool) → eqb (suc w) (suc k) ≡ z
        → in_use_of (count_out s.classes (suc w)) (suc k) ≡ live_sum (of_size (suc k)) 0 (set_at s.roots r y)
    sized k true e =
        let w_is : suc w ≡ suc k = eqb→eq (suc w) (suc k) (subst lib.Dec.T (sym e) tt) in
        let a = wo.counted.by_size k in
        let b1 = sum_kill (of_size (suc k)) 0 s.roots r v (suc w) r_is in
        let b2 : of_size (suc k) (r + 0) (suc w) ≡ 1 = ap {B = ℕ} (λ z. choose z 1 0) e in
        let b3 : suc (in_use_of (count_out s.classes (suc w)) (suc k)) ≡ in_use_of s.classes (suc k) = subst
        (λ z. suc (in_use_of (count_out s.classes (suc w)) z) ≡ in_use_of s.classes z) w_is (in_use_out_same s.classes (suc w) enough) in
        omega arith
    sized k false e =
        let a = wo.counted.by_size k in
        let b1 = sum_kill (of_size (suc k)) 0 s.roots r v (suc w) r_is in
        let b2 : of_size (suc k) (r + 0) (suc w) ≡ 0 = ap {B = ℕ} (λ z. choose z 1 0) e in
        let ne : suc w ≡ suc k → ⊥ = λ q. (let z1 : lib.Dec.T (eqb (suc w) (suc k)) = subst (λ z. lib.Dec.T (eqb (suc w) z)) q (eqb_refl (suc w)) in
        subst lib.Dec.T e z1) in
        let b3 = in_use_out s.classes (suc w) (suc k) ne in
        omega arith
