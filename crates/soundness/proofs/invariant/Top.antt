-- Operations at the top of the stack, and roots that come and go.
use mathlib.Core.Bool.{Bool, true, false}
use mathlib.Core.List.{List, [], ◌∷◌, ◌++◌}
use mathlib.Core.Logic.{inl, inr}
use mathlib.Core.Option.{Option, some, none}
use mathlib.Core.Path.{◌≡◌, refl, sym, ◌∙◌, ap, subst}
use Prim.Native.Nat.{ℕ, suc, ◌+◌, ◌≤◌}
use native.Mathlib.Omega.{arith}
use lib.Dec.{T}
use lib.ListN.{length}
use Rattle.language.specs.Base.{choose, from_option, if_some, at_place, set_at}
use Rattle.language.specs.Syntax.{Ty, int, Data, Prog}
use Rattle.language.specs.Meaning.{Value, Root, State, here, read_at, hole, with_roots, adds_root, kill, ends_box}
use Rattle.language.specs.Meaning as me
use Rattle.language.specs.Says.{boxes}
use Rattle.soundness.specs.Trees.{Tree, int_t, con_t, box_t, hole_t, Trees, nil_t, cons_t, flat, tree_sum, Stored, StoredAll, Typed}
use Rattle.soundness.specs.Borrows.{Kind, own, borrow, inert}
use Rattle.soundness.specs.Invariant.{Place, rooted, in_flight, Entry, kinds, Holds, Content, EntryOk, EntriesOk, place_sum, stack_sum, live_sum}
use Rattle.soundness.specs.Invariant.{in_use_of, of_size, is_box, Invariant}
use Rattle.soundness.specs.Frames.{KindFits, ValueEntry, owned_entry}
use Rattle.soundness.proofs.memory.Paths.{mark, mark_self}
use Rattle.soundness.proofs.loans.Free.{push_own, pop_borrows}
use Rattle.soundness.proofs.memory.Sizes.{typed_owned}
use Rattle.soundness.proofs.memory.Roots.{sum_once, kill_roots, sum_kill, sum_push, no_size, at_push, at_last}
use Rattle.soundness.proofs.invariant.Elsewhere.{entries_ok_else, rest_else, stored_else}

-- only the roots and classes matter
pub invariant_same : (ds : List Data) (N : List Entry) (T : List Tree) (s t : State) → s.roots ≡ t.roots → s.classes ≡ t.classes
    → Invariant ds N T s → Invariant ds N T t
invariant_same ds N T s t e f w = record {
  borrows = w.borrows;
  entries = subst (λ z. EntriesOk ds z N T) e w.entries;
  sums = λ g. w.sums g ∙ ap (live_sum g 0) e;
  counted = record {
    by_size = λ k. ap (λ z. in_use_of z (suc k)) (sym f) ∙ w.counted.by_size k ∙ ap (live_sum (of_size (suc k)) 0) e;
    in_all = ap boxes (sym f) ∙ w.counted.in_all ∙ ap (live_sum is_box 0) e;
  };
}

pub once_in : (ds : List Data) (N : List Entry) (T : List Tree) (s : State) (r : ℕ) → Invariant ds N T s → stack_sum (mark r) N T ≤ 1
once_in ds N T s r w = let h = w.sums (mark r) in let k = sum_once r 0 s.roots in omega arith

-- the same entry, in flight; with a root
abbrev pub unrooted : Entry → Value → Entry
unrooted e v = record { at = in_flight v; gone = e.gone; kind = e.kind }

abbrev pub with_root : Entry → ℕ → Entry
with_root e r = record { at = rooted r 0; gone = e.gone; kind = e.kind }

killed_entry : (ds : List Data) (rs : List Root) (r : ℕ) (y : Root) (gone : Bool) (sh : Kind) (x : Tree) (N : List Entry) (T : List Tree) (v : Value)
    → tree_sum (mark r) x ≡ 0 → at_place rs r ≡ some (record { live = true; val = v; words = 0 }) → EntryOk ds rs (rooted r 0) gone sh x N T
    → EntryOk ds (set_at rs r y) (in_flight v) gone sh x N T
killed_entry ds rs r y gone (own t) x N T v z e f =
    (sym (ap (λ o. from_option o hole (λ q. q.val)) (sym f.0 ∙ e)), stored_else rs (set_at rs r y) r x (rest_else rs r y) z f.1, f.2, f.3)
killed_entry ds rs r y gone (borrow al t a ls) x N T v z e f =
    let same_v : f.1.0 ≡ v = ap (λ o. from_option o hole (λ q. q.val)) (sym f.1.1 ∙ e) in (f.0, (f.1.0, sym same_v, f.1.2))
killed_entry ds rs r y gone inert x N T v z e f =
    let same_v : f.1.0 ≡ v = ap (λ o. from_option o hole (λ q. q.val)) (sym f.1.1 ∙ e) in (f.0, (f.1.0, sym same_v, f.1.2))

pub kill_top : (ds : List Data) (e : Entry) (N : List Entry) (x : Tree) (T : List Tree) (s : State) (r : ℕ) (v : Value) → e.at ≡ rooted r 0
    → at_place s.roots r ≡ some (record { live = true; val = v; words = 0 }) → Invariant ds (e ∷ N) (x ∷ T) s
    → Invariant ds (unrooted e v ∷ N) (x ∷ T) (kill s r)
kill_top ds e N x T s r v at-is r_is w =
    subst (Invariant ds (unrooted e v ∷ N) (x ∷ T)) (sym (kill_roots s r (record { live = true; val = v; words = 0 }) r_is)) (record {
      borrows = w.borrows;
      entries = (
        killed_entry ds s.roots r y e.gone e.kind x N T v (omega (arith, ones)) r_is
            (subst (λ z. EntryOk ds s.roots z e.gone e.kind x N T) at-is w.entries.0),
        entries_ok_else ds s.roots
            (set_at s.roots r y) r N T (rest_else s.roots r y) (omega (arith, ones)) w.entries.1,
      );
      sums =
          λ f. (let a = w.sums f in let a2 : place_sum f e.at ≡ f r 0 = ap (place_sum f) at-is in let k = sum_kill f 0 s.roots r v 0 r_is in
          let k2 : f (r + 0) 0 ≡ f r 0 = ap (λ z. f z 0) (omega arith) in omega arith);
      counted = record {
        by_size =
            λ k. (let a = w.counted.by_size k in let b1 = sum_kill (of_size (suc k)) 0 s.roots r v 0 r_is in let b2 = no_size k
            (r + 0) in omega arith);
        in_all = (let a = w.counted.in_all in let b1 = sum_kill is_box 0 s.roots r v 0 r_is in omega arith);
      };
    })
  where
    y : Root
    y = record { live = false; val = hole; words = 0 }

    ones : tree_sum (mark r) x + stack_sum (mark r) N T ≡ 0
    ones =
        let a = once_in ds (e ∷ N) (x ∷ T) s r w in
        let a2 : place_sum (mark r) e.at ≡ mark r r 0 = ap (place_sum (mark r)) at-is in let a3 = mark_self r 0 in omega arith

mutual
  stored_up : (rs : List Root) (nu : Root) (t : Tree) → Stored rs t → Stored (rs ++ (nu ∷ [])) t
  stored_up rs nu (int_t k) h = tt
  stored_up rs nu (con_t k ts) h = storeds_up rs nu ts h
  stored_up rs nu (box_t r k t) h = (at_push rs nu r (record { live = true; val = flat t; words = k }) h.0, stored_up rs nu t h.1)
  stored_up rs nu hole_t h = tt

  storeds_up : (rs : List Root) (nu : Root) (ts : Trees) → StoredAll rs ts → StoredAll (rs ++ (nu ∷ [])) ts
  storeds_up rs nu nil_t h = tt
  storeds_up rs nu (cons_t t ts) h = (stored_up rs nu t h.0, storeds_up rs nu ts h.1)

-- a root for what is at the top
pub root_top : (ds : List Data) (e : Entry) (N : List Entry) (x : Tree) (T : List Tree) (s : State) (v : Value) → e.at ≡ in_flight v
    → Invariant ds (e ∷ N) (x ∷ T) s → Invariant ds (with_root e (length s.roots) ∷ N) (x ∷ T) (adds_root s v 0)
root_top ds e N x T s v at-is w = record {
  borrows = w.borrows;
  entries = (top1 e.kind (subst (λ z. EntryOk ds s.roots z e.gone e.kind x N T) at-is w.entries.0), fine_up N T w.entries.1);
  sums =
      λ f. (let a = w.sums f in let a2 : place_sum f e.at ≡ 0 = ap (place_sum f) at-is in let k = sum_push f 0 s.roots v 0 in let k2 : f
      (length s.roots + 0) 0 ≡ f (length s.roots) 0 = ap (λ z. f z 0) (omega arith) in omega arith);
  counted = record {
    by_size =
        λ k. (let a = w.counted.by_size k in let b1 = sum_push (of_size (suc k)) 0 s.roots v 0 in let b2 = no_size k
        (length s.roots + 0) in omega arith);
    in_all = (let a = w.counted.in_all in let b1 = sum_push is_box 0 s.roots v 0 in omega arith);
  };
}
  where
    nu : Root
    nu = record { live = true; val = v; words = 0 }

    rs2 : List Root
    rs2 = s.roots ++ (nu ∷ [])

    cell_up : (at : Place) (u : Value) → Holds s.roots at u → Holds rs2 at u
    cell_up (rooted r k) u h = at_push s.roots nu r (record { live = true; val = u; words = k }) h
    cell_up (in_flight z) u h = h

    fine1_up : (at : Place) (gone : Bool) (sh : Kind) (y : Tree) (M : List Entry) (U : List Tree) → EntryOk ds s.roots at gone sh y M U
        → EntryOk ds rs2 at gone sh y M U
    fine1_up at gone (own t) y M U f = (cell_up at (flat y) f.0, stored_up s.roots nu y f.1, f.2, f.3)
    fine1_up at gone (borrow al t a ls) y M U f = (f.0, (f.1.0, cell_up at f.1.0 f.1.1, f.1.2))
    fine1_up at gone inert y M U f = (f.0, (f.1.0, cell_up at f.1.0 f.1.1, f.1.2))

    fine_up : (M : List Entry) (U : List Tree) → EntriesOk ds s.roots M U → EntriesOk ds rs2 M U
    fine_up [] [] f = tt
    fine_up [] (y ∷ U) f = f
    fine_up (d ∷ M) [] f = f
    fine_up (d ∷ M) (y ∷ U) f = (fine1_up d.at d.gone d.kind y M U f.0, fine_up M U f.1)

    placed : (u : Value) → v ≡ u → Holds rs2 (rooted (length s.roots) 0) u
    placed u h = at_last s.roots nu ∙ ap {B = Option Root} (λ z. some (record { live = true; val = z; words = 0 })) h

    top1 : (sh : Kind) → EntryOk ds s.roots (in_flight v) e.gone sh x N T → EntryOk ds rs2 (rooted (length s.roots) 0) e.gone sh x N T
    top1 (own t) f = (placed (flat x) f.0, stored_up s.roots nu x f.1, f.2, f.3)
    top1 (borrow al t a ls) f = (f.0, (f.1.0, placed f.1.0 f.1.1, f.1.2))
    top1 inert f = (f.0, (f.1.0, placed f.1.0 f.1.1, f.1.2))

-- what weighs nothing leaves the top
pub pop_top : (ds : List Data) (e : Entry) (N : List Entry) (x : Tree) (T : List Tree) (s : State) (v : Value) → e.at ≡ in_flight v
    → ((f : ℕ → ℕ → ℕ) → tree_sum f x ≡ 0) → Invariant ds (e ∷ N) (x ∷ T) s → Invariant ds N T s
pop_top ds e N x T s v at-is z w = record {
  borrows = pop_borrows e.kind (kinds N) w.borrows;
  entries = w.entries.1;
  sums = λ f. (let a = w.sums f in let a2 : place_sum f e.at ≡ 0 = ap (place_sum f) at-is in let a3 = z f in omega arith);
  counted = w.counted;
}

-- the top's kind, by its tree
pub retype_top : (ds : List Data) (e : Entry) (N : List Entry) (x : Tree) (T : List Tree) (s : State) (v : Value) (t : Ty) → e.at ≡ in_flight v
    → Stored s.roots x → Typed ds x t → Invariant ds (e ∷ N) (x ∷ T) s → Invariant ds (owned_entry x t ∷ N) (x ∷ T) s
retype_top ds e N x T s v t at-is st ty w = record {
  borrows = push_own (kinds N) (pop_borrows e.kind (kinds N) w.borrows) t;
  entries = ((refl, st, typed_owned ds x t ty, inl ty), w.entries.1);
  sums = λ f. (let a = w.sums f in let a2 : place_sum f e.at ≡ 0 = ap (place_sum f) at-is in omega arith);
  counted = w.counted;
}

-- reading a root
pub reads : (s : State) (r : ℕ) (v : Value) (w : ℕ) → at_place s.roots r ≡ some (record { live = true; val = v; words = w })
    → read_at s (here r) ≡ some v
reads s r v w e = ap (λ o. if_some (if_some o (λ x. choose x.live (some x) none)) (λ x. me.at_path [] x.val)) e

-- the value that stands at a rooted top
pub top_value : (q : Prog) (rs : List Root) (r : ℕ) (gone : Bool) (sh : Kind) (x : Tree) (N : List Entry) (T : List Tree)
    → EntryOk q.datas rs (rooted r 0) gone sh x N T → (v : Value) × (at_place rs r ≡ some (record { live = true; val = v; words = 0 }))
top_value q rs r gone (own t) x N T f = (flat x, f.0)
top_value q rs r gone (borrow al t a ls) x N T f = (f.1.0, f.1.1)
top_value q rs r gone inert x N T f = (f.1.0, f.1.1)

pub killed_under : (s : State) (r : ℕ) → (kill s r).under ≡ s.under
killed_under s r = go (at_place s.roots r)
  where
    go : (o : Option Root) → (from_option o s
        (λ x. me.with_roots s (set_at s.roots r (record { live = false; val = hole; words = x.words })))).under ≡ s.under
    go none = refl
    go (some x) = refl

-- an int leaves the top
pub pop_int : (ds : List Data) (e : Entry) (N : List Entry) (T : List Tree) (s : State) (v : Value) → ValueEntry v int e → Invariant ds (e ∷ N) T s
    → (U : List Tree) × Invariant ds N U s
pop_int ds e N [] s v fl w = absurd w.entries
pop_int ds e N (x ∷ T) s v fl w = (T, pop_top ds e N x T s v fl.place (go e.kind fl.type w.entries.0) w)
  where
    weightless : (x : Tree) → Typed ds x int → (f : ℕ → ℕ → ℕ) → tree_sum f x ≡ 0
    weightless (int_t k) ty f = refl
    weightless (con_t k ts) ty f = absurd ty
    weightless (box_t r k y) ty f = absurd ty
    weightless hole_t ty f = absurd ty

    content : (u : Ty) → int ≡ u → Content ds e.gone u x → (f : ℕ → ℕ → ℕ) → tree_sum f x ≡ 0
    content u e1 (inl ty) f = weightless x (subst (Typed ds x) (sym e1) ty) f
    content u e1 (inr g) f = ap (tree_sum f) g.1

    go : (sh : Kind) → KindFits int sh → EntryOk ds s.roots e.at e.gone sh x N T → (f : ℕ → ℕ → ℕ) → tree_sum f x ≡ 0
    go (own u) su f1 f = content u su.0 f1.3 f
    go (borrow al u a ls) su f1 f = ap (tree_sum f) f1.0
    go inert su f1 f = absurd su

pub ended_under : (s : State) (r : ℕ) → (ends_box s r).under ≡ s.under
ended_under s r = go (at_place s.roots r)
  where
    go : (o : Option Root) → (from_option o s
        (λ x. me.with_classes (from_option o s (λ y. with_roots s (set_at s.roots r (record { live = false; val = hole; words = y.words }))))
        (me.count_out s.classes x.words))).under ≡ s.under
    go none = refl
    go (some x) = refl
