-- Values in flight get roots: arguments become parameters, the first first, under those that are still in flight.
use mathlib.Core.Bool.{Bool, true}
use mathlib.Core.List.{List, [], ◌∷◌, ◌++◌}
use mathlib.Core.Option.{Option, some}
use mathlib.Core.Path.{◌≡◌, refl, sym, ◌∙◌, ap, subst}
use Prim.Native.Nat.{ℕ, suc, ◌+◌}
use native.Mathlib.Omega.{arith}
use lib.ListN.{length}
use Rattle.language.specs.Base.{at_place}
use Rattle.language.specs.Syntax.{Ty, Data}
use Rattle.language.specs.Meaning.{Value, Root, State, adds_root}
use Rattle.soundness.specs.Trees.{Tree, tree_sum}
use Rattle.soundness.specs.Borrows.{Addr, Kind, own, borrow, inert, at_level, WellBorrowed}
use Rattle.soundness.specs.Invariant.{Place, rooted, in_flight, Entry, kinds, places, ValidRef, EntryOk, EntriesOk, place_sum, stack_sum, of_size}
use Rattle.soundness.specs.Invariant.{is_box, Invariant}
use Rattle.soundness.proofs.Basics.{some_is}
use Rattle.soundness.proofs.memory.Paths.{mark}
use Rattle.soundness.proofs.memory.Roots.{sum_push, at_push, at_last, no_size, sum_high}
use Rattle.soundness.proofs.invariant.Elsewhere.{Elsewhere, stored_else, entry_ok_else, entries_ok_else}
use Rattle.soundness.proofs.invariant.Top.{with_root}
use Rattle.soundness.proofs.invariant.Middle.{level_mid, level_mid_other}

split_places : (N1 : List Entry) (e : Entry) (N2 : List Entry) → places (N1 ++ (e ∷ N2)) ≡ places N1 ++ (e.at ∷ places N2)
split_places [] e N2 = refl
split_places (d ∷ N1) e N2 = ap (λ z. d.at ∷ z) (split_places N1 e N2)

kinds_root : (N1 : List Entry) (e : Entry) (r : ℕ) (N2 : List Entry) → kinds (N1 ++ (with_root e r ∷ N2)) ≡ kinds (N1 ++ (e ∷ N2))
kinds_root [] e r N2 = refl
kinds_root (d ∷ N1) e r N2 = ap (λ z. d.kind ∷ z) (kinds_root N1 e r N2)

-- a reference leads to what has a root already
valid_ref_root : (ds : List Data) (N1 : List Entry) (e : Entry) (v0 : Value) (r : ℕ) (N2 : List Entry) (T : List Tree) (t : Ty) (a : Addr) (v : Value)
    → e.at ≡ in_flight v0 → ValidRef ds (N1 ++ (e ∷ N2)) T t a v → ValidRef ds (N1 ++ (with_root e r ∷ N2)) T t a v
valid_ref_root ds N1 e v0 r N2 T t a v e-at pt =
    record {
      root = pt.root;
      whole = pt.whole;
      part = pt.part;
      standing = st2;
      holding = pt.holding;
      leading = pt.leading;
      typed = pt.typed;
      value = pt.value;
    }
  where
    old : at_level (places N1 ++ (e.at ∷ places N2)) a.owner ≡ some (rooted pt.root 0)
    old = ap (λ z. at_level z a.owner) (sym (split_places N1 e N2)) ∙ pt.standing

    apart : a.owner ≡ length (places N2) → ⊥
    apart h =
        let k : in_flight v0 ≡ rooted pt.root 0 = sym e-at ∙ some_is
        (sym (level_mid (places N1) e.at (places N2)) ∙ ap (at_level (places N1 ++ (e.at ∷ places N2))) (sym h) ∙ old) in
        let z : ◌≡◌ {A = ℕ} 0 1 = cc in omega arith

    st2 : at_level (places (N1 ++ (with_root e r ∷ N2))) a.owner ≡ some (rooted pt.root 0)
    st2 =
        ap (λ z. at_level z a.owner) (split_places N1 (with_root e r) N2) ∙ level_mid_other (places N1) (rooted r 0) e.at (places N2)
        a.owner apart ∙ old

entry_ok_root : (ds : List Data) (rs : List Root) (at : Place) (gone : Bool) (sh : Kind) (x : Tree) (N1 : List Entry) (e : Entry) (v0 : Value) (r : ℕ)
    (N2 : List Entry) (T : List Tree) → e.at ≡ in_flight v0 → EntryOk ds rs at gone sh x (N1 ++ (e ∷ N2)) T
    → EntryOk ds rs at gone sh x (N1 ++ (with_root e r ∷ N2)) T
entry_ok_root ds rs at gone (own t) x N1 e v0 r N2 T h f = f
entry_ok_root ds rs at gone (borrow al t a ls) x N1 e v0 r N2 T h f =
    (f.0, (f.1.0, f.1.1, valid_ref_root ds N1 e v0 r N2 T t a f.1.0 h f.1.2))
entry_ok_root ds rs at gone inert x N1 e v0 r N2 T h f = f

rooted_entry : (ds : List Data) (rs rs2 : List Root) (r : ℕ) (v0 : Value) (gone : Bool) (sh : Kind) (x : Tree) (N : List Entry) (T : List Tree)
    → Elsewhere rs rs2 r → tree_sum (mark r) x ≡ 0 → at_place rs2 r ≡ some (record { live = true; val = v0; words = 0 })
    → EntryOk ds rs (in_flight v0) gone sh x N T → EntryOk ds rs2 (rooted r 0) gone sh x N T
rooted_entry ds rs rs2 r v0 gone (own t) x N T el z e f =
    (e ∙ ap {B = Option Root} (λ y. some (record { live = true; val = y; words = 0 })) f.0, stored_else rs rs2 r x el z f.1, f.2, f.3)
rooted_entry ds rs rs2 r v0 gone (borrow al t a ls) x N T el z e f =
    (f.0, (f.1.0, e ∙ ap {B = Option Root} (λ y. some (record { live = true; val = y; words = 0 })) f.1.1, f.1.2))
rooted_entry ds rs rs2 r v0 gone inert x N T el z e f =
    (f.0, (f.1.0, e ∙ ap {B = Option Root} (λ y. some (record { live = true; val = y; words = 0 })) f.1.1, f.1.2))

entries_ok_root : (ds : List Data) (rs rs2 : List Root) (r : ℕ) (N1 : List Entry) (e : Entry) (v0 : Value) (N2 : List Entry) (T : List Tree)
    → Elsewhere rs rs2 r → at_place rs2 r ≡ some (record { live = true; val = v0; words = 0 }) → e.at ≡ in_flight v0
    → stack_sum (mark r) (N1 ++ (e ∷ N2)) T ≡ 0 → EntriesOk ds rs (N1 ++ (e ∷ N2)) T → EntriesOk ds rs2 (N1 ++ (with_root e r ∷ N2)) T
entries_ok_root ds rs rs2 r [] e v0 N2 [] el at2 e-at z f = absurd f
entries_ok_root ds rs rs2 r [] e v0 N2 (x ∷ T) el at2 e-at z f = (
  rooted_entry ds rs rs2 r v0 e.gone e.kind x N2 T el (omega arith) at2
      (subst (λ y. EntryOk ds rs y e.gone e.kind x N2 T) e-at f.0),
  entries_ok_else ds rs rs2 r N2 T el (omega arith) f.1,
)
entries_ok_root ds rs rs2 r (d ∷ N1) e v0 N2 [] el at2 e-at z f = absurd f
entries_ok_root ds rs rs2 r (d ∷ N1) e v0 N2 (x ∷ T) el at2 e-at z f = (
  entry_ok_root ds rs2 d.at d.gone d.kind x N1 e v0 r N2 T e-at
      (entry_ok_else ds rs rs2 r d.at d.gone d.kind x (N1 ++ (e ∷ N2)) T el (omega arith) (omega arith) f.0),
  entries_ok_root ds rs rs2 r N1 e v0 N2 T el at2 e-at (omega arith) f.1,
)

sum_root : (ds : List Data) (rs : List Root) (f : ℕ → ℕ → ℕ) (N1 : List Entry) (e : Entry) (v0 : Value) (r : ℕ) (N2 : List Entry) (T : List Tree)
    → e.at ≡ in_flight v0 → EntriesOk ds rs (N1 ++ (e ∷ N2)) T → stack_sum f (N1 ++ (with_root e r ∷ N2)) T ≡ f r 0 + stack_sum f (N1 ++ (e ∷ N2)) T
sum_root ds rs f [] e v0 r N2 [] e-at fi = absurd fi
sum_root ds rs f [] e v0 r N2 (x ∷ T) e-at fi = let k : place_sum f e.at ≡ 0 = ap (place_sum f) e-at in omega arith
sum_root ds rs f (d ∷ N1) e v0 r N2 [] e-at fi = absurd fi
sum_root ds rs f (d ∷ N1) e v0 r N2 (x ∷ T) e-at fi = let k = sum_root ds rs f N1 e v0 r N2 T e-at fi.1 in omega arith

-- a root for what's in flight anywhere in the stack
pub root_mid : (ds : List Data) (N1 : List Entry) (e : Entry) (v0 : Value) (N2 : List Entry) (T : List Tree) (s : State) → e.at ≡ in_flight v0
    → Invariant ds (N1 ++ (e ∷ N2)) T s → Invariant ds (N1 ++ (with_root e (length s.roots) ∷ N2)) T (adds_root s v0 0)
root_mid ds N1 e v0 N2 T s e-at w = record {
  borrows = subst WellBorrowed (sym (kinds_root N1 e r N2)) w.borrows;
  entries =
      entries_ok_root ds s.roots rs2 r N1 e v0 N2 T (λ j ne x h. at_push s.roots nu j x h) (at_last s.roots nu) e-at fresh w.entries;
  sums =
      λ f. (let a = w.sums f in let a1 = sum_root ds s.roots f N1 e v0 r N2 T e-at w.entries in let a2 = sum_push f 0 s.roots v0 0 in
      let a3 : f (r + 0) 0 ≡ f r 0 = ap (λ z. f z 0) (omega arith) in omega arith);
  counted = record {
    by_size =
        λ k. (let a = w.counted.by_size k in let b1 = sum_push (of_size (suc k)) 0 s.roots v0 0 in let b2 = no_size k (r + 0) in omega arith);
    in_all = (let a = w.counted.in_all in let b1 = sum_push is_box 0 s.roots v0 0 in omega arith);
  };
}
  where
    r : ℕ
    r = length s.roots

    nu : Root
    nu = record { live = true; val = v0; words = 0 }

    rs2 : List Root
    rs2 = s.roots ++ (nu ∷ [])

    fresh : stack_sum (mark r) (N1 ++ (e ∷ N2)) T ≡ 0
    fresh = w.sums (mark r) ∙ sum_high r 0 s.roots (omega arith)
