-- What stands at a level of the stack, and what of a stack holds of its lower part.
use mathlib.Core.Bool.{Bool, false}
use mathlib.Core.List.{List, [], ◌∷◌, ◌++◌}
use mathlib.Core.Logic.{◌⊎◌, inl, inr}
use mathlib.Core.Option.{Option, some}
use mathlib.Core.Path.{◌≡◌, refl, sym, ◌∙◌, ap, subst}
use Prim.Native.Nat.{ℕ, suc}
use native.Mathlib.Omega.{arith}
use lib.ListN.{length}
use Rattle.language.specs.Syntax.{Ty, Data}
use Rattle.language.specs.Meaning.{Value, Root}
use Rattle.soundness.specs.Trees.{Tree, Typed}
use Rattle.soundness.specs.Borrows.{Addr, Kind, own, borrow, inert, at_level, Anchored, WellBorrowed}
use Rattle.soundness.specs.Invariant.{Place, rooted, Entry, kinds, places, Content, ValidRef, EntryOk, EntriesOk}
use Rattle.soundness.proofs.Basics.{no_some, true_false}
use Rattle.soundness.proofs.loans.Levels.{level_top, level_case, level_below, level_push}
use Rattle.soundness.proofs.loans.Free.{pop_borrows}

pub anchored_under : (H C : List Entry) → Anchored (kinds (H ++ C)) → Anchored (kinds C)
anchored_under [] C h = h
anchored_under (e ∷ H) C h = anchored_under H C h.1

pub level_at : {A : Type 0} (x : A) (xs : List A) (i : ℕ) → length xs ≡ i → at_level (x ∷ xs) i ≡ some x
level_at x xs i e = subst (λ z. at_level (x ∷ xs) z ≡ some x) e (level_top x xs)

pub kinds_length : (N : List Entry) → length (kinds N) ≡ length N
kinds_length [] = refl
kinds_length (e ∷ N) = ap suc (kinds_length N)

pub entry_back : (N : List Entry) (i : ℕ) (sh : Kind) → at_level (kinds N) i ≡ some sh → (e : Entry) × (at_level N i ≡ some e) × (e.kind ≡ sh)
entry_back [] i sh h = absurd (no_some h)
entry_back (d ∷ N) i sh h = go (level_case d.kind (kinds N) i sh h) (entry_back N i sh)
  where
    go : ((i ≡ length (kinds N)) × (d.kind ≡ sh)) ⊎ (at_level (kinds N) i ≡ some sh)
        → (at_level (kinds N) i ≡ some sh → (e : Entry) × (at_level N i ≡ some e) × (e.kind ≡ sh))
        → (e : Entry) × (at_level (d ∷ N) i ≡ some e) × (e.kind ≡ sh)
    go (inl k) r = (d, level_at d N i (sym (kinds_length N) ∙ sym k.0), k.1)
    go (inr k) r = let y = r k in (y.0, level_push d N i (level_below N i y.0 y.1) ∙ y.1, y.2)

pub level_kinds : (N : List Entry) (i : ℕ) (e : Entry) → at_level N i ≡ some e → at_level (kinds N) i ≡ some e.kind
level_kinds [] i e h = absurd (no_some h)
level_kinds (y ∷ N) i e h = go (level_case y N i e h) (level_kinds N i e)
  where
    go : ((i ≡ length N) × (y ≡ e)) ⊎ (at_level N i ≡ some e) → (at_level N i ≡ some e → at_level (kinds N) i ≡ some e.kind)
        → at_level (kinds (y ∷ N)) i ≡ some e.kind
    go (inl k) f =
        subst (λ z. at_level (y.kind ∷ kinds N) z ≡ some e.kind) (kinds_length N ∙ sym k.0)
        (level_top y.kind (kinds N) ∙ ap {B = Option Kind} (λ z. some z.kind) k.1)
    go (inr k) f = let r = f k in level_push y.kind (kinds N) i (level_below (kinds N) i e.kind r) ∙ r

-- what's fine in the middle
pub entry_ok_mid : (ds : List Data) (rs : List Root) (N1 : List Entry) (T1 : List Tree) (e : Entry) (N2 : List Entry) (x : Tree) (T2 : List Tree)
    → length N1 ≡ length T1 → EntriesOk ds rs (N1 ++ (e ∷ N2)) (T1 ++ (x ∷ T2)) → EntryOk ds rs e.at e.gone e.kind x N2 T2
entry_ok_mid ds rs [] [] e N2 x T2 h f = f.0
entry_ok_mid ds rs [] (y ∷ T1) e N2 x T2 h f = absurd (omega arith)
entry_ok_mid ds rs (d ∷ N1) [] e N2 x T2 h f = absurd (omega arith)
entry_ok_mid ds rs (d ∷ N1) (y ∷ T1) e N2 x T2 h f = entry_ok_mid ds rs N1 T1 e N2 x T2 (omega arith) f.1

pub borrows_under : (F C : List Entry) → WellBorrowed (kinds (F ++ C)) → WellBorrowed (kinds C)
borrows_under [] C h = h
borrows_under (e ∷ F) C h = borrows_under F C (pop_borrows e.kind (kinds (F ++ C)) h)

pub places_length : (N : List Entry) → length (places N) ≡ length N
places_length [] = refl
places_length (e ∷ N) = ap suc (places_length N)

pub entries_length : (ds : List Data) (rs : List Root) (N : List Entry) (T : List Tree) → EntriesOk ds rs N T → length T ≡ length N
entries_length ds rs [] [] f = refl
entries_length ds rs [] (x ∷ T) f = absurd f
entries_length ds rs (e ∷ N) [] f = absurd f
entries_length ds rs (e ∷ N) (x ∷ T) f = ap suc (entries_length ds rs N T f.1)

-- what stands at a level, seen from the whole stack
pub valid_ref_push : (ds : List Data) (e : Entry) (N : List Entry) (x : Tree) (T : List Tree) (t : Ty) (a : Addr) (v : Value) → ValidRef ds N T t a v
    → ValidRef ds (e ∷ N) (x ∷ T) t a v
valid_ref_push ds e N x T t a v h = record {
  root = h.root;
  whole = h.whole;
  part = h.part;
  standing = level_push e.at (places N) a.owner (level_below (places N) a.owner (rooted h.root 0) h.standing) ∙ h.standing;
  holding = level_push x T a.owner (level_below T a.owner h.whole h.holding) ∙ h.holding;
  leading = h.leading;
  typed = h.typed;
  value = h.value;
}

entry_ok_push : (ds : List Data) (rs : List Root) (at : Place) (gone : Bool) (sh : Kind) (y : Tree) (e : Entry) (N : List Entry) (x : Tree)
    (T : List Tree) → EntryOk ds rs at gone sh y N T → EntryOk ds rs at gone sh y (e ∷ N) (x ∷ T)
entry_ok_push ds rs at gone (own t) y e N x T f = f
entry_ok_push ds rs at gone (borrow al t a ls) y e N x T f = (f.0, (f.1.0, f.1.1, valid_ref_push ds e N x T t a f.1.0 f.1.2))
entry_ok_push ds rs at gone inert y e N x T f = f

pub record EntryAt (ds : List Data) (rs : List Root) (N : List Entry) (T : List Tree) (i : ℕ) (e : Entry) : Type 0 where
  pub tree : Tree
  pub holds : at_level T i ≡ some tree
  pub place : at_level (places N) i ≡ some e.at
  pub ok_entry : EntryOk ds rs e.at e.gone e.kind tree N T

pub entry_at : (ds : List Data) (rs : List Root) (N : List Entry) (T : List Tree) (i : ℕ) (e : Entry) → EntriesOk ds rs N T → at_level N i ≡ some e
    → EntryAt ds rs N T i e
entry_at ds rs [] T i e f h = absurd (no_some h)
entry_at ds rs (d ∷ N) [] i e f h = absurd f
entry_at ds rs (d ∷ N) (x ∷ T) i e f h = go (level_case d N i e h) (entry_at ds rs N T i e f.1)
  where
    lt : length T ≡ length N
    lt = entries_length ds rs N T f.1

    go : ((i ≡ length N) × (d ≡ e)) ⊎ (at_level N i ≡ some e) → (at_level N i ≡ some e → EntryAt ds rs N T i e) → EntryAt ds rs (d ∷ N) (x ∷ T) i e
    go (inl k) r =
        record {
          tree = x;
          holds = level_at x T i (lt ∙ sym k.0);
          place = level_at d.at (places N) i (places_length N ∙ sym k.0)
              ∙ ap {B = Option Place} (λ z. some z.at) k.1;
          ok_entry = subst (λ z. EntryOk ds rs z.at z.gone z.kind x (d ∷ N) (x ∷ T)) k.1
              (entry_ok_push ds rs d.at d.gone d.kind x d N x T f.0);
        }
    go (inr k) r =
        let y = r k in
        record {
          tree = y.tree;
          holds = level_push x T i (level_below T i y.tree y.holds) ∙ y.holds;
          place = level_push d.at (places N) i
              (level_below (places N) i e.at y.place) ∙ y.place;
          ok_entry = entry_ok_push ds rs e.at e.gone e.kind
              y.tree d N x T y.ok_entry;
        }

pub level_under : {A : Type 0} (H X : List A) (i : ℕ) (e : A) → at_level X i ≡ some e → at_level (H ++ X) i ≡ some e
level_under [] X i e h = h
level_under (y ∷ H) X i e h = let k = level_under H X i e h in level_push y (H ++ X) i (level_below (H ++ X) i e k) ∙ k

pub not_gone : (ds : List Data) (gone : Bool) (t : Ty) (x : Tree) → gone ≡ false → Content ds gone t x → Typed ds x t
not_gone ds gone t x e (inl ty) = ty
not_gone ds gone t x e (inr g) = absurd (true_false (sym g.0 ∙ e))
