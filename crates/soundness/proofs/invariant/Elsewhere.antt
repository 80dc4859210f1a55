-- What does not stand in the one root that changes stays as it is.
use mathlib.Core.Bool.{Bool, true}
use mathlib.Core.List.{List, [], ◌∷◌}
use mathlib.Core.Option.{some}
use mathlib.Core.Path.{◌≡◌, ◌∙◌}
use Prim.Native.Nat.{ℕ}
use native.Mathlib.Omega.{arith}
use lib.Dec.{T}
use Rattle.language.specs.Base.{at_place, set_at}
use Rattle.language.specs.Syntax.{Data}
use Rattle.language.specs.Meaning.{Value, Root}
use Rattle.soundness.specs.Trees.{Tree, int_t, con_t, box_t, hole_t, Trees, nil_t, cons_t, flat, tree_sum, trees_sum, Stored, StoredAll}
use Rattle.soundness.specs.Borrows.{Kind, own, borrow, inert}
use Rattle.soundness.specs.Invariant.{Place, rooted, in_flight, Entry, Holds, EntryOk, EntriesOk, place_sum, stack_sum}
use Rattle.soundness.proofs.memory.Paths.{at_put_other, mark, mark_apart}

abbrev pub Elsewhere : List Root → List Root → ℕ → Type 0
Elsewhere rs rs2 r = (j : ℕ) → (r ≡ j → ⊥) → (x : Root) → at_place rs j ≡ some x → at_place rs2 j ≡ some x

mutual
  pub stored_else : (rs rs2 : List Root) (r : ℕ) (t : Tree) → Elsewhere rs rs2 r → tree_sum (mark r) t ≡ 0 → Stored rs t → Stored rs2 t
  stored_else rs rs2 r (int_t k) el h s = tt
  stored_else rs rs2 r (con_t k ts) el h s = storeds_else rs rs2 r ts el h s
  stored_else rs rs2 r (box_t i w t) el h s =
      (el i (mark_apart r i w (omega arith)) (record { live = true; val = flat t; words = w }) s.0, stored_else rs rs2 r t el (omega arith) s.1)
  stored_else rs rs2 r hole_t el h s = tt

  storeds_else : (rs rs2 : List Root) (r : ℕ) (ts : Trees) → Elsewhere rs rs2 r → trees_sum (mark r) ts ≡ 0 → StoredAll rs ts → StoredAll rs2 ts
  storeds_else rs rs2 r nil_t el h s = tt
  storeds_else rs rs2 r (cons_t t ts) el h s = (stored_else rs rs2 r t el (omega arith) s.0, storeds_else rs rs2 r ts el (omega arith) s.1)

holds_else : (rs rs2 : List Root) (r : ℕ) (at : Place) (v : Value) → Elsewhere rs rs2 r → place_sum (mark r) at ≡ 0 → Holds rs at v → Holds rs2 at v
holds_else rs rs2 r (rooted i w) v el h s = el i (mark_apart r i w h) (record { live = true; val = v; words = w }) s
holds_else rs rs2 r (in_flight u) v el h s = s

pub entry_ok_else : (ds : List Data) (rs rs2 : List Root) (r : ℕ) (at : Place) (gone : Bool) (s : Kind) (x : Tree) (N : List Entry) (T : List Tree)
    → Elsewhere rs rs2 r → place_sum (mark r) at ≡ 0 → tree_sum (mark r) x ≡ 0 → EntryOk ds rs at gone s x N T → EntryOk ds rs2 at gone s x N T
entry_ok_else ds rs rs2 r at gone (own t) x N T el h k f =
    (holds_else rs rs2 r at (flat x) el h f.0, stored_else rs rs2 r x el k f.1, f.2, f.3)
entry_ok_else ds rs rs2 r at gone (borrow al t a ls) x N T el h k f = (f.0, (f.1.0, holds_else rs rs2 r at f.1.0 el h f.1.1, f.1.2))
entry_ok_else ds rs rs2 r at gone inert x N T el h k f = (f.0, (f.1.0, holds_else rs rs2 r at f.1.0 el h f.1.1, f.1.2))

pub entries_ok_else : (ds : List Data) (rs rs2 : List Root) (r : ℕ) (N : List Entry) (T : List Tree) → Elsewhere rs rs2 r → stack_sum (mark r) N T ≡ 0
    → EntriesOk ds rs N T → EntriesOk ds rs2 N T
entries_ok_else ds rs rs2 r [] [] el h f = tt
entries_ok_else ds rs rs2 r [] (x ∷ T) el h f = f
entries_ok_else ds rs rs2 r (e ∷ N) [] el h f = f
entries_ok_else ds rs rs2 r (e ∷ N) (x ∷ T) el h f = (
  entry_ok_else ds rs rs2 r e.at e.gone e.kind x N T el (omega arith) (omega arith) f.0,
  entries_ok_else ds rs rs2 r N T el
      (omega arith) f.1,
)

-- the rest of a stack whose top stands in root r, when r's root is changed
pub rest_else : (rs : List Root) (r : ℕ) (y : Root) → Elsewhere rs (set_at rs r y) r
rest_else rs r y j ne x e = at_put_other rs r j y ne ∙ e
