-- Values in flight of an owned type: the tree on top; numbers.
use mathlib.Core.Bool.{true, false}
use mathlib.Core.List.{List, [], ◌∷◌}
use mathlib.Core.Logic.{inl, inr}
use mathlib.Core.Option.{some}
use mathlib.Core.Path.{◌≡◌, refl, sym, ◌∙◌, ap, subst}
use Prim.Native.Nat.{ℕ}
use native.Mathlib.Omega.{arith}
use Rattle.language.specs.Syntax.{Ty, int, Data}
use Rattle.language.specs.Checks.{owned}
use Rattle.language.specs.Meaning.{Value, int_v, Root, State, num_of}
use Rattle.soundness.specs.Trees.{Tree, int_t, con_t, box_t, hole_t, flat, Stored, Typed}
use Rattle.soundness.specs.Borrows.{Kind, own, borrow, inert}
use Rattle.soundness.specs.Invariant.{in_flight, Entry, kinds, Content, EntryOk, Invariant}
use Rattle.soundness.specs.Frames.{KindFits, ValueEntry, owned_entry}
use Rattle.soundness.proofs.Basics.{true_false}
use Rattle.soundness.proofs.loans.Free.{push_own}
use Rattle.soundness.proofs.invariant.Kinds.{owned_kind}

-- what's in flight, of an owned type
pub owned_value : (ds : List Data) (rs : List Root) (e : Entry) (x : Tree) (N : List Entry) (T : List Tree) (v : Value) (t : Ty) → owned t ≡ true
    → ValueEntry v t e → EntryOk ds rs e.at e.gone e.kind x N T → (v ≡ flat x) × Stored rs x × Typed ds x t
owned_value ds rs e x N T v t ow fl f0 = go e.kind fl.type (subst (λ z. EntryOk ds rs z e.gone e.kind x N T) fl.place f0)
  where
    whole : (u : Ty) → t ≡ u → Content ds e.gone u x → Typed ds x t
    whole u h (inl ty) = subst (Typed ds x) (sym h) ty
    whole u h (inr g) = absurd (true_false (sym g.0 ∙ fl.flag))

    go : (sh : Kind) → KindFits t sh → EntryOk ds rs (in_flight v) e.gone sh x N T → (v ≡ flat x) × Stored rs x × Typed ds x t
    go (own u) su f = (f.0, f.1, whole u su.0 f.3)
    go (borrow true u a ls) su f = absurd (true_false (sym ow ∙ ap owned su))
    go (borrow false u a ls) su f = absurd (true_false (sym ow ∙ ap owned su))
    go inert su f = absurd su

pub record OwnedTop (ds : List Data) (T : List Tree) (s : State) (v : Value) (t : Ty) (e : Entry) : Type 0 where
  pub tree : Tree
  pub rest : List Tree
  pub trees : T ≡ tree ∷ rest
  pub value : v ≡ flat tree
  pub stored : Stored s.roots tree
  pub typed : Typed ds tree t
  pub shape : e.kind ≡ own t

pub owned_top : (ds : List Data) (e : Entry) (N : List Entry) (T : List Tree) (s : State) (v : Value) (t : Ty) → owned t ≡ true → ValueEntry v t e
    → Invariant ds (e ∷ N) T s → OwnedTop ds T s v t e
owned_top ds e N [] s v t ow fl w = absurd w.entries
owned_top ds e N (x ∷ T) s v t ow fl w =
    let k = owned_value ds s.roots e x N T v t ow fl w.entries.0 in
    record { tree = x; rest = T; trees = refl; value = k.0; stored = k.1; typed = k.2; shape = owned_kind t e.kind ow fl.type }

-- a number
pub typed_int : (ds : List Data) (x : Tree) → Typed ds x int → (k : ℕ) × (flat x ≡ int_v k)
typed_int ds (int_t k) ty = (k, refl)
typed_int ds (con_t k ts) ty = absurd ty
typed_int ds (box_t r k y) ty = absurd ty
typed_int ds hole_t ty = absurd ty

pub top_int : (ds : List Data) (e : Entry) (N : List Entry) (T : List Tree) (s : State) (v : Value) → ValueEntry v int e → Invariant ds (e ∷ N) T s
    → (k : ℕ) × (v ≡ int_v k) × (num_of v ≡ some k)
top_int ds e N T s v fl w =
    let o = owned_top ds e N T s v int refl fl w in let k = typed_int ds o.tree o.typed in (k.0, o.value ∙ k.1, ap num_of (o.value ∙ k.1))

pub push_int : (ds : List Data) (N : List Entry) (T : List Tree) (s : State) (k : ℕ) → Invariant ds N T s
    → Invariant ds (owned_entry (int_t k) int ∷ N) (int_t k ∷ T) s
push_int ds N T s k w =
    record {
      borrows = push_own (kinds N) w.borrows int;
      entries = ((refl, tt, refl, inl tt), w.entries);
      sums = λ f.
          (let a = w.sums f in omega arith);
      counted = w.counted;
    }
