-- Reading at the place of a path in a stored tree.
use mathlib.Core.List.{List, [], ◌∷◌, ◌++◌}
use mathlib.Core.Option.{Option, some, none}
use mathlib.Core.Path.{◌≡◌, refl, ◌∙◌, ap, subst}
use Prim.Native.Nat.{ℕ, zero, suc}
use Rattle.language.specs.Base.{choose, if_some}
use Rattle.language.specs.Meaning.{Loc, Value, Root, State, read_at, live_root, at_path}
use Rattle.soundness.specs.Trees.{Tree, int_t, con_t, box_t, hole_t, Trees, nil_t, cons_t, flat, Stored, StoredAll, Step, field_step, box_step, Path}
use Rattle.soundness.specs.Trees.{nth_t, child, subtree, loc_step, loc_down}
use Rattle.soundness.proofs.Basics.{no_some, some_is, if_some_is}
use Rattle.soundness.proofs.memory.Paths.{at_path_then, nth_flats, loc_down_step, extend}

-- reading down a path
read_then : (s : State) (l : Loc) (js : List ℕ) → read_at s (extend l js) ≡ if_some (read_at s l) (at_path js)
read_then s l js = go (live_root s l.root)
  where
    go : (o : Option Root) → if_some o (λ x. at_path (l.path ++ js) x.val) ≡ if_some (if_some o (λ x. at_path l.path x.val)) (at_path js)
    go none = refl
    go (some x) = at_path_then l.path js x.val

nth_stored : (rs : List Root) (ts : Trees) (i : ℕ) (k : Tree) → nth_t ts i ≡ some k → StoredAll rs ts → Stored rs k
nth_stored rs nil_t i k e s = absurd (no_some e)
nth_stored rs (cons_t t ts) zero k e s = subst (Stored rs) (some_is e) s.0
nth_stored rs (cons_t t ts) (suc i) k e s = nth_stored rs ts i k e s.1

child_stored : (rs : List Root) (i : Step) (x k : Tree) → child i x ≡ some k → Stored rs x → Stored rs k
child_stored rs (field_step i) (int_t a) k e s = absurd (no_some e)
child_stored rs (field_step i) (con_t a ts) k e s = nth_stored rs ts i k e s
child_stored rs (field_step i) (box_t r w x) k e s = absurd (no_some e)
child_stored rs (field_step i) hole_t k e s = absurd (no_some e)
child_stored rs box_step (int_t a) k e s = absurd (no_some e)
child_stored rs box_step (con_t a ts) k e s = absurd (no_some e)
child_stored rs box_step (box_t r w x) k e s = subst (Stored rs) (some_is e) s.1
child_stored rs box_step hole_t k e s = absurd (no_some e)

pub subtree_stored : (rs : List Root) (q : Path) (x old : Tree) → subtree q x ≡ some old → Stored rs x → Stored rs old
subtree_stored rs [] x old e s = subst (Stored rs) (some_is e) s
subtree_stored rs (i ∷ is) x old e s = go (if_some_is (child i x) (subtree is) old e) (λ k ek sk. subtree_stored rs is k old ek sk)
  where
    go : (k : Tree) × (child i x ≡ some k) × (subtree is k ≡ some old) → ((k : Tree) → subtree is k ≡ some old → Stored rs k → Stored rs old)
        → Stored rs old
    go z ih = ih z.0 z.2 (child_stored rs i x z.0 z.1 s)

child_reads : (s : State) (l : Loc) (i : Step) (x k : Tree) → child i x ≡ some k → Stored s.roots x → read_at s l ≡ some (flat x)
    → read_at s (loc_step l i x) ≡ some (flat k)
child_reads s l (field_step i) (int_t a) k e st rd = absurd (no_some e)
child_reads s l (field_step i) (con_t a ts) k e st rd =
    read_then s l (i ∷ []) ∙ ap (λ o. if_some o (at_path (i ∷ []))) rd ∙ ap (λ o. if_some o (at_path [])) (nth_flats ts i k e)
child_reads s l (field_step i) (box_t r w x) k e st rd = absurd (no_some e)
child_reads s l (field_step i) hole_t k e st rd = absurd (no_some e)
child_reads s l box_step (int_t a) k e st rd = absurd (no_some e)
child_reads s l box_step (con_t a ts) k e st rd = absurd (no_some e)
child_reads s l box_step (box_t r w x) k e st rd =
    ap (λ o. if_some (if_some o (λ y. choose y.live (some y) none)) (λ y. at_path [] y.val)) st.0 ∙ ap {B = Option Value}
    (λ z. some (flat z)) (some_is e)
child_reads s l box_step hole_t k e st rd = absurd (no_some e)

-- reading: at the place of a path stands what is down that path
pub reads_way : (s : State) (l : Loc) (q : Path) (x part : Tree) → subtree q x ≡ some part → Stored s.roots x → read_at s l ≡ some (flat x)
    → read_at s (loc_down l q x) ≡ some (flat part)
reads_way s l [] x part e st rd = rd ∙ ap {B = Option Value} (λ z. some (flat z)) (some_is e)
reads_way s l (i ∷ is) x part e st rd = go (if_some_is (child i x) (subtree is) part e) (λ l2 k ek sk rk. reads_way s l2 is k part ek sk rk)
  where
    go : (k : Tree) × (child i x ≡ some k) × (subtree is k ≡ some part)
        → ((l2 : Loc) (k : Tree) → subtree is k ≡ some part → Stored s.roots k → read_at s l2 ≡ some (flat k)
        → read_at s (loc_down l2 is k) ≡ some (flat part)) → read_at s (loc_down l (i ∷ is) x) ≡ some (flat part)
    go z ih =
        ap (read_at s) (loc_down_step l i is x z.0 z.1) ∙ ih (loc_step l i x) z.0 z.2 (child_stored s.roots i x z.0 z.1 st)
        (child_reads s l i x z.0 z.1 st rd)
