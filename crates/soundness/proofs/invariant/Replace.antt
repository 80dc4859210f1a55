-- Replacing: what is at the top goes in at a path of an owner, what was there comes out to the top. Moves, assignments and stores are this.
use mathlib.Core.Bool.{Bool, true}
use mathlib.Core.List.{List, [], ◌∷◌, ◌++◌}
use mathlib.Core.Logic.{inl, inr}
use mathlib.Core.Option.{Option, some}
use mathlib.Core.Path.{◌≡◌, refl, sym, ◌∙◌, ap, subst}
use Prim.Native.Nat.{ℕ, suc, ◌+◌, ◌≤◌}
use native.Mathlib.Omega.{arith}
use lib.ListN.{length}
use Rattle.language.specs.Syntax.{Ty, Data}
use Rattle.language.specs.Checks.{owned}
use Rattle.language.specs.Meaning.{Loc, Value, Root, State, here, ref_v}
use Rattle.soundness.specs.Trees.{Tree, box_t, hole_t, flat, tree_sum, Stored, Typed, Path, child, set_child, subtree, replace, loc_step, loc_down}
use Rattle.soundness.specs.Borrows.{Addr, LevelLoan, Kind, own, borrow, inert, at_level, WellBorrowed}
use Rattle.soundness.specs.Invariant.{Place, rooted, in_flight, Entry, kinds, places, Content, ValidRef, EntryOk, EntriesOk, place_sum, stack_sum}
use Rattle.soundness.specs.Invariant.{in_use_of, of_size, is_box, Invariant}
use Rattle.soundness.proofs.Basics.{some_is, if_some_is, order_case}
use Rattle.soundness.proofs.memory.Paths.{mark, mark_self, replace_step, loc_down_step, subtree_step, sum_replace, Outcome, same_root, in_a_box}
use Rattle.soundness.proofs.memory.Paths.{outcome, stored_other, stored_box, stored_replace}
use Rattle.soundness.proofs.memory.Typing.{child_set_same, loc_step_set, RefStays}
use Rattle.soundness.proofs.loans.Levels.{level_top, level_below, level_push}
use Rattle.soundness.proofs.loans.Free.{push_own, pop_borrows}
use Rattle.soundness.proofs.invariant.Levels.{entry_ok_mid}
use Rattle.soundness.proofs.invariant.Elsewhere.{Elsewhere, entry_ok_else, entries_ok_else}
use Rattle.soundness.proofs.invariant.Top.{once_in}
use Rattle.soundness.proofs.memory.Reads.{subtree_stored}
use Rattle.soundness.proofs.memory.Writes.{Wrote}
use Rattle.soundness.proofs.invariant.Middle.{level_mid_other, kinds_mid, level_mid, with_gone, places_mid, sum_mid, places_two}

-- what's put in at q is there, and q leads to the same place
subtree_put : (q : Path) (x z old : Tree) → subtree q x ≡ some old → subtree q (replace q z x) ≡ some z
subtree_put [] x z old e = refl
subtree_put (i ∷ is) x z old e = go (if_some_is (child i x) (subtree is) old e) (λ k ek. subtree_put is k z old ek)
  where
    go : (k : Tree) × (child i x ≡ some k) × (subtree is k ≡ some old) → ((k : Tree) → subtree is k ≡ some old → subtree is (replace is z k) ≡ some z)
        → subtree (i ∷ is) (replace (i ∷ is) z x) ≡ some z
    go a ih =
        ap (subtree (i ∷ is)) (replace_step i is z x a.0 a.1) ∙ subtree_step i is (set_child i (replace is z a.0) x) (replace is z a.0)
        (child_set_same i x a.0 (replace is z a.0) a.1) ∙ ih a.0 a.2

loc_down_put : (l : Loc) (q : Path) (x z old : Tree) → subtree q x ≡ some old → loc_down l q (replace q z x) ≡ loc_down l q x
loc_down_put l [] x z old e = refl
loc_down_put l (i ∷ is) x z old e = go (if_some_is (child i x) (subtree is) old e) (λ l2 k ek. loc_down_put l2 is k z old ek)
  where
    go : (k : Tree) × (child i x ≡ some k) × (subtree is k ≡ some old)
        → ((l2 : Loc) (k : Tree) → subtree is k ≡ some old → loc_down l2 is (replace is z k) ≡ loc_down l2 is k)
        → loc_down l (i ∷ is) (replace (i ∷ is) z x) ≡ loc_down l (i ∷ is) x
    go a ih =
        let y = set_child i (replace is z a.0) x in
        ap (loc_down l (i ∷ is)) (replace_step i is z x a.0 a.1) ∙ loc_down_step l i is y (replace is z a.0)
        (child_set_same i x a.0 (replace is z a.0) a.1) ∙ ap (λ w. loc_down w is (replace is z a.0))
        (loc_step_set l i i x (replace is z a.0)) ∙ ih (loc_step l i x) a.0 a.2 ∙ sym (loc_down_step l i is x a.0 a.1)

-- the root that's written isn't a box of what comes out
old_apart : (l : Loc) (q : Path) (x old : Tree) → subtree q x ≡ some old → ((r : ℕ) → tree_sum (mark r) x ≤ 1) → tree_sum (mark l.root) x ≡ 0
    → tree_sum (mark (loc_down l q x).root) old ≡ 0
old_apart l q x old e once out = go (outcome l q (replace q hole_t x) hole_t hole_t (subtree_put q x hole_t old e))
  where
    d : ℕ
    d = (loc_down l q x).root

    same_d : (loc_down l q (replace q hole_t x)).root ≡ d
    same_d = ap (λ z. z.root) (loc_down_put l q x hole_t old e)

    go : Outcome l q (replace q hole_t x) hole_t → tree_sum (mark d) old ≡ 0
    go (same_root js e1 e2) =
        let at_l : l.root ≡ d = sym (ap (λ z. z.root) e1) ∙ same_d in
        let k = sum_replace (mark d) q hole_t x old e in
        let k2 : tree_sum (mark d) x ≡ 0 = subst (λ z. tree_sum (mark z) x ≡ 0) at_l out in omega arith
    go (in_a_box h e1) =
        let h2 : 1 ≤ tree_sum (mark d) (replace q hole_t x) = subst (λ z. 1 ≤ tree_sum (mark z) (replace q hole_t x)) same_d h in
        let k = sum_replace (mark d) q hole_t x old e in let k2 = once d in omega arith

-- a reference into that owner, or elsewhere, after the value is replaced
module _ (ds : List Data) (r : ℕ) (q : Path) (tr y : Tree) (ex : Entry) (ex_at : ex.at ≡ rooted r 0) (gone2 : Bool) (N2 : List Entry)
    (T2 : List Tree) (len2 : length T2 ≡ length N2) where
  valid_ref_replace : (N1 : List Entry) (T1 : List Tree) (t : Ty) (a : Addr) (v : Value)
      → ((part : Tree) → a.owner ≡ length N2 → subtree a.path tr ≡ some part → Typed ds part t → RefStays ds (here r) q a.path tr y t)
      → ValidRef ds (N1 ++ (ex ∷ N2)) (T1 ++ (tr ∷ T2)) t a v → ValidRef ds (N1 ++ (with_gone ex gone2 ∷ N2)) (T1 ++ (replace q y tr ∷ T2)) t a v
  valid_ref_replace N1 T1 t a v keep pt = elim (order_case a.owner (length N2)) [
    | inl lt ↦ else1 (λ e. (let z = e in omega arith))
    | inr h ↦ elim h [ inl e ↦ here1 e | inr gt ↦ else1 (λ e. (let z = e in omega arith)) ]
  ]
    where
      stand2 : at_level (places (N1 ++ (with_gone ex gone2 ∷ N2))) a.owner ≡ some (rooted pt.root 0)
      stand2 = ap (λ z. at_level z a.owner) (places_mid N1 ex gone2 N2) ∙ pt.standing

      else1 : (a.owner ≡ length T2 → ⊥) → ValidRef ds (N1 ++ (with_gone ex gone2 ∷ N2)) (T1 ++ (replace q y tr ∷ T2)) t a v
      else1 ne =
          record {
            root = pt.root;
            whole = pt.whole;
            part = pt.part;
            standing = stand2;
            holding = level_mid_other T1 (replace q y tr) tr T2
                a.owner ne ∙ pt.holding;
            leading = pt.leading;
            typed = pt.typed;
            value = pt.value;
          }

      here1 : a.owner ≡ length N2 → ValidRef ds (N1 ++ (with_gone ex gone2 ∷ N2)) (T1 ++ (replace q y tr ∷ T2)) t a v
      here1 e =
          let e2 : a.owner ≡ length T2 = e ∙ sym len2 in
          let w_is : pt.whole ≡ tr = some_is (sym pt.holding ∙ ap (at_level (T1 ++ (tr ∷ T2))) e2 ∙ level_mid T1 tr T2) in
          let p_is : rooted pt.root 0 ≡ rooted r 0 = some_is
          (sym pt.standing ∙ ap (at_level (places (N1 ++ (ex ∷ N2)))) e ∙ places_two N1 ex N2) ∙ ex_at in
          let r_is : pt.root ≡ r = cc in
          let st = keep pt.part e (subst (λ z. subtree a.path z ≡ some pt.part) w_is pt.leading) pt.typed in
          record {
            root = pt.root;
            whole = replace q y tr;
            part = st.0;
            standing = stand2;
            holding = ap (at_level (T1 ++ (replace q y tr ∷ T2))) e2 ∙ level_mid T1 (replace q y tr) T2;
            leading = st.1;
            typed = st.2;
            value =
                pt.value ∙ ap ref_v (ap (λ z. loc_down (here z) a.path pt.whole) r_is ∙ ap (loc_down (here r) a.path) w_is ∙ sym st.3
                ∙ ap (λ z. loc_down (here z) a.path (replace q y tr)) (sym r_is));
          }

  abbrev pub RefsStay : List Entry → Type 0
  RefsStay N1 =
      (j : ℕ) (al : Bool) (t : Ty) (a : Addr) (ls : List LevelLoan) (part : Tree) → at_level (kinds (N1 ++ (ex ∷ N2))) j ≡ some (borrow al t a ls)
      → a.owner ≡ length N2 → subtree a.path tr ≡ some part → Typed ds part t → RefStays ds (here r) q a.path tr y t

  entry_ok_replace : (rs2 : List Root) (at : Place) (gone : Bool) (sh : Kind) (x : Tree) (N1 : List Entry) (T1 : List Tree)
      → ((al : Bool) (t : Ty) (a : Addr) (ls : List LevelLoan) (part : Tree) → sh ≡ borrow al t a ls → a.owner ≡ length N2
      → subtree a.path tr ≡ some part → Typed ds part t → RefStays ds (here r) q a.path tr y t)
      → EntryOk ds rs2 at gone sh x (N1 ++ (ex ∷ N2)) (T1 ++ (tr ∷ T2))
      → EntryOk ds rs2 at gone sh x (N1 ++ (with_gone ex gone2 ∷ N2)) (T1 ++ (replace q y tr ∷ T2))
  entry_ok_replace rs2 at gone (own t) x N1 T1 keep f = f
  entry_ok_replace rs2 at gone (borrow al t a ls) x N1 T1 keep f =
      (f.0, (f.1.0, f.1.1, valid_ref_replace N1 T1 t a f.1.0 (λ part e1 e2 ty. keep al t a ls part refl e1 e2 ty) f.1.2))
  entry_ok_replace rs2 at gone inert x N1 T1 keep f = f

  entries_ok_replace : (rs rs2 : List Root) (d : ℕ) → Elsewhere rs rs2 d → (N1 : List Entry) (T1 : List Tree) → length N1 ≡ length T1
      → stack_sum (mark d) N1 T1 ≡ 0 → stack_sum (mark d) N2 T2 ≡ 0 → RefsStay N1 → EntryOk ds rs2 ex.at gone2 ex.kind (replace q y tr) N2 T2
      → EntriesOk ds rs (N1 ++ (ex ∷ N2)) (T1 ++ (tr ∷ T2)) → EntriesOk ds rs2 (N1 ++ (with_gone ex gone2 ∷ N2)) (T1 ++ (replace q y tr ∷ T2))
  entries_ok_replace rs rs2 d el [] [] le z1 z2 kp tg f = (tg, entries_ok_else ds rs rs2 d N2 T2 el z2 f.1)
  entries_ok_replace rs rs2 d el [] (x ∷ T1) le z1 z2 kp tg f = absurd (omega arith)
  entries_ok_replace rs rs2 d el (e ∷ N1) [] le z1 z2 kp tg f = absurd (omega arith)
  entries_ok_replace rs rs2 d el (e ∷ N1) (x ∷ T1) le z1 z2 kp tg f = (
    entry_ok_replace rs2 e.at e.gone e.kind x N1 T1
        (λ al t a ls part sh_is. kp (length (kinds (N1 ++ (ex ∷ N2)))) al t a ls part
        (level_top e.kind (kinds (N1 ++ (ex ∷ N2))) ∙ ap {B = Option Kind} (λ z. some z) sh_is))
        (entry_ok_else ds rs rs2 d e.at e.gone e.kind x (N1 ++ (ex ∷ N2)) (T1 ++ (tr ∷ T2)) el (omega arith) (omega arith) f.0),
    entries_ok_replace rs rs2 d el N1 T1 (omega arith) (omega arith) z2
        (λ j al t a ls part at_j. kp j al t a ls part
        (level_push e.kind (kinds (N1 ++ (ex ∷ N2))) j (level_below (kinds (N1 ++ (ex ∷ N2))) j (borrow al t a ls) at_j) ∙ at_j)) tg f.1,
  )

abbrev pub removed_entry : Tree → Bool → Ty → Entry
removed_entry x g t = record { at = in_flight (flat x); gone = g; kind = own t }

pub replace_at : (ds : List Data) (e : Entry) (y : Tree) (N1 : List Entry) (ex : Entry) (N2 : List Entry) (T1 : List Tree) (tr : Tree)
    (T2 : List Tree) (s : State) (r : ℕ) (tx : Ty) (q : Path) (old : Tree) (gone2 gone3 : Bool) (tv : Ty)
    → e.at ≡ in_flight (flat y) → Stored s.roots y → (ex_at : ex.at ≡ rooted r 0) → ex.kind ≡ own tx → length N1 ≡ length T1
    → (len2 : length T2 ≡ length N2) → subtree q tr ≡ some old
    → (wr : Wrote s (loc_down (here r) q tr) (flat y)) → Content ds gone2 tx (replace q y tr) → Content ds gone3 tv old → owned tv ≡ true
    → RefsStay ds r q tr y ex ex_at gone2 N2 T2 len2 N1
    → Invariant ds (e ∷ (N1 ++ (ex ∷ N2))) (y ∷ (T1 ++ (tr ∷ T2))) s
    → Invariant ds (removed_entry old gone3 tv ∷ (N1 ++ (with_gone ex gone2 ∷ N2))) (old ∷ (T1 ++ (replace q y tr ∷ T2))) wr.s2
replace_at ds e y N1 ex N2 T1 tr T2 s r tx q old gone2 gone3 tv e-at st-y ex_at ex-sh len1 len2 sb wr c2 c3 ow kept w = record {
  borrows =
      push_own (kinds (N1 ++ (with_gone ex gone2 ∷ N2)))
      (subst WellBorrowed (sym (kinds_mid N1 ex gone2 N2)) (pop_borrows e.kind (kinds (N1 ++ (ex ∷ N2))) w.borrows)) tv;
  entries = (
    (
      refl,
      stored_other rs rs2 d (flat y) old wr.written (old_apart (here r) q tr old sb once out) (subtree_stored rs q tr old sb f_ex.1),
      ow,
      c3,
    ),
    entries_ok_replace ds r q tr y ex ex_at gone2 N2 T2 len2 rs rs2 d.root (λ j ne x h. wr.written.others j ne ∙ h) N1 T1 len1
        (omega (arith, zeros)) (omega (arith, zeros)) kept target w.entries.1,
  );
  sums =
      λ f. (let a = w.sums f in let a1 : place_sum f e.at ≡ 0 = ap (place_sum f) e-at in let a2 = sum_mid f N1 T1 ex N2 tr T2 len1 in
      let a3 = sum_mid f N1 T1 (with_gone ex gone2) N2 (replace q y tr) T2 len1 in
      let a4 = sum_replace f q y tr old sb in let a5 = wr.totals f in omega arith);
  counted = record {
    by_size = λ k. ap (λ z. in_use_of z (suc k)) wr.classes ∙ w.counted.by_size k ∙ sym (wr.totals (of_size (suc k)));
    in_all = ap Rattle.language.specs.Says.boxes wr.classes ∙ w.counted.in_all ∙ sym (wr.totals is_box);
  };
}
  where
    rs : List Root
    rs = s.roots

    rs2 : List Root
    rs2 = wr.s2.roots

    d : Loc
    d = loc_down (here r) q tr

    ones : (j : ℕ) → tree_sum (mark j) y + (stack_sum (mark j) N1 T1 + (mark j r 0 + (tree_sum (mark j) tr + stack_sum (mark j) N2 T2))) ≤ 1
    ones j =
        let a = once_in ds (e ∷ (N1 ++ (ex ∷ N2))) (y ∷ (T1 ++ (tr ∷ T2))) s j w in
        let a1 : place_sum (mark j) e.at ≡ 0 = ap (place_sum (mark j)) e-at in
        let a2 = sum_mid (mark j) N1 T1 ex N2 tr T2 len1 in
        let a3 : place_sum (mark j) ex.at ≡ mark j r 0 = ap (place_sum (mark j)) ex_at in omega arith

    once : (j : ℕ) → tree_sum (mark j) tr ≤ 1
    once j = let a = ones j in omega arith

    out : tree_sum (mark r) tr ≡ 0
    out = let a = ones r in let a2 = mark_self r 0 in omega arith

    its_own : Outcome (here r) q tr y → 1 ≤ mark d.root r 0 + tree_sum (mark d.root) tr
    its_own (same_root js e1 e2) =
        let at_r : d.root ≡ r = ap (λ z. z.root) e1 in let k : mark d.root r 0 ≡ 1 = ap (λ z. mark z r 0) at_r ∙ mark_self r 0 in omega arith
    its_own (in_a_box h e1) = omega arith

    zeros : tree_sum (mark d.root) y + (stack_sum (mark d.root) N1 T1 + stack_sum (mark d.root) N2 T2) ≡ 0
    zeros = let a = ones d.root in let a2 = its_own (outcome (here r) q tr y old sb) in omega arith

    f_ex : EntryOk ds rs (rooted r 0) ex.gone (own tx) tr N2 T2
    f_ex =
        subst (λ z. EntryOk ds rs (rooted r 0) ex.gone z tr N2 T2) ex-sh
        (subst (λ z. EntryOk ds rs z ex.gone ex.kind tr N2 T2) ex_at (entry_ok_mid ds rs N1 T1 ex N2 tr T2 len1 w.entries.1))

    st_y2 : Stored rs2 y
    st_y2 = stored_other rs rs2 d (flat y) y wr.written (omega (arith, zeros)) st-y

    boxed : Stored rs2 (box_t r 0 (replace q y tr))
    boxed =
        stored_box rs rs2 q r 0 tr y (f_ex.0, f_ex.1) out wr.written (outcome (here r) q tr y old sb)
        (stored_replace rs rs2 (here r) q tr y old sb f_ex.1 st_y2 once out wr.written)

    target : EntryOk ds rs2 ex.at gone2 ex.kind (replace q y tr) N2 T2
    target =
        subst (λ z. EntryOk ds rs2 z gone2 ex.kind (replace q y tr) N2 T2) (sym ex_at)
        (subst (λ z. EntryOk ds rs2 (rooted r 0) gone2 z (replace q y tr) N2 T2) (sym ex-sh) (boxed.0, boxed.1, f_ex.2, c2))
