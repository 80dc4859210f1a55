-- The names of a pattern, where the rules' names, the meaning's names and the entries grow alike, and references to parts, one after the other.
use mathlib.Core.Bool.{Bool, true, false}
use mathlib.Core.List.{List, [], ◌∷◌, ◌++◌, append_assoc}
use mathlib.Core.Logic.{◌⊎◌, inl, inr}
use mathlib.Core.Option.{Option, some}
use mathlib.Core.Path.{◌≡◌, refl, sym, ◌∙◌, ap, subst}
use Prim.Native.Nat.{ℕ, suc, ◌+◌, ◌≤◌, ◌<◌}
use native.Mathlib.Omega.{arith}
use lib.ListN.{length}
use Rattle.language.specs.Base.{Lexeme}
use Rattle.language.specs.Syntax.{Ty, Access, Data}
use Rattle.language.specs.Checks.{Loan, Var, fresh, enter, bind_all, ref_of}
use Rattle.language.specs.Checks as ch
use Rattle.language.specs.Meaning.{Loc, Value, State, here, ref_v, adds_root, Name, roots_in, names_in, refs_to}
use Rattle.language.specs.Meaning as me
use Rattle.soundness.specs.Borrows.{In, Addr, LevelLoan, Kind, own, borrow, at_level, exclusive, loans_of, addr_of, Comparable, HasLoan, owner_at}
use Rattle.soundness.specs.Trees.{Tree, con_t, hole_t, Trees, nil_t, cons_t, flats, TypedAll, Step, field_step, Path, nth_t, child, subtree}
use Rattle.soundness.specs.Trees.{loc_step, loc_down}
use Rattle.soundness.specs.Invariant.{rooted, Entry, kinds, places, ValidRef, Invariant}
use Rattle.soundness.specs.Frames.{LoansCover, KindFits, Scope}
use Rattle.soundness.proofs.Basics.{no_some, some_is, if_some_is, only_is}
use Rattle.soundness.proofs.memory.Paths.{loc_down_step, subtree_step, extend}
use Rattle.soundness.proofs.loans.Levels.{level_below, level_push, siblings}
use Rattle.soundness.proofs.loans.Exclusivity.{Unobstructed, reborrow, unobstructed_push}
use Rattle.soundness.proofs.loans.Free.{owner_push}
use Rattle.soundness.proofs.invariant.Top.{with_root, root_top}
use Rattle.soundness.proofs.invariant.Borrows.{borrow_entry, push_borrow}
use Rattle.soundness.proofs.statics.Scopes.{fresh_none}
use Rattle.soundness.proofs.frames.Levels.{cover_push}

-- what's bound: xs by the rules on top of g, by the meaning on top of d, at the values vs
pub record Bound (ds : List Data) (C : List Entry) (ln : List LevelLoan) (g bound : ch.Env) (d : me.Env) (xs : List Lexeme) (vs : List Value)
    (t : State) : Type 0 where
  pub gk : ch.Env
  pub k : me.Env
  pub F : List Entry
  pub T : List Tree
  pub static : bound ≡ gk ++ g
  pub named : names_in d t xs vs ≡ some (k ++ d)
  pub lens : length gk ≡ length k
  pub names : Scope (length C) ln bound (k ++ d) F
  pub invariant : Invariant ds (F ++ C) T (roots_in t vs)
  pub under : (roots_in t vs).under ≡ t.under

len_snoc : {A : Type 0} (xs : List A) (x : A) → length (xs ++ (x ∷ [])) ≡ suc (length xs)
len_snoc [] x = refl
len_snoc (y ∷ xs) x = ap suc (len_snoc xs x)

pub bound_more : (ds : List Data) (C : List Entry) (ln : List LevelLoan) (g bound : ch.Env) (d : me.Env) (x : Lexeme) (ty : Ty) (ls : List Loan)
    (xs : List Lexeme) (v : Value) (vs : List Value) (t : State)
    → Bound ds C ln (enter g x ty ls) bound (record { name = x; root = length t.roots } ∷ d) xs vs (adds_root t v 0)
    → Bound ds C ln g bound d (x ∷ xs) (v ∷ vs) t
bound_more ds C ln g bound d x ty ls xs v vs t r =
    let v1 : Var = record { name = x; ty = ty; gone = false; loans = ls } in
    let m1 : Name = record { name = x; root = length t.roots } in
    let d_is : r.k ++ (m1 ∷ d) ≡ (r.k ++ (m1 ∷ [])) ++ d = sym (append_assoc r.k (m1 ∷ []) d) in
    record {
      gk = r.gk ++ (v1 ∷ []);
      k = r.k ++ (m1 ∷ []);
      F = r.F;
      T = r.T;
      static = r.static ∙ sym (append_assoc r.gk (v1 ∷ []) g);
      named = r.named ∙ ap {B = Option me.Env} (λ z. some z) d_is;
      lens = len_snoc r.gk v1 ∙ ap suc r.lens ∙ sym (len_snoc r.k m1);
      names = subst (λ z. Scope (length C) ln bound z r.F) d_is r.names;
      invariant = r.invariant;
      under = r.under;
    }

pub bound_none : (ds : List Data) (C : List Entry) (ln : List LevelLoan) (g bound : ch.Env) (d : me.Env) (F : List Entry) (T : List Tree) (t : State)
    → g ≡ bound → Scope (length C) ln g d F → Invariant ds (F ++ C) T t → Bound ds C ln g bound d [] [] t
bound_none ds C ln g bound d F T t e mt w =
    record {
      gk = [];
      k = [];
      F = F;
      T = T;
      static = sym e;
      named = refl;
      lens = refl;
      names = subst (λ z. Scope (length C) ln z d F) e mt;
      invariant = w;
      under = refl;
    }

-- one more name
pub scope_more : (base : ℕ) (ln : List LevelLoan) (g : ch.Env) (d : me.Env) (F : List Entry) (x : Lexeme) (ty : Ty) (ls : List Loan) (r : ℕ)
    (e : Entry) → fresh g x ≡ true → e.at ≡ rooted r 0 → e.gone ≡ false → KindFits ty e.kind → LoansCover base ln g ls (loans_of e.kind)
    → Scope base ln g d F → Scope base ln (enter g x ty ls) (record { name = x; root = r } ∷ d) (e ∷ F)
scope_more base ln g d F x ty ls r e fr at-is gone-is su cov mt =
    (record { name = refl; place = at-is; flag = gone-is; type = su; loans = cov; fresh = fresh_none g x fr }, mt)

-- one step further down
pub subtree_down : (q : Path) (i : Step) (t k y : Tree) → subtree q t ≡ some k → child i k ≡ some y → subtree (q ++ (i ∷ [])) t ≡ some y
subtree_down [] i t k y e h = subtree_step i [] t y (ap (child i) (some_is e) ∙ h)
subtree_down (j ∷ q) i t k y e h = go (if_some_is (child j t) (subtree q) k e) (λ z ez. subtree_down q i z k y ez h)
  where
    go : (z : Tree) × (child j t ≡ some z) × (subtree q z ≡ some k) → ((z : Tree) → subtree q z ≡ some k → subtree (q ++ (i ∷ [])) z ≡ some y)
        → subtree ((j ∷ q) ++ (i ∷ [])) t ≡ some y
    go z ih = subtree_step j (q ++ (i ∷ [])) t z.0 z.1 ∙ ih z.0 z.2

pub loc_down_more : (l : Loc) (q : Path) (i : ℕ) (t k y : Tree) → subtree q t ≡ some k → child (field_step i) k ≡ some y
    → loc_down l (q ++ (field_step i ∷ [])) t ≡ extend (loc_down l q t) (i ∷ [])
loc_down_more l [] i t k y e h = loc_down_step l (field_step i) [] t y (ap (child (field_step i)) (some_is e) ∙ h)
loc_down_more l (j ∷ q) i t k y e h = go (if_some_is (child j t) (subtree q) k e) (λ l2 z ez. loc_down_more l2 q i z k y ez h)
  where
    go : (z : Tree) × (child j t ≡ some z) × (subtree q z ≡ some k)
        → ((l2 : Loc) (z : Tree) → subtree q z ≡ some k → loc_down l2 (q ++ (field_step i ∷ [])) z ≡ extend (loc_down l2 q z) (i ∷ []))
        → loc_down l ((j ∷ q) ++ (field_step i ∷ [])) t ≡ extend (loc_down l (j ∷ q) t) (i ∷ [])
    go z ih =
        loc_down_step l j (q ++ (field_step i ∷ [])) t z.0 z.1 ∙ ih (loc_step l j t) z.0 z.2 ∙ ap (λ y1. extend y1 (i ∷ []))
        (sym (loc_down_step l j q t z.0 z.1))

abbrev pub child_addr : Addr → ℕ → Addr
child_addr a i = record { owner = a.owner; path = a.path ++ (field_step i ∷ []) }

-- what stays while references to the parts from i on are put on the stack
pub record Ready (al : Bool) (L : List LevelLoan) (lz : ℕ) (z : Kind) (az : Addr) (root : ℕ) (whole : Tree) (i : ℕ) (N : List Entry)
    (T : List Tree) : Type 0 where
  pub z_at : at_level (kinds N) lz ≡ some z
  pub low : (l : LevelLoan) → In l L → l.level < length (kinds N)
  pub home : (l : LevelLoan) × In l L × (owner_at (kinds N) l.level ≡ some az.owner)
  pub owner : (u : Ty) × (at_level (kinds N) az.owner ≡ some (own u))
  pub standing : at_level (places N) az.owner ≡ some (rooted root 0)
  pub holding : at_level T az.owner ≡ some whole
  pub src : (exclusive z ≡ false) ⊎ (HasLoan L lz al × ((j : ℕ) → i ≤ j → Unobstructed (kinds N) lz al (child_addr az j)))

ready_push : (al : Bool) (L : List LevelLoan) (lz : ℕ) (z : Kind) (az : Addr) (root : ℕ) (whole : Tree) (i : ℕ) (N : List Entry) (T : List Tree)
    (t : Ty) (e : Entry) (x : Tree) → e.kind ≡ borrow al t (child_addr az i) L → Ready al L lz z az root whole i N T
    → Ready al L lz z az root whole (suc i) (e ∷ N) (x ∷ T)
ready_push al L lz z az root whole i N T t e x e-sh r = record {
  z_at = level_push e.kind (kinds N) lz (level_below (kinds N) lz z r.z_at) ∙ r.z_at;
  low = λ l k. (let a = r.low l k in omega arith);
  home = (r.home.0, r.home.1, owner_push e.kind (kinds N) r.home.0.level az.owner r.home.2);
  owner =
      (r.owner.0, level_push e.kind (kinds N) az.owner (level_below (kinds N) az.owner (own r.owner.0) r.owner.1) ∙ r.owner.1);
  standing = level_push e.at (places N) az.owner (level_below (places N) az.owner (rooted root 0) r.standing) ∙ r.standing;
  holding = level_push x T az.owner (level_below T az.owner whole r.holding) ∙ r.holding;
  src =
      elim r.src [
        | inl k ↦ inl k
        | inr k ↦ inr
            (k.0, λ j le. unobstructed_push (kinds N) lz al (child_addr az j) e.kind (k.1 j (omega arith)) (apart j le))
      ];
}
  where
    step_is : (j : ℕ) → field_step i ≡ field_step j → i ≡ j
    step_is j h = cc

    apart : (j : ℕ) → suc i ≤ j → (d : Addr) → addr_of (length (kinds N)) e.kind ≡ some d → Comparable d (child_addr az j) → ⊥
    apart j le d d_is co =
        let d1 : child_addr az i ≡ d = some_is (sym (ap (addr_of (length (kinds N))) e-sh) ∙ d_is) in
        siblings az.owner az.path (field_step i) (field_step j) (λ h. (let k = step_is j h in omega arith))
        (subst (λ y. Comparable y (child_addr az j)) (sym d1) co)

-- references to the parts
module _ (ds : List Data) (C : List Entry) (ln : List LevelLoan) (w : Access) (al : Bool)
    (suit : (t : Ty) (a : Addr) (L : List LevelLoan) → KindFits (ref_of w t) (borrow al t a L)) (ls : List Loan) (L : List LevelLoan) (lz : ℕ)
    (z : Kind) (az : Addr) (az_is : addr_of lz z ≡ some az) (ex : al ≡ true → exclusive z ≡ true) (root : ℕ) (whole : Tree) (kc : Lexeme)
    (all : Trees) (sub_is : subtree az.path whole ≡ some (con_t kc all)) where
  pub refs_bound : (xs : List Lexeme) (ts : List Ty) (rest : Trees) (i : ℕ) (g bound : ch.Env) (d : me.Env) (F : List Entry) (T : List Tree)
      (s : State) → bind_all w ls g xs ts ≡ some bound → TypedAll ds rest ts
      → ((j : ℕ) (y : Tree) → nth_t rest j ≡ some y → nth_t all (i + j) ≡ some y) → Scope (length C) ln g d F → LoansCover (length C) ln g ls L
      → Ready al L lz z az root whole i (F ++ C) T → Invariant ds (F ++ C) T s
      → Bound ds C ln g bound d xs (refs_to (loc_down (here root) az.path whole) i (flats rest)) s
  refs_bound [] [] nil_t i g bound d F T s e ty nth mt cov rd wo = bound_none ds C ln g bound d F T s (some_is e) mt wo
  refs_bound [] [] (cons_t y ys) i g bound d F T s e ty nth mt cov rd wo = absurd ty
  refs_bound [] (t ∷ ts) rest i g bound d F T s e ty nth mt cov rd wo = absurd (no_some e)
  refs_bound (x ∷ xs) [] rest i g bound d F T s e ty nth mt cov rd wo = absurd (no_some e)
  refs_bound (x ∷ xs) (t ∷ ts) nil_t i g bound d F T s e ty nth mt cov rd wo = absurd ty
  refs_bound (x ∷ xs) (t ∷ ts) (cons_t y ys) i g bound d F T s e ty nth mt cov rd wo =
      let l0 = loc_down (here root) az.path whole in
      let fr = only_is (fresh g x) (bind_all w ls (enter g x (ref_of w t) ls) xs ts) bound e in
      let a1 = child_addr az i in
      let v1 : Value = ref_v (extend l0 (i ∷ [])) in
      let y_at : nth_t all i ≡ some y = ap (nth_t all) (omega arith) ∙ nth 0 y refl in
      let pt : ValidRef ds (F ++ C) T t a1 v1 = record {
        root = root;
        whole = whole;
        part = y;
        standing = rd.standing;
        holding = rd.holding;
        leading = subtree_down az.path (field_step i) whole (con_t kc all) y sub_is y_at;
        typed = ty.0;
        value = ap ref_v
            (sym (loc_down_more (here root) az.path i whole (con_t kc all) y sub_is y_at));
      } in
      let w1 = push_borrow ds (F ++ C) T s al t a1 L v1 wo
      (reborrow (kinds (F ++ C)) wo.borrows.exclusivity lz z az rd.z_at az_is (borrow al t a1 L) a1 refl
      (refl, (field_step i ∷ [], refl)) ex (elim rd.src [ inl k ↦ inl k | inr k ↦ inr (k.0, k.1 i (omega arith)) ]))
      (rd.low, rd.home, rd.owner) pt in
      let e1 : Entry = with_root (borrow_entry al t a1 L v1) (length s.roots) in
      let w2 : Invariant ds ((e1 ∷ F) ++ C) (hole_t ∷ T) (adds_root s v1 0) = root_top ds (borrow_entry al t a1 L v1)
      (F ++ C) hole_t T s v1 refl w1 in
      bound_more ds C ln g bound d x (ref_of w t) ls xs v1 (refs_to l0 (suc i) (flats ys)) s
      (refs_bound xs ts ys (suc i) (enter g x (ref_of w t) ls) bound (record { name = x; root = length s.roots } ∷ d) (e1 ∷ F) (hole_t ∷ T)
      (adds_root s v1 0) fr.1 ty.1
      (λ j y2 h. ap (nth_t all) (omega arith) ∙ nth (suc j) y2 h)
      (scope_more (length C) ln g d F x (ref_of w t) ls (length s.roots) e1 fr.0 refl refl (suit t a1 L) cov mt)
      (cover_push (length C) ln (record { name = x; ty = ref_of w t; gone = false; loans = ls }) g ls L (fresh_none g x fr.0) cov)
      (ready_push al L lz z az root whole i (F ++ C) T t e1 hole_t refl rd) w2)
