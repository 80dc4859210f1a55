-- The steps for what ends: names, values and their parts.
use mathlib.Core.Bool.{Bool, true}
use mathlib.Core.List.{List, [], ◌∷◌, ◌++◌}
use mathlib.Core.Logic.{inl, inr}
use mathlib.Core.Path.{◌≡◌, refl, sym, ◌∙◌, ap, subst}
use Prim.Native.Nat.{ℕ, suc, ◌+◌, ◌≤◌}
use native.Mathlib.Omega.{arith}
use lib.Dec.{eqb}
use lib.ListN.{length}
use Rattle.language.specs.Syntax.{Ty, int, dat, box, ref, mut, Prog}
use Rattle.language.specs.Checks as ch
use Rattle.language.specs.Meaning.{Loc, Value, State, Limits, with_under, ends, drops, drops_all, ref_v, nil_v, cons_v, kill}
use Rattle.language.specs.Meaning as me
use Rattle.soundness.specs.Trees.{Tree, int_t, con_t, box_t, hole_t, flat, flats, tree_sum, Stored}
use Rattle.soundness.specs.Borrows.{Kind, own, borrow, inert}
use Rattle.soundness.specs.Invariant.{in_flight, Entry, Content, EntryOk, Invariant}
use Rattle.soundness.specs.Frames.{owned_entry}
use Rattle.soundness.specs.Preserved.{safe_ok, Safe, AfterEnd, EndsOk, DropsOk, PartsOk, DropsAllOk, Preserved}
use Rattle.soundness.proofs.memory.Sizes.{words_pos}
use Rattle.soundness.proofs.invariant.Top.{invariant_same, unrooted, kill_top, pop_top, retype_top, reads, top_value, killed_under, ended_under}
use Rattle.soundness.proofs.invariant.Apart.{owned_entries, trees_of, parts_dropping, open_con, shell, open_box, end_box_top}
use Rattle.soundness.proofs.statics.Accepted.{home_in, last_fn}
use Rattle.soundness.proofs.Safety.{safe_then, safe_need, safe_under, safe_choose}

pub drops_all_suc : (q : Prog) (m : Limits) (u : ℕ) → ch.accepts q ≡ true → Preserved q m u → DropsAllOk q m (suc u)
unfolding me.eval
drops_all_suc q m u o h [] N T s nil_v fa w = safe_ok (record { T = T; invariant = w; under = refl })
drops_all_suc q m u o h [] N T s (cons_v v vs) fa w = absurd fa
drops_all_suc q m u o h (e ∷ K) N T s nil_v fa w = absurd fa
drops_all_suc q m u o h (e ∷ K) N T s (cons_v v vs) fa w =
    safe_then (λ k t. AfterEnd q N s.under t) (h.drops_ok e (K ++ N) T s v fa.0 w)
    (λ k t a. subst (λ z. Safe (λ k t. AfterEnd q N z t) (drops_all u m q vs t)) a.under
    (h.drops_all_ok K N a.T t vs fa.1 a.invariant))

pub ends_suc : (q : Prog) (m : Limits) (u : ℕ) → ch.accepts q ≡ true → Preserved q m u → EndsOk q m (suc u)
unfolding me.eval
ends_suc q m u o h [] N T s [] nm w = safe_ok (record { T = T; invariant = w; under = refl })
ends_suc q m u o h [] N T s (x ∷ d) nm w = absurd nm
ends_suc q m u o h (e ∷ K) N T s [] nm w = absurd nm
ends_suc q m u o h (e ∷ K) N [] s (x ∷ d) nm w = absurd w.entries
ends_suc q m u o h (e ∷ K) N (y ∷ T) s (x ∷ d) nm w =
    let tv = top_value q s.roots x.root e.gone e.kind y (K ++ N) T
    (subst (λ z. EntryOk q.datas s.roots z e.gone e.kind y (K ++ N) T) nm.0 w.entries.0) in
    safe_need (λ k t. AfterEnd q N s.under t) _ _ _ (reads s x.root tv.0 0 tv.1)
    (safe_then (λ k t. AfterEnd q N s.under t)
    (subst (λ z. Safe (λ k t. AfterEnd q (K ++ N) z t) (drops u m q tv.0 (kill s x.root))) (killed_under s x.root)
    (h.drops_ok (unrooted e tv.0) (K ++ N) (y ∷ T) (kill s x.root) tv.0 refl
    (kill_top q.datas e (K ++ N) y T s x.root tv.0 nm.0 tv.1 w)))
    (λ k t a. subst (λ z. Safe (λ k t. AfterEnd q N z t) (ends u m q d t)) a.under (h.ends_ok K N a.T t d nm.1 a.invariant)))

pub parts_suc : (q : Prog) (m : Limits) (u : ℕ) → ch.accepts q ≡ true → Preserved q m u → PartsOk q m (suc u)
unfolding me.eval
parts_suc q m u o h N (int_t k) T s w ty wo = absurd ty
parts_suc q m u o h N (con_t k ts) T s w ty wo =
    h.drops_all_ok (owned_entries ts ty.0.ctor1.fields) N (trees_of ts ++ T) s (flats ts)
    (parts_dropping q.datas ts ty.0.ctor1.fields ty.3)
    (open_con q.datas (owned_entry (con_t k ts) (dat w)) N k ts ty.0.ctor1.fields T s (flat (con_t k ts)) refl wo.entries.0.1 ty.3 wo)
parts_suc q m u o h N (box_t r k x) T s w ty wo = absurd ty
parts_suc q m u o h N hole_t T s w ty wo = absurd ty

drop_own : (q : Prog) (m : Limits) (u : ℕ) → ch.accepts q ≡ true → Preserved q m u
    → (e : Entry) (N : List Entry) (x : Tree) (T : List Tree) (s : State) (v : Value) (gone : Bool) (t : Ty) → e.at ≡ in_flight v
    → Stored s.roots x → Content q.datas gone t x → Invariant q.datas (e ∷ N) (x ∷ T) s
    → Safe (λ k z. AfterEnd q N s.under z) (drops (suc u) m q (flat x) s)
unfolding me.eval
drop_own q m u o h e N (int_t k) T s v gone t at-is st ct w =
    safe_ok (record { T = T; invariant = pop_top q.datas e N (int_t k) T s v at-is (λ f. refl) w; under = refl })
drop_own q m u o h e N hole_t T s v gone t at-is st ct w =
    safe_ok (record { T = T; invariant = pop_top q.datas e N hole_t T s v at-is (λ f. refl) w; under = refl })
drop_own q m u o h e N (con_t k ts) T s v gone t at-is st (inr ct) w =
    absurd (let z : con_t k ts ≡ hole_t = ct.1 in let z2 : ◌≡◌ {A = ℕ} 0 1 = cc in omega arith)
drop_own q m u o h e N (con_t k ts) T s v gone int at-is st (inl ty) w = absurd ty
drop_own q m u o h e N (con_t k ts) T s v gone (dat d) at-is st (inl ty) w =
    safe_need (λ k1 z. AfterEnd q N s.under z) _ _ _ ty.1
    (safe_choose (λ k1 z. AfterEnd q N s.under z) (eqb (length ty.0.data1.last) 0)
    (λ yes1. h.drops_all_ok (owned_entries ts ty.0.ctor1.fields) N (trees_of ts ++ T) s (flats ts)
    (parts_dropping q.datas ts ty.0.ctor1.fields ty.3) (open_con q.datas e N k ts ty.0.ctor1.fields T s v at-is st ty.3 w))
    (λ ne. (let lf = last_fn q o ty.0.data1 (home_in q.datas k ty.0 ty.1).0 ne in
    safe_need (λ k1 z. AfterEnd q N s.under z) _ _ _ lf.1
    (h.lasts_ok N (con_t k ts) T s ty.0.data1.name lf.0 lf.2 lf.3.0 lf.3.1 (ty.0, ty.1, refl, ty.3)
    (retype_top q.datas e N (con_t k ts) T s v (dat ty.0.data1.name) at-is st (ty.0, ty.1, refl, ty.3) w)))))
drop_own q m u o h e N (con_t k ts) T s v gone (box t) at-is st (inl ty) w = absurd ty
drop_own q m u o h e N (con_t k ts) T s v gone (ref t) at-is st (inl ty) w = absurd ty
drop_own q m u o h e N (con_t k ts) T s v gone (mut t) at-is st (inl ty) w = absurd ty
drop_own q m u o h e N (box_t r k x) T s v gone t at-is st (inr ct) w =
    absurd (let z : box_t r k x ≡ hole_t = ct.1 in let z2 : ◌≡◌ {A = ℕ} 0 1 = cc in omega arith)
drop_own q m u o h e N (box_t r k x) T s v gone int at-is st (inl ty) w = absurd ty
drop_own q m u o h e N (box_t r k x) T s v gone (dat d) at-is st (inl ty) w = absurd ty
drop_own q m u o h e N (box_t r k x) T s v gone (box t) at-is st (inl ty) w =
    let k_pos : 1 ≤ k = subst (λ z. 1 ≤ z) (sym ty.0) (words_pos q.datas t) in
    let s2 : State = with_under s (s.under + 8) in
    safe_need (λ k1 z. AfterEnd q N s.under z) _ _ _ (reads s r (flat x) k st.0)
    (safe_under (λ k1 z. AfterEnd q N s.under z) _ _ _ _
    (safe_then (λ k1 z. AfterEnd q N s2.under z)
    (h.drops_ok (owned_entry x t) (shell r k ∷ N) (x ∷ (hole_t ∷ T)) s2 (flat x) refl
    (invariant_same q.datas (owned_entry x t ∷ (shell r k ∷ N)) (x ∷ (hole_t ∷ T)) s s2 refl refl
    (open_box q.datas e N r k x t T s v at-is k_pos st ty.1 w)))
    (λ k1 z a. (let eb = end_box_top q.datas N r k a.T z k_pos a.invariant in
    safe_ok (record { T = eb.0; invariant = eb.1; under = ended_under z r ∙ a.under }))))
    (λ k1 z a. record {
      T = a.T;
      invariant = invariant_same q.datas N a.T z (with_under z s.under) refl refl a.invariant;
      under = refl;
    }))
drop_own q m u o h e N (box_t r k x) T s v gone (ref t) at-is st (inl ty) w = absurd ty
drop_own q m u o h e N (box_t r k x) T s v gone (mut t) at-is st (inl ty) w = absurd ty

hole_sum : (x : Tree) → x ≡ hole_t → (f : ℕ → ℕ → ℕ) → tree_sum f x ≡ 0
hole_sum x e f = ap (tree_sum f) e

pub drops_suc : (q : Prog) (m : Limits) (u : ℕ) → ch.accepts q ≡ true → Preserved q m u → DropsOk q m (suc u)
unfolding me.eval
drops_suc q m u o h e N [] s v at-is w = absurd w.entries
drops_suc q m u o h e N (x ∷ T) s v at-is w =
    by_shape1 e.kind (subst (λ z. EntryOk q.datas s.roots z e.gone e.kind x N T) at-is w.entries.0)
  where
    Goal : Value → Type 0
    Goal y = Safe (λ k z. AfterEnd q N s.under z) (drops (suc u) m q y s)

    idle : (x ≡ hole_t) → (l : Loc) → v ≡ ref_v l → Goal v
    idle xv l e1 = subst Goal (sym e1) (safe_ok (record { T = T; invariant = pop_top q.datas e N x T s v at-is (hole_sum x xv) w; under = refl }))

    by_shape1 : (sh : Kind) → EntryOk q.datas s.roots (in_flight v) e.gone sh x N T → Goal v
    by_shape1 (own t) f = subst Goal (sym f.0) (drop_own q m u o h e N x T s v e.gone t at-is f.1 f.3 w)
    by_shape1 (borrow al t a ls) f = idle f.0 _ (f.1.1 ∙ f.1.2.value)
    by_shape1 inert f = idle f.0 f.1.2.0 (f.1.1 ∙ f.1.2.1)
