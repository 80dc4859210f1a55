-- Steady: what ends and is dropped.
use mathlib.Core.Bool.{Bool, true, false}
use mathlib.Core.List.{List, [], ◌∷◌, ◌++◌}
use mathlib.Core.Logic.{inl, inr}
use mathlib.Core.Option.{some}
use mathlib.Core.Path.{◌≡◌, refl, sym, ◌∙◌, ap, subst}
use Prim.Native.Nat.{ℕ, suc, ◌+◌, ◌≤◌, ◌<◌}
use native.Mathlib.Omega.{arith}
use lib.Dec.{eqb}
use lib.ListN.{length}
use Rattle.language.specs.Base.{at_place}
use Rattle.language.specs.Syntax.{Ty, int, dat, box, ref, mut, Fn, Prog}
use Rattle.language.specs.Checks.{fn_named, Home}
use Rattle.language.specs.Checks as ch
use Rattle.language.specs.Meaning.{Loc, Value, con_v, ref_v, nil_v, cons_v, State, Limits, here, read_at, with_under, calls, drops, kill, adds_root}
use Rattle.language.specs.Meaning as me
use Rattle.soundness.specs.Trees.{Tree, int_t, con_t, box_t, hole_t, flat, flats, tree_sum, Stored}
use Rattle.soundness.specs.Borrows.{In, LevelLoan, Kind, own, borrow, inert}
use Rattle.soundness.specs.Invariant.{in_flight, Entry, Content, EntryOk, place_sum, Invariant}
use Rattle.soundness.specs.Frames.{ValueEntry, all_loans_of, Arguments, no_args, snoc_arg, owned_entry}
use Rattle.soundness.specs.Preserved.{AfterCall, AfterEnd, Preserved}
use Rattle.soundness.proofs.Basics.{some_is}
use Rattle.soundness.proofs.memory.Paths.{mark, mark_self}
use Rattle.soundness.proofs.memory.Sizes.{words_pos}
use Rattle.soundness.proofs.invariant.Levels.{not_gone}
use Rattle.soundness.proofs.invariant.Top.{invariant_same, unrooted, kill_top, root_top, pop_int, retype_top, reads, top_value}
use Rattle.soundness.proofs.invariant.Apart.{owned_entries, trees_of, parts_dropping, open_con, shell, open_box}
use Rattle.soundness.proofs.statics.Accepted.{home_in, last_fn}
use Rattle.soundness.proofs.drops.Lasts.{mut_entry, root_entry, push_mut}
use Rattle.simulation.specs.Borrows.{Unseen, SteadyEnds, SteadyDrop, SteadyLast, SteadyParts, SteadyDrops}
use Rattle.steady.proofs.Watch.{Watch, watch_push, watch_box}
use Rattle.steady.proofs.Pointing.{unseen_top, not_dropped, boxed_top}
use Rattle.steady.proofs.Steadies.{got, Steadies, EndsSteady, DropsSteady, LastsSteady, PartsSteady, DropsAllSteady}

pub steady_drops_all : (q : Prog) (m : Limits) (u : ℕ) → Preserved q m u → Steadies q m u → DropsAllSteady q m (suc u)
steady_drops_all q m u p h [] N T s nil_v D hs ls fa w wa = tt
steady_drops_all q m u p h [] N T s (cons_v v vs) D hs ls fa w wa = absurd fa
steady_drops_all q m u p h (e ∷ K) N T s nil_v D hs ls fa w wa = absurd fa
steady_drops_all q m u p h (e ∷ K) N T s (cons_v v vs) D hs ls fa w wa = (
  h.drops_steady e (K ++ N) T s v D hs ls fa.0 w (watch_push K N D hs ls wa),
  λ k t eq. (let a = got (λ k1 z. AfterEnd q (K ++ N) s.under z) (drops u m q v s) k t (p.drops_ok e (K ++ N) T s v fa.0 w) eq in
      h.drops_all_steady K N a.T t vs D hs ls fa.1 a.invariant wa),
)

pub steady_parts : (q : Prog) (m : Limits) (u : ℕ) → Steadies q m u → PartsSteady q m (suc u)
steady_parts q m u h N (int_t k) T s w D hs ls ty wo wa = absurd ty
steady_parts q m u h N (con_t k ts) T s w D hs ls ty wo wa =
    h.drops_all_steady (owned_entries ts ty.0.ctor1.fields) N (trees_of ts ++ T) s (flats ts) D hs ls
    (parts_dropping q.datas ts ty.0.ctor1.fields ty.3)
    (open_con q.datas (owned_entry (con_t k ts) (dat w)) N k ts ty.0.ctor1.fields T s (flat (con_t k ts)) refl wo.entries.0.1 ty.3 wo)
    wa
steady_parts q m u h N (box_t r k x) T s w D hs ls ty wo wa = absurd ty
steady_parts q m u h N hole_t T s w D hs ls ty wo wa = absurd ty

-- names end: nobody older points to the newest
pub steady_ends : (q : Prog) (m : Limits) (u : ℕ) → Preserved q m u → Steadies q m u → EndsSteady q m (suc u)
steady_ends q m u p h [] N T s [] D hs ls nm w wa = tt
steady_ends q m u p h [] N T s (x ∷ d) D hs ls nm w wa = absurd nm
steady_ends q m u p h (e ∷ K) N T s [] D hs ls nm w wa = absurd nm
steady_ends q m u p h (e ∷ K) N [] s (x ∷ d) D hs ls nm w wa = absurd w.entries
steady_ends q m u p h (e ∷ K) N (y ∷ T) s (x ∷ d) D hs ls nm w wa =
    λ v rd. subst Goal (some_is (sym (reads s x.root tv.0 0 tv.1) ∙ rd)) (
      unseen_top q.datas e (K ++ N) y T s D hs ls x.root w (watch_push (e ∷ K) N D hs ls wa)
          (let a : place_sum (mark x.root) e.at ≡ mark x.root x.root 0 = ap (place_sum (mark x.root)) nm.0 in
          let c = mark_self x.root 0 in omega arith),
      h.drops_steady (unrooted e tv.0) (K ++ N) (y ∷ T) (kill s x.root) tv.0 D hs ls refl dead (watch_push K N D hs ls wa),
      λ k t eq. (let a = got (λ k1 z. AfterEnd q (K ++ N) (kill s x.root).under z) (drops u m q tv.0 (kill s x.root)) k t
          (p.drops_ok (unrooted e tv.0) (K ++ N) (y ∷ T) (kill s x.root) tv.0 refl dead) eq in
          h.ends_steady K N a.T t d D hs ls nm.1 a.invariant wa),
    )
  where
    Goal : Value → Type 0
    Goal z = Unseen hs ls s.roots x.root × SteadyDrop m q u D hs ls z (kill s x.root)
        × ((k : ℕ) (t : State) → drops u m q z (kill s x.root) ≡ me.ok k t → SteadyEnds m q u D hs ls d t)

    tv : (z : Value) × (at_place s.roots x.root ≡ some (record { live = true; val = z; words = 0 }))
    tv = top_value q s.roots x.root e.gone e.kind y (K ++ N) T
        (subst (λ z. EntryOk q.datas s.roots z e.gone e.kind y (K ++ N) T) nm.0 w.entries.0)

    dead : Invariant q.datas (unrooted e tv.0 ∷ (K ++ N)) (y ∷ T) (kill s x.root)
    dead = kill_top q.datas e (K ++ N) y T s x.root tv.0 nm.0 tv.1 w

drop_own : (q : Prog) (m : Limits) (u : ℕ) → ch.accepts q ≡ true → Preserved q m u → Steadies q m u
    → (e : Entry) (N : List Entry) (x : Tree) (T : List Tree) (s : State) (v : Value) (gone : Bool) (t : Ty) (D hs : List ℕ) (ls : List Loc)
    → e.at ≡ in_flight v → Stored s.roots x → Content q.datas gone t x → Invariant q.datas (e ∷ N) (x ∷ T) s → Watch N D hs ls
    → SteadyDrop m q (suc u) D hs ls (flat x) s
drop_own q m u o p h e N (int_t k) T s v gone t D hs ls at-is st ct w wa = tt
drop_own q m u o p h e N hole_t T s v gone t D hs ls at-is st ct w wa = tt
drop_own q m u o p h e N (con_t k ts) T s v gone t D hs ls at-is st (inr ct) w wa =
    absurd (let z : con_t k ts ≡ hole_t = ct.1 in let z2 : ◌≡◌ {A = ℕ} 0 1 = cc in omega arith)
drop_own q m u o p h e N (con_t k ts) T s v gone int D hs ls at-is st (inl ty) w wa = absurd ty
drop_own q m u o p h e N (con_t k ts) T s v gone (dat d) D hs ls at-is st (inl ty) w wa = λ hm hm-is. subst Goal (some_is (sym ty.1 ∙ hm-is)) (
  λ yes1. h.drops_all_steady (owned_entries ts ty.0.ctor1.fields) N (trees_of ts ++ T) s (flats ts) D hs ls
      (parts_dropping q.datas ts ty.0.ctor1.fields ty.3) (open_con q.datas e N k ts ty.0.ctor1.fields T s v at-is st ty.3 w) wa,
  λ ne f f_is. (let lf = last_fn q o ty.0.data1 (home_in q.datas k ty.0 ty.1).0 ne in
      subst (λ z. SteadyLast m q u D hs ls z (con_v k (flats ts)) s) (some_is (sym lf.1 ∙ f_is))
      (h.lasts_steady N (con_t k ts) T s ty.0.data1.name lf.0 D hs ls lf.2 lf.3.0 lf.3.1 (ty.0, ty.1, refl, ty.3)
      (retype_top q.datas e N (con_t k ts) T s v (dat ty.0.data1.name) at-is st (ty.0, ty.1, refl, ty.3) w) wa)),
)
  where
    Goal : Home → Type 0
    Goal z = (eqb (length z.data1.last) 0 ≡ true → SteadyDrops m q u D hs ls (flats ts) s)
        × (eqb (length z.data1.last) 0 ≡ false → (f : Fn) → fn_named q.funs z.data1.last ≡ some f
        → SteadyLast m q u D hs ls f (con_v k (flats ts)) s)
drop_own q m u o p h e N (con_t k ts) T s v gone (box t) D hs ls at-is st (inl ty) w wa = absurd ty
drop_own q m u o p h e N (con_t k ts) T s v gone (ref t) D hs ls at-is st (inl ty) w wa = absurd ty
drop_own q m u o p h e N (con_t k ts) T s v gone (mut t) D hs ls at-is st (inl ty) w wa = absurd ty
drop_own q m u o p h e N (box_t r k x) T s v gone t D hs ls at-is st (inr ct) w wa =
    absurd (let z : box_t r k x ≡ hole_t = ct.1 in let z2 : ◌≡◌ {A = ℕ} 0 1 = cc in omega arith)
drop_own q m u o p h e N (box_t r k x) T s v gone int D hs ls at-is st (inl ty) w wa = absurd ty
drop_own q m u o p h e N (box_t r k x) T s v gone (dat d) D hs ls at-is st (inl ty) w wa = absurd ty
drop_own q m u o p h e N (box_t r k x) T s v gone (box t) D hs ls at-is st (inl ty) w wa =
    let ds = q.datas in
    let k_pos : 1 ≤ k = subst (λ z. 1 ≤ z) (sym ty.0) (words_pos ds t) in
    let s2 : State = with_under s (s.under + 8) in
    let one : 1 ≤ tree_sum (mark r) (box_t r k x) = (let c = mark_self r k in omega arith) in
    let wa2 = watch_push (e ∷ []) N D hs ls wa in (
      not_dropped ds (e ∷ N) (box_t r k x ∷ T) s D (length N) r w
          (boxed_top ds e N (box_t r k x) T s r w one) wa2.boxes,
      unseen_top ds e N (box_t r k x) T s D hs ls r w wa2 (omega arith),
      λ z rd. subst (λ y. SteadyDrop m q u (r ∷ D) hs ls y s2) (some_is (sym (reads s r (flat x) k st.0) ∙ rd))
          (h.drops_steady (owned_entry x t) (shell r k ∷ N) (x ∷ (hole_t ∷ T)) s2 (flat x) (r ∷ D) hs ls refl
          (invariant_same ds (owned_entry x t ∷ (shell r k ∷ N)) (x ∷ (hole_t ∷ T)) s s2 refl refl
          (open_box ds e N r k x t T s v at-is k_pos st ty.1 w)) (watch_box (shell r k) r k N D hs ls refl wa)),
    )
drop_own q m u o p h e N (box_t r k x) T s v gone (ref t) D hs ls at-is st (inl ty) w wa = absurd ty
drop_own q m u o p h e N (box_t r k x) T s v gone (mut t) D hs ls at-is st (inl ty) w wa = absurd ty

pub steady_drop : (q : Prog) (m : Limits) (u : ℕ) → ch.accepts q ≡ true → Preserved q m u → Steadies q m u → DropsSteady q m (suc u)
steady_drop q m u o p h e N [] s v D hs ls at-is w wa = absurd w.entries
steady_drop q m u o p h e N (x ∷ T) s v D hs ls at-is w wa =
    by_kind e.kind (subst (λ z. EntryOk q.datas s.roots z e.gone e.kind x N T) at-is w.entries.0)
  where
    Goal : Value → Type 0
    Goal y = SteadyDrop m q (suc u) D hs ls y s

    by_kind : (sh : Kind) → EntryOk q.datas s.roots (in_flight v) e.gone sh x N T → Goal v
    by_kind (own t) f = subst Goal (sym f.0) (drop_own q m u o p h e N x T s v e.gone t D hs ls at-is f.1 f.3 w wa)
    by_kind (borrow al t a ms) f = subst Goal (sym (f.1.1 ∙ f.1.2.value)) tt
    by_kind inert f = subst Goal (sym (f.1.1 ∙ f.1.2.1)) tt

-- a last function: what is dropped has a root of its own, that nobody under it points to
pub steady_lasts : (q : Prog) (m : Limits) (u : ℕ) → Preserved q m u → Steadies q m u → LastsSteady q m (suc u)
steady_lasts q m u p h N x T s w f D hs ls okf pars ret ty wo wa = (
  h.calls_steady C A (hole_t ∷ (x ∷ T)) s1 f (cons_v (ref_v (here r)) nil_v) D hs ls okf args low w1 wc,
  λ k z eq. (let a = got (AfterCall q C A f.ret s.under) (calls u m q f (ref_v (here r) ∷ []) s1) k z
      (p.calls_ok C A (hole_t ∷ (x ∷ T)) s1 f (cons_v (ref_v (here r)) nil_v) okf args low w1) eq in
      let po = pop_int q.datas a.top C a.T z k (subst (λ y. ValueEntry k y a.top) ret a.value_entry) a.invariant in
      after z po.0 po.1),
)
  where
    r : ℕ
    r = length s.roots

    s1 : State
    s1 = adds_root s (flat x) 0

    C : List Entry
    C = root_entry r (dat w) ∷ N

    A : List Entry
    A = mut_entry N r (dat w) ∷ []

    wc : Watch C D hs ls
    wc = watch_push (root_entry r (dat w) ∷ []) N D hs ls wa

    args : Arguments A (ch.types_of_pars f.pars) (cons_v (ref_v (here r)) nil_v)
    args =
        subst (λ z. Arguments A z (cons_v (ref_v (here r)) nil_v)) (sym pars)
        (snoc_arg (mut_entry N r (dat w)) (mut (dat w)) (ref_v (here r)) no_args (record { place = refl; flag = refl; type = refl }))

    low : (l : LevelLoan) → In l (all_loans_of A) → l.level < length C
    low l (inl e) = let k : l.level ≡ length N = ap (λ z. z.level) e in omega arith
    low l (inr e) = absurd e

    w1 : Invariant q.datas (A ++ C) (hole_t ∷ (x ∷ T)) s1
    w1 = push_mut q.datas N r (dat w) x T s1 ty (root_top q.datas (owned_entry x (dat w)) N x T s (flat x) refl wo)

    after : (z : State) (U : List Tree) → Invariant q.datas C U z
        → Unseen hs ls z.roots r × ((y : Value) → read_at z (here r) ≡ some y → SteadyParts m q u D hs ls y (kill z r))
    after z [] w3 = absurd w3.entries
    after z (y ∷ U) w3 = (
      unseen_top q.datas (root_entry r (dat w)) N y U z D hs ls r w3 wc (let c = mark_self r 0 in omega arith),
      λ v rd. subst (λ k. SteadyParts m q u D hs ls k (kill z r)) (some_is (sym (reads z r (flat y) 0 w3.entries.0.0) ∙ rd))
          (h.parts_steady N y U (kill z r) w D hs ls (not_gone q.datas false (dat w) y refl w3.entries.0.3)
          (kill_top q.datas (root_entry r (dat w)) N y U z r (flat y) refl w3.entries.0.0 w3) wa),
    )
