-- The step for a last function: what's dropped gets a name of its own, and a mut of it is lent to the call.
use mathlib.Core.Bool.{true, false}
use mathlib.Core.List.{List, [], ◌∷◌}
use mathlib.Core.Logic.{inl, inr}
use mathlib.Core.Option.{some}
use mathlib.Core.Path.{◌≡◌, refl, sym, ◌∙◌, ap, subst}
use Prim.Native.Nat.{ℕ, suc, ◌<◌}
use native.Mathlib.Omega.{arith}
use lib.ListN.{length}
use Rattle.language.specs.Base.{if_some}
use Rattle.language.specs.Syntax.{Ty, dat, mut, Data, Prog}
use Rattle.language.specs.Checks as ch
use Rattle.language.specs.Meaning.{State, Limits, here, read_at, calls, parts_of, ref_v, nil_v, cons_v, adds_root, kill}
use Rattle.language.specs.Meaning as me
use Rattle.soundness.specs.Borrows.{In, Addr, LevelLoan, own, borrow, addr_of}
use Rattle.soundness.specs.Trees.{Tree, hole_t, flat, Typed}
use Rattle.soundness.specs.Invariant.{rooted, in_flight, Entry, kinds, places, Invariant}
use Rattle.soundness.specs.Frames.{all_loans_of, Arguments, no_args, snoc_arg, owned_entry}
use Rattle.soundness.specs.Preserved.{Safe, AfterCall, AfterEnd, LastsOk, Preserved}
use Rattle.soundness.proofs.loans.Levels.{level_top, level_below}
use Rattle.soundness.proofs.loans.Exclusivity.{reborrow}
use Rattle.soundness.proofs.invariant.Levels.{level_at, kinds_length, places_length, entries_length, not_gone}
use Rattle.soundness.proofs.invariant.Top.{kill_top, root_top, reads, killed_under, pop_int}
use Rattle.soundness.proofs.Safety.{safe_then, safe_need}

-- a mut of what stands at the top, in flight
abbrev pub owner_top : List Entry → Addr
owner_top N = record { owner = length N; path = [] }

abbrev pub lent_top : List Entry → LevelLoan
lent_top N = record { level = length N; alone = true }

abbrev pub mut_entry : List Entry → ℕ → Ty → Entry
mut_entry N r t = record { at = in_flight (ref_v (here r)); gone = false; kind = borrow true t (owner_top N) (lent_top N ∷ []) }

abbrev pub root_entry : ℕ → Ty → Entry
root_entry r t = record { at = rooted r 0; gone = false; kind = own t }

pub push_mut : (ds : List Data) (N : List Entry) (r : ℕ) (t : Ty) (x : Tree) (T : List Tree) (s : State) → Typed ds x t
    → Invariant ds (root_entry r t ∷ N) (x ∷ T) s → Invariant ds (mut_entry N r t ∷ (root_entry r t ∷ N)) (hole_t ∷ (x ∷ T)) s
push_mut ds N r t x T s ty w = record {
  borrows = record {
    exclusivity =
        reborrow (own t ∷ kinds N) w.borrows.exclusivity (length (kinds N)) (own t) (record { owner = length (kinds N); path = [] })
        (level_top (own t) (kinds N)) refl (borrow true t (owner_top N) (lent_top N ∷ [])) (owner_top N) refl (kinds_length N, ([], refl)) (λ e. refl)
        (inr (
          (lent_top N, inl refl, sym (kinds_length N), λ e. refl),
          λ j v d lt v-at d_is co ex.
              (let g = level_below (own t ∷ kinds N) j v v-at in omega arith),
        ));
    anchored = (
      (
        λ l i. elim i [ inl e ↦ (let k : l.level ≡ length N = ap (λ z. z.level) e in let k2 = kinds_length N in omega arith) | inr e ↦ absurd e ],
        (
          lent_top N,
          inl refl,
          ap (λ o. if_some o (λ z. if_some (addr_of (length N) z) (λ a. some a.owner)))
              (level_at (own t) (kinds N) (length N) (kinds_length N)),
        ),
        (t, level_at (own t) (kinds N) (length N) (kinds_length N)),
      ),
      w.borrows.anchored,
    );
  };
  entries = (
    (
      refl,
      (
        ref_v (here r),
        refl,
        record {
          root = r;
          whole = x;
          part = x;
          standing = level_at (rooted r 0) (places N) (length N) (places_length N);
          holding = level_at x T (length N) (entries_length ds s.roots N T w.entries.1);
          leading = refl;
          typed = ty;
          value = refl;
        },
      ),
    ),
    w.entries,
  );
  sums = λ f. (let a = w.sums f in omega arith);
  counted = w.counted;
}

pub lasts_suc : (q : Prog) (m : Limits) (u : ℕ) → ch.accepts q ≡ true → Preserved q m u → LastsOk q m (suc u)
unfolding me.eval
lasts_suc q m u o h N x T s w f okf pars ret ty wo =
    safe_then (λ k z. AfterEnd q N s.under z) (subst (λ z. Safe (AfterCall q C A z s.under) (calls u m q f (ref_v (here r) ∷ []) s1)) ret
    (h.calls_ok C A (hole_t ∷ (x ∷ T)) s1 f (cons_v (ref_v (here r)) nil_v) okf
    (subst (λ z. Arguments A z (cons_v (ref_v (here r)) nil_v)) (sym pars) arguments) (λ l i. low l i)
    (push_mut q.datas N r (dat w) x T s1 ty (root_top q.datas (owned_entry x (dat w)) N x T s (flat x) refl wo))))
    (λ k z a. after z a.under (pop_int q.datas a.top C a.T z k a.value_entry a.invariant))
  where
    r : ℕ
    r = length s.roots

    s1 : State
    s1 = adds_root s (flat x) 0

    C : List Entry
    C = root_entry r (dat w) ∷ N

    A : List Entry
    A = mut_entry N r (dat w) ∷ []

    arguments : Arguments A (mut (dat w) ∷ []) (cons_v (ref_v (here r)) nil_v)
    arguments = snoc_arg (mut_entry N r (dat w)) (mut (dat w)) (ref_v (here r)) no_args (record { place = refl; flag = refl; type = refl })

    low : (l : LevelLoan) → In l (all_loans_of A) → l.level < length C
    low l (inl e) = let k : l.level ≡ length N = ap (λ z. z.level) e in omega arith
    low l (inr e) = absurd e

    after : (z : State) → z.under ≡ s.under → (U : List Tree) × Invariant q.datas C U z
        → Safe (λ k y. AfterEnd q N s.under y) (me.need z (read_at z (here r)) (λ y. parts_of u m q y (kill z r)))
    after z un (U, w2) = go U w2
      where
        go : (U : List Tree) → Invariant q.datas C U z
            → Safe (λ k y. AfterEnd q N s.under y) (me.need z (read_at z (here r)) (λ y. parts_of u m q y (kill z r)))
        go [] w3 = absurd w3.entries
        go (y ∷ U2) w3 =
            safe_need (λ k y1. AfterEnd q N s.under y1) _ _ _ (reads z r (flat y) 0 w3.entries.0.0)
            (subst (λ k. Safe (λ k1 y1. AfterEnd q N k y1) (parts_of u m q (flat y) (kill z r))) (killed_under z r ∙ un)
            (h.parts_ok N y U2 (kill z r) w (not_gone q.datas false (dat w) y refl w3.entries.0.3)
            (kill_top q.datas (root_entry r (dat w)) N y U2 z r (flat y) refl w3.entries.0.0 w3)))
