-- Boxes being dropped: memory is said of the roots without them; their words are handed over to the drop.
use mathlib.Core.Path.{◌≡◌, refl, sym, ap, subst, ◌∙◌}
use mathlib.Core.Bool.{Bool, false, not}
use mathlib.Core.List.{List, [], ◌∷◌, ◌++◌}
use Prim.Native.Nat.{ℕ, zero, suc, ◌<◌}
use native.Mathlib.Omega.{arith}
use lib.ListN.{length}
use lib.Dec.{T}
use Rattle.language.specs.Base.{at_place, set_at}
use Rattle.language.specs.Meaning.{Root}
pub use Rattle.simulation.specs.Borrows.{NotIn}
use Rattle.simulation.proofs.Machine.{Kit}
use Rattle.simulation.proofs.Memory.{no_some, some_is, Pl, Fits, Live, Owns, Mem}

abbrev pub quiet : List Root → ℕ → List Root
quiet [] r = []
quiet (x ∷ xs) zero = record { live = false; val = x.val; words = x.words } ∷ xs
quiet (x ∷ xs) (suc r) = x ∷ quiet xs r

abbrev pub hush : List ℕ → List Root → List Root
hush [] rs = rs
hush (r ∷ D) rs = quiet (hush D rs) r

abbrev pub BelowAll : List ℕ → ℕ → Type 0
BelowAll [] k = Unit {0}
BelowAll (r ∷ D) k = (r < k) × BelowAll D k

pub quiet_length : (rs : List Root) (r : ℕ) → length (quiet rs r) ≡ length rs
quiet_length [] r = refl
quiet_length (x ∷ xs) zero = refl
quiet_length (x ∷ xs) (suc r) = ap suc (quiet_length xs r)

pub hush_length : (D : List ℕ) (rs : List Root) → length (hush D rs) ≡ length rs
hush_length [] rs = refl
hush_length (r ∷ D) rs = quiet_length (hush D rs) r ∙ hush_length D rs

pub quiet_at : (rs : List Root) (r i : ℕ) → (r ≡ i → ⊥) → at_place (quiet rs r) i ≡ at_place rs i
quiet_at [] r i h = refl
quiet_at (x ∷ xs) zero zero h = absurd (h refl)
quiet_at (x ∷ xs) zero (suc i) h = refl
quiet_at (x ∷ xs) (suc r) zero h = refl
quiet_at (x ∷ xs) (suc r) (suc i) h = quiet_at xs r i (λ e. h (ap suc e))

-- what is done to others is done all the same
quiet_put : (rs : List Root) (r i : ℕ) (v : Root) → (r ≡ i → ⊥) → quiet (set_at rs i v) r ≡ set_at (quiet rs r) i v
quiet_put [] r i v h = refl
quiet_put (x ∷ xs) zero zero v h = absurd (h refl)
quiet_put (x ∷ xs) zero (suc i) v h = refl
quiet_put (x ∷ xs) (suc r) zero v h = refl
quiet_put (x ∷ xs) (suc r) (suc i) v h = ap (λ (z : List Root). x ∷ z) (quiet_put xs r i v (λ e. h (ap suc e)))

pub hush_put : (D : List ℕ) (rs : List Root) (i : ℕ) (v : Root) → NotIn i D → hush D (set_at rs i v) ≡ set_at (hush D rs) i v
hush_put [] rs i v h = refl
hush_put (r ∷ D) rs i v h = ap (λ (z : List Root). quiet z r) (hush_put D rs i v h.1) ∙ quiet_put (hush D rs) r i v h.0

quiet_more : (rs : List Root) (r : ℕ) (v : Root) → r < length rs → quiet (rs ++ (v ∷ [])) r ≡ quiet rs r ++ (v ∷ [])
quiet_more [] r v h = absurd (omega arith)
quiet_more (x ∷ xs) zero v h = refl
quiet_more (x ∷ xs) (suc r) v h = ap (λ (z : List Root). x ∷ z) (quiet_more xs r v (omega arith))

pub hush_more : (D : List ℕ) (rs : List Root) (v : Root) → BelowAll D (length rs) → hush D (rs ++ (v ∷ [])) ≡ hush D rs ++ (v ∷ [])
hush_more [] rs v h = refl
hush_more (r ∷ D) rs v h = let e = hush_length D rs in let h0 = h.0 in ap (λ (z : List Root). quiet z r) (hush_more D rs v h.1) ∙ quiet_more (hush D rs) r v (omega arith)

-- live among them: live, and not one that's being dropped
pub quiet_live : (rs : List Root) (r i : ℕ) (x : Root) → Live (quiet rs r) i x → Live rs i x × (r ≡ i → ⊥)
quiet_live [] r i x h = absurd (no_some h.is)
quiet_live (y ∷ ys) zero zero x h = let e = some_is h.is in absurd (subst (λ (z : Bool). T (not z)) (ap (λ (z : Root). z.live) e ∙ h.lives) tt)
quiet_live (y ∷ ys) zero (suc i) x h = (record { is = h.is; lives = h.lives }, λ e. omega arith)
quiet_live (y ∷ ys) (suc r) zero x h = (record { is = h.is; lives = h.lives }, λ e. omega arith)
quiet_live (y ∷ ys) (suc r) (suc i) x h = let z = quiet_live ys r i x (record { is = h.is; lives = h.lives }) in (record { is = z.0.is; lives = z.0.lives }, λ e. z.1 (omega arith))

pub hush_live : (D : List ℕ) (rs : List Root) (i : ℕ) (x : Root) → Live (hush D rs) i x → Live rs i x
hush_live [] rs i x h = h
hush_live (r ∷ D) rs i x h = hush_live D rs i x (quiet_live (hush D rs) r i x h).0

pub live_hush : (D : List ℕ) (rs : List Root) (i : ℕ) (x : Root) → NotIn i D → Live rs i x → Live (hush D rs) i x
live_hush [] rs i x n1 h = h
live_hush (r ∷ D) rs i x n1 h = let z = live_hush D rs i x n1.1 h in record { is = quiet_at (hush D rs) r i n1.0 ∙ z.is; lives = z.lives }

module _ (K : Kit) (F : Fits K) where
  pub owns_fewer : (L : List Pl) (rs rs2 : List Root) (i j : ℕ) → ((i : ℕ) (x : Root) → Live rs2 i x → Live rs i x) → Owns K rs2 L i j → Owns K rs L i j
  owns_fewer L rs rs2 i j f o = record { root = o.root; pl = o.pl; lives = f i o.root o.lives; is = o.is; from = o.from; upto = o.upto }

  -- fewer that are live: a box begins to be dropped, or ends
  pub mem_fewer : (bound : ℕ) (L : List Pl) (rs rs2 : List Root) (w : ℕ → ℕ) → length rs2 ≡ length rs → ((i : ℕ) (x : Root) → Live rs2 i x → Live rs i x) → Mem K bound L rs w → Mem K bound L rs2 w
  mem_fewer bound L rs rs2 w e f m = record { long = m.long ∙ sym e; laid = λ r x y h. m.laid r x y (f r x h); apart = λ r i j o1 o2. m.apart r i j (owns_fewer L rs rs2 r j f o1) (owns_fewer L rs rs2 i j f o2); low = λ r j o. m.low r j (owns_fewer L rs rs2 r j f o) }
