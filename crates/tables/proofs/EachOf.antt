-- A test of each row of a range, one after the other.
use Rattle.std.proofs.Common.{◌≡◌, ℕ, zero, suc, ◌+◌, ◌-◌, ◌<◌, ◌≤◌, Bool, true, false, ◌&&◌, leb, length, sym, refl, ap, ◌∙◌, arith, le→leb, leb→le}
use Rattle.language.specs.Base.{each_of}
use Rattle.tables.specs.declared.span.Span.{Span}
use Rattle.tables.specs.Index.{each_from, all_in}
use Rattle.tables.proofs.Index.{each_step}
use Rattle.tables.proofs.SizeFuel.{is_true, is_T}

abbrev pub all_from : {A : Type 0} → (A → Bool) → (ℕ → A) → ℕ → ℕ → Bool
all_from p f i n = each_of p (each_from f i (n - i))

all_step : {A : Type 0} (p : A → Bool) (f : ℕ → A) (i n : ℕ) → i < n → all_from p f i n ≡ (p (f i) && all_from p f (i + 1) n)
all_step p f i n h = ap (each_of p) (each_step f i n h)

pub all_no : {A : Type 0} (p : A → Bool) (f : ℕ → A) (i n : ℕ) (z : Bool) → i < n → p (f i) ≡ false → all_from p f i n ≡ z → z ≡ false
all_no p f i n z h e q = sym q ∙ all_step p f i n h ∙ ap (λ b. b && all_from p f (i + 1) n) e

pub all_on : {A : Type 0} (p : A → Bool) (f : ℕ → A) (i n : ℕ) (z : Bool) → i < n → p (f i) ≡ true → all_from p f i n ≡ z → all_from p f (i + 1) n ≡ z
all_on p f i n z h e q = sym (all_step p f i n h ∙ ap (λ b. b && all_from p f (i + 1) n) e) ∙ q

pub each_long : {A : Type 0} (f : ℕ → A) (i n : ℕ) → length (each_from f i n) ≡ n
each_long f i zero = refl
each_long f i (suc n) = let e = each_long f (suc i) n in omega arith

pub all_long : {A : Type 0} (f : ℕ → A) (s : Span) → length (all_in f s) ≡ s.end - s.first
all_long f s = each_long f s.first (s.end - s.first)

-- at most eight, and what else is asked
pub few_yes : {A : Type 0} (f : ℕ → A) (s : Span) (b : Bool) → s.end - s.first ≤ 8 → (leb (length (all_in f s)) 8 && b) ≡ b
few_yes f s b h = ap (λ n. leb n 8 && b) (all_long f s) ∙ ap (λ c. c && b) (is_true (leb (s.end - s.first) 8) (le→leb (s.end - s.first) 8 h))

pub not_few : (n : ℕ) → 8 < n → leb n 8 ≡ false
not_few n h = at (leb n 8) refl
  where
    at : (c : Bool) → leb n 8 ≡ c → c ≡ false
    at true e = let k = leb→le n 8 (is_T e) in absurd (omega arith)
    at false e = refl

pub few_no : {A : Type 0} (f : ℕ → A) (s : Span) (b : Bool) → 8 < s.end - s.first → (leb (length (all_in f s)) 8 && b) ≡ false
few_no f s b h = ap (λ n. leb n 8 && b) (all_long f s) ∙ ap (λ c. c && b) (not_few (s.end - s.first) h)
