-- What `find` and `all` over a range say of the first number that passes, and of what stands at each.
use Rattle.std.proofs.Common.{◌≡◌, ℕ, zero, suc, ◌+◌, ◌-◌, ◌<◌, Bool, true, false, not, ◌&&◌, sym, refl, ap, ◌∙◌, subst, arith}
use Rattle.std.specs.Prelude.{Some, None, Option, MatchOption, IfSome, cond}
use Rattle.std.specs.Option.{option_map}
use Rattle.std.specs.List.{find, list_all, range_with_len}
use mathlib.Core.Option.{some, none}
use Rattle.language.specs.Base.{choose, each_of}
use Rattle.tables.specs.declared.span.Span.{Span}
use Rattle.tables.specs.Index.{each_from, first_from, all_in, first_in}
use Rattle.tables.proofs.Index.{first_under}

found_at : (p : ℕ → Bool) (i n : ℕ) → MatchOption (find p (range_with_len i n)) (first_from p i n ≡ none) (λ k. first_from p i n ≡ some k)
found_at p i zero = refl
found_at p i (suc n) = let e : i + 1 ≡ suc i = omega arith in at (p i) (subst (λ j. MatchOption (find p (range_with_len (i + 1) n)) (first_from p j n ≡ none) (λ k. first_from p j n ≡ some k)) e (found_at p (i + 1) n))
  where
    at : (b : Bool) → MatchOption (find p (range_with_len (i + 1) n)) (first_from p (suc i) n ≡ none) (λ k. first_from p (suc i) n ≡ some k) → MatchOption (cond b (Some i) (find p (range_with_len (i + 1) n))) (choose b (some i) (first_from p (suc i) n) ≡ none) (λ k. choose b (some i) (first_from p (suc i) n) ≡ some k)
    at true h = refl
    at false h = h

pub found : (p : ℕ → Bool) (s : Span) (r : Option ℕ) → option_map (λ x. x) r ≡ find p (range_with_len s.first (s.end - s.first)) → MatchOption r (first_in p s ≡ none) (λ k. first_in p s ≡ some k)
found p s None e = subst (λ (o : Option ℕ). MatchOption o (first_in p s ≡ none) (λ k. first_in p s ≡ some k)) (sym e) (found_at p s.first (s.end - s.first))
found p s (Some x) e = subst (λ (o : Option ℕ). MatchOption o (first_in p s ≡ none) (λ k. first_in p s ≡ some k)) (sym e) (found_at p s.first (s.end - s.first))

pub found_under : (p : ℕ → Bool) (s : Span) (r : Option ℕ) → MatchOption r (first_in p s ≡ none) (λ k. first_in p s ≡ some k) → IfSome r (λ k. k < s.end)
found_under p s None h = tt
found_under p s (Some k) h = first_under p s k h

-- a test that all pass, or that one doesn't
all_at : {A : Type 0} (p : A → Bool) (f : ℕ → A) (i n : ℕ) → list_all (λ k. p (f k)) (range_with_len i n) ≡ each_of p (each_from f i n)
all_at p f i zero = refl
all_at p f i (suc n) = let e : i + 1 ≡ suc i = omega arith in ap (λ b. p (f i) && b) (all_at p f (i + 1) n ∙ ap (λ j. each_of p (each_from f j n)) e)

pub all_pass : {A : Type 0} (p : A → Bool) (f : ℕ → A) (s : Span) → list_all (λ k. p (f k)) (range_with_len s.first (s.end - s.first)) ≡ each_of p (all_in f s)
all_pass p f s = all_at p f s.first (s.end - s.first)

passes_at : {A : Type 0} (p : A → Bool) (f : ℕ → A) (i n : ℕ) → MatchOption (find (λ k. not (p (f k))) (range_with_len i n)) (each_of p (each_from f i n) ≡ true) (λ k. each_of p (each_from f i n) ≡ false)
passes_at p f i zero = refl
passes_at p f i (suc n) = let e : i + 1 ≡ suc i = omega arith in at (p (f i)) (subst (λ j. MatchOption (find (λ k. not (p (f k))) (range_with_len (i + 1) n)) (each_of p (each_from f j n) ≡ true) (λ k. each_of p (each_from f j n) ≡ false)) e (passes_at p f (i + 1) n))
  where
    at : (b : Bool) → MatchOption (find (λ k. not (p (f k))) (range_with_len (i + 1) n)) (each_of p (each_from f (suc i) n) ≡ true) (λ k. each_of p (each_from f (suc i) n) ≡ false) → MatchOption (cond (not b) (Some i) (find (λ k. not (p (f k))) (range_with_len (i + 1) n))) ((b && each_of p (each_from f (suc i) n)) ≡ true) (λ k. (b && each_of p (each_from f (suc i) n)) ≡ false)
    at true h = h
    at false h = refl

pub fails : {A : Type 0} (p : A → Bool) (f : ℕ → A) (s : Span) (r : Option ℕ) → option_map (λ x. x) r ≡ find (λ k. not (p (f k))) (range_with_len s.first (s.end - s.first)) → MatchOption r (each_of p (all_in f s) ≡ true) (λ k. (each_of p (all_in f s) ≡ false) × (k < s.end))
fails p f s None e = subst (λ (o : Option ℕ). MatchOption o (each_of p (all_in f s) ≡ true) (λ k. each_of p (all_in f s) ≡ false)) (sym e) (passes_at p f s.first (s.end - s.first))
fails p f s (Some x) e = (subst (λ (o : Option ℕ). MatchOption o (each_of p (all_in f s) ≡ true) (λ k. each_of p (all_in f s) ≡ false)) (sym e) (passes_at p f s.first (s.end - s.first)), found_under (λ k. not (p (f k))) s (Some x) (found (λ k. not (p (f k))) s (Some x) e))
