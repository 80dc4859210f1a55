-- Entries of loans in words, one after the other.
use Rattle.std.proofs.Common.{◌≡◌, ℕ, zero, suc, ◌+◌, ◌*◌, ◌<◌, ◌≤◌, Bool, ◌||◌, List, [], ◌∷◌, ◌++◌, get_or, sym, refl, ap, ◌∙◌, ap₂, arith}
use mathlib.Core.Bool.{or_assoc}
use Rattle.std.specs.List.{list_any, range_with_len}
use Rattle.language.specs.Base.{some_of}
use Rattle.language.specs.Checks.{Loan}
use Rattle.scope.specs.Loans.{Ent, leaf, via, leaves, ent_of, entry_in, loan_at, slice}

pub some_of-++ : {A : Type 0} (f : A → Bool) (a b : List A) → some_of f (a ++ b) ≡ (some_of f a || some_of f b)
some_of-++ f [] b = refl
some_of-++ f (x ∷ a) b = ap (λ c. f x || c) (some_of-++ f a b) ∙ sym (or_assoc (f x) (some_of f a) (some_of f b))

pub leaves-++ : (a b : List Ent) → leaves (a ++ b) ≡ leaves a ++ leaves b
leaves-++ [] b = refl
leaves-++ (leaf l ∷ a) b = ap (λ ls. l ∷ ls) (leaves-++ a b)
leaves-++ (via j ∷ a) b = leaves-++ a b

-- an entry, then the others
pub one_more : (f : Loan → Bool) (e : Ent) (es : List Ent) → some_of f (leaves (e ∷ es)) ≡ (some_of f (leaves (e ∷ [])) || some_of f (leaves es))
one_more f e es = ap (some_of f) (leaves-++ (e ∷ []) es) ∙ some_of-++ f (leaves (e ∷ [])) (leaves es)

-- a test of each entry from a height on
pub any_loan : (f : Loan → Bool) (text ws : List ℕ) (i n : ℕ) → list_any (λ k. some_of f (leaves (ent_of text (loan_at ws k) ∷ []))) (range_with_len i n) ≡ some_of f (leaves (slice text ws i n))
any_loan f text ws i zero = refl
any_loan f text ws i (suc n) = let e : i + 1 ≡ suc i = omega arith in ap (λ b. some_of f (leaves (ent_of text (loan_at ws i) ∷ [])) || b) (ap (λ k. list_any (λ k. some_of f (leaves (ent_of text (loan_at ws k) ∷ []))) (range_with_len k n)) e ∙ any_loan f text ws (suc i) n) ∙ sym (one_more f (ent_of text (loan_at ws i)) (slice text ws (suc i) n))

-- words that are the same there
pub slice_same : (text ws us : List ℕ) (from n b : ℕ) → 2 * (from + n) ≤ b → ((j : ℕ) → j < b → get_or ws j 0 ≡ get_or us j 0) → slice text ws from n ≡ slice text us from n
slice_same text ws us from zero b h s = refl
slice_same text ws us from (suc n) b h s = ap₂ (λ e l. e ∷ l) (ap₂ (λ t k. ent_of text (entry_in t k)) (s (2 * from) (omega arith)) (s (2 * from + 1) (omega arith))) (slice_same text ws us (suc from) n b (omega arith) s)
