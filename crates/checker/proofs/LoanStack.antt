-- Loans as one stack of entries: a loan, or "as that older name has". To ask who has a loan it's enough to go over the loans in the stack, once.
use Rattle.std.proofs.Common.{◌≡◌, ℕ, Bool, true, false, ◌||◌, eqb, List, [], ◌∷◌, ◌++◌, length, sym, refl, ap, ◌∙◌}
use mathlib.Core.Bool.{or_assoc}
use Rattle.language.specs.Base.{choose, some_of}
use Rattle.language.specs.Checks.{Loan}
use Rattle.checker.proofs.Loans.{some_of-++}
use Rattle.scope.specs.Loans.{Ent, leaf, via, leaves}

-- of the oldest, place 0
abbrev pub at : List (List Loan) → ℕ → List Loan
at [] j = []
at (x ∷ xs) j = choose (eqb j (length xs)) x (at xs j)

abbrev pub expand : List Ent → List (List Loan) → List Loan
expand [] ls = []
expand (leaf l ∷ e) ls = l ∷ expand e ls
expand (via j ∷ e) ls = at ls j ++ expand e ls

-- what each name has, the newest first
abbrev pub each_has : List (List Ent) → List (List Loan)
each_has [] = []
each_has (e ∷ es) = expand e (each_has es) ∷ each_has es

abbrev pub all : List (List Loan) → List Loan
all [] = []
all (x ∷ xs) = x ++ all xs

abbrev pub all_leaves : List (List Ent) → List Loan
all_leaves [] = []
all_leaves (e ∷ es) = leaves e ++ all_leaves es

or_self : (a b : Bool) → (a || (a || b)) ≡ (a || b)
or_self true b = refl
or_self false b = refl

pub or_swap : (a b c : Bool) → (a || (b || c)) ≡ (b || (a || c))
or_swap true true c = refl
or_swap true false c = refl
or_swap false true c = refl
or_swap false false c = refl

pub absorbed : (f : Loan → Bool) (ls : List (List Loan)) (j : ℕ) → (some_of f (at ls j) || some_of f (all ls)) ≡ some_of f (all ls)
absorbed f [] j = refl
absorbed f (x ∷ xs) j = go (eqb j (length xs)) (absorbed f xs j)
  where
    go : (c : Bool) → (some_of f (at xs j) || some_of f (all xs)) ≡ some_of f (all xs) → (some_of f (choose c x (at xs j)) || some_of f (x ++ all xs)) ≡ some_of f (x ++ all xs)
    go true h = ap (λ b. some_of f x || b) (some_of-++ f x (all xs)) ∙ or_self (some_of f x) (some_of f (all xs)) ∙ sym (some_of-++ f x (all xs))
    go false h = ap (λ b. some_of f (at xs j) || b) (some_of-++ f x (all xs)) ∙ or_swap (some_of f (at xs j)) (some_of f x) (some_of f (all xs)) ∙ ap (λ b. some_of f x || b) h ∙ sym (some_of-++ f x (all xs))

pub one_has : (f : Loan → Bool) (e : List Ent) (ls : List (List Loan)) → (some_of f (expand e ls) || some_of f (all ls)) ≡ (some_of f (leaves e) || some_of f (all ls))
one_has f [] ls = refl
one_has f (leaf l ∷ e) ls = or_assoc (f l) (some_of f (expand e ls)) (some_of f (all ls)) ∙ ap (λ b. f l || b) (one_has f e ls) ∙ sym (or_assoc (f l) (some_of f (leaves e)) (some_of f (all ls)))
one_has f (via j ∷ e) ls = ap (λ b. b || some_of f (all ls)) (some_of-++ f (at ls j) (expand e ls)) ∙ or_assoc (some_of f (at ls j)) (some_of f (expand e ls)) (some_of f (all ls)) ∙ ap (λ b. some_of f (at ls j) || b) (one_has f e ls) ∙ or_swap (some_of f (at ls j)) (some_of f (leaves e)) (some_of f (all ls)) ∙ ap (λ b. some_of f (leaves e) || b) (absorbed f ls j)

pub who_has : (f : Loan → Bool) (es : List (List Ent)) → some_of f (all (each_has es)) ≡ some_of f (all_leaves es)
who_has f [] = refl
who_has f (e ∷ es) = some_of-++ f (expand e (each_has es)) (all (each_has es)) ∙ one_has f e (each_has es) ∙ ap (λ b. some_of f (leaves e) || b) (who_has f es) ∙ sym (some_of-++ f (leaves e) (all_leaves es))
