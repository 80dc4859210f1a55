use Rattle.std.proofs.Common.{◌≡◌, ℕ, ◌+◌, ◌≤◌, List, length}
use Rattle.scope.specs.Loans.{slice}
use Rattle.checker.specs.Stands.{lent_in, with_loans}
use Rattle.checker.proofs.copy.copy_loans.Given as goal

abbrev pub invariant-loop-i : goal.invariant-loop-i
invariant-loop-i l = ((text : List ℕ) → slice text l.words.loans.now l.to l.i ≡ slice text l.initial.words.args.now l.base l.i)
    × ((text : List ℕ) (from n : ℕ) → from + n ≤ l.to → slice text l.words.loans.now from n ≡ slice text l.initial.words.loans.now from n)
    × (length l.words.loans.now ≡ length l.initial.words.loans.now)
    × ((text code : List ℕ) → lent_in text code l.words ≡ with_loans (lent_in text code l.initial.words) l.words.loans.now)
