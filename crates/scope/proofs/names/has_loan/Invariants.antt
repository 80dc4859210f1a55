use Rattle.std.proofs.Common.{◌≡◌, ℕ, ◌≤◌, List}
use Rattle.language.specs.Base.{some_of}
use Rattle.lexer.specs.Spelling.{spelling}
use Rattle.scope.specs.Loans.{asks, leaves}
use Rattle.scope.specs.Slots.{slots_of, stack}
use Rattle.scope.proofs.names.has_loan.Given as goal

abbrev pub invariant-loop-h : goal.invariant-loop-h
invariant-loop-h l = (l.t ≤ l.top) × ((code : List ℕ) → some_of (asks l.asked (spelling l.text l.name)) (leaves (stack (slots_of l.text code l.names l.loans l.h l.t))) ≡ some_of (asks l.asked (spelling l.text l.name)) (leaves (stack (slots_of l.text code l.names l.loans l.height l.top))))
