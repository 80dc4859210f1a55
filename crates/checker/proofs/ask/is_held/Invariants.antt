use Rattle.std.proofs.Common.{◌≡◌, ◌≤◌}
use Rattle.language.specs.Base.{some_of}
use Rattle.lexer.specs.Spelling.{spelling}
use Rattle.scope.specs.Loans.{asks, leaves}
use Rattle.checker.specs.Held.{held_in}
use Rattle.checker.proofs.ask.is_held.Given as goal

abbrev pub invariant-loop-n : goal.invariant-loop-n
invariant-loop-n l = (l.top ≤ l.base) × (some_of (asks l.asked (spelling l.text l.name)) (leaves (held_in l.text l.args l.frames l.n l.top)) ≡ some_of (asks l.asked (spelling l.text l.name)) (leaves (held_in l.text l.args l.frames l.count l.base)))
