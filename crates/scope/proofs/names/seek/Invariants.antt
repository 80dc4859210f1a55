use Rattle.std.proofs.Common.{◌≡◌, ℕ, List}
use Rattle.lexer.specs.Spelling.{spelling}
use Rattle.scope.specs.Slots.{slots_of, seek}
use Rattle.scope.proofs.names.seek.Given as goal

abbrev pub invariant-loop-h : goal.invariant-loop-h
invariant-loop-h l = (code es : List ℕ) (top : ℕ) → (t : ℕ) × (seek (slots_of l.text code l.names es l.h t) (spelling l.text l.name) ≡ seek (slots_of l.text code l.names es l.height top) (spelling l.text l.name))
