use Rattle.lexer.specs.Spelling.{spelling}
use Rattle.names.specs.Passes.{PassedIn}
use Rattle.names.proofs.interner.Interner.search_in.Given as goal

abbrev pub invariant-loop-i : goal.invariant-loop-i
invariant-loop-i l = PassedIn l.self.text.now l.self.table.now (spelling l.self.text.now l.name) l.from l.i
