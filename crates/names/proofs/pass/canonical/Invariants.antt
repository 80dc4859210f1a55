use Rattle.std.proofs.Common.{◌≡◌, length}
use Rattle.names.proofs.Going.{Going}
use Rattle.names.proofs.pass.canonical.Given as goal

abbrev pub invariant-loop-k : goal.invariant-loop-k
invariant-loop-k l = record {
  text : l.interner.text.now ≡ l.text;
  length : length l.interner.table.now ≡ length l.initial.interner.table.now;
  going : Going l.text l.initial.words l.words l.interner.table.now l.k;
}
