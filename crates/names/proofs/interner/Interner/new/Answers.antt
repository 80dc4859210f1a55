use Rattle.std.proofs.Common.{length, ap, ◌∙◌, rules}
use Rattle.names.specs.Table.{used}
use Rattle.names.proofs.Used.{used_zeros}
use Rattle.names.proofs.interner.Interner.new.Goals as goal

pub returns-clause-empty : goal.returns-clause-empty
returns-clause-empty c = ap used (c.over.ensures.table ∙ c.fill.ensures.after (search rules)) ∙ used_zeros (length c.args.table.now)
