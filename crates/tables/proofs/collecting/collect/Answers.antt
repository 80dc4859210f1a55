use Rattle.std.proofs.Common.{ap}
use Rattle.tables.specs.Collect.{Tables}
use Rattle.tables.proofs.collecting.collect.Goals as goal

pub returns-clause-datas : goal.returns-clause-datas
returns-clause-datas c = ap (λ (t : Tables). t.datas) (c.note_all-done.ensures.collected.tables c.args.text.now)

pub returns-clause-entries : goal.returns-clause-entries
returns-clause-entries c = ap (λ (t : Tables). t.entries) (c.note_all-done.ensures.collected.tables c.args.text.now)
