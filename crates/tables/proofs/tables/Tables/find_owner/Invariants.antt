use Rattle.std.proofs.Common.{◌≡◌}
use Rattle.language.specs.Checks.{home_of}
use Rattle.tables.specs.Tables.{datas_in, the_data, spelled}
use Rattle.tables.proofs.Look.{homes_from}
use Rattle.tables.proofs.tables.Tables.find_owner.Given as goal

abbrev pub invariant-loop-number : goal.invariant-loop-number
invariant-loop-number l = (l.number-end ≡ l.self.done.datas) × (homes_from (the_data l.self) l.number l.self.done.datas (spelled l.self l.name) ≡ home_of (datas_in l.self) (spelled l.self l.name))
