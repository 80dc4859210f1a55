use Rattle.std.proofs.Common.{◌≡◌, true}
use Rattle.language.specs.Checks.{owned, well_made}
use Rattle.types.specs.Types.{layers}
use Rattle.tables.specs.Tables.{datas_in, type_in}
use Rattle.tables.proofs.tables.Tables.inner_exists.Given as goal

abbrev pub invariant-loop-name : goal.invariant-loop-name
invariant-loop-name l =
    (owned (type_in l.self l.t) ≡ owned (type_in l.self l.initial.t)) × (owned (type_in l.self l.t) ≡ true → well_made (datas_in l.self) (type_in l.self l.t) ≡ well_made (datas_in l.self) (type_in l.self l.initial.t))

abbrev pub decreases-loop-name : goal.decreases-loop-name
decreases-loop-name l = layers (type_in l.self l.t)
