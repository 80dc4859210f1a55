use Rattle.std.proofs.Common.{◌≡◌, ◌-◌, refl, ap, arith}
use Rattle.language.specs.Checks.{home_of}
use Rattle.tables.specs.Index.{each_from}
use Rattle.tables.specs.Tables.{the_data, spelled}
use Rattle.tables.proofs.Look.{home_hit, home_miss}
use Rattle.tables.proofs.tables.Tables.find_owner.Goals as goal

pub loop-number-init : goal.loop-number-init
loop-number-init c =
    let n = c.args.self.done.datas in
    let e : n - 0 ≡ n = omega arith in
    (refl, ap (λ m. home_of (each_from (the_data c.args.self) 0 m) (spelled c.args.self c.args.name)) e)

pub returns-in-Some : goal.returns-in-Some
returns-in-Some c = (home_hit (the_data c.args.self) c.loop-number.number _ _ _ _ c.loop-number-test.true c.in-Some.ensures.0 c.loop-number.invariant.1, refl, c.in-Some.ensures.1)

pub loop-number-preserved : goal.loop-number-preserved
loop-number-preserved c = (c.loop-number.invariant.0, home_miss (the_data c.args.self) c.loop-number.number _ _ _ c.loop-number-test.true c.in_default.ensures c.loop-number.invariant.1)
