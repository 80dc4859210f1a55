use Rattle.std.proofs.Common.{refl, ◌∙◌, arith, length-take}
use Rattle.std.proofs.lemmas.List.{get_or_append_left}
use Rattle.language.specs.Syntax.{dat}
use Rattle.tables.specs.Known.{sizes_in}
use Rattle.tables.specs.Tables.{datas_in}
use Rattle.tables.proofs.Settle.{none_known}
use Rattle.tables.proofs.SizesOk.{sizes_right}
use Rattle.tables.proofs.sizes.measure_all.Goals as goal

pub settle_all-requires-clause-sound : goal.settle_all-requires-clause-sound
settle_all-requires-clause-sound c = none_known c.args.tables _ (λ k h. let n = length-take c.args.tables.done.datas c.args.sizes.now in let l = c.fill.ensures.len in get_or_append_left c.fill.new.self _ 0 k (omega arith) ∙ c.fill.ensures.clones k 0 (omega arith) refl)

pub returns-clause-sizes : goal.returns-clause-sizes
returns-clause-sizes c = λ w. sizes_right (datas_in c.args.tables) (sizes_in c.args.tables c.settle_all.new.sizes) c.settle_all.ensures (dat w)
