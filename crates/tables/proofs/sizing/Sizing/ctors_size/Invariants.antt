use Rattle.std.proofs.Common.{◌≡◌, ◌+◌, ◌≤◌}
use Rattle.language.specs.Base.{if_some}
use Rattle.tables.specs.Index.{span, all_in}
use Rattle.tables.specs.Sizes.{ctors_by, cap}
use Rattle.tables.specs.Known.{sizes_by}
use Rattle.tables.specs.Tables.{the_ctor}
use Rattle.tables.proofs.SizeSums.{top_from}
use Rattle.tables.proofs.sizing.Sizing.ctors_size.Given as goal

abbrev pub invariant-loop-number : goal.invariant-loop-number
invariant-loop-number l =
    let s = sizes_by l.self in
    let f = the_ctor l.self.tables in
    (l.number-end ≤ l.self.tables.done.ctors.end) × (top_from s f l.number l.number-end l.most ≡ if_some (ctors_by s (all_in f (span l.initial.number l.number-end))) (λ m. cap (1 + m)))
