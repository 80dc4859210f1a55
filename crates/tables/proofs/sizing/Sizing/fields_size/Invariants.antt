use Rattle.std.proofs.Common.{◌≡◌, ◌≤◌}
use Rattle.language.specs.Base.{if_some}
use Rattle.tables.specs.Index.{span, all_in}
use Rattle.tables.specs.Sizes.{fields_by, cap}
use Rattle.tables.specs.Known.{sizes_by, the_field}
use Rattle.tables.proofs.SizeSums.{sum_from}
use Rattle.tables.proofs.sizing.Sizing.fields_size.Given as goal

abbrev pub invariant-loop-j : goal.invariant-loop-j
invariant-loop-j l =
    let s = sizes_by l.self in
    let f = the_field l.self.tables in
    (l.sum ≤ 4096) × (l.j-end ≤ l.self.tables.done.fields.end) × (sum_from s f l.j l.j-end l.sum ≡ if_some (fields_by s (all_in f (span l.initial.j l.j-end))) cap)
