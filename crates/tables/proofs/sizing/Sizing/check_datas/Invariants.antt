use Rattle.std.proofs.Common.{◌≡◌}
use Rattle.tables.specs.Asked.{decl_at, decls_in}
use Rattle.tables.proofs.EachOf.{all_from}
use Rattle.tables.proofs.sizing.Sizing.check_datas.Given as goal

abbrev pub invariant-loop-number : goal.invariant-loop-number
invariant-loop-number l =
    let t = l.self.tables in
    let ws = l.self.sizes.now in
    (l.number-end ≡ t.done.datas) × (all_from (decl_at t ws) (λ k. k) l.number t.done.datas ≡ decls_in t ws)
