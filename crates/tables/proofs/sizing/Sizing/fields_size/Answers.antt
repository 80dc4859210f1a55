use Rattle.std.proofs.Common.{◌+◌, arith}
use Rattle.tables.specs.Known.{sizes_by, the_field}
use Rattle.tables.proofs.SizeSums.{sum_more, sum_none, sum_big}
use Rattle.tables.proofs.sizing.Sizing.fields_size.Goals as goal

pub returns-in_err-size : goal.returns-in_err-size
returns-in_err-size c = rw c.from_residual.ensures (sum_none (sizes_by c.args.self) (the_field c.args.self.tables) c.loop-j.j _ c.loop-j.sum _ c.loop-j-test.true c.in_err-size.ensures c.loop-j.invariant.2)

pub returns-then-size-sum : goal.returns-then-size-sum
returns-then-size-sum c =
    let s = sizes_by c.args.self in
    let f = the_field c.args.self.tables in
    sum_big s f (c.loop-j.j + 1) _ (c.loop-j.sum + c.in_ok-size.size) _ (omega arith) (sum_more s f c.loop-j.j _ c.loop-j.sum c.in_ok-size.size _ c.loop-j-test.true c.in_ok-size.ensures c.loop-j.invariant.2)

pub loop-j-preserved : goal.loop-j-preserved
loop-j-preserved c =
    let s = sizes_by c.args.self in
    let f = the_field c.args.self.tables in
    (omega arith, c.loop-j.invariant.1, sum_more s f c.loop-j.j _ c.loop-j.sum c.in_ok-size.size _ c.loop-j-test.true c.in_ok-size.ensures c.loop-j.invariant.2)
