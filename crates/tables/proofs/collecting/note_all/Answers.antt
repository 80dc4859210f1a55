use Rattle.std.proofs.Common.{◌≡◌, ◌∙◌, arith}
use Rattle.tables.proofs.CollectLoop.{noted_slot, ended}
use Rattle.tables.proofs.collecting.note_all.Goals as goal

pub loop-i-preserved : goal.loop-i-preserved
loop-i-preserved c =
    let a = c.note_slot-done.ensures.lengths in
    let b = c.loop-i.invariant.1 in (
      noted_slot c.args.code.now c.args.size c.loop-i.i _ _ _ _ c.requires.code c.loop-i-test.true c.note_slot-done.ensures.noted c.loop-i.invariant.0,
      record { datas = a.datas ∙ b.datas; ctors = a.ctors ∙ b.ctors; fields = a.fields ∙ b.fields; fns = a.fns ∙ b.fns; params = a.params ∙ b.params },
    )

pub returns-clause-collected : goal.returns-clause-collected
returns-clause-collected c =
    let e : c.loop-i.i ≡ c.args.size = omega arith in
    ended c.args.code.now c.args.size c.loop-i.i _ _ e c.loop-i.invariant.0
