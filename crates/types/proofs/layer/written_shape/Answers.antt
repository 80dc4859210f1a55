use Rattle.std.proofs.Common.{sym, ◌∙◌}
use Rattle.types.proofs.Layers.{written_step}
use Rattle.types.proofs.layer.written_shape.Goals as goal

pub returns-in-Some-clause-layer : goal.returns-in-Some-clause-layer
returns-in-Some-clause-layer c = λ text. c.shape.ensures.layer text c.args.code.now ∙ sym (written_step text c.args.code.now c.loop-k.k _ c.loop-k-test.true c.in-Some.ensures) ∙ c.loop-k.invariant text

pub loop-k-preserved : goal.loop-k-preserved
loop-k-preserved c = λ text. sym (written_step text c.args.code.now c.loop-k.k _ c.loop-k-test.true c.in_default.ensures) ∙ c.loop-k.invariant text
