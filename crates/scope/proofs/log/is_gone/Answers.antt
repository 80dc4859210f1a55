use Rattle.std.proofs.Common.{◌-◌, false, ap, ◌∙◌, arith}
use Rattle.scope.specs.Log.{find, lives, or_else}
use Rattle.scope.proofs.LogWords.{lives_step, lives_bottom, or_some, or_none}
use Rattle.scope.proofs.JoinWords.{value_or}
use Rattle.scope.proofs.log.is_gone.Goals as goal

pub returns-in-Some : goal.returns-in-Some
returns-in-Some c = or_some _ _ _ _ c.in-Some.ensures (lives_step c.args.log.now c.args.gaps.now c.loop-g.g c.loop-g.t c.args.place.0 _ c.loop-g-test.true c.loop-g.invariant.1)

pub loop-g-preserved : goal.loop-g-preserved
loop-g-preserved c = (omega arith, ap (λ t. find (lives c.args.log.now c.args.gaps.now (c.loop-g.g - 1) t) c.args.place.0) c.min-t.ensures ∙ or_none _ _ _ c.in_default.ensures (lives_step c.args.log.now c.args.gaps.now c.loop-g.g c.loop-g.t c.args.place.0 _ c.loop-g-test.true c.loop-g.invariant.1))

pub returns : goal.returns
returns c = c.unwrap_or.ensures ∙ value_or c.said-2.result false ∙ ap (λ o. or_else o false) c.said-2.ensures ∙ lives_bottom c.args.log.now c.args.gaps.now c.loop-g.g c.loop-g.t c.args.place.0 _ (omega arith) c.loop-g.invariant.1
