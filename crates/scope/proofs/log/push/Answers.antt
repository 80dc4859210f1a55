use Rattle.scope.proofs.LogWords.{part_push}
use Rattle.scope.proofs.log.push.Goals as goal

pub returns-clause-newest : goal.returns-clause-newest
returns-clause-newest c = part_push c.args.log.now c.store.new.words c.args.top _ c.store.ensures.this c.store.ensures.others
