use Rattle.std.proofs.Common.{◌≡◌, ◌*◌, eqb, length, get_or, ap, ◌∙◌, arith}
use Rattle.scope.specs.Log.{behind, ways, find, lives, bit_of}
use Rattle.scope.proofs.LogWords.{part_same}
use Rattle.scope.proofs.JoinWords.{join_turn, put_again, bit_is}
use Rattle.scope.proofs.log.join.Goals as goal

pub loop-i-preserved : goal.loop-i-preserved
loop-i-preserved c =
    let l : length c.loop-i.log ≡ length c.args.log.now = c.loop-i.auto.log in
    let k = c.load.result.place.0 in
    let at : k ≡ get_or c.loop-i.log (2 * c.loop-i.i) 0 = ap (λ m. m.place.0) c.load.ensures in
    let is : eqb (bit_of c.gone_behind-gone.result) 1 ≡ behind (ways c.loop-i.log c.args.from c.args.ends.now) k (find (lives c.loop-i.log c.args.gaps.now c.args.count c.args.from) k) = bit_is c.gone_behind-gone.result ∙ c.gone_behind-gone.ensures ∙ ap (behind (ways c.loop-i.log c.args.from c.args.ends.now) k) c.is_gone-was.ensures in
    join_turn c.loop-i.log c.args.log.now c.args.gaps.now c.args.ends.now c.args.from c.args.count c.loop-i.i _ (omega arith) c.loop-i.auto.i c.loop-i.invariant.0 c.loop-i.invariant.1 c.loop-i.invariant.2
    (is ∙ ap (λ k. behind (ways c.loop-i.log c.args.from c.args.ends.now) k (find (lives c.loop-i.log c.args.gaps.now c.args.count c.args.from) k)) at)
    c.store.new.words (put_again c.loop-i.log c.store.new.words c.loop-i.i k _ at c.store.ensures.value) c.loop-i.invariant.3

pub returns-clause-kept : goal.returns-clause-kept
returns-clause-kept c = part_same c.loop-i.log c.args.log.now 0 c.args.from (2 * c.args.from) (omega arith) c.loop-i.invariant.0
