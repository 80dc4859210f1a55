use Rattle.std.proofs.Common.{◌≡◌, ℕ, ◌+◌, ◌<◌, List, length, get_or, set, sym, ap, ◌∙◌, subst, arith, length-append}
use Rattle.memory.specs.Row.{heap_words, stack_words, row, Moved}
use Rattle.memory.proofs.Steps.{moved_more}
use Rattle.memory.proofs.row.move_words.Goals as goal

pub loop-i-preserved : goal.loop-i-preserved
loop-i-preserved g c =
    let e = c.loop-i.invariant.0 in
    let f = c.write.ensures.same in
    let a : ℕ = g.S.Source.from c.args.s.now (heap_words c.args.m.now) in
    let b : ℕ = g.T.Sink.to c.args.t.now (heap_words c.args.m.now) in
    let lt : c.loop-i.i < c.args.n.0 = omega arith in
    let w = g.met.T.Sink.within c.args.t.now (heap_words c.args.m.now) (stack_words c.args.m.now) c.args.n.0 c.requires.holds in
    let l : length (row c.loop-i.m) ≡ heap_words c.args.m.now + stack_words c.args.m.now = length-append _ _ ∙ (ap (λ x. x + stack_words c.loop-i.m) e.heap ∙ ap (λ x. heap_words c.args.m.now + x) e.stack) in
    let inb : b + c.loop-i.i < length (row c.loop-i.m) = subst (λ (x : ℕ). b + c.loop-i.i < x) (sym l) (omega arith) in
    let s = moved_more (row c.args.m.now) (row c.loop-i.m) a b c.args.n.0 c.loop-i.i lt inb c.requires.apart c.loop-i.invariant.1 in
    let rv : c.read-v.result ≡ get_or (row c.loop-i.m) (a + c.loop-i.i) 0 = c.read-v.ensures ∙ ap (λ x. get_or (row c.loop-i.m) (g.S.Source.from c.args.s.now x + c.loop-i.i) 0) e.heap in
    let q : row c.write.new.m ≡ set (row c.loop-i.m) (b + c.loop-i.i) (get_or (row c.loop-i.m) (a + c.loop-i.i) 0) = c.write.ensures.put ∙ (ap (λ x. set (row c.loop-i.m) (g.T.Sink.to c.args.t.now x + c.loop-i.i) c.read-v.result) e.heap ∙ ap (λ v. set (row c.loop-i.m) (b + c.loop-i.i) v) rv) in (
      record { heap = f.heap ∙ e.heap; stack = f.stack ∙ e.stack; heads = f.heads ∙ e.heads; top = f.top ∙ e.top },
      subst (λ (x : List ℕ). Moved (row c.args.m.now) x a b (c.loop-i.i + 1)) (sym q) s,
    )
