use Rattle.std.proofs.Common.{◌≡◌, length, get_or, ap, ◌∙◌, arith}
use Rattle.checker.proofs.FrameBack.{frame_this, frame_other, length_numbers}
use Rattle.checker.proofs.frames.FrameRecord.store.Goals as goal

pub returns-clause-this : goal.returns-clause-this
returns-clause-this c = let w = c.write.ensures in let e : length c.numbers-values.result ≡ 10 = ap length c.numbers-values.ensures ∙ length_numbers c.args.self in frame_this c.write.new.words c.args.number c.args.self (λ j h. w.here j (omega arith) ∙ ap (λ l. get_or l j 0) c.numbers-values.ensures)

pub returns-clause-others : goal.returns-clause-others
returns-clause-others c = let w = c.write.ensures in let e : length c.numbers-values.result ≡ 10 = ap length c.numbers-values.ensures ∙ length_numbers c.args.self in λ k ne. frame_other _ _ k c.args.number ne w.below (λ j h. w.above j (omega arith))
