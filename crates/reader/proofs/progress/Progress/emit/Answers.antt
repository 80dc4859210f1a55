use Rattle.std.proofs.Common.{◌+◌, refl, ap, ◌∙◌, arith}
use Rattle.code.specs.Words.{code_in}
use Rattle.code.proofs.Filled.{code_put, filled_put}
use Rattle.reader.proofs.OnStack.{stack_behind}
use Rattle.reader.proofs.progress.Progress.emit.Goals as goal

pub returns : goal.returns
returns c =
    let words = c.args.words.now in
    let at = c.args.self.now in
    let i = c.args.instr in
    let e = c.encode.ensures.value in
    record {
      base = refl;
      height = omega arith;
      made = refl;
      stack = stack_behind words c.encode.new.words at.base at.height (λ j low. c.encode.ensures.kept.1 j (omega arith));
      code = λ text. ap (λ ws. code_in text ws (at.made + 1)) e ∙ code_put text words at.made i (omega arith);
      filled = λ full. rw e (filled_put words at.made i (omega arith) full);
    }
