use Rattle.std.proofs.Common.{sym, refl, ap, ◌∙◌, arith}
use Rattle.language.specs.Base.{same}
use Rattle.lexer.specs.Spelling.{spelling}
use Rattle.scope.proofs.SlotWords.{seek_hit, seek_miss, seek_none}
use Rattle.scope.proofs.names.seek.Goals as goal

pub loop-h-init : goal.loop-h-init
loop-h-init c = λ code es top. (top, refl)

pub returns-then-same_name : goal.returns-then-same_name
returns-then-same_name c = λ code es top. seek_hit c.args.text.now code c.args.names.now es c.loop-h.h c.args.height (c.loop-h.invariant code es top).0 (spelling c.args.text.now c.args.name) _ c.loop-h-test.true (omega arith) (sym (c.same_name.ensures ∙ ap (λ v. same (spelling c.args.text.now v.name) (spelling c.args.text.now c.args.name)) c.load.ensures) ∙ c.if-same_name.true) (c.loop-h.invariant code es top).1

pub loop-h-preserved : goal.loop-h-preserved
loop-h-preserved c = (λ code es top. seek_miss c.args.text.now code c.args.names.now es c.loop-h.h (c.loop-h.invariant code es top).0 (spelling c.args.text.now c.args.name) _ c.loop-h-test.true (sym (c.same_name.ensures ∙ ap (λ v. same (spelling c.args.text.now v.name) (spelling c.args.text.now c.args.name)) c.load.ensures) ∙ c.if-same_name.false) (c.loop-h.invariant code es top).1)

pub returns : goal.returns
returns c = λ code es top. seek_none c.args.text.now code c.args.names.now es c.loop-h.h (c.loop-h.invariant code es top).0 (spelling c.args.text.now c.args.name) _ (omega arith) (c.loop-h.invariant code es top).1
