use Rattle.std.proofs.Common.{◌&&◌, [], Ok, sym, ap, ◌∙◌}
use mathlib.Core.Option.{some}
use Rattle.language.specs.Base.{only_if}
use Rattle.language.specs.Syntax.{int}
use Rattle.language.specs.Checks.{loadable}
use Rattle.lexer.specs.Spelling.{spelling}
use Rattle.types.specs.Types.{type_of}
use Rattle.checker.specs.Marks.{scope, held2, live}
use Rattle.checker.specs.Machine.{val, there2, readable2}
use Rattle.checker.specs.Stands.{lent}
use Rattle.checker.proofs.Outcomes.{only_left, on_there, steps_and}
use Rattle.checker.proofs.value.load.Goals as goal

pub returns : goal.returns
returns c = λ d p s st. on_there d (lent c.args.source.now c.args.words.now) c.set_value.new.at c.args.source.now.text.now c.args.source.now.code.now c.args.words.now.names.now c.args.at.now.names (spelling c.args.source.now.text.now c.args.name) (there2 (scope s) (live s) (spelling c.args.source.now.text.now c.args.name)) c.in_ok-place.place (λ f. only_if (loadable f.slot.ty && readable2 (held2 s.frames) (scope s) (spelling c.args.source.now.text.now c.args.name)) (some (val s int []))) (Ok tt) (c.in_ok-place.ensures.is d s st) (λ f a. steps_and d (lent c.args.source.now c.args.words.now) c.set_value.new.at (loadable f.slot.ty) (readable2 (held2 s.frames) (scope s) (spelling c.args.source.now.text.now c.args.name)) (some (val s int [])) (Ok tt) (ap loadable (a.1 ∙ sym (ap (type_of c.args.source.now.text.now c.args.source.now.code.now) c.type_at-ty.ensures)) ∙ sym (c.is_loadable.ensures c.args.source.now.text.now) ∙ c.if-not-is_loadable.false) (only_left d (lent c.args.source.now c.args.words.now) c.set_value.new.at (readable2 (held2 s.frames) (scope s) (spelling c.args.source.now.text.now c.args.name)) (some (val s int [])) (c.in_ok-readable.ensures d s st) (c.set_value.ensures.stands d (lent c.args.source.now c.args.words.now) s int (c.int.ensures.is _ _) st)))
