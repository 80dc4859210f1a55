use Rattle.std.proofs.Common.{sym, ap, ◌∙◌, subst}
use Rattle.language.specs.Syntax.{Ty}
use Rattle.lexer.specs.Spelling.{spelling}
use Rattle.types.specs.Types.{type_of}
use Rattle.checker.specs.Marks.{scope, live}
use Rattle.checker.specs.Machine.{value2, there2}
use Rattle.checker.specs.Stands.{lent, Steps}
use Rattle.checker.proofs.Outcomes.{on_there}
use Rattle.checker.proofs.value.use_name.Goals as goal

pub returns-in-Int : goal.returns-in-Int
returns-in-Int c = λ d p s st. on_there d (lent c.args.source.now c.args.words.now) c.copied.new.at c.args.source.now.text.now c.args.source.now.code.now c.args.words.now.names.now c.args.at.now.names (spelling c.args.source.now.text.now c.args.name) (there2 (scope s) (live s) (spelling c.args.source.now.text.now c.args.name)) c.in_ok-place.place (λ f. value2 s f f.slot.ty) c.copied.result (c.in_ok-place.ensures.is d s st) (λ f a. subst (λ (u : Ty). Steps d (lent c.args.source.now c.args.words.now) c.copied.new.at (value2 s f u) c.copied.result) (sym (a.1 ∙ sym (ap (type_of c.args.source.now.text.now c.args.source.now.code.now) c.type_at-ty.ensures) ∙ sym (c.in-Int.ensures.layer c.args.source.now.text.now))) (c.copied.ensures d s f a.0 st))

pub returns-in-Mut : goal.returns-in-Mut
returns-in-Mut c = λ d p s st. on_there d (lent c.args.source.now c.lent_on.new.words) c.lent_on.new.at c.args.source.now.text.now c.args.source.now.code.now c.args.words.now.names.now c.args.at.now.names (spelling c.args.source.now.text.now c.args.name) (there2 (scope s) (live s) (spelling c.args.source.now.text.now c.args.name)) c.in_ok-place.place (λ f. value2 s f f.slot.ty) c.lent_on.result (c.in_ok-place.ensures.is d s st) (λ f a. subst (λ (u : Ty). Steps d (lent c.args.source.now c.lent_on.new.words) c.lent_on.new.at (value2 s f u) c.lent_on.result) (sym (a.1 ∙ sym (ap (type_of c.args.source.now.text.now c.args.source.now.code.now) c.type_at-ty.ensures) ∙ sym (c.in-Mut.ensures.layer c.args.source.now.text.now))) (c.lent_on.ensures d s f _ a.0 (sym (c.in-Mut.ensures.layer c.args.source.now.text.now)) st))
