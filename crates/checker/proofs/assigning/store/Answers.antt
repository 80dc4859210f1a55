use Rattle.std.proofs.Common.{sym, refl, ap, ◌∙◌, subst}
use Rattle.language.specs.Syntax.{Ty}
use Rattle.lexer.specs.Spelling.{spelling}
use Rattle.types.specs.Types.{type_of}
use Rattle.checker.specs.Marks.{scope, live}
use Rattle.checker.specs.Machine.{stores2, there2}
use Rattle.checker.specs.Stands.{lent, Steps}
use Rattle.checker.proofs.Outcomes.{on_there}
use Rattle.checker.proofs.assigning.store.Goals as goal

pub returns-in-Mut : goal.returns-in-Mut
returns-in-Mut c = λ d p s st. on_there d (lent c.args.source.now c.args.words.now) c.store_in.new.at c.args.source.now.text.now c.args.source.now.code.now c.args.words.now.names.now c.args.at.now.names (spelling c.args.source.now.text.now c.args.name) (there2 (scope s) (live s) (spelling c.args.source.now.text.now c.args.name)) c.in_ok-place.place (λ f. stores2 s (spelling c.args.source.now.text.now c.args.name) f.slot.ty) c.store_in.result (c.in_ok-place.ensures.is d s st) (λ f a. subst (λ (u : Ty). Steps d (lent c.args.source.now c.args.words.now) c.store_in.new.at (stores2 s (spelling c.args.source.now.text.now c.args.name) u) c.store_in.result) (sym ((a.1 ∙ sym (ap (type_of c.args.source.now.text.now c.args.source.now.code.now) c.type_at-ty.ensures)) ∙ sym (c.in-Mut.ensures.layer c.args.source.now.text.now))) (c.store_in.ensures d s _ refl st))
