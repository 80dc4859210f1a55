use Rattle.std.proofs.Common.{sym, refl, ap, ◌∙◌, subst}
use Rattle.language.specs.Syntax.{Ty}
use Rattle.lexer.specs.Spelling.{spelling}
use Rattle.types.specs.Types.{type_of}
use Rattle.checker.specs.Marks.{scope, live}
use Rattle.checker.specs.Machine.{shared2, there2}
use Rattle.checker.specs.Stands.{lent, Steps}
use Rattle.checker.proofs.Outcomes.{on_there}
use Rattle.checker.proofs.value.share.Goals as goal

pub returns-in-Int : goal.returns-in-Int
returns-in-Int c = λ d p s st. on_there d (lent c.args.source.now c.share_of.new.words) c.share_of.new.at c.args.source.now.text.now c.args.source.now.code.now c.args.words.now.names.now c.args.at.now.names (spelling c.args.source.now.text.now c.args.name) (there2 (scope s) (live s) (spelling c.args.source.now.text.now c.args.name)) c.in_ok-place.place (λ f. shared2 s f f.slot.ty) c.share_of.result (c.in_ok-place.ensures.is d s st) (λ f a. subst (λ (u : Ty). Steps d (lent c.args.source.now c.share_of.new.words) c.share_of.new.at (shared2 s f u) c.share_of.result) (sym (a.1 ∙ sym (ap (type_of c.args.source.now.text.now c.args.source.now.code.now) c.type_at-ty.ensures) ∙ sym (c.in-Int.ensures.layer c.args.source.now.text.now))) (c.share_of.ensures d s f _ a.0 c.in-Int.ensures.bare (sym (c.in-Int.ensures.layer c.args.source.now.text.now)) st))

pub returns-in-Data : goal.returns-in-Data
returns-in-Data c = λ d p s st. on_there d (lent c.args.source.now c.share_of-in-Data.new.words) c.share_of-in-Data.new.at c.args.source.now.text.now c.args.source.now.code.now c.args.words.now.names.now c.args.at.now.names (spelling c.args.source.now.text.now c.args.name) (there2 (scope s) (live s) (spelling c.args.source.now.text.now c.args.name)) c.in_ok-place.place (λ f. shared2 s f f.slot.ty) c.share_of-in-Data.result (c.in_ok-place.ensures.is d s st) (λ f a. subst (λ (u : Ty). Steps d (lent c.args.source.now c.share_of-in-Data.new.words) c.share_of-in-Data.new.at (shared2 s f u) c.share_of-in-Data.result) (sym (a.1 ∙ sym (ap (type_of c.args.source.now.text.now c.args.source.now.code.now) c.type_at-ty.ensures) ∙ sym (c.in-Data.ensures.layer c.args.source.now.text.now))) (c.share_of-in-Data.ensures d s f _ a.0 c.in-Data.ensures.bare (sym (c.in-Data.ensures.layer c.args.source.now.text.now)) st))

pub returns-in-Box : goal.returns-in-Box
returns-in-Box c = λ d p s st. on_there d (lent c.args.source.now c.share_of-in-Box.new.words) c.share_of-in-Box.new.at c.args.source.now.text.now c.args.source.now.code.now c.args.words.now.names.now c.args.at.now.names (spelling c.args.source.now.text.now c.args.name) (there2 (scope s) (live s) (spelling c.args.source.now.text.now c.args.name)) c.in_ok-place.place (λ f. shared2 s f f.slot.ty) c.share_of-in-Box.result (c.in_ok-place.ensures.is d s st) (λ f a. subst (λ (u : Ty). Steps d (lent c.args.source.now c.share_of-in-Box.new.words) c.share_of-in-Box.new.at (shared2 s f u) c.share_of-in-Box.result) (sym (a.1 ∙ sym (ap (type_of c.args.source.now.text.now c.args.source.now.code.now) c.type_at-ty.ensures) ∙ sym (c.in-Box.ensures.layer c.args.source.now.text.now))) (c.share_of-in-Box.ensures d s f _ a.0 c.in-Box.ensures.bare (sym (c.in-Box.ensures.layer c.args.source.now.text.now)) st))

pub returns-in-Mut : goal.returns-in-Mut
returns-in-Mut c = λ d p s st. on_there d (lent c.args.source.now c.share_of-in-Mut.new.words) c.share_of-in-Mut.new.at c.args.source.now.text.now c.args.source.now.code.now c.args.words.now.names.now c.args.at.now.names (spelling c.args.source.now.text.now c.args.name) (there2 (scope s) (live s) (spelling c.args.source.now.text.now c.args.name)) c.in_ok-place.place (λ f. shared2 s f f.slot.ty) c.share_of-in-Mut.result (c.in_ok-place.ensures.is d s st) (λ f a. subst (λ (u : Ty). Steps d (lent c.args.source.now c.share_of-in-Mut.new.words) c.share_of-in-Mut.new.at (shared2 s f u) c.share_of-in-Mut.result) (sym (a.1 ∙ sym (ap (type_of c.args.source.now.text.now c.args.source.now.code.now) c.type_at-ty.ensures) ∙ sym (c.in-Mut.ensures.layer c.args.source.now.text.now))) (c.share_of-in-Mut.ensures d s f _ a.0 c.in-Mut.ensures.inner.0 refl st))
