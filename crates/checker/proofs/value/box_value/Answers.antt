use Rattle.std.proofs.Common.{◌≡◌, true, [], sym, ap, ◌∙◌}
use mathlib.Core.Option.{some}
use Rattle.language.specs.Syntax.{box}
use Rattle.language.specs.Checks.{owned}
use Rattle.types.specs.Types.{type_of}
use Rattle.checker.specs.Machine.{val}
use Rattle.checker.specs.Stands.{lent}
use Rattle.checker.proofs.Outcomes.{only_left}
use Rattle.checker.proofs.value.box_value.Goals as goal

pub returns : goal.returns
returns c = λ d p s st.
    let own : owned (type_of c.args.source.now.text.now c.args.source.now.code.now c.args.at.now.ty) ≡ true = sym (c.is_owned.ensures c.args.source.now.text.now) ∙ c.if-not-is_owned.false in
    only_left d (lent c.args.source.now c.args.words.now) c.set_value.new.at (owned s.ty) (some (val s (box s.ty) [])) (sym (ap owned st.ty) ∙ own) (c.set_value.ensures.stands d (lent c.args.source.now c.args.words.now) s (box s.ty) (c.boxed-ty.ensures.is c.args.source.now.text.now c.args.source.now.code.now own ∙ ap box st.ty) st)
