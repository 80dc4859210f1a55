use Rattle.std.proofs.Common.{[], sym, ap, ◌∙◌}
use mathlib.Core.Option.{some}
use Rattle.language.specs.Syntax.{int}
use Rattle.language.specs.Checks.{same_ty}
use Rattle.checker.specs.Machine.{val}
use Rattle.checker.specs.Stands.{lent}
use Rattle.checker.proofs.Outcomes.{only_left}
use Rattle.checker.proofs.value.use_number.Goals as goal

pub returns : goal.returns
returns c = λ d p s st. only_left d (lent c.args.source.now c.args.words.now) c.set_value.new.at (same_ty s.ty int) (some (val s int [])) (sym (ap (λ t. same_ty t int) st.ty) ∙ sym (c.is_int.ensures c.args.source.now.text.now) ∙ c.if-not-is_int.false) (c.set_value.ensures.stands d (lent c.args.source.now c.args.words.now) s int (c.int.ensures.is _ _) st)
