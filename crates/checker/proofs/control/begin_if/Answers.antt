use Rattle.std.proofs.Common.{[], ◌∷◌, sym, refl, ap, ◌∙◌}
use mathlib.Core.Option.{some}
use Rattle.language.specs.Syntax.{int}
use Rattle.language.specs.Checks.{same_ty}
use Rattle.checker.specs.Marks.{k_then, rest}
use Rattle.checker.specs.Stands.{lent, is_then}
use Rattle.checker.proofs.Outcomes.{only_left}
use Rattle.checker.proofs.Beginning.{names_high, log_high}
use Rattle.checker.proofs.control.begin_if.Goals as goal

pub returns : goal.returns
returns c = λ d p s st. only_left d (lent c.args.source.now c.begin.new.words) c.begin.new.at (same_ty s.ty int) (some (rest [] [] (k_then s.names s.log ∷ s.frames))) (sym (ap (λ t. same_ty t int) st.ty) ∙ sym (c.is_int.ensures c.args.source.now.text.now) ∙ c.if-not-is_int.false) (c.begin.ensures d c.args.source.now.text.now c.args.source.now.code.now s (k_then s.names s.log) st (is_then (names_high d (lent c.args.source.now c.args.words.now) c.args.at.now s st) (log_high d (lent c.args.source.now c.args.words.now) c.args.at.now s st)) refl refl refl st.gaps)
