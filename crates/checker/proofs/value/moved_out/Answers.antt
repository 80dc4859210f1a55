use Rattle.std.proofs.Common.{ℕ, true, [], ◌∷◌, sym, ap, ◌∙◌, subst}
use mathlib.Core.Option.{some}
use Rattle.scope.specs.Log.{gone_at}
use Rattle.checker.specs.Marks.{st as state, scope, held2}
use Rattle.checker.specs.Machine.{moved, free2}
use Rattle.checker.specs.Stands.{Stands, lent}
use Rattle.checker.proofs.Outcomes.{only_left}
use Rattle.checker.proofs.value.moved_out.Goals as goal

pub returns : goal.returns
returns c = λ d s f t e l q st. only_left d (lent c.args.source.now c.set_gone.new.words) c.set_gone.new.at (free2 (held2 s.frames) (scope s) f.slot.name) (some (moved s f t)) (ap (free2 (held2 s.frames) (scope s)) e ∙ c.in_ok-free.ensures d s st)
    (subst (λ (k : ℕ). Stands d (lent c.args.source.now c.set_gone.new.words) c.set_gone.new.at (state t [] s.names (gone_at k true ∷ s.log) s.frames)) (sym l) (c.set_gone.ensures.stands d c.args.source.now.text.now c.args.source.now.code.now _ (c.set_value.ensures.stands d (lent c.args.source.now c.args.words.now) s t q st)))
