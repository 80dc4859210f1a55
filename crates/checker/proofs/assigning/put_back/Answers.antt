use Rattle.std.proofs.Common.{ℕ, false, [], ◌∷◌, length, sym, subst}
use mathlib.Core.Option.{some}
use Rattle.language.specs.Syntax.{int}
use Rattle.lexer.specs.Spelling.{spelling}
use Rattle.scope.specs.Log.{gone_at}
use Rattle.checker.specs.Marks.{st as state, rest, scope}
use Rattle.checker.specs.Machine.{free2}
use Rattle.checker.specs.Stands.{lent, Stands}
use Rattle.checker.proofs.Outcomes.{only_left}
use Rattle.checker.proofs.assigning.put_back.Goals as goal

pub returns : goal.returns
returns c = λ d s f l st. only_left d (lent c.args.source.now c.set_gone.new.words) c.set_gone.new.at (free2 [] (scope s) (spelling c.args.source.now.text.now c.args.name)) (some (rest s.names (gone_at (length f.older) false ∷ s.log) s.frames)) (c.in_ok-free_by_names.ensures d s st)
    (subst (λ (k : ℕ). Stands d (lent c.args.source.now c.set_gone.new.words) c.set_gone.new.at (state int [] s.names (gone_at k false ∷ s.log) s.frames)) (sym l) (c.set_gone.ensures.stands d c.args.source.now.text.now c.args.source.now.code.now _ (c.set_value.ensures.stands d (lent c.args.source.now c.args.words.now) s int (c.int.ensures.is _ _) st)))
