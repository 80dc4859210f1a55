use Rattle.std.proofs.Common.{ℕ, false, [], ◌∷◌, subst}
use Rattle.language.specs.Syntax.{int}
use Rattle.lexer.specs.Spelling.{spelling}
use Rattle.scope.specs.Log.{gone_at}
use Rattle.scope.specs.Slots.{slot_of}
use Rattle.checker.specs.Marks.{st as state}
use Rattle.checker.specs.Stands.{Stands, lent_in}
use Rattle.checker.proofs.Beginning.{names_high}
use Rattle.checker.proofs.enter.enter.Goals as goal

pub returns : goal.returns
returns c = λ d text code s st. subst (λ (k : ℕ). Stands d (lent_in text code c.set_gone.new.words) c.set_gone.new.at (state int [] (slot_of (spelling text c.args.name) s.ty s.ents ∷ s.names) (gone_at k false ∷ s.log) s.frames)) (names_high d (lent_in text code c.args.words.now) c.args.at.now s st) (c.set_gone.ensures.stands d text code _ (c.add_name.ensures.stands d text code s st))
