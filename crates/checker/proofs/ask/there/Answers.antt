use Rattle.std.proofs.Common.{[], sym, ◌∙◌}
use Rattle.lexer.specs.Spelling.{spelling}
use Rattle.checker.specs.Stands.{lent}
use Rattle.checker.proofs.Decoded.{there_gone, there_yes, sought_low}
use Rattle.checker.specs.declared.state.Rule.TheVariants.{NotThere}
use Rattle.checker.proofs.ask.there.Goals as goal

pub returns-then-is_gone-clause-is : goal.returns-then-is_gone-clause-is
returns-then-is_gone-clause-is c = λ d s st.
    let h = c.seek.ensures c.args.source.now.code.now c.args.words.now.loans.now c.args.at.now.loans in
    let g = rw c.in_ok-place.ensures.ok_part at h in
    there_gone d (lent c.args.source.now c.args.words.now) c.args.at.now s st (spelling c.args.source.now.text.now c.args.name) c.in_ok-place.place.0 NotThere g (sym c.if-is_gone.true ∙ c.is_gone.ensures)

pub returns-clause-is : goal.returns-clause-is
returns-clause-is c = λ d s st.
    let h = c.seek.ensures c.args.source.now.code.now c.args.words.now.loans.now c.args.at.now.loans in
    let g = rw c.in_ok-place.ensures.ok_part at h in
    there_yes d (lent c.args.source.now c.args.words.now) c.args.at.now s st (spelling c.args.source.now.text.now c.args.name) c.in_ok-place.place.0 NotThere g (sym c.if-is_gone.false ∙ c.is_gone.ensures)

pub returns-clause-within : goal.returns-clause-within
returns-clause-within c =
    let h = c.seek.ensures [] [] 0 in
    let g = rw c.in_ok-place.ensures.ok_part at h in
    sought_low c.args.source.now.text.now [] c.args.words.now.names.now c.args.at.now.names (spelling c.args.source.now.text.now c.args.name) c.in_ok-place.place.0 _ g
