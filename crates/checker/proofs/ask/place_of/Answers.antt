use Rattle.std.proofs.Common.{◌≡◌, ℕ, List, [], Some, None, Option, Result, MatchOption, ok_or, sym, subst}
use mathlib.Core.Option as maths_option
use Rattle.language.specs.Base.{Lexeme}
use Rattle.lexer.specs.Spelling.{spelling}
use Rattle.scope.specs.declared.log.Place.{Place}
use Rattle.scope.specs.Slots.{Found, Sought}
use Rattle.checker.specs.Held.{Low}
use Rattle.checker.specs.declared.state.Rule.{Rule}
use Rattle.checker.proofs.Decoded.{sought_low}
use Rattle.checker.proofs.ask.place_of.Goals as goal

low : (text ns : List ℕ) (h : ℕ) (x : Lexeme) (o : Option Place) (z : maths_option.Option Found) (e : Rule) (r : Result Place Rule) → r ≡ ok_or o e → MatchOption o (z ≡ maths_option.none) (λ p. Sought text [] ns h x p.0 z) → Low h r
low text ns h x None z e r q m = subst (Low h) (sym q) tt
low text ns h x (Some p) z e r q m = subst (Low h) (sym q) (sought_low text [] ns h x p.0 z m)

pub returns-clause-within : goal.returns-clause-within
returns-clause-within c = low c.args.source.now.text.now c.args.words.now.names.now c.args.at.now.names (spelling c.args.source.now.text.now c.args.name) c.seek.result _ _ c.ok_or.result c.ok_or.ensures.value (c.seek.ensures [] [] 0)
