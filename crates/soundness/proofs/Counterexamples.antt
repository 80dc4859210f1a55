-- The programs that each rule refuses, checked and run by the definitions.
use mathlib.Core.Path.{refl}
use Rattle.language.specs.Meaning.{eval, then, need, turn, goes_under}
use Rattle.soundness.specs.Counterexamples.{RulesNeeded}

pub rules_needed : RulesNeeded
unfolding eval then need turn goes_under
rules_needed = ((refl, refl), (refl, refl), (refl, refl), (refl, refl), (refl, refl), (refl, refl), (refl, refl))
