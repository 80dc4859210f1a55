-- Runs of accepted programs are steady: what the rules promise about references holds along the run.
use Rattle.std.specs.Prelude.{true, List, ◌≡◌, ℕ}
use Rattle.language.specs.Syntax.{Prog}
use Rattle.language.specs.Checks.{accepts}
use Rattle.simulation.specs.Machine.{Kit}
use Rattle.simulation.specs.Says.{SteadyRun}

-- for every fuel, whatever the run is lent and reads
abbrev pub SteadyAccepted : Type 0
SteadyAccepted = (q : Prog) → accepts q ≡ true → (K : Kit) (u : ℕ) (ins : List ℕ) → SteadyRun K q u ins
