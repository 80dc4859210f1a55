-- A machine whose output has room for so many words, against the one without a limit.
use Rattle.std.specs.Prelude.{◌≡◌, List, ◌++◌, ◌⊎◌, ℕ, ◌≤◌, ◌<◌, length}
use Rattle.simulation.specs.Machine.{Kit, Instr, Mach, go, halt, Outcome, step, Runs}

-- room for cap words of output: the run as it is; or it's full, with what was shown up to the first that has no room
pub data Capped (K : Kit) (code : List Instr) (cap : ℕ) : Mach → Outcome → List ℕ → Type 0 where
  c_halts : {M : Mach} {x : Outcome} {os : List ℕ} → step K code M ≡ halt x os → Capped K code cap M x os
  c_goes : {M N : Mach} {x : Outcome} {os : List ℕ} → step K code M ≡ go N → length N.outs ≤ cap → Capped K code cap N x os → Capped K code cap M x os

pub data Full (K : Kit) (code : List Instr) (cap : ℕ) : Mach → List ℕ → Type 0 where
  f_here : {M N : Mach} → step K code M ≡ go N → cap < length N.outs → Full K code cap M N.outs
  f_goes : {M N : Mach} {os : List ℕ} → step K code M ≡ go N → length N.outs ≤ cap → Full K code cap N os → Full K code cap M os

pub record Over (K : Kit) (code : List Instr) (cap : ℕ) (M : Mach) (os : List ℕ) : Type 0 where
  pub shown : List ℕ
  pub rest : List ℕ
  pub full : Full K code cap M shown
  pub more : cap < length shown
  pub front : os ≡ shown ++ rest

-- a run that halts does so with room for its output too, or comes to the first word that has no room, with a front of the whole output
abbrev pub OutputLimited : Type 0
OutputLimited = (K : Kit) (code : List Instr) (cap : ℕ) (M : Mach) (x : Outcome) (os : List ℕ) → Runs K code M x os → Capped K code cap M x os ⊎ Over K code cap M os
