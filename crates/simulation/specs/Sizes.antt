-- What is asked of the sizes of types.
use Rattle.std.specs.Prelude.{◌≡◌, List, [], ◌∷◌, ℕ, ◌+◌, ◌≤◌}
use Rattle.std.proofs.Math.Option.{some}
use Rattle.language.specs.Base.{Lexeme}
use Rattle.language.specs.Syntax.{Ty, int, dat, box, ref, mut}
use Rattle.simulation.specs.Machine.{Kit, Info}

abbrev pub total : Kit → List Ty → ℕ
total K [] = 0
total K (t ∷ ts) = K.size t + total K ts

pub record Fits (K : Kit) : Type 0 where
  pub some_word : (t : Ty) → 1 ≤ K.size t
  pub inside : (k : Lexeme) (i : Info) → K.info k ≡ some i → 1 + total K i.fields ≤ K.size (dat i.home)
  pub one_int : K.size int ≡ 1
  pub one_box : (t : Ty) → K.size (box t) ≡ 1
  pub one_ref : (t : Ty) → K.size (ref t) ≡ 1
  pub one_mut : (t : Ty) → K.size (mut t) ≡ 1
