-- Sizes in words: 1 for int, boxes and references; for data 1 and the largest of its constructors' fields together.
use Rattle.std.specs.Prelude.{List, [], ◌∷◌, ℕ, zero, suc, ◌+◌, ◌*◌, length, ltb}
use Rattle.std.proofs.Math.Option.{Option, some, none}
use Rattle.language.specs.Base.{choose, if_some}
use Rattle.language.specs.Syntax.{Ty, int, dat, box, ref, mut, Ctor, Data}
use Rattle.language.specs.Checks.Types.{data_named}

-- none where the fuel n doesn't suffice; with `deep` that is where data is part of itself but through a box
abbrev mutual
  pub size : ℕ → List Data → Ty → Option ℕ
  size zero ds t = none
  size (suc n) ds int = some 1
  size (suc n) ds (dat d) = if_some (data_named ds d) (λ k. if_some (size_ctors n ds k.ctors) (λ m. some (1 + m)))
  size (suc n) ds (box t) = some 1
  size (suc n) ds (ref t) = some 1
  size (suc n) ds (mut t) = some 1

  -- the largest
  pub size_ctors : ℕ → List Data → List Ctor → Option ℕ
  size_ctors zero ds ks = none
  size_ctors (suc n) ds [] = some 0
  size_ctors (suc n) ds (k ∷ ks) =
      if_some (size_fields n ds k.fields) (λ a. if_some (size_ctors n ds ks) (λ b. some (choose (ltb a b) b a)))

  -- all together
  pub size_fields : ℕ → List Data → List Ty → Option ℕ
  size_fields zero ds ts = none
  size_fields (suc n) ds [] = some 0
  size_fields (suc n) ds (t ∷ ts) = if_some (size n ds t) (λ a. if_some (size_fields n ds ts) (λ b. some (a + b)))

abbrev pub many_fields : List Ctor → ℕ
many_fields [] = 0
many_fields (k ∷ ks) = (2 + length k.fields) + many_fields ks

abbrev pub many_ctors : List Data → ℕ
many_ctors [] = 0
many_ctors (d ∷ ds) = (2 + length d.ctors) + (many_fields d.ctors + many_ctors ds)

-- deeper than any way through data that doesn't come back
abbrev pub deep : List Data → ℕ
deep ds = 4 + 4 * many_ctors ds

abbrev pub size_of : List Data → Ty → Option ℕ
size_of ds t = size (deep ds) ds t
