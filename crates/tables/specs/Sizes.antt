-- Sizes of data from a table, with no fuel: a table that one more round leaves as it is.
use Rattle.std.specs.Prelude.{◌≡◌, ℕ, ◌+◌, List, [], ◌∷◌, nat_le, nat_lt}
use Rattle.std.proofs.Math.Option.{Option, some}
use Rattle.language.specs.Base.{choose, if_some, only_if, Lexeme}
use Rattle.language.specs.Syntax.{Ty, int, dat, box, ref, mut, Ctor, Data}
use Rattle.language.specs.Checks.{data_named, size_of}

-- the sizes of data, by name, as far as they are known
abbrev pub Sizes : Type 0
Sizes = Lexeme → Option ℕ

abbrev pub size_by : Sizes → Ty → Option ℕ
size_by s int = some 1
size_by s (dat w) = s w
size_by s (box t) = some 1
size_by s (ref t) = some 1
size_by s (mut t) = some 1

abbrev pub fields_by : Sizes → List Ty → Option ℕ
fields_by s [] = some 0
fields_by s (t ∷ ts) = if_some (size_by s t) (λ a. if_some (fields_by s ts) (λ b. some (a + b)))

abbrev pub ctors_by : Sizes → List Ctor → Option ℕ
ctors_by s [] = some 0
ctors_by s (k ∷ ks) = if_some (fields_by s k.fields) (λ a. if_some (ctors_by s ks) (λ b. some (choose (nat_lt a b) b a)))

-- none is larger than that
abbrev pub cap : ℕ → Option ℕ
cap n = only_if (nat_le n 4096) (some n)

abbrev pub data_by : Sizes → Data → Option ℕ
data_by s d = if_some (ctors_by s d.ctors) (λ m. cap (1 + m))

-- a round: each size from those that are known
abbrev pub round : List Data → Sizes → Sizes
round ds s w = if_some (data_named ds w) (λ d. data_by s d)

abbrev pub Fixed : List Data → Sizes → Type 0
Fixed ds s = (w : Lexeme) → s w ≡ round ds s w

-- a table that a round leaves as it is has the sizes of the definition, as far as they are not too large
abbrev pub SizesRight : Type 0
SizesRight = (ds : List Data) (s : Sizes) → Fixed ds s → (t : Ty) → size_by s t ≡ if_some (size_of ds t) cap
