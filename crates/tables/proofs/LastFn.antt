-- A last function has one parameter.
use Rattle.std.proofs.Common.{◌≡◌, ℕ, zero, suc, false, refl}
use Rattle.language.specs.Base.{Lexeme}
use Rattle.language.specs.Syntax.{Ty, Param}
use Rattle.language.specs.Checks.{types_of_pars, is_last}
use Rattle.tables.specs.Index.{each_from}

pub last_not : (f : ℕ → Param) (d : Lexeme) (r : Ty) (i n : ℕ) → (n ≡ 1 → ⊥) → is_last d (types_of_pars (each_from f i n)) r ≡ false
last_not f d r i zero h = refl
last_not f d r i (suc zero) h = absurd (h refl)
last_not f d r i (suc (suc n)) h = refl
