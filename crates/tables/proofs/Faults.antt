-- An error that is handed on.
use Rattle.std.proofs.Common.{◌≡◌, refl}
use Rattle.std.specs.Prelude.{Ok, Err, Result, IsErr}
use Rattle.tables.proofs.SizeFuel.{is_T}

pub failed : {T E : Type 0} (r : Result T E) → IsErr r → (e : E) × (r ≡ Err e)
failed (Ok x) h = absurd (is_T h)
failed (Err e) h = (e, refl)
