-- One layer of a type after the other.
use Rattle.std.proofs.Common.{◌≡◌, ℕ, zero, suc, ◌-◌, ◌<◌, true, T, List, Option, sym, refl, subst, arith, sub-one}
use Rattle.language.specs.Checks.{owned}
use Rattle.types.specs.declared.ty.Outer.{Outer}
use Rattle.types.specs.declared.ty.Outer.TheVariants.{Plain, Ref, Mut}
use Rattle.types.specs.declared.ty.ValueType.{ValueType}
use Rattle.types.specs.declared.role.Role.{Role}
use Rattle.types.specs.Types.{role_at, after, written, boxes, base_of, within, type_of}

pub written_step : (text code : List ℕ) (k : ℕ) (o : Option Role) → 0 < k → o ≡ role_at code (k - 1) → written text code k ≡ after text o (written text code (k - 1))
written_step text code zero o h e = absurd (omega arith)
written_step text code (suc k) o h e = rw (e, sub-one)

-- what's owned is plain
pub owned_plain : (text code : List ℕ) (t : ValueType) → owned (type_of text code t) ≡ true → t.outer ≡ Plain
owned_plain text code t h = go t.outer h
  where
    go : (o : Outer) → owned (within o (boxes t.boxes (base_of text code t.base))) ≡ true → o ≡ Plain
    go Plain h = refl
    go Ref h = absurd (subst T (sym h) tt)
    go Mut h = absurd (subst T (sym h) tt)
