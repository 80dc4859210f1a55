-- What a type is behind, as a number in a word.
use Rattle.std.specs.Prelude.{ℕ, ◌==◌}
use Rattle.language.specs.Base.{choose}
use Rattle.types.specs.declared.ty.Outer.{Outer}
use Rattle.types.specs.declared.ty.Outer.TheVariants.{Plain, Ref, Mut}

abbrev pub outer_in : ℕ → Outer
outer_in t = choose (t == 1) Ref (choose (t == 2) Mut Plain)

abbrev pub outer_number : Outer → ℕ
outer_number Plain = 0
outer_number Ref = 1
outer_number Mut = 2
