-- Static: what a rule that accepts says of its parts.
use mathlib.Core.Bool.{Bool, true, false, not}
use mathlib.Core.List.{List}
use mathlib.Core.Option.{Option, some, none}
use mathlib.Core.Path.{◌≡◌, refl, sym, ◌∙◌, ap}
use Rattle.language.specs.Base.{if_some, Lexeme, only_if}
use Rattle.language.specs.Syntax.{Ty, int, dat, box, ref, mut}
use Rattle.language.specs.Checks.{Loan, Var, same_ty, look}
use Rattle.language.specs.Checks as ch
use Rattle.soundness.proofs.Basics.{no_some, some_is, only_is, true_false, same_is}

-- the rules' small tests
pub there_is : (g : ch.Env) (x : Lexeme) (v : Var) → ch.there g x ≡ some v → (look g x ≡ some v) × (v.gone ≡ false)
there_is g x v e = go (look g x) e
  where
    go2 : (y : Var) (z : Bool) → y.gone ≡ z → only_if (not z) (some y) ≡ some v → (some y ≡ some v) × (v.gone ≡ false)
    go2 y true k e1 = absurd (no_some e1)
    go2 y false k e1 = (e1, sym (ap (λ z. z.gone) (some_is e1)) ∙ k)

    go : (o : Option Var) → if_some o (λ y. only_if (not y.gone) (some y)) ≡ some v → (o ≡ some v) × (v.gone ≡ false)
    go none e1 = absurd (no_some e1)
    go (some y) e1 = go2 y y.gone refl e1

pub same_ty_is : (t u : Ty) → same_ty t u ≡ true → t ≡ u
same_ty_is int int e = refl
same_ty_is int (dat d) e = absurd (true_false (sym e))
same_ty_is int (box u) e = absurd (true_false (sym e))
same_ty_is int (ref u) e = absurd (true_false (sym e))
same_ty_is int (mut u) e = absurd (true_false (sym e))
same_ty_is (dat a) int e = absurd (true_false (sym e))
same_ty_is (dat a) (dat d) e = ap dat (same_is a d e)
same_ty_is (dat a) (box u) e = absurd (true_false (sym e))
same_ty_is (dat a) (ref u) e = absurd (true_false (sym e))
same_ty_is (dat a) (mut u) e = absurd (true_false (sym e))
same_ty_is (box t) int e = absurd (true_false (sym e))
same_ty_is (box t) (dat d) e = absurd (true_false (sym e))
same_ty_is (box t) (box u) e = ap box (same_ty_is t u e)
same_ty_is (box t) (ref u) e = absurd (true_false (sym e))
same_ty_is (box t) (mut u) e = absurd (true_false (sym e))
same_ty_is (ref t) int e = absurd (true_false (sym e))
same_ty_is (ref t) (dat d) e = absurd (true_false (sym e))
same_ty_is (ref t) (box u) e = absurd (true_false (sym e))
same_ty_is (ref t) (ref u) e = ap ref (same_ty_is t u e)
same_ty_is (ref t) (mut u) e = absurd (true_false (sym e))
same_ty_is (mut t) int e = absurd (true_false (sym e))
same_ty_is (mut t) (dat d) e = absurd (true_false (sym e))
same_ty_is (mut t) (box u) e = absurd (true_false (sym e))
same_ty_is (mut t) (ref u) e = absurd (true_false (sym e))
same_ty_is (mut t) (mut u) e = ap mut (same_ty_is t u e)

pub with_ty_is : (x : Option ch.Typed) (t : Ty) (f : List Loan → ch.Env → Option ch.Typed) (r : ch.Typed) → ch.with_ty x t f ≡ some r
    → (y : ch.Typed) × (x ≡ some y) × (y.ty ≡ t) × (f y.loans y.env ≡ some r)
with_ty_is none t f r e = absurd (no_some e)
with_ty_is (some y) t f r e = let k = only_is (ch.same_ty y.ty t) (f y.loans y.env) r e in (y, refl, same_ty_is y.ty t k.0, k.1)
