-- Typed trees are of owned types; no type has size 0.
use mathlib.Core.Bool.{true}
use mathlib.Core.List.{List}
use mathlib.Core.Option.{Option, some, none}
use mathlib.Core.Path.{◌≡◌, refl}
use Prim.Native.Nat.{ℕ, zero, suc, ◌+◌, ◌≤◌}
use native.Mathlib.Omega.{arith}
use Rattle.language.specs.Base.{from_option, if_some}
use Rattle.language.specs.Syntax.{Ty, int, dat, box, ref, mut, Data}
use Rattle.language.specs.Checks.{owned, size}
use Rattle.soundness.specs.Trees.{Tree, int_t, con_t, box_t, hole_t, words_in, Typed}

-- typed trees are of owned types; box sizes aren't 0
pub typed_owned : (ds : List Data) (x : Tree) (t : Ty) → Typed ds x t → owned t ≡ true
typed_owned ds (int_t k) int h = refl
typed_owned ds (int_t k) (dat d) h = refl
typed_owned ds (int_t k) (box t) h = absurd h
typed_owned ds (int_t k) (ref t) h = absurd h
typed_owned ds (int_t k) (mut t) h = absurd h
typed_owned ds (con_t k ts) int h = refl
typed_owned ds (con_t k ts) (dat d) h = refl
typed_owned ds (con_t k ts) (box t) h = absurd h
typed_owned ds (con_t k ts) (ref t) h = absurd h
typed_owned ds (con_t k ts) (mut t) h = absurd h
typed_owned ds (box_t r w t) int h = refl
typed_owned ds (box_t r w t) (dat d) h = refl
typed_owned ds (box_t r w t) (box u) h = typed_owned ds t u h.1
typed_owned ds (box_t r w t) (ref u) h = absurd h
typed_owned ds (box_t r w t) (mut u) h = absurd h
typed_owned ds hole_t t h = absurd h

size_pos : (k : ℕ) (ds : List Data) (t : Ty) → 1 ≤ from_option (size k ds t) 1 (λ z. z)
size_pos zero ds t = omega arith
size_pos (suc k) ds int = omega arith
size_pos (suc k) ds (dat d) = go (Rattle.language.specs.Checks.data_named ds d)
  where
    go2 : (o : Option ℕ) → 1 ≤ from_option (if_some o (λ m. some (1 + m))) 1 (λ z. z)
    go2 none = omega arith
    go2 (some m) = omega arith

    go : (o : Option Data) → 1 ≤ from_option
        (if_some o (λ x. if_some (Rattle.language.specs.Checks.size_ctors k ds x.ctors) (λ m. some (1 + m)))) 1 (λ z. z)
    go none = omega arith
    go (some x) = go2 (Rattle.language.specs.Checks.size_ctors k ds x.ctors)
size_pos (suc k) ds (box t) = omega arith
size_pos (suc k) ds (ref t) = omega arith
size_pos (suc k) ds (mut t) = omega arith

pub words_pos : (ds : List Data) (t : Ty) → 1 ≤ words_in ds t
words_pos ds t = size_pos (Rattle.language.specs.Checks.deep ds) ds t
