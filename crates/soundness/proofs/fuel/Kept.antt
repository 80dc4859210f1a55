-- What a single change of the state keeps: the words under way, and the turns.
use mathlib.Core.List.{List, [], ◌∷◌}
use mathlib.Core.Option.{some}
use mathlib.Core.Path.{◌≡◌, refl, ◌∙◌}
use Prim.Native.Nat.{ℕ, ◌≤◌}
use native.Mathlib.Nat.{le_refl}
use native.Mathlib.Omega.{arith}
use Rattle.language.specs.Syntax.{Access}
use Rattle.language.specs.Meaning.{Loc, Value, State, adds_root, kill, ends_box, write_at, roots_in, taken}

-- after s comes t
infix 40 ◌≼◌
pub record ◌≼◌ (s t : State) : Type 0 where
  pub same_under : t.under ≡ s.under
  pub turns_grow : s.turns ≤ t.turns

pub ≼_refl : {s : State} → s ≼ s
≼_refl {s} = record { same_under = refl; turns_grow = le_refl s.turns }

pub ≼_trans : {s t z : State} → s ≼ t → t ≼ z → s ≼ z
≼_trans h k = record { same_under = k.same_under ∙ h.same_under; turns_grow = omega arith }

-- what changes memory alone
pub write_at_keeps : (s : State) (l : Loc) (v : Value) {t : State} → write_at s l v ≡ some t → s ≼ t
write_at_keeps s l v e = grind arith

pub taken_keeps : (w : Access) (s : State) (l : Loc) {t : State} → taken w s l ≡ some t → s ≼ t
taken_keeps w s l e = grind arith

pub kill_keeps : (s : State) (r : ℕ) → s ≼ kill s r
kill_keeps s r = grind arith

pub ends_box_keeps : (s : State) (r : ℕ) → s ≼ ends_box s r
ends_box_keeps s r = grind arith

pub roots_in_keeps : (vs : List Value) (s : State) → s ≼ roots_in s vs
roots_in_keeps [] s = ≼_refl
roots_in_keeps (v ∷ vs) s = ≼_trans (grind arith) (roots_in_keeps vs (adds_root s v 0))
