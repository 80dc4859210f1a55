-- Results that are the same, or the first of which is out of fuel.
use mathlib.Core.Bool.{Bool, true, false}
use mathlib.Core.Option.{Option, some, none}
use mathlib.Core.Path.{◌≡◌, refl}
use Prim.Native.Nat.{ℕ, ◌+◌}
use lib.Dec.{leb, ltb}
use Rattle.language.specs.Base.{choose}
use Rattle.language.specs.Meaning.{State, Limits, out_of_fuel, Res, stop, then, need, turn, goes_under, ok}

infix 40 ◌⊑◌
pub data ◌⊑◌ {A : Type 0} : Res A → Res A → Type 0 where
  is_late : {s : State} {r : Res A} → stop out_of_fuel s ⊑ r
  alike : {r : Res A} → r ⊑ r

pub then_⊑ : {A C : Type 0} {r r' : Res A} {f f' : A → State → Res C} → r ⊑ r' → ((a : A) (s : State) → f a s ⊑ f' a s) → then r f ⊑ then r' f'
unfolding then
then_⊑ is_late h = is_late
then_⊑ (alike {r = ok a s}) h = h a s
then_⊑ (alike {r = stop k s}) h = alike

pub need-⊑ : {A C : Type 0} {f f' : A → Res C} (s : State) (o : Option A) → ((a : A) → f a ⊑ f' a) → need s o f ⊑ need s o f'
unfolding need
need-⊑ s none h = alike
need-⊑ s (some a) h = h a

pub choose-⊑ : {A : Type 0} {x x' y y' : Res A} (t : Bool) → x ⊑ x' → y ⊑ y' → choose t x y ⊑ choose t x' y'
choose-⊑ true h k = h
choose-⊑ false h k = k

pub turn-⊑ : {A : Type 0} {f f' : State → Res A} (m : Limits) (s : State) → ((t : State) → f t ⊑ f' t) → turn m s f ⊑ turn m s f'
unfolding turn
turn-⊑ m s h = choose-⊑ (ltb s.turns m.max_turns) (h _) alike

pub under-⊑ : {A : Type 0} {f f' : State → Res A} (m : Limits) (k : ℕ) (s : State) → ((t : State) → f t ⊑ f' t)
    → goes_under m k s f ⊑ goes_under m k s f'
unfolding goes_under
under-⊑ m k s h = choose-⊑ (leb (s.under + k) m.stack) (then_⊑ (h _) (λ a t. alike)) alike

pub not_late : {A : Type 0} {r r' : Res A} → r ⊑ r' → ((s : State) → r ≡ stop out_of_fuel s → ⊥) → r' ≡ r
not_late (is_late {s = s}) h = absurd (h s refl)
not_late alike h = refl
