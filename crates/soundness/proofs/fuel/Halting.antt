-- With enough fuel a result stands: the combinators.
use mathlib.Core.Bool.{Bool, true, false}
use mathlib.Core.Option.{Option, some, none}
use mathlib.Core.Path.{◌≡◌, refl}
use Prim.Native.Nat.{ℕ, zero, suc, ◌+◌, ◌≤◌}
use native.Mathlib.Omega.{arith}
use lib.Dec.{leb, ltb}
use Rattle.language.specs.Base.{choose}
use Rattle.language.specs.Meaning.{State, Limits, Stop, wrong, out_of_fuel, Res, stop, then, need, turn, goes_under, with_under, ok}
use Rattle.soundness.proofs.fuel.Kept.{◌≼◌}

pub data SettledWell {A : Type 0} (R : State → Type 0) : Res A → Type 0 where
  well_ok : {a : A} {t : State} → R t → SettledWell R (ok a t)
  well_stop : {k : Stop} {t : State} → (k ≡ out_of_fuel → ⊥) → SettledWell R (stop k t)

pub record Halts {A : Type 0} (R : State → Type 0) (f : ℕ → Res A) : Type 0 where
  pub gives : Res A
  pub with_fuel : ℕ
  pub settled : (w : ℕ) → with_fuel ≤ w → f w ≡ gives
  pub well : SettledWell R gives

pub at_once : {A : Type 0} {R : State → Type 0} {r : Res A} → SettledWell R r → Halts R (λ u. r)
at_once {r = r} h = record { gives = r; with_fuel = 0; settled = λ w l. refl; well = h }

pub ok_halts : {A : Type 0} {R : State → Type 0} {a : A} {t : State} → R t → Halts R (λ u. ok a t)
ok_halts h = at_once (well_ok h)

pub step : {A : Type 0} {R : State → Type 0} (f : ℕ → Res A) → Halts R (λ u. f (suc u)) → Halts R f
step f h = record { gives = h.gives; with_fuel = suc h.with_fuel; settled = go; well = h.well }
  where
    go : (w : ℕ) → suc h.with_fuel ≤ w → f w ≡ h.gives
    go zero l = absurd (omega arith)
    go (suc w) l = h.settled w (omega arith)

weaken_fine : {A : Type 0} {R R' : State → Type 0} {r : Res A} → ((t : State) → R t → R' t) → SettledWell R r → SettledWell R' r
weaken_fine k (well_ok h) = well_ok (k _ h)
weaken_fine k (well_stop h) = well_stop h

pub weaken : {A : Type 0} {R R' : State → Type 0} {f : ℕ → Res A} → ((t : State) → R t → R' t) → Halts R f → Halts R' f
weaken k h = record { gives = h.gives; with_fuel = h.with_fuel; settled = h.settled; well = weaken_fine k h.well }

then_go : {A C : Type 0} {R R' : State → Type 0} (f : ℕ → Res A) (k : ℕ → A → State → Res C) (r : Res A) (j : ℕ) → ((w : ℕ) → j ≤ w → f w ≡ r)
    → SettledWell R r → ((a : A) (t : State) → R t → Halts R' (λ u. k u a t)) → Halts R' (λ u. then (f u) (k u))
unfolding then
then_go f k (ok a t) j e (well_ok h) g =
    let x = g a t h in
    record { gives = x.gives; with_fuel = j + x.with_fuel; settled = λ w l. rw (e w (omega arith)) (x.settled w (omega arith)); well = x.well }
then_go f k (stop i t) j e (well_stop h) g = record { gives = stop i t; with_fuel = j; settled = λ w l. rw (e w l) refl; well = well_stop h }

pub then_halts : {A C : Type 0} {R R' : State → Type 0} {f : ℕ → Res A} {k : ℕ → A → State → Res C} → Halts R f
    → ((a : A) (t : State) → R t → Halts R' (λ u. k u a t)) → Halts R' (λ u. then (f u) (k u))
then_halts {f = f} {k = k} h g = then_go f k h.gives h.with_fuel h.settled h.well g

pub wrong_not : wrong ≡ out_of_fuel → ⊥
wrong_not e = grind arith

pub need_halts : {A C : Type 0} {R : State → Type 0} (s : State) (o : Option A) {f : ℕ → A → Res C} → ((a : A) → o ≡ some a → Halts R (λ u. f u a))
    → Halts R (λ u. need s o (f u))
unfolding need
need_halts s none h = at_once (well_stop wrong_not)
need_halts s (some a) h = h a refl

pub choose_halts : {A : Type 0} {R : State → Type 0} (t : Bool) {x y : ℕ → Res A} → (t ≡ true → Halts R x) → (t ≡ false → Halts R y)
    → Halts R (λ u. choose t (x u) (y u))
choose_halts true h k = h refl
choose_halts false h k = k refl

-- so many turns and so many words are left at most
pub record Room (m : Limits) (T K : ℕ) (s : State) : Type 0 where
  pub turns_left : m.max_turns ≤ s.turns + T
  pub words_left : m.stack ≤ s.under + K

pub record Less (m : Limits) (T K : ℕ) (s : State) : Type 0 where
  pub level : ℕ
  pub is_level : suc level ≡ T
  pub room : Room m level K s

pub less_room : {m : Limits} {T K : ℕ} (s : State) → Less m T K s → Room m T K s
less_room s h = let e = h.is_level in let r = h.room in record { turns_left = omega arith; words_left = omega arith }

pub lower_room : {m : Limits} {T K j : ℕ} → suc j ≡ T → (s : State) → Room m j K s → Room m T K s
lower_room e s r = record { turns_left = omega arith; words_left = omega arith }

pub turn_halts : {A : Type 0} {R : State → Type 0} (m : Limits) (T K : ℕ) (s : State) {f : ℕ → State → Res A} → Room m T K s
    → ((j : ℕ) → suc j ≡ T → (t : State) → Room m j K t → Halts R (λ u. f u t)) → Halts R (λ u. turn m s (f u))
unfolding turn
turn_halts m zero K s r h = choose_halts (ltb s.turns m.max_turns) (λ e. absurd (grind arith)) (λ e. at_once (well_stop (λ x. grind arith)))
turn_halts m (suc T) K s r h =
    choose_halts (ltb s.turns m.max_turns) (λ e. h T refl _ (record { turns_left = omega arith; words_left = r.words_left }))
    (λ e. at_once (well_stop (λ x. grind arith)))

pub call_under : {A : Type 0} (m : Limits) (T K k : ℕ) (s : State) {f : ℕ → State → Res A} → Room m T K s
    → ((t : State) → Room m T K t → Halts (Room m T K) (λ u. f u t)) → Halts (Room m T K) (λ u. goes_under m k s (f u))
unfolding goes_under
call_under m T K k s r h =
    choose_halts (leb (s.under + k) m.stack)
    (λ e. then_halts (h (with_under s (s.under + k)) (record { turns_left = r.turns_left; words_left = omega arith }))
    (λ a t x. ok_halts (record { turns_left = x.turns_left; words_left = r.words_left }))) (λ e. at_once (well_stop (λ x. grind arith)))

-- eight words: fewer are left inside
pub drop_under : {A : Type 0} (m : Limits) (T K : ℕ) (s : State) {f : ℕ → State → Res A} → Room m T K s
    → ((j : ℕ) → suc j ≡ K → (t : State) → Room m T j t → Halts (Room m T j) (λ u. f u t)) → Halts (Room m T K) (λ u. goes_under m 8 s (f u))
unfolding goes_under
drop_under m T zero s r h = choose_halts (leb (s.under + 8) m.stack) (λ e. absurd (grind arith)) (λ e. at_once (well_stop (λ x. grind arith)))
drop_under m T (suc K) s r h =
    choose_halts (leb (s.under + 8) m.stack)
    (λ e. then_halts (h K refl (with_under s (s.under + 8)) (record { turns_left = r.turns_left; words_left = omega arith }))
    (λ a t x. ok_halts (record { turns_left = x.turns_left; words_left = r.words_left }))) (λ e. at_once (well_stop (λ x. grind arith)))

-- what changes memory alone leaves as much
pub room_by : {m : Limits} {T K : ℕ} {s t : State} → s ≼ t → Room m T K s → Room m T K t
room_by h r = let x = h.same_under in record { turns_left = omega arith; words_left = omega arith }
