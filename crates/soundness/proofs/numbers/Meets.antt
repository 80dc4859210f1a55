-- Results of which V holds, behind which P holds: the combinators of the meaning.
use mathlib.Core.Bool.{Bool, true, false}
use mathlib.Core.Option.{Option, some, none}
use mathlib.Core.Path.{◌≡◌, refl}
use Prim.Native.Nat.{ℕ, suc, ◌+◌}
use lib.Dec.{leb, ltb}
use Rattle.language.specs.Base.{choose}
use Rattle.language.specs.Meaning.{State, Limits, Stop, Res, ok, stop, then, need, turn, goes_under, with_under}
use Rattle.soundness.specs.Numbers.{Behind}

pub data Meets {A : Type 0} (V : A → Type 0) (P : State → Type 0) : Res A → Type 0 where
  by_ok : {a : A} {t : State} → V a → P t → Meets V P (ok a t)
  by_stop : {k : Stop} {t : State} → P t → Meets V P (stop k t)

pub behind : {A : Type 0} {V : A → Type 0} {P : State → Type 0} {r : Res A} → Meets V P r → Behind V P r
behind (by_ok v p) = (v, p)
behind (by_stop p) = p

pub then_meets : {A C : Type 0} {V : A → Type 0} {W : C → Type 0} {P : State → Type 0} {r : Res A} {f : A → State → Res C}
    → Meets V P r → ((a : A) (t : State) → V a → P t → Meets W P (f a t)) → Meets W P (then r f)
unfolding then
then_meets (by_ok v p) h = h _ _ v p
then_meets (by_stop p) h = by_stop p

pub need_meets : {A C : Type 0} {W : C → Type 0} {P : State → Type 0} (s : State) (o : Option A) {f : A → Res C}
    → P s → ((a : A) → o ≡ some a → Meets W P (f a)) → Meets W P (need s o f)
unfolding need
need_meets s none p h = by_stop p
need_meets s (some a) p h = h a refl

pub choose_meets : {A : Type 0} {V : A → Type 0} {P : State → Type 0} (t : Bool) {x y : Res A} → Meets V P x → Meets V P y → Meets V P (choose t x y)
choose_meets true h k = h
choose_meets false h k = k

abbrev pub turned : State → State
turned s = record { roots = s.roots; classes = s.classes; under = s.under; turns = suc s.turns; ins = s.ins; outs = s.outs }

pub turn_meets : {A : Type 0} {V : A → Type 0} {P : State → Type 0} (m : Limits) (s : State) (f : State → Res A) → P s → Meets V P (f (turned s))
    → Meets V P (turn m s f)
unfolding turn
turn_meets m s f p h = choose_meets (ltb s.turns m.max_turns) h (by_stop p)

pub under_meets : {A : Type 0} {V : A → Type 0} {P : State → Type 0} (m : Limits) (k : ℕ) (s : State) (f : State → Res A)
    → ((t : State) (j : ℕ) → P t → P (with_under t j)) → P s → Meets V P (f (with_under s (s.under + k))) → Meets V P (goes_under m k s f)
unfolding goes_under
under_meets m k s f moved p h = choose_meets (leb (s.under + k) m.stack) (then_meets h (λ a t v q. by_ok v (moved t s.under q))) (by_stop p)
