-- The theorems of the meaning, as types. Each is the contract of a function of the crate `soundness`.
use Rattle.std.specs.Prelude.{◌≡◌, true, List, [], ◌∷◌, ℕ, ◌+◌, ◌≤◌}
use Rattle.language.specs.Base.{choose}
use Rattle.language.specs.Syntax.{Prog}
use Rattle.language.specs.Checks.{accepts}
use Rattle.language.specs.Meaning.{Value, State, Root, Class, Limits, wrong, out_of_fuel, ok, stop, run}

-- what is accepted never goes wrong
abbrev pub NeverWrong : Type 0
NeverWrong =
    (u : ℕ) (m : Limits) (q : Prog) (ins : List ℕ) (s : State)
    → accepts q ≡ true → run u m q ins ≡ stop wrong s → ⊥

-- how many names and boxes there still are; how many boxes, by the count of each size
abbrev pub live_roots : List Root → ℕ
live_roots [] = 0
live_roots (r ∷ rs) = choose r.live 1 0 + live_roots rs

abbrev pub boxes : List Class → ℕ
boxes [] = 0
boxes (c ∷ cs) = c.in_use + boxes cs

-- what is accepted and ends leaves nothing: no name, no box, nothing under way
abbrev pub NothingLeft : Type 0
NothingLeft =
    (u : ℕ) (m : Limits) (q : Prog) (ins : List ℕ) (v : Value) (s : State)
    → accepts q ≡ true → run u m q ins ≡ ok v s
    → (live_roots s.roots ≡ 0) × (boxes s.classes ≡ 0) × (s.under ≡ 0)

-- with turns counted there is fuel enough, for every program
abbrev pub EnoughFuel : Type 0
EnoughFuel =
    (m : Limits) (q : Prog) (ins : List ℕ)
    → (u : ℕ) × ((w : ℕ) (s : State) → u ≤ w → run w m q ins ≡ stop out_of_fuel s → ⊥)

-- more fuel changes nothing
abbrev pub MoreFuel : Type 0
MoreFuel =
    (u w : ℕ) (m : Limits) (q : Prog) (ins : List ℕ)
    → u ≤ w → ((s : State) → run u m q ins ≡ stop out_of_fuel s → ⊥) → run w m q ins ≡ run u m q ins
