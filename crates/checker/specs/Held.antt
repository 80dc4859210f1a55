-- The entries of arguments that are already there, in words.
use Rattle.std.specs.Prelude.{ℕ, zero, suc, ◌-◌, ◌<◌, min, List, [], ◌++◌, Ok, Err, Result}
use Rattle.std.proofs.Math.Option.{Option, some, none}
use Rattle.language.specs.Base.{Lexeme}
use Rattle.scope.specs.Loans.{Ent, slice}
use Rattle.scope.specs.Slots.{Found, At}
use Rattle.scope.specs.declared.log.Place.{Place}
use Rattle.checker.specs.declared.state.Rule.{Rule}
use Rattle.checker.specs.declared.frames.Frame.{Frame}
use Rattle.checker.specs.declared.frames.Frame.TheVariants.{Call as ACall, Then, Else, Test, Loop, Match as AMatch}
use Rattle.checker.specs.FrameWords.{frame_at}

-- of a call, and then of what's below it; other frames end it
abbrev pub held_from : List ℕ → List ℕ → Frame → ℕ → (ℕ → List Ent) → List Ent
held_from text args (ACall c) top rest = slice text args c.base (top - c.base) ++ rest (min top c.base)
held_from text args (Then a b) top rest = []
held_from text args (Else a) top rest = []
held_from text args (Test a b) top rest = []
held_from text args (Loop a b c d) top rest = []
held_from text args (AMatch m) top rest = []

abbrev pub held_in : List ℕ → List ℕ → List ℕ → ℕ → ℕ → List Ent
held_in text args frames zero top = []
held_in text args frames (suc n) top = held_from text args (frame_at frames n) top (λ t. held_in text args frames n t)

-- a name that's there, at a place
abbrev pub There : List ℕ → List ℕ → List ℕ → ℕ → Lexeme → Option Found → Result Place Rule → Type 0
There text code ns h x none (Ok p) = ⊥
There text code ns h x (some f) (Ok p) = At text code ns h x p.0 f
There text code ns h x none (Err e) = Unit {0}
There text code ns h x (some f) (Err e) = ⊥

abbrev pub Low : ℕ → Result Place Rule → Type 0
Low n (Ok p) = p.0 < n
Low n (Err e) = Unit {0}
