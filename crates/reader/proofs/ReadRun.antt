-- The reader's loop: its measure falls, there is room, and its output is the code of the program.
use Rattle.std.proofs.Common.{◌≡◌, ℕ, ◌+◌, ◌*◌, ◌<◌, ◌≤◌, List, [], ◌∷◌, ◌++◌, length, subst, arith, length-append}
use mathlib.Core.Option.{none}
use Rattle.language.specs.Base.{Lexeme}
use Rattle.language.specs.Text.{reads, tokenize, idle}
use Rattle.code.specs.Instr.{Instr}
use Rattle.reader.specs.Symbol.{Symbol, s_items, Action, fail, push, emit, step}
use Rattle.reader.specs.Reader.{Coded}
use Rattle.reader.specs.Growth.{growth}
use Rattle.reader.proofs.Ranks.{rank, weight, room, makes, weights, rooms, makes_all, grows, grows_all}
use Rattle.reader.proofs.ReadSymbol.{spent}
use Rattle.reader.proofs.Bounds.{Within, within}
use Rattle.reader.proofs.ReadInvariant.{Good, Goes, good_step, target, good_start}
use Rattle.reader.proofs.ReadInvariant.{read_done, read_failed}

-- the measure falls, and there is room: symbols left and instructions made are together at most ten
-- for each token, and one
abbrev pub measure : List Symbol → List Lexeme → ℕ
measure k ts = 20 * length ts + weights k

abbrev pub Falls : List Symbol → List Instr → ℕ → ℕ → ℕ → ℕ → Action → Type 0
Falls k o b c y z fail = Unit {0}
Falls k o b c y z (push ss ts) = (measure (ss ++ k) ts < b) × (10 * length ts + rooms (ss ++ k) + length o ≤ c)
    × (3 * length ts + makes_all (ss ++ k) + length o ≤ y) × (length ts + grows_all (ss ++ k) + growth o ≤ z)
Falls k o b c y z (emit i ts) = (measure k ts < b) × (10 * length ts + rooms k + length (o ++ (i ∷ [])) ≤ c)
    × (3 * length ts + makes_all k + length (o ++ (i ∷ [])) ≤ y)
    × (length ts + grows_all k + growth (o ++ (i ∷ [])) ≤ z)

pub weights-++ : (a b : List Symbol) → weights (a ++ b) ≡ weights a + weights b
weights-++ [] b = omega arith
weights-++ (s ∷ a) b = let h = weights-++ a b in omega arith

pub rooms-++ : (a b : List Symbol) → rooms (a ++ b) ≡ rooms a + rooms b
rooms-++ [] b = omega arith
rooms-++ (s ∷ a) b = let h = rooms-++ a b in omega arith

pub makes-++ : (a b : List Symbol) → makes_all (a ++ b) ≡ makes_all a + makes_all b
makes-++ [] b = omega arith
makes-++ (s ∷ a) b = let h = makes-++ a b in omega arith

pub grows-++ : (a b : List Symbol) → grows_all (a ++ b) ≡ grows_all a + grows_all b
grows-++ [] b = omega arith
grows-++ (s ∷ a) b = let h = grows-++ a b in omega arith

pub growth-++ : (a b : List Instr) → growth (a ++ b) ≡ growth a + growth b
growth-++ [] b = omega arith
growth-++ (i ∷ a) b = let h = growth-++ a b in omega arith

pub falls : (s : Symbol) (k : List Symbol) (ts : List Lexeme) (o : List Instr) →
    Falls k o (measure (s ∷ k) ts) (10 * length ts + rooms (s ∷ k) + length o)
    (3 * length ts + makes_all (s ∷ k) + length o) (length ts + grows_all (s ∷ k) + growth o) (step s ts)
falls s k ts o = at (step s ts) (within s (rank s + 16 * length ts) ts (omega arith))
  where
    at : (d : Action) → Within (length ts) (spent s (rank s + 16 * length ts)) (20 * length ts + weight s)
        (10 * length ts + room s) (3 * length ts + makes s) (length ts + grows s) d →
        Falls k o (measure (s ∷ k) ts) (10 * length ts + rooms (s ∷ k) + length o)
        (3 * length ts + makes_all (s ∷ k) + length o) (length ts + grows_all (s ∷ k) + growth o) d
    at fail w = tt
    at (push ss r) w =
        let a = weights-++ ss k in
        let b = rooms-++ ss k in
        let y = makes-++ ss k in
        let z = grows-++ ss k in
        omega arith
    at (emit i r) w = let a = length-append o (i ∷ []) in let b = growth-++ o (i ∷ []) in omega arith

pub one_at_least : (s : Symbol) → 1 ≤ room s
one_at_least s = grind arith

pub height : (k : List Symbol) → length k ≤ rooms k
height [] = omega arith
height (s ∷ k) = let h = height k in let p = one_at_least s in omega arith

-- what a state of the machine that came from the start is bounded by
pub record Room (tokens : List Lexeme) (k : List Symbol) (ts : List Lexeme) (o : List Instr) : Type 0 where
  pub both : 10 * length ts + rooms k + length o ≤ 10 * length tokens + 1
  pub made : 3 * length ts + makes_all k + length o ≤ 3 * length tokens
  pub grown : length ts + grows_all k + growth o ≤ length tokens

pub room_start : (ts : List Lexeme) → Room ts (s_items ∷ []) ts []
room_start ts = record { both = omega arith; made = omega arith; grown = omega arith }

pub room_height : (tokens : List Lexeme) (k : List Symbol) (ts : List Lexeme) (o : List Instr) →
    Room tokens k ts o → (length k ≤ 10 * length tokens + 1) × (length o ≤ 3 * length tokens)
    × (growth o ≤ length tokens)
room_height tokens k ts o r = let h = height k in (omega arith, omega arith, omega arith)

-- for the loop over words: what a step leaves, and what a turn keeps
abbrev pub After : Action → List Symbol → List Instr → List Symbol → List Lexeme → List Instr → Type 0
After fail k o k1 ts1 o1 = ⊥
After (push ss r) k o k1 ts1 o1 = (k1 ≡ ss ++ k) × (ts1 ≡ r) × (o1 ≡ o)
After (emit i r) k o k1 ts1 o1 = (k1 ≡ k) × (ts1 ≡ r) × (o1 ≡ o ++ (i ∷ []))

pub record Kept (tokens : List Lexeme) (k : List Symbol) (ts : List Lexeme) (o : List Instr) : Type 0 where
  pub good : Good (target tokens) k ts o
  pub room : Room tokens k ts o

pub kept_start : (tokens : List Lexeme) → Kept tokens (s_items ∷ []) tokens []
kept_start tokens = record { good = good_start tokens; room = room_start tokens }

pub kept : (tokens : List Lexeme) (s : Symbol) (k : List Symbol) (ts : List Lexeme) (o : List Instr)
    (k1 : List Symbol) (ts1 : List Lexeme) (o1 : List Instr) → Kept tokens (s ∷ k) ts o →
    After (step s ts) k o k1 ts1 o1 → Kept tokens k1 ts1 o1 × (measure k1 ts1 < measure (s ∷ k) ts)
kept tokens s k ts o k1 ts1 o1 h a =
    at (step s ts) (good_step (target tokens) s k ts o h.good) (falls s k ts o) a
  where
    at : (d : Action) → Goes (target tokens) k o d → Falls k o (measure (s ∷ k) ts)
        (10 * length ts + rooms (s ∷ k) + length o) (3 * length ts + makes_all (s ∷ k) + length o)
        (length ts + grows_all (s ∷ k) + growth o) d → After d k o k1 ts1 o1 → Kept tokens k1 ts1 o1
        × (measure k1 ts1 < measure (s ∷ k) ts)
    at fail g w x = absurd x
    at (push ss r) g w x = rw (x.0, x.1, x.2) (let m = h.room in (
      record { good = g; room = record { both = omega arith; made = omega arith; grown = omega arith } },
      w.0,
    ))
    at (emit i r) g w x = rw (x.0, x.1, x.2) (let m = h.room in (
      record { good = g; room = record { both = omega arith; made = omega arith; grown = omega arith } },
      w.0,
    ))

pub kept_fails : (bytes : List ℕ) (s : Symbol) (k : List Symbol) (ts : List Lexeme) (o : List Instr) →
    Kept (tokenize idle bytes) (s ∷ k) ts o → step s ts ≡ fail → reads bytes ≡ none
kept_fails bytes s k ts o h e = read_failed bytes (subst
    (λ (d : Action). Goes (target (tokenize idle bytes)) k o d) e
    (good_step (target (tokenize idle bytes)) s k ts o h.good))

pub kept_ends : (bytes : List ℕ) (ts : List Lexeme) (o : List Instr) → Kept (tokenize idle bytes) [] ts o →
    Coded (reads bytes) o
kept_ends bytes ts o h = read_done bytes ts o h.good
