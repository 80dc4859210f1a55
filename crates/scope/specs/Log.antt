-- What was moved: a log of entries, the newest first, and how it lies in words.
use Rattle.std.specs.Prelude.{ℕ, zero, suc, ◌+◌, ◌-◌, ◌*◌, min, Bool, true, false, ◌||◌, List, [], ◌∷◌, ◌++◌, Some, None, Option, ◌==◌, slice_index}
use Rattle.language.specs.Base.{choose}
use Rattle.scope.specs.declared.log.Move.{Move}

-- the name at a place, from the oldest: gone, or there again
pub record Gone : Type 0 where
  pub place : ℕ
  pub gone : Bool

abbrev pub gone_at : ℕ → Bool → Gone
gone_at k b = record { place = k; gone = b }

-- the newest first
abbrev pub Log : Type 0
Log = List Gone

abbrev pub find : Log → ℕ → Bool
find [] k = false
find (e ∷ l) k = choose (e.place == k) e.gone (find l k)

-- what a part of a log says of a place, if it says anything
abbrev pub said : Log → ℕ → Option Bool
said [] k = None
said (e ∷ l) k = choose (e.place == k) (Some e.gone) (said l k)

abbrev pub or_else : Option Bool → Bool → Bool
or_else None d = d
or_else (Some b) d = b

abbrev pub bit_of : Bool → ℕ
bit_of true = 1
bit_of false = 0

-- an entry is two words: a place, and 1 if it's gone
abbrev pub entry_at : List ℕ → ℕ → Gone
entry_at ws i = gone_at (slice_index ws (2 * i)) (slice_index ws (2 * i + 1) == 1)

abbrev pub move_at : List ℕ → ℕ → Move
move_at ws i = record { place = record { 0 = slice_index ws (2 * i) }; gone = (slice_index ws (2 * i + 1) == 1) }

-- n entries from a height on
abbrev pub part : List ℕ → ℕ → ℕ → Log
part ws from zero = []
part ws from (suc n) = entry_at ws (from + n) ∷ part ws from n

-- the log as it's now: without its gaps, where ways lie that have ended. A gap is two words, where it begins and where it ends; the newest is the last
abbrev pub lives : List ℕ → List ℕ → ℕ → ℕ → Log
lives ws gs zero t = part ws 0 t
lives ws gs (suc g) t = part ws (slice_index gs (2 * g + 1)) (t - slice_index gs (2 * g + 1)) ++ lives ws gs g (min t (slice_index gs (2 * g)))

-- gone behind one of the ways, each of which began with l
abbrev pub gone_in : List Log → Log → ℕ → Bool
gone_in [] l k = false
gone_in (a ∷ arms) l k = find (a ++ l) k || gone_in arms l k

abbrev pub rewrite : Log → List Log → Log → Log
rewrite [] arms l = []
rewrite (e ∷ es) arms l = gone_at e.place (gone_in arms l e.place) ∷ rewrite es arms l

-- the ways as they lie in the log, the newest on top
abbrev pub segments : List Log → Log
segments [] = []
segments (a ∷ arms) = segments arms ++ a

abbrev pub joined : List Log → Log → Log
joined arms l = rewrite (segments arms) arms l

-- ways that lie one behind the other from a height on, by where each ends
abbrev pub ways : List ℕ → ℕ → List ℕ → List Log
ways ws from [] = []
ways ws from (e ∷ es) = part ws from (e - from) ∷ ways ws e es

-- the same from what was said below the ways
abbrev pub behind : List Log → ℕ → Bool → Bool
behind [] k was = false
behind (a ∷ arms) k was = or_else (said a k) was || behind arms k was
