-- The log in words: what one entry more or less says.
use Rattle.std.proofs.Common.{◌≡◌, ℕ, zero, suc, ◌+◌, ◌-◌, ◌*◌, ◌<◌, ◌≤◌, ◌≢◌, min, Bool, true, false, eqb, List, [], ◌∷◌, ◌++◌, get_or, Some, None, Option, sym, refl, ap, ◌∙◌, ap₂, arith}
use Rattle.language.specs.Base.{choose}
use Rattle.scope.specs.Log.{gone_at, Log, find, said, or_else, entry_at, move_at, part, lives}
use Rattle.scope.specs.declared.log.Move.{Move}

-- the newest entry of a part
pub part_step : (ws : List ℕ) (from t : ℕ) → from < t → part ws from (t - from) ≡ entry_at ws (t - 1) ∷ part ws from ((t - 1) - from)
part_step ws from t h = let e : t - from ≡ suc ((t - 1) - from) = omega arith in let f : from + ((t - 1) - from) ≡ t - 1 = omega arith in ap (part ws from) e ∙ ap (λ i. entry_at ws i ∷ part ws from ((t - 1) - from)) f

-- an entry of another place says nothing
pub said_miss : (ws : List ℕ) (from t k : ℕ) (m : Move) (z : Option Bool) → from < t → m ≡ move_at ws (t - 1) → false ≡ eqb m.place.0 k → said (part ws from (t - from)) k ≡ z → said (part ws from ((t - 1) - from)) k ≡ z
said_miss ws from t k m z h e f q = sym (ap (λ l. said l k) (part_step ws from t h) ∙ ap (λ b. choose b (Some (eqb (get_or ws (2 * (t - 1) + 1) 0) 1)) (said (part ws from ((t - 1) - from)) k)) (ap (λ (m : Move). eqb m.place.0 k) (sym e) ∙ sym f)) ∙ q

-- a part in front of a log: what it says, and where it says nothing, what the log says
pub find_said : (a l : Log) (k : ℕ) → find (a ++ l) k ≡ or_else (said a k) (find l k)
find_said [] l k = refl
find_said (e ∷ a) l k = go (eqb e.place k) (find_said a l k)
  where
    go : (c : Bool) → find (a ++ l) k ≡ or_else (said a k) (find l k) → choose c e.gone (find (a ++ l) k) ≡ or_else (choose c (Some e.gone) (said a k)) (find l k)
    go true h = refl
    go false h = h

-- the whole of a part
pub find_part : (a : Log) (k : ℕ) → find a k ≡ or_else (said a k) false
find_part [] k = refl
find_part (e ∷ a) k = go (eqb e.place k) (find_part a k)
  where
    go : (c : Bool) → find a k ≡ or_else (said a k) false → choose c e.gone (find a k) ≡ or_else (choose c (Some e.gone) (said a k)) false
    go true h = refl
    go false h = h

-- a gap: what's above it, then what's below
pub lives_step : (ws gs : List ℕ) (g t k : ℕ) (z : Bool) → 0 < g → find (lives ws gs g t) k ≡ z → or_else (said (part ws (get_or gs (2 * (g - 1) + 1) 0) (t - get_or gs (2 * (g - 1) + 1) 0)) k) (find (lives ws gs (g - 1) (min t (get_or gs (2 * (g - 1)) 0))) k) ≡ z
lives_step ws gs zero t k z h q = absurd (omega arith)
lives_step ws gs (suc g) t k z h q = let e : suc g - 1 ≡ g = omega arith in ap (λ g. or_else (said (part ws (get_or gs (2 * g + 1) 0) (t - get_or gs (2 * g + 1) 0)) k) (find (lives ws gs g (min t (get_or gs (2 * g) 0))) k)) e ∙ sym (find_said (part ws (get_or gs (2 * g + 1) 0) (t - get_or gs (2 * g + 1) 0)) (lives ws gs g (min t (get_or gs (2 * g) 0))) k) ∙ q

-- words that are the same below a height say the same
pub part_same : (ws us : List ℕ) (from n b : ℕ) → 2 * (from + n) ≤ b → ((j : ℕ) → j < b → get_or ws j 0 ≡ get_or us j 0) → part ws from n ≡ part us from n
part_same ws us from zero b h s = refl
part_same ws us from (suc n) b h s = ap₂ (λ e l. e ∷ l) (ap₂ (λ p g. gone_at p (eqb g 1)) (s (2 * (from + n)) (omega arith)) (s (2 * (from + n) + 1) (omega arith))) (part_same ws us from n b (omega arith) s)

-- entries that are the same say the same
pub moves_same : (ws us : List ℕ) (from n : ℕ) → ((k : ℕ) → k < from + n → move_at ws k ≡ move_at us k) → part ws from n ≡ part us from n
moves_same ws us from zero s = refl
moves_same ws us from (suc n) s = ap₂ (λ (m : Move) (l : Log). gone_at m.place.0 m.gone ∷ l) (s (from + n) (omega arith)) (moves_same ws us from n (λ k h. s k (omega arith)))

pub part_push : (ws us : List ℕ) (t : ℕ) (m : Move) → move_at us t ≡ m → ((k : ℕ) → k ≢ t → move_at us k ≡ move_at ws k) → part us 0 (t + 1) ≡ gone_at m.place.0 m.gone ∷ part ws 0 t
part_push ws us t m h o = let e : t + 1 ≡ suc t = omega arith in let z : 0 + t ≡ t = omega arith in ap (part us 0) e ∙ ap₂ (λ (m : Move) (l : Log). gone_at m.place.0 m.gone ∷ l) (ap (move_at us) z ∙ h) (moves_same us ws 0 t (λ k l. o k (λ q. omega arith)))

pub or_some : (o : Option Bool) (b d z : Bool) → Some b ≡ o → or_else o d ≡ z → b ≡ z
or_some o b d z h q = ap (λ o. or_else o d) h ∙ q

pub or_none : (o : Option Bool) (d z : Bool) → None ≡ o → or_else o d ≡ z → d ≡ z
or_none o d z h q = ap (λ o. or_else o d) h ∙ q

pub lives_bottom : (ws gs : List ℕ) (g t k : ℕ) (z : Bool) → g ≡ 0 → find (lives ws gs g t) k ≡ z → or_else (said (part ws 0 (t - 0)) k) false ≡ z
lives_bottom ws gs g t k z e q = let f : t - 0 ≡ t = omega arith in ap (λ n. or_else (said (part ws 0 n) k) false) f ∙ sym (find_part (part ws 0 t) k) ∙ sym (ap (λ g. find (lives ws gs g t) k) e) ∙ q
