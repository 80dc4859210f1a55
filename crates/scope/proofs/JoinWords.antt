-- The join of several ways, written over their entries one by one.
use Rattle.std.proofs.Common.{◌≡◌, ℕ, zero, suc, ◌+◌, ◌-◌, ◌*◌, ◌<◌, ◌≤◌, min, Bool, true, false, ◌||◌, T, eqb, ◌⊎◌, List, [], ◌∷◌, ◌++◌, length, get_or, set, Some, None, Option, unwrap_or, sym, refl, ap, ◌∙◌, subst, ap₂, inl, inr, arith, eqb→eq, get_or-set_other, get_or-set_same}
use Rattle.std.proofs.lemmas.List.{set-get_or}
use Rattle.language.specs.Base.{choose}
use Rattle.scope.specs.Log.{gone_at, Log, find, or_else, bit_of, entry_at, part, lives, gone_in, rewrite, ways, behind}
use Rattle.std.proofs.lemmas.Bool.{eqb-false}
use Rattle.scope.proofs.LogWords.{find_said, part_same}

pub behind_is : (arms : List Log) (l : Log) (k : ℕ) → gone_in arms l k ≡ behind arms k (find l k)
behind_is [] l k = refl
behind_is (a ∷ arms) l k = ap₂ ◌||◌ (find_said a l k) (behind_is arms l k)

pub value_or : (o : Option Bool) (d : Bool) → unwrap_or o d ≡ or_else o d
value_or None d = refl
value_or (Some b) d = refl

-- words that are the same below a height
pub lives_same : (ws us gs : List ℕ) (g t b : ℕ) → 2 * t ≤ b → ((j : ℕ) → j < b → get_or ws j 0 ≡ get_or us j 0) → lives ws gs g t ≡ lives us gs g t
lives_same ws us gs zero t b h s = part_same ws us 0 t b (omega arith) s
lives_same ws us gs (suc g) t b h s = ap₂ ◌++◌ (go (get_or gs (2 * g + 1) 0)) (lives_same ws us gs g (min t (get_or gs (2 * g) 0)) b (omega arith) s)
  where
    go : (n : ℕ) → part ws n (t - n) ≡ part us n (t - n)
    go n = cut (t - n) refl
      where
        cut : (m : ℕ) → t - n ≡ m → part ws n m ≡ part us n m
        cut zero e = refl
        cut (suc m) e = part_same ws us n (suc m) b (omega arith) s

-- an entry that's overwritten: a part says what it said, or it's that entry's place, and what was written
over_part : (ws : List ℕ) (i b s n k : ℕ) (l : Log) → 2 * i + 1 < length ws → (find (part (set ws (2 * i + 1) b) s n ++ l) k ≡ find (part ws s n ++ l) k) ⊎ ((get_or ws (2 * i) 0 ≡ k) × (find (part (set ws (2 * i + 1) b) s n ++ l) k ≡ eqb b 1))
over_part ws i b s zero k l h = inl refl
over_part ws i b s (suc n) k l h = here (eqb (s + n) i) refl (over_part ws i b s n k l h)
  where
    New : Log
    New = part (set ws (2 * i + 1) b) s n ++ l

    Old : Log
    Old = part ws s n ++ l

    Goal : Type 0
    Goal = (find (part (set ws (2 * i + 1) b) s (suc n) ++ l) k ≡ find (part ws s (suc n) ++ l) k) ⊎ ((get_or ws (2 * i) 0 ≡ k) × (find (part (set ws (2 * i + 1) b) s (suc n) ++ l) k ≡ eqb b 1))

    -- the place is what it was, in any case
    place : get_or (set ws (2 * i + 1) b) (2 * (s + n)) 0 ≡ get_or ws (2 * (s + n)) 0
    place = get_or-set_other ws (2 * i + 1) (2 * (s + n)) b 0 (omega arith)

    at : (c d : Bool) → get_or (set ws (2 * i + 1) b) (2 * (s + n) + 1) 0 ≡ get_or ws (2 * (s + n) + 1) 0 → eqb (get_or ws (2 * (s + n)) 0) k ≡ c → (find New k ≡ find Old k) ⊎ ((get_or ws (2 * i) 0 ≡ k) × (find New k ≡ eqb b 1)) → Goal
    at true d e t ih = inl (ap₂ (λ p g. choose (eqb p k) (eqb g 1) (find New k)) place e ∙ ap (λ c. choose c (eqb (get_or ws (2 * (s + n) + 1) 0) 1) (find New k)) t ∙ sym (ap (λ c. choose c (eqb (get_or ws (2 * (s + n) + 1) 0) 1) (find Old k)) t))
    at false d e t (inl ih) = inl (ap (λ p. choose (eqb p k) (eqb (get_or (set ws (2 * i + 1) b) (2 * (s + n) + 1) 0) 1) (find New k)) place ∙ ap (λ c. choose c (eqb (get_or (set ws (2 * i + 1) b) (2 * (s + n) + 1) 0) 1) (find New k)) t ∙ ih ∙ sym (ap (λ c. choose c (eqb (get_or ws (2 * (s + n) + 1) 0) 1) (find Old k)) t))
    at false d e t (inr ih) = inr (ih.0, ap (λ p. choose (eqb p k) (eqb (get_or (set ws (2 * i + 1) b) (2 * (s + n) + 1) 0) 1) (find New k)) place ∙ ap (λ c. choose c (eqb (get_or (set ws (2 * i + 1) b) (2 * (s + n) + 1) 0) 1) (find New k)) t ∙ ih.1)

    hit : (c : Bool) → s + n ≡ i → eqb (get_or ws (2 * (s + n)) 0) k ≡ c → (find New k ≡ find Old k) ⊎ ((get_or ws (2 * i) 0 ≡ k) × (find New k ≡ eqb b 1)) → Goal
    hit true e t ih = inr (ap (λ i. get_or ws (2 * i) 0) (sym e) ∙ eqb→eq (get_or ws (2 * (s + n)) 0) k (subst T (sym t) tt), ap (λ p. choose (eqb p k) (eqb (get_or (set ws (2 * i + 1) b) (2 * (s + n) + 1) 0) 1) (find New k)) place ∙ ap (λ c. choose c (eqb (get_or (set ws (2 * i + 1) b) (2 * (s + n) + 1) 0) 1) (find New k)) t ∙ ap (λ j. eqb (get_or (set ws (2 * i + 1) b) (2 * j + 1) 0) 1) e ∙ ap (λ g. eqb g 1) (get_or-set_same ws (2 * i + 1) b 0 h))
    hit false e t (inl ih) = inl (ap (λ p. choose (eqb p k) (eqb (get_or (set ws (2 * i + 1) b) (2 * (s + n) + 1) 0) 1) (find New k)) place ∙ ap (λ c. choose c (eqb (get_or (set ws (2 * i + 1) b) (2 * (s + n) + 1) 0) 1) (find New k)) t ∙ ih ∙ sym (ap (λ c. choose c (eqb (get_or ws (2 * (s + n) + 1) 0) 1) (find Old k)) t))
    hit false e t (inr ih) = inr (ih.0, ap (λ p. choose (eqb p k) (eqb (get_or (set ws (2 * i + 1) b) (2 * (s + n) + 1) 0) 1) (find New k)) place ∙ ap (λ c. choose c (eqb (get_or (set ws (2 * i + 1) b) (2 * (s + n) + 1) 0) 1) (find New k)) t ∙ ih.1)

    here : (c : Bool) → eqb (s + n) i ≡ c → (find New k ≡ find Old k) ⊎ ((get_or ws (2 * i) 0 ≡ k) × (find New k ≡ eqb b 1)) → Goal
    here true e ih = hit (eqb (get_or ws (2 * (s + n)) 0) k) (eqb→eq (s + n) i (subst T (sym e) tt)) refl ih
    here false e ih = at (eqb (get_or ws (2 * (s + n)) 0) k) true (get_or-set_other ws (2 * i + 1) (2 * (s + n) + 1) b 0 (apart e)) refl ih
      where
        apart : eqb (s + n) i ≡ false → 2 * (s + n) + 1 ≡ 2 * i + 1 → ⊥
        apart e q = eqb-false (s + n) i e (omega arith)

or_left : (c d : Bool) → (c || d) ≡ false → c ≡ false
or_left true d h = h
or_left false d h = refl

or_right : (c d : Bool) → (c || d) ≡ false → d ≡ false
or_right true d h = absurd (subst T h tt)
or_right false d h = h

over_ways : (ws : List ℕ) (i b k : ℕ) (l : Log) (c : Bool) (es : List ℕ) (s : ℕ) → 2 * i + 1 < length ws → (get_or ws (2 * i) 0 ≡ k → eqb b 1 ≡ c) → gone_in (ways ws s es) l k ≡ c → gone_in (ways (set ws (2 * i + 1) b) s es) l k ≡ c
over_ways ws i b k l c [] s h p q = q
over_ways ws i b k l true (e ∷ es) s h p q = go (find (part ws s (e - s) ++ l) k) refl q (over_part ws i b s (e - s) k l h) (over_ways ws i b k l true es e h p)
  where
    or_true : (c : Bool) → (c || true) ≡ true
    or_true true = refl
    or_true false = refl

    go : (f : Bool) → find (part ws s (e - s) ++ l) k ≡ f → (f || gone_in (ways ws e es) l k) ≡ true → (find (part (set ws (2 * i + 1) b) s (e - s) ++ l) k ≡ find (part ws s (e - s) ++ l) k) ⊎ ((get_or ws (2 * i) 0 ≡ k) × (find (part (set ws (2 * i + 1) b) s (e - s) ++ l) k ≡ eqb b 1)) → (gone_in (ways ws e es) l k ≡ true → gone_in (ways (set ws (2 * i + 1) b) e es) l k ≡ true) → (find (part (set ws (2 * i + 1) b) s (e - s) ++ l) k || gone_in (ways (set ws (2 * i + 1) b) e es) l k) ≡ true
    go true t q (inl u) r = ap (λ x. x || gone_in (ways (set ws (2 * i + 1) b) e es) l k) (u ∙ t)
    go true t q (inr u) r = ap (λ x. x || gone_in (ways (set ws (2 * i + 1) b) e es) l k) (u.1 ∙ p u.0)
    go false t q u r = ap (λ x. find (part (set ws (2 * i + 1) b) s (e - s) ++ l) k || x) (r q) ∙ or_true (find (part (set ws (2 * i + 1) b) s (e - s) ++ l) k)
over_ways ws i b k l false (e ∷ es) s h p q = ap₂ ◌||◌ (go (over_part ws i b s (e - s) k l h)) (over_ways ws i b k l false es e h p (or_right (find (part ws s (e - s) ++ l) k) (gone_in (ways ws e es) l k) q))
  where
    go : (find (part (set ws (2 * i + 1) b) s (e - s) ++ l) k ≡ find (part ws s (e - s) ++ l) k) ⊎ ((get_or ws (2 * i) 0 ≡ k) × (find (part (set ws (2 * i + 1) b) s (e - s) ++ l) k ≡ eqb b 1)) → find (part (set ws (2 * i + 1) b) s (e - s) ++ l) k ≡ false
    go (inl u) = u ∙ or_left (find (part ws s (e - s) ++ l) k) (gone_in (ways ws e es) l k) q
    go (inr u) = u.1 ∙ p u.0

-- a place's entry that says the join changes nothing of it
pub over_word : (ws : List ℕ) (i b : ℕ) (l : Log) (es : List ℕ) (from : ℕ) → 2 * i + 1 < length ws → eqb b 1 ≡ gone_in (ways ws from es) l (get_or ws (2 * i) 0) → (k : ℕ) → gone_in (ways (set ws (2 * i + 1) b) from es) l k ≡ gone_in (ways ws from es) l k
over_word ws i b l es from h q k = over_ways ws i b k l (gone_in (ways ws from es) l k) es from h (λ e. q ∙ ap (gone_in (ways ws from es) l) e) refl

-- an entry that is written again with what it was says: only its second word may change
pub put_again : (ws vs : List ℕ) (i p b : ℕ) → p ≡ get_or ws (2 * i) 0 → vs ≡ set (set ws (2 * i) p) (2 * i + 1) b → vs ≡ set ws (2 * i + 1) b
put_again ws vs i p b h e = e ∙ ap (λ u. set u (2 * i + 1) b) (ap (set ws (2 * i)) h ∙ set-get_or ws (2 * i) 0)

pub bit_is : (b : Bool) → eqb (bit_of b) 1 ≡ b
bit_is true = refl
bit_is false = refl

-- one turn of the join: us as it was, ws with what lies below i written
module _ (ws us gs es : List ℕ) (from count i b : ℕ) (long : 2 * i + 1 < length ws) (after : from ≤ i)
    (low : (j : ℕ) → j < 2 * from → get_or ws j 0 ≡ get_or us j 0) (high : (j : ℕ) → 2 * i ≤ j → get_or ws j 0 ≡ get_or us j 0)
    (all : (k : ℕ) → gone_in (ways ws from es) (lives us gs count from) k ≡ gone_in (ways us from es) (lives us gs count from) k)
    (is : eqb b 1 ≡ behind (ways ws from es) (get_or ws (2 * i) 0) (find (lives ws gs count from) (get_or ws (2 * i) 0))) where
  written : eqb b 1 ≡ gone_in (ways ws from es) (lives us gs count from) (get_or ws (2 * i) 0)
  written = is ∙ ap (λ l. behind (ways ws from es) (get_or ws (2 * i) 0) (find l (get_or ws (2 * i) 0))) (lives_same ws us gs count from (2 * from) (omega arith) low) ∙ sym (behind_is (ways ws from es) (lives us gs count from) (get_or ws (2 * i) 0))

  pub join_low : (j : ℕ) → j < 2 * from → get_or (set ws (2 * i + 1) b) j 0 ≡ get_or us j 0
  join_low j h = get_or-set_other ws (2 * i + 1) j b 0 (omega arith) ∙ low j h

  pub join_high : (j : ℕ) → 2 * (i + 1) ≤ j → get_or (set ws (2 * i + 1) b) j 0 ≡ get_or us j 0
  join_high j h = get_or-set_other ws (2 * i + 1) j b 0 (omega arith) ∙ high j (omega arith)

  pub join_all : (k : ℕ) → gone_in (ways (set ws (2 * i + 1) b) from es) (lives us gs count from) k ≡ gone_in (ways us from es) (lives us gs count from) k
  join_all k = over_word ws i b (lives us gs count from) es from long written k ∙ all k

  pub join_part : part ws from (i - from) ≡ rewrite (part us from (i - from)) (ways us from es) (lives us gs count from) → part (set ws (2 * i + 1) b) from ((i + 1) - from) ≡ rewrite (part us from ((i + 1) - from)) (ways us from es) (lives us gs count from)
  join_part h = let e : (i + 1) - from ≡ suc (i - from) = omega arith in let f : from + (i - from) ≡ i = omega arith in
      ap (part (set ws (2 * i + 1) b) from) e
      ∙ ap₂ (λ j l. entry_at (set ws (2 * i + 1) b) j ∷ l) f (part_same (set ws (2 * i + 1) b) ws from (i - from) (2 * i) (omega arith) (λ j q. get_or-set_other ws (2 * i + 1) j b 0 (omega arith)) ∙ h)
      ∙ ap₂ (λ p g. gone_at p g ∷ rewrite (part us from (i - from)) (ways us from es) (lives us gs count from)) (get_or-set_other ws (2 * i + 1) (2 * i) b 0 (omega arith) ∙ high (2 * i) (omega arith)) (ap (λ g. eqb g 1) (get_or-set_same ws (2 * i + 1) b 0 long) ∙ written ∙ ap (gone_in (ways ws from es) (lives us gs count from)) (high (2 * i) (omega arith)) ∙ all (get_or us (2 * i) 0))
      ∙ sym (ap (λ j. gone_at (get_or us (2 * j) 0) (gone_in (ways us from es) (lives us gs count from) (get_or us (2 * j) 0)) ∷ rewrite (part us from (i - from)) (ways us from es) (lives us gs count from)) f)
      ∙ sym (ap (λ n. rewrite (part us from n) (ways us from es) (lives us gs count from)) e)

  abbrev pub Turned : List ℕ → Type 0
  Turned vs = ((j : ℕ) → j < 2 * from → get_or vs j 0 ≡ get_or us j 0)
      × ((j : ℕ) → 2 * (i + 1) ≤ j → get_or vs j 0 ≡ get_or us j 0)
      × ((k : ℕ) → gone_in (ways vs from es) (lives us gs count from) k ≡ gone_in (ways us from es) (lives us gs count from) k)
      × (part vs from ((i + 1) - from) ≡ rewrite (part us from ((i + 1) - from)) (ways us from es) (lives us gs count from))

  pub join_turn : (vs : List ℕ) → vs ≡ set ws (2 * i + 1) b → part ws from (i - from) ≡ rewrite (part us from (i - from)) (ways us from es) (lives us gs count from) → Turned vs
  join_turn vs e h = subst Turned (sym e) (join_low, join_high, join_all, join_part h)
