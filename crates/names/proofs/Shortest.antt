-- From a name's own bucket there is one shortest way to each other bucket, so that a table that is sound in some way is sound by these.
use Rattle.std.proofs.Common.{◌≡◌, ℕ, ◌+◌, ◌-◌, ◌<◌, ◌≤◌, ◌⊎◌, List, length, get_or, sym, ap, ◌∙◌, inl, inr, arith, mod-lt}
use Rattle.std.proofs.lemmas.Bool.{cases_lt}
use Rattle.std.proofs.lemmas.List.{get_or_past}
use Rattle.std.proofs.Math.Logic.{∥∥₁_elim, ∥∥₁_map}
use mathlib.Core.HLevel.{⊥_prop}
use native.Mathlib.Nat.{ℕ_set}
use Rattle.lexer.specs.Spelling.{lexeme_at}
use Rattle.names.specs.Hash.{home, walk}
use Rattle.names.specs.Table.{Holds, Reached, Sound}
use Rattle.names.proofs.Walks.{walk_up, walk_on}

-- no way to a bucket is shorter than the one upwards, or than the one round the end
up_shortest : (m s i d : ℕ) → s ≤ i → i < m → walk m s d ≡ i → i - s ≤ d
up_shortest m s i d low inside at = on (cases_lt d (i - s))
  where
    on : (d < i - s) ⊎ (i - s ≤ d) → i - s ≤ d
    on (inl less) = let is : s + d ≡ i = sym (walk_up m s d (omega arith)) ∙ at in absurd (omega (arith, is))
    on (inr enough) = enough

round_shortest : (m s i d : ℕ) → s < m → i < s → walk m s d ≡ i → i + (m - s) ≤ d
round_shortest m s i d inside below at = on (cases_lt d (m - s)) (cases_lt d (i + (m - s)))
  where
    on : (d < m - s) ⊎ (m - s ≤ d) → (d < i + (m - s)) ⊎ (i + (m - s) ≤ d) → i + (m - s) ≤ d
    on (inl less) short = let is : s + d ≡ i = sym (walk_up m s d (omega arith)) ∙ at in absurd (omega (arith, is))
    on (inr more) (inl less) =
        let round : d - (m - s) + (m - s) ≡ d = omega arith in
        let is : d - (m - s) ≡ i = sym (walk_on m s (d - (m - s)) inside (omega arith)) ∙ ap (walk m s) round ∙ at in
        absurd (omega (arith, is))
    on (inr more) (inr enough) = enough

-- the shortest way, over buckets that are taken since the others have them too
module _ (table : List ℕ) (s i : ℕ) (reached : ∥ Reached (length table) table s i ∥₁) where
  over_taken : (d : ℕ) → ((e : ℕ) → walk (length table) s e ≡ i → d ≤ e) → (e : ℕ) → e < d → get_or table (walk (length table) s e) 0 ≡ 0 → ⊥
  over_taken d least e h free = ∥∥₁_elim reached ⊥_prop (λ r. r.2 e (omega (arith, h, least r.0 r.1)) free)

  by_shortest : s < length table → i < length table → Reached (length table) table s i
  by_shortest inside within = on (cases_lt i s)
    where
      on : (i < s) ⊎ (s ≤ i) → Reached (length table) table s i
      on (inl below) = (i + (length table - s), walk_on (length table) s i inside within, over_taken (i + (length table - s)) (λ e at. round_shortest (length table) s i e inside below at))
      on (inr low) =
          let up : s + (i - s) ≡ i = omega (arith, low) in
          (i - s, walk_up (length table) s (i - s) (omega (arith, low, within)) ∙ up, over_taken (i - s) (λ e at. up_shortest (length table) s i e low within at))

held_inside : (table : List ℕ) (i p : ℕ) → Holds table i p → i < length table
held_inside table i p holds = on (cases_lt i (length table))
  where
    on : (i < length table) ⊎ (length table ≤ i) → i < length table
    on (inl inside) = inside
    on (inr past) = let none : p + 1 ≡ 0 = sym holds ∙ get_or_past table i 0 past in absurd (omega (arith, none))

pub sound_again : (text table : List ℕ) → ∥ Sound text table ∥₁ → Sound text table
sound_again text table sound = record {
  reached = λ i p holds.
      let within : i < length table = held_inside table i p holds in
      by_shortest table (home (length table) (lexeme_at text p)) i (∥∥₁_map sound (λ s. s.reached i p holds)) (mod-lt _ (omega (arith, within))) within;
  apart = λ p q hp hq is. ∥∥₁_elim sound (ℕ_set p q) (λ s. s.apart p q hp hq is);
}
