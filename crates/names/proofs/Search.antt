-- A search over the buckets of a table: what was passed, and what is known where it ends.
use Rattle.std.proofs.Common.{◌≡◌, ℕ, ◌+◌, ◌-◌, ◌<◌, ◌≤◌, ◌≢◌, false, ◌⊎◌, List, length, get_or, sym, ap, ◌∙◌, subst, inl, inr, Some, None, Option as Maybe, MatchOption, true≢false, arith}
use Rattle.std.proofs.lemmas.Bool.{cases_order, cases_eq, cases_lt}
use Rattle.language.specs.Base.{Lexeme, same}
use Rattle.lexer.specs.declared.name.Name.{Name}
use Rattle.lexer.specs.Spelling.{lexeme_at, spelling}
use Rattle.lexer.proofs.Same.{same_refl}
use Rattle.names.specs.declared.spot.Spot.{Spot}
use Rattle.names.specs.declared.spot.Spot.TheVariants.{Taken, Free}
use Rattle.names.specs.Hash.{home, walk}
use Rattle.names.specs.Table.{Has, Reached, Sound, IsFull, Room, Stopped}
use Rattle.names.specs.Passes.{Passed, PassedIn, StoppedIn}
use Rattle.names.proofs.Walks.{walk_up, walk_on}

-- the first d buckets of the walk are taken by other spellings
abbrev pub AllPassed : List ℕ → List ℕ → Lexeme → ℕ → ℕ → Type 0
AllPassed text table w start d = (e : ℕ) → e < d → Passed text table w (walk (length table) start e)

module _ (text table : List ℕ) (w : Lexeme) where
  pub passed : (i : ℕ) → (get_or table i 0 ≡ 0 → ⊥) → same (lexeme_at text (get_or table i 0 - 1)) w ≡ false → Passed text table w i
  passed i taken differs = record {
    taken = taken;
    other = λ p holds is.
        let back : get_or table i 0 - 1 ≡ p = omega (arith, holds) in
        true≢false (sym (same_refl w) ∙ ap (λ v. same v w) (sym is) ∙ ap (λ q. same (lexeme_at text q) w) (sym back) ∙ differs);
  }

  pub passed_more : (from i : ℕ) → PassedIn text table w from i → Passed text table w i → PassedIn text table w from (i + 1)
  passed_more from i before here j low high = on (cases_eq j i)
    where
      on : (j ≡ i) ⊎ (j ≢ i) → Passed text table w j
      on (inl is) = subst (Passed text table w) (sym is) here
      on (inr ne) = before j low (omega arith)

  pub all_taken : (start : ℕ) → PassedIn text table w start (length table) → PassedIn text table w 0 start → IsFull table
  all_taken start first second i inside = on (cases_lt i start)
    where
      on : (i < start) ⊎ (start ≤ i) → get_or table i 0 ≢ 0
      on (inl low) = (second i (omega arith) low).taken
      on (inr high) = (first i high inside).taken

  -- along the walk: up to the end, and behind it
  walked : (start i : ℕ) → i ≤ length table → PassedIn text table w start i → AllPassed text table w start (i - start)
  walked start i inside before e h = subst (Passed text table w) (sym (walk_up (length table) start e (omega arith))) (before (start + e) (omega arith) (omega arith))

  walked_on : (start i : ℕ) → start < length table → i < start → PassedIn text table w start (length table) → PassedIn text table w 0 i → AllPassed text table w start (i + (length table - start))
  walked_on start i inside below first second e h = on (cases_lt e (length table - start))
    where
      on : (e < length table - start) ⊎ (length table - start ≤ e) → Passed text table w (walk (length table) start e)
      on (inl low) = walked start (length table) (omega arith) first e low
      on (inr high) =
          let p : ℕ = e - (length table - start) in
          let is : e ≡ p + (length table - start) = omega arith in
          subst (λ n. Passed text table w (walk (length table) start n)) (sym is)
          (subst (Passed text table w) (sym (walk_on (length table) start p inside (omega arith))) (second p (omega arith) (omega arith)))

  pub room : (d i : ℕ) → i < length table → get_or table i 0 ≡ 0 → walk (length table) (home (length table) w) d ≡ i → AllPassed text table w (home (length table) w) d → Room text table w i
  room d i inside free at before = record {
    within = inside;
    free = free;
    reached = (d, at, λ e h. (before e h).taken);
    absent = absent;
  }
    where
      absent : Sound text table → (p : ℕ) → Has table p → lexeme_at text p ≡ w → ⊥
      absent sound p has is = on (cases_order r.0 d)
        where
          r : Reached (length table) table (home (length table) w) has.0
          r = subst (λ v. Reached (length table) table (home (length table) v) has.0) is (sound.reached has.0 p has.1)

          on : (r.0 ≡ d) ⊎ ((r.0 < d) ⊎ (d < r.0)) → ⊥
          on (inl same_d) =
              let none : p + 1 ≡ 0 = sym has.1 ∙ ap (λ k. get_or table k 0) (sym r.1 ∙ ap (walk (length table) (home (length table) w)) same_d ∙ at) ∙ free in
              absurd (omega (arith, none))
          on (inr (inl low)) = (before r.0 low).other p (ap (λ k. get_or table k 0) r.1 ∙ has.1) is
          on (inr (inr high)) = r.2 d high (ap (λ k. get_or table k 0) at ∙ free)

  pub room_from : (start d i : ℕ) → start ≡ home (length table) w → i < length table → get_or table i 0 ≡ 0 → walk (length table) start d ≡ i → AllPassed text table w start d → Room text table w i
  room_from start d i is inside free at before =
      room d i inside free (ap (λ k. walk (length table) k d) (sym is) ∙ at) (subst (λ k. AllPassed text table w k d) is before)

  pub found : (i : ℕ) → (get_or table i 0 ≡ 0 → ⊥) → Has table (get_or table i 0 - 1)
  found i taken = (i, omega (arith, taken))

-- a search over the buckets from the first one on, and over those before it
module _ (text table : List ℕ) (name : Name) (start : ℕ) (is : start ≡ home (length table) (spelling text name)) where
  abbrev w : Lexeme
  w = spelling text name

  pub stopped : (spot : Spot) → StoppedIn text table name start (length table) spot → Stopped text table name spot
  stopped (Taken x) s = s
  stopped (Free i) s =
      let up : start + (i - start) ≡ i = omega (arith, s.low) in
      room_from text table w start (i - start) i is s.high s.free (walk_up (length table) start (i - start) (omega (arith, s.high, s.low)) ∙ up)
      (walked text table w start i (omega (arith, s.high)) s.before)

  stopped_on : (spot : Spot) → start < length table → PassedIn text table w start (length table) → StoppedIn text table name 0 start spot → Stopped text table name spot
  stopped_on (Taken x) inside first s = s
  stopped_on (Free i) inside first s =
      let h : i < length table = omega (arith, s.high) in
      room_from text table w start (i + (length table - start)) i is h s.free (walk_on (length table) start i inside h)
      (walked_on text table w start i inside s.high first s.before)

  pub searched : (o : Maybe Spot) → start < length table → PassedIn text table w start (length table) → MatchOption o (PassedIn text table w 0 start) (StoppedIn text table name 0 start) → MatchOption o (IsFull table) (Stopped text table name)
  searched None inside first second = all_taken text table w start first second
  searched (Some spot) inside first stop = stopped_on spot inside first stop
