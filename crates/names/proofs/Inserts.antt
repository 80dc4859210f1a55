-- A name put into a free bucket.
use Rattle.std.proofs.Common.{◌≡◌, ℕ, ◌+◌, ◌<◌, ◌⊎◌, List, length, get_or, set, sym, ap, ◌∙◌, subst, inl, inr, arith, length-set, get_or-set_other, get_or-set_same}
use mathlib.Core.Logic.{∥∥₁_map}
use Rattle.std.proofs.lemmas.Bool.{cases_eq}
use Rattle.language.specs.Base.{Lexeme}
use Rattle.lexer.specs.Spelling.{lexeme_at}
use Rattle.names.specs.Hash.{home, walk}
use Rattle.names.specs.Table.{Holds, Reached, Sound, Room}

module _ (text table : List ℕ) (i q : ℕ) (within : i < length table) (free : get_or table i 0 ≡ 0) where
  abbrev after : List ℕ
  after = set table i (q + 1)

  here : get_or after i 0 ≡ q + 1
  here = get_or-set_same table i (q + 1) 0 within

  there : (j : ℕ) → (j ≡ i → ⊥) → get_or after j 0 ≡ get_or table j 0
  there j ne = get_or-set_other table i j (q + 1) 0 ne

  -- what is free was free
  still_taken : (j : ℕ) → (get_or table j 0 ≡ 0 → ⊥) → get_or after j 0 ≡ 0 → ⊥
  still_taken j taken empty = on (cases_eq j i)
    where
      on : (j ≡ i) ⊎ (j ≡ i → ⊥) → ⊥
      on (inl is) = let none : q + 1 ≡ 0 = sym here ∙ ap (λ k. get_or after k 0) (sym is) ∙ empty in absurd (omega (arith, none))
      on (inr ne) = taken (sym (there j ne) ∙ empty)

  still_reached : (w : Lexeme) (j : ℕ) → Reached (length table) table (home (length table) w) j → Reached (length after) after (home (length after) w) j
  still_reached w j r =
      subst (λ m. Reached m after (home m w) j) (sym (length-set table i (q + 1)))
      (r.0, r.1, λ e h. still_taken (walk (length table) (home (length table) w) e) (r.2 e h))

  -- what a bucket holds: what it held, or the new name
  was : (j p : ℕ) → Holds after j p → ((j ≡ i) × (p ≡ q)) ⊎ Holds table j p
  was j p holds = on (cases_eq j i)
    where
      on : (j ≡ i) ⊎ (j ≡ i → ⊥) → ((j ≡ i) × (p ≡ q)) ⊎ Holds table j p
      on (inl is) =
          let new : p + 1 ≡ q + 1 = sym holds ∙ ap (λ k. get_or after k 0) is ∙ here in
          let new' : p ≡ q = omega (arith, new) in
          inl (is, new')
      on (inr ne) = inr (sym (there j ne) ∙ holds)

  new_reached : Room text table (lexeme_at text q) i → Sound text table → (j p : ℕ) → ((j ≡ i) × (p ≡ q)) ⊎ Holds table j p → Reached (length after) after (home (length after) (lexeme_at text p)) j
  new_reached room sound j p (inl e) =
      subst (λ k. Reached (length after) after (home (length after) (lexeme_at text p)) k) (sym e.0)
      (subst (λ k. Reached (length after) after (home (length after) (lexeme_at text k)) i) (sym e.1) (still_reached (lexeme_at text q) i room.reached))
  new_reached room sound j p (inr holds) = still_reached (lexeme_at text p) j (sound.reached j p holds)

  new_apart : Room text table (lexeme_at text q) i → Sound text table → (a b j k : ℕ) → ((j ≡ i) × (a ≡ q)) ⊎ Holds table j a → ((k ≡ i) × (b ≡ q)) ⊎ Holds table k b → lexeme_at text a ≡ lexeme_at text b → a ≡ b
  new_apart room sound a b j k (inl e) (inl f) is = e.1 ∙ sym f.1
  new_apart room sound a b j k (inl e) (inr holds) is = absurd (room.absent sound b (k, holds) (sym is ∙ ap (lexeme_at text) e.1))
  new_apart room sound a b j k (inr holds) (inl f) is = absurd (room.absent sound a (j, holds) (is ∙ ap (lexeme_at text) f.1))
  new_apart room sound a b j k (inr g) (inr h) is = sound.apart a b (j, g) (k, h) is

  sound_new : Room text table (lexeme_at text q) i → Sound text table → Sound text after
  sound_new room sound = record {
    reached = λ j p holds. new_reached room sound j p (was j p holds);
    apart = λ a b ha hb is. new_apart room sound a b ha.0 hb.0 (was ha.0 a ha.1) (was hb.0 b hb.1) is;
  }

  pub still_sound : Room text table (lexeme_at text q) i → ∥ Sound text table ∥₁ → ∥ Sound text after ∥₁
  still_sound room sound = ∥∥₁_map sound (sound_new room)
