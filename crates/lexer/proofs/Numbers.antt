-- Decimal numbers, digit by digit.
use Rattle.std.proofs.Common.{◌≡◌, ℕ, ◌+◌, ◌-◌, ◌*◌, ◌<◌, ◌≤◌, Bool, true, false, ◌&&◌, ltb, leb, [], ◌∷◌, length, get_or, drop, sym, refl, ap, ◌∙◌, arith}
use mathlib.Core.Option.{Option, some, none}
use Rattle.std.proofs.lemmas.List.{drop_more}
use Rattle.std.proofs.lemmas.Bool.{le-leb, le-ltb, and_from}
use Rattle.language.specs.Base.{Lexeme, choose, if_some}
use Rattle.language.specs.Text.{decimal, value_of}
use Rattle.lexer.proofs.Cut.{choose_true, choose_false}

abbrev fits : ℕ → Option ℕ
fits n = choose (ltb n 18446744073709551616) (some n) none

module _ (part : Lexeme) (i n : ℕ) where
  pub digit_more : i < length part → 48 ≤ get_or part i 0 → get_or part i 0 ≤ 57 → decimal n (drop i part) ≡ decimal (n * 10 + (get_or part i 0 - 48)) (drop (i + 1) part)
  digit_more inside low high = ap (decimal n) (drop_more part i 0 inside) ∙ choose_true _ _ (and_from _ _ (le-leb 48 _ low) (le-leb _ 57 high))

chosen_some : {A : Type 0} (t : Bool) (o : Option A) (x : A) → choose t o none ≡ some x → o ≡ some x
chosen_some true o x e = e
chosen_some false o x e = let z : ◌≡◌ {A = ℕ} 0 1 = cc in absurd (omega arith)

-- a number does not become smaller by more digits
grows : (part : Lexeme) (n m : ℕ) → decimal n part ≡ some m → n ≤ m
grows [] n m e = let same : n ≡ m = cc in omega arith
grows (b ∷ part) n m e = omega (arith, grows part (n * 10 + (b - 48)) m (chosen_some (leb 48 b && leb b 57) _ m e))

big_at : (o : Option ℕ) → ((m : ℕ) → o ≡ some m → 18446744073709551616 ≤ m) → if_some o fits ≡ none
big_at none h = refl
big_at (some m) h = choose_false _ _ (le-ltb m 18446744073709551616 (h m refl))

pub value_big : (part rest : Lexeme) (n : ℕ) → 18446744073709551616 ≤ n → decimal 0 part ≡ decimal n rest → value_of part ≡ none
value_big part rest n h e = big_at (decimal 0 part) (λ m is. omega (arith, grows rest n m (sym e ∙ is)))
