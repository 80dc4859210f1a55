-- The class of a lexeme, by its first byte.
use Rattle.std.proofs.Common.{◌≡◌, ℕ, zero, suc, ◌+◌, ◌-◌, ◌<◌, ◌≤◌, Bool, true, false, not, List, ◌∷◌, length, get_or, take, drop, refl, ap, ◌∙◌, arith}
use Rattle.std.proofs.lemmas.List.{drop_more}
use Rattle.std.proofs.lemmas.Bool.{and_from, and_left}
use Rattle.language.specs.Base.{Lexeme, is_in}
use Rattle.language.specs.Text.{reserved, leading, is_lower, is_upper, is_number, is_word_byte}
use Rattle.lexer.specs.Places.{part}
use Rattle.lexer.specs.Tokens.{digit, large, small, signs, Stray}
use Rattle.lexer.proofs.Same.{none_in}

leads : (n b : ℕ) (bytes : List ℕ) → 0 < n → leading (take n (b ∷ bytes)) ≡ b
leads zero b bytes h = absurd (omega arith)
leads (suc n) b bytes h = refl

pub part_leads : (text : List ℕ) (i j : ℕ) → i < length text → i < j → leading (part text i j) ≡ get_or text i 0
part_leads text i j inside before = ap (λ bytes. leading (take (j - i) bytes)) (drop_more text i 0 inside) ∙ leads (j - i) (get_or text i 0) (drop (i + 1) text) (omega arith)

-- a lexeme that begins with no small letter is no reserved word
pub no_keyword : (w : Lexeme) → small (leading w) ≡ false → is_in w reserved ≡ false
no_keyword w e = none_in small w reserved e refl

pub small_word : (b : ℕ) → small b ≡ true → is_word_byte b ≡ true
small_word b e = grind (arith, e)

module _ (text : List ℕ) (i j : ℕ) (before : i < j) (within : j ≤ length text) where
  lead : leading (part text i j) ≡ get_or text i 0
  lead = part_leads text i j (omega arith) before

  pub number_by : {r : Bool} → digit (get_or text i 0) ≡ r → is_number (part text i j) ≡ r
  number_by e = ap digit lead ∙ e

  pub upper_by : {r : Bool} → large (get_or text i 0) ≡ r → is_upper (part text i j) ≡ r
  upper_by e = ap large lead ∙ e

  pub lower_by : small (get_or text i 0) ≡ true → is_in (part text i j) reserved ≡ false → is_lower (part text i j) ≡ true
  lower_by e free = and_from _ _ (ap small lead ∙ e) (ap not free)

  pub stray_by : digit (get_or text i 0) ≡ false → large (get_or text i 0) ≡ false → small (get_or text i 0) ≡ false → is_in (part text i j) signs ≡ false → Stray (part text i j)
  stray_by d l s free =
      let no = ap small lead ∙ s in
      record {
        no_keyword = no_keyword (part text i j) no;
        no_sign = free;
        no_lower = and_left (small (leading (part text i j))) (not (is_in (part text i j) reserved)) no;
        no_upper = upper_by l;
        no_number = number_by d;
      }
