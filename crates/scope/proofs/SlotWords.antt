-- Names in words, one after the other.
use Rattle.std.proofs.Common.{◌≡◌, ℕ, zero, suc, ◌+◌, ◌-◌, ◌*◌, ◌<◌, ◌≤◌, min, Bool, true, false, ◌&&◌, ◌||◌, T, eqb, List, [], ◌∷◌, length, get_or, sym, refl, ap, ◌∙◌, subst, ap₂, arith, eqb→eq}
use mathlib.Core.Option.{Option, some, none}
use Rattle.language.specs.Base.{choose, some_of, Lexeme, same}
use Rattle.language.specs.Checks.{Loan}
use Rattle.lexer.specs.Spelling.{spelling}
use Rattle.types.specs.Types.{type_of}
use Rattle.scope.specs.Loans.{leaves, slice}
use Rattle.scope.specs.Slots.{Slot, slot_of, stack, Found, found_at, seek, variable_at, slots_of, Sought}
use Rattle.scope.proofs.LoanWords.{some_of-++, leaves-++, slice_same}

abbrev slot_at : List ℕ → List ℕ → List ℕ → List ℕ → ℕ → ℕ → Slot
slot_at text code ns es h top = slot_of (spelling text (variable_at ns h).name) (type_of text code (variable_at ns h).ty) (slice text es (variable_at ns h).loans (top - (variable_at ns h).loans))

pub slots_step : (text code ns es : List ℕ) (h top : ℕ) → 0 < h → slots_of text code ns es h top ≡ slot_at text code ns es (h - 1) top ∷ slots_of text code ns es (h - 1) (min top (variable_at ns (h - 1)).loans)
slots_step text code ns es zero top p = absurd (omega arith)
slots_step text code ns es (suc h) top p = let e : h ≡ suc h - 1 = omega arith in ap (λ h. slot_at text code ns es h top ∷ slots_of text code ns es h (min top (variable_at ns h).loans)) e

pub length_slots : (text code ns es : List ℕ) (h top : ℕ) → length (slots_of text code ns es h top) ≡ h
length_slots text code ns es zero top = refl
length_slots text code ns es (suc h) top = ap suc (length_slots text code ns es h (min top (variable_at ns h).loans))

-- names that are spelled the same
pub same_is : (x y : Lexeme) → same x y ≡ true → x ≡ y
same_is [] [] h = refl
same_is [] (b ∷ y) h = absurd (subst T (sym h) tt)
same_is (a ∷ x) [] h = absurd (subst T (sym h) tt)
same_is (a ∷ x) (b ∷ y) h = go (eqb a b) (eqb→eq a b) h (same_is x y)
  where
    go : (c : Bool) → (T c → a ≡ b) → (c && same x y) ≡ true → (same x y ≡ true → x ≡ y) → a ∷ x ≡ b ∷ y
    go true f h g = ap₂ (λ a x. a ∷ x) (f tt) (g h)
    go false f h g = absurd (subst T (sym h) tt)

pub seek_hit : (text code ns es : List ℕ) (h hs t : ℕ) (x : Lexeme) (z : Option Found) → 0 < h → h ≤ hs → same (spelling text (variable_at ns (h - 1)).name) x ≡ true → seek (slots_of text code ns es h t) x ≡ z → Sought text code ns hs x (h - 1) z
seek_hit text code ns es h hs t x z p l e q = subst (Sought text code ns hs x (h - 1)) (sym (ap (λ vs. seek vs x) (slots_step text code ns es h t p) ∙ ap (λ b. choose b (some (found_at (slot_at text code ns es (h - 1) t) (slots_of text code ns es (h - 1) (min t (variable_at ns (h - 1)).loans)))) (seek (slots_of text code ns es (h - 1) (min t (variable_at ns (h - 1)).loans)) x)) e) ∙ q)
    (same_is (spelling text (variable_at ns (h - 1)).name) x e, refl, length_slots text code ns es (h - 1) (min t (variable_at ns (h - 1)).loans), omega arith)

pub seek_miss : (text code ns es : List ℕ) (h t : ℕ) (x : Lexeme) (z : Option Found) → 0 < h → same (spelling text (variable_at ns (h - 1)).name) x ≡ false → seek (slots_of text code ns es h t) x ≡ z → (u : ℕ) × (seek (slots_of text code ns es (h - 1) u) x ≡ z)
seek_miss text code ns es h t x z p e q = (min t (variable_at ns (h - 1)).loans, sym (ap (λ vs. seek vs x) (slots_step text code ns es h t p) ∙ ap (λ b. choose b (some (found_at (slot_at text code ns es (h - 1) t) (slots_of text code ns es (h - 1) (min t (variable_at ns (h - 1)).loans)))) (seek (slots_of text code ns es (h - 1) (min t (variable_at ns (h - 1)).loans)) x)) e) ∙ q)

pub seek_none : (text code ns es : List ℕ) (h t : ℕ) (x : Lexeme) (z : Option Found) → h ≤ 0 → seek (slots_of text code ns es h t) x ≡ z → z ≡ none
seek_none text code ns es h t x z p q = let e : h ≡ 0 = omega arith in sym q ∙ ap (λ h. seek (slots_of text code ns es h t) x) e

-- the entries of the newest name, then those of the others
some_step : (f : Loan → Bool) (text code ns es : List ℕ) (h t from : ℕ) (b z : Bool) → 0 < h → from ≡ (variable_at ns (h - 1)).loans → b ≡ some_of f (leaves (slice text es from (t - from))) → some_of f (leaves (stack (slots_of text code ns es h t))) ≡ z → (b || some_of f (leaves (stack (slots_of text code ns es (h - 1) (min t from))))) ≡ z
some_step f text code ns es h t from b z p e d q = ap₂ (λ b m. b || some_of f (leaves (stack (slots_of text code ns es (h - 1) (min t m))))) (d ∙ ap (λ m. some_of f (leaves (slice text es m (t - m)))) e) e
    ∙ sym (ap (λ vs. some_of f (leaves (stack vs))) (slots_step text code ns es h t p)
    ∙ ap (some_of f) (leaves-++ (slice text es (variable_at ns (h - 1)).loans (t - (variable_at ns (h - 1)).loans)) (stack (slots_of text code ns es (h - 1) (min t (variable_at ns (h - 1)).loans))))
    ∙ some_of-++ f (leaves (slice text es (variable_at ns (h - 1)).loans (t - (variable_at ns (h - 1)).loans))) (leaves (stack (slots_of text code ns es (h - 1) (min t (variable_at ns (h - 1)).loans)))))
    ∙ q

pub some_yes : (f : Loan → Bool) (text code ns es : List ℕ) (h t from : ℕ) (b z : Bool) → 0 < h → from ≡ (variable_at ns (h - 1)).loans → b ≡ some_of f (leaves (slice text es from (t - from))) → b ≡ true → some_of f (leaves (stack (slots_of text code ns es h t))) ≡ z → true ≡ z
some_yes f text code ns es h t from b z p e d y q = ap (λ b. b || some_of f (leaves (stack (slots_of text code ns es (h - 1) (min t from))))) (sym y) ∙ some_step f text code ns es h t from b z p e d q

pub some_no : (f : Loan → Bool) (text code ns es : List ℕ) (h t from : ℕ) (b z : Bool) → 0 < h → from ≡ (variable_at ns (h - 1)).loans → b ≡ some_of f (leaves (slice text es from (t - from))) → b ≡ false → some_of f (leaves (stack (slots_of text code ns es h t))) ≡ z → some_of f (leaves (stack (slots_of text code ns es (h - 1) (min t from)))) ≡ z
some_no f text code ns es h t from b z p e d y q = ap (λ b. b || some_of f (leaves (stack (slots_of text code ns es (h - 1) (min t from))))) (sym y) ∙ some_step f text code ns es h t from b z p e d q

-- a name whose seven words are the same
pub variable_same : (ws us : List ℕ) (i b : ℕ) → 7 * i + 7 ≤ b → ((j : ℕ) → j < b → get_or ws j 0 ≡ get_or us j 0) → variable_at ws i ≡ variable_at us i
variable_same ws us i b h s =
    let x = s (7 * i) (omega arith) in
    let o = s (7 * i + 1) (omega arith) in
    let n = s (7 * i + 2) (omega arith) in
    let t = s (7 * i + 3) (omega arith) in
    let k = s (7 * i + 4) (omega arith) in
    let l = s (7 * i + 5) (omega arith) in
    let m = s (7 * i + 6) (omega arith) in
    cc

pub slots_same : (text code ns ms es : List ℕ) (h top b : ℕ) → 7 * h ≤ b → ((j : ℕ) → j < b → get_or ns j 0 ≡ get_or ms j 0) → slots_of text code ns es h top ≡ slots_of text code ms es h top
slots_same text code ns ms es zero top b p s = refl
slots_same text code ns ms es (suc h) top b p s = ap (λ v. slot_of (spelling text v.name) (type_of text code v.ty) (slice text es v.loans (top - v.loans)) ∷ slots_of text code ns es h (min top v.loans)) (variable_same ns ms h b (omega arith) s) ∙ ap (λ vs. slot_at text code ms es h top ∷ vs) (slots_same text code ns ms es h (min top (variable_at ms h).loans) b (omega arith) s)

-- entries above a height are no matter
pub slots_loans : (text code ns es fs : List ℕ) (h top b : ℕ) → 2 * top ≤ b → ((j : ℕ) → j < b → get_or es j 0 ≡ get_or fs j 0) → slots_of text code ns es h top ≡ slots_of text code ns fs h top
slots_loans text code ns es fs zero top b p s = refl
slots_loans text code ns es fs (suc h) top b p s = ap₂ (λ l vs. slot_of (spelling text (variable_at ns h).name) (type_of text code (variable_at ns h).ty) l ∷ vs) (go (variable_at ns h).loans) (slots_loans text code ns es fs h (min top (variable_at ns h).loans) b (omega arith) s)
  where
    go : (m : ℕ) → slice text es m (top - m) ≡ slice text fs m (top - m)
    go m = cut (top - m) refl
      where
        cut : (n : ℕ) → top - m ≡ n → slice text es m n ≡ slice text fs m n
        cut zero e = refl
        cut (suc n) e = slice_same text es fs m (suc n) b (omega arith) s
