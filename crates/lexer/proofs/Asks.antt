-- The tests of the definition on the next lexeme, as questions to the token ahead.
use Rattle.std.proofs.Common.{◌≡◌, ℕ, zero, suc, ◌<◌, Bool, true, false, not, eqb, List, [], ◌∷◌, length, get_or, Some, None, Option as Maybe, sym, refl, ap, ◌∙◌, true≢false, arith, MatchOption}
use mathlib.Core.Option.{some, none}
use Rattle.std.proofs.lemmas.Bool.{and_parts, and_left, or_parts}
use Rattle.language.specs.Base.{Lexeme, same, is_in}
use Rattle.language.specs.Text.{peek, leading, is_lower, is_upper, is_number, value_of, reserved}
use Rattle.lexer.specs.Spelling.{spelling}
use Rattle.lexer.specs.Tokens.{spelled, drawn, signs, Means, digit, large, small}
use Rattle.lexer.specs.Left.{Next}
use Rattle.lexer.specs.Asks.{sign_ahead, keyword_ahead, lower_ahead, upper_ahead, number_ahead}
use Rattle.lexer.specs.declared.token.Keyword.{Keyword}
use Rattle.lexer.specs.declared.token.Keyword.TheVariants.{Data, Drop, By, Fn, Let, Put, If, Else, While, Take, View, Edit, Open, Inside, Give, Box, Ref, Mut, Int, Get}
use Rattle.lexer.specs.declared.token.Sign.{Sign}
use Rattle.lexer.specs.declared.token.Sign.TheVariants.{LeftParen, RightParen, LeftBrace, RightBrace, Comma, Semicolon, Colon, Bar, Gets, And, Star, Equal, Less, Plus, Minus, Slash, Percent}
use Rattle.lexer.specs.declared.token.Token.{Token}
use Rattle.lexer.specs.declared.token.Token.TheVariants.{Reserved, Mark, Lower, Upper, Number, BadNumber, Other}
use Rattle.lexer.proofs.Fits.{not_true}
use Rattle.lexer.proofs.Same.{apart, same_sym}
use Rattle.lexer.proofs.SameToken.{same_sign, same_keyword}

-- the first bytes of reserved words and of signs
pub record Word (w : Lexeme) : Type 0 where
  pub is_small : small (leading w) ≡ true
  pub no_large : large (leading w) ≡ false
  pub no_digit : digit (leading w) ≡ false

pub record Symbol (w : Lexeme) : Type 0 where
  pub no_small : small (leading w) ≡ false
  pub no_large : large (leading w) ≡ false
  pub no_digit : digit (leading w) ≡ false
  pub some_byte : eqb (leading w) 0 ≡ false

keyword_word : (k : Keyword) → Word (spelled k)
keyword_word Data = record { is_small = refl; no_large = refl; no_digit = refl }
keyword_word Drop = record { is_small = refl; no_large = refl; no_digit = refl }
keyword_word By = record { is_small = refl; no_large = refl; no_digit = refl }
keyword_word Fn = record { is_small = refl; no_large = refl; no_digit = refl }
keyword_word Let = record { is_small = refl; no_large = refl; no_digit = refl }
keyword_word Put = record { is_small = refl; no_large = refl; no_digit = refl }
keyword_word If = record { is_small = refl; no_large = refl; no_digit = refl }
keyword_word Else = record { is_small = refl; no_large = refl; no_digit = refl }
keyword_word While = record { is_small = refl; no_large = refl; no_digit = refl }
keyword_word Take = record { is_small = refl; no_large = refl; no_digit = refl }
keyword_word View = record { is_small = refl; no_large = refl; no_digit = refl }
keyword_word Edit = record { is_small = refl; no_large = refl; no_digit = refl }
keyword_word Open = record { is_small = refl; no_large = refl; no_digit = refl }
keyword_word Inside = record { is_small = refl; no_large = refl; no_digit = refl }
keyword_word Give = record { is_small = refl; no_large = refl; no_digit = refl }
keyword_word Box = record { is_small = refl; no_large = refl; no_digit = refl }
keyword_word Ref = record { is_small = refl; no_large = refl; no_digit = refl }
keyword_word Mut = record { is_small = refl; no_large = refl; no_digit = refl }
keyword_word Int = record { is_small = refl; no_large = refl; no_digit = refl }
keyword_word Get = record { is_small = refl; no_large = refl; no_digit = refl }

sign_symbol : (s : Sign) → Symbol (drawn s)
sign_symbol LeftParen = record { no_small = refl; no_large = refl; no_digit = refl; some_byte = refl }
sign_symbol RightParen = record { no_small = refl; no_large = refl; no_digit = refl; some_byte = refl }
sign_symbol LeftBrace = record { no_small = refl; no_large = refl; no_digit = refl; some_byte = refl }
sign_symbol RightBrace = record { no_small = refl; no_large = refl; no_digit = refl; some_byte = refl }
sign_symbol Comma = record { no_small = refl; no_large = refl; no_digit = refl; some_byte = refl }
sign_symbol Semicolon = record { no_small = refl; no_large = refl; no_digit = refl; some_byte = refl }
sign_symbol Colon = record { no_small = refl; no_large = refl; no_digit = refl; some_byte = refl }
sign_symbol Bar = record { no_small = refl; no_large = refl; no_digit = refl; some_byte = refl }
sign_symbol Gets = record { no_small = refl; no_large = refl; no_digit = refl; some_byte = refl }
sign_symbol And = record { no_small = refl; no_large = refl; no_digit = refl; some_byte = refl }
sign_symbol Star = record { no_small = refl; no_large = refl; no_digit = refl; some_byte = refl }
sign_symbol Equal = record { no_small = refl; no_large = refl; no_digit = refl; some_byte = refl }
sign_symbol Less = record { no_small = refl; no_large = refl; no_digit = refl; some_byte = refl }
sign_symbol Plus = record { no_small = refl; no_large = refl; no_digit = refl; some_byte = refl }
sign_symbol Minus = record { no_small = refl; no_large = refl; no_digit = refl; some_byte = refl }
sign_symbol Slash = record { no_small = refl; no_large = refl; no_digit = refl; some_byte = refl }
sign_symbol Percent = record { no_small = refl; no_large = refl; no_digit = refl; some_byte = refl }

keyword_no_name : (k : Keyword) → is_lower (spelled k) ≡ false
keyword_no_name Data = refl
keyword_no_name Drop = refl
keyword_no_name By = refl
keyword_no_name Fn = refl
keyword_no_name Let = refl
keyword_no_name Put = refl
keyword_no_name If = refl
keyword_no_name Else = refl
keyword_no_name While = refl
keyword_no_name Take = refl
keyword_no_name View = refl
keyword_no_name Edit = refl
keyword_no_name Open = refl
keyword_no_name Inside = refl
keyword_no_name Give = refl
keyword_no_name Box = refl
keyword_no_name Ref = refl
keyword_no_name Mut = refl
keyword_no_name Int = refl
keyword_no_name Get = refl

-- a lexeme that is in no list is none of its members
not_in : (w : Lexeme) (vs : List Lexeme) (n : ℕ) → n < length vs → is_in w vs ≡ false → same w (get_or vs n []) ≡ false
not_in w [] n h e = absurd (omega arith)
not_in w (v ∷ vs) zero h e = (or_parts (same w v) (is_in w vs) e).0
not_in w (v ∷ vs) (suc n) h e = not_in w vs n (omega arith) (or_parts (same w v) (is_in w vs) e).1

no_sign_in : (w : Lexeme) (s : Sign) → is_in w signs ≡ false → same w (drawn s) ≡ false
no_sign_in w LeftParen e = not_in w signs 0 (omega arith) e
no_sign_in w RightParen e = not_in w signs 1 (omega arith) e
no_sign_in w LeftBrace e = not_in w signs 2 (omega arith) e
no_sign_in w RightBrace e = not_in w signs 3 (omega arith) e
no_sign_in w Comma e = not_in w signs 4 (omega arith) e
no_sign_in w Semicolon e = not_in w signs 5 (omega arith) e
no_sign_in w Colon e = not_in w signs 6 (omega arith) e
no_sign_in w Bar e = not_in w signs 7 (omega arith) e
no_sign_in w Gets e = not_in w signs 8 (omega arith) e
no_sign_in w And e = not_in w signs 9 (omega arith) e
no_sign_in w Star e = not_in w signs 10 (omega arith) e
no_sign_in w Equal e = not_in w signs 11 (omega arith) e
no_sign_in w Less e = not_in w signs 12 (omega arith) e
no_sign_in w Plus e = not_in w signs 13 (omega arith) e
no_sign_in w Minus e = not_in w signs 14 (omega arith) e
no_sign_in w Slash e = not_in w signs 15 (omega arith) e
no_sign_in w Percent e = not_in w signs 16 (omega arith) e

no_keyword_in : (w : Lexeme) (k : Keyword) → is_in w reserved ≡ false → same w (spelled k) ≡ false
no_keyword_in w Data e = not_in w reserved 0 (omega arith) e
no_keyword_in w Drop e = not_in w reserved 1 (omega arith) e
no_keyword_in w By e = not_in w reserved 2 (omega arith) e
no_keyword_in w Fn e = not_in w reserved 3 (omega arith) e
no_keyword_in w Let e = not_in w reserved 4 (omega arith) e
no_keyword_in w Put e = not_in w reserved 5 (omega arith) e
no_keyword_in w If e = not_in w reserved 6 (omega arith) e
no_keyword_in w Else e = not_in w reserved 7 (omega arith) e
no_keyword_in w While e = not_in w reserved 8 (omega arith) e
no_keyword_in w Take e = not_in w reserved 9 (omega arith) e
no_keyword_in w View e = not_in w reserved 10 (omega arith) e
no_keyword_in w Edit e = not_in w reserved 11 (omega arith) e
no_keyword_in w Open e = not_in w reserved 12 (omega arith) e
no_keyword_in w Inside e = not_in w reserved 13 (omega arith) e
no_keyword_in w Give e = not_in w reserved 14 (omega arith) e
no_keyword_in w Box e = not_in w reserved 15 (omega arith) e
no_keyword_in w Ref e = not_in w reserved 16 (omega arith) e
no_keyword_in w Mut e = not_in w reserved 17 (omega arith) e
no_keyword_in w Int e = not_in w reserved 18 (omega arith) e
no_keyword_in w Get e = not_in w reserved 19 (omega arith) e

-- a byte is of one class
small_not : (b : ℕ) → small b ≡ true → (large b ≡ false) × (digit b ≡ false)
small_not b e = (grind (arith, e), grind (arith, e))

large_not : (b : ℕ) → large b ≡ true → (small b ≡ false) × (digit b ≡ false)
large_not b e = (grind (arith, e), grind (arith, e))

digit_not : (b : ℕ) → digit b ≡ true → (small b ≡ false) × (large b ≡ false)
digit_not b e = (grind (arith, e), grind (arith, e))

no : {b : Bool} → b ≡ false → b ≡ true → ⊥
no f t = true≢false (sym t ∙ f)

yes_no : {b : Bool} → b ≡ true → b ≡ false → ⊥
yes_no t f = true≢false (sym t ∙ f)

lower_small : (w : Lexeme) → is_lower w ≡ true → (small (leading w) ≡ true) × (is_in w reserved ≡ false)
lower_small w e =
    let both = and_parts (small (leading w)) (not (is_in w reserved)) e in
    (both.0, not_true (is_in w reserved) both.1)

sign_of_token : (text : List ℕ) (t : Token) (w : Lexeme) (s : Sign) → Means text t w → same w (drawn s) ≡ sign_ahead (Some t) s
sign_of_token text (Reserved k) w s m = ap (λ v. same v (drawn s)) m ∙ apart small (spelled k) (drawn s) (keyword_word k).is_small (no (sign_symbol s).no_small)
sign_of_token text (Mark t) w s m = ap (λ v. same v (drawn s)) m ∙ same_sign t s
sign_of_token text (Lower x) w s m = apart small w (drawn s) (lower_small w m.0).0 (no (sign_symbol s).no_small)
sign_of_token text (Upper x) w s m = apart large w (drawn s) m.0 (no (sign_symbol s).no_large)
sign_of_token text (Number n) w s m = apart digit w (drawn s) m.0 (no (sign_symbol s).no_digit)
sign_of_token text BadNumber w s m = apart digit w (drawn s) m.0 (no (sign_symbol s).no_digit)
sign_of_token text Other w s m = no_sign_in w s m.no_sign

keyword_of_token : (text : List ℕ) (t : Token) (w : Lexeme) (k : Keyword) → Means text t w → same w (spelled k) ≡ keyword_ahead (Some t) k
keyword_of_token text (Reserved t) w k m = ap (λ v. same v (spelled k)) m ∙ same_keyword t k
keyword_of_token text (Mark s) w k m = ap (λ v. same v (spelled k)) m ∙ apart small (drawn s) (spelled k) (sign_symbol s).no_small (yes_no (keyword_word k).is_small)
keyword_of_token text (Lower x) w k m = no_keyword_in w k (lower_small w m.0).1
keyword_of_token text (Upper x) w k m = apart large w (spelled k) m.0 (no (keyword_word k).no_large)
keyword_of_token text (Number n) w k m = apart digit w (spelled k) m.0 (no (keyword_word k).no_digit)
keyword_of_token text BadNumber w k m = apart digit w (spelled k) m.0 (no (keyword_word k).no_digit)
keyword_of_token text Other w k m = no_keyword_in w k m.no_keyword

no_lower : (w : Lexeme) → small (leading w) ≡ false → is_lower w ≡ false
no_lower w e = and_left (small (leading w)) (not (is_in w reserved)) e

abbrev Lowers : List ℕ → Maybe Token → Lexeme → Type 0
Lowers text o w = MatchOption (lower_ahead o) (is_lower w ≡ false) (λ x. (is_lower w ≡ true) × (spelling text x ≡ w))

lower_of_token : (text : List ℕ) (t : Token) (w : Lexeme) → Means text t w → Lowers text (Some t) w
lower_of_token text (Reserved k) w m = ap is_lower m ∙ keyword_no_name k
lower_of_token text (Mark s) w m = ap is_lower m ∙ no_lower (drawn s) (sign_symbol s).no_small
lower_of_token text (Lower x) w m = m
lower_of_token text (Upper x) w m = no_lower w (large_not (leading w) m.0).0
lower_of_token text (Number n) w m = no_lower w (digit_not (leading w) m.0).0
lower_of_token text BadNumber w m = no_lower w (digit_not (leading w) m.0).0
lower_of_token text Other w m = m.no_lower

abbrev Uppers : List ℕ → Maybe Token → Lexeme → Type 0
Uppers text o w = MatchOption (upper_ahead o) (is_upper w ≡ false) (λ x. (is_upper w ≡ true) × (spelling text x ≡ w))

upper_of_token : (text : List ℕ) (t : Token) (w : Lexeme) → Means text t w → Uppers text (Some t) w
upper_of_token text (Reserved k) w m = ap is_upper m ∙ (keyword_word k).no_large
upper_of_token text (Mark s) w m = ap is_upper m ∙ (sign_symbol s).no_large
upper_of_token text (Lower x) w m = (small_not (leading w) (lower_small w m.0).0).0
upper_of_token text (Upper x) w m = m
upper_of_token text (Number n) w m = (digit_not (leading w) m.0).1
upper_of_token text BadNumber w m = (digit_not (leading w) m.0).1
upper_of_token text Other w m = m.no_upper

abbrev Numbers : Maybe Token → Lexeme → Type 0
Numbers o w = MatchOption (number_ahead o) (is_number w ≡ false) (λ v. (is_number w ≡ true) × MatchOption v (value_of w ≡ none) (λ n. value_of w ≡ some n))

number_of_token : (text : List ℕ) (t : Token) (w : Lexeme) → Means text t w → Numbers (Some t) w
number_of_token text (Reserved k) w m = ap is_number m ∙ (keyword_word k).no_digit
number_of_token text (Mark s) w m = ap is_number m ∙ (sign_symbol s).no_digit
number_of_token text (Lower x) w m = (small_not (leading w) (lower_small w m.0).0).1
number_of_token text (Upper x) w m = (large_not (leading w) m.0).1
number_of_token text (Number n) w m = m
number_of_token text BadNumber w m = m
number_of_token text Other w m = m.no_number

-- none is the end of a text
pub some_sign : (s : Sign) → same (drawn s) [] ≡ false
some_sign s = same_sym (drawn s) [] ∙ apart (λ b. eqb b 0) [] (drawn s) refl (no (sign_symbol s).some_byte)

pub some_keyword : (k : Keyword) → same (spelled k) [] ≡ false
some_keyword k = same_sym (spelled k) [] ∙ apart small [] (spelled k) refl (yes_no (keyword_word k).is_small)

-- the same of the next lexeme of many, which has no byte at the end
module _ (text : List ℕ) where
  pub asks_sign : (o : Maybe Token) (ws : List Lexeme) → Next text o ws → (s : Sign) → same (peek ws) (drawn s) ≡ sign_ahead o s
  asks_sign None ws h s = ap (λ v. same (peek v) (drawn s)) h ∙ apart (λ b. eqb b 0) [] (drawn s) refl (no (sign_symbol s).some_byte)
  asks_sign (Some t) ws h s = sign_of_token text t (peek ws) s h.1

  pub asks_keyword : (o : Maybe Token) (ws : List Lexeme) → Next text o ws → (k : Keyword) → same (peek ws) (spelled k) ≡ keyword_ahead o k
  asks_keyword None ws h k = ap (λ v. same (peek v) (spelled k)) h ∙ apart small [] (spelled k) refl (yes_no (keyword_word k).is_small)
  asks_keyword (Some t) ws h k = keyword_of_token text t (peek ws) k h.1

  pub asks_lower : (o : Maybe Token) (ws : List Lexeme) → Next text o ws → MatchOption (lower_ahead o) (is_lower (peek ws) ≡ false) (λ x. (is_lower (peek ws) ≡ true) × (spelling text x ≡ peek ws))
  asks_lower None ws h = ap (λ v. is_lower (peek v)) h
  asks_lower (Some t) ws h = lower_of_token text t (peek ws) h.1

  pub asks_upper : (o : Maybe Token) (ws : List Lexeme) → Next text o ws → MatchOption (upper_ahead o) (is_upper (peek ws) ≡ false) (λ x. (is_upper (peek ws) ≡ true) × (spelling text x ≡ peek ws))
  asks_upper None ws h = ap (λ v. is_upper (peek v)) h
  asks_upper (Some t) ws h = upper_of_token text t (peek ws) h.1

  pub asks_number : (o : Maybe Token) (ws : List Lexeme) → Next text o ws → MatchOption (number_ahead o) (is_number (peek ws) ≡ false) (λ v. (is_number (peek ws) ≡ true) × MatchOption v (value_of (peek ws) ≡ none) (λ n. value_of (peek ws) ≡ some n))
  asks_number None ws h = ap (λ v. is_number (peek v)) h
  asks_number (Some t) ws h = number_of_token text t (peek ws) h.1
