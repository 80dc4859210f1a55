-- What a token says of its lexeme.
use Rattle.std.specs.Prelude.{◌≡◌, ℕ, Bool, true, false, not, ◌&&◌, ◌||◌, List, [], ◌∷◌, ◌==◌, nat_le}
use Rattle.std.proofs.Math.Option.{Option, some, none}
use Rattle.language.specs.Base.{Lexeme, same, is_in, present}
use Rattle.language.specs.Text.{kw_data, kw_drop, kw_by, kw_fn, kw_let, kw_put, kw_if, kw_else, kw_while, kw_take, kw_view, kw_edit, kw_open, kw_inside, kw_give, kw_box, kw_ref, kw_mut, kw_int, kw_get, sg_lp, sg_rp, sg_lc, sg_rc, sg_comma, sg_semi, sg_colon, sg_bar, sg_gets, sg_and, sg_star, sg_is, sg_less, sg_plus, sg_minus, sg_over, sg_rest, reserved, is_lower, is_upper, is_number, value_of}
use Rattle.lexer.specs.Spelling.{spelling}
use Rattle.lexer.specs.declared.token.Keyword.{Keyword}
use Rattle.lexer.specs.declared.token.Keyword.TheVariants.{Data, Drop, By, Fn, Let, Put, If, Else, While, Take, View, Edit, Open, Inside, Give, Box, Ref, Mut, Int, Get}
use Rattle.lexer.specs.declared.token.Sign.{Sign}
use Rattle.lexer.specs.declared.token.Sign.TheVariants.{LeftParen, RightParen, LeftBrace, RightBrace, Comma, Semicolon, Colon, Bar, Gets, And, Star, Equal, Less, Plus, Minus, Slash, Percent}
use Rattle.lexer.specs.declared.token.Token.{Token}
use Rattle.lexer.specs.declared.token.Token.TheVariants.{Reserved, Mark, Lower, Upper, Number, BadNumber, Other}

abbrev pub spelled : Keyword → Lexeme
spelled Data = kw_data
spelled Drop = kw_drop
spelled By = kw_by
spelled Fn = kw_fn
spelled Let = kw_let
spelled Put = kw_put
spelled If = kw_if
spelled Else = kw_else
spelled While = kw_while
spelled Take = kw_take
spelled View = kw_view
spelled Edit = kw_edit
spelled Open = kw_open
spelled Inside = kw_inside
spelled Give = kw_give
spelled Box = kw_box
spelled Ref = kw_ref
spelled Mut = kw_mut
spelled Int = kw_int
spelled Get = kw_get

abbrev pub drawn : Sign → Lexeme
drawn LeftParen = sg_lp
drawn RightParen = sg_rp
drawn LeftBrace = sg_lc
drawn RightBrace = sg_rc
drawn Comma = sg_comma
drawn Semicolon = sg_semi
drawn Colon = sg_colon
drawn Bar = sg_bar
drawn Gets = sg_gets
drawn And = sg_and
drawn Star = sg_star
drawn Equal = sg_is
drawn Less = sg_less
drawn Plus = sg_plus
drawn Minus = sg_minus
drawn Slash = sg_over
drawn Percent = sg_rest

abbrev pub signs : List Lexeme
signs = sg_lp ∷ sg_rp ∷ sg_lc ∷ sg_rc ∷ sg_comma ∷ sg_semi ∷ sg_colon ∷ sg_bar ∷ sg_gets ∷ sg_and ∷ sg_star ∷ sg_is ∷ sg_less ∷ sg_plus ∷ sg_minus ∷ sg_over ∷ sg_rest ∷ []

-- the first byte of a number, of a constructor's name, and of any other word
abbrev pub digit : ℕ → Bool
digit byte = nat_le 48 byte && nat_le byte 57

abbrev pub large : ℕ → Bool
large byte = nat_le 65 byte && nat_le byte 90

abbrev pub small : ℕ → Bool
small byte = (nat_le 97 byte && nat_le byte 122) || byte == 95

-- a lexeme of which no program has one
pub record Stray (w : Lexeme) : Type 0 where
  pub no_keyword : is_in w reserved ≡ false
  pub no_sign : is_in w signs ≡ false
  pub no_lower : is_lower w ≡ false
  pub no_upper : is_upper w ≡ false
  pub no_number : is_number w ≡ false

abbrev pub Means : List ℕ → Token → Lexeme → Type 0
Means text (Reserved k) w = w ≡ spelled k
Means text (Mark s) w = w ≡ drawn s
Means text (Lower x) w = (is_lower w ≡ true) × (spelling text x ≡ w)
Means text (Upper x) w = (is_upper w ≡ true) × (spelling text x ≡ w)
Means text (Number n) w = (is_number w ≡ true) × (value_of w ≡ some n)
Means text BadNumber w = (is_number w ≡ true) × (value_of w ≡ none)
Means text Other w = Stray w

abbrev pub has_value : Option ℕ → ℕ → Bool
has_value none n = false
has_value (some m) n = m == n

-- the same as a test
abbrev pub fits : List ℕ → Token → Lexeme → Bool
fits text (Reserved k) w = same w (spelled k)
fits text (Mark s) w = same w (drawn s)
fits text (Lower x) w = is_lower w && same (spelling text x) w
fits text (Upper x) w = is_upper w && same (spelling text x) w
fits text (Number n) w = is_number w && has_value (value_of w) n
fits text BadNumber w = is_number w && not (present (value_of w))
fits text Other w = not (is_in w reserved || (is_in w signs || (is_lower w || (is_upper w || is_number w))))
