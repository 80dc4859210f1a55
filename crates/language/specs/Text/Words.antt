-- The words and signs of the language, names and numbers.
use Rattle.std.specs.Prelude.{Bool, ◌&&◌, ◌||◌, not, List, [], ◌∷◌, ℕ, ◌+◌, ◌-◌, ◌*◌, eqb, leb, ltb}
use Rattle.std.proofs.Math.Option.{Option, some, none}
use Rattle.language.specs.Base.{choose, if_some, Lexeme, is_in}

-- each by the numbers of its bytes
-- data
abbrev pub kw_data : Lexeme
kw_data = 100 ∷ 97 ∷ 116 ∷ 97 ∷ []

-- drop
abbrev pub kw_drop : Lexeme
kw_drop = 100 ∷ 114 ∷ 111 ∷ 112 ∷ []

-- by
abbrev pub kw_by : Lexeme
kw_by = 98 ∷ 121 ∷ []

-- fn
abbrev pub kw_fn : Lexeme
kw_fn = 102 ∷ 110 ∷ []

-- let
abbrev pub kw_let : Lexeme
kw_let = 108 ∷ 101 ∷ 116 ∷ []

-- put
abbrev pub kw_put : Lexeme
kw_put = 112 ∷ 117 ∷ 116 ∷ []

-- if
abbrev pub kw_if : Lexeme
kw_if = 105 ∷ 102 ∷ []

-- else
abbrev pub kw_else : Lexeme
kw_else = 101 ∷ 108 ∷ 115 ∷ 101 ∷ []

-- while
abbrev pub kw_while : Lexeme
kw_while = 119 ∷ 104 ∷ 105 ∷ 108 ∷ 101 ∷ []

-- take
abbrev pub kw_take : Lexeme
kw_take = 116 ∷ 97 ∷ 107 ∷ 101 ∷ []

-- view
abbrev pub kw_view : Lexeme
kw_view = 118 ∷ 105 ∷ 101 ∷ 119 ∷ []

-- edit
abbrev pub kw_edit : Lexeme
kw_edit = 101 ∷ 100 ∷ 105 ∷ 116 ∷ []

-- open
abbrev pub kw_open : Lexeme
kw_open = 111 ∷ 112 ∷ 101 ∷ 110 ∷ []

-- inside
abbrev pub kw_inside : Lexeme
kw_inside = 105 ∷ 110 ∷ 115 ∷ 105 ∷ 100 ∷ 101 ∷ []

-- give
abbrev pub kw_give : Lexeme
kw_give = 103 ∷ 105 ∷ 118 ∷ 101 ∷ []

-- box
abbrev pub kw_box : Lexeme
kw_box = 98 ∷ 111 ∷ 120 ∷ []

-- ref
abbrev pub kw_ref : Lexeme
kw_ref = 114 ∷ 101 ∷ 102 ∷ []

-- mut
abbrev pub kw_mut : Lexeme
kw_mut = 109 ∷ 117 ∷ 116 ∷ []

-- int
abbrev pub kw_int : Lexeme
kw_int = 105 ∷ 110 ∷ 116 ∷ []

-- get
abbrev pub kw_get : Lexeme
kw_get = 103 ∷ 101 ∷ 116 ∷ []

-- (
abbrev pub sg_lp : Lexeme
sg_lp = 40 ∷ []

-- )
abbrev pub sg_rp : Lexeme
sg_rp = 41 ∷ []

-- {
abbrev pub sg_lc : Lexeme
sg_lc = 123 ∷ []

-- }
abbrev pub sg_rc : Lexeme
sg_rc = 125 ∷ []

-- ,
abbrev pub sg_comma : Lexeme
sg_comma = 44 ∷ []

-- ;
abbrev pub sg_semi : Lexeme
sg_semi = 59 ∷ []

-- :
abbrev pub sg_colon : Lexeme
sg_colon = 58 ∷ []

-- |
abbrev pub sg_bar : Lexeme
sg_bar = 124 ∷ []

-- =
abbrev pub sg_gets : Lexeme
sg_gets = 61 ∷ []

-- &
abbrev pub sg_and : Lexeme
sg_and = 38 ∷ []

-- *
abbrev pub sg_star : Lexeme
sg_star = 42 ∷ []

-- ==
abbrev pub sg_is : Lexeme
sg_is = 61 ∷ 61 ∷ []

-- <
abbrev pub sg_less : Lexeme
sg_less = 60 ∷ []

-- +
abbrev pub sg_plus : Lexeme
sg_plus = 43 ∷ []

-- -
abbrev pub sg_minus : Lexeme
sg_minus = 45 ∷ []

-- /
abbrev pub sg_over : Lexeme
sg_over = 47 ∷ []

-- %
abbrev pub sg_rest : Lexeme
sg_rest = 37 ∷ []

-- no name is one of these
abbrev pub reserved : List Lexeme
reserved =
    kw_data ∷ kw_drop ∷ kw_by ∷ kw_fn ∷ kw_let ∷ kw_put ∷ kw_if ∷ kw_else ∷ kw_while ∷ kw_take ∷ kw_view ∷ kw_edit ∷ kw_open ∷ kw_inside
    ∷ kw_give ∷ kw_box ∷ kw_ref ∷ kw_mut ∷ kw_int ∷ kw_get ∷ []

-- a token's first byte
abbrev pub leading : Lexeme → ℕ
leading [] = 0
leading (byte ∷ bytes) = byte

abbrev pub is_number : Lexeme → Bool
is_number token = leb 48 (leading token) && leb (leading token) 57

-- constructors begin with a large letter, all other names with a small one or _
abbrev pub is_upper : Lexeme → Bool
is_upper token = leb 65 (leading token) && leb (leading token) 90

abbrev pub is_lower : Lexeme → Bool
is_lower token = ((leb 97 (leading token) && leb (leading token) 122) || eqb (leading token) 95) && not (is_in token reserved)

-- the number of these digits behind a number that is already read; none where one isn't a digit
abbrev pub decimal : ℕ → Lexeme → Option ℕ
decimal number [] = some number
decimal number (byte ∷ bytes) = choose (leb 48 byte && leb byte 57) (decimal (number * 10 + (byte - 48)) bytes) none

-- numbers are below 2^64
abbrev pub value_of : Lexeme → Option ℕ
value_of token = if_some (decimal 0 token) (λ number. choose (ltb number 18446744073709551616) (some number) none)
