-- Questions to the token ahead, if there is one.
use Rattle.std.specs.Prelude.{ℕ, Bool, false, Some, None, Option, ◌==◌}
use Rattle.lexer.specs.declared.name.Name.{Name}
use Rattle.lexer.specs.declared.token.Keyword.{Keyword}
use Rattle.lexer.specs.declared.token.Keyword.TheVariants.{Data, Drop, By, Fn, Let, Put, If, Else, While, Take}
use Rattle.lexer.specs.declared.token.Keyword.TheVariants.{View, Edit, Open, Inside, Give, Box, Ref, Mut, Int, Get}
use Rattle.lexer.specs.declared.token.Sign.{Sign}
use Rattle.lexer.specs.declared.token.Sign.TheVariants.{LeftParen, RightParen, LeftBrace, RightBrace, Comma}
use Rattle.lexer.specs.declared.token.Sign.TheVariants.{Semicolon, Colon, Bar, Gets, And, Star, Equal, Less}
use Rattle.lexer.specs.declared.token.Sign.TheVariants.{Plus, Minus, Slash, Percent}
use Rattle.lexer.specs.declared.token.Token.{Token}
use Rattle.lexer.specs.declared.token.Token.TheVariants.{Reserved, Mark, Lower, Upper, Number, BadNumber, Other}

abbrev pub keyword_number : Keyword → ℕ
keyword_number Data = 0
keyword_number Drop = 1
keyword_number By = 2
keyword_number Fn = 3
keyword_number Let = 4
keyword_number Put = 5
keyword_number If = 6
keyword_number Else = 7
keyword_number While = 8
keyword_number Take = 9
keyword_number View = 10
keyword_number Edit = 11
keyword_number Open = 12
keyword_number Inside = 13
keyword_number Give = 14
keyword_number Box = 15
keyword_number Ref = 16
keyword_number Mut = 17
keyword_number Int = 18
keyword_number Get = 19

abbrev pub sign_number : Sign → ℕ
sign_number LeftParen = 0
sign_number RightParen = 1
sign_number LeftBrace = 2
sign_number RightBrace = 3
sign_number Comma = 4
sign_number Semicolon = 5
sign_number Colon = 6
sign_number Bar = 7
sign_number Gets = 8
sign_number And = 9
sign_number Star = 10
sign_number Equal = 11
sign_number Less = 12
sign_number Plus = 13
sign_number Minus = 14
sign_number Slash = 15
sign_number Percent = 16

abbrev pub sign_ahead : Option Token → Sign → Bool
sign_ahead None s = false
sign_ahead (Some (Reserved k)) s = false
sign_ahead (Some (Mark t)) s = sign_number t == sign_number s
sign_ahead (Some (Lower x)) s = false
sign_ahead (Some (Upper x)) s = false
sign_ahead (Some (Number n)) s = false
sign_ahead (Some BadNumber) s = false
sign_ahead (Some Other) s = false

abbrev pub keyword_ahead : Option Token → Keyword → Bool
keyword_ahead None k = false
keyword_ahead (Some (Reserved t)) k = keyword_number t == keyword_number k
keyword_ahead (Some (Mark s)) k = false
keyword_ahead (Some (Lower x)) k = false
keyword_ahead (Some (Upper x)) k = false
keyword_ahead (Some (Number n)) k = false
keyword_ahead (Some BadNumber) k = false
keyword_ahead (Some Other) k = false

abbrev pub lower_ahead : Option Token → Option Name
lower_ahead None = None
lower_ahead (Some (Reserved k)) = None
lower_ahead (Some (Mark s)) = None
lower_ahead (Some (Lower x)) = Some x
lower_ahead (Some (Upper x)) = None
lower_ahead (Some (Number n)) = None
lower_ahead (Some BadNumber) = None
lower_ahead (Some Other) = None

abbrev pub upper_ahead : Option Token → Option Name
upper_ahead None = None
upper_ahead (Some (Reserved k)) = None
upper_ahead (Some (Mark s)) = None
upper_ahead (Some (Lower x)) = None
upper_ahead (Some (Upper x)) = Some x
upper_ahead (Some (Number n)) = None
upper_ahead (Some BadNumber) = None
upper_ahead (Some Other) = None

-- a number: none, one with its value, or one with no value
abbrev pub number_ahead : Option Token → Option (Option ℕ)
number_ahead None = None
number_ahead (Some (Reserved k)) = None
number_ahead (Some (Mark s)) = None
number_ahead (Some (Lower x)) = None
number_ahead (Some (Upper x)) = None
number_ahead (Some (Number n)) = Some (Some n)
number_ahead (Some BadNumber) = Some None
number_ahead (Some Other) = None
