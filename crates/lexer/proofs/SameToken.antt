-- Signs and reserved words are told apart by their spelling.
use Rattle.std.proofs.Common.{◌≡◌, ℕ, Bool, true, false, eqb, sym, refl, ap, ◌∙◌, true≢false, eq-eqb, eqb-true}
use Rattle.language.specs.Base.{Lexeme, choose, same}
use Rattle.lexer.specs.Tokens.{spelled, drawn}
use Rattle.lexer.specs.Asks.{sign_number, keyword_number}
use Rattle.lexer.specs.declared.token.Keyword.{Keyword}
use Rattle.lexer.specs.declared.token.Keyword.TheVariants.{Data, Drop, By, Fn, Let, Put, If, Else, While, Take, View, Edit, Open, Inside, Give, Box, Ref, Mut, Int, Get}
use Rattle.lexer.specs.declared.token.Sign.{Sign}
use Rattle.lexer.specs.declared.token.Sign.TheVariants.{LeftParen, RightParen, LeftBrace, RightBrace, Comma, Semicolon, Colon, Bar, Gets, And, Star, Equal, Less, Plus, Minus, Slash, Percent}
use Rattle.lexer.proofs.Same.{same_is, same_refl}

-- two tests that hold together
together : (a b : Bool) → (a ≡ true → b ≡ true) → (b ≡ true → a ≡ true) → a ≡ b
together true true f g = refl
together true false f g = absurd (true≢false (sym (f refl)))
together false true f g = absurd (true≢false (sym (g refl)))
together false false f g = refl

abbrev sign_of : ℕ → Sign
sign_of n =
    choose (eqb n 0) LeftParen
    (choose (eqb n 1) RightParen
    (choose (eqb n 2) LeftBrace
    (choose (eqb n 3) RightBrace
    (choose (eqb n 4) Comma
    (choose (eqb n 5) Semicolon
    (choose (eqb n 6) Colon
    (choose (eqb n 7) Bar
    (choose (eqb n 8) Gets
    (choose (eqb n 9) And
    (choose (eqb n 10) Star
    (choose (eqb n 11) Equal
    (choose (eqb n 12) Less
    (choose (eqb n 13) Plus
    (choose (eqb n 14) Minus
    (choose (eqb n 15) Slash Percent)))))))))))))))

sign_back : (x : Sign) → sign_of (sign_number x) ≡ x
sign_back LeftParen = refl
sign_back RightParen = refl
sign_back LeftBrace = refl
sign_back RightBrace = refl
sign_back Comma = refl
sign_back Semicolon = refl
sign_back Colon = refl
sign_back Bar = refl
sign_back Gets = refl
sign_back And = refl
sign_back Star = refl
sign_back Equal = refl
sign_back Less = refl
sign_back Plus = refl
sign_back Minus = refl
sign_back Slash = refl
sign_back Percent = refl

abbrev sign_told : Lexeme → ℕ
sign_told w =
    choose (same w (drawn LeftParen)) 0
    (choose (same w (drawn RightParen)) 1
    (choose (same w (drawn LeftBrace)) 2
    (choose (same w (drawn RightBrace)) 3
    (choose (same w (drawn Comma)) 4
    (choose (same w (drawn Semicolon)) 5
    (choose (same w (drawn Colon)) 6
    (choose (same w (drawn Bar)) 7
    (choose (same w (drawn Gets)) 8
    (choose (same w (drawn And)) 9
    (choose (same w (drawn Star)) 10
    (choose (same w (drawn Equal)) 11
    (choose (same w (drawn Less)) 12
    (choose (same w (drawn Plus)) 13
    (choose (same w (drawn Minus)) 14
    (choose (same w (drawn Slash)) 15 16)))))))))))))))

sign_is : (x : Sign) → sign_told (drawn x) ≡ sign_number x
sign_is LeftParen = refl
sign_is RightParen = refl
sign_is LeftBrace = refl
sign_is RightBrace = refl
sign_is Comma = refl
sign_is Semicolon = refl
sign_is Colon = refl
sign_is Bar = refl
sign_is Gets = refl
sign_is And = refl
sign_is Star = refl
sign_is Equal = refl
sign_is Less = refl
sign_is Plus = refl
sign_is Minus = refl
sign_is Slash = refl
sign_is Percent = refl

pub same_sign : (x y : Sign) → same (drawn x) (drawn y) ≡ eqb (sign_number x) (sign_number y)
same_sign x y =
    together (same (drawn x) (drawn y)) (eqb (sign_number x) (sign_number y))
    (λ e. eq-eqb (sign_number x) (sign_number y) (sym (sign_is x) ∙ ap sign_told (same_is (drawn x) (drawn y) e) ∙ sign_is y))
    (λ e. ap (λ z. same (drawn x) (drawn z)) (sym (sym (sign_back x) ∙ ap sign_of (eqb-true (sign_number x) (sign_number y) e) ∙ sign_back y)) ∙ same_refl (drawn x))

abbrev keyword_of : ℕ → Keyword
keyword_of n =
    choose (eqb n 0) Data
    (choose (eqb n 1) Drop
    (choose (eqb n 2) By
    (choose (eqb n 3) Fn
    (choose (eqb n 4) Let
    (choose (eqb n 5) Put
    (choose (eqb n 6) If
    (choose (eqb n 7) Else
    (choose (eqb n 8) While
    (choose (eqb n 9) Take
    (choose (eqb n 10) View
    (choose (eqb n 11) Edit
    (choose (eqb n 12) Open
    (choose (eqb n 13) Inside
    (choose (eqb n 14) Give
    (choose (eqb n 15) Box
    (choose (eqb n 16) Ref
    (choose (eqb n 17) Mut
    (choose (eqb n 18) Int Get))))))))))))))))))

keyword_back : (x : Keyword) → keyword_of (keyword_number x) ≡ x
keyword_back Data = refl
keyword_back Drop = refl
keyword_back By = refl
keyword_back Fn = refl
keyword_back Let = refl
keyword_back Put = refl
keyword_back If = refl
keyword_back Else = refl
keyword_back While = refl
keyword_back Take = refl
keyword_back View = refl
keyword_back Edit = refl
keyword_back Open = refl
keyword_back Inside = refl
keyword_back Give = refl
keyword_back Box = refl
keyword_back Ref = refl
keyword_back Mut = refl
keyword_back Int = refl
keyword_back Get = refl

abbrev keyword_told : Lexeme → ℕ
keyword_told w =
    choose (same w (spelled Data)) 0
    (choose (same w (spelled Drop)) 1
    (choose (same w (spelled By)) 2
    (choose (same w (spelled Fn)) 3
    (choose (same w (spelled Let)) 4
    (choose (same w (spelled Put)) 5
    (choose (same w (spelled If)) 6
    (choose (same w (spelled Else)) 7
    (choose (same w (spelled While)) 8
    (choose (same w (spelled Take)) 9
    (choose (same w (spelled View)) 10
    (choose (same w (spelled Edit)) 11
    (choose (same w (spelled Open)) 12
    (choose (same w (spelled Inside)) 13
    (choose (same w (spelled Give)) 14
    (choose (same w (spelled Box)) 15
    (choose (same w (spelled Ref)) 16
    (choose (same w (spelled Mut)) 17
    (choose (same w (spelled Int)) 18 19))))))))))))))))))

keyword_is : (x : Keyword) → keyword_told (spelled x) ≡ keyword_number x
keyword_is Data = refl
keyword_is Drop = refl
keyword_is By = refl
keyword_is Fn = refl
keyword_is Let = refl
keyword_is Put = refl
keyword_is If = refl
keyword_is Else = refl
keyword_is While = refl
keyword_is Take = refl
keyword_is View = refl
keyword_is Edit = refl
keyword_is Open = refl
keyword_is Inside = refl
keyword_is Give = refl
keyword_is Box = refl
keyword_is Ref = refl
keyword_is Mut = refl
keyword_is Int = refl
keyword_is Get = refl

pub same_keyword : (x y : Keyword) → same (spelled x) (spelled y) ≡ eqb (keyword_number x) (keyword_number y)
same_keyword x y =
    together (same (spelled x) (spelled y)) (eqb (keyword_number x) (keyword_number y))
    (λ e. eq-eqb (keyword_number x) (keyword_number y) (sym (keyword_is x) ∙ ap keyword_told (same_is (spelled x) (spelled y) e) ∙ keyword_is y))
    (λ e. ap (λ z. same (spelled x) (spelled z)) (sym (sym (keyword_back x) ∙ ap keyword_of (eqb-true (keyword_number x) (keyword_number y) e) ∙ keyword_back y)) ∙ same_refl (spelled x))
