-- What the reader's symbols and actions in words mean, over the text that their names are places of.
use Rattle.std.specs.Prelude.{◌≡◌, ℕ, Bool, true, false, List, [], ◌∷◌, Some, None, Ok, Err, Option as Maybe, Result, MatchOption}
use Rattle.std.proofs.Math.Option.{Option, some, none}
use Rattle.language.specs.Base.{Lexeme, choose, same}
use Rattle.language.specs.Text.{peek, skip_one, is_number, value_of, a_way}
use Rattle.language.specs.Text.{kw_else, kw_give, sg_rp, sg_rc, sg_semi, sg_colon}
use Rattle.lexer.specs.declared.name.Name.{Name}
use Rattle.lexer.specs.declared.token.Sign.{Sign}
use Rattle.lexer.specs.Tokens.{drawn}
use Rattle.lexer.specs.Spelling.{spelling}
use Rattle.lexer.specs.Left.{Begins, Next}
use Rattle.code.specs.Means.{means, op_number, access_of}
use Rattle.code.specs.declared.instr.Operator.{Operator}
use Rattle.code.specs.declared.instr.Access.{Access}
use Rattle.reader.specs.declared.symbol.Symbol.{Symbol}
use Rattle.reader.specs.declared.symbol.Symbol.TheVariants.{Emit as EmitS, Else, Give, RightParen, RightBrace}
use Rattle.reader.specs.declared.symbol.Symbol.TheVariants.{Semicolon, Colon, Expr, Compared, Sum}
use Rattle.reader.specs.declared.symbol.Symbol.TheVariants.{Product, Factor, MoreSum, MoreProduct, Primary}
use Rattle.reader.specs.declared.symbol.Symbol.TheVariants.{Args, ArgsOn, Names, SomeNames, Stmts, Block, Alts}
use Rattle.reader.specs.declared.symbol.Symbol.TheVariants.{Body, Tail, Arms, Ty, Fields, FieldsOn, SomeFields}
use Rattle.reader.specs.declared.symbol.Symbol.TheVariants.{Ctors, CtorsOn, Params, ParamsOn, SomeParams}
use Rattle.reader.specs.declared.symbol.Symbol.TheVariants.{DataEnd, Items}
use Rattle.reader.specs.declared.action.Action.{Action}
use Rattle.reader.specs.declared.action.Action.TheVariants.{Emit, Push0, Push1, Push2, Push3, Push4}
use Rattle.reader.specs.declared.action.Action.TheVariants.{Push6, Push7, Push8}
use Rattle.reader.specs.declared.error.Expected.{Expected}
use Rattle.reader.specs.declared.error.Misread.{Misread}
use Rattle.reader.specs.Symbol as spec

abbrev pub symbol_of : List ℕ → Symbol → spec.Symbol
symbol_of text (EmitS i) = spec.s_emit (means text i)
symbol_of text Else = spec.s_token kw_else
symbol_of text Give = spec.s_token kw_give
symbol_of text RightParen = spec.s_token sg_rp
symbol_of text RightBrace = spec.s_token sg_rc
symbol_of text Semicolon = spec.s_token sg_semi
symbol_of text Colon = spec.s_token sg_colon
symbol_of text Expr = spec.s_expr
symbol_of text Compared = spec.s_compared
symbol_of text Sum = spec.s_sum
symbol_of text Product = spec.s_product
symbol_of text Factor = spec.s_factor
symbol_of text MoreSum = spec.s_more_sum
symbol_of text MoreProduct = spec.s_more_product
symbol_of text Primary = spec.s_primary
symbol_of text Args = spec.s_args
symbol_of text ArgsOn = spec.s_args_on
symbol_of text Names = spec.s_names
symbol_of text SomeNames = spec.s_some_names
symbol_of text Stmts = spec.s_stmts
symbol_of text Block = spec.s_block
symbol_of text Alts = spec.s_alts
symbol_of text Body = spec.s_body
symbol_of text Tail = spec.s_tail
symbol_of text Arms = spec.s_arms
symbol_of text Ty = spec.s_type
symbol_of text Fields = spec.s_fields
symbol_of text FieldsOn = spec.s_fields_on
symbol_of text SomeFields = spec.s_some_fields
symbol_of text Ctors = spec.s_ctors
symbol_of text CtorsOn = spec.s_ctors_on
symbol_of text Params = spec.s_params
symbol_of text ParamsOn = spec.s_params_on
symbol_of text SomeParams = spec.s_some_params
symbol_of text (DataEnd d) = spec.s_drop (spelling text d)
symbol_of text Items = spec.s_items

abbrev pub symbols_of : List ℕ → List Symbol → List spec.Symbol
symbols_of text [] = []
symbols_of text (s ∷ ss) = symbol_of text s ∷ symbols_of text ss

-- what an action does, with these lexemes left
abbrev pub action_of : List ℕ → Action → List Lexeme → spec.Action
action_of text (Emit i) ts = spec.emit (means text i) ts
action_of text Push0 ts = spec.push [] ts
action_of text (Push1 ss) ts = spec.push (symbols_of text ss) ts
action_of text (Push2 ss) ts = spec.push (symbols_of text ss) ts
action_of text (Push3 ss) ts = spec.push (symbols_of text ss) ts
action_of text (Push4 ss) ts = spec.push (symbols_of text ss) ts
action_of text (Push6 ss) ts = spec.push (symbols_of text ss) ts
action_of text (Push7 ss) ts = spec.push (symbols_of text ss) ts
action_of text (Push8 ss) ts = spec.push (symbols_of text ss) ts

-- and of a step that may have refused the text
abbrev pub answered : List ℕ → Result Action Expected → List Lexeme → spec.Action
answered text (Ok a) ts = action_of text a ts
answered text (Err e) ts = spec.fail

-- What was read of these lexemes, with those left behind it. A name of a kind: the next lexeme; or it is none
abbrev pub Named : List ℕ → (Lexeme → Bool) → Result Name Expected → List Lexeme → List Lexeme → Type 0
Named text ok (Ok name) ts left = (ok (peek ts) ≡ true) × (spelling text name ≡ peek ts) × (left ≡ skip_one ts)
Named text ok (Err e) ts left = ok (peek ts) ≡ false

-- the same, where another kind of lexeme may stand as well: then nothing is read
abbrev pub Perhaps : List ℕ → (Lexeme → Bool) → Maybe Name → List Lexeme → List Lexeme → Type 0
Perhaps text ok (Some name) ts left = (ok (peek ts) ≡ true) × (spelling text name ≡ peek ts) × (left ≡ skip_one ts)
Perhaps text ok None ts left = (ok (peek ts) ≡ false) × (left ≡ ts)

-- that token, if it is next
abbrev pub Accepted : Lexeme → Bool → List Lexeme → List Lexeme → Type 0
Accepted w r ts left = (r ≡ same (peek ts) w) × (left ≡ choose r (skip_one ts) ts)

-- that token; or it is another one
abbrev pub Past : Lexeme → Result (Unit {0}) Expected → List Lexeme → List Lexeme → Type 0
Past w (Ok u) ts left = (same w (peek ts) ≡ true) × (left ≡ skip_one ts)
Past w (Err e) ts left = same w (peek ts) ≡ false

-- a number; a word of digits that is none is an error
abbrev pub Counted : Result (Maybe ℕ) Expected → List Lexeme → List Lexeme → Type 0
Counted (Ok (Some n)) ts left = (is_number (peek ts) ≡ true) × (value_of (peek ts) ≡ some n) × (left ≡ skip_one ts)
Counted (Ok None) ts left = (is_number (peek ts) ≡ false) × (left ≡ ts)
Counted (Err e) ts left = (is_number (peek ts) ≡ true) × (value_of (peek ts) ≡ none)

-- the operator of the first of these signs that the lexeme is
abbrev pub operator_of : List (Sign × Operator) → Lexeme → Option ℕ
operator_of [] w = none
operator_of (p ∷ ps) w = choose (same w (drawn p.0)) (some (op_number p.1)) (operator_of ps w)

-- one of these signs, or none of them
abbrev pub Joined : List (Sign × Operator) → Maybe Operator → List Lexeme → List Lexeme → Type 0
Joined signs (Some o) ts left = (operator_of signs (peek ts) ≡ some (op_number o)) × (left ≡ skip_one ts)
Joined signs None ts left = (operator_of signs (peek ts) ≡ none) × (left ≡ ts)

-- how a match looks at its value
abbrev pub Looked : Maybe Access → List Lexeme → List Lexeme → Type 0
Looked (Some w) ts left = (a_way (peek ts) ≡ some (access_of w)) × (left ≡ skip_one ts)
Looked None ts left = (a_way (peek ts) ≡ none) × (left ≡ ts)

abbrev pub none_left : List Lexeme → Bool
none_left [] = true
none_left (t ∷ ts) = false

-- what the token ahead says of its lexeme: a name of that kind, or none
abbrev pub Told : List ℕ → (Lexeme → Bool) → Maybe Name → Lexeme → Type 0
Told text ok o w = MatchOption o (ok w ≡ false) (λ name. (ok w ≡ true) × (spelling text name ≡ w))

-- a refusal's place is where the first of these lexemes begins, or the end of the text; its token is that lexeme's
pub record Stands (text : List ℕ) (e : Misread) (ws : List Lexeme) : Type 0 where
  pub place : Begins text e.place ws
  pub found : Next text e.found ws
