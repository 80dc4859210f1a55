-- Symbols in slots of three words, as instructions are: numbers below 64 are opcodes, so that the slot is an instruction's,
-- which is to be given out.
use Rattle.std.specs.Prelude.{ℕ, zero, suc, ◌+◌, List, [], ◌∷◌, Some, None, Option, ◌==◌, nat_lt}
use Rattle.language.specs.Base.{choose}
use Rattle.code.specs.declared.instr.Instr.{Instr}
use Rattle.code.specs.declared.slot.Slot.{Slot}
use Rattle.code.specs.Slots.{slot, slot_of, held, name}
use Rattle.code.specs.Words.{slot_in}
use Rattle.reader.specs.declared.symbol.Symbol.{Symbol}
use Rattle.reader.specs.declared.symbol.Symbol.TheVariants.{Emit, Else, Give, RightParen, RightBrace}
use Rattle.reader.specs.declared.symbol.Symbol.TheVariants.{Semicolon, Colon, Expr, Compared, Sum, Product}
use Rattle.reader.specs.declared.symbol.Symbol.TheVariants.{Factor, MoreSum, MoreProduct, Primary, Args}
use Rattle.reader.specs.declared.symbol.Symbol.TheVariants.{ArgsOn, Names, SomeNames, Stmts, Block, Alts, Body}
use Rattle.reader.specs.declared.symbol.Symbol.TheVariants.{Tail, Arms, Ty, Fields, FieldsOn, SomeFields}
use Rattle.reader.specs.declared.symbol.Symbol.TheVariants.{Ctors, CtorsOn, Params, ParamsOn, SomeParams}
use Rattle.reader.specs.declared.symbol.Symbol.TheVariants.{DataEnd, Items}

abbrev pub slot_for : Symbol → Slot
slot_for (Emit i) = slot_of i
slot_for (DataEnd d) = slot 64 d.0 0
slot_for Else = slot 65 0 0
slot_for Give = slot 66 0 0
slot_for RightParen = slot 67 0 0
slot_for RightBrace = slot 68 0 0
slot_for Semicolon = slot 69 0 0
slot_for Colon = slot 70 0 0
slot_for Expr = slot 71 0 0
slot_for Compared = slot 72 0 0
slot_for Sum = slot 73 0 0
slot_for Product = slot 74 0 0
slot_for Factor = slot 75 0 0
slot_for MoreSum = slot 76 0 0
slot_for MoreProduct = slot 77 0 0
slot_for Primary = slot 78 0 0
slot_for Args = slot 79 0 0
slot_for ArgsOn = slot 80 0 0
slot_for Names = slot 81 0 0
slot_for SomeNames = slot 82 0 0
slot_for Stmts = slot 83 0 0
slot_for Block = slot 84 0 0
slot_for Alts = slot 85 0 0
slot_for Body = slot 86 0 0
slot_for Tail = slot 87 0 0
slot_for Arms = slot 88 0 0
slot_for Ty = slot 89 0 0
slot_for Fields = slot 90 0 0
slot_for FieldsOn = slot 91 0 0
slot_for SomeFields = slot 92 0 0
slot_for Ctors = slot 93 0 0
slot_for CtorsOn = slot 94 0 0
slot_for Params = slot 95 0 0
slot_for ParamsOn = slot 96 0 0
slot_for SomeParams = slot 97 0 0
slot_for Items = slot 98 0 0

-- back again; no other slot is ever on the stack
abbrev pub emit_held : Option Instr → Symbol
emit_held None = Items
emit_held (Some i) = Emit i

abbrev pub plain_symbol : ℕ → Symbol
plain_symbol op =
    choose (op == 65) Else
    (choose (op == 66) Give
    (choose (op == 67) RightParen
    (choose (op == 68) RightBrace
    (choose (op == 69) Semicolon
    (choose (op == 70) Colon
    (choose (op == 71) Expr
    (choose (op == 72) Compared
    (choose (op == 73) Sum
    (choose (op == 74) Product
    (choose (op == 75) Factor
    (choose (op == 76) MoreSum
    (choose (op == 77) MoreProduct
    (choose (op == 78) Primary
    (choose (op == 79) Args
    (choose (op == 80) ArgsOn
    (choose (op == 81) Names
    (choose (op == 82) SomeNames
    (choose (op == 83) Stmts
    (choose (op == 84) Block
    (choose (op == 85) Alts
    (choose (op == 86) Body
    (choose (op == 87) Tail
    (choose (op == 88) Arms
    (choose (op == 89) Ty
    (choose (op == 90) Fields
    (choose (op == 91) FieldsOn
    (choose (op == 92) SomeFields
    (choose (op == 93) Ctors
    (choose (op == 94) CtorsOn
    (choose (op == 95) Params
    (choose (op == 96) ParamsOn
    (choose (op == 97) SomeParams Items))))))))))))))))))))))))))))))))

abbrev pub symbol_held : Slot → Symbol
symbol_held s =
    choose (nat_lt s.op 64) (emit_held (held s))
    (choose (s.op == 64) (DataEnd (name s.first)) (plain_symbol s.op))

unfoldable pub symbol_at : List ℕ → ℕ → Symbol
symbol_at words k = symbol_held (slot_in words k)

-- so many symbols in the slots from base on; the last of them is on top
abbrev pub stack_in : List ℕ → ℕ → ℕ → List Symbol
stack_in words base zero = []
stack_in words base (suc h) = symbol_at words (base + h) ∷ stack_in words base h
