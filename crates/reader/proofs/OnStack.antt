-- The stack in words: a slot holds the symbol that was put into it, and what is written beside it leaves it as it was.
use Rattle.std.proofs.Common.{◌≡◌, ◌≢◌, ℕ, zero, suc, ◌+◌, ◌*◌, ◌<◌, ◌≤◌, true, ltb, List, ◌∷◌, length, get_or, refl, ap, ◌∙◌, ap₂, add-one, arith}
use Rattle.lexer.proofs.Cut.{choose_true}
use Rattle.code.specs.declared.instr.Instr.{Instr}
use Rattle.code.specs.Slots.{slot, slot_of}
use Rattle.code.proofs.RoundTrip.{round_trip}
use Rattle.reader.specs.declared.symbol.Symbol.{Symbol}
use Rattle.reader.specs.declared.symbol.Symbol.TheVariants.{Emit, Else, Give, RightParen, RightBrace}
use Rattle.reader.specs.declared.symbol.Symbol.TheVariants.{Semicolon, Colon, Expr, Compared, Sum, Product}
use Rattle.reader.specs.declared.symbol.Symbol.TheVariants.{Factor, MoreSum, MoreProduct, Primary, Args}
use Rattle.reader.specs.declared.symbol.Symbol.TheVariants.{ArgsOn, Names, SomeNames, Stmts, Block, Alts, Body}
use Rattle.reader.specs.declared.symbol.Symbol.TheVariants.{Tail, Arms, Ty, Fields, FieldsOn, SomeFields}
use Rattle.reader.specs.declared.symbol.Symbol.TheVariants.{Ctors, CtorsOn, Params, ParamsOn, SomeParams}
use Rattle.reader.specs.declared.symbol.Symbol.TheVariants.{DataEnd, Items}
use Rattle.reader.specs.Stack.{slot_for, symbol_held, emit_held, symbol_at, stack_in}

-- numbers below 64 are opcodes
is_opcode : (i : Instr) → ltb (slot_of i).op 64 ≡ true
is_opcode i = grind arith

pub held_again : (s : Symbol) → symbol_held (slot_for s) ≡ s
held_again (Emit i) = choose_true _ _ (is_opcode i) ∙ ap emit_held (round_trip i)
held_again (DataEnd d) = refl
held_again Else = refl
held_again Give = refl
held_again RightParen = refl
held_again RightBrace = refl
held_again Semicolon = refl
held_again Colon = refl
held_again Expr = refl
held_again Compared = refl
held_again Sum = refl
held_again Product = refl
held_again Factor = refl
held_again MoreSum = refl
held_again MoreProduct = refl
held_again Primary = refl
held_again Args = refl
held_again ArgsOn = refl
held_again Names = refl
held_again SomeNames = refl
held_again Stmts = refl
held_again Block = refl
held_again Alts = refl
held_again Body = refl
held_again Tail = refl
held_again Arms = refl
held_again Ty = refl
held_again Fields = refl
held_again FieldsOn = refl
held_again SomeFields = refl
held_again Ctors = refl
held_again CtorsOn = refl
held_again Params = refl
held_again ParamsOn = refl
held_again SomeParams = refl
held_again Items = refl

-- where the words of a slot are the same, so is its symbol
same_symbol : (words after : List ℕ) (k : ℕ) →
    ((j : ℕ) → 3 * k ≤ j → j < 3 * k + 3 → get_or after j 0 ≡ get_or words j 0) → symbol_at after k ≡ symbol_at words k
unfolding symbol_at
same_symbol words after k e =
    ap (λ x. symbol_held (slot x (get_or after (3 * k + 1) 0) (get_or after (3 * k + 2) 0)))
    (e (3 * k) (omega arith) (omega arith))
    ∙ ap (λ x. symbol_held (slot (get_or words (3 * k) 0) x (get_or after (3 * k + 2) 0)))
    (e (3 * k + 1) (omega arith) (omega arith))
    ∙ ap (λ x. symbol_held (slot (get_or words (3 * k) 0) (get_or words (3 * k + 1) 0) x))
    (e (3 * k + 2) (omega arith) (omega arith))

-- where the symbols of the slots are the same, so is the stack
pub same_stack : (words after : List ℕ) (base h : ℕ) →
    ((k : ℕ) → base ≤ k → k < base + h → symbol_at after k ≡ symbol_at words k) →
    stack_in after base h ≡ stack_in words base h
same_stack words after base zero e = refl
same_stack words after base (suc h) e =
    ap₂ (λ (s : Symbol) (k : List Symbol). s ∷ k) (e (base + h) (omega arith) (omega arith))
    (same_stack words after base h (λ k low high. e k low (omega arith)))

-- what is written in front of the stack leaves it
pub stack_behind : (words after : List ℕ) (base h : ℕ) →
    ((j : ℕ) → 3 * base ≤ j → get_or after j 0 ≡ get_or words j 0) → stack_in after base h ≡ stack_in words base h
stack_behind words after base h e =
    same_stack words after base h (λ k low high. same_symbol words after k (λ j l u. e j (omega arith)))

-- one more on top
pub stack_put : (words after : List ℕ) (base h : ℕ) (s : Symbol) → symbol_at after (base + h) ≡ s →
    ((k : ℕ) → (k ≢ base + h) → symbol_at after k ≡ symbol_at words k) →
    stack_in after base (h + 1) ≡ s ∷ stack_in words base h
stack_put words after base h s top below =
    rw (add-one h) (ap₂ (λ (s : Symbol) (k : List Symbol). s ∷ k) top
    (same_stack words after base h (λ k low high. below k (λ e. omega arith))))

pub tall : (words : List ℕ) (base h : ℕ) → length (stack_in words base h) ≡ h
tall words base zero = refl
tall words base (suc h) = ap suc (tall words base h)
