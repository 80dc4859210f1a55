-- An instruction in three words: an opcode and two operands. Opcodes below 22 have no operand, those from 22 to 37 one name.
use Rattle.std.specs.Prelude.{ℕ, Some, None, Option, ◌==◌, nat_lt}
use Rattle.language.specs.Base.{choose}
use Rattle.lexer.specs.declared.name.Name.{Name}
use Rattle.code.specs.declared.instr.Operator.{Operator}
use Rattle.code.specs.declared.instr.Operator.TheVariants.{Add, Sub, Mul, Div, Rem, Equal, Less}
use Rattle.code.specs.declared.instr.Access.{Access}
use Rattle.code.specs.declared.instr.Access.TheVariants.{Take, View, Edit}
use Rattle.code.specs.declared.instr.Instr.{Instr}
use Rattle.code.specs.declared.instr.Instr.TheVariants.{Num, Var, Int, Op, Make, Call, Arg, Apply, Box, Share, Lend, Load, Get, Bind, Assign, Store, Put, If, Else, EndIf, While, Do, EndWhile, Match, Arm, Part, Body, EndArm, EndMatch, Open, Inside, Give, EndFn, TyInt, TyData, TyBox, TyRef, TyMut, Field, Ctor, Data, Param, Fn}
use Rattle.code.specs.declared.slot.Slot.{Slot}
use Rattle.code.specs.Means.{op_number}

abbrev pub slot : ℕ → ℕ → ℕ → Slot
slot op a b = record { op = op; first = a; second = b }

abbrev pub access_number : Access → ℕ
access_number Take = 0
access_number View = 1
access_number Edit = 2

abbrev pub slot_of : Instr → Slot
slot_of Int = slot 0 0 0
slot_of Arg = slot 1 0 0
slot_of Apply = slot 2 0 0
slot_of Box = slot 3 0 0
slot_of Get = slot 4 0 0
slot_of Put = slot 5 0 0
slot_of If = slot 6 0 0
slot_of Else = slot 7 0 0
slot_of EndIf = slot 8 0 0
slot_of While = slot 9 0 0
slot_of Do = slot 10 0 0
slot_of EndWhile = slot 11 0 0
slot_of Body = slot 12 0 0
slot_of EndArm = slot 13 0 0
slot_of EndMatch = slot 14 0 0
slot_of Give = slot 15 0 0
slot_of EndFn = slot 16 0 0
slot_of TyInt = slot 17 0 0
slot_of TyBox = slot 18 0 0
slot_of TyRef = slot 19 0 0
slot_of TyMut = slot 20 0 0
slot_of Field = slot 21 0 0
slot_of (Var x) = slot 22 x.0 0
slot_of (Make x) = slot 23 x.0 0
slot_of (Call x) = slot 24 x.0 0
slot_of (Share x) = slot 25 x.0 0
slot_of (Lend x) = slot 26 x.0 0
slot_of (Load x) = slot 27 x.0 0
slot_of (Bind x) = slot 28 x.0 0
slot_of (Assign x) = slot 29 x.0 0
slot_of (Store x) = slot 30 x.0 0
slot_of (Arm x) = slot 31 x.0 0
slot_of (Part x) = slot 32 x.0 0
slot_of (TyData x) = slot 33 x.0 0
slot_of (Ctor x) = slot 34 x.0 0
slot_of (Param x) = slot 35 x.0 0
slot_of (Fn x) = slot 36 x.0 0
slot_of (Data d None) = slot 37 d.0 0
slot_of (Num n) = slot 38 n 0
slot_of (Op o) = slot 39 (op_number o) 0
slot_of (Match w x) = slot 40 (access_number w) x.0
slot_of (Open x y) = slot 41 x.0 y.0
slot_of (Inside x y) = slot 42 x.0 y.0
slot_of (Data d (Some last)) = slot 43 d.0 last.0

-- back again; a slot may hold no instruction
abbrev pub name : ℕ → Name
name place = record { 0 = place }

abbrev pub if_number : {A : Type 0} → ℕ → ℕ → A → Option A → Option A
if_number n k x rest = choose (n == k) (Some x) rest

abbrev pub plain_held : ℕ → Option Instr
plain_held op =
    if_number op 0 Int
    (if_number op 1 Arg
    (if_number op 2 Apply
    (if_number op 3 Box
    (if_number op 4 Get
    (if_number op 5 Put
    (if_number op 6 If
    (if_number op 7 Else
    (if_number op 8 EndIf
    (if_number op 9 While
    (if_number op 10 Do
    (if_number op 11 EndWhile
    (if_number op 12 Body
    (if_number op 13 EndArm
    (if_number op 14 EndMatch
    (if_number op 15 Give
    (if_number op 16 EndFn
    (if_number op 17 TyInt
    (if_number op 18 TyBox
    (if_number op 19 TyRef
    (if_number op 20 TyMut
    (if_number op 21 Field None)))))))))))))))))))))

abbrev pub named_held : ℕ → Name → Option Instr
named_held op x =
    if_number op 22 (Var x)
    (if_number op 23 (Make x)
    (if_number op 24 (Call x)
    (if_number op 25 (Share x)
    (if_number op 26 (Lend x)
    (if_number op 27 (Load x)
    (if_number op 28 (Bind x)
    (if_number op 29 (Assign x)
    (if_number op 30 (Store x)
    (if_number op 31 (Arm x)
    (if_number op 32 (Part x)
    (if_number op 33 (TyData x)
    (if_number op 34 (Ctor x)
    (if_number op 35 (Param x)
    (if_number op 36 (Fn x)
    (if_number op 37 (Data x None) None)))))))))))))))

abbrev pub operator_held : ℕ → Option Operator
operator_held n =
    if_number n 0 Add
    (if_number n 1 Sub
    (if_number n 2 Mul
    (if_number n 3 Div
    (if_number n 4 Rem
    (if_number n 5 Equal
    (if_number n 6 Less None))))))

abbrev pub access_held : ℕ → Option Access
access_held n =
    if_number n 0 Take
    (if_number n 1 View
    (if_number n 2 Edit None))

abbrev pub with_operator : Option Operator → Option Instr
with_operator None = None
with_operator (Some o) = Some (Op o)

abbrev pub with_access : Option Access → Name → Option Instr
with_access None x = None
with_access (Some w) x = Some (Match w x)

abbrev pub other_held : ℕ → ℕ → ℕ → Option Instr
other_held op a b =
    if_number op 38 (Num a)
    (choose (op == 39) (with_operator (operator_held a))
    (choose (op == 40) (with_access (access_held a) (name b))
    (if_number op 41 (Open (name a) (name b))
    (if_number op 42 (Inside (name a) (name b))
    (if_number op 43 (Data (name a) (Some (name b))) None)))))

abbrev pub held : Slot → Option Instr
held s = choose (nat_lt s.op 22) (plain_held s.op) (choose (nat_lt s.op 38) (named_held s.op (name s.first)) (other_held s.op s.first s.second))
