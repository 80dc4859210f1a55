-- A slot holds the instruction that was put into it.
use Rattle.std.proofs.Common.{◌≡◌, Some, None, refl}
use Rattle.code.specs.declared.instr.Operator.TheVariants.{Add, Sub, Mul, Div, Rem, Equal, Less}
use Rattle.code.specs.declared.instr.Access.TheVariants.{Take, View, Edit}
use Rattle.code.specs.declared.instr.Instr.{Instr}
use Rattle.code.specs.declared.instr.Instr.TheVariants.{Num, Var, Int, Op, Make, Call, Arg, Apply, Box, Share, Lend, Load, Get, Bind, Assign, Store, Put, If, Else, EndIf, While, Do, EndWhile, Match, Arm, Part, Body, EndArm, EndMatch, Open, Inside, Give, EndFn, TyInt, TyData, TyBox, TyRef, TyMut, Field, Ctor, Data, Param, Fn}
use Rattle.code.specs.Slots.{slot_of, held}

pub round_trip : (i : Instr) → held (slot_of i) ≡ Some i
round_trip Int = refl
round_trip Arg = refl
round_trip Apply = refl
round_trip Box = refl
round_trip Get = refl
round_trip Put = refl
round_trip If = refl
round_trip Else = refl
round_trip EndIf = refl
round_trip While = refl
round_trip Do = refl
round_trip EndWhile = refl
round_trip Body = refl
round_trip EndArm = refl
round_trip EndMatch = refl
round_trip Give = refl
round_trip EndFn = refl
round_trip TyInt = refl
round_trip TyBox = refl
round_trip TyRef = refl
round_trip TyMut = refl
round_trip Field = refl
round_trip (Var x) = refl
round_trip (Make x) = refl
round_trip (Call x) = refl
round_trip (Share x) = refl
round_trip (Lend x) = refl
round_trip (Load x) = refl
round_trip (Bind x) = refl
round_trip (Assign x) = refl
round_trip (Store x) = refl
round_trip (Arm x) = refl
round_trip (Part x) = refl
round_trip (TyData x) = refl
round_trip (Ctor x) = refl
round_trip (Param x) = refl
round_trip (Fn x) = refl
round_trip (Data d None) = refl
round_trip (Num n) = refl
round_trip (Op Add) = refl
round_trip (Op Sub) = refl
round_trip (Op Mul) = refl
round_trip (Op Div) = refl
round_trip (Op Rem) = refl
round_trip (Op Equal) = refl
round_trip (Op Less) = refl
round_trip (Match Take x) = refl
round_trip (Match View x) = refl
round_trip (Match Edit x) = refl
round_trip (Open x y) = refl
round_trip (Inside x y) = refl
round_trip (Data d (Some last)) = refl
