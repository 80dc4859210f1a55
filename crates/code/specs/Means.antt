-- What an instruction in words means, over the text that its names are places of.
use Rattle.std.specs.Prelude.{ℕ, List, [], Some, None, Option}
use Rattle.language.specs.Base.{Lexeme}
use Rattle.language.specs.Syntax as syntax
use Rattle.lexer.specs.declared.name.Name.{Name}
use Rattle.lexer.specs.Spelling.{spelling}
use Rattle.code.specs.declared.instr.Operator.{Operator}
use Rattle.code.specs.declared.instr.Operator.TheVariants.{Add, Sub, Mul, Div, Rem, Equal, Less}
use Rattle.code.specs.declared.instr.Access.{Access}
use Rattle.code.specs.declared.instr.Access.TheVariants.{Take, View, Edit}
use Rattle.code.specs.declared.instr.Instr.{Instr}
use Rattle.code.specs.declared.instr.Instr.TheVariants.{Num, Var, Int, Op, Make, Call, Arg, Apply, Box, Share, Lend, Load, Get, Bind, Assign, Store, Put, If, Else, EndIf, While, Do, EndWhile, Match, Arm, Part, Body, EndArm, EndMatch, Open, Inside, Give, EndFn, TyInt, TyData, TyBox, TyRef, TyMut, Field, Ctor, Data, Param, Fn}
use Rattle.code.specs.Instr as spec

-- the numbers that the definition gives the operators
abbrev pub op_number : Operator → ℕ
op_number Add = 0
op_number Sub = 1
op_number Mul = 2
op_number Div = 3
op_number Rem = 4
op_number Equal = 5
op_number Less = 6

abbrev pub access_of : Access → syntax.Access
access_of Take = syntax.take
access_of View = syntax.view
access_of Edit = syntax.edit

-- no name is a word of no byte
abbrev pub optional : List ℕ → Option Name → Lexeme
optional text None = []
optional text (Some name) = spelling text name

abbrev pub means : List ℕ → Instr → spec.Instr
means text (Num n) = spec.i_num n
means text (Var x) = spec.i_var (spelling text x)
means text Int = spec.i_int
means text (Op o) = spec.i_op (op_number o)
means text (Make c) = spec.i_make (spelling text c)
means text (Call f) = spec.i_call (spelling text f)
means text Arg = spec.i_arg
means text Apply = spec.i_apply
means text Box = spec.i_box
means text (Share x) = spec.i_share (spelling text x)
means text (Lend x) = spec.i_lend (spelling text x)
means text (Load x) = spec.i_load (spelling text x)
means text Get = spec.i_get
means text (Bind x) = spec.i_bind (spelling text x)
means text (Assign x) = spec.i_assign (spelling text x)
means text (Store x) = spec.i_store (spelling text x)
means text Put = spec.i_put
means text If = spec.i_if
means text Else = spec.i_else
means text EndIf = spec.i_end_if
means text While = spec.i_while
means text Do = spec.i_do
means text EndWhile = spec.i_end_while
means text (Match w x) = spec.i_match (access_of w) (spelling text x)
means text (Arm c) = spec.i_arm (spelling text c)
means text (Part x) = spec.i_name (spelling text x)
means text Body = spec.i_body
means text EndArm = spec.i_end_arm
means text EndMatch = spec.i_end_match
means text (Open x y) = spec.i_open (spelling text x) (spelling text y)
means text (Inside x y) = spec.i_inside (spelling text x) (spelling text y)
means text Give = spec.i_give
means text EndFn = spec.i_end_fn
means text TyInt = spec.i_ty_int
means text (TyData d) = spec.i_ty_data (spelling text d)
means text TyBox = spec.i_ty_box
means text TyRef = spec.i_ty_ref
means text TyMut = spec.i_ty_mut
means text Field = spec.i_field
means text (Ctor c) = spec.i_ctor (spelling text c)
means text (Data d last) = spec.i_data (spelling text d) (optional text last)
means text (Param x) = spec.i_param (spelling text x)
means text (Fn f) = spec.i_fn (spelling text f)
