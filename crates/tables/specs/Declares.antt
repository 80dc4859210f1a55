-- What noting an instruction in the tables means, wherever the rows point at.
use Rattle.std.specs.Prelude.{◌≡◌, ℕ, ◌+◌, ◌<◌, ◌≤◌, [], Some, None, Option}
use Rattle.language.specs.Base.{Lexeme}
use Rattle.language.specs.Syntax.{Ty}
use Rattle.code.specs.Instr as pure
use Rattle.code.specs.Means.{means}
use Rattle.code.specs.declared.instr.Instr.{Instr}
use Rattle.code.specs.declared.instr.Instr.TheVariants.{Num, Var, Int, Op, Make, Call, Arg, Apply, Box, Share, Lend, Load, Get, Bind, Assign, Store, Put, If, Else, EndIf, While, Do, EndWhile, Match, Arm, Part, Body, EndArm, EndMatch, Open, Inside, Give, EndFn, TyInt, TyData, TyBox, TyRef, TyMut, Field, Ctor, Data, Param, Fn}
use Rattle.tables.specs.declared.progress.Progress.{Progress}
use Rattle.tables.specs.Collect.{with_ty, declared, declare}
use Rattle.tables.specs.View.{Words, Source, tables_in, Within}

-- the type under way behind an instruction, and the function that it names as called when data is dropped
abbrev pub ty_after : pure.Instr → Ty → Ty
ty_after i t = (declare i [] (with_ty (declared [] [] [] [] []) t)).ty

abbrev pub last_of : pure.Instr → Lexeme
last_of (pure.i_num n) = []
last_of (pure.i_var x) = []
last_of pure.i_int = []
last_of (pure.i_op o) = []
last_of (pure.i_make c) = []
last_of (pure.i_call f) = []
last_of pure.i_arg = []
last_of pure.i_apply = []
last_of pure.i_box = []
last_of (pure.i_share x) = []
last_of (pure.i_lend x) = []
last_of (pure.i_load x) = []
last_of pure.i_get = []
last_of (pure.i_bind x) = []
last_of (pure.i_assign x) = []
last_of (pure.i_store x) = []
last_of pure.i_put = []
last_of pure.i_if = []
last_of pure.i_else = []
last_of pure.i_end_if = []
last_of pure.i_while = []
last_of pure.i_do = []
last_of pure.i_end_while = []
last_of (pure.i_match w x) = []
last_of (pure.i_arm c) = []
last_of (pure.i_name x) = []
last_of pure.i_body = []
last_of pure.i_end_arm = []
last_of pure.i_end_match = []
last_of (pure.i_open x y) = []
last_of (pure.i_inside x y) = []
last_of pure.i_give = []
last_of pure.i_end_fn = []
last_of pure.i_ty_int = []
last_of (pure.i_ty_data d) = []
last_of pure.i_ty_box = []
last_of pure.i_ty_ref = []
last_of pure.i_ty_mut = []
last_of pure.i_field = []
last_of (pure.i_ctor c) = []
last_of (pure.i_data d w) = w
last_of (pure.i_param x) = []
last_of (pure.i_fn f) = []

-- the instruction stands at that place of what rows point at
pub record Stands (s : Source) (at : ℕ) (i : pure.Instr) : Type 0 where
  pub ty : s.type_at (at + 1) ≡ ty_after i (s.type_at at)
  pub last : s.last_at at ≡ last_of i

-- the tables in words v, from those in words w, have what the instruction declares
abbrev pub Declares : Instr → ℕ → Words → Progress → Words → Progress → Type 0
Declares i at w p v q = (s : Source) → Stands s at (means s.text i) → tables_in s v q (at + 1) ≡ declare (means s.text i) (s.code_from (at + 1)) (tables_in s w p at)

-- the rows that an instruction adds, and the fields
abbrev pub rows_of : Instr → ℕ
rows_of (Num n) = 0
rows_of (Var x) = 0
rows_of Int = 0
rows_of (Op o) = 0
rows_of (Make c) = 0
rows_of (Call f) = 0
rows_of Arg = 0
rows_of Apply = 0
rows_of Box = 0
rows_of (Share x) = 0
rows_of (Lend x) = 0
rows_of (Load x) = 0
rows_of Get = 0
rows_of (Bind x) = 0
rows_of (Assign x) = 0
rows_of (Store x) = 0
rows_of Put = 0
rows_of If = 0
rows_of Else = 0
rows_of EndIf = 0
rows_of While = 0
rows_of Do = 0
rows_of EndWhile = 0
rows_of (Match w x) = 0
rows_of (Arm c) = 0
rows_of (Part x) = 0
rows_of Body = 0
rows_of EndArm = 0
rows_of EndMatch = 0
rows_of (Open x y) = 0
rows_of (Inside x y) = 0
rows_of Give = 0
rows_of EndFn = 0
rows_of TyInt = 0
rows_of (TyData d) = 0
rows_of TyBox = 0
rows_of TyRef = 0
rows_of TyMut = 0
rows_of Field = 0
rows_of (Ctor c) = 1
rows_of (Data d w) = 1
rows_of (Param x) = 1
rows_of (Fn f) = 1

-- how many rows there are
abbrev pub used : Progress → ℕ
used p = (p.datas + p.fns) + (p.ctors.end + p.params.end)

-- what noting an instruction does, for tables whose rows point at the first n instructions
pub record Noted (i : Instr) (at : ℕ) (w : Words) (p : Progress) (v : Words) (q : Progress) : Type 0 where
  pub declares : (n : ℕ) → Within w p n → Declares i at w p v q
  pub within : (n : ℕ) → Within w p n → at < n → Within v q n
  pub rows : used q ≡ used p + rows_of i
  pub fields : q.fields.end ≤ p.fields.end + 1

-- the same for what a slot holds
abbrev pub NotedSlot : Option Instr → ℕ → Words → Progress → Words → Progress → Type 0
NotedSlot None at w p v q = (v ≡ w) × (q ≡ p)
NotedSlot (Some i) at w p v q = Noted i at w p v q
