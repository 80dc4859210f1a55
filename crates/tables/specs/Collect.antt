-- The declarations of a program, collected from its code: data, and functions with where their bodies stand.
use Rattle.std.specs.Prelude.{List, [], ◌∷◌, ◌++◌}
use Rattle.language.specs.Syntax.{Ty, int, dat, box, ref, mut, Ctor, Data, Param}
use Rattle.code.specs.Instr.{Instr, i_num, i_var, i_int, i_op, i_make, i_call, i_arg, i_apply, i_box, i_share, i_lend, i_load, i_get, i_bind, i_assign, i_store, i_put, i_if, i_else, i_end_if, i_while, i_do, i_end_while, i_match, i_arm, i_name, i_body, i_end_arm, i_end_match, i_open, i_inside, i_give, i_end_fn, i_ty_int, i_ty_data, i_ty_box, i_ty_ref, i_ty_mut, i_field, i_ctor, i_data, i_param, i_fn}
use Rattle.tables.specs.Heads.{Sig}

-- a function: its head, and the code from its body on
pub record Entry : Type 0 where
  pub sig : Sig
  pub code : List Instr

-- what was declared so far; the last type; fields of the constructor under way, constructors of the data, parameters of the function
pub record Tables : Type 0 where
  pub datas : List Data
  pub entries : List Entry
  pub ty : Ty
  pub fields : List Ty
  pub ctors : List Ctor
  pub params : List Param

abbrev pub with_ty : Tables → Ty → Tables
with_ty c t = record { datas = c.datas; entries = c.entries; ty = t; fields = c.fields; ctors = c.ctors; params = c.params }

-- with no type under way
abbrev pub declared : List Data → List Entry → List Ty → List Ctor → List Param → Tables
declared ds es ts ks ps = record { datas = ds; entries = es; ty = int; fields = ts; ctors = ks; params = ps }

-- an instruction, and the code behind it; what is inside bodies declares nothing
abbrev pub declare : Instr → List Instr → Tables → Tables
declare (i_num n) is c = c
declare (i_var x) is c = c
declare i_int is c = c
declare (i_op o) is c = c
declare (i_make c1) is c = c
declare (i_call f) is c = c
declare i_arg is c = c
declare i_apply is c = c
declare i_box is c = c
declare (i_share x) is c = c
declare (i_lend x) is c = c
declare (i_load x) is c = c
declare i_get is c = c
declare (i_bind x) is c = c
declare (i_assign x) is c = c
declare (i_store x) is c = c
declare i_put is c = c
declare i_if is c = c
declare i_else is c = c
declare i_end_if is c = c
declare i_while is c = c
declare i_do is c = c
declare i_end_while is c = c
declare (i_match w x) is c = c
declare (i_arm c1) is c = c
declare (i_name x) is c = c
declare i_body is c = c
declare i_end_arm is c = c
declare i_end_match is c = c
declare (i_open x y) is c = c
declare (i_inside x y) is c = c
declare i_give is c = c
declare i_end_fn is c = c
declare i_ty_int is c = with_ty c int
declare (i_ty_data d) is c = with_ty c (dat d)
declare i_ty_box is c = with_ty c (box c.ty)
declare i_ty_ref is c = with_ty c (ref c.ty)
declare i_ty_mut is c = with_ty c (mut c.ty)
declare i_field is c = declared c.datas c.entries (c.fields ++ (c.ty ∷ [])) c.ctors c.params
declare (i_ctor c1) is c = declared c.datas c.entries [] (c.ctors ++ (record { name = c1; fields = c.fields } ∷ [])) c.params
declare (i_data d w) is c = declared (c.datas ++ (record { name = d; ctors = c.ctors; last = w } ∷ [])) c.entries [] [] c.params
declare (i_param x) is c = declared c.datas c.entries c.fields c.ctors (c.params ++ (record { name = x; ty = c.ty } ∷ []))
declare (i_fn f) is c = declared c.datas (c.entries ++ (record { sig = record { name = f; params = c.params; ret = c.ty }; code = is } ∷ [])) c.fields c.ctors []

abbrev pub collect : List Instr → Tables → Tables
collect [] c = c
collect (i ∷ is) c = collect is (declare i is c)

abbrev pub tables_of : List Instr → Tables
tables_of is = collect is (declared [] [] [] [] [])
