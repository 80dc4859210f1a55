-- Linear code: the instructions, and the code of a program.
use Rattle.std.specs.Prelude.{ℕ, List, [], ◌∷◌, ◌++◌}
use Rattle.language.specs.Base.{Lexeme}
use Rattle.language.specs.Syntax.{Ty, int, dat, box, ref, mut, Expr, num, var, op, ctor, boxed, call, share, lend, load, get_e, Exprs, nil_e, cons_e, Access, Stmt, bind, assign, store, put_s, cond, loop, match_s, open_s, inside, Stmts, nil_s, cons_s, Alts, no_alts, alt, Body, body, Tail, give, give_cond, give_match, Arms, no_arms, arm, Ctor, Data, Param, Fn, Prog}

-- Operands stand before what is done with them, and each value is used by the instruction behind it: i_int ends a left operand and
-- i_arg an argument; i_make and i_call open a list of arguments, i_apply ends it.
pub data Instr : Type 0 where
  -- expressions
  i_num : ℕ → Instr
  i_var : Lexeme → Instr
  i_int : Instr
  i_op : ℕ → Instr
  i_make : Lexeme → Instr
  i_call : Lexeme → Instr
  i_arg : Instr
  i_apply : Instr
  i_box : Instr
  i_share : Lexeme → Instr
  i_lend : Lexeme → Instr
  i_load : Lexeme → Instr
  i_get : Instr
  -- statements, and what a function gives
  i_bind : Lexeme → Instr
  i_assign : Lexeme → Instr
  i_store : Lexeme → Instr
  i_put : Instr
  i_if : Instr
  i_else : Instr
  i_end_if : Instr
  i_while : Instr
  i_do : Instr
  i_end_while : Instr
  i_match : Access → Lexeme → Instr
  i_arm : Lexeme → Instr
  i_name : Lexeme → Instr
  i_body : Instr
  i_end_arm : Instr
  i_end_match : Instr
  i_open : Lexeme → Lexeme → Instr
  i_inside : Lexeme → Lexeme → Instr
  i_give : Instr
  i_end_fn : Instr
  -- types, inside out: box ref int is int, ref, box
  i_ty_int : Instr
  i_ty_data : Lexeme → Instr
  i_ty_box : Instr
  i_ty_ref : Instr
  i_ty_mut : Instr
  -- items: each field's type and i_field, i_ctor, .., i_data, with the function that is called when one is dropped, or [];
  -- each parameter's type and i_param, the result's type, i_fn, the body, i_end_fn
  i_field : Instr
  i_ctor : Lexeme → Instr
  i_data : Lexeme → Lexeme → Instr
  i_param : Lexeme → Instr
  i_fn : Lexeme → Instr

-- the code of a tree, in front of other code
abbrev mutual
  pub code_e : Expr → List Instr → List Instr
  code_e (num n) is = i_num n ∷ is
  code_e (var x) is = i_var x ∷ is
  code_e (op o a b) is = code_e a (i_int ∷ code_e b (i_op o ∷ is))
  code_e (ctor c es) is = i_make c ∷ code_es es is
  code_e (boxed a) is = code_e a (i_box ∷ is)
  code_e (call f es) is = i_call f ∷ code_es es is
  code_e (share x) is = i_share x ∷ is
  code_e (lend x) is = i_lend x ∷ is
  code_e (load x) is = i_load x ∷ is
  code_e get_e is = i_get ∷ is

  pub code_es : Exprs → List Instr → List Instr
  code_es nil_e is = i_apply ∷ is
  code_es (cons_e e es) is = code_e e (i_arg ∷ code_es es is)

abbrev pub code_names : List Lexeme → List Instr → List Instr
code_names [] is = i_body ∷ is
code_names (x ∷ xs) is = i_name x ∷ code_names xs is

abbrev mutual
  pub code_s : Stmt → List Instr → List Instr
  code_s (bind x e) is = code_e e (i_bind x ∷ is)
  code_s (assign x e) is = code_e e (i_assign x ∷ is)
  code_s (store x e) is = code_e e (i_store x ∷ is)
  code_s (put_s e) is = code_e e (i_put ∷ is)
  code_s (cond e a b) is = code_e e (i_if ∷ code_ss a (i_else ∷ code_ss b (i_end_if ∷ is)))
  code_s (loop e a) is = i_while ∷ code_e e (i_do ∷ code_ss a (i_end_while ∷ is))
  code_s (match_s w x as₁) is = i_match w x ∷ code_alts as₁ is
  code_s (open_s x y) is = i_open x y ∷ is
  code_s (inside x y) is = i_inside x y ∷ is

  pub code_ss : Stmts → List Instr → List Instr
  code_ss nil_s is = is
  code_ss (cons_s s ss) is = code_s s (code_ss ss is)

  pub code_alts : Alts → List Instr → List Instr
  code_alts no_alts is = i_end_match ∷ is
  code_alts (alt c xs ss as₁) is = i_arm c ∷ code_names xs (code_ss ss (i_end_arm ∷ code_alts as₁ is))

-- a function's body: the same instructions, and one for what it gives
abbrev mutual
  pub code_body : Body → List Instr → List Instr
  code_body (body ss t) is = code_ss ss (code_tail t is)

  pub code_tail : Tail → List Instr → List Instr
  code_tail (give e) is = code_e e (i_give ∷ is)
  code_tail (give_cond e a b) is = code_e e (i_if ∷ code_body a (i_else ∷ code_body b (i_end_if ∷ is)))
  code_tail (give_match w x as₁) is = i_match w x ∷ code_arms as₁ is

  pub code_arms : Arms → List Instr → List Instr
  code_arms no_arms is = i_end_match ∷ is
  code_arms (arm c xs b as₁) is = i_arm c ∷ code_names xs (code_body b (i_end_arm ∷ code_arms as₁ is))

abbrev pub code_ty : Ty → List Instr → List Instr
code_ty int is = i_ty_int ∷ is
code_ty (dat d) is = i_ty_data d ∷ is
code_ty (box t) is = code_ty t (i_ty_box ∷ is)
code_ty (ref t) is = code_ty t (i_ty_ref ∷ is)
code_ty (mut t) is = code_ty t (i_ty_mut ∷ is)

abbrev pub code_fields : List Ty → List Instr → List Instr
code_fields [] is = is
code_fields (t ∷ ts) is = code_ty t (i_field ∷ code_fields ts is)

abbrev pub code_ctors : List Ctor → List Instr → List Instr
code_ctors [] is = is
code_ctors (c ∷ cs) is = code_fields c.fields (i_ctor c.name ∷ code_ctors cs is)

abbrev pub code_params : List Param → List Instr → List Instr
code_params [] is = is
code_params (p ∷ ps) is = code_ty p.ty (i_param p.name ∷ code_params ps is)

-- a program's items in their order
pub data Item : Type 0 where
  a_data : Data → Item
  a_fn : Fn → Item

abbrev pub code_item : Item → List Instr → List Instr
code_item (a_data d) is = code_ctors d.ctors (i_data d.name d.last ∷ is)
code_item (a_fn f) is = code_params f.pars (code_ty f.ret (i_fn f.name ∷ code_body f.does (i_end_fn ∷ is)))

abbrev pub code_items : List Item → List Instr
code_items [] = []
code_items (i ∷ is) = code_item i (code_items is)

-- the program that items make, behind these data and functions
abbrev pub gather : List Data → List Fn → List Item → Prog
gather ds fs [] = record { datas = ds; funs = fs }
gather ds fs (a_data d ∷ is) = gather (ds ++ (d ∷ [])) fs is
gather ds fs (a_fn g ∷ is) = gather ds (fs ++ (g ∷ [])) is
