-- The instructions for which a checker keeps something.
use Rattle.std.specs.Prelude.{ℕ, ◌+◌, List, [], ◌∷◌}
use Rattle.code.specs.Instr.{Instr, i_num, i_var, i_int, i_op, i_make, i_call, i_arg, i_apply, i_box, i_share}
use Rattle.code.specs.Instr.{i_lend, i_load, i_get, i_bind, i_assign, i_store, i_put, i_if, i_else, i_end_if}
use Rattle.code.specs.Instr.{i_while, i_do, i_end_while, i_match, i_arm, i_name, i_body, i_end_arm, i_end_match}
use Rattle.code.specs.Instr.{i_open, i_inside, i_give, i_end_fn, i_ty_int, i_ty_data, i_ty_box, i_ty_ref}
use Rattle.code.specs.Instr.{i_ty_mut, i_field, i_ctor, i_data, i_param, i_fn}

-- instructions for which the checker keeps something: a name, a frame, an arm, a loan, a move, a
-- declaration. Each has a token of its own
abbrev pub grow : Instr → ℕ
grow (i_num n) = 0
grow (i_var x) = 1
grow i_int = 0
grow (i_op o) = 0
grow (i_make c) = 1
grow (i_call f) = 1
grow i_arg = 0
grow i_apply = 0
grow i_box = 0
grow (i_share x) = 1
grow (i_lend x) = 1
grow (i_load x) = 0
grow i_get = 0
grow (i_bind x) = 1
grow (i_assign x) = 1
grow (i_store x) = 0
grow i_put = 0
grow i_if = 1
grow i_else = 0
grow i_end_if = 0
grow i_while = 1
grow i_do = 0
grow i_end_while = 0
grow (i_match w x) = 1
grow (i_arm c) = 1
grow (i_name x) = 1
grow i_body = 0
grow i_end_arm = 0
grow i_end_match = 0
grow (i_open x y) = 1
grow (i_inside x y) = 1
grow i_give = 0
grow i_end_fn = 0
grow i_ty_int = 0
grow (i_ty_data d) = 0
grow i_ty_box = 0
grow i_ty_ref = 0
grow i_ty_mut = 0
grow i_field = 0
grow (i_ctor c) = 1
grow (i_data d w) = 1
grow (i_param x) = 1
grow (i_fn f) = 1

abbrev pub growth : List Instr → ℕ
growth [] = 0
growth (i ∷ is) = grow i + growth is
