-- The reader as a machine with a stack of symbols: its symbols and its steps. A token is a piece of
-- the text as `cut_up` gives it.
use Rattle.std.specs.Prelude.{ℕ, Bool, ◌||◌, List, [], ◌∷◌}
use Rattle.std.proofs.Math.Option.{Option}
use Rattle.language.specs.Base.{choose, from_option, Lexeme, same}
use Rattle.language.specs.Text.{peek, skip_one, sign_on, a_way, is_lower, is_upper, is_number, value_of, sg_lp}
use Rattle.language.specs.Text.{sg_rp, sg_lc, sg_rc, sg_comma, sg_semi, sg_colon, sg_bar, sg_gets, sg_star}
use Rattle.language.specs.Text.{sg_and, kw_data, kw_drop, kw_fn, kw_let, kw_put, kw_if, kw_else, kw_while}
use Rattle.language.specs.Text.{kw_open, kw_inside, kw_give, kw_get, kw_mut, kw_box, kw_ref, kw_int}
use Rattle.language.specs.Syntax.{Access}
use Rattle.code.specs.Instr.{Instr, i_num, i_var, i_int, i_op, i_make, i_call, i_arg, i_apply, i_box, i_share}
use Rattle.code.specs.Instr.{i_lend, i_load, i_get, i_bind, i_assign, i_store, i_put, i_if, i_else, i_end_if}
use Rattle.code.specs.Instr.{i_while, i_do, i_end_while, i_match, i_arm, i_name, i_body, i_end_arm, i_end_match}
use Rattle.code.specs.Instr.{i_open, i_inside, i_give, i_end_fn, i_ty_int, i_ty_data, i_ty_box, i_ty_ref}
use Rattle.code.specs.Instr.{i_ty_mut, i_field, i_ctor, i_data, i_param, i_fn}

abbrev pub Token : Type 0
Token = Lexeme

-- s_emit gives an instruction out, s_token wants that token; each other is what the definition
-- reads at one place. X-on: what may stand behind one of X
pub data Symbol : Type 0 where
  s_emit : Instr → Symbol
  s_token : Token → Symbol
  s_expr : Symbol
  s_compared : Symbol
  s_sum : Symbol
  s_product : Symbol
  s_factor : Symbol
  s_more_sum : Symbol
  s_more_product : Symbol
  s_primary : Symbol
  s_args : Symbol
  s_args_on : Symbol
  s_names : Symbol
  s_some_names : Symbol
  s_stmts : Symbol
  s_block : Symbol
  s_alts : Symbol
  s_body : Symbol
  s_tail : Symbol
  s_arms : Symbol
  s_type : Symbol
  s_fields : Symbol
  s_fields_on : Symbol
  s_some_fields : Symbol
  s_ctors : Symbol
  s_ctors_on : Symbol
  s_params : Symbol
  s_params_on : Symbol
  s_some_params : Symbol
  s_drop : Lexeme → Symbol
  s_items : Symbol

-- what a step does: it fails; or puts these symbols in place of the one it took, with these tokens
-- left; or emits
pub data Action : Type 0 where
  fail : Action
  push : List Symbol → List Token → Action
  emit : Instr → List Token → Action

abbrev pub with_name : (Lexeme → Bool) → List Token → (Lexeme → List Token → Action) → Action
with_name ok [] fun = fail
with_name ok (w ∷ left) fun = choose (ok w) (fun w left) fail

abbrev pub with_token : Token → List Token → (List Token → Action) → Action
with_token w [] fun = fail
with_token w (t ∷ left) fun = choose (same w t) (fun left) fail

-- behind a part of a sum or a product: an operator and another part, and what may stand behind that; or none
abbrev pub step_more : (Lexeme → Option ℕ) → Symbol → Symbol → List Token → Action
step_more op part again ts =
    from_option (op (peek ts)) (push [] ts)
    (λ k. push (s_emit i_int ∷ part ∷ s_emit (i_op k) ∷ again ∷ []) (skip_one ts))

-- behind &
abbrev pub step_loan : List Token → Action
step_loan ts =
    choose (same (peek ts) kw_mut) (with_name is_lower (skip_one ts) (λ x r. emit (i_lend x) r))
    (with_name is_lower ts (λ x r. emit (i_share x) r))

-- behind a constructor's name
abbrev pub step_make : Lexeme → List Token → Action
step_make c ts =
    choose (same (peek ts) sg_lp) (push (s_emit (i_make c) ∷ s_args ∷ []) (skip_one ts))
    (push (s_emit (i_make c) ∷ s_emit i_apply ∷ []) ts)

-- behind the name of a variable or a function
abbrev pub step_use : Lexeme → List Token → Action
step_use x ts =
    choose (same (peek ts) sg_lp)
    (choose (same (peek (skip_one ts)) sg_rp)
    (push (s_emit (i_call x) ∷ s_emit i_apply ∷ []) (skip_one (skip_one ts)))
    (push (s_emit (i_call x) ∷ s_args ∷ []) (skip_one ts)))
    (emit (i_var x) ts)

-- a number, a constructor, a variable, a call
abbrev pub step_atom : List Token → Action
step_atom ts =
    choose (is_number (peek ts)) (from_option (value_of (peek ts)) fail (λ n. emit (i_num n) (skip_one ts)))
    (choose (is_upper (peek ts)) (step_make (peek ts) (skip_one ts))
    (choose (is_lower (peek ts)) (step_use (peek ts) (skip_one ts)) fail))

-- what begins with *, & or box, or an atom
abbrev pub step_prefixed : List Token → Action
step_prefixed ts =
    choose (same (peek ts) sg_star) (with_name is_lower (skip_one ts) (λ x r. emit (i_load x) r))
    (choose (same (peek ts) sg_and) (step_loan (skip_one ts))
    (choose (same (peek ts) kw_box) (push (s_primary ∷ s_emit i_box ∷ []) (skip_one ts))
    (step_atom ts)))

abbrev pub step_primary : List Token → Action
step_primary ts =
    choose (same (peek ts) sg_lp) (push (s_expr ∷ s_token sg_rp ∷ []) (skip_one ts))
    (choose (same (peek ts) kw_get) (emit i_get (skip_one ts))
    (step_prefixed ts))

-- behind `let x =`
abbrev pub step_bound : Lexeme → List Token → Action
step_bound x ts =
    choose (same (peek ts) kw_open)
    (with_name is_lower (skip_one ts) (λ y r. push (s_token sg_semi ∷ s_emit (i_open x y) ∷ s_stmts ∷ []) r))
    (choose (same (peek ts) kw_inside)
    (with_name is_lower (skip_one ts) (λ y r. push (s_token sg_semi ∷ s_emit (i_inside x y) ∷ s_stmts ∷ []) r))
    (push (s_expr ∷ s_token sg_semi ∷ s_emit (i_bind x) ∷ s_stmts ∷ []) ts))

-- behind `let x`
abbrev pub step_named : Lexeme → List Token → Action
step_named x ts = with_token sg_gets ts (λ r. step_bound x r)

-- behind let
abbrev pub step_let : List Token → Action
step_let ts = with_name is_lower ts (λ x r. step_named x r)

-- behind *
abbrev pub step_store : List Token → Action
step_store ts =
    with_name is_lower ts (λ x r. with_token sg_gets r
    (λ q. push (s_expr ∷ s_token sg_semi ∷ s_emit (i_store x) ∷ s_stmts ∷ []) q))

-- behind take, view or edit
abbrev pub step_match : Access → Symbol → List Symbol → List Token → Action
step_match w arms on ts =
    with_name is_lower ts (λ x r. with_token sg_lc r (λ q. push (s_emit (i_match w x) ∷ arms ∷ on) q))

-- up to the closing brace of a match: its alternatives, with what each has inside and what reads those behind it
abbrev pub step_arms : Symbol → Symbol → List Token → Action
step_arms inside again ts =
    choose (same (peek ts) sg_rc) (emit i_end_match (skip_one ts))
    (with_name is_upper ts (λ c r.
    push (s_emit (i_arm c) ∷ s_some_names ∷ s_emit i_body ∷ inside ∷ s_emit i_end_arm ∷ again ∷ []) r))

abbrev pub step_assign : List Token → Action
step_assign ts =
    with_name is_lower ts (λ x r. with_token sg_gets r
    (λ q. push (s_expr ∷ s_token sg_semi ∷ s_emit (i_assign x) ∷ s_stmts ∷ []) q))

-- what begins with if or while, a match or an assignment
abbrev pub step_flow : List Token → Action
step_flow ts =
    choose (same (peek ts) kw_if)
    (push (s_expr ∷ s_emit i_if ∷ s_block ∷ s_token kw_else ∷ s_emit i_else ∷ s_block ∷ s_emit i_end_if ∷
    s_stmts ∷ []) (skip_one ts))
    (choose (same (peek ts) kw_while)
    (push (s_emit i_while ∷ s_expr ∷ s_emit i_do ∷ s_block ∷ s_emit i_end_while ∷ s_stmts ∷ []) (skip_one ts))
    (from_option (a_way (peek ts)) (step_assign ts) (λ w. step_match w s_alts (s_stmts ∷ []) (skip_one ts))))

abbrev pub step_stmt : List Token → Action
step_stmt ts =
    choose (same (peek ts) kw_let) (step_let (skip_one ts))
    (choose (same (peek ts) kw_put) (push (s_expr ∷ s_token sg_semi ∷ s_emit i_put ∷ s_stmts ∷ []) (skip_one ts))
    (choose (same (peek ts) sg_star) (step_store (skip_one ts))
    (step_flow ts)))

abbrev pub step_tail : List Token → Action
step_tail ts =
    choose (same (peek ts) kw_if)
    (push (s_expr ∷ s_emit i_if ∷ s_body ∷ s_token kw_else ∷ s_emit i_else ∷ s_body ∷ s_emit i_end_if ∷ [])
    (skip_one ts))
    (from_option (a_way (peek ts)) (push (s_expr ∷ s_emit i_give ∷ []) ts)
    (λ w. step_match w s_arms [] (skip_one ts)))

abbrev pub step_type : List Token → Action
step_type ts =
    choose (same (peek ts) kw_int) (emit i_ty_int (skip_one ts))
    (choose (same (peek ts) kw_box) (push (s_type ∷ s_emit i_ty_box ∷ []) (skip_one ts))
    (choose (same (peek ts) kw_ref) (push (s_type ∷ s_emit i_ty_ref ∷ []) (skip_one ts))
    (choose (same (peek ts) kw_mut) (push (s_type ∷ s_emit i_ty_mut ∷ []) (skip_one ts))
    (with_name is_lower ts (λ x r. emit (i_ty_data x) r)))))

-- behind data
abbrev pub step_data : List Token → Action
step_data ts =
    with_name is_lower ts (λ d r. with_token sg_gets r (λ q. push (s_ctors ∷ s_drop d ∷ s_items ∷ []) q))

-- behind fn
abbrev pub step_fn : List Token → Action
step_fn ts =
    with_name is_lower ts (λ g r. with_token sg_lp r
    (λ q. push (s_some_params ∷ s_token sg_colon ∷ s_type ∷ s_emit (i_fn g) ∷ s_body ∷ s_emit i_end_fn ∷
    s_items ∷ []) q))

abbrev pub step_item : List Token → Action
step_item ts =
    choose (same (peek ts) kw_data) (step_data (skip_one ts))
    (choose (same (peek ts) kw_fn) (step_fn (skip_one ts)) fail)

abbrev pub step : Symbol → List Token → Action
step (s_emit i) ts = emit i ts
step (s_token w) ts = with_token w ts (λ r. push [] r)
step s_expr ts = push (s_sum ∷ s_compared ∷ []) ts
step s_compared ts =
    from_option (sign_on 1 (peek ts)) (push [] ts)
    (λ k. push (s_emit i_int ∷ s_sum ∷ s_emit (i_op k) ∷ []) (skip_one ts))
step s_sum ts = push (s_product ∷ s_more_sum ∷ []) ts
step s_product ts = push (s_factor ∷ s_more_product ∷ []) ts
step s_factor ts = push (s_primary ∷ []) ts
step s_more_sum ts = step_more (sign_on 2) s_product s_more_sum ts
step s_more_product ts = step_more (sign_on 3) s_factor s_more_product ts
step s_primary ts = step_primary ts
step s_args ts = push (s_expr ∷ s_emit i_arg ∷ s_args_on ∷ []) ts
step s_args_on ts =
    choose (same (peek ts) sg_comma) (push (s_args ∷ []) (skip_one ts))
    (with_token sg_rp ts (λ r. emit i_apply r))
step s_names ts =
    with_name is_lower ts (λ x r.
    choose (same (peek r) sg_comma) (push (s_emit (i_name x) ∷ s_names ∷ []) (skip_one r))
    (with_token sg_rp r (λ q. emit (i_name x) q)))
step s_some_names ts = choose (same (peek ts) sg_lp) (push (s_names ∷ []) (skip_one ts)) (push [] ts)
step s_stmts ts = choose (same (peek ts) sg_rc || same (peek ts) kw_give) (push [] ts) (step_stmt ts)
step s_block ts = with_token sg_lc ts (λ r. push (s_stmts ∷ s_token sg_rc ∷ []) r)
step s_alts ts = step_arms s_block s_alts ts
step s_body ts = with_token sg_lc ts (λ r. push (s_stmts ∷ s_token kw_give ∷ s_tail ∷ s_token sg_rc ∷ []) r)
step s_tail ts = step_tail ts
step s_arms ts = step_arms s_body s_arms ts
step s_type ts = step_type ts
step s_fields ts = push (s_type ∷ s_emit i_field ∷ s_fields_on ∷ []) ts
step s_fields_on ts =
    choose (same (peek ts) sg_comma) (push (s_fields ∷ []) (skip_one ts)) (with_token sg_rp ts (λ r. push [] r))
step s_some_fields ts = choose (same (peek ts) sg_lp) (push (s_fields ∷ []) (skip_one ts)) (push [] ts)
step s_ctors ts = with_name is_upper ts (λ c r. push (s_some_fields ∷ s_emit (i_ctor c) ∷ s_ctors_on ∷ []) r)
step s_ctors_on ts = choose (same (peek ts) sg_bar) (push (s_ctors ∷ []) (skip_one ts)) (push [] ts)
step s_params ts =
    with_name is_lower ts (λ x r. with_token sg_colon r
    (λ q. push (s_type ∷ s_emit (i_param x) ∷ s_params_on ∷ []) q))
step s_params_on ts =
    choose (same (peek ts) sg_comma) (push (s_params ∷ []) (skip_one ts)) (with_token sg_rp ts (λ r. push [] r))
step s_some_params ts = choose (same (peek ts) sg_rp) (push [] (skip_one ts)) (push (s_params ∷ []) ts)
step (s_drop d) ts =
    choose (same (peek ts) kw_drop)
    (with_name is_lower (skip_one ts) (λ w r. push (s_token sg_semi ∷ s_emit (i_data d w) ∷ []) r))
    (push (s_token sg_semi ∷ s_emit (i_data d []) ∷ []) ts)
step s_items [] = push [] []
step s_items (t ∷ ts) = step_item (t ∷ ts)
