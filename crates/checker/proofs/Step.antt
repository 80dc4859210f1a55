-- Every instruction: the machine with marks refuses exactly where the machine with environments does, and else stands for what that has.
use Rattle.std.proofs.Common.{suc, ◌&&◌, length, refl, ap}
use Rattle.language.specs.Syntax.{int}
use Rattle.language.specs.Checks.{same_ty, owned, home_of, from_caller}
use Rattle.checker.specs.Heads.{sig_named}
use Rattle.checker.specs.Frames.{Ctx}
use Rattle.checker.specs.Exec.{exec}
use Rattle.checker.proofs.LoanStack.{expand}
use Rattle.checker.proofs.Slots.{each, env2}
use Rattle.checker.specs.Marks.{State2, scope, live}
use Rattle.checker.specs.Machine.{given, exec2}
use Rattle.checker.proofs.Abstract.{abs, Inv, Agrees, neither, agree_some, agree_only, agree_if}
use Rattle.code.specs.Instr.{Instr, i_num, i_var, i_int, i_op, i_make, i_call, i_arg, i_apply, i_box, i_share, i_lend, i_load, i_get, i_bind, i_assign, i_store, i_put, i_if, i_else, i_end_if, i_while, i_do, i_end_while, i_match, i_arm, i_name, i_body, i_end_arm, i_end_match, i_open, i_inside, i_give, i_end_fn, i_ty_int, i_ty_data, i_ty_box, i_ty_ref, i_ty_mut, i_field, i_ctor, i_data, i_param, i_fn}
use Rattle.checker.proofs.StepControl.{else_ok, end_if_ok, do_ok, end_while_ok}
use Rattle.checker.proofs.StepMatch.{match_ok, arm_ok, name_ok, body_ok, end_arm_ok, end_match_ok}
use Rattle.checker.proofs.StepValue.{var_ok, share_ok, lend_ok, load_ok, arg_ok, apply_ok}
use Rattle.checker.proofs.StepScope.{bind_ok, assign_ok, store_ok, open_ok, inside_ok}
use Rattle.checker.proofs.FromCaller.{given_is}

pub step_ok : (p : Ctx) (i : Instr) (s : State2) → Inv s → Agrees (exec p i (abs s)) (exec2 p i s)
step_ok p (i_num n) s h = agree_some _ _ refl (h.0, (tt, h.1.1))
step_ok p (i_var x) s h = var_ok p x s h
step_ok p i_int s h = agree_only (same_ty s.ty int) (same_ty s.ty int) _ _ refl (λ e. agree_some _ _ refl (h.0, (tt, h.1.1)))
step_ok p (i_op o) s h = agree_only (same_ty s.ty int) (same_ty s.ty int) _ _ refl (λ e. agree_some _ _ refl (h.0, (tt, h.1.1)))
step_ok p (i_make c) s h = agree_if (home_of p.datas c) _ _ (λ k. agree_some _ _ refl (h.0, (tt, (tt, h.1.1))))
step_ok p (i_call f) s h = agree_if (sig_named p.sigs f) _ _ (λ k. agree_some _ _ refl (h.0, (tt, (tt, h.1.1))))
step_ok p i_arg s h = arg_ok p s.ty s.ents s.names s.log s.frames h
step_ok p i_apply s h = apply_ok p s.ty s.ents s.names s.log s.frames h
step_ok p i_box s h = agree_only (owned s.ty) (owned s.ty) _ _ refl (λ e. agree_some _ _ refl (h.0, (tt, h.1.1)))
step_ok p (i_share x) s h = share_ok p x s h
step_ok p (i_lend x) s h = lend_ok p x s h
step_ok p (i_load x) s h = load_ok p x s h
step_ok p i_get s h = agree_some _ _ refl (h.0, (tt, h.1.1))
step_ok p (i_bind x) s h = bind_ok p x s h
step_ok p (i_assign x) s h = assign_ok p x s h
step_ok p (i_store x) s h = store_ok p x s h
step_ok p i_put s h = agree_only (same_ty s.ty int) (same_ty s.ty int) _ _ refl (λ e. agree_some _ _ refl (h.0, (tt, h.1.1)))
step_ok p i_if s h = agree_only (same_ty s.ty int) (same_ty s.ty int) _ _ refl (λ e. agree_some _ _ refl (h.0, (tt, h.1.1)))
step_ok p i_else s h = else_ok p s.ty s.ents s.names s.log s.frames h
step_ok p i_end_if s h = end_if_ok p s.ty s.ents s.names s.log s.frames h
step_ok p i_while s h = agree_some _ _ refl (h.0, (tt, h.1.1))
step_ok p i_do s h = do_ok p s.ty s.ents s.names s.log s.frames h
step_ok p i_end_while s h = end_while_ok p s.ty s.ents s.names s.log s.frames h
step_ok p (i_match w x) s h = match_ok p w x s h
step_ok p (i_arm c) s h = arm_ok p c s.ty s.ents s.names s.log s.frames h
step_ok p (i_name x) s h = name_ok p x s.ty s.ents s.names s.log s.frames h
step_ok p i_body s h = body_ok p s.ty s.ents s.names s.log s.frames h
step_ok p i_end_arm s h = end_arm_ok p s.ty s.ents s.names s.log s.frames h
step_ok p i_end_match s h = end_match_ok p s.ty s.ents s.names s.log s.frames h
step_ok p (i_open x y) s h = open_ok p x y s h
step_ok p (i_inside x y) s h = inside_ok p x y s h
step_ok p i_give s h = agree_only (same_ty s.ty p.ret && from_caller (suc (length (env2 (scope s) (live s)))) (env2 (scope s) (live s)) p.refs (expand s.ents (each (scope s)))) (same_ty s.ty p.ret && given p s) _ _ (ap (λ b. same_ty s.ty p.ret && b) (given_is p s h)) (λ e. agree_some _ _ refl (h.0, (tt, h.1.1)))
step_ok p i_end_fn s h = neither
step_ok p i_ty_int s h = neither
step_ok p (i_ty_data d) s h = neither
step_ok p i_ty_box s h = neither
step_ok p i_ty_ref s h = neither
step_ok p i_ty_mut s h = neither
step_ok p i_field s h = neither
step_ok p (i_ctor c) s h = neither
step_ok p (i_data d w) s h = neither
step_ok p (i_param x) s h = neither
step_ok p (i_fn f) s h = neither
