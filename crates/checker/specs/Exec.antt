-- The checker as a machine over code: one instruction, and a function to its end.
use Rattle.std.specs.Prelude.{suc, Bool, true, false, ◌&&◌, List, [], ◌∷◌, ◌++◌, length}
use Rattle.std.proofs.Math.Option.{Option, some, none}
use Rattle.language.specs.Base.{choose, if_some, only_if, Lexeme}
use Rattle.language.specs.Syntax.{Ty, int, dat, box, mut, Ctor}
use Rattle.language.specs.Checks.{same_ty, owned, ctor_named, home_of, loan, Env, look, fresh, all_loans, readable, is_free, set_gone, enter, there, typed, value, shared, loadable, holds, types_of_pars, outer, both, no_more_gone, ref_of, looks_at, covers, boxed_in, goes_in, stores, from_caller}
use Rattle.code.specs.Instr.{Instr, i_num, i_var, i_int, i_op, i_make, i_call, i_arg, i_apply, i_box, i_share, i_lend, i_load, i_get, i_bind, i_assign, i_store, i_put, i_if, i_else, i_end_if, i_while, i_do, i_end_while, i_match, i_arm, i_name, i_body, i_end_arm, i_end_match, i_open, i_inside, i_give, i_end_fn, i_ty_int, i_ty_data, i_ty_box, i_ty_ref, i_ty_mut, i_field, i_ctor, i_data, i_param, i_fn}
use Rattle.checker.specs.Heads.{sig_named}
use Rattle.checker.specs.Frames.{Ctx, data_only, Match, f_call, f_then, f_else, f_test, f_loop, f_match, State, at_rest, held_of, with_value, with_scope, on_call, on_then, on_else, on_test, on_loop, on_match, on_one, on_none}

-- the scope behind several arms
abbrev pub join : Env → List Env → Env
join g [] = g
join g (i ∷ []) = i
join g (i ∷ j ∷ ks) = both i (join g (j ∷ ks))

abbrev pub next_arm : Match → Lexeme → Ctor → Match
next_arm q c k = record { scope = q.scope; way = q.way; loans = q.loans; data1 = q.data1; seen = q.seen ++ (c ∷ []); ways = q.ways; left = k.fields }

abbrev pub fields_left : Match → List Ty → Match
fields_left q ts = record { scope = q.scope; way = q.way; loans = q.loans; data1 = q.data1; seen = q.seen; ways = q.ways; left = ts }

abbrev pub end_arm : Match → Env → Match
end_arm q g = record { scope = q.scope; way = q.way; loans = q.loans; data1 = q.data1; seen = q.seen; ways = q.ways ++ (outer q.scope g ∷ []); left = [] }

abbrev pub exec : Ctx → Instr → State → Option State
exec p (i_num n) s = with_value (typed int [] s.acc.env) s.frames
exec p (i_var x) s = with_value (if_some (there s.acc.env x) (λ v. value (held_of s.frames) s.acc.env v v.ty)) s.frames
exec p i_int s = only_if (same_ty s.acc.ty int) (some (at_rest s.acc.env s.frames))
exec p (i_op o) s = only_if (same_ty s.acc.ty int) (with_value (typed int [] s.acc.env) s.frames)
exec p (i_make c) s = if_some (home_of p.datas c) (λ h. some (at_rest s.acc.env (f_call h.ctor1.fields (dat h.data1.name) [] ∷ s.frames)))
exec p (i_call f) s = if_some (sig_named p.sigs f) (λ k. some (at_rest s.acc.env (f_call (types_of_pars k.params) k.ret [] ∷ s.frames)))
exec p i_arg s = on_call s.frames (λ ts u ls fs. on_one ts (λ t ts. only_if (same_ty s.acc.ty t) (some (at_rest s.acc.env (f_call ts u (ls ++ s.acc.loans) ∷ fs)))))
exec p i_apply s = on_call s.frames (λ ts u ls fs. on_none ts (with_value (typed u (holds u ls) s.acc.env) fs))
exec p i_box s = only_if (owned s.acc.ty) (with_value (typed (box s.acc.ty) [] s.acc.env) s.frames)
exec p (i_share x) s = with_value (if_some (there s.acc.env x) (λ v. shared (held_of s.frames) s.acc.env v v.ty)) s.frames
exec p (i_lend x) s = with_value (if_some (there s.acc.env x) (λ v. only_if (owned v.ty && is_free (held_of s.frames ++ all_loans s.acc.env) x) (typed (mut v.ty) (loan x true ∷ []) s.acc.env))) s.frames
exec p (i_load x) s = with_value (if_some (there s.acc.env x) (λ v. only_if (loadable v.ty && readable (held_of s.frames ++ all_loans s.acc.env) x) (typed int [] s.acc.env))) s.frames
exec p i_get s = with_value (typed int [] s.acc.env) s.frames
exec p (i_bind x) s = only_if (fresh s.acc.env x) (some (at_rest (enter s.acc.env x s.acc.ty s.acc.loans) s.frames))
exec p (i_assign x) s = with_scope (if_some (look s.acc.env x) (λ v. only_if (owned v.ty && (same_ty s.acc.ty v.ty && is_free (all_loans s.acc.env) x)) (some (set_gone false s.acc.env x)))) s.frames
exec p (i_store x) s = with_scope (if_some (there s.acc.env x) (λ v. stores s.acc.env x s.acc.ty v.ty)) s.frames
exec p i_put s = only_if (same_ty s.acc.ty int) (some (at_rest s.acc.env s.frames))
exec p i_if s = only_if (same_ty s.acc.ty int) (some (at_rest s.acc.env (f_then s.acc.env ∷ s.frames)))
exec p i_else s = on_then s.frames (λ h fs. some (at_rest h (f_else h (outer h s.acc.env) ∷ fs)))
exec p i_end_if s = on_else s.frames (λ h i fs. some (at_rest (both i (outer h s.acc.env)) fs))
exec p i_while s = some (at_rest s.acc.env (f_test s.acc.env ∷ s.frames))
exec p i_do s = on_test s.frames (λ g fs. only_if (same_ty s.acc.ty int) (some (at_rest s.acc.env (f_loop g s.acc.env ∷ fs))))
exec p i_end_while s = on_loop s.frames (λ g h fs. only_if (no_more_gone g (outer h s.acc.env)) (some (at_rest h fs)))
exec p (i_match w x) s = if_some (there s.acc.env x) (λ v. if_some (looks_at (data_only p.datas) s.acc.env v w v.ty) (λ k. some (at_rest k.env (f_match (record { scope = k.env; way = w; loans = k.loans; data1 = k.data1; seen = []; ways = []; left = [] }) ∷ s.frames))))
exec p (i_arm c) s = on_match s.frames (λ q fs. if_some (ctor_named q.data1.ctors c) (λ k. some (at_rest s.acc.env (f_match (next_arm q c k) ∷ fs))))
exec p (i_name x) s = on_match s.frames (λ q fs. on_one q.left (λ t ts. only_if (fresh s.acc.env x) (some (at_rest (enter s.acc.env x (ref_of q.way t) q.loans) (f_match (fields_left q ts) ∷ fs)))))
exec p i_body s = on_match s.frames (λ q fs. on_none q.left (some s))
exec p i_end_arm s = on_match s.frames (λ q fs. some (at_rest q.scope (f_match (end_arm q s.acc.env) ∷ fs)))
exec p i_end_match s = on_match s.frames (λ q fs. only_if (covers q.data1 q.seen) (some (at_rest (join q.scope q.ways) fs)))
exec p (i_open x y) s = with_scope (if_some (there s.acc.env y) (λ v. if_some (boxed_in v.ty) (λ t. only_if (fresh s.acc.env x && is_free (all_loans s.acc.env) y) (some (enter (set_gone true s.acc.env y) x t []))))) s.frames
exec p (i_inside x y) s = with_scope (only_if (fresh s.acc.env x) (if_some (there s.acc.env y) (λ v. goes_in s.acc.env v x v.ty))) s.frames
exec p i_give s = only_if (same_ty s.acc.ty p.ret && from_caller (suc (length s.acc.env)) s.acc.env p.refs s.acc.loans) (some (at_rest s.acc.env s.frames))
exec p i_end_fn s = none
exec p i_ty_int s = none
exec p (i_ty_data d) s = none
exec p i_ty_box s = none
exec p i_ty_ref s = none
exec p i_ty_mut s = none
exec p i_field s = none
exec p (i_ctor c) s = none
exec p (i_data d w) s = none
exec p (i_param x) s = none
exec p (i_fn f) s = none

abbrev pub is_end : Instr → Bool
is_end (i_num n) = false
is_end (i_var x) = false
is_end i_int = false
is_end (i_op o) = false
is_end (i_make c) = false
is_end (i_call f) = false
is_end i_arg = false
is_end i_apply = false
is_end i_box = false
is_end (i_share x) = false
is_end (i_lend x) = false
is_end (i_load x) = false
is_end i_get = false
is_end (i_bind x) = false
is_end (i_assign x) = false
is_end (i_store x) = false
is_end i_put = false
is_end i_if = false
is_end i_else = false
is_end i_end_if = false
is_end i_while = false
is_end i_do = false
is_end i_end_while = false
is_end (i_match w x) = false
is_end (i_arm c) = false
is_end (i_name x) = false
is_end i_body = false
is_end i_end_arm = false
is_end i_end_match = false
is_end (i_open x y) = false
is_end (i_inside x y) = false
is_end i_give = false
is_end i_end_fn = true
is_end i_ty_int = false
is_end (i_ty_data d) = false
is_end i_ty_box = false
is_end i_ty_ref = false
is_end i_ty_mut = false
is_end i_field = false
is_end (i_ctor c) = false
is_end (i_data d w) = false
is_end (i_param x) = false
is_end (i_fn f) = false

-- up to the end of the function; what stands behind it isn't looked at, nor are the names
abbrev pub exec_all : Ctx → List Instr → State → Option State
exec_all p [] s = none
exec_all p (i ∷ is) s = choose (is_end i) (some (at_rest [] [])) (if_some (exec p i s) (λ t. exec_all p is t))
