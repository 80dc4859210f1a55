-- The code of an expression does what the rules say of it.
use Rattle.std.proofs.Common.{◌≡◌, ◌&&◌, List, [], ◌∷◌, ◌++◌, sym, refl, ap, ◌∙◌, append_assoc, append-nil}
use mathlib.Core.Option.{Option, some}
use Rattle.language.specs.Base.{if_some}
use Rattle.language.specs.Syntax.{Ty, int, dat, Expr, num, var, op, ctor, boxed, call, share, lend, load, get_e, Exprs, nil_e, cons_e}
use Rattle.language.specs.Checks.{same_ty, owned, home_of, fn_named, Loan, there, Typed, loadable, holds, types_of_pars, expr, args}
use Rattle.code.specs.Instr.{Instr, i_int, i_op, i_arg, i_box, code_e, code_es}
use Rattle.checker.specs.Heads.{sig_named}
use Rattle.checker.specs.Frames.{Frame, f_call, state, at_rest, held_of, with_value}
use Rattle.checker.specs.Exec.{exec_all}
use Rattle.checker.proofs.Options.{if_if, only_then, if_same, if_none, only_same, only_when, if_on}
use Rattle.checker.proofs.Loans.{like, like_held, readable_like, free_like, value_like, shared_like}
use Rattle.checker.proofs.Whole.{Whole, ctx, sig_is}
use Rattle.checker.specs.Promise.{sigs_of}

-- what one piece with nothing inside says
leaf : (p : Whole) (fs : List Frame) (is : List Instr) (o u : Option Typed) → o ≡ u → if_some (with_value o fs) (λ t. exec_all (ctx p) is t) ≡ if_some u (λ r. exec_all (ctx p) is (state r fs))
leaf p fs is o u h = if_if o (λ r. some (state r fs)) (λ t. exec_all (ctx p) is t) ∙ ap (λ o. if_some o (λ r. exec_all (ctx p) is (state r fs))) h

mutual
  pub run_e : (e : Expr) (p : Whole) (held : List Loan) (s : Typed) (fs : List Frame) (is : List Instr) → like held (held_of fs) → exec_all (ctx p) (code_e e is) (state s fs) ≡ if_some (expr p.prog held s.env e) (λ r. exec_all (ctx p) is (state r fs))
  run_e (num n) p held s fs is h = refl
  run_e (var x) p held s fs is h = leaf p fs is _ _ (if_same (there s.env x) _ _ (λ v. sym (value_like held (held_of fs) s.env v v.ty h)))
  run_e (op o a b) p held s fs is h = run_e a p held s fs (i_int ∷ code_e b (i_op o ∷ is)) h
      ∙ if_same (expr p.prog held s.env a) _ _ (λ r. only_then (same_ty r.ty int) _ _ ∙ only_same (same_ty r.ty int) _ _ (run_e b p held (at_rest r.env fs).acc fs (i_op o ∷ is) h
      ∙ if_same (expr p.prog held r.env b) _ _ (λ r. only_then (same_ty r.ty int) _ _ ∙ sym (only_then (same_ty r.ty int) _ _))
      ∙ sym (if_if (expr p.prog held r.env b) _ _)) ∙ sym (only_then (same_ty r.ty int) _ _))
      ∙ sym (if_if (expr p.prog held s.env a) _ _)
  run_e (ctor c es) p held s fs is h = if_if (home_of p.prog.datas c) _ _ ∙ if_same (home_of p.prog.datas c) _ _ (λ k. run_es es p held (at_rest s.env fs).acc fs is k.ctor1.fields (dat k.data1.name) [] h ∙ sym (if_if (args p.prog held s.env es k.ctor1.fields) _ _)) ∙ sym (if_if (home_of p.prog.datas c) _ _)
  run_e (boxed a) p held s fs is h = run_e a p held s fs (i_box ∷ is) h ∙ if_same (expr p.prog held s.env a) _ _ (λ r. only_then (owned r.ty) _ _ ∙ sym (only_then (owned r.ty) _ _)) ∙ sym (if_if (expr p.prog held s.env a) _ _)
  run_e (call f es) p held s fs is h = if_if (sig_named (sigs_of p.prog.funs) f) _ _ ∙ if_on _ (sig_is p.prog.funs f) ∙ if_if (fn_named p.prog.funs f) _ _ ∙ if_same (fn_named p.prog.funs f) _ _ (λ k. run_es es p held (at_rest s.env fs).acc fs is (types_of_pars k.pars) k.ret [] h ∙ sym (if_if (args p.prog held s.env es (types_of_pars k.pars)) _ _)) ∙ sym (if_if (fn_named p.prog.funs f) _ _)
  run_e (share x) p held s fs is h = leaf p fs is _ _ (if_same (there s.env x) _ _ (λ v. sym (shared_like held (held_of fs) s.env v v.ty h)))
  run_e (lend x) p held s fs is h = leaf p fs is _ _ (if_same (there s.env x) _ _ (λ v. only_when _ (ap (λ b. owned v.ty && b) (sym (free_like held (held_of fs) s.env x h)))))
  run_e (load x) p held s fs is h = leaf p fs is _ _ (if_same (there s.env x) _ _ (λ v. only_when _ (ap (λ b. loadable v.ty && b) (sym (readable_like held (held_of fs) s.env x h)))))
  run_e get_e p held s fs is h = refl

  pub run_es : (es : Exprs) (p : Whole) (held : List Loan) (s : Typed) (fs : List Frame) (is : List Instr) (ts : List Ty) (u : Ty) (acc : List Loan) → like held (acc ++ held_of fs) → exec_all (ctx p) (code_es es is) (state s (f_call ts u acc ∷ fs)) ≡ if_some (args p.prog held s.env es ts) (λ r. exec_all (ctx p) is (state (record { ty = u; loans = holds u (acc ++ r.loans); env = r.env }) fs))
  run_es nil_e p held s fs is [] u acc h = ap (λ ls. exec_all (ctx p) is (state (record { ty = u; loans = holds u ls; env = s.env }) fs)) (sym (append-nil acc))
  run_es nil_e p held s fs is (t ∷ ts) u acc h = refl
  run_es (cons_e e es) p held s fs is [] u acc h = run_e e p held s (f_call [] u acc ∷ fs) (i_arg ∷ code_es es is) h ∙ if_none (expr p.prog held s.env e)
  run_es (cons_e e es) p held s fs is (t ∷ ts) u acc h = run_e e p held s (f_call (t ∷ ts) u acc ∷ fs) (i_arg ∷ code_es es is) h
      ∙ if_same (expr p.prog held s.env e) _ _ (λ r. only_then (same_ty r.ty t) _ _ ∙ only_same (same_ty r.ty t) _ _
      (run_es es p (r.loans ++ held) (at_rest r.env fs).acc fs is ts u (acc ++ r.loans) (like_held acc r.loans (held_of fs) held h)
      ∙ if_same (args p.prog (r.loans ++ held) r.env es ts) _ _ (λ q. ap (λ ls. exec_all (ctx p) is (state (record { ty = u; loans = holds u ls; env = q.env }) fs)) (append_assoc acc r.loans q.loans))
      ∙ sym (if_if (args p.prog (r.loans ++ held) r.env es ts) _ _)) ∙ sym (only_then (same_ty r.ty t) _ _))
      ∙ sym (if_if (expr p.prog held s.env e) _ _)
