-- The code of a function's body is executed to its end exactly if the rules accept it.
use Rattle.std.proofs.Common.{◌≡◌, suc, Bool, true, false, ◌&&◌, List, [], ◌∷◌, ◌++◌, length, sym, refl, ap, ◌∙◌, ap₂, append_assoc, append-nil}
use mathlib.Core.Option.{some}
use Rattle.language.specs.Base.{only_if, present, Lexeme}
use Rattle.language.specs.Syntax.{int, Access, Body, body, Tail, give, give_cond, give_match, Arms, no_arms, arm, Data}
use Rattle.language.specs.Checks.{same_ty, ctor_named, Loan, Env, there, expr, outer, bind_all, looks_at, covers, stmts, arm_names, from_caller, is_body, is_tail, are_arms}
use Rattle.code.specs.Instr.{Instr, i_if, i_else, i_end_if, i_end_arm, i_give, i_end_fn, code_body, code_tail, code_arms}
use Rattle.checker.specs.Frames.{data_only, Frame, f_then, f_else, f_match, at_rest, held_of}
use Rattle.checker.specs.Exec.{exec_all}
use Rattle.checker.proofs.Options.{if_if, only_then, if_same, only_same, if_each, if_only, only_and, only_swap, if_on}
use Rattle.checker.proofs.Whole.{Whole, ctx, looks_is}
use Rattle.checker.proofs.ExecExpr.{run_e}
use Rattle.checker.proofs.ExecStmt.{nothing_held, run_ss, run_names, match_of}
use Rattle.checker.proofs.Keeps.{plain, keeps, from_same}

-- what comes after doesn't look at the names
abbrev pub Blind : Whole → List Instr → List Frame → Type 0
Blind p is fs = (h i : Env) → exec_all (ctx p) is (at_rest h fs) ≡ exec_all (ctx p) is (at_rest i fs)

mutual
  pub run_body : (b : Body) (p : Whole) (g i : Env) (fs : List Frame) (is : List Instr) → held_of fs ≡ [] → Blind p is fs → exec_all (ctx p) (code_body b is) (at_rest g fs) ≡ only_if (is_body p.prog p.refs p.ret g b) (exec_all (ctx p) is (at_rest i fs))
  run_body (body ss b) p g i fs is h k = run_ss ss p g fs (code_tail b is) h ∙ if_same (stmts p.prog g ss) _ _ (λ j. run_tail b p j i fs is h k) ∙ if_only (stmts p.prog g ss) _ _

  pub run_tail : (b : Tail) (p : Whole) (g i : Env) (fs : List Frame) (is : List Instr) → held_of fs ≡ [] → Blind p is fs → exec_all (ctx p) (code_tail b is) (at_rest g fs) ≡ only_if (is_tail p.prog p.refs p.ret g b) (exec_all (ctx p) is (at_rest i fs))
  run_tail (give e) p g i fs is h k = run_e e p [] (at_rest g fs).acc fs (i_give ∷ is) (nothing_held fs h)
      ∙ if_each (λ r. plain r.env ≡ plain g) (expr p.prog [] g e) _ _ (keeps e p.prog [] g) (λ r q. only_then (same_ty r.ty p.ret && from_caller (suc (length r.env)) r.env p.refs r.loans) _ _
      ∙ ap₂ (λ c z. only_if (same_ty r.ty p.ret && c) z) (from_same r.env g p.refs r.loans q) (k r.env i))
      ∙ if_only (expr p.prog [] g e) _ _
  run_tail (give_cond e a b) p g i fs is h k = run_e e p [] (at_rest g fs).acc fs (i_if ∷ code_body a (i_else ∷ code_body b (i_end_if ∷ is))) (nothing_held fs h)
      ∙ if_same (expr p.prog [] g e) _ _ (λ r. only_then (same_ty r.ty int) _ _ ∙ only_same (same_ty r.ty int) _ _
      (run_body a p r.env r.env (f_then r.env ∷ fs) (i_else ∷ code_body b (i_end_if ∷ is)) refl
      (λ x y. run_body b p r.env r.env (f_else r.env (outer r.env x) ∷ fs) (i_end_if ∷ is) refl (λ v w. k _ _)
      ∙ only_same (is_body p.prog p.refs p.ret r.env b) _ _ (k _ _)
      ∙ sym (run_body b p r.env r.env (f_else r.env (outer r.env y) ∷ fs) (i_end_if ∷ is) refl (λ v w. k _ _)))
      ∙ only_same (is_body p.prog p.refs p.ret r.env a) _ _ (run_body b p r.env r.env (f_else r.env (outer r.env r.env) ∷ fs) (i_end_if ∷ is) refl (λ v w. k _ _) ∙ only_same (is_body p.prog p.refs p.ret r.env b) _ _ (k _ i))
      ∙ only_and (is_body p.prog p.refs p.ret r.env a) (is_body p.prog p.refs p.ret r.env b) _) ∙ only_and (same_ty r.ty int) _ _)
      ∙ if_only (expr p.prog [] g e) _ _
  run_tail (give_match w x as₁) p g i fs is h k = if_if (there g x) _ _ ∙ if_same (there g x) _ _ (λ v. if_if (looks_at (data_only p.prog.datas) g v w v.ty) _ _ ∙ if_on _ (looks_is p.prog g v w v.ty) ∙ if_same (looks_at p.prog g v w v.ty) _ _ (λ q. run_arms as₁ p q.env i w q.loans q.data1 [] [] fs is h k ∙ only_swap (are_arms p.prog p.refs p.ret q.env w q.loans q.data1 as₁) (covers q.data1 (arm_names as₁)) _) ∙ if_only (looks_at p.prog g v w v.ty) _ _) ∙ if_only (there g x) _ _

  pub run_arms : (as₁ : Arms) (p : Whole) (g i : Env) (w : Access) (ls : List Loan) (d : Data) (cs : List Lexeme) (ks : List Env) (fs : List Frame) (is : List Instr) → held_of fs ≡ [] → Blind p is fs → exec_all (ctx p) (code_arms as₁ is) (at_rest g (f_match (match_of g w ls d cs ks) ∷ fs)) ≡ only_if (are_arms p.prog p.refs p.ret g w ls d as₁) (only_if (covers d (cs ++ arm_names as₁)) (exec_all (ctx p) is (at_rest i fs)))
  run_arms no_arms p g i w ls d cs ks fs is h k = only_then (covers d cs) _ _ ∙ ap₂ (λ cs z. only_if (covers d cs) z) (sym (append-nil cs)) (k _ i)
  run_arms (arm c xs b as₁) p g i w ls d cs ks fs is h k = if_if (ctor_named d.ctors c) _ _ ∙ if_same (ctor_named d.ctors c) _ _ (λ q. run_names xs p g (match_of g w ls d (cs ++ (c ∷ [])) ks) q.fields fs (code_body b (i_end_arm ∷ code_arms as₁ is))
      ∙ if_same (bind_all w ls g xs q.fields) _ _ (λ j. run_body b p j j (f_match (match_of g w ls d (cs ++ (c ∷ [])) ks) ∷ fs) (i_end_arm ∷ code_arms as₁ is) refl
      (λ x y. run_arms as₁ p g i w ls d (cs ++ (c ∷ [])) (ks ++ (outer g x ∷ [])) fs is h k ∙ sym (run_arms as₁ p g i w ls d (cs ++ (c ∷ [])) (ks ++ (outer g y ∷ [])) fs is h k))
      ∙ only_same (is_body p.prog p.refs p.ret j b) _ _ (run_arms as₁ p g i w ls d (cs ++ (c ∷ [])) (ks ++ (outer g j ∷ [])) fs is h k ∙ only_same (are_arms p.prog p.refs p.ret g w ls d as₁) _ _ (ap (λ cs. only_if (covers d cs) (exec_all (ctx p) is (at_rest i fs))) (append_assoc cs (c ∷ []) (arm_names as₁)))))
      ∙ if_only (bind_all w ls g xs q.fields) _ _) ∙ if_only (ctor_named d.ctors c) _ _ ∙ only_and _ (are_arms p.prog p.refs p.ret g w ls d as₁) _

-- a function's body, from its parameters to the end
present_only : {A : Type 0} (b : Bool) (x : A) → present (only_if b (some x)) ≡ b
present_only true x = refl
present_only false x = refl

pub run_fn : (b : Body) (p : Whole) (g : Env) (is : List Instr) → present (exec_all (ctx p) (code_body b (i_end_fn ∷ is)) (at_rest g [])) ≡ is_body p.prog p.refs p.ret g b
run_fn b p g is = ap present (run_body b p g g [] (i_end_fn ∷ is) refl (λ h i. refl)) ∙ present_only (is_body p.prog p.refs p.ret g b) (at_rest [] [])
