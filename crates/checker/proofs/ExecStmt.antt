-- The code of statements does what the rules say of them.
use Rattle.std.proofs.Common.{◌≡◌, List, [], ◌∷◌, ◌++◌, sym, refl, ap, ◌∙◌, ap₂, append_assoc, append-nil}
use mathlib.Core.Option.{Option, some}
use Rattle.language.specs.Base.{choose, if_some, only_if, some_of, Lexeme}
use Rattle.language.specs.Syntax.{Ty, int, Access, Stmt, bind, assign, store, put_s, cond, loop, match_s, open_s, inside, Stmts, nil_s, cons_s, Alts, no_alts, alt, Data, Prog}
use Rattle.language.specs.Checks.{same_ty, ctor_named, Loan, Env, fresh, enter, there, expr, outer, both, no_more_gone, ref_of, bind_all, Matched, looks_at, covers, alt_names, is_no_alts, stmt, stmts, alts}
use Rattle.code.specs.Instr.{Instr, i_bind, i_assign, i_store, i_put, i_if, i_else, i_end_if, i_do, i_end_while, i_end_arm, code_names, code_s, code_ss, code_alts}
use Rattle.checker.specs.Frames.{data_only, Match, Frame, f_then, f_else, f_test, f_loop, f_match, at_rest, held_of, with_scope}
use Rattle.checker.specs.Exec.{join, fields_left, exec_all}
use Rattle.checker.proofs.Options.{if_if, only_then, if_same, only_same, only_in, if_on}
use Rattle.checker.proofs.Loans.{like}
use Rattle.checker.proofs.Whole.{Whole, ctx, looks_is}
use Rattle.checker.proofs.ExecExpr.{run_e}

-- statements
pub nothing_held : (fs : List Frame) → held_of fs ≡ [] → like [] (held_of fs)
nothing_held fs h f = ap (some_of f) (sym h)

pub leaf_s : (p : Whole) (fs : List Frame) (is : List Instr) (o : Option Env) → if_some (with_scope o fs) (λ t. exec_all (ctx p) is t) ≡ if_some o (λ h. exec_all (ctx p) is (at_rest h fs))
leaf_s p fs is o = if_if o (λ g. some (at_rest g fs)) (λ t. exec_all (ctx p) is t)

-- the names behind each alternative
abbrev pub each_way : Prog → Env → Access → List Loan → Data → Alts → Option (List Env)
each_way p g w ls d no_alts = some []
each_way p g w ls d (alt c xs ss as₁) = if_some (ctor_named d.ctors c) (λ k. if_some (bind_all w ls g xs k.fields) (λ h. if_some (stmts p h ss) (λ i. if_some (each_way p g w ls d as₁) (λ ks. some (outer g i ∷ ks)))))

ways_alt : {C : Type 0} (p : Prog) (g : Env) (w : Access) (ls : List Loan) (d : Data) (c : Lexeme) (xs : List Lexeme) (ss : Stmts) (as₁ : Alts) (f : List Env → Option C) → if_some (each_way p g w ls d (alt c xs ss as₁)) f ≡ if_some (ctor_named d.ctors c) (λ k. if_some (bind_all w ls g xs k.fields) (λ h. if_some (stmts p h ss) (λ i. if_some (each_way p g w ls d as₁) (λ ks. f (outer g i ∷ ks)))))
ways_alt p g w ls d c xs ss as₁ f = if_if (ctor_named d.ctors c) _ _ ∙ if_same (ctor_named d.ctors c) _ _ (λ k. if_if (bind_all w ls g xs k.fields) _ _ ∙ if_same (bind_all w ls g xs k.fields) _ _ (λ h. if_if (stmts p h ss) _ _ ∙ if_same (stmts p h ss) _ _ (λ i. if_if (each_way p g w ls d as₁) _ _)))

join_one : (p : Prog) (g : Env) (w : Access) (ls : List Loan) (d : Data) (as₁ : Alts) (i : Env) → if_some (each_way p g w ls d as₁) (λ ks. some (choose (is_no_alts as₁) i (both i (join g ks)))) ≡ if_some (each_way p g w ls d as₁) (λ ks. some (join g (i ∷ ks)))
join_one p g w ls d no_alts i = refl
join_one p g w ls d (alt c xs ss as₁) i = ways_alt p g w ls d c xs ss as₁ (λ ks. some (both i (join g ks))) ∙ sym (ways_alt p g w ls d c xs ss as₁ (λ ks. some (join g (i ∷ ks))))

alts_ways : (as₁ : Alts) (p : Prog) (g : Env) (w : Access) (ls : List Loan) (d : Data) → alts p g w ls d as₁ ≡ if_some (each_way p g w ls d as₁) (λ ks. some (join g ks))
alts_ways no_alts p g w ls d = refl
alts_ways (alt c xs ss as₁) p g w ls d = if_same (ctor_named d.ctors c) _ _ (λ k. if_same (bind_all w ls g xs k.fields) _ _ (λ h. if_same (stmts p h ss) _ _ (λ i. ap (λ o. if_some o (λ j. some (choose (is_no_alts as₁) (outer g i) (both (outer g i) j)))) (alts_ways as₁ p g w ls d) ∙ if_if (each_way p g w ls d as₁) _ _ ∙ join_one p g w ls d as₁ (outer g i)))) ∙ sym (ways_alt p g w ls d c xs ss as₁ (λ ks. some (join g ks)))

pub run_names : (xs : List Lexeme) (p : Whole) (g : Env) (q : Match) (ts : List Ty) (fs : List Frame) (is : List Instr) → exec_all (ctx p) (code_names xs is) (at_rest g (f_match (fields_left q ts) ∷ fs)) ≡ if_some (bind_all q.way q.loans g xs ts) (λ h. exec_all (ctx p) is (at_rest h (f_match (fields_left q []) ∷ fs)))
run_names [] p g q [] fs is = refl
run_names [] p g q (t ∷ ts) fs is = refl
run_names (x ∷ xs) p g q [] fs is = refl
run_names (x ∷ xs) p g q (t ∷ ts) fs is = only_then (fresh g x) _ _ ∙ only_same (fresh g x) _ _ (run_names xs p (enter g x (ref_of q.way t) q.loans) q ts fs is) ∙ sym (only_then (fresh g x) _ _)

match_is : (as₁ : Alts) (p : Whole) (fs : List Frame) (is : List Instr) (w : Access) (k : Matched) → if_some (each_way p.prog k.env w k.loans k.data1 as₁) (λ js. only_if (covers k.data1 (alt_names as₁)) (exec_all (ctx p) is (at_rest (join k.env js) fs))) ≡ if_some (only_if (covers k.data1 (alt_names as₁)) (alts p.prog k.env w k.loans k.data1 as₁)) (λ h. exec_all (ctx p) is (at_rest h fs))
match_is as₁ p fs is w k = sym (only_then (covers k.data1 (alt_names as₁)) _ _ ∙ only_same (covers k.data1 (alt_names as₁)) _ _ (ap (λ o. if_some o (λ h. exec_all (ctx p) is (at_rest h fs))) (alts_ways as₁ p.prog k.env w k.loans k.data1) ∙ if_if (each_way p.prog k.env w k.loans k.data1 as₁) _ _) ∙ only_in (covers k.data1 (alt_names as₁)) _ _)

abbrev pub match_of : Env → Access → List Loan → Data → List Lexeme → List Env → Match
match_of g w ls d cs ks = record { scope = g; way = w; loans = ls; data1 = d; seen = cs; ways = ks; left = [] }

mutual
  pub run_s : (s : Stmt) (p : Whole) (g : Env) (fs : List Frame) (is : List Instr) → held_of fs ≡ [] → exec_all (ctx p) (code_s s is) (at_rest g fs) ≡ if_some (stmt p.prog g s) (λ h. exec_all (ctx p) is (at_rest h fs))
  run_s (bind x e) p g fs is h = run_e e p [] (at_rest g fs).acc fs (i_bind x ∷ is) (nothing_held fs h) ∙ if_same (expr p.prog [] g e) _ _ (λ r. only_then (fresh r.env x) _ _ ∙ sym (only_then (fresh r.env x) _ _)) ∙ sym (if_if (expr p.prog [] g e) _ _)
  run_s (assign x e) p g fs is h = run_e e p [] (at_rest g fs).acc fs (i_assign x ∷ is) (nothing_held fs h) ∙ if_same (expr p.prog [] g e) _ _ (λ r. leaf_s p fs is _) ∙ sym (if_if (expr p.prog [] g e) _ _)
  run_s (store x e) p g fs is h = run_e e p [] (at_rest g fs).acc fs (i_store x ∷ is) (nothing_held fs h) ∙ if_same (expr p.prog [] g e) _ _ (λ r. leaf_s p fs is _) ∙ sym (if_if (expr p.prog [] g e) _ _)
  run_s (put_s e) p g fs is h = run_e e p [] (at_rest g fs).acc fs (i_put ∷ is) (nothing_held fs h) ∙ if_same (expr p.prog [] g e) _ _ (λ r. only_then (same_ty r.ty int) _ _ ∙ sym (only_then (same_ty r.ty int) _ _)) ∙ sym (if_if (expr p.prog [] g e) _ _)
  run_s (cond e a b) p g fs is h = run_e e p [] (at_rest g fs).acc fs (i_if ∷ code_ss a (i_else ∷ code_ss b (i_end_if ∷ is))) (nothing_held fs h)
      ∙ if_same (expr p.prog [] g e) _ _ (λ r. only_then (same_ty r.ty int) _ _ ∙ only_same (same_ty r.ty int) _ _
      (run_ss a p r.env (f_then r.env ∷ fs) (i_else ∷ code_ss b (i_end_if ∷ is)) refl
      ∙ if_same (stmts p.prog r.env a) _ _ (λ i. run_ss b p r.env (f_else r.env (outer r.env i) ∷ fs) (i_end_if ∷ is) refl ∙ sym (if_if (stmts p.prog r.env b) _ _))
      ∙ sym (if_if (stmts p.prog r.env a) _ _)) ∙ sym (only_then (same_ty r.ty int) _ _))
      ∙ sym (if_if (expr p.prog [] g e) _ _)
  run_s (loop e a) p g fs is h = run_e e p [] (at_rest g fs).acc (f_test g ∷ fs) (i_do ∷ code_ss a (i_end_while ∷ is)) (λ f. refl)
      ∙ if_same (expr p.prog [] g e) _ _ (λ r. only_then (same_ty r.ty int) _ _ ∙ only_same (same_ty r.ty int) _ _
      (run_ss a p r.env (f_loop g r.env ∷ fs) (i_end_while ∷ is) refl
      ∙ if_same (stmts p.prog r.env a) _ _ (λ i. only_then (no_more_gone g (outer r.env i)) _ _ ∙ sym (only_then (no_more_gone g (outer r.env i)) _ _))
      ∙ sym (if_if (stmts p.prog r.env a) _ _)) ∙ sym (only_then (same_ty r.ty int) _ _))
      ∙ sym (if_if (expr p.prog [] g e) _ _)
  run_s (match_s w x as₁) p g fs is h = if_if (there g x) _ _ ∙ if_same (there g x) _ _ (λ v. if_if (looks_at (data_only p.prog.datas) g v w v.ty) _ _ ∙ if_on _ (looks_is p.prog g v w v.ty) ∙ if_same (looks_at p.prog g v w v.ty) _ _ (λ k. run_alts as₁ p k.env w k.loans k.data1 [] [] fs is ∙ match_is as₁ p fs is w k) ∙ sym (if_if (looks_at p.prog g v w v.ty) _ _)) ∙ sym (if_if (there g x) _ _)
  run_s (open_s x y) p g fs is h = leaf_s p fs is _
  run_s (inside x y) p g fs is h = leaf_s p fs is _

  pub run_ss : (ss : Stmts) (p : Whole) (g : Env) (fs : List Frame) (is : List Instr) → held_of fs ≡ [] → exec_all (ctx p) (code_ss ss is) (at_rest g fs) ≡ if_some (stmts p.prog g ss) (λ h. exec_all (ctx p) is (at_rest h fs))
  run_ss nil_s p g fs is h = refl
  run_ss (cons_s s ss) p g fs is h = run_s s p g fs (code_ss ss is) h ∙ if_same (stmt p.prog g s) _ _ (λ i. run_ss ss p i fs is h) ∙ sym (if_if (stmt p.prog g s) _ _)

  pub run_alts : (as₁ : Alts) (p : Whole) (g : Env) (w : Access) (ls : List Loan) (d : Data) (cs : List Lexeme) (ks : List Env) (fs : List Frame) (is : List Instr) → exec_all (ctx p) (code_alts as₁ is) (at_rest g (f_match (match_of g w ls d cs ks) ∷ fs)) ≡ if_some (each_way p.prog g w ls d as₁) (λ js. only_if (covers d (cs ++ alt_names as₁)) (exec_all (ctx p) is (at_rest (join g (ks ++ js)) fs)))
  run_alts no_alts p g w ls d cs ks fs is = only_then (covers d cs) _ _ ∙ ap₂ (λ cs ks. only_if (covers d cs) (exec_all (ctx p) is (at_rest (join g ks) fs))) (sym (append-nil cs)) (sym (append-nil ks))
  run_alts (alt c xs ss as₁) p g w ls d cs ks fs is = if_if (ctor_named d.ctors c) _ _ ∙ if_same (ctor_named d.ctors c) _ _ (λ k. run_names xs p g (match_of g w ls d (cs ++ (c ∷ [])) ks) k.fields fs (code_ss ss (i_end_arm ∷ code_alts as₁ is))
      ∙ if_same (bind_all w ls g xs k.fields) _ _ (λ h. run_ss ss p h (f_match (match_of g w ls d (cs ++ (c ∷ [])) ks) ∷ fs) (i_end_arm ∷ code_alts as₁ is) refl
      ∙ if_same (stmts p.prog h ss) _ _ (λ i. run_alts as₁ p g w ls d (cs ++ (c ∷ [])) (ks ++ (outer g i ∷ [])) fs is ∙ if_same (each_way p.prog g w ls d as₁) _ _ (λ js. ap₂ (λ cs ks. only_if (covers d cs) (exec_all (ctx p) is (at_rest (join g ks) fs))) (append_assoc cs (c ∷ []) (alt_names as₁)) (append_assoc ks (outer g i ∷ []) js))))) ∙ sym (ways_alt p.prog g w ls d c xs ss as₁ _)
