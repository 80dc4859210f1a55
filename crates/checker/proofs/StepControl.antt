-- Two ways and loops: each step of the machine with marks is that of the machine with environments.
use Rattle.std.proofs.Common.{List, [], ◌∷◌, ◌++◌, sym, refl, ap, ◌∙◌, subst, ap₂, append_assoc}
use Rattle.language.specs.Syntax.{Ty, int}
use Rattle.language.specs.Checks.{same_ty, outer, both, no_more_gone}
use Rattle.checker.specs.Frames.{Ctx, f_else, at_rest}
use Rattle.checker.specs.Exec.{exec}
use Rattle.scope.specs.Loans.{Ent}
use Rattle.scope.specs.Log.{Log, joined}
use Rattle.checker.proofs.LogJoin.{join_env}
use Rattle.scope.specs.Slots.{Slot}
use Rattle.checker.proofs.Slots.{as_names, env2}
use Rattle.checker.specs.Marks.{Mark, k_call, k_then, k_else, k_test, k_loop, k_match, st, names_of, log_of}
use Rattle.checker.specs.Machine.{none_more2, exec2}
use Rattle.checker.proofs.Abstract.{as_frames, abs, Inv, Scoped, calls_old, frames_old, scoped_old, outer2, Agrees, neither, agree_some, agree_only}
use Rattle.checker.proofs.StepLaws.{more2}
use Rattle.code.specs.Instr.{i_else, i_end_if, i_do, i_end_while}

pub else_ok : (p : Ctx) (t : Ty) (es : List Ent) (us : List Slot) (l : Log) (ks : List Mark) → Inv (st t es us l ks) → Agrees (exec p i_else (abs (st t es us l ks))) (exec2 p i_else (st t es us l ks))
else_ok p t es us l [] i = neither
else_ok p t es us l (k_call ts u gs ∷ ks) i = neither
else_ok p t es us l (k_then vs n ∷ ks) i = agree_some _ _ (ap (λ j. at_rest (env2 (vs ++ names_of ks) (n ++ log_of ks)) (f_else (env2 (vs ++ names_of ks) (n ++ log_of ks)) j ∷ as_frames vs ks)) (outer2 us (vs ++ names_of ks) (n ++ log_of ks) (l ++ (n ++ log_of ks)) i.0)) (scoped_old us (vs ++ names_of ks) i.0, (tt, i.1.1))
else_ok p t es us l (k_else vs n a ∷ ks) i = neither
else_ok p t es us l (k_test vs n ∷ ks) i = neither
else_ok p t es us l (k_loop vs n ws m ∷ ks) i = neither
else_ok p t es us l (k_match vs n arms q ∷ ks) i = neither

pub end_if_ok : (p : Ctx) (t : Ty) (es : List Ent) (us : List Slot) (l : Log) (ks : List Mark) → Inv (st t es us l ks) → Agrees (exec p i_end_if (abs (st t es us l ks))) (exec2 p i_end_if (st t es us l ks))
end_if_ok p t es us l [] i = neither
end_if_ok p t es us l (k_call ts u gs ∷ ks) i = neither
end_if_ok p t es us l (k_then vs n ∷ ks) i = neither
end_if_ok p t es us l (k_else vs n a ∷ ks) i = agree_some _ _ (ap (λ g. at_rest g (as_frames vs ks)) (ap (both (env2 (vs ++ names_of ks) (a ++ (n ++ log_of ks)))) (outer2 us (vs ++ names_of ks) (n ++ log_of ks) (l ++ (n ++ log_of ks)) i.0) ∙ join_env (as_names (vs ++ names_of ks)) (a ∷ l ∷ []) (n ++ log_of ks) (scoped_old us (vs ++ names_of ks) i.0).0 ∙ ap (env2 (vs ++ names_of ks)) (sym (append_assoc (joined (a ∷ l ∷ []) (n ++ log_of ks)) n (log_of ks))))) (scoped_old us (vs ++ names_of ks) i.0, (tt, i.1.1))
end_if_ok p t es us l (k_test vs n ∷ ks) i = neither
end_if_ok p t es us l (k_loop vs n ws m ∷ ks) i = neither
end_if_ok p t es us l (k_match vs n arms q ∷ ks) i = neither

pub do_ok : (p : Ctx) (t : Ty) (es : List Ent) (us : List Slot) (l : Log) (ks : List Mark) → Inv (st t es us l ks) → Agrees (exec p i_do (abs (st t es us l ks))) (exec2 p i_do (st t es us l ks))
do_ok p t es us l [] i = neither
do_ok p t es us l (k_call ts u gs ∷ ks) i = neither
do_ok p t es us l (k_then vs n ∷ ks) i = neither
do_ok p t es us l (k_else vs n a ∷ ks) i = neither
do_ok p t es us l (k_test vs n ∷ ks) i = agree_only (same_ty t int) (same_ty t int) _ _ refl (λ e. agree_some _ _ refl (i.0, (tt, i.1.1)))
do_ok p t es us l (k_loop vs n ws m ∷ ks) i = neither
do_ok p t es us l (k_match vs n arms q ∷ ks) i = neither

pub end_while_ok : (p : Ctx) (t : Ty) (es : List Ent) (us : List Slot) (l : Log) (ks : List Mark) → Inv (st t es us l ks) → Agrees (exec p i_end_while (abs (st t es us l ks))) (exec2 p i_end_while (st t es us l ks))
end_while_ok p t es us l [] i = neither
end_while_ok p t es us l (k_call ts u gs ∷ ks) i = neither
end_while_ok p t es us l (k_then vs n ∷ ks) i = neither
end_while_ok p t es us l (k_else vs n a ∷ ks) i = neither
end_while_ok p t es us l (k_test vs n ∷ ks) i = neither
end_while_ok p t es us l (k_loop vs n ws m ∷ ks) i = agree_only (no_more_gone (env2 (vs ++ names_of ks) (n ++ log_of ks)) (outer (env2 (ws ++ (vs ++ names_of ks)) (m ++ (n ++ log_of ks))) (env2 (us ++ (ws ++ (vs ++ names_of ks))) (l ++ (m ++ (n ++ log_of ks)))))) (none_more2 (vs ++ names_of ks) (n ++ log_of ks) (l ++ (m ++ (n ++ log_of ks)))) _ _ (ap (no_more_gone (env2 (vs ++ names_of ks) (n ++ log_of ks))) (outer2 us (ws ++ (vs ++ names_of ks)) (m ++ (n ++ log_of ks)) (l ++ (m ++ (n ++ log_of ks))) i.0) ∙ more2 ws (vs ++ names_of ks) (n ++ log_of ks) (l ++ (m ++ (n ++ log_of ks))) (scoped_old us (ws ++ (vs ++ names_of ks)) i.0)) (λ e. agree_some _ _ (ap₂ (λ g h. at_rest (env2 g h) (as_frames vs ks)) (sym (append_assoc ws vs (names_of ks))) (sym (append_assoc m n (log_of ks))) ∙ ap (λ fs. at_rest (env2 ((ws ++ vs) ++ names_of ks) ((m ++ n) ++ log_of ks)) fs) (sym (frames_old ws vs ks i.1.1))) (subst Scoped (sym (append_assoc ws vs (names_of ks))) (scoped_old us (ws ++ (vs ++ names_of ks)) i.0), (tt, calls_old ws vs ks i.1.1)))
end_while_ok p t es us l (k_match vs n arms q ∷ ks) i = neither
