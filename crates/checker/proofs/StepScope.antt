-- Statements with names: each step of the machine with marks is that of the machine with environments.
use Rattle.std.proofs.Common.{◌≡◌, Bool, true, false, ◌&&◌, [], ◌∷◌, length, refl, ap, ◌∙◌, ap₂}
use Rattle.language.specs.Base.{Lexeme}
use Rattle.language.specs.Syntax.{Ty, int, dat, box, ref, mut}
use Rattle.language.specs.Checks.{same_ty, owned, loan, look, fresh, all_loans, readable, is_free, there, boxed_in, goes_in, stores}
use Rattle.checker.specs.Frames.{Ctx, at_rest, with_scope}
use Rattle.checker.specs.Exec.{exec}
use Rattle.checker.proofs.Options.{if_if, only_then, if_on}
use Rattle.scope.specs.Loans.{leaf, via}
use Rattle.scope.specs.Log.{gone_at}
use Rattle.checker.proofs.Slots.{env2, var_of, look_is, fresh_is, Sought, sought}
use Rattle.scope.specs.Slots.{Found, seek}
use Rattle.checker.specs.Machine.{fresh2, free2, stores2, goes_in2, exec2}
use Rattle.checker.specs.Marks.{State2, scope, live}
use Rattle.checker.proofs.Abstract.{as_frames, abs, Inv, Agrees, neither, agree_some, agree_on, agree_only, agree_if, agree_each, agree_there}
use Rattle.checker.proofs.StepLaws.{read_own, free_own, set_env, via_loans, entered_ok, is_root}
use Rattle.code.specs.Instr.{i_bind, i_assign, i_store, i_open, i_inside}

pub bind_ok : (p : Ctx) (x : Lexeme) (s : State2) → Inv s → Agrees (exec p (i_bind x) (abs s)) (exec2 p (i_bind x) s)
bind_ok p x s i = agree_only (fresh (env2 (scope s) (live s)) x) (fresh2 (scope s) x) _ _ (fresh_is (scope s) (live s) x) (λ e. entered_ok s x s.ty s.ents s.log _ _ i e refl refl i.1.0)

pub assign_ok : (p : Ctx) (x : Lexeme) (s : State2) → Inv s → Agrees (exec p (i_assign x) (abs s)) (exec2 p (i_assign x) s)
assign_ok p x s i = agree_on _ _ _ (if_if (look (env2 (scope s) (live s)) x) _ _ ∙ if_on _ (look_is (scope s) (live s) x) ∙ if_if (seek (scope s) x) _ _) (agree_each (Sought (scope s) x) (seek (scope s) x) _ _ (sought (scope s) x) (λ f h. agree_on _ _ _ (only_then (owned f.slot.ty && (same_ty s.ty f.slot.ty && is_free (all_loans (env2 (scope s) (live s))) x)) _ _) (agree_only _ _ _ _ (ap (λ b. owned f.slot.ty && (same_ty s.ty f.slot.ty && b)) (free_own (scope s) (live s) x)) (λ e. agree_some _ _ (ap (λ g. at_rest g (as_frames s.names s.frames)) (set_env (scope s) x f false (live s) h)) (i.0, (tt, i.1.1))))))

stores_ok : (s : State2) (x : Lexeme) (t : Ty) → Inv s → Agrees (with_scope (stores (env2 (scope s) (live s)) x s.ty t) (as_frames s.names s.frames)) (stores2 s x t)
stores_ok s x int i = neither
stores_ok s x (dat d) i = neither
stores_ok s x (box t) i = neither
stores_ok s x (ref t) i = neither
stores_ok s x (mut u) i = agree_on _ _ _ (only_then (owned u && (same_ty s.ty u && is_free (all_loans (env2 (scope s) (live s))) x)) _ _) (agree_only _ _ _ _ (ap (λ b. owned u && (same_ty s.ty u && b)) (free_own (scope s) (live s) x)) (λ e. agree_some _ _ refl (i.0, (tt, i.1.1))))

pub store_ok : (p : Ctx) (x : Lexeme) (s : State2) → Inv s → Agrees (exec p (i_store x) (abs s)) (exec2 p (i_store x) s)
store_ok p x s i = agree_on _ _ _ (if_if (there (env2 (scope s) (live s)) x) _ _) (agree_there (scope s) (live s) x _ _ (λ f h. stores_ok s x f.slot.ty i))

and_left : (a b : Bool) → (a && b) ≡ true → a ≡ true
and_left true b h = refl
and_left false b h = h

pub open_ok : (p : Ctx) (x y : Lexeme) (s : State2) → Inv s → Agrees (exec p (i_open x y) (abs s)) (exec2 p (i_open x y) s)
open_ok p x y s i = agree_on _ _ _ (if_if (there (env2 (scope s) (live s)) y) _ _) (agree_there (scope s) (live s) y _ _ (λ f h. agree_on _ _ _ (if_if (boxed_in f.slot.ty) _ _) (agree_if (boxed_in f.slot.ty) _ _ (λ t. agree_on _ _ _ (only_then (fresh (env2 (scope s) (live s)) x && is_free (all_loans (env2 (scope s) (live s))) y) _ _) (agree_only _ _ _ _ (ap₂ ◌&&◌ (fresh_is (scope s) (live s) x) (free_own (scope s) (live s) y)) (λ e. entered_ok s x t [] (gone_at (length f.older) true ∷ s.log) _ _ i (and_left (fresh2 (scope s) x) (free2 [] (scope s) y) e) (set_env (scope s) y f true (live s) h) refl tt))))))

goes_ok : (s : State2) (y : Lexeme) (f : Found) (x : Lexeme) (t : Ty) → Inv s → fresh2 (scope s) x ≡ true → Sought (scope s) y f → Agrees (with_scope (goes_in (env2 (scope s) (live s)) (var_of (live s) f) x t) (as_frames s.names s.frames)) (goes_in2 s f x t)
goes_ok s y f x int i e h = neither
goes_ok s y f x (dat d) i e h = neither
goes_ok s y f x (box t) i e h = neither
goes_ok s y f x (ref t) i e h = agree_on _ _ _ (if_if (boxed_in t) _ _) (agree_if (boxed_in t) _ _ (λ u. agree_on _ _ _ (only_then (readable (all_loans (env2 (scope s) (live s))) f.slot.name) _ _) (agree_only _ _ _ _ (read_own (scope s) (live s) f.slot.name) (λ q. entered_ok s x (ref u) (via (length f.older) ∷ []) s.log _ _ i e refl (via_loans (scope s) y f h) (h.1.1.0, tt)))))
goes_ok s y f x (mut t) i e h = agree_on _ _ _ (if_if (boxed_in t) _ _) (agree_if (boxed_in t) _ _ (λ u. agree_on _ _ _ (only_then (is_free (all_loans (env2 (scope s) (live s))) f.slot.name) _ _) (agree_only _ _ _ _ (free_own (scope s) (live s) f.slot.name) (λ q. entered_ok s x (mut u) (leaf (loan f.slot.name true) ∷ []) s.log _ _ i e refl refl (is_root (scope s) y f h, tt)))))

pub inside_ok : (p : Ctx) (x y : Lexeme) (s : State2) → Inv s → Agrees (exec p (i_inside x y) (abs s)) (exec2 p (i_inside x y) s)
inside_ok p x y s i = agree_on _ _ _ (only_then (fresh (env2 (scope s) (live s)) x) _ _) (agree_only (fresh (env2 (scope s) (live s)) x) (fresh2 (scope s) x) _ _ (fresh_is (scope s) (live s) x) (λ e. agree_on _ _ _ (if_if (there (env2 (scope s) (live s)) y) _ _) (agree_there (scope s) (live s) y _ _ (λ f h. goes_ok s y f x f.slot.ty i e h))))
