-- Values: each step of the machine with marks is that of the machine with environments.
use Rattle.std.proofs.Common.{◌≡◌, Bool, true, false, ◌&&◌, List, [], ◌∷◌, ◌++◌, length, sym, refl, ap, subst}
use mathlib.Core.Option.{some}
use Rattle.language.specs.Base.{only_if, present, Lexeme}
use Rattle.language.specs.Syntax.{Ty, int, dat, box, ref, mut}
use Rattle.language.specs.Checks.{same_ty, owned, Loan, loan, all_loans, readable, set_gone, there, typed, value, shared, loadable, holds}
use Rattle.checker.specs.Frames.{Ctx, f_call, state, at_rest, held_of, with_value}
use Rattle.checker.specs.Exec.{exec}
use Rattle.checker.proofs.Options.{if_if, only_then}
use Rattle.scope.specs.Loans.{Ent, leaf, via}
use Rattle.checker.proofs.LoanStack.{expand}
use Rattle.scope.specs.Log.{Log}
use Rattle.scope.specs.Slots.{Slot, Found, seek}
use Rattle.checker.proofs.Slots.{each, env2, var_of, Sought}
use Rattle.checker.specs.Marks.{Mark, k_call, k_then, k_else, k_test, k_loop, k_match, State2, st, names_of, log_of, scope, live}
use Rattle.checker.specs.Machine.{val, moved, value2, lent, shared2, holds2, exec2}
use Rattle.checker.proofs.Abstract.{as_frames, abs, Inside, Inv, inside-++, expand-++, Agrees, neither, agree_some, agree_on, agree_only, agree_there}
use Rattle.checker.proofs.StepLaws.{read_held, free_held, move_env, via_loans, agree_one, agree_nil, is_root}
use Rattle.code.specs.Instr.{i_var, i_arg, i_apply, i_share, i_lend, i_load}

-- a test, then a value with the names as they are, or with a move
valued : (s : State2) (b c : Bool) (t : Ty) (ls : List Loan) (es : List Ent) → Inv s → b ≡ c → ls ≡ expand es (each (scope s)) → Inside (scope s) es → Agrees (with_value (only_if b (typed t ls (env2 (scope s) (live s)))) (as_frames s.names s.frames)) (only_if c (some (val s t es)))
valued s b c t ls es i h hl hi = agree_on _ _ _ (only_then b (typed t ls (env2 (scope s) (live s))) _) (agree_only b c _ _ h (λ e. agree_some _ _ (ap (λ ls. state (record { ty = t; loans = ls; env = env2 (scope s) (live s) }) (as_frames s.names s.frames)) hl) (i.0, (hi, i.1.1))))

taken : (s : State2) (x : Lexeme) (f : Found) (b c : Bool) (t : Ty) → Inv s → Sought (scope s) x f → b ≡ c → Agrees (with_value (only_if b (typed t [] (set_gone true (env2 (scope s) (live s)) f.slot.name))) (as_frames s.names s.frames)) (only_if c (some (moved s f t)))
taken s x f b c t i h e = agree_on _ _ _ (only_then b (typed t [] (set_gone true (env2 (scope s) (live s)) f.slot.name)) _) (agree_only b c _ _ e (λ q. agree_some _ _ (ap (λ g. state (record { ty = t; loans = []; env = g }) (as_frames s.names s.frames)) (move_env (scope s) x f true (live s) h)) (i.0, (tt, i.1.1))))

value_ok : (s : State2) (x : Lexeme) (f : Found) (t : Ty) → Inv s → Sought (scope s) x f → Agrees (with_value (value (held_of (as_frames s.names s.frames)) (env2 (scope s) (live s)) (var_of (live s) f) t) (as_frames s.names s.frames)) (value2 s f t)
value_ok s x f int i h = valued s _ _ int [] [] i (read_held s.names s.frames (live s) f.slot.name) refl tt
value_ok s x f (dat d) i h = taken s x f _ _ (dat d) i h (free_held s.names s.frames (live s) f.slot.name)
value_ok s x f (box t) i h = taken s x f _ _ (box t) i h (free_held s.names s.frames (live s) f.slot.name)
value_ok s x f (ref t) i h = valued s _ _ (ref t) _ (via (length f.older) ∷ []) i (read_held s.names s.frames (live s) f.slot.name) (via_loans (scope s) x f h) (h.1.1.0, tt)
value_ok s x f (mut t) i h = valued s _ _ (mut t) _ (leaf (loan f.slot.name true) ∷ []) i (free_held s.names s.frames (live s) f.slot.name) refl (is_root (scope s) x f h, tt)

lent_ok : (s : State2) (x : Lexeme) (f : Found) (t : Ty) → Inv s → Sought (scope s) x f → Agrees (with_value (only_if (readable (held_of (as_frames s.names s.frames) ++ all_loans (env2 (scope s) (live s))) f.slot.name) (typed (ref t) (loan f.slot.name false ∷ []) (env2 (scope s) (live s)))) (as_frames s.names s.frames)) (lent s f t)
lent_ok s x f t i h = valued s _ _ (ref t) _ (leaf (loan f.slot.name false) ∷ []) i (read_held s.names s.frames (live s) f.slot.name) refl (is_root (scope s) x f h, tt)

shared_ok : (s : State2) (x : Lexeme) (f : Found) (t : Ty) → Inv s → Sought (scope s) x f → Agrees (with_value (shared (held_of (as_frames s.names s.frames)) (env2 (scope s) (live s)) (var_of (live s) f) t) (as_frames s.names s.frames)) (shared2 s f t)
shared_ok s x f int i h = lent_ok s x f int i h
shared_ok s x f (dat d) i h = lent_ok s x f (dat d) i h
shared_ok s x f (box t) i h = lent_ok s x f (box t) i h
shared_ok s x f (ref t) i h = neither
shared_ok s x f (mut t) i h = lent_ok s x f t i h

pub var_ok : (p : Ctx) (x : Lexeme) (s : State2) → Inv s → Agrees (exec p (i_var x) (abs s)) (exec2 p (i_var x) s)
var_ok p x s i = agree_on _ _ _ (if_if (there (env2 (scope s) (live s)) x) _ _) (agree_there (scope s) (live s) x _ _ (λ f h. value_ok s x f f.slot.ty i h))

pub share_ok : (p : Ctx) (x : Lexeme) (s : State2) → Inv s → Agrees (exec p (i_share x) (abs s)) (exec2 p (i_share x) s)
share_ok p x s i = agree_on _ _ _ (if_if (there (env2 (scope s) (live s)) x) _ _) (agree_there (scope s) (live s) x _ _ (λ f h. shared_ok s x f f.slot.ty i h))

pub lend_ok : (p : Ctx) (x : Lexeme) (s : State2) → Inv s → Agrees (exec p (i_lend x) (abs s)) (exec2 p (i_lend x) s)
lend_ok p x s i = agree_on _ _ _ (if_if (there (env2 (scope s) (live s)) x) _ _) (agree_there (scope s) (live s) x _ _ (λ f h. valued s _ _ (mut f.slot.ty) _ (leaf (loan x true) ∷ []) i (ap (λ b. owned f.slot.ty && b) (free_held s.names s.frames (live s) x)) refl (subst (λ y. present (seek (scope s) y) ≡ true) h.0 (is_root (scope s) x f h), tt)))

pub load_ok : (p : Ctx) (x : Lexeme) (s : State2) → Inv s → Agrees (exec p (i_load x) (abs s)) (exec2 p (i_load x) s)
load_ok p x s i = agree_on _ _ _ (if_if (there (env2 (scope s) (live s)) x) _ _) (agree_there (scope s) (live s) x _ _ (λ f h. valued s _ _ int _ [] i (ap (λ b. loadable f.slot.ty && b) (read_held s.names s.frames (live s) x)) refl tt))

-- what a call's result may hold
holds_is : (u : Ty) (es : List Ent) (ls : List (List Loan)) → holds u (expand es ls) ≡ expand (holds2 u es) ls
holds_is int es ls = refl
holds_is (dat d) es ls = refl
holds_is (box t) es ls = refl
holds_is (ref t) es ls = refl
holds_is (mut t) es ls = refl

holds_in : (vs : List Slot) (u : Ty) (es : List Ent) → Inside vs es → Inside vs (holds2 u es)
holds_in vs int es h = tt
holds_in vs (dat d) es h = tt
holds_in vs (box t) es h = tt
holds_in vs (ref t) es h = h
holds_in vs (mut t) es h = h

pub arg_ok : (p : Ctx) (t : Ty) (es : List Ent) (us : List Slot) (l : Log) (ks : List Mark) → Inv (st t es us l ks) → Agrees (exec p i_arg (abs (st t es us l ks))) (exec2 p i_arg (st t es us l ks))
arg_ok p t es us l [] i = neither
arg_ok p t es us l (k_call ts u gs ∷ ks) i = agree_one ts _ _ (λ r rs. agree_only (same_ty t r) (same_ty t r) _ _ refl (λ e. agree_some _ _ (ap (λ ls. at_rest (env2 (us ++ names_of ks) (l ++ log_of ks)) (f_call rs u ls ∷ as_frames us ks)) (sym (expand-++ gs es (each (us ++ names_of ks))))) (i.0, (tt, (inside-++ (us ++ names_of ks) gs es i.1.1.0 i.1.0, i.1.1.1)))))
arg_ok p t es us l (k_then vs n ∷ ks) i = neither
arg_ok p t es us l (k_else vs n a ∷ ks) i = neither
arg_ok p t es us l (k_test vs n ∷ ks) i = neither
arg_ok p t es us l (k_loop vs n ws m ∷ ks) i = neither
arg_ok p t es us l (k_match vs n arms q ∷ ks) i = neither

pub apply_ok : (p : Ctx) (t : Ty) (es : List Ent) (us : List Slot) (l : Log) (ks : List Mark) → Inv (st t es us l ks) → Agrees (exec p i_apply (abs (st t es us l ks))) (exec2 p i_apply (st t es us l ks))
apply_ok p t es us l [] i = neither
apply_ok p t es us l (k_call ts u gs ∷ ks) i = agree_nil ts _ _ (agree_some _ _ (ap (λ ls. state (record { ty = u; loans = ls; env = env2 (us ++ names_of ks) (l ++ log_of ks) }) (as_frames us ks)) (holds_is u gs (each (us ++ names_of ks)))) (i.0, (holds_in (us ++ names_of ks) u gs i.1.1.0, i.1.1.1)))
apply_ok p t es us l (k_then vs n ∷ ks) i = neither
apply_ok p t es us l (k_else vs n a ∷ ks) i = neither
apply_ok p t es us l (k_test vs n ∷ ks) i = neither
apply_ok p t es us l (k_loop vs n ws m ∷ ks) i = neither
apply_ok p t es us l (k_match vs n arms q ∷ ks) i = neither
