-- Matches and their arms: each step of the machine with marks is that of the machine with environments.
use Rattle.std.proofs.Common.{◌≡◌, Bool, true, false, List, [], ◌∷◌, ◌++◌, length, sym, refl, ap, ◌∙◌, ap₂, append_assoc}
use mathlib.Core.Option.{Option, some, none}
use Rattle.language.specs.Base.{if_some, only_if, Lexeme}
use Rattle.language.specs.Syntax.{Ty, int, dat, box, ref, mut, Access, take, view, edit, Data}
use Rattle.language.specs.Checks.{ctor_named, data_named, data_of, Loan, loan, Env, fresh, enter, ref_of, Matched, matched, looks_at, covers}
use Rattle.checker.specs.Frames.{Ctx, data_only, f_match, State, at_rest}
use Rattle.checker.specs.Exec.{exec}
use Rattle.checker.proofs.Options.{if_if, only_then, only_same}
use Rattle.scope.specs.Loans.{Ent, leaf, via}
use Rattle.checker.proofs.LoanStack.{expand}
use Rattle.scope.specs.Log.{Log, gone_at, joined}
use Rattle.checker.proofs.LogJoin.{ways_of, join_env}
use Rattle.scope.specs.Slots.{Slot, slot_of, Found}
use Rattle.checker.proofs.Slots.{each, as_names, env2, var_of, fresh_is, Sought}
use Rattle.checker.specs.Machine.{fresh2, matching, looks2, exec2}
use Rattle.checker.specs.Marks.{entries, Mark, k_call, k_then, k_else, k_test, k_loop, k_match, State2, st, names_of, log_of, scope, live}
use Rattle.checker.proofs.Abstract.{as_frames, abs, Inside, Inv, inside_old, expand_old, scoped_old, outer2, Agrees, neither, agree_some, agree_on, agree_only, agree_if, agree_there}
use Rattle.checker.proofs.StepLaws.{read_own, free_own, move_env, via_loans, enter2, enter_apart, ways_snoc, agree_one, agree_nil, is_root}
use Rattle.code.specs.Instr.{i_match, i_arm, i_name, i_body, i_end_arm, i_end_match}

-- what is matched, in which way
abbrev begun : State2 → Access → Matched → Option State
begun s w k = some (at_rest k.env (f_match (record { scope = k.env; way = w; loans = k.loans; data1 = k.data1; seen = []; ways = []; left = [] }) ∷ as_frames s.names s.frames))

looked : (s : State2) (w : Access) (b c : Bool) (o : Option Data) (ls : List Loan) (g : Env) (e : Option Ent) (n : Log) → Inv s → b ≡ c → g ≡ env2 (scope s) (n ++ log_of s.frames) → ls ≡ expand (entries e) (each (scope s)) → Inside (scope s) (entries e) → Agrees (if_some (only_if b (matched o ls g)) (begun s w)) (only_if c (matching s w o e n))
looked s w b c o ls g e n i h hg hl hi = agree_on _ _ _ (only_then b (matched o ls g) (begun s w) ∙ only_same b _ _ (if_if o _ _)) (agree_only b c _ _ h (λ q. agree_if o _ _ (λ d. agree_some _ _ (ap₂ (λ g ls. at_rest g (f_match (record { scope = g; way = w; loans = ls; data1 = d; seen = []; ways = []; left = [] }) ∷ as_frames s.names s.frames)) hg hl) (i.0, (tt, (hi, i.1.1))))))

looks_ok : (p : Ctx) (s : State2) (x : Lexeme) (f : Found) (w : Access) (t : Ty) → Inv s → Sought (scope s) x f → Agrees (if_some (looks_at (data_only p.datas) (env2 (scope s) (live s)) (var_of (live s) f) w t) (begun s w)) (looks2 p s f w t)
looks_ok p s x f take (dat d) i h = looked s take _ _ (data_named p.datas d) _ _ none (gone_at (length f.older) true ∷ s.log) i (free_own (scope s) (live s) f.slot.name) (move_env (scope s) x f true (live s) h) refl tt
looks_ok p s x f take int i h = neither
looks_ok p s x f take (box t) i h = neither
looks_ok p s x f take (ref t) i h = neither
looks_ok p s x f take (mut t) i h = neither
looks_ok p s x f view int i h = neither
looks_ok p s x f view (dat d) i h = looked s view _ _ (data_named p.datas d) _ _ (some (leaf (loan f.slot.name false))) s.log i (read_own (scope s) (live s) f.slot.name) refl refl (is_root (scope s) x f h, tt)
looks_ok p s x f view (box t) i h = neither
looks_ok p s x f view (ref t) i h = looked s view _ _ (data_of (data_only p.datas) t) _ _ (some (via (length f.older))) s.log i (read_own (scope s) (live s) f.slot.name) refl (via_loans (scope s) x f h) (h.1.1.0, tt)
looks_ok p s x f view (mut t) i h = looked s view _ _ (data_of (data_only p.datas) t) _ _ (some (leaf (loan f.slot.name false))) s.log i (read_own (scope s) (live s) f.slot.name) refl refl (is_root (scope s) x f h, tt)
looks_ok p s x f edit int i h = neither
looks_ok p s x f edit (dat d) i h = looked s edit _ _ (data_named p.datas d) _ _ (some (leaf (loan f.slot.name true))) s.log i (free_own (scope s) (live s) f.slot.name) refl refl (is_root (scope s) x f h, tt)
looks_ok p s x f edit (box t) i h = neither
looks_ok p s x f edit (ref t) i h = neither
looks_ok p s x f edit (mut t) i h = looked s edit _ _ (data_of (data_only p.datas) t) _ _ (some (leaf (loan f.slot.name true))) s.log i (free_own (scope s) (live s) f.slot.name) refl refl (is_root (scope s) x f h, tt)

pub match_ok : (p : Ctx) (w : Access) (x : Lexeme) (s : State2) → Inv s → Agrees (exec p (i_match w x) (abs s)) (exec2 p (i_match w x) s)
match_ok p w x s i = agree_there (scope s) (live s) x _ _ (λ f h. looks_ok p s x f w f.slot.ty i h)

pub arm_ok : (p : Ctx) (c : Lexeme) (t : Ty) (es : List Ent) (us : List Slot) (l : Log) (ks : List Mark) → Inv (st t es us l ks) → Agrees (exec p (i_arm c) (abs (st t es us l ks))) (exec2 p (i_arm c) (st t es us l ks))
arm_ok p c t es us l [] i = neither
arm_ok p c t es us l (k_call ts u gs ∷ ks) i = neither
arm_ok p c t es us l (k_then vs n ∷ ks) i = neither
arm_ok p c t es us l (k_else vs n a ∷ ks) i = neither
arm_ok p c t es us l (k_test vs n ∷ ks) i = neither
arm_ok p c t es us l (k_loop vs n ws m ∷ ks) i = neither
arm_ok p c t es us l (k_match vs n arms q ∷ ks) i = agree_if (ctor_named q.data1.ctors c) _ _ (λ k. agree_some _ _ refl (i.0, (tt, i.1.1)))

pub name_ok : (p : Ctx) (x : Lexeme) (t : Ty) (es : List Ent) (us : List Slot) (l : Log) (ks : List Mark) → Inv (st t es us l ks) → Agrees (exec p (i_name x) (abs (st t es us l ks))) (exec2 p (i_name x) (st t es us l ks))
name_ok p x t es us l [] i = neither
name_ok p x t es us l (k_call ts u gs ∷ ks) i = neither
name_ok p x t es us l (k_then vs n ∷ ks) i = neither
name_ok p x t es us l (k_else vs n a ∷ ks) i = neither
name_ok p x t es us l (k_test vs n ∷ ks) i = neither
name_ok p x t es us l (k_loop vs n ws m ∷ ks) i = neither
name_ok p x t es us l (k_match vs n arms q ∷ ks) i = agree_one q.left _ _ (λ r rs. agree_only (fresh (env2 (us ++ (vs ++ names_of ks)) (l ++ (n ++ log_of ks))) x) (fresh2 (us ++ (vs ++ names_of ks)) x) _ _ (fresh_is (us ++ (vs ++ names_of ks)) (l ++ (n ++ log_of ks)) x) (λ e. agree_some _ _ (ap (λ g. at_rest g (f_match (record { scope = env2 (vs ++ names_of ks) (n ++ log_of ks); way = q.way; loans = expand (entries q.part) (each (vs ++ names_of ks)); data1 = q.data1; seen = q.seen; ways = ways_of (as_names (vs ++ names_of ks)) arms (n ++ log_of ks); left = rs }) ∷ as_frames vs ks)) (ap (λ ls. enter (env2 (us ++ (vs ++ names_of ks)) (l ++ (n ++ log_of ks))) x (ref_of q.way r) ls) (sym (expand_old us (vs ++ names_of ks) (entries q.part) i.1.1.0)) ∙ sym (enter2 (slot_of x (ref_of q.way r) (entries q.part)) (us ++ (vs ++ names_of ks)) (l ++ (n ++ log_of ks))))) (((enter_apart (us ++ (vs ++ names_of ks)) x e, i.0.0), (inside_old us (vs ++ names_of ks) (entries q.part) i.1.1.0, i.0.1)), (tt, i.1.1))))

pub body_ok : (p : Ctx) (t : Ty) (es : List Ent) (us : List Slot) (l : Log) (ks : List Mark) → Inv (st t es us l ks) → Agrees (exec p i_body (abs (st t es us l ks))) (exec2 p i_body (st t es us l ks))
body_ok p t es us l [] i = neither
body_ok p t es us l (k_call ts u gs ∷ ks) i = neither
body_ok p t es us l (k_then vs n ∷ ks) i = neither
body_ok p t es us l (k_else vs n a ∷ ks) i = neither
body_ok p t es us l (k_test vs n ∷ ks) i = neither
body_ok p t es us l (k_loop vs n ws m ∷ ks) i = neither
body_ok p t es us l (k_match vs n arms q ∷ ks) i = agree_nil q.left _ _ (agree_some _ _ refl i)

pub end_arm_ok : (p : Ctx) (t : Ty) (es : List Ent) (us : List Slot) (l : Log) (ks : List Mark) → Inv (st t es us l ks) → Agrees (exec p i_end_arm (abs (st t es us l ks))) (exec2 p i_end_arm (st t es us l ks))
end_arm_ok p t es us l [] i = neither
end_arm_ok p t es us l (k_call ts u gs ∷ ks) i = neither
end_arm_ok p t es us l (k_then vs n ∷ ks) i = neither
end_arm_ok p t es us l (k_else vs n a ∷ ks) i = neither
end_arm_ok p t es us l (k_test vs n ∷ ks) i = neither
end_arm_ok p t es us l (k_loop vs n ws m ∷ ks) i = neither
end_arm_ok p t es us l (k_match vs n arms q ∷ ks) i = agree_some _ _ (ap (λ js. at_rest (env2 (vs ++ names_of ks) (n ++ log_of ks)) (f_match (record { scope = env2 (vs ++ names_of ks) (n ++ log_of ks); way = q.way; loans = expand (entries q.part) (each (vs ++ names_of ks)); data1 = q.data1; seen = q.seen; ways = js; left = [] }) ∷ as_frames vs ks)) (ap (λ g. ways_of (as_names (vs ++ names_of ks)) arms (n ++ log_of ks) ++ (g ∷ [])) (outer2 us (vs ++ names_of ks) (n ++ log_of ks) (l ++ (n ++ log_of ks)) i.0) ∙ sym (ways_snoc (vs ++ names_of ks) arms l (n ++ log_of ks)))) (scoped_old us (vs ++ names_of ks) i.0, (tt, i.1.1))

pub end_match_ok : (p : Ctx) (t : Ty) (es : List Ent) (us : List Slot) (l : Log) (ks : List Mark) → Inv (st t es us l ks) → Agrees (exec p i_end_match (abs (st t es us l ks))) (exec2 p i_end_match (st t es us l ks))
end_match_ok p t es us l [] i = neither
end_match_ok p t es us l (k_call ts u gs ∷ ks) i = neither
end_match_ok p t es us l (k_then vs n ∷ ks) i = neither
end_match_ok p t es us l (k_else vs n a ∷ ks) i = neither
end_match_ok p t es us l (k_test vs n ∷ ks) i = neither
end_match_ok p t es us l (k_loop vs n ws m ∷ ks) i = neither
end_match_ok p t es us l (k_match vs n arms q ∷ ks) i = agree_only (covers q.data1 q.seen) (covers q.data1 q.seen) _ _ refl (λ e. agree_some _ _ (ap (λ g. at_rest g (as_frames vs ks)) (join_env (as_names (vs ++ names_of ks)) arms (n ++ log_of ks) (scoped_old us (vs ++ names_of ks) i.0).0 ∙ ap (env2 (vs ++ names_of ks)) (sym (append_assoc (joined arms (n ++ log_of ks)) n (log_of ks))))) (scoped_old us (vs ++ names_of ks) i.0, (tt, i.1.1.1)))
