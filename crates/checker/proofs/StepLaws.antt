-- Laws of slots, log and entries that the steps use.
use Rattle.std.proofs.Common.{◌≡◌, Bool, true, false, not, ◌&&◌, ◌||◌, List, [], ◌∷◌, ◌++◌, length, sym, refl, ap, ◌∙◌, ap₂, append-nil}
use mathlib.Core.Option.{Option, some}
use Rattle.language.specs.Base.{present, Lexeme, same}
use Rattle.language.specs.Syntax.{Ty}
use Rattle.language.specs.Checks.{Loan, Env, all_loans, readable, is_free, set_gone, enter, no_more_gone}
use Rattle.checker.specs.Frames.{State, at_rest, held_of, on_one, on_none}
use Rattle.scope.specs.Loans.{Ent, via}
use Rattle.checker.proofs.LoanStack.{at, expand}
use Rattle.scope.specs.Log.{Log, gone_at, find}
use Rattle.checker.proofs.ScopeLog.{env_of, env_enter, env_sets, not_in, fresh_apart, none_more, more_has}
use Rattle.checker.proofs.LogJoin.{ways_of}
use Rattle.scope.specs.Slots.{Slot, slot_of, Found, seek}
use Rattle.checker.proofs.Slots.{each, as_name, as_names, env2, length_names, fresh_is, Sought}
use Rattle.checker.specs.Machine.{fresh2, readable2, free2, entered, none_more2}
use Rattle.checker.specs.Marks.{Mark, State2, names_of, log_of, held2, scope}
use Rattle.checker.proofs.Abstract.{as_frames, Inside, Inv, Scoped, frames_push, calls_push, has_older, loans_like, own_like, Agrees, neither, agree_some}

-- who has a loan, of names alone or with arguments: one scan
pub read_own : (vs : List Slot) (n : Log) (x : Lexeme) → readable (all_loans (env2 vs n)) x ≡ readable2 [] vs x
read_own vs n x = ap not (own_like vs n (λ l. same l.root x && l.alone))

pub free_own : (vs : List Slot) (n : Log) (x : Lexeme) → is_free (all_loans (env2 vs n)) x ≡ free2 [] vs x
free_own vs n x = ap not (own_like vs n (λ l. same l.root x))

pub read_held : (us : List Slot) (ks : List Mark) (n : Log) (x : Lexeme) → readable (held_of (as_frames us ks) ++ all_loans (env2 (us ++ names_of ks) n)) x ≡ readable2 (held2 ks) (us ++ names_of ks) x
read_held us ks n x = ap not (loans_like us ks n (λ l. same l.root x && l.alone))

pub free_held : (us : List Slot) (ks : List Mark) (n : Log) (x : Lexeme) → is_free (held_of (as_frames us ks) ++ all_loans (env2 (us ++ names_of ks) n)) x ≡ free2 (held2 ks) (us ++ names_of ks) x
free_held us ks n x = ap not (loans_like us ks n (λ l. same l.root x))

-- a move is one entry
pub set_env : (vs : List Slot) (x : Lexeme) (f : Found) (b : Bool) (l : Log) → Sought vs x f → set_gone b (env2 vs l) x ≡ env2 vs (gone_at (length f.older) b ∷ l)
set_env vs x f b l h = sym (env_sets (as_names vs) x b l) ∙ ap (env_of (as_names vs)) (h.1.0 b l)

pub move_env : (vs : List Slot) (x : Lexeme) (f : Found) (b : Bool) (l : Log) → Sought vs x f → set_gone b (env2 vs l) f.slot.name ≡ env2 vs (gone_at (length f.older) b ∷ l)
move_env vs x f b l h = ap (set_gone b (env2 vs l)) h.0 ∙ set_env vs x f b l h

pub via_loans : (vs : List Slot) (x : Lexeme) (f : Found) → Sought vs x f → expand f.slot.ents (each f.older) ≡ expand (via (length f.older) ∷ []) (each vs)
via_loans vs x f h = sym (append-nil (at (each vs) (length f.older)) ∙ h.1.1.1.0)

-- a new name
pub enter2 : (v : Slot) (vs : List Slot) (l : Log) → env2 (v ∷ vs) (gone_at (length vs) false ∷ l) ≡ enter (env2 vs l) v.name v.ty (expand v.ents (each vs))
enter2 v vs l = ap (λ n. env2 (v ∷ vs) (gone_at n false ∷ l)) (sym (length_names vs)) ∙ env_enter (as_name v vs) (as_names vs) l

pub enter_apart : (vs : List Slot) (x : Lexeme) → fresh2 vs x ≡ true → not_in x (as_names vs)
enter_apart vs x h = fresh_apart (as_names vs) [] x (fresh_is vs [] x ∙ h)

pub entered_ok : (s : State2) (x : Lexeme) (t : Ty) (es : List Ent) (n : Log) (g : Env) (ls : List Loan) → Inv s → fresh2 (scope s) x ≡ true → g ≡ env2 (scope s) (n ++ log_of s.frames) → ls ≡ expand es (each (scope s)) → Inside (scope s) es → Agrees (some (at_rest (enter g x t ls) (as_frames s.names s.frames))) (some (entered s x t es n))
entered_ok s x t es n g ls i fr hg hl hi = agree_some _ _ (ap₂ (λ g ls. at_rest (enter g x t ls) (as_frames s.names s.frames)) hg hl ∙ ap₂ (λ g fs. at_rest g fs) (sym (enter2 (slot_of x t es) (scope s) (n ++ log_of s.frames))) (sym (frames_push (slot_of x t es) s.names s.frames i.1.1))) (((enter_apart (scope s) x fr, i.0.0), (hi, i.0.1)), (tt, calls_push (slot_of x t es) s.names s.frames i.1.1))

-- a round of a loop
none_more_is : (vs : List Slot) (l n : Log) → none_more (as_names vs) l n ≡ none_more2 vs l n
none_more_is [] l n = refl
none_more_is (v ∷ vs) l n = ap₂ (λ k c. (find l k || not (find n k)) && c) (length_names vs) (none_more_is vs l n)

pub more2 : (us vs : List Slot) (l n : Log) → Scoped (us ++ vs) → no_more_gone (env2 vs l) (env2 (us ++ vs) n) ≡ none_more2 vs l n
more2 us vs l n d = more_has (as_names vs) l n (env2 (us ++ vs) n) (has_older us vs n d) ∙ none_more_is vs l n

pub ways_snoc : (vs : List Slot) (arms : List Log) (b l : Log) → ways_of (as_names vs) (arms ++ (b ∷ [])) l ≡ ways_of (as_names vs) arms l ++ (env2 vs (b ++ l) ∷ [])
ways_snoc vs [] b l = refl
ways_snoc vs (a ∷ arms) b l = ap (λ ws. env2 vs (a ++ l) ∷ ws) (ways_snoc vs arms b l)

-- types to come: one, or none
pub agree_one : (ts : List Ty) (f : Ty → List Ty → Option State) (g : Ty → List Ty → Option State2) → ((t : Ty) (us : List Ty) → Agrees (f t us) (g t us)) → Agrees (on_one ts f) (on_one ts g)
agree_one [] f g h = neither
agree_one (t ∷ ts) f g h = h t ts

pub agree_nil : (ts : List Ty) (o : Option State) (u : Option State2) → Agrees o u → Agrees (on_none ts o) (on_none ts u)
agree_nil [] o u h = h
agree_nil (t ∷ ts) o u h = neither

-- a name that's found is a root
pub is_root : (vs : List Slot) (x : Lexeme) (f : Found) → Sought vs x f → present (seek vs f.slot.name) ≡ true
is_root vs x f h = h.1.1.1.1
