-- One instruction on stacks and marks.
use Rattle.std.specs.Prelude.{Bool, true, false, not, ◌&&◌, ◌||◌, List, [], ◌∷◌, ◌++◌, length}
use Rattle.std.proofs.Math.Option.{Option, some, none}
use Rattle.language.specs.Base.{choose, if_some, only_if, present, Lexeme}
use Rattle.language.specs.Syntax.{Ty, int, dat, box, ref, mut, Access, take, view, edit, Data, Ctor, Param}
use Rattle.language.specs.Checks.{same_ty, owned, ctor_named, home_of, data_named, data_of, loan, readable, is_free, loadable, types_of_pars, ref_of, covers, boxed_in}
use Rattle.code.specs.Instr.{Instr, i_num, i_var, i_int, i_op, i_make, i_call, i_arg, i_apply, i_box, i_share, i_lend, i_load, i_get, i_bind, i_assign, i_store, i_put, i_if, i_else, i_end_if, i_while, i_do, i_end_while, i_match, i_arm, i_name, i_body, i_end_arm, i_end_match, i_open, i_inside, i_give, i_end_fn, i_ty_int, i_ty_data, i_ty_box, i_ty_ref, i_ty_mut, i_field, i_ctor, i_data, i_param, i_fn}
use Rattle.checker.specs.Heads.{sig_named}
use Rattle.checker.specs.Exec.{is_end}
use Rattle.checker.specs.Frames.{Ctx, data_only, on_one, on_none}
use Rattle.scope.specs.Loans.{Ent, leaf, via, leaves}
use Rattle.scope.specs.Log.{Log, gone_at, find, joined}
use Rattle.scope.specs.Slots.{Slot, slot_of, Found, seek, stack}
use Rattle.checker.specs.CallerBits.{from_ents, bits}
use Rattle.checker.specs.Marks.{Matching, entries, k_call, k_then, k_else, k_test, k_loop, k_match, State2, st, rest, names_of, log_of, held2, scope, live, on_call2, on_then2, on_else2, on_test2, on_loop2, on_match2}

-- a name that's there; one that's new
abbrev pub there2 : List Slot → Log → Lexeme → Option Found
there2 vs l x = if_some (seek vs x) (λ f. only_if (not (find l (length f.older))) (some f))

abbrev pub fresh2 : List Slot → Lexeme → Bool
fresh2 vs x = not (present (seek vs x))

abbrev pub readable2 : List Ent → List Slot → Lexeme → Bool
readable2 es vs x = readable (leaves (es ++ stack vs)) x

abbrev pub free2 : List Ent → List Slot → Lexeme → Bool
free2 es vs x = is_free (leaves (es ++ stack vs)) x

-- a value; a value that was moved out of its name
abbrev pub val : State2 → Ty → List Ent → State2
val s t es = st t es s.names s.log s.frames

abbrev pub moved : State2 → Found → Ty → State2
moved s f t = st t [] s.names (gone_at (length f.older) true ∷ s.log) s.frames

-- a new name: an entry of the log says it's there, whatever was said of its place before
abbrev pub entered : State2 → Lexeme → Ty → List Ent → Log → State2
entered s x t es l = rest (slot_of x t es ∷ s.names) (gone_at (length (scope s)) false ∷ l) s.frames

abbrev pub value2 : State2 → Found → Ty → Option State2
value2 s f int = only_if (readable2 (held2 s.frames) (scope s) f.slot.name) (some (val s int []))
value2 s f (dat d) = only_if (free2 (held2 s.frames) (scope s) f.slot.name) (some (moved s f (dat d)))
value2 s f (box t) = only_if (free2 (held2 s.frames) (scope s) f.slot.name) (some (moved s f (box t)))
value2 s f (ref t) = only_if (readable2 (held2 s.frames) (scope s) f.slot.name) (some (val s (ref t) (via (length f.older) ∷ [])))
value2 s f (mut t) = only_if (free2 (held2 s.frames) (scope s) f.slot.name) (some (val s (mut t) (leaf (loan f.slot.name true) ∷ [])))

abbrev pub lent : State2 → Found → Ty → Option State2
lent s f t = only_if (readable2 (held2 s.frames) (scope s) f.slot.name) (some (val s (ref t) (leaf (loan f.slot.name false) ∷ [])))

abbrev pub shared2 : State2 → Found → Ty → Option State2
shared2 s f int = lent s f int
shared2 s f (dat d) = lent s f (dat d)
shared2 s f (box t) = lent s f (box t)
shared2 s f (ref t) = none
shared2 s f (mut t) = lent s f t

abbrev pub holds2 : Ty → List Ent → List Ent
holds2 int es = []
holds2 (dat d) es = []
holds2 (box t) es = []
holds2 (ref t) es = es
holds2 (mut t) es = es

abbrev pub stores2 : State2 → Lexeme → Ty → Option State2
stores2 s x int = none
stores2 s x (dat d) = none
stores2 s x (box u) = none
stores2 s x (ref u) = none
stores2 s x (mut u) = only_if (owned u && (same_ty s.ty u && free2 [] (scope s) x)) (some (rest s.names s.log s.frames))

abbrev pub goes_in2 : State2 → Found → Lexeme → Ty → Option State2
goes_in2 s f x int = none
goes_in2 s f x (dat d) = none
goes_in2 s f x (box t) = none
goes_in2 s f x (ref t) = if_some (boxed_in t) (λ u. only_if (readable2 [] (scope s) f.slot.name) (some (entered s x (ref u) (via (length f.older) ∷ []) s.log)))
goes_in2 s f x (mut t) = if_some (boxed_in t) (λ u. only_if (free2 [] (scope s) f.slot.name) (some (entered s x (mut u) (leaf (loan f.slot.name true) ∷ []) s.log)))

-- a match: the log goes on below the mark, with the move of what's taken apart
abbrev pub matching : State2 → Access → Option Data → Option Ent → Log → Option State2
matching s w o e l = if_some o (λ d. some (rest [] [] (k_match s.names l [] (record { way = w; part = e; data1 = d; seen = []; left = [] }) ∷ s.frames)))

abbrev pub looks2 : Ctx → State2 → Found → Access → Ty → Option State2
looks2 p s f take (dat d) = only_if (free2 [] (scope s) f.slot.name) (matching s take (data_named p.datas d) none (gone_at (length f.older) true ∷ s.log))
looks2 p s f take int = none
looks2 p s f take (box t) = none
looks2 p s f take (ref t) = none
looks2 p s f take (mut t) = none
looks2 p s f view int = none
looks2 p s f view (dat d) = only_if (readable2 [] (scope s) f.slot.name) (matching s view (data_named p.datas d) (some (leaf (loan f.slot.name false))) s.log)
looks2 p s f view (box t) = none
looks2 p s f view (ref t) = only_if (readable2 [] (scope s) f.slot.name) (matching s view (data_of (data_only p.datas) t) (some (via (length f.older))) s.log)
looks2 p s f view (mut t) = only_if (readable2 [] (scope s) f.slot.name) (matching s view (data_of (data_only p.datas) t) (some (leaf (loan f.slot.name false))) s.log)
looks2 p s f edit int = none
looks2 p s f edit (dat d) = only_if (free2 [] (scope s) f.slot.name) (matching s edit (data_named p.datas d) (some (leaf (loan f.slot.name true))) s.log)
looks2 p s f edit (box t) = none
looks2 p s f edit (ref t) = none
looks2 p s f edit (mut t) = only_if (free2 [] (scope s) f.slot.name) (matching s edit (data_of (data_only p.datas) t) (some (leaf (loan f.slot.name true))) s.log)

abbrev pub next_arm2 : Matching → Lexeme → Ctor → Matching
next_arm2 q c k = record { way = q.way; part = q.part; data1 = q.data1; seen = q.seen ++ (c ∷ []); left = k.fields }

abbrev pub fields_left2 : Matching → List Ty → Matching
fields_left2 q ts = record { way = q.way; part = q.part; data1 = q.data1; seen = q.seen; left = ts }

-- a round of a loop: nothing is gone in n that wasn't in l
abbrev pub none_more2 : List Slot → Log → Log → Bool
none_more2 [] l n = true
none_more2 (v ∷ vs) l n = (find l (length vs) || not (find n (length vs))) && none_more2 vs l n

-- what's given is of what the caller lent
abbrev pub given : Ctx → State2 → Bool
given p s = from_ents p.refs (scope s) (bits p.refs (scope s)) s.ents

abbrev pub exec2 : Ctx → Instr → State2 → Option State2
exec2 p (i_num n) s = some (val s int [])
exec2 p (i_var x) s = if_some (there2 (scope s) (live s) x) (λ f. value2 s f f.slot.ty)
exec2 p i_int s = only_if (same_ty s.ty int) (some (val s int []))
exec2 p (i_op o) s = only_if (same_ty s.ty int) (some (val s int []))
exec2 p (i_make c) s = if_some (home_of p.datas c) (λ h. some (rest s.names s.log (k_call h.ctor1.fields (dat h.data1.name) [] ∷ s.frames)))
exec2 p (i_call f) s = if_some (sig_named p.sigs f) (λ k. some (rest s.names s.log (k_call (types_of_pars k.params) k.ret [] ∷ s.frames)))
exec2 p i_arg s = on_call2 s.frames (λ ts u es ks. on_one ts (λ t ts. only_if (same_ty s.ty t) (some (rest s.names s.log (k_call ts u (es ++ s.ents) ∷ ks)))))
exec2 p i_apply s = on_call2 s.frames (λ ts u es ks. on_none ts (some (st u (holds2 u es) s.names s.log ks)))
exec2 p i_box s = only_if (owned s.ty) (some (val s (box s.ty) []))
exec2 p (i_share x) s = if_some (there2 (scope s) (live s) x) (λ f. shared2 s f f.slot.ty)
exec2 p (i_lend x) s = if_some (there2 (scope s) (live s) x) (λ f. only_if (owned f.slot.ty && free2 (held2 s.frames) (scope s) x) (some (val s (mut f.slot.ty) (leaf (loan x true) ∷ []))))
exec2 p (i_load x) s = if_some (there2 (scope s) (live s) x) (λ f. only_if (loadable f.slot.ty && readable2 (held2 s.frames) (scope s) x) (some (val s int [])))
exec2 p i_get s = some (val s int [])
exec2 p (i_bind x) s = only_if (fresh2 (scope s) x) (some (entered s x s.ty s.ents s.log))
exec2 p (i_assign x) s = if_some (seek (scope s) x) (λ f. only_if (owned f.slot.ty && (same_ty s.ty f.slot.ty && free2 [] (scope s) x)) (some (rest s.names (gone_at (length f.older) false ∷ s.log) s.frames)))
exec2 p (i_store x) s = if_some (there2 (scope s) (live s) x) (λ f. stores2 s x f.slot.ty)
exec2 p i_put s = only_if (same_ty s.ty int) (some (rest s.names s.log s.frames))
exec2 p i_if s = only_if (same_ty s.ty int) (some (rest [] [] (k_then s.names s.log ∷ s.frames)))
exec2 p i_else s = on_then2 s.frames (λ vs l ks. some (rest [] [] (k_else vs l s.log ∷ ks)))
exec2 p i_end_if s = on_else2 s.frames (λ vs l a ks. some (rest vs (joined (a ∷ s.log ∷ []) (l ++ log_of ks) ++ l) ks))
exec2 p i_while s = some (rest [] [] (k_test s.names s.log ∷ s.frames))
exec2 p i_do s = on_test2 s.frames (λ vs l ks. only_if (same_ty s.ty int) (some (rest [] [] (k_loop vs l s.names s.log ∷ ks))))
exec2 p i_end_while s = on_loop2 s.frames (λ vs l ws m ks. only_if (none_more2 (vs ++ names_of ks) (l ++ log_of ks) (live s)) (some (rest (ws ++ vs) (m ++ l) ks)))
exec2 p (i_match w x) s = if_some (there2 (scope s) (live s) x) (λ f. looks2 p s f w f.slot.ty)
exec2 p (i_arm c) s = on_match2 s.frames (λ vs l arms q ks. if_some (ctor_named q.data1.ctors c) (λ k. some (rest s.names s.log (k_match vs l arms (next_arm2 q c k) ∷ ks))))
exec2 p (i_name x) s = on_match2 s.frames (λ vs l arms q ks. on_one q.left (λ t ts. only_if (fresh2 (scope s) x) (some (rest (slot_of x (ref_of q.way t) (entries q.part) ∷ s.names) (gone_at (length (scope s)) false ∷ s.log) (k_match vs l arms (fields_left2 q ts) ∷ ks)))))
exec2 p i_body s = on_match2 s.frames (λ vs l arms q ks. on_none q.left (some s))
exec2 p i_end_arm s = on_match2 s.frames (λ vs l arms q ks. some (rest [] [] (k_match vs l (arms ++ (s.log ∷ [])) (fields_left2 q []) ∷ ks)))
exec2 p i_end_match s = on_match2 s.frames (λ vs l arms q ks. only_if (covers q.data1 q.seen) (some (rest vs (joined arms (l ++ log_of ks) ++ l) ks)))
exec2 p (i_open x y) s = if_some (there2 (scope s) (live s) y) (λ f. if_some (boxed_in f.slot.ty) (λ t. only_if (fresh2 (scope s) x && free2 [] (scope s) y) (some (entered s x t [] (gone_at (length f.older) true ∷ s.log)))))
exec2 p (i_inside x y) s = only_if (fresh2 (scope s) x) (if_some (there2 (scope s) (live s) y) (λ f. goes_in2 s f x f.slot.ty))
exec2 p i_give s = only_if (same_ty s.ty p.ret && given p s) (some (rest s.names s.log s.frames))
exec2 p i_end_fn s = none
exec2 p i_ty_int s = none
exec2 p (i_ty_data d) s = none
exec2 p i_ty_box s = none
exec2 p i_ty_ref s = none
exec2 p i_ty_mut s = none
exec2 p i_field s = none
exec2 p (i_ctor c) s = none
exec2 p (i_data d w) s = none
exec2 p (i_param x) s = none
exec2 p (i_fn f) s = none

-- to the end of a function
abbrev pub exec2_all : Ctx → List Instr → State2 → Option State2
exec2_all p [] s = none
exec2_all p (i ∷ is) s = choose (is_end i) (some s) (if_some (exec2 p i s) (λ t. exec2_all p is t))

-- parameters: names with no loans
abbrev pub par_slots : List Param → List Slot → List Slot
par_slots [] vs = vs
par_slots (q ∷ qs) vs = par_slots qs (slot_of q.name q.ty [] ∷ vs)

abbrev pub start : List Param → State2
start qs = rest (par_slots qs []) [] []
