-- What a state with marks stands for, and what holds of it.
use Rattle.std.proofs.Common.{◌≡◌, ◌<◌, Bool, true, false, ◌||◌, List, [], ◌∷◌, ◌++◌, length, sym, refl, ap, ◌∙◌, subst, ap₂, append_assoc, arith}
use mathlib.Core.Option.{Option, some, none}
use Rattle.language.specs.Base.{choose, if_some, only_if, present, some_of, Lexeme, same}
use Rattle.language.specs.Checks.{Loan, Var, Env, all_loans, outer, there}
use Rattle.checker.specs.Frames.{Frame, f_call, f_then, f_else, f_test, f_loop, f_match, State, state, held_of}
use Rattle.checker.proofs.Options.{Each}
use Rattle.checker.proofs.Loans.{like, some_of-++}
use Rattle.scope.specs.Loans.{Ent, leaf, via, leaves}
use Rattle.checker.proofs.LoanStack.{at, expand, all, one_has}
use Rattle.scope.specs.Log.{Log}
use Rattle.checker.proofs.ScopeLog.{loans_of, env_loans, apart, has, has_all, outer_has, eqb_not}
use Rattle.checker.proofs.LogJoin.{ways_of}
use Rattle.scope.specs.Slots.{Slot, found_at, seek, Found, stack}
use Rattle.checker.proofs.Slots.{each, as_names, env2, length_each, var_of, there_is, Sought, sought_there}
use Rattle.checker.specs.Machine.{there2}
use Rattle.checker.specs.Marks.{entries, Mark, k_call, k_then, k_else, k_test, k_loop, k_match, State2, names_of, log_of, held2, scope, live}

-- frames with the environments that they stand for, us: the names above the newest mark
abbrev pub as_frames : List Slot → List Mark → List Frame
as_frames us [] = []
as_frames us (k_call ts t es ∷ ks) = f_call ts t (expand es (each (us ++ names_of ks))) ∷ as_frames us ks
as_frames us (k_then vs l ∷ ks) = f_then (env2 (vs ++ names_of ks) (l ++ log_of ks)) ∷ as_frames vs ks
as_frames us (k_else vs l a ∷ ks) = f_else (env2 (vs ++ names_of ks) (l ++ log_of ks)) (env2 (vs ++ names_of ks) (a ++ (l ++ log_of ks))) ∷ as_frames vs ks
as_frames us (k_test vs l ∷ ks) = f_test (env2 (vs ++ names_of ks) (l ++ log_of ks)) ∷ as_frames vs ks
as_frames us (k_loop vs l ws m ∷ ks) = f_loop (env2 (vs ++ names_of ks) (l ++ log_of ks)) (env2 (ws ++ (vs ++ names_of ks)) (m ++ (l ++ log_of ks))) ∷ as_frames vs ks
as_frames us (k_match vs l arms q ∷ ks) = f_match (record { scope = env2 (vs ++ names_of ks) (l ++ log_of ks); way = q.way; loans = expand (entries q.part) (each (vs ++ names_of ks)); data1 = q.data1; seen = q.seen; ways = ways_of (as_names (vs ++ names_of ks)) arms (l ++ log_of ks); left = q.left }) ∷ as_frames vs ks

abbrev pub abs : State2 → State
abs s = state (record { ty = s.ty; loans = expand s.ents (each (scope s)); env = env2 (scope s) (live s) }) (as_frames s.names s.frames)

-- entries that speak of these names only: the root of a loan is one of them, and so is whoever has the same loans
abbrev pub Inside : List Slot → List Ent → Type 0
Inside vs [] = Unit {0}
Inside vs (leaf l ∷ es) = (present (seek vs l.root) ≡ true) × Inside vs es
Inside vs (via j ∷ es) = (j < length vs) × Inside vs es

abbrev pub Calls : List Slot → List Mark → Type 0
Calls us [] = Unit {0}
Calls us (k_call ts t es ∷ ks) = Inside (us ++ names_of ks) es × Calls us ks
Calls us (k_then vs l ∷ ks) = Calls vs ks
Calls us (k_else vs l a ∷ ks) = Calls vs ks
Calls us (k_test vs l ∷ ks) = Calls vs ks
Calls us (k_loop vs l ws m ∷ ks) = Calls vs ks
Calls us (k_match vs l arms q ∷ ks) = Inside (vs ++ names_of ks) (entries q.part) × Calls vs ks

-- each name's entries speak of older names
abbrev pub Rooted : List Slot → Type 0
Rooted [] = Unit {0}
Rooted (v ∷ vs) = Inside vs v.ents × Rooted vs

-- names are all different, and entries speak of names in scope
abbrev pub Scoped : List Slot → Type 0
Scoped vs = apart (as_names vs) × Rooted vs

abbrev pub Inv : State2 → Type 0
Inv s = Scoped (scope s) × (Inside (scope s) s.ents × Calls s.names s.frames)

-- newer names are no matter to entries and frames
pub inside_push : (v : Slot) (vs : List Slot) (es : List Ent) → Inside vs es → Inside (v ∷ vs) es
inside_push v vs [] q = tt
inside_push v vs (leaf l ∷ es) q = (go (same v.name l.root) q.0, inside_push v vs es q.1)
  where
    go : (c : Bool) → present (seek vs l.root) ≡ true → present (choose c (some (found_at v vs)) (seek vs l.root)) ≡ true
    go true h = refl
    go false h = h
inside_push v vs (via j ∷ es) q = (let p = q.0 in omega arith, inside_push v vs es q.1)

pub inside-++ : (vs : List Slot) (es gs : List Ent) → Inside vs es → Inside vs gs → Inside vs (es ++ gs)
inside-++ vs [] gs h q = q
inside-++ vs (leaf l ∷ es) gs h q = (h.0, inside-++ vs es gs h.1 q)
inside-++ vs (via j ∷ es) gs h q = (h.0, inside-++ vs es gs h.1 q)

pub expand_push : (es : List Ent) (v : Slot) (vs : List Slot) → Inside vs es → expand es (each (v ∷ vs)) ≡ expand es (each vs)
expand_push [] v vs h = refl
expand_push (leaf l ∷ es) v vs h = ap (λ ms. l ∷ ms) (expand_push es v vs h.1)
expand_push (via j ∷ es) v vs h = ap₂ ◌++◌ (ap (λ c. choose c (expand v.ents (each vs)) (at (each vs) j)) (eqb_not j (length (each vs)) (λ e. let p = h.0 in let q = length_each vs in absurd (omega arith)))) (expand_push es v vs h.1)

pub inside_old : (us vs : List Slot) (es : List Ent) → Inside vs es → Inside (us ++ vs) es
inside_old [] vs es h = h
inside_old (u ∷ us) vs es h = inside_push u (us ++ vs) es (inside_old us vs es h)

pub expand_old : (us vs : List Slot) (es : List Ent) → Inside vs es → expand es (each (us ++ vs)) ≡ expand es (each vs)
expand_old [] vs es h = refl
expand_old (u ∷ us) vs es h = expand_push es u (us ++ vs) (inside_old us vs es h) ∙ expand_old us vs es h

pub expand-++ : (es gs : List Ent) (ls : List (List Loan)) → expand (es ++ gs) ls ≡ expand es ls ++ expand gs ls
expand-++ [] gs ls = refl
expand-++ (leaf l ∷ es) gs ls = ap (λ ms. l ∷ ms) (expand-++ es gs ls)
expand-++ (via j ∷ es) gs ls = ap (λ ms. at ls j ++ ms) (expand-++ es gs ls) ∙ sym (append_assoc (at ls j) (expand es ls) (expand gs ls))

pub frames_push : (v : Slot) (us : List Slot) (ks : List Mark) → Calls us ks → as_frames (v ∷ us) ks ≡ as_frames us ks
frames_push v us [] h = refl
frames_push v us (k_call ts t es ∷ ks) h = ap₂ (λ ls fs. f_call ts t ls ∷ fs) (expand_push es v (us ++ names_of ks) h.0) (frames_push v us ks h.1)
frames_push v us (k_then vs l ∷ ks) h = refl
frames_push v us (k_else vs l a ∷ ks) h = refl
frames_push v us (k_test vs l ∷ ks) h = refl
frames_push v us (k_loop vs l ws m ∷ ks) h = refl
frames_push v us (k_match vs l arms q ∷ ks) h = refl

pub calls_push : (v : Slot) (us : List Slot) (ks : List Mark) → Calls us ks → Calls (v ∷ us) ks
calls_push v us [] h = tt
calls_push v us (k_call ts t es ∷ ks) h = (inside_push v (us ++ names_of ks) es h.0, calls_push v us ks h.1)
calls_push v us (k_then vs l ∷ ks) h = h
calls_push v us (k_else vs l a ∷ ks) h = h
calls_push v us (k_test vs l ∷ ks) h = h
calls_push v us (k_loop vs l ws m ∷ ks) h = h
calls_push v us (k_match vs l arms q ∷ ks) h = h

pub calls_old : (ws vs : List Slot) (ks : List Mark) → Calls vs ks → Calls (ws ++ vs) ks
calls_old [] vs ks h = h
calls_old (w ∷ ws) vs ks h = calls_push w (ws ++ vs) ks (calls_old ws vs ks h)

pub frames_old : (ws vs : List Slot) (ks : List Mark) → Calls vs ks → as_frames (ws ++ vs) ks ≡ as_frames vs ks
frames_old [] vs ks h = refl
frames_old (w ∷ ws) vs ks h = frames_push w (ws ++ vs) ks (calls_old ws vs ks h) ∙ frames_old ws vs ks h

-- the older names
pub scoped_old : (us vs : List Slot) → Scoped (us ++ vs) → Scoped vs
scoped_old [] vs h = h
scoped_old (u ∷ us) vs h = scoped_old us vs (h.0.1, h.1.1)

pub has_older : (us vs : List Slot) (l : Log) → Scoped (us ++ vs) → has (env2 (us ++ vs) l) (as_names vs) l
has_older us vs l d = go us (env2 (us ++ vs) l) (has_all (as_names (us ++ vs)) l d.0)
  where
    go : (us : List Slot) (h : Env) → has h (as_names (us ++ vs)) l → has h (as_names vs) l
    go [] h q = q
    go (u ∷ us) h q = go us h q.1

pub outer2 : (us vs : List Slot) (l n : Log) → Scoped (us ++ vs) → outer (env2 vs l) (env2 (us ++ vs) n) ≡ env2 vs n
outer2 us vs l n d = outer_has (as_names vs) l n (env2 (us ++ vs) n) (has_older us vs n d)

-- one scan of the leaves answers what's asked of all loans
loans_each : (vs : List Slot) → loans_of (as_names vs) ≡ all (each vs)
loans_each [] = refl
loans_each (v ∷ vs) = ap (λ ls. expand v.ents (each vs) ++ ls) (loans_each vs)

leaves-++ : (es gs : List Ent) → leaves (es ++ gs) ≡ leaves es ++ leaves gs
leaves-++ [] gs = refl
leaves-++ (leaf l ∷ es) gs = ap (λ ms. l ∷ ms) (leaves-++ es gs)
leaves-++ (via j ∷ es) gs = leaves-++ es gs

pub scan_is : (es : List Ent) (vs : List Slot) → like (expand es (each vs) ++ all (each vs)) (leaves (es ++ stack vs))
scan_is es [] f = some_of-++ f (expand es []) [] ∙ one_has f es [] ∙ sym (some_of-++ f (leaves es) []) ∙ ap (some_of f) (sym (leaves-++ es []))
scan_is es (v ∷ vs) f = some_of-++ f (expand es (each (v ∷ vs))) (all (each (v ∷ vs))) ∙ one_has f es (each (v ∷ vs)) ∙ ap (λ c. some_of f (leaves es) || c) (scan_is v.ents vs f) ∙ sym (some_of-++ f (leaves es) (leaves (v.ents ++ stack vs))) ∙ ap (some_of f) (sym (leaves-++ es (v.ents ++ stack vs)))

held_is : (us : List Slot) (ks : List Mark) → held_of (as_frames us ks) ≡ expand (held2 ks) (each (us ++ names_of ks))
held_is us [] = refl
held_is us (k_call ts t es ∷ ks) = ap (λ ls. expand es (each (us ++ names_of ks)) ++ ls) (held_is us ks) ∙ sym (expand-++ es (held2 ks) (each (us ++ names_of ks)))
held_is us (k_then vs l ∷ ks) = refl
held_is us (k_else vs l a ∷ ks) = refl
held_is us (k_test vs l ∷ ks) = refl
held_is us (k_loop vs l ws m ∷ ks) = refl
held_is us (k_match vs l arms q ∷ ks) = refl

pub loans_like : (us : List Slot) (ks : List Mark) (n : Log) → like (held_of (as_frames us ks) ++ all_loans (env2 (us ++ names_of ks) n)) (leaves (held2 ks ++ stack (us ++ names_of ks)))
loans_like us ks n f = ap (some_of f) (ap₂ ◌++◌ (held_is us ks) (env_loans (as_names (us ++ names_of ks)) n ∙ loans_each (us ++ names_of ks))) ∙ scan_is (held2 ks) (us ++ names_of ks) f

pub own_like : (vs : List Slot) (n : Log) → like (all_loans (env2 vs n)) (leaves (stack vs))
own_like vs n f = ap (some_of f) (env_loans (as_names vs) n ∙ loans_each vs) ∙ scan_is [] vs f

-- a step of both machines: both refuse, or what's behind one stands for what's behind the other
pub data Agrees : Option State → Option State2 → Type 0 where
  agrees : (o : Option State) (u : Option State2) → o ≡ if_some u (λ t. some (abs t)) → Each u Inv → Agrees o u

pub agree_same : (o : Option State) (u : Option State2) → Agrees o u → o ≡ if_some u (λ t. some (abs t))
agree_same o u (agrees o2 u2 h i) = h

pub agree_inv : (o : Option State) (u : Option State2) → Agrees o u → Each u Inv
agree_inv o u (agrees o2 u2 h i) = i

pub neither : Agrees none none
neither = agrees none none refl tt

pub agree_some : (x : State) (t : State2) → x ≡ abs t → Inv t → Agrees (some x) (some t)
agree_some x t h i = agrees (some x) (some t) (ap (λ x. some x) h) i

pub agree_on : (o o' : Option State) (u : Option State2) → o ≡ o' → Agrees o' u → Agrees o u
agree_on o o' u h k = subst (λ o. Agrees o u) (sym h) k

pub agree_only : (b c : Bool) (o : Option State) (u : Option State2) → b ≡ c → (c ≡ true → Agrees o u) → Agrees (only_if b o) (only_if c u)
agree_only b c o u h k = agree_on (only_if b o) (only_if c o) (only_if c u) (ap (λ b. only_if b o) h) (go c refl)
  where
    go : (d : Bool) → c ≡ d → Agrees (only_if d o) (only_if d u)
    go true e = k e
    go false e = neither

pub agree_if : {A : Type 0} (o : Option A) (f : A → Option State) (g : A → Option State2) → ((x : A) → Agrees (f x) (g x)) → Agrees (if_some o f) (if_some o g)
agree_if none f g h = neither
agree_if (some x) f g h = h x

pub agree_each : {A : Type 0} (P : A → Type 0) (o : Option A) (f : A → Option State) (g : A → Option State2) → Each o P → ((x : A) → P x → Agrees (f x) (g x)) → Agrees (if_some o f) (if_some o g)
agree_each P none f g e h = neither
agree_each P (some x) f g e h = h x e

pub agree_there : (vs : List Slot) (l : Log) (x : Lexeme) (k : Var → Option State) (g : Found → Option State2) → ((f : Found) → Sought vs x f → Agrees (k (var_of l f)) (g f)) → Agrees (if_some (there (env2 vs l) x) k) (if_some (there2 vs l x) g)
agree_there vs l x k g h = agree_on _ _ _ (there_is vs l x k) (agree_each (Sought vs x) (there2 vs l x) (λ f. k (var_of l f)) g (sought_there vs l x) h)
