-- A function from its first instruction to its end, on stacks and marks: accepted exactly if it is with environments.
use Rattle.std.proofs.Common.{◌≡◌, Bool, true, false, not, ◌&&◌, ◌||◌, T, List, [], ◌∷◌, ◌++◌, sym, refl, ap, ◌∙◌, subst, append-nil}
use mathlib.Core.Option.{Option, some, none}
use Rattle.language.specs.Base.{choose, if_some, present, Lexeme, same, is_in, no_twice}
use Rattle.language.specs.Syntax.{Param}
use Rattle.language.specs.Checks.{pars_env, names_of_pars}
use Rattle.code.specs.Instr.{Instr}
use Rattle.checker.specs.Frames.{Ctx, at_rest}
use Rattle.checker.specs.Exec.{exec, is_end, exec_all}
use Rattle.checker.proofs.Options.{Each}
use Rattle.checker.proofs.ScopeLog.{not_in, same_sym}
use Rattle.scope.specs.Slots.{Slot, slot_of}
use Rattle.checker.proofs.Slots.{as_names, env2}
use Rattle.checker.specs.Marks.{State2}
use Rattle.checker.specs.Machine.{exec2, exec2_all, par_slots, start}
use Rattle.checker.proofs.Abstract.{Inv, Scoped, abs, agree_same, agree_inv}
use Rattle.checker.proofs.Step.{step_ok}

pub run2 : (p : Ctx) (is : List Instr) (s : State2) → Inv s → present (exec_all p is (abs s)) ≡ present (exec2_all p is s)
run2 p [] s h = refl
run2 p (i ∷ is) s h = go (is_end i) (λ t k. run2 p is t k)
  where
    Runs : Type 0
    Runs = (t : State2) → Inv t → present (exec_all p is (abs t)) ≡ present (exec2_all p is t)

    on : (u : Option State2) → Each u Inv → Runs → present (if_some (if_some u (λ t. some (abs t))) (λ t. exec_all p is t)) ≡ present (if_some u (λ t. exec2_all p is t))
    on none k r = refl
    on (some t) k r = r t k

    go : (c : Bool) → Runs → present (choose c (some (at_rest [] [])) (if_some (exec p i (abs s)) (λ t. exec_all p is t))) ≡ present (choose c (some s) (if_some (exec2 p i s) (λ t. exec2_all p is t)))
    go true r = refl
    go false r = ap (λ o. present (if_some o (λ t. exec_all p is t))) (agree_same _ _ (step_ok p i s h)) ∙ on (exec2 p i s) (agree_inv _ _ (step_ok p i s h)) r

pub pars_are : (qs : List Param) (vs : List Slot) → env2 (par_slots qs vs) [] ≡ pars_env qs (env2 vs [])
pars_are [] vs = refl
pars_are (q ∷ qs) vs = pars_are qs (slot_of q.name q.ty [] ∷ vs)

abbrev New : List Param → List Slot → Type 0
New [] vs = Unit {0}
New (q ∷ qs) vs = not_in q.name (as_names vs) × New qs vs

or_parts : (a b : Bool) → not (a || b) ≡ true → (a ≡ false) × (not b ≡ true)
or_parts true b h = (sym h, absurd (subst T (sym h) tt))
or_parts false b h = (refl, h)

and_parts : (a b : Bool) → (a && b) ≡ true → (a ≡ true) × (b ≡ true)
and_parts true b h = (refl, h)
and_parts false b h = absurd (subst T (sym h) tt)

still_new : (x : Lexeme) (v : Slot) (vs : List Slot) (qs : List Param) → v.name ≡ x → not (is_in x (names_of_pars qs)) ≡ true → New qs vs → New qs (v ∷ vs)
still_new x v vs [] e h n = tt
still_new x v vs (q ∷ qs) e h n = ((ap (same q.name) e ∙ same_sym q.name x ∙ (or_parts (same x q.name) (is_in x (names_of_pars qs)) h).0, n.0), still_new x v vs qs e (or_parts (same x q.name) (is_in x (names_of_pars qs)) h).1 n.1)

pars_scoped : (qs : List Param) (vs : List Slot) → no_twice (names_of_pars qs) ≡ true → New qs vs → Scoped vs → Scoped (par_slots qs vs)
pars_scoped [] vs h n d = d
pars_scoped (q ∷ qs) vs h n d = pars_scoped qs (slot_of q.name q.ty [] ∷ vs) (and_parts (not (is_in q.name (names_of_pars qs))) (no_twice (names_of_pars qs)) h).1 (still_new q.name (slot_of q.name q.ty []) vs qs refl (and_parts (not (is_in q.name (names_of_pars qs))) (no_twice (names_of_pars qs)) h).0 n.1) ((n.0, d.0), (tt, d.1))

none_old : (qs : List Param) → New qs []
none_old [] = tt
none_old (q ∷ qs) = (tt, none_old qs)

nil : (vs : List Slot) → vs ++ [] ≡ vs
nil vs = append-nil vs

pub start_inv : (qs : List Param) → no_twice (names_of_pars qs) ≡ true → Inv (start qs)
start_inv qs h = (subst Scoped (sym (nil (par_slots qs []))) (pars_scoped qs [] h (none_old qs) (tt, tt)), (tt, tt))

pub start_is : (qs : List Param) → abs (start qs) ≡ at_rest (pars_env qs []) []
start_is qs = ap (λ vs. at_rest (env2 vs []) []) (nil (par_slots qs [])) ∙ ap (λ g. at_rest g []) (pars_are qs [])
