-- Names in scope as a stack of slots, the newest first: a name, its type, the range of its loans' entries. A slot is never changed.
use Rattle.std.proofs.Common.{◌≡◌, ◌<◌, Bool, true, false, not, eqb, List, [], ◌∷◌, length, refl, ap, ◌∙◌, arith}
use mathlib.Core.Option.{Option, some, none}
use Rattle.language.specs.Base.{choose, if_some, only_if, present, Lexeme, same}
use Rattle.language.specs.Checks.{Loan, Var, Env, look, fresh, there}
use Rattle.checker.proofs.Options.{Each, if_on}
use Rattle.checker.proofs.Keeps.{Name}
use Rattle.checker.proofs.LoanStack.{at, expand}
use Rattle.scope.specs.Log.{Log, gone_at, find}
use Rattle.checker.proofs.ScopeLog.{as_var, env_of, sets, eqb_same, eqb_not, same_self}
use Rattle.scope.proofs.SlotWords.{same_is}
use Rattle.scope.specs.Slots.{Slot, Found, found_at, seek}
use Rattle.checker.specs.Machine.{there2, fresh2}

-- the loans of each name: its entries, with those of older names for "as that one has"
abbrev pub each : List Slot → List (List Loan)
each [] = []
each (v ∷ vs) = expand v.ents (each vs) ∷ each vs

abbrev pub as_name : Slot → List Slot → Name
as_name v vs = record { name = v.name; ty = v.ty; loans = expand v.ents (each vs) }

abbrev pub as_names : List Slot → List Name
as_names [] = []
as_names (v ∷ vs) = as_name v vs ∷ as_names vs

-- the environment that slots and moves stand for
abbrev pub env2 : List Slot → Log → Env
env2 vs l = env_of (as_names vs) l

pub length_names : (vs : List Slot) → length (as_names vs) ≡ length vs
length_names [] = refl
length_names (v ∷ vs) = let e = length_names vs in omega arith

pub length_each : (vs : List Slot) → length (each vs) ≡ length vs
length_each [] = refl
length_each (v ∷ vs) = let e = length_each vs in omega arith

abbrev pub var_of : Log → Found → Var
var_of l f = as_var (as_name f.slot f.older) (find l (length f.older))

pub look_is : (vs : List Slot) (l : Log) (x : Lexeme) → look (env2 vs l) x ≡ if_some (seek vs x) (λ f. some (var_of l f))
look_is [] l x = refl
look_is (v ∷ vs) l x = go (same v.name x) (look_is vs l x)
  where
    go : (c : Bool) → look (env2 vs l) x ≡ if_some (seek vs x) (λ f. some (var_of l f)) → choose c (some (as_var (as_name v vs) (find l (length (as_names vs))))) (look (env2 vs l) x) ≡ if_some (choose c (some (found_at v vs)) (seek vs x)) (λ f. some (var_of l f))
    go true h = ap (λ n. some (as_var (as_name v vs) (find l n))) (length_names vs)
    go false h = h

pub fresh_is : (vs : List Slot) (l : Log) (x : Lexeme) → fresh (env2 vs l) x ≡ fresh2 vs x
fresh_is vs l x = ap (λ o. not (present o)) (look_is vs l x) ∙ go (seek vs x)
  where
    go : (o : Option Found) → not (present (if_some o (λ f. some (var_of l f)))) ≡ not (present o)
    go none = refl
    go (some f) = refl

-- what is done with a name that's there
pub there_is : {A : Type 0} (vs : List Slot) (l : Log) (x : Lexeme) (k : Var → Option A) → if_some (there (env2 vs l) x) k ≡ if_some (there2 vs l x) (λ f. k (var_of l f))
there_is vs l x k = if_on k (if_on _ (look_is vs l x)) ∙ go (seek vs x)
  where
    go : (o : Option Found) → if_some (if_some (if_some o (λ f. some (var_of l f))) (λ v. only_if (not v.gone) (some v))) k ≡ if_some (if_some o (λ f. only_if (not (find l (length f.older))) (some f))) (λ f. k (var_of l f))
    go none = refl
    go (some f) = on (not (find l (length f.older)))
      where
        on : (c : Bool) → if_some (only_if c (some (var_of l f))) k ≡ if_some (only_if c (some f)) (λ f. k (var_of l f))
        on true = refl
        on false = refl

-- of a name that's found: its name; a move of it is one entry at its place; its place is in the stack; its loans are those at its place; it's found by its own name
abbrev pub Sought : List Slot → Lexeme → Found → Type 0
Sought vs x f = (f.slot.name ≡ x) × (((b : Bool) (l : Log) → sets (as_names vs) x b l ≡ gone_at (length f.older) b ∷ l) × ((length f.older < length vs) × ((at (each vs) (length f.older) ≡ expand f.slot.ents (each f.older)) × (present (seek vs f.slot.name) ≡ true))))

pub sought : (vs : List Slot) (x : Lexeme) → Each (seek vs x) (Sought vs x)
sought [] x = tt
sought (v ∷ vs) x = go (same v.name x) refl (sought vs x)
  where
    newer : (o : Option Found) → same v.name x ≡ false → Each o (Sought vs x) → Each o (Sought (v ∷ vs) x)
    newer none e h = tt
    newer (some f) e h = (h.0, (λ b l. ap (λ c. choose c (gone_at (length (as_names vs)) b ∷ l) (sets (as_names vs) x b l)) e ∙ h.1.0 b l, (let p = h.1.1.0 in omega arith, (ap (λ c. choose c (expand v.ents (each vs)) (at (each vs) (length f.older))) (eqb_not (length f.older) (length (each vs)) (λ q. let p = h.1.1.0 in let r = length_each vs in absurd (omega arith))) ∙ h.1.1.1.0, ap (λ c. present (choose c (some (found_at v vs)) (seek vs f.slot.name))) (ap (same v.name) h.0 ∙ e) ∙ h.1.1.1.1))))

    go : (c : Bool) → same v.name x ≡ c → Each (seek vs x) (Sought vs x) → Each (choose c (some (found_at v vs)) (seek vs x)) (Sought (v ∷ vs) x)
    go true e h = (same_is v.name x e, (λ b l. ap (λ c. choose c (gone_at (length (as_names vs)) b ∷ l) (sets (as_names vs) x b l)) e ∙ ap (λ n. gone_at n b ∷ l) (length_names vs), (omega arith, (ap (λ c. choose c (expand v.ents (each vs)) (at (each vs) (length vs))) (ap (λ n. eqb (length vs) n) (length_each vs) ∙ eqb_same (length vs)), ap (λ c. present (choose c (some (found_at v vs)) (seek vs v.name))) (same_self v.name)))))
    go false e h = newer (seek vs x) e h

pub sought_there : (vs : List Slot) (l : Log) (x : Lexeme) → Each (there2 vs l x) (Sought vs x)
sought_there vs l x = go (seek vs x) (sought vs x)
  where
    go : (o : Option Found) → Each o (Sought vs x) → Each (if_some o (λ f. only_if (not (find l (length f.older))) (some f))) (Sought vs x)
    go none h = tt
    go (some f) h = on (not (find l (length f.older)))
      where
        on : (c : Bool) → Each (only_if c (some f)) (Sought vs x)
        on true = h
        on false = tt
