-- The bits say what the rule says, which goes from loan to loan with fuel.
use Rattle.std.proofs.Common.{◌≡◌, ℕ, zero, suc, ◌<◌, ◌≤◌, Bool, true, false, not, ◌&&◌, ◌||◌, T, eqb, List, [], ◌∷◌, ◌++◌, length, sym, refl, ap, ◌∙◌, subst, ap₂, arith}
use mathlib.Core.Bool.{and_assoc}
use mathlib.Core.Option.{Option, some, none}
use Rattle.language.specs.Base.{choose, from_option, if_some, present, each_of, Lexeme, same, is_in}
use Rattle.language.specs.Checks.{owned, Loan, Env, look, from_caller}
use Rattle.checker.specs.Frames.{Ctx}
use Rattle.checker.proofs.Options.{Each}
use Rattle.checker.proofs.Keeps.{Name}
use Rattle.scope.specs.Loans.{Ent, leaf, via}
use Rattle.checker.proofs.LoanStack.{at, expand}
use Rattle.scope.specs.Log.{Log}
use Rattle.checker.proofs.ScopeLog.{env_of, not_in}
use Rattle.scope.specs.Slots.{Slot, Found, found_at, seek}
use Rattle.checker.proofs.Slots.{each, as_names, env2, length_names, length_each, var_of, look_is, Sought, sought}
use Rattle.checker.specs.Marks.{State2, scope, live}
use Rattle.checker.specs.CallerBits.{bit_at, from_ents, bits}
use Rattle.checker.specs.Machine.{given}
use Rattle.checker.proofs.Abstract.{Inside, Scoped, Inv}
use Rattle.scope.proofs.SlotWords.{same_is}

-- g has these names
abbrev Sees : Env → Log → List Slot → Type 0
Sees g l vs = (x : Lexeme) → present (seek vs x) ≡ true → look g x ≡ if_some (seek vs x) (λ f. some (var_of l f))

not_found : (y : Lexeme) (vs : List Slot) (x : Lexeme) → not_in y (as_names vs) → present (seek vs x) ≡ true → same y x ≡ false
not_found y [] x d h = absurd (subst T (sym h) tt)
not_found y (v ∷ vs) x d h = go (same v.name x) refl h (λ h. not_found y vs x d.1 h)
  where
    go : (c : Bool) → same v.name x ≡ c → present (choose c (some (found_at v vs)) (seek vs x)) ≡ true → (present (seek vs x) ≡ true → same y x ≡ false) → same y x ≡ false
    go true e h older = ap (same y) (sym (same_is v.name x e)) ∙ d.0
    go false e h older = older h

sees_old : (g : Env) (l : Log) (v : Slot) (vs : List Slot) → Scoped (v ∷ vs) → Sees g l (v ∷ vs) → Sees g l vs
sees_old g l v vs d s x h = s x (ap present past ∙ h) ∙ ap (λ o. if_some o (λ f. some (var_of l f))) past
  where
    past : seek (v ∷ vs) x ≡ seek vs x
    past = ap (λ c. choose c (some (found_at v vs)) (seek vs x)) (not_found v.name vs x d.0.0 h)

each-++ : (f : Loan → Bool) (a b : List Loan) → each_of f (a ++ b) ≡ (each_of f a && each_of f b)
each-++ f [] b = refl
each-++ f (x ∷ a) b = ap (λ c. f x && c) (each-++ f a b) ∙ sym (and_assoc (f x) (each_of f a) (each_of f b))

length_bits : (qs : List Lexeme) (vs : List Slot) → length (bits qs vs) ≡ length vs
length_bits qs [] = refl
length_bits qs (v ∷ vs) = let e = length_bits qs vs in omega arith

-- what holds of all names in vs holds of entries that speak of them
ents_are : (qs : List Lexeme) (g : Env) (l : Log) (vs : List Slot) (n : ℕ) (es : List Ent) → Sees g l vs → Inside vs es → length vs < n → ((m j : ℕ) → length vs ≤ m → 0 < m → from_caller m g qs (at (each vs) j) ≡ bit_at (bits qs vs) j) → from_caller n g qs (expand es (each vs)) ≡ from_ents qs vs (bits qs vs) es
ents_are qs g l vs zero es s h k q = absurd (omega arith)
ents_are qs g l vs (suc m) [] s h k q = refl
ents_are qs g l vs (suc m) (leaf x ∷ es) s h k q = ap₂ ◌&&◌ (ap (λ b. is_in x.root qs || b) (ap (λ o. from_option o false (λ v. not (owned v.ty) && from_caller m g qs v.loans)) (s x.root h.0) ∙ go (seek vs x.root) (sought vs x.root))) (ents_are qs g l vs (suc m) es s h.1 k q)
  where
    go : (o : Option Found) → Each o (Sought vs x.root) → from_option (if_some o (λ f. some (var_of l f))) false (λ v. not (owned v.ty) && from_caller m g qs v.loans) ≡ from_option o false (λ f. not (owned f.slot.ty) && bit_at (bits qs vs) (length f.older))
    go none e = refl
    go (some f) e = ap (λ b. not (owned f.slot.ty) && b) (ap (from_caller m g qs) (sym e.1.1.1.0) ∙ q m (length f.older) (omega arith) (let z = e.1.1.0 in omega arith))
ents_are qs g l vs (suc m) (via j ∷ es) s h k q = each-++ _ (at (each vs) j) (expand es (each vs)) ∙ ap₂ ◌&&◌ (q (suc m) j (omega arith) (omega arith)) (ents_are qs g l vs (suc m) es s h.1 k q)

bits_are : (qs : List Lexeme) (g : Env) (l : Log) (vs : List Slot) → Scoped vs → Sees g l vs → (n j : ℕ) → length vs ≤ n → 0 < n → from_caller n g qs (at (each vs) j) ≡ bit_at (bits qs vs) j
bits_are qs g l [] d s zero j h k = absurd (omega arith)
bits_are qs g l [] d s (suc n) j h k = refl
bits_are qs g l (v ∷ vs) d s n j h k = ap (λ i. from_caller n g qs (choose (eqb j i) (expand v.ents (each vs)) (at (each vs) j))) (length_each vs ∙ sym (length_bits qs vs)) ∙ go (eqb j (length (bits qs vs))) (ents_are qs g l vs n v.ents old d.1.0 (omega arith) (bits_are qs g l vs (d.0.1, d.1.1) old)) (bits_are qs g l vs (d.0.1, d.1.1) old n j (omega arith) k)
  where
    old : Sees g l vs
    old = sees_old g l v vs d s

    go : (c : Bool) → from_caller n g qs (expand v.ents (each vs)) ≡ from_ents qs vs (bits qs vs) v.ents → from_caller n g qs (at (each vs) j) ≡ bit_at (bits qs vs) j → from_caller n g qs (choose c (expand v.ents (each vs)) (at (each vs) j)) ≡ choose c (from_ents qs vs (bits qs vs) v.ents) (bit_at (bits qs vs) j)
    go true a b = a
    go false a b = b

length_env : (vs : List Name) (l : Log) → length (env_of vs l) ≡ length vs
length_env [] l = refl
length_env (v ∷ vs) l = let e = length_env vs l in omega arith

pub given_is : (p : Ctx) (s : State2) → Inv s → from_caller (suc (length (env2 (scope s) (live s)))) (env2 (scope s) (live s)) p.refs (expand s.ents (each (scope s))) ≡ given p s
given_is p s i = ents_are p.refs (env2 (scope s) (live s)) (live s) (scope s) (suc (length (env2 (scope s) (live s)))) s.ents sees i.1.0 (let a = length_env (as_names (scope s)) (live s) in let b = length_names (scope s) in omega arith) (bits_are p.refs (env2 (scope s) (live s)) (live s) (scope s) i.0 sees)
  where
    sees : Sees (env2 (scope s) (live s)) (live s) (scope s)
    sees x h = look_is (scope s) (live s) x
