-- Names that never change, and a log of what was moved or is there again: the names in scope, with no copy of them.
use Rattle.std.proofs.Common.{◌≡◌, ℕ, ◌<◌, ◌≤◌, Bool, true, false, not, ◌&&◌, ◌||◌, T, eqb, List, [], ◌∷◌, ◌++◌, length, sym, refl, ap, ◌∙◌, subst, ap₂, arith, eqb→eq}
use mathlib.Core.Bool.{or_assoc}
use mathlib.Core.Option.{Option, some, none}
use lib.Dec.{eqb_refl}
use Rattle.language.specs.Base.{choose, from_option, present, Lexeme, same}
use Rattle.checker.proofs.Keeps.{Name}
use Rattle.language.specs.Checks.{Loan, Var, Env, look, fresh, all_loans, set_gone, enter, outer, both, no_more_gone}
use Rattle.scope.specs.Log.{gone_at, Log, find}

abbrev pub as_var : Name → Bool → Var
as_var v b = record { name = v.name; ty = v.ty; gone = b; loans = v.loans }

abbrev pub env_of : List Name → Log → Env
env_of [] l = []
env_of (v ∷ vs) l = as_var v (find l (length vs)) ∷ env_of vs l

abbrev pub sets : List Name → Lexeme → Bool → Log → Log
sets [] x b l = l
sets (v ∷ vs) x b l = choose (same v.name x) (gone_at (length vs) b ∷ l) (sets vs x b l)

pub T→≡ : (b : Bool) → T b → b ≡ true
T→≡ true t = refl
T→≡ false t = absurd t

≡→T : (b : Bool) → b ≡ true → T b
≡→T b h = subst T (sym h) tt

pub eqb_same : (k : ℕ) → eqb k k ≡ true
eqb_same k = T→≡ (eqb k k) (eqb_refl k)

pub eqb_not : (j k : ℕ) → (j ≡ k → ⊥) → eqb j k ≡ false
eqb_not j k h = go (eqb j k) (eqb→eq j k)
  where
    go : (b : Bool) → (T b → j ≡ k) → b ≡ false
    go true f = absurd (h (f tt))
    go false f = refl

chosen : {A B : Type 0} (f : A → B) (c : Bool) (a b : A) (z : B) → f a ≡ z → f b ≡ z → f (choose c a b) ≡ z
chosen f true a b z p q = p
chosen f false a b z p q = q

pub same_self : (x : Lexeme) → same x x ≡ true
same_self [] = refl
same_self (a ∷ x) = ap₂ ◌&&◌ (eqb_same a) (same_self x)

eqb_sym : (j k : ℕ) → eqb j k ≡ eqb k j
eqb_sym j k = go (eqb j k) (eqb k j) (eqb→eq j k) (eqb→eq k j) (λ e. ap (λ k. eqb j k) (sym e) ∙ eqb_same j) (λ e. ap (λ j. eqb k j) (sym e) ∙ eqb_same k)
  where
    go : (b c : Bool) → (T b → j ≡ k) → (T c → k ≡ j) → (j ≡ k → b ≡ true) → (k ≡ j → c ≡ true) → b ≡ c
    go true c p q r s = sym (s (sym (p tt)))
    go false true p q r s = r (sym (q tt))
    go false false p q r s = refl

pub same_sym : (x y : Lexeme) → same x y ≡ same y x
same_sym [] [] = refl
same_sym [] (b ∷ y) = refl
same_sym (a ∷ x) [] = refl
same_sym (a ∷ x) (b ∷ y) = ap₂ ◌&&◌ (eqb_sym a b) (same_sym x y)

pub find_past : (j : ℕ) (b : Bool) (l : Log) (k : ℕ) → (j ≡ k → ⊥) → find (gone_at j b ∷ l) k ≡ find l k
find_past j b l k h = ap (λ c. choose c b (find l k)) (eqb_not j k h)

pub find_here : (k : ℕ) (b : Bool) (l : Log) → find (gone_at k b ∷ l) k ≡ b
find_here k b l = ap (λ c. choose c b (find l k)) (eqb_same k)

-- only what's said of the places below counts
pub env_same : (vs : List Name) (l n : Log) → ((k : ℕ) → k < length vs → find l k ≡ find n k) → env_of vs l ≡ env_of vs n
env_same [] l n h = refl
env_same (v ∷ vs) l n h = ap₂ (λ b g. as_var v b ∷ g) (h (length vs) (omega arith)) (env_same vs l n (λ k q. h k (omega arith)))

pub env_enter : (v : Name) (vs : List Name) (l : Log) → env_of (v ∷ vs) (gone_at (length vs) false ∷ l) ≡ enter (env_of vs l) v.name v.ty v.loans
env_enter v vs l = ap₂ (λ b g. as_var v b ∷ g) (find_here (length vs) false l) (env_same vs (gone_at (length vs) false ∷ l) l (λ k h. find_past (length vs) false l k (omega arith)))

find_sets : (vs : List Name) (x : Lexeme) (b : Bool) (l : Log) (k : ℕ) → length vs ≤ k → find (sets vs x b l) k ≡ find l k
find_sets [] x b l k h = refl
find_sets (v ∷ vs) x b l k h = chosen (λ n. find n k) (same v.name x) _ _ _ (find_past (length vs) b l k (omega arith)) (find_sets vs x b l k (omega arith))

pub env_sets : (vs : List Name) (x : Lexeme) (b : Bool) (l : Log) → env_of vs (sets vs x b l) ≡ set_gone b (env_of vs l) x
env_sets [] x b l = refl
env_sets (v ∷ vs) x b l = go (same v.name x) (env_sets vs x b l)
  where
    go : (c : Bool) → env_of vs (sets vs x b l) ≡ set_gone b (env_of vs l) x → env_of (v ∷ vs) (choose c (gone_at (length vs) b ∷ l) (sets vs x b l)) ≡ choose c (as_var v b ∷ env_of vs l) (as_var v (find l (length vs)) ∷ set_gone b (env_of vs l) x)
    go true h = ap₂ (λ b g. as_var v b ∷ g) (find_here (length vs) b l) (env_same vs (gone_at (length vs) b ∷ l) l (λ k h. find_past (length vs) b l k (omega arith)))
    go false h = ap₂ (λ b g. as_var v b ∷ g) (find_sets vs x b l (length vs) (omega arith)) h

abbrev pub loans_of : List Name → List Loan
loans_of [] = []
loans_of (v ∷ vs) = v.loans ++ loans_of vs

pub env_loans : (vs : List Name) (l : Log) → all_loans (env_of vs l) ≡ loans_of vs
env_loans [] l = refl
env_loans (v ∷ vs) l = ap (λ ls. v.loans ++ ls) (env_loans vs l)

abbrev pub place_of : List Name → Lexeme → Option ℕ
place_of [] x = none
place_of (v ∷ vs) x = choose (same v.name x) (some (length vs)) (place_of vs x)

-- names that are all different
abbrev pub not_in : Lexeme → List Name → Type 0
not_in x [] = Unit {0}
not_in x (v ∷ vs) = (same x v.name ≡ false) × not_in x vs

abbrev pub apart : List Name → Type 0
apart [] = Unit {0}
apart (v ∷ vs) = not_in v.name vs × apart vs

pub fresh_apart : (vs : List Name) (l : Log) (x : Lexeme) → fresh (env_of vs l) x ≡ true → not_in x vs
fresh_apart [] l x h = tt
fresh_apart (v ∷ vs) l x h = go (same v.name x) refl h (fresh_apart vs l x)
  where
    go : (c : Bool) → same v.name x ≡ c → not (present (choose c (some (as_var v (find l (length vs)))) (look (env_of vs l) x))) ≡ true → (fresh (env_of vs l) x ≡ true → not_in x vs) → (same x v.name ≡ false) × not_in x vs
    go true e h f = absurd (subst T (sym h) tt)
    go false e h f = (same_sym x v.name ∙ e, f h)

-- h has each of the names, as the log has it
abbrev pub has : Env → List Name → Log → Type 0
has h [] l = Unit {0}
has h (v ∷ vs) l = (look h v.name ≡ some (as_var v (find l (length vs)))) × has h vs l

pub has_more : (w : Var) (h : Env) (vs : List Name) (l : Log) → not_in w.name vs → has h vs l → has (w ∷ h) vs l
has_more w h [] l d q = tt
has_more w h (v ∷ vs) l d q = (ap (λ c. choose c (some w) (look h v.name)) d.0 ∙ q.0, has_more w h vs l d.1 q.1)

pub has_all : (vs : List Name) (l : Log) → apart vs → has (env_of vs l) vs l
has_all [] l d = tt
has_all (v ∷ vs) l d = (ap (λ c. choose c (some (as_var v (find l (length vs)))) (look (env_of vs l) v.name)) (same_self v.name), has_more (as_var v (find l (length vs))) (env_of vs l) vs l d.0 (has_all vs l d.1))

-- the older ones of them
has_old : (us vs : List Name) (h : Env) (l : Log) → has h (us ++ vs) l → has h vs l
has_old [] vs h l q = q
has_old (u ∷ us) vs h l q = has_old us vs h l q.1

pub outer_has : (vs : List Name) (l n : Log) (h : Env) → has h vs n → outer (env_of vs l) h ≡ env_of vs n
outer_has [] l n h q = refl
outer_has (v ∷ vs) l n h q = ap₂ (λ o g. from_option o (as_var v (find l (length vs))) (λ w. w) ∷ g) q.0 (outer_has vs l n h q.1)

pub outer_env : (us vs : List Name) (l n : Log) → apart (us ++ vs) → outer (env_of vs l) (env_of (us ++ vs) n) ≡ env_of vs n
outer_env us vs l n d = outer_has vs l n (env_of (us ++ vs) n) (has_old us vs (env_of (us ++ vs) n) n (has_all (us ++ vs) n d))

pub both_has : (vs : List Name) (l n r : Log) (h : Env) → has h vs n → ((k : ℕ) → k < length vs → find r k ≡ (find l k || find n k)) → both (env_of vs l) h ≡ env_of vs r
both_has [] l n r h q e = refl
both_has (v ∷ vs) l n r h q e = ap₂ (λ b g. as_var v b ∷ g) (ap (λ o. find l (length vs) || from_option o false (λ w. w.gone)) q.0 ∙ sym (e (length vs) (omega arith))) (both_has vs l n r h q.1 (λ k s. e k (omega arith)))

-- of two ways from one log: each place that one of them touched, as both have it
abbrev pub meet : Log → Log → Log → Log
meet [] i j = []
meet (e ∷ es) i j = gone_at e.place (find i e.place || find j e.place) ∷ meet es i j

abbrev pub touched : Log → ℕ → Bool
touched [] k = false
touched (e ∷ es) k = eqb e.place k || touched es k

find_meet : (es i j l : Log) (k : ℕ) → find (meet es i j ++ l) k ≡ choose (touched es k) (find i k || find j k) (find l k)
find_meet [] i j l k = refl
find_meet (e ∷ es) i j l k = go (eqb e.place k) (eqb→eq e.place k) (find_meet es i j l k)
  where
    go : (c : Bool) → (T c → e.place ≡ k) → find (meet es i j ++ l) k ≡ choose (touched es k) (find i k || find j k) (find l k) → choose c (find i e.place || find j e.place) (find (meet es i j ++ l) k) ≡ choose (c || touched es k) (find i k || find j k) (find l k)
    go true h q = ap (λ k. find i k || find j k) (h tt)
    go false h q = q

pub find-++ : (es l : Log) (k : ℕ) → touched es k ≡ false → find (es ++ l) k ≡ find l k
find-++ [] l k h = refl
find-++ (e ∷ es) l k h = go (eqb e.place k) h (λ q. find-++ es l k q)
  where
    go : (c : Bool) → (c || touched es k) ≡ false → (touched es k ≡ false → find (es ++ l) k ≡ find l k) → choose c e.gone (find (es ++ l) k) ≡ find l k
    go true h f = absurd (true_false h)
      where
        true_false : true ≡ false → ⊥
        true_false h = subst (λ b. T b) h tt
    go false h f = f h

pub touched-++ : (a b : Log) (k : ℕ) → touched (a ++ b) k ≡ (touched a k || touched b k)
touched-++ [] b k = refl
touched-++ (e ∷ a) b k = ap (λ c. eqb e.place k || c) (touched-++ a b k) ∙ sym (or_assoc (eqb e.place k) (touched a k) (touched b k))

pub find_both : (a b l : Log) (k : ℕ) → find (meet (a ++ b) (a ++ l) (b ++ l) ++ l) k ≡ (find (a ++ l) k || find (b ++ l) k)
find_both a b l k = find_meet (a ++ b) (a ++ l) (b ++ l) l k ∙ ap (λ c. choose c (find (a ++ l) k || find (b ++ l) k) (find l k)) (touched-++ a b k) ∙ go (touched a k) (touched b k) (find-++ a l k) (find-++ b l k)
  where
    go : (c d : Bool) → (c ≡ false → find (a ++ l) k ≡ find l k) → (d ≡ false → find (b ++ l) k ≡ find l k) → choose (c || d) (find (a ++ l) k || find (b ++ l) k) (find l k) ≡ (find (a ++ l) k || find (b ++ l) k)
    go true d p q = refl
    go false true p q = refl
    go false false p q = sym (ap₂ ◌||◌ (p refl) (q refl) ∙ or_self (find l k))
      where
        or_self : (c : Bool) → (c || c) ≡ c
        or_self true = refl
        or_self false = refl

-- a round of a loop: nothing is gone in n that wasn't in l
abbrev pub none_more : List Name → Log → Log → Bool
none_more [] l n = true
none_more (v ∷ vs) l n = (find l (length vs) || not (find n (length vs))) && none_more vs l n

pub more_has : (vs : List Name) (l n : Log) (h : Env) → has h vs n → no_more_gone (env_of vs l) h ≡ none_more vs l n
more_has [] l n h q = refl
more_has (v ∷ vs) l n h q = ap₂ (λ o c. (find l (length vs) || not (from_option o true (λ w. w.gone))) && c) q.0 (more_has vs l n h q.1)

pub more_env : (vs : List Name) (l n : Log) → apart vs → no_more_gone (env_of vs l) (env_of vs n) ≡ none_more vs l n
more_env vs l n d = more_has vs l n (env_of vs n) (has_all vs n d)

pub both_env : (vs : List Name) (a b l : Log) → apart vs → both (env_of vs (a ++ l)) (env_of vs (b ++ l)) ≡ env_of vs (meet (a ++ b) (a ++ l) (b ++ l) ++ l)
both_env vs a b l d = both_has vs (a ++ l) (b ++ l) (meet (a ++ b) (a ++ l) (b ++ l) ++ l) (env_of vs (b ++ l)) (has_all vs (b ++ l) d) (λ k s. find_both a b l k)
