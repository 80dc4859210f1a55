-- The join of several ways, written over their segments of the log: as many entries as they have.
use Rattle.std.proofs.Common.{◌≡◌, ℕ, Bool, true, false, ◌||◌, T, eqb, List, [], ◌∷◌, ◌++◌, length, sym, refl, ap, ◌∙◌, subst, ap₂, arith, eqb→eq}
use Rattle.language.specs.Base.{choose}
use Rattle.language.specs.Checks.{Env, both}
use Rattle.checker.specs.Exec.{join}
use Rattle.checker.proofs.Keeps.{Name}
use Rattle.scope.specs.Log.{Log, find, gone_in, rewrite, segments, joined}
use Rattle.checker.proofs.ScopeLog.{env_of, env_same, touched, touched-++, find-++, apart, has_all, both_has}

-- no more entries than the arms have
pub length_rewrite : (es : Log) (arms : List Log) (l : Log) → length (rewrite es arms l) ≡ length es
length_rewrite [] arms l = refl
length_rewrite (e ∷ es) arms l = let h = length_rewrite es arms l in omega arith

find_rewrite : (es : Log) (arms : List Log) (l : Log) (k : ℕ) → find (rewrite es arms l ++ l) k ≡ choose (touched es k) (gone_in arms l k) (find l k)
find_rewrite [] arms l k = refl
find_rewrite (e ∷ es) arms l k = go (eqb e.place k) (eqb→eq e.place k) (find_rewrite es arms l k)
  where
    go : (c : Bool) → (T c → e.place ≡ k) → find (rewrite es arms l ++ l) k ≡ choose (touched es k) (gone_in arms l k) (find l k) → choose c (gone_in arms l e.place) (find (rewrite es arms l ++ l) k) ≡ choose (c || touched es k) (gone_in arms l k) (find l k)
    go true h q = ap (λ k. gone_in arms l k) (h tt)
    go false h q = q

or_no : (c : Bool) → c ≡ (c || false)
or_no true = refl
or_no false = refl

or_self : (c d : Bool) → d ≡ c → (c || d) ≡ c
or_self true d h = refl
or_self false d h = h

or_left : (c d : Bool) → (c || d) ≡ false → c ≡ false
or_left true d h = h
or_left false d h = refl

or_right : (c d : Bool) → (c || d) ≡ false → d ≡ false
or_right true d h = absurd (let z : T false = subst_T h in z)
  where
    subst_T : true ≡ false → T false
    subst_T h = subst T h tt
or_right false d h = h

-- a place that no arm touched is as it was
untouched : (a : Log) (arms : List Log) (l : Log) (k : ℕ) → touched (segments (a ∷ arms)) k ≡ false → gone_in (a ∷ arms) l k ≡ find l k
untouched a [] l k h = sym (or_no (find (a ++ l) k)) ∙ find-++ a l k h
untouched a (b ∷ arms) l k h = ap₂ ◌||◌ (find-++ a l k (or_right (touched (segments (b ∷ arms)) k) (touched a k) (sym (touched-++ (segments (b ∷ arms)) a k) ∙ h))) (untouched b arms l k (or_left (touched (segments (b ∷ arms)) k) (touched a k) (sym (touched-++ (segments (b ∷ arms)) a k) ∙ h))) ∙ or_self (find l k) (find l k) refl

pub find_joined : (a : Log) (arms : List Log) (l : Log) (k : ℕ) → find (joined (a ∷ arms) l ++ l) k ≡ gone_in (a ∷ arms) l k
find_joined a arms l k = find_rewrite (segments (a ∷ arms)) (a ∷ arms) l k ∙ go (touched (segments (a ∷ arms)) k) (untouched a arms l k)
  where
    go : (c : Bool) → (c ≡ false → gone_in (a ∷ arms) l k ≡ find l k) → choose c (gone_in (a ∷ arms) l k) (find l k) ≡ gone_in (a ∷ arms) l k
    go true h = refl
    go false h = sym (h refl)

-- the environments behind the arms
abbrev pub ways_of : List Name → List Log → Log → List Env
ways_of vs [] l = []
ways_of vs (a ∷ arms) l = env_of vs (a ++ l) ∷ ways_of vs arms l

pub join_env : (vs : List Name) (arms : List Log) (l : Log) → apart vs → join (env_of vs l) (ways_of vs arms l) ≡ env_of vs (joined arms l ++ l)
join_env vs [] l d = refl
join_env vs (a ∷ []) l d = env_same vs (a ++ l) (joined (a ∷ []) l ++ l) (λ k h. or_no (find (a ++ l) k) ∙ sym (find_joined a [] l k))
join_env vs (a ∷ b ∷ arms) l d = ap (both (env_of vs (a ++ l))) (join_env vs (b ∷ arms) l d)
    ∙ both_has vs (a ++ l) (joined (b ∷ arms) l ++ l) (joined (a ∷ b ∷ arms) l ++ l) (env_of vs (joined (b ∷ arms) l ++ l)) (has_all vs (joined (b ∷ arms) l ++ l) d) (λ k h. find_joined a (b ∷ arms) l k ∙ ap (λ c. find (a ++ l) k || c) (sym (find_joined b arms l k)))
