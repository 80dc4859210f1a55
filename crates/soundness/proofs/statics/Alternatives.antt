-- Static: the alternative of a match for a value's constructor is there, and was checked with as many names as there are fields.
use mathlib.Core.Bool.{Bool, true, false, ◌&&◌, ◌||◌, not}
use mathlib.Core.List.{List, [], ◌∷◌}
use mathlib.Core.Logic.{inl, inr}
use mathlib.Core.Option.{Option, some, none}
use mathlib.Core.Path.{◌≡◌, refl, sym, ◌∙◌, ap, subst}
use lib.Dec.{leb}
use lib.ListN.{length}
use Rattle.language.specs.Base.{choose, from_option, Lexeme, same, is_in, each_of, no_twice}
use Rattle.language.specs.Syntax.{Ty, Access, Alts, Arms, Data, Prog, Ctor, no_alts, alt, no_arms, arm}
use Rattle.language.specs.Checks.{Loan, home_of, Home, Env, bind_all, data_named, ctor_named, is_body, covers, alt_names, names_of_datas}
use Rattle.language.specs.Checks.{names_of_ctors, arm_names, are_arms}
use Rattle.language.specs.Meaning.{Found, FoundArm, find_alt, find_arm}
use Rattle.soundness.specs.Borrows.{In}
use Rattle.soundness.proofs.Basics.{no_some, some_is, true_false, or_right, and_left, and_right, or_case, same_is, same_self, each_in}

-- a constructor's home
pub home_ctor : (ds : List Data) (k : Lexeme) (hm : Home) → home_of ds k ≡ some hm
    → In hm.data1 ds × (ctor_named hm.data1.ctors k ≡ some hm.ctor1)
home_ctor [] k hm e = absurd (no_some e)
home_ctor (d ∷ ds) k hm e = go (ctor_named d.ctors k) refl e (home_ctor ds k hm)
  where
    go : (o : Option Ctor) → ctor_named d.ctors k ≡ o → from_option o (home_of ds k) (λ x. some (record { data1 = d; ctor1 = x })) ≡ some hm
        → (home_of ds k ≡ some hm → In hm.data1 ds × (ctor_named hm.data1.ctors k ≡ some hm.ctor1))
        → In hm.data1 (d ∷ ds) × (ctor_named hm.data1.ctors k ≡ some hm.ctor1)
    go none o_is e1 r = let y = r e1 in (inr y.0, y.1)
    go (some x) o_is e1 r =
        let h_is : record { data1 = d; ctor1 = x } ≡ hm = some_is e1 in
        (inl (sym (ap (λ z. z.data1) h_is)), subst (λ z. ctor_named z.data1.ctors k ≡ some z.ctor1) h_is o_is)

in_some_of : (x : Lexeme) (ws : List Lexeme) (y : Lexeme) → In y ws → same x y ≡ true → is_in x ws ≡ true
in_some_of x [] y h e = absurd h
in_some_of x (w ∷ ws) y (inl h) e = ap (λ z. z || is_in x ws) (ap (same x) (sym h) ∙ e)
in_some_of x (w ∷ ws) y (inr h) e = or_right (same x w) (is_in x ws) (in_some_of x ws y h e)

data_name_in : (ds : List Data) (d : Data) → In d ds → In d.name (names_of_datas ds)
data_name_in [] d h = absurd h
data_name_in (x ∷ ds) d (inl h) = inl (ap (λ z. z.name) h)
data_name_in (x ∷ ds) d (inr h) = inr (data_name_in ds d h)

-- names of data are unique
pub data_unique : (ds : List Data) (d : Data) → no_twice (names_of_datas ds) ≡ true → In d ds → data_named ds d.name ≡ some d
data_unique [] d u h = absurd h
data_unique (x ∷ ds) d u (inl h) =
    subst (λ z. data_named (x ∷ ds) z.name ≡ some z) (sym h) (ap (λ z. choose z (some x) (data_named ds x.name)) (same_self x.name))
data_unique (x ∷ ds) d u (inr h) =
    go (same x.name d.name) refl (data_unique ds d (and_right (not (is_in x.name (names_of_datas ds))) (no_twice (names_of_datas ds)) u) h)
  where
    go : (z : Bool) → same x.name d.name ≡ z → data_named ds d.name ≡ some d → choose z (some x) (data_named ds d.name) ≡ some d
    go true e r =
        absurd (true_false (sym (and_left (not (is_in x.name (names_of_datas ds))) (no_twice (names_of_datas ds)) u) ∙ ap not
        (in_some_of x.name (names_of_datas ds) d.name (data_name_in ds d h) e)))
    go false e r = r

-- the data that's looked at by its name is the home of a value's constructor
pub home_is : (ds : List Data) (k w : Lexeme) (hm : Home) (d : Data) → no_twice (names_of_datas ds) ≡ true → home_of ds k ≡ some hm
    → hm.data1.name ≡ w → data_named ds w ≡ some d → ctor_named d.ctors k ≡ some hm.ctor1
home_is ds k w hm d u e n-is f =
    let y = home_ctor ds k hm e in
    let d_is : hm.data1 ≡ d = some_is (sym (data_unique ds hm.data1 u y.0) ∙ ap (data_named ds) n-is ∙ f) in
    subst (λ z. ctor_named z.ctors k ≡ some hm.ctor1) d_is y.1

ctor_in : (ks : List Ctor) (k : Lexeme) (x : Ctor) → ctor_named ks k ≡ some x → In k (names_of_ctors ks)
ctor_in [] k x e = absurd (no_some e)
ctor_in (y ∷ ks) k x e = go (same y.name k) (same_is y.name k) e (ctor_in ks k x)
  where
    go : (z : Bool) → (z ≡ true → y.name ≡ k) → choose z (some y) (ctor_named ks k) ≡ some x → (ctor_named ks k ≡ some x → In k (names_of_ctors ks))
        → In k (names_of_ctors (y ∷ ks))
    go true h e1 r = inl (sym (h refl))
    go false h e1 r = inr (r e1)

-- what covers the data has an alternative for each constructor
pub covered : (d : Data) (cs : List Lexeme) (k : Lexeme) (x : Ctor) → covers d cs ≡ true → ctor_named d.ctors k ≡ some x → is_in k cs ≡ true
covered d cs k x e h =
    each_in (λ z. is_in z cs) (names_of_ctors d.ctors) k
    (and_left (each_of (λ z. is_in z cs) (names_of_ctors d.ctors)) (leb (length cs) (length d.ctors))
    (and_right (no_twice cs) (each_of (λ z. is_in z cs) (names_of_ctors d.ctors) && leb (length cs) (length d.ctors)) e))
    (ctor_in d.ctors k x h)

same_flip : (x y : Lexeme) → same x y ≡ true → same y x ≡ true
same_flip x y e = subst (λ z. same z x ≡ true) (same_is x y e) (same_self x)

-- the alternative for k is there
pub found_alt : (as₁ : Alts) (k : Lexeme) → is_in k (alt_names as₁) ≡ true → (a : Found) × (find_alt as₁ k ≡ some a)
found_alt no_alts k i = absurd (true_false (sym i))
found_alt (alt a xs ss as₁) k i = go (same a k) refl (found_alt as₁ k)
  where
    go : (z : Bool) → same a k ≡ z → (is_in k (alt_names as₁) ≡ true → (f : Found) × (find_alt as₁ k ≡ some f))
        → (f : Found) × (choose z (some (record { names = xs; does = ss })) (find_alt as₁ k) ≡ some f)
    go true s r = (record { names = xs; does = ss }, refl)
    go false s r = elim (or_case (same k a) (is_in k (alt_names as₁)) i) [ inl y ↦ absurd (true_false (sym (same_flip k a y) ∙ s)) | inr y ↦ r y ]

-- and of what's given, with what the rules said of it
pub record ChosenArm (q : Prog) (qs : List Lexeme) (t : Ty) (g : Env) (w : Access) (ls : List Loan) (d : Data) (k : Lexeme)
    (as₁ : Arms) : Type 0 where
  pub found : FoundArm
  pub is : find_arm as₁ k ≡ some found
  pub ctor1 : Ctor
  pub named : ctor_named d.ctors k ≡ some ctor1
  pub bound : Env
  pub binds : bind_all w ls g found.names ctor1.fields ≡ some bound
  pub does : is_body q qs t bound found.does ≡ true

pub from_is : {A : Type 0} (o : Option A) (f : A → Bool) → from_option o false f ≡ true → (x : A) × (o ≡ some x) × (f x ≡ true)
from_is none f e = absurd (true_false (sym e))
from_is (some x) f e = (x, refl, e)

pub chosen_arm : (q : Prog) (qs : List Lexeme) (t : Ty) (g : Env) (w : Access) (ls : List Loan) (d : Data) (k : Lexeme) (as₁ : Arms)
    → are_arms q qs t g w ls d as₁ ≡ true → is_in k (arm_names as₁) ≡ true → ChosenArm q qs t g w ls d k as₁
chosen_arm q qs t g w ls d k no_arms e i = absurd (true_false (sym i))
chosen_arm q qs t g w ls d k (arm a xs bd as₁) e i =
    go (same a k) refl (λ y. chosen_arm q qs t g w ls d k as₁ (and_right here1 (are_arms q qs t g w ls d as₁) e) y)
  where
    inner : Ctor → Bool
    inner x = from_option (bind_all w ls g xs x.fields) false (λ h. is_body q qs t h bd)

    here1 : Bool
    here1 = from_option (ctor_named d.ctors a) false inner

    go : (z : Bool) → same a k ≡ z → (is_in k (arm_names as₁) ≡ true → ChosenArm q qs t g w ls d k as₁)
        → ChosenArm q qs t g w ls d k (arm a xs bd as₁)
    go true s r =
        let x = from_is (ctor_named d.ctors a) inner (and_left here1 (are_arms q qs t g w ls d as₁) e) in
        let h = from_is (bind_all w ls g xs x.0.fields) (λ y. is_body q qs t y bd) x.2 in
        record {
          found = record { names = xs; does = bd };
          is = ap (λ y. choose y (some (record { names = xs; does = bd })) (find_arm as₁ k)) s;
          ctor1 = x.0;
          named = ap (ctor_named d.ctors) (sym (same_is a k s)) ∙ x.1;
          bound = h.0;
          binds = h.1;
          does = h.2;
        }
    go false s r = elim (or_case (same k a) (is_in k (arm_names as₁)) i) [
      | inl y ↦ absurd (true_false (sym (same_flip k a y) ∙ s))
      | inr y ↦ (let c1 = r y in record {
        found = c1.found;
        is = ap (λ o. choose o (some (record { names = xs; does = bd })) (find_arm as₁ k)) s
            ∙ c1.is;
        ctor1 = c1.ctor1;
        named = c1.named;
        bound = c1.bound;
        binds = c1.binds;
        does = c1.does;
      })
    ]
