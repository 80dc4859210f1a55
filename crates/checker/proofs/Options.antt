-- Equations of Options and tests: what is done with a value, if there is one.
use Rattle.std.proofs.Common.{◌≡◌, Bool, true, false, ◌&&◌, sym, refl, ap}
use mathlib.Core.Option.{Option, some, none}
use Rattle.language.specs.Base.{from_option, if_some, only_if}

pub if_if : {A B C : Type 0} (o : Option A) (f : A → Option B) (g : B → Option C) → if_some (if_some o f) g ≡ if_some o (λ x. if_some (f x) g)
if_if none f g = refl
if_if (some x) f g = refl

pub only_then : {A B : Type 0} (b : Bool) (o : Option A) (g : A → Option B) → if_some (only_if b o) g ≡ only_if b (if_some o g)
only_then true o g = refl
only_then false o g = refl

pub if_same : {A B : Type 0} (o : Option A) (f g : A → Option B) → ((x : A) → f x ≡ g x) → if_some o f ≡ if_some o g
if_same none f g h = refl
if_same (some x) f g h = h x

pub if_none : {A B : Type 0} (o : Option A) → if_some {C = B} o (λ x. none) ≡ none
if_none none = refl
if_none (some x) = refl

pub only_same : {A : Type 0} (b : Bool) (o u : Option A) → o ≡ u → only_if b o ≡ only_if b u
only_same b o u h = ap (only_if b) h

pub only_when : {A : Type 0} {b c : Bool} (o : Option A) → b ≡ c → only_if b o ≡ only_if c o
only_when o h = ap (λ b. only_if b o) h

pub only_in : {A B : Type 0} (b : Bool) (o : Option A) (f : A → Option B) → only_if b (if_some o f) ≡ if_some o (λ x. only_if b (f x))
only_in true o f = refl
only_in false o f = sym (if_none o)

-- of each value, if there is one
abbrev pub Each : {A : Type 0} → Option A → (A → Type 0) → Type 0
Each none P = Unit {0}
Each (some x) P = P x

pub each_if : {A B : Type 0} (P : A → Type 0) (Q : B → Type 0) (o : Option A) (f : A → Option B) → Each o P → ((x : A) → P x → Each (f x) Q) → Each (if_some o f) Q
each_if P Q none f h k = tt
each_if P Q (some x) f h k = k x h

pub each_any : {A : Type 0} (o : Option A) → Each o (λ x. Unit {0})
each_any none = tt
each_any (some x) = tt

pub each_only : {A : Type 0} (P : A → Type 0) (b : Bool) (o : Option A) → Each o P → Each (only_if b o) P
each_only P true o h = h
each_only P false o h = tt

pub if_each : {A B : Type 0} (P : A → Type 0) (o : Option A) (f g : A → Option B) → Each o P → ((x : A) → P x → f x ≡ g x) → if_some o f ≡ if_some o g
if_each P none f g h k = refl
if_each P (some x) f g h k = k x h

pub if_only : {A B : Type 0} (o : Option A) (f : A → Bool) (z : Option B) → if_some o (λ x. only_if (f x) z) ≡ only_if (from_option o false f) z
if_only none f z = refl
if_only (some x) f z = refl

pub only_and : {B : Type 0} (a b : Bool) (z : Option B) → only_if a (only_if b z) ≡ only_if (a && b) z
only_and true b z = refl
only_and false b z = refl

pub only_swap : {B : Type 0} (a b : Bool) (z : Option B) → only_if a (only_if b z) ≡ only_if (b && a) z
only_swap true true z = refl
only_swap true false z = refl
only_swap false true z = refl
only_swap false false z = refl

pub if_on : {A B : Type 0} {o u : Option A} (f : A → Option B) → o ≡ u → if_some o f ≡ if_some u f
if_on f h = ap (λ o. if_some o f) h
