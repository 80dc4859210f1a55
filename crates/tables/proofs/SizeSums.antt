-- Sums of sizes as a loop makes them: from left to right, and given up once they are too large.
use Rattle.std.proofs.Common.{◌≡◌, ℕ, ◌+◌, ◌-◌, ◌<◌, ◌≤◌, Bool, true, false, ltb, leb, max, sym, refl, ap, ◌∙◌, arith, leb→le, ltb→lt}
use mathlib.Core.Option.{Option, some, none}
use lib.Dec.{nleb→lt, nltb→le}
use Rattle.language.specs.Base.{choose, if_some, only_if}
use Rattle.language.specs.Syntax.{Ty, Ctor}
use Rattle.tables.specs.Index.{each_from}
use Rattle.tables.specs.Sizes.{Sizes, size_by, fields_by, ctors_by, cap}
use Rattle.tables.proofs.Index.{each_step}
use Rattle.tables.proofs.SizeFuel.{none_some, if_inv, is_T, is_not_T, larger_le, cap_inv, cap_le}

abbrev pub max_of : ℕ → ℕ → ℕ
max_of a b = choose (ltb a b) b a

pub max_is : (a b : ℕ) → max a b ≡ max_of a b
max_is a b = at (ltb a b) refl
  where
    at : (c : Bool) → ltb a b ≡ c → max a b ≡ choose c b a
    at true e = let h = ltb→lt a b (is_T e) in omega arith
    at false e = let h = nltb→le a b (is_not_T e) in omega arith

pub cap_big : (n : ℕ) → 4096 < n → cap n ≡ none
cap_big n h = at (leb n 4096) refl
  where
    at : (b : Bool) → leb n 4096 ≡ b → only_if b (some n) ≡ none
    at true e = let k = leb→le n 4096 (is_T e) in absurd (omega arith)
    at false e = refl

-- what fields from j on add to a sum
abbrev pub sum_from : Sizes → (ℕ → Ty) → ℕ → ℕ → ℕ → Option ℕ
sum_from s f j n acc = if_some (fields_by s (each_from f j (n - j))) (λ b. cap (acc + b))

sum_step : (s : Sizes) (f : ℕ → Ty) (j n acc : ℕ) → j < n → sum_from s f j n acc ≡ if_some (size_by s (f j)) (λ a. sum_from s f (j + 1) n (acc + a))
sum_step s f j n acc h = ap (λ ts. if_some (fields_by s ts) (λ b. cap (acc + b))) (each_step f j n h) ∙ at (size_by s (f j))
  where
    on : (a : ℕ) (u : Option ℕ) → if_some (if_some u (λ b. some (a + b))) (λ b. cap (acc + b)) ≡ if_some u (λ b. cap ((acc + a) + b))
    on a none = refl
    on a (some b) = let e : acc + (a + b) ≡ (acc + a) + b = omega arith in ap cap e

    at : (o : Option ℕ) → if_some (if_some o (λ a. if_some (fields_by s (each_from f (j + 1) (n - (j + 1)))) (λ b. some (a + b)))) (λ b. cap (acc + b)) ≡ if_some o (λ a. sum_from s f (j + 1) n (acc + a))
    at none = refl
    at (some a) = on a (fields_by s (each_from f (j + 1) (n - (j + 1))))

pub sum_more : (s : Sizes) (f : ℕ → Ty) (j n acc a : ℕ) (z : Option ℕ) → j < n → size_by s (f j) ≡ some a → sum_from s f j n acc ≡ z → sum_from s f (j + 1) n (acc + a) ≡ z
sum_more s f j n acc a z h e q = sym (sum_step s f j n acc h ∙ ap (λ o. if_some o (λ a. sum_from s f (j + 1) n (acc + a))) e) ∙ q

pub sum_none : (s : Sizes) (f : ℕ → Ty) (j n acc : ℕ) (z : Option ℕ) → j < n → size_by s (f j) ≡ none → sum_from s f j n acc ≡ z → z ≡ none
sum_none s f j n acc z h e q = sym q ∙ sum_step s f j n acc h ∙ ap (λ o. if_some o (λ a. sum_from s f (j + 1) n (acc + a))) e

pub sum_big : (s : Sizes) (f : ℕ → Ty) (j n acc : ℕ) (z : Option ℕ) → 4096 < acc → sum_from s f j n acc ≡ z → z ≡ none
sum_big s f j n acc z h q = sym q ∙ at (fields_by s (each_from f j (n - j)))
  where
    at : (o : Option ℕ) → if_some o (λ b. cap (acc + b)) ≡ none
    at none = refl
    at (some b) = cap_big (acc + b) (omega arith)

-- the largest of what constructors take
max_low : (a b n : ℕ) → a ≤ n → b ≤ n → max_of a b ≤ n
max_low a b n p q = at (ltb a b)
  where
    at : (c : Bool) → choose c b a ≤ n
    at true = q
    at false = p

max_assoc : (a b c : ℕ) → max_of a (max_of b c) ≡ max_of (max_of a b) c
max_assoc a b c =
    let p = larger_le b c in
    let q = larger_le a (max_of b c) in
    let r = larger_le a b in
    let s = larger_le (max_of a b) c in
    let p0 = p.0 in let p1 = p.1 in let q0 = q.0 in let q1 = q.1 in let r0 = r.0 in let r1 = r.1 in let s0 = s.0 in let s1 = s.1 in
    let low : max_of a (max_of b c) ≤ max_of (max_of a b) c = max_low a (max_of b c) _ (omega arith) (max_low b c _ (omega arith) (omega arith)) in
    let high : max_of (max_of a b) c ≤ max_of a (max_of b c) = max_low (max_of a b) c _ (max_low a b _ (omega arith) (omega arith)) (omega arith) in
    omega arith

abbrev pub top_from : Sizes → (ℕ → Ctor) → ℕ → ℕ → ℕ → Option ℕ
top_from s f c n acc = if_some (ctors_by s (each_from f c (n - c))) (λ b. cap (1 + max_of acc b))

top_step : (s : Sizes) (f : ℕ → Ctor) (c n acc : ℕ) → c < n → top_from s f c n acc ≡ if_some (fields_by s (f c).fields) (λ a. top_from s f (c + 1) n (max_of acc a))
top_step s f c n acc h = ap (λ ks. if_some (ctors_by s ks) (λ b. cap (1 + max_of acc b))) (each_step f c n h) ∙ at (fields_by s (f c).fields)
  where
    on : (a : ℕ) (u : Option ℕ) → if_some (if_some u (λ b. some (max_of a b))) (λ b. cap (1 + max_of acc b)) ≡ if_some u (λ b. cap (1 + max_of (max_of acc a) b))
    on a none = refl
    on a (some b) = ap (λ m. cap (1 + m)) (max_assoc acc a b)

    at : (o : Option ℕ) → if_some (if_some o (λ a. if_some (ctors_by s (each_from f (c + 1) (n - (c + 1)))) (λ b. some (max_of a b)))) (λ b. cap (1 + max_of acc b)) ≡ if_some o (λ a. top_from s f (c + 1) n (max_of acc a))
    at none = refl
    at (some a) = on a (ctors_by s (each_from f (c + 1) (n - (c + 1))))

top_big : (s : Sizes) (f : ℕ → Ctor) (c n acc : ℕ) → 4096 ≤ acc → top_from s f c n acc ≡ none
top_big s f c n acc h = at (ctors_by s (each_from f c (n - c)))
  where
    at : (o : Option ℕ) → if_some o (λ b. cap (1 + max_of acc b)) ≡ none
    at none = refl
    at (some b) = let p = larger_le acc b in let p0 = p.0 in cap_big (1 + max_of acc b) (omega arith)

pub top_more : (s : Sizes) (f : ℕ → Ctor) (c n acc a : ℕ) (z : Option ℕ) → c < n → if_some (fields_by s (f c).fields) cap ≡ some a → top_from s f c n acc ≡ z → top_from s f (c + 1) n (max_of acc a) ≡ z
top_more s f c n acc a z h e q =
    let p = if_inv (fields_by s (f c).fields) cap a e in
    let r = cap_inv p.0 a p.2 in
    sym (top_step s f c n acc h ∙ ap (λ o. if_some o (λ a. top_from s f (c + 1) n (max_of acc a))) (p.1 ∙ ap some r.0)) ∙ q

pub top_none : (s : Sizes) (f : ℕ → Ctor) (c n acc : ℕ) (z : Option ℕ) → c < n → if_some (fields_by s (f c).fields) cap ≡ none → top_from s f c n acc ≡ z → z ≡ none
top_none s f c n acc z h e q = sym q ∙ top_step s f c n acc h ∙ at (fields_by s (f c).fields) e
  where
    at : (o : Option ℕ) → if_some o cap ≡ none → if_some o (λ a. top_from s f (c + 1) n (max_of acc a)) ≡ none
    at none e = refl
    at (some a) e = by (leb a 4096) refl
      where
        by : (b : Bool) → leb a 4096 ≡ b → top_from s f (c + 1) n (max_of acc a) ≡ none
        by true k = none_some (sym e ∙ cap_le a (leb→le a 4096 (is_T k)))
        by false k = let l = nleb→lt a 4096 (is_not_T k) in let p = larger_le acc a in let p1 = p.1 in top_big s f (c + 1) n (max_of acc a) (omega arith)
