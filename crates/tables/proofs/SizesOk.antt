-- A table of sizes that a round leaves as it is has the sizes of the definition.
use Rattle.std.proofs.Common.{◌≡◌, ℕ, zero, suc, ◌+◌, ◌≤◌, Bool, true, false, ltb, leb, List, [], ◌∷◌, length, sym, refl, ap, ◌∙◌, arith, leb→le}
use mathlib.Core.Option.{Option, some, none}
use lib.Dec.{nleb→lt}
use Rattle.language.specs.Base.{choose, from_option, if_some, only_if, present, Lexeme}
use Rattle.language.specs.Syntax.{Ty, int, dat, box, ref, mut, Ctor, Data}
use Rattle.language.specs.Checks.{data_named, size, size_ctors, size_fields, deep, size_of}
use Rattle.tables.specs.Sizes.{Sizes, round, size_by, fields_by, ctors_by, cap, data_by, Fixed, SizesRight}
use Rattle.tables.specs.Rest.{ok_size}
use Rattle.tables.proofs.SizeFuel.{Below, some_same, none_some, if_inv, is_T, is_not_T, larger_le, cap_inv, cap_le, fields_in, avail, many_is, at_most, more, gap}

-- the data that a size is of
known : (ds : List Data) (s : Sizes) → Below s (round ds s) → (w : Lexeme) (m : ℕ) → s w ≡ some m → (d : Data) × (b : ℕ) × (data_named ds w ≡ some d) × (ctors_by s d.ctors ≡ some b) × (1 + b ≡ m) × (m ≤ 4096)
known ds s fx w m e =
    let p = if_inv (data_named ds w) (λ d. data_by s d) m (fx w m e) in
    let q = if_inv (ctors_by s p.0.ctors) (λ b. cap (1 + b)) m p.2 in
    let r = cap_inv (1 + q.0) m q.2 in
    (p.0, q.0, p.1, q.1, r.0, r.1)

-- with this fuel the definition comes to an end, for types of at most that size
abbrev pub Ends : List Data → Sizes → ℕ → Type 0
Ends ds s j = (n : ℕ) (t : Ty) (a : ℕ) → size_by s t ≡ some a → a ≤ j → avail s j ds + 1 ≤ n → size n ds t ≡ some a

fields_end : (ds : List Data) (s : Sizes) (j : ℕ) → Ends ds s j → (n : ℕ) (ts : List Ty) (b : ℕ) → fields_by s ts ≡ some b → b ≤ j → avail s j ds + (1 + length ts) ≤ n → size_fields n ds ts ≡ some b
fields_end ds s j ih zero ts b e h k = absurd (omega arith)
fields_end ds s j ih (suc n) [] b e h k = e
fields_end ds s j ih (suc n) (t ∷ ts) b e h k =
    let p = if_inv (size_by s t) (λ a. if_some (fields_by s ts) (λ b. some (a + b))) b e in
    let q = if_inv (fields_by s ts) (λ b. some (p.0 + b)) b p.2 in
    let z : p.0 + q.0 ≡ b = some_same q.2 in
    rw (ih n t p.0 p.1 (omega arith) (omega arith), fields_end ds s j ih n ts q.0 q.1 (omega arith) (omega arith)) q.2

ctors_end : (ds : List Data) (s : Sizes) (j : ℕ) → Ends ds s j → (n : ℕ) (ks : List Ctor) (b : ℕ) → ctors_by s ks ≡ some b → b ≤ j → avail s j ds + (1 + length ks + fields_in ks) ≤ n → size_ctors n ds ks ≡ some b
ctors_end ds s j ih zero ks b e h k = absurd (omega arith)
ctors_end ds s j ih (suc n) [] b e h k = e
ctors_end ds s j ih (suc n) (c ∷ ks) b e h k =
    let p = if_inv (fields_by s c.fields) (λ a. if_some (ctors_by s ks) (λ b. some (choose (ltb a b) b a))) b e in
    let q = if_inv (ctors_by s ks) (λ b. some (choose (ltb p.0 b) b p.0)) b p.2 in
    let z : choose (ltb p.0 q.0) q.0 p.0 ≡ b = some_same q.2 in
    let y = larger_le p.0 q.0 in
    rw (fields_end ds s j ih n c.fields p.0 p.1 (omega arith) (omega arith), ctors_end ds s j ih n ks q.0 q.1 (omega arith) (omega arith)) q.2

pub ends : (ds : List Data) (s : Sizes) → Below s (round ds s) → (j : ℕ) → Ends ds s j
ends ds s fx j zero t a e h k = absurd (omega arith)
ends ds s fx j (suc n) int a e h k = e
ends ds s fx j (suc n) (box t) a e h k = e
ends ds s fx j (suc n) (ref t) a e h k = e
ends ds s fx j (suc n) (mut t) a e h k = e
ends ds s fx zero (suc n) (dat w) a e h k = let p = known ds s fx w a e in let z = p.4 in absurd (omega arith)
ends ds s fx (suc j) (suc n) (dat w) a e h k = at (leb a j) refl (ends ds s fx j)
  where
    at : (b : Bool) → leb a j ≡ b → Ends ds s j → size (suc n) ds (dat w) ≡ some a
    at true q ih = let z = leb→le a j (is_T q) in let y = more s j ds in ih (suc n) (dat w) a e (omega arith) (omega arith)
    at false q ih =
        let z = nleb→lt a j (is_not_T q) in
        let x : a ≡ suc j = omega arith in
        let p = known ds s fx w a e in
        let v : 1 + p.1 ≡ a = p.4 in
        let y = gap s j ds w p.0 p.2 (e ∙ ap some x) in
        rw (p.2, ctors_end ds s j ih n p.0.ctors p.1 p.3 (omega arith) (omega arith)) (ap some p.4)

below : (ds : List Data) (s : Sizes) → Fixed ds s → Below s (round ds s)
below ds s fx w m e = sym (fx w) ∙ e

-- what the definition finds, and is not too large, is in the table
mutual
  back : (n : ℕ) (ds : List Data) (s : Sizes) → Fixed ds s → (t : Ty) (a : ℕ) → size n ds t ≡ some a → a ≤ 4096 → size_by s t ≡ some a
  back zero ds s fx t a e h = none_some e
  back (suc n) ds s fx int a e h = e
  back (suc n) ds s fx (box t) a e h = e
  back (suc n) ds s fx (ref t) a e h = e
  back (suc n) ds s fx (mut t) a e h = e
  back (suc n) ds s fx (dat w) a e h =
      let p = if_inv (data_named ds w) (λ k. if_some (size_ctors n ds k.ctors) (λ m. some (1 + m))) a e in
      let q = if_inv (size_ctors n ds p.0.ctors) (λ m. some (1 + m)) a p.2 in
      let z : 1 + q.0 ≡ a = some_same q.2 in
      fx w ∙ rw (p.1, back_ctors n ds s fx p.0.ctors q.0 q.1 (omega arith)) (cap_le (1 + q.0) (omega arith) ∙ q.2)

  back_ctors : (n : ℕ) (ds : List Data) (s : Sizes) → Fixed ds s → (ks : List Ctor) (b : ℕ) → size_ctors n ds ks ≡ some b → b ≤ 4096 → ctors_by s ks ≡ some b
  back_ctors zero ds s fx ks b e h = none_some e
  back_ctors (suc n) ds s fx [] b e h = e
  back_ctors (suc n) ds s fx (c ∷ ks) b e h =
      let p = if_inv (size_fields n ds c.fields) (λ a. if_some (size_ctors n ds ks) (λ b. some (choose (ltb a b) b a))) b e in
      let q = if_inv (size_ctors n ds ks) (λ b. some (choose (ltb p.0 b) b p.0)) b p.2 in
      let z : choose (ltb p.0 q.0) q.0 p.0 ≡ b = some_same q.2 in
      let y = larger_le p.0 q.0 in
      rw (back_fields n ds s fx c.fields p.0 p.1 (omega arith), back_ctors n ds s fx ks q.0 q.1 (omega arith)) q.2

  back_fields : (n : ℕ) (ds : List Data) (s : Sizes) → Fixed ds s → (ts : List Ty) (b : ℕ) → size_fields n ds ts ≡ some b → b ≤ 4096 → fields_by s ts ≡ some b
  back_fields zero ds s fx ts b e h = none_some e
  back_fields (suc n) ds s fx [] b e h = e
  back_fields (suc n) ds s fx (t ∷ ts) b e h =
      let p = if_inv (size n ds t) (λ a. if_some (size_fields n ds ts) (λ b. some (a + b))) b e in
      let q = if_inv (size_fields n ds ts) (λ b. some (p.0 + b)) b p.2 in
      let z : p.0 + q.0 ≡ b = some_same q.2 in
      rw (back n ds s fx t p.0 p.1 (omega arith), back_fields n ds s fx ts q.0 q.1 (omega arith)) q.2

small : (ds : List Data) (s : Sizes) → Fixed ds s → (t : Ty) (a : ℕ) → size_by s t ≡ some a → a ≤ 4096
small ds s fx int a e = let z : 1 ≡ a = some_same e in omega arith
small ds s fx (dat w) a e = (known ds s (below ds s fx) w a e).5
small ds s fx (box t) a e = let z : 1 ≡ a = some_same e in omega arith
small ds s fx (ref t) a e = let z : 1 ≡ a = some_same e in omega arith
small ds s fx (mut t) a e = let z : 1 ≡ a = some_same e in omega arith

pub sizes_right : SizesRight
sizes_right ds s fx t = at (size_by s t) (size_of ds t) refl refl
  where
    full : (a : ℕ) → size_by s t ≡ some a → size_of ds t ≡ some a
    full a e = let h = at_most s a ds in let k = many_is ds in ends ds s (below ds s fx) a (deep ds) t a e (omega arith) (omega arith)

    at : (o u : Option ℕ) → size_by s t ≡ o → size_of ds t ≡ u → o ≡ if_some u cap
    at (some a) u e f = sym (ap (λ (o : Option ℕ). if_some o cap) (sym f ∙ full a e) ∙ cap_le a (small ds s fx t a e))
    at none none e f = refl
    at none (some a) e f = big (leb a 4096) refl
      where
        big : (b : Bool) → leb a 4096 ≡ b → none ≡ only_if b (some a)
        big true q = none_some (sym e ∙ back (deep ds) ds s fx t a f (leb→le a 4096 (is_T q)))
        big false q = refl

-- so what is asked of a data's size is whether the table has it
pub size_is : (ds : List Data) (s : Sizes) → Fixed ds s → (d : Data) → ok_size ds d ≡ present (s d.name)
size_is ds s fx d = at (size_of ds (dat d.name)) ∙ sym (ap present (sizes_right ds s fx (dat d.name)))
  where
    at : (o : Option ℕ) → from_option o false (λ n. leb n 4096) ≡ present (if_some o cap)
    at none = refl
    at (some n) = in_cap (leb n 4096)
      where
        in_cap : (b : Bool) → b ≡ present (only_if b (some n))
        in_cap true = refl
        in_cap false = refl
