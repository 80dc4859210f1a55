-- The counts by size that the meaning keeps, and the places of a pool: refused in the one exactly if in the other.
use Rattle.std.proofs.Common.{◌≡◌, ℕ, suc, ◌+◌, ◌-◌, ◌*◌, ◌<◌, ◌≤◌, Bool, true, false, eqb, ltb, ◌≢◌, ◌⊎◌, List, [], ◌∷◌, ◌++◌, length, sym, refl, ap, ◌∙◌, subst, inl, inr, mul-suc, arith, le-ltb, lt-ltb, eq-eqb, ne_eqb, eqb-true}
use borrow.Author.Tests.{eqb-false}
use Rattle.language.specs.Base.{choose}
use Rattle.language.specs.Meaning.{Class, count_in, count_out, peaks}
use Rattle.memory.specs.Place.{Place, place, total, of_size, but_first}
use Rattle.memory.specs.Peaks.{now_of, peak_of, many, Tied, StepIn, PoolsFollowPeaks}
use Rattle.memory.proofs.Places.{at_size, but_other, but_none, total_in}

by_test : (b : Bool) → (b ≡ true) ⊎ (b ≡ false)
by_test true = inl refl
by_test false = inr refl

pub peaks_same : (cs : List Class) (k : ℕ) → now_of cs k < peak_of cs k → peaks (count_in cs k) ≡ peaks cs
peaks_same [] k h = absurd (omega arith)
peaks_same (x ∷ xs) k h = elim (by_test (eqb x.words k)) [
  | inl t ↦ (let h2 : x.in_use < x.peak = simp t at h in let q = eqb-true x.words k t in
      simp (t, lt-ltb x.in_use x.peak h2) (ap (λ w. w * x.peak + peaks xs) (sym q)))
  | inr t ↦ (let h2 : now_of xs k < peak_of xs k = simp t at h in simp t (ap (λ m. x.words * x.peak + m) (peaks_same xs k h2)))
]

pub peaks_new : (cs : List Class) (k : ℕ) → now_of cs k ≡ peak_of cs k → peaks (count_in cs k) ≡ peaks cs + k
peaks_new [] k h = omega arith
peaks_new (x ∷ xs) k h = elim (by_test (eqb x.words k)) [
  | inl t ↦ (let h2 : x.in_use ≡ x.peak = simp t at h in let q = eqb-true x.words k t in
      let le : x.peak ≤ x.in_use = omega arith in
      let m : k * suc x.in_use ≡ k * x.in_use + k = mul-suc k x.in_use in
      let e : x.words * x.peak ≡ k * x.in_use = ap (λ w. w * x.peak) q ∙ ap (λ p. k * p) (sym h2) in
      simp (t, le-ltb x.in_use x.peak le) (omega arith))
  | inr t ↦ (let h2 : now_of xs k ≡ peak_of xs k = simp t at h in let r = peaks_new xs k h2 in simp t (omega arith))
]

pub now_same : (cs : List Class) (k : ℕ) → now_of (count_in cs k) k ≡ suc (now_of cs k)
now_same [] k = simp (eq-eqb k k refl)
now_same (x ∷ xs) k = elim (by_test (eqb x.words k)) [ inl t ↦ simp (t, eq-eqb k k refl) | inr t ↦ simp t (now_same xs k) ]

pub now_other : (cs : List Class) (k j : ℕ) → (j ≡ k → ⊥) → now_of (count_in cs k) j ≡ now_of cs j
now_other [] k j ne = simp (ne_eqb k j (λ q. ne (sym q)))
now_other (x ∷ xs) k j ne = elim (by_test (eqb x.words k)) [
  | inl t ↦ (let q = eqb-true x.words k t in simp (t, ne_eqb k j (λ e. ne (sym e)), ne_eqb x.words j (λ e. ne (sym e ∙ q))))
  | inr t ↦ simp t (ap (λ m. choose (eqb x.words j) x.in_use m) (now_other xs k j ne))
]

pub peak_other : (cs : List Class) (k j : ℕ) → (j ≡ k → ⊥) → peak_of (count_in cs k) j ≡ peak_of cs j
peak_other [] k j ne = simp (ne_eqb k j (λ q. ne (sym q)))
peak_other (x ∷ xs) k j ne = elim (by_test (eqb x.words k)) [
  | inl t ↦ (let q = eqb-true x.words k t in simp (t, ne_eqb k j (λ e. ne (sym e)), ne_eqb x.words j (λ e. ne (sym e ∙ q))))
  | inr t ↦ simp t (ap (λ m. choose (eqb x.words j) x.peak m) (peak_other xs k j ne))
]

pub peak_same : (cs : List Class) (k : ℕ) → peak_of (count_in cs k) k ≡ choose (ltb (now_of cs k) (peak_of cs k)) (peak_of cs k) (suc (now_of cs k))
peak_same [] k = simp (eq-eqb k k refl)
peak_same (x ∷ xs) k = elim (by_test (eqb x.words k)) [ inl t ↦ simp (t, eq-eqb k k refl) | inr t ↦ simp t (peak_same xs k) ]

pub many_used : (a k : ℕ) (used : List Place) → many k (place a k ∷ used) ≡ suc (many k used)
many_used a k used = simp (eq-eqb k k refl)

pub many_other : (a k j : ℕ) (used : List Place) → (j ≡ k → ⊥) → many j (place a k ∷ used) ≡ many j used
many_other a k j used ne = simp (ne_eqb k j (λ q. ne (sym q)))

list_cases : (l : List ℕ) → (l ≡ []) ⊎ ((a : ℕ) × ((rest : List ℕ) × (l ≡ a ∷ rest)))
list_cases [] = inl refl
list_cases (a ∷ rest) = inr (a, (rest, refl))

total_but : (k a : ℕ) (rest : List ℕ) (free : List Place) → of_size k free ≡ a ∷ rest → total free ≡ k + total (but_first k free)
total_but k a rest free e =
    let s = at_size k a rest free e in
    ap total s.is ∙ (total_in (place a k) s.one s.two ∙ ap (λ (l : List Place). k + total l) (sym s.but))

num_cases : (i j : ℕ) → (i ≡ j) ⊎ (i ≢ j)
num_cases i j = elim (by_test (eqb i j)) [ inl e ↦ inl (eqb-true i j e) | inr e ↦ inr (eqb-false i j e) ]

tops_k : (cs : List Class) (k : ℕ) (used free : List Place) → Tied cs used free → peak_of (count_in cs k) k ≡ suc (many k used) + many k (but_first k free)
tops_k cs k used free T = elim (list_cases (of_size k free)) [
  | inl e ↦ (let m0 : many k free ≡ 0 = ap length e in
      let mb : many k (but_first k free) ≡ many k free = ap (many k) (but_none k free e) in
      let n1 = T.nows k in let p1 = T.tops k in
      let le : peak_of cs k ≤ now_of cs k = omega arith in
      let c : choose (ltb (now_of cs k) (peak_of cs k)) (peak_of cs k) (suc (now_of cs k)) ≡ suc (now_of cs k) = simp (le-ltb (now_of cs k) (peak_of cs k) le) in
      let z = peak_same cs k in omega arith)
  | inr x ↦ (let e = x.1.1 in
      let m0 : many k free ≡ suc (length x.1.0) = ap length e in
      let mb : many k (but_first k free) ≡ length x.1.0 = ap length (at_size k x.0 x.1.0 free e).left in
      let n1 = T.nows k in let p1 = T.tops k in
      let lt : now_of cs k < peak_of cs k = omega arith in
      let c : choose (ltb (now_of cs k) (peak_of cs k)) (peak_of cs k) (suc (now_of cs k)) ≡ peak_of cs k = simp (lt-ltb (now_of cs k) (peak_of cs k) lt) in
      let z = peak_same cs k in omega arith)
]

pub tied_in : (cs : List Class) (k : ℕ) (used free : List Place) → Tied cs used free → StepIn cs k used free
tied_in cs k used free T =
    let re : (a : ℕ) (rest : List ℕ) → of_size k free ≡ a ∷ rest → peaks (count_in cs k) ≡ peaks cs = λ a rest e. (
    let m0 : many k free ≡ suc (length rest) = ap length e in let n1 = T.nows k in let p1 = T.tops k in peaks_same cs k (omega arith)) in
    let gr : of_size k free ≡ [] → peaks (count_in cs k) ≡ (total used + total free) + k = λ e. (
    let m0 : many k free ≡ 0 = ap length e in let n1 = T.nows k in let p1 = T.tops k in peaks_new cs k (omega arith) ∙ ap (λ x. x + k) T.sum) in
    record {
      reused = re;
      grown = gr;
      tied = λ a. record {
        nows = λ j. elim (num_cases j k) [
          | inl q ↦ subst (λ (i : ℕ). now_of (count_in cs k) i ≡ many i (place a k ∷ used)) (sym q) (now_same cs k ∙ (ap (λ x. suc x) (T.nows k) ∙ sym (many_used a k used)))
          | inr ne ↦ now_other cs k j ne ∙ (T.nows j ∙ sym (many_other a k j used ne))
        ];
        tops = λ j. elim (num_cases j k) [
          | inl q ↦ subst (λ (i : ℕ). peak_of (count_in cs k) i ≡ many i (place a k ∷ used) + many i (but_first k free)) (sym q) (tops_k cs k used free T ∙ ap (λ x. x + many k (but_first k free)) (sym (many_used a k used)))
          | inr ne ↦ (let m1 = many_other a k j used ne in let m2 : many j (but_first k free) ≡ many j free = ap length (but_other k j free ne) in let p1 = peak_other cs k j ne in let p2 = T.tops j in omega arith)
        ];
        sum = elim (list_cases (of_size k free)) [
          | inl e ↦ (let g = gr e in let b : total (but_first k free) ≡ total free = ap total (but_none k free e) in omega arith)
          | inr x ↦ (let r = re x.0 x.1.0 x.1.1 in let b = total_but k x.0 x.1.0 free x.1.1 in let s = T.sum in omega arith)
        ];
      };
    }

-- a place of size k is given back
out_peaks : (cs : List Class) (k : ℕ) → peaks (count_out cs k) ≡ peaks cs
out_peaks [] k = refl
out_peaks (x ∷ xs) k = elim (by_test (eqb x.words k)) [
  | inl t ↦ simp t (ap (λ w. w * x.peak + peaks xs) (sym (eqb-true x.words k t)))
  | inr t ↦ simp t (ap (λ m. x.words * x.peak + m) (out_peaks xs k))
]

out_peak : (cs : List Class) (k j : ℕ) → peak_of (count_out cs k) j ≡ peak_of cs j
out_peak [] k j = refl
out_peak (x ∷ xs) k j = elim (by_test (eqb x.words k)) [
  | inl t ↦ simp t (ap (λ w. choose (eqb w j) x.peak (peak_of xs j)) (sym (eqb-true x.words k t)))
  | inr t ↦ simp t (ap (λ m. choose (eqb x.words j) x.peak m) (out_peak xs k j))
]

out_now : (cs : List Class) (k : ℕ) → now_of (count_out cs k) k ≡ now_of cs k - 1
out_now [] k = omega arith
out_now (x ∷ xs) k = elim (by_test (eqb x.words k)) [ inl t ↦ simp (t, eq-eqb k k refl) | inr t ↦ simp t (out_now xs k) ]

out_now_other : (cs : List Class) (k j : ℕ) → (j ≡ k → ⊥) → now_of (count_out cs k) j ≡ now_of cs j
out_now_other [] k j ne = refl
out_now_other (x ∷ xs) k j ne = elim (by_test (eqb x.words k)) [
  | inl t ↦ (let q = eqb-true x.words k t in simp (t, ne_eqb k j (λ e. ne (sym e)), ne_eqb x.words j (λ e. ne (sym e ∙ q))))
  | inr t ↦ simp t (ap (λ m. choose (eqb x.words j) x.in_use m) (out_now_other xs k j ne))
]

many_mid : (a k j : ℕ) (one two : List Place) → many j (one ++ (place a k ∷ two)) ≡ many j (place a k ∷ (one ++ two))
many_mid a k j [] two = refl
many_mid a k j (x ∷ one) two =
    let ih = many_mid a k j one two in
    elim (by_test (eqb x.size j)) [
      | inl t ↦ elim (by_test (eqb k j)) [ inl s ↦ (let i2 : many j (one ++ (place a k ∷ two)) ≡ suc (many j (one ++ two)) = simp s at ih in simp (t, s) (ap (λ m. suc m) i2)) | inr s ↦ (let i2 : many j (one ++ (place a k ∷ two)) ≡ many j (one ++ two) = simp s at ih in simp (t, s) (ap (λ m. suc m) i2)) ]
      | inr t ↦ elim (by_test (eqb k j)) [ inl s ↦ (let i2 : many j (one ++ (place a k ∷ two)) ≡ suc (many j (one ++ two)) = simp s at ih in simp (t, s) i2) | inr s ↦ (let i2 : many j (one ++ (place a k ∷ two)) ≡ many j (one ++ two) = simp s at ih in simp (t, s) i2) ]
    ]

pub tied_out : (cs : List Class) (a k : ℕ) (one two free : List Place) → Tied cs (one ++ (place a k ∷ two)) free → Tied (count_out cs k) (one ++ two) (place a k ∷ free)
tied_out cs a k one two free T = record {
  nows = λ j. elim (num_cases j k) [
    | inl q ↦ subst (λ (i : ℕ). now_of (count_out cs k) i ≡ many i (one ++ two)) (sym q)
        (let m1 = many_mid a k k one two in let m2 = many_used a k (one ++ two) in let t = T.nows k in let o = out_now cs k in omega arith)
    | inr ne ↦ (let m1 = many_mid a k j one two in let m2 = many_other a k j (one ++ two) ne in let t = T.nows j in out_now_other cs k j ne ∙ (t ∙ (m1 ∙ m2)))
  ];
  tops = λ j. (let p1 = out_peak cs k j in let t = T.tops j in let m1 = many_mid a k j one two in elim (num_cases j k) [
    | inl q ↦ subst (λ (i : ℕ). peak_of (count_out cs k) i ≡ many i (one ++ two) + many i (place a k ∷ free)) (sym q)
        (let p2 = out_peak cs k k in let t2 = T.tops k in let m3 = many_mid a k k one two in let m2 = many_used a k (one ++ two) in let m4 = many_used a k free in omega arith)
    | inr ne ↦ (let m2 = many_other a k j (one ++ two) ne in let m4 = many_other a k j free ne in omega arith)
  ]);
  sum = (let o = out_peaks cs k in let t = T.sum in let m = total_in (place a k) one two in omega arith);
}

pub pools_follow_peaks : PoolsFollowPeaks
pools_follow_peaks = (tied_in, tied_out)
