-- Laws of places: moving one between what's in use and what's free.
use Rattle.std.proofs.Common.{◌≡◌, ℕ, ◌+◌, ◌-◌, ◌<◌, ◌≤◌, Bool, true, false, eqb, ◌≢◌, ◌⊎◌, List, [], ◌∷◌, ◌++◌, length, get_or, set, sym, refl, ap, ◌∙◌, subst, inl, inr, append_assoc, arith, length-set, get_or-set_other, get_or-set_same, ne_eqb, eqb-true}
use borrow.Author.Tests.{eqb-false}
use Rattle.memory.specs.Place.{Place, place, Apart, ApartAll, Disjoint, Under, total, of_size, but_first, first_or, Chain}
use Rattle.memory.specs.Pooled.{Pooled, Got, Refused}

swap_apart : (x y : Place) → Apart x y → Apart y x
swap_apart x y (inl h) = inr h
swap_apart x y (inr h) = inl h

-- out of the middle, and in again
pub apart_out : (x p : Place) (xs ys : List Place) → ApartAll x (xs ++ (p ∷ ys)) → Apart x p × ApartAll x (xs ++ ys)
apart_out x p [] ys h = (h.0, h.1)
apart_out x p (y ∷ xs) ys h = let r = apart_out x p xs ys h.1 in (r.0, (h.0, r.1))

pub apart_in : (x p : Place) (xs ys : List Place) → Apart x p → ApartAll x (xs ++ ys) → ApartAll x (xs ++ (p ∷ ys))
apart_in x p [] ys a h = (a, h)
apart_in x p (y ∷ xs) ys a h = (h.0, apart_in x p xs ys a h.1)

pub disjoint_out : (p : Place) (xs ys : List Place) → Disjoint (xs ++ (p ∷ ys)) → ApartAll p (xs ++ ys) × Disjoint (xs ++ ys)
disjoint_out p [] ys h = (h.0, h.1)
disjoint_out p (x ∷ xs) ys h = let r = disjoint_out p xs ys h.1 in let a = apart_out x p xs ys h.0 in ((swap_apart x p a.0, r.0), (a.1, r.1))

pub disjoint_in : (p : Place) (xs ys : List Place) → ApartAll p (xs ++ ys) → Disjoint (xs ++ ys) → Disjoint (xs ++ (p ∷ ys))
disjoint_in p [] ys a h = (a, h)
disjoint_in p (x ∷ xs) ys a h = (apart_in x p xs ys (swap_apart p x a.0) h.0, disjoint_in p xs ys a.1 h.1)

pub under_out : (t : ℕ) (p : Place) (xs ys : List Place) → Under t (xs ++ (p ∷ ys)) → (1 ≤ p.size) × (p.at + p.size ≤ t) × Under t (xs ++ ys)
under_out t p [] ys h = h
under_out t p (x ∷ xs) ys h = let r = under_out t p xs ys h.2 in (r.0, r.1, (h.0, h.1, r.2))

pub under_in : (t : ℕ) (p : Place) (xs ys : List Place) → 1 ≤ p.size → p.at + p.size ≤ t → Under t (xs ++ ys) → Under t (xs ++ (p ∷ ys))
under_in t p [] ys a b h = (a, b, h)
under_in t p (x ∷ xs) ys a b h = (h.0, h.1, under_in t p xs ys a b h.2)

pub total_in : (p : Place) (xs ys : List Place) → total (xs ++ (p ∷ ys)) ≡ p.size + total (xs ++ ys)
total_in p [] ys = refl
total_in p (x ∷ xs) ys = let e = total_in p xs ys in omega arith

pub under_more : (t u : ℕ) (xs : List Place) → t ≤ u → Under t xs → Under u xs
under_more t u [] h a = tt
under_more t u (x ∷ xs) h a = let b = a.1 in (a.0, omega arith, under_more t u xs h a.2)

-- what lies from t on is apart from all below
pub apart_above : (t k : ℕ) (xs : List Place) → Under t xs → ApartAll (place t k) xs
apart_above t k [] h = tt
apart_above t k (x ∷ xs) h = (inr h.1, apart_above t k xs h.2)

pub apart_right : (p : Place) (xs ys : List Place) → ApartAll p (xs ++ ys) → ApartAll p ys
apart_right p [] ys h = h
apart_right p (x ∷ xs) ys h = apart_right p xs ys h.1

pub under_right : (t : ℕ) (xs ys : List Place) → Under t (xs ++ ys) → Under t ys
under_right t [] ys h = h
under_right t (x ∷ xs) ys h = under_right t xs ys h.2

-- the first of a size, where it stands
pub record AtSize (k a : ℕ) (rest : List ℕ) (free : List Place) : Type 0 where
  pub one : List Place
  pub two : List Place
  pub is : free ≡ one ++ (place a k ∷ two)
  pub but : but_first k free ≡ one ++ two
  pub left : of_size k (but_first k free) ≡ rest

at_size_by : (k a : ℕ) (rest : List ℕ) (x : Place) (xs : List Place) (t : Bool) → eqb x.size k ≡ t → (of_size k xs ≡ a ∷ rest → AtSize k a rest xs) → of_size k (x ∷ xs) ≡ a ∷ rest → AtSize k a rest (x ∷ xs)
at_size_by k a rest x xs true t ih e =
    let f : x.at ∷ of_size k xs ≡ a ∷ rest = simp t at e in
    let s = eqb-true x.size k t in
    let b : but_first k (x ∷ xs) ≡ xs = simp t in
    let q : place x.at x.size ≡ place a k = cc in
    record { one = []; two = xs; is = ap (λ y. y ∷ xs) q; but = b; left = ap (of_size k) b ∙ cc }
at_size_by k a rest x xs false t ih e =
    let f : of_size k xs ≡ a ∷ rest = simp t at e in
    let r = ih f in
    let b : but_first k (x ∷ xs) ≡ x ∷ but_first k xs = simp t in
    let o : of_size k (x ∷ but_first k xs) ≡ of_size k (but_first k xs) = simp t in
    record { one = x ∷ r.one; two = r.two; is = ap (λ ys. x ∷ ys) r.is; but = b ∙ ap (λ ys. x ∷ ys) r.but; left = ap (of_size k) b ∙ (o ∙ r.left) }

pub at_size : (k a : ℕ) (rest : List ℕ) (free : List Place) → of_size k free ≡ a ∷ rest → AtSize k a rest free
at_size k a rest [] e = let z : ◌≡◌ {A = ℕ} 0 1 = cc in absurd (omega arith)
at_size k a rest (x ∷ xs) e = at_size_by k a rest x xs (eqb x.size k) refl (at_size k a rest xs) e

-- other sizes aren't touched
by_test : (b : Bool) → (b ≡ true) ⊎ (b ≡ false)
by_test true = inl refl
by_test false = inr refl

pub but_other : (k j : ℕ) (free : List Place) → (j ≡ k → ⊥) → of_size j (but_first k free) ≡ of_size j free
but_other k j [] ne = refl
but_other k j (x ∷ xs) ne =
    elim (by_test (eqb x.size k)) [
      | inl t ↦ (let s = eqb-true x.size k t in let u : eqb x.size j ≡ false = ne_eqb x.size j (λ q. ne (cc)) in simp (t, u))
      | inr t ↦ (let r = but_other k j xs ne in elim (by_test (eqb x.size j)) [ inl u ↦ simp (t, u) (ap (λ ys. x.at ∷ ys) r) | inr u ↦ simp (t, u) r ])
    ]

pub but_none : (k : ℕ) (free : List Place) → of_size k free ≡ [] → but_first k free ≡ free
but_none k [] e = refl
but_none k (x ∷ xs) e =
    elim (by_test (eqb x.size k)) [
      | inl t ↦ (let f : x.at ∷ of_size k xs ≡ [] = simp t at e in let z : ◌≡◌ {A = ℕ} 0 1 = cc in absurd (omega arith))
      | inr t ↦ (let f : of_size k xs ≡ [] = simp t at e in simp t (ap (λ ys. x ∷ ys) (but_none k xs f)))
    ]

-- a write into a place doesn't touch the chains of what's apart from it
pub chain_set : (ws : List ℕ) (t v k h : ℕ) (p : Place) (free : List Place) → 1 ≤ p.size → ApartAll p free → Under t free → Chain ws h (of_size k free) → Chain (set ws p.at v) h (of_size k free)
chain_set ws t v k h p [] s a u c = c
chain_set ws t v k h p (x ∷ xs) s a u c =
    elim (by_test (eqb x.size k)) [
      | inl e ↦ (let d : (h ≡ x.at + 1) × Chain ws (get_or ws x.at 0) (of_size k xs) = simp e at c in
          let s2 = u.0 in
          let ne : x.at ≢ p.at = elim a.0 [ inl q ↦ omega arith | inr q ↦ omega arith ] in
          let g : get_or (set ws p.at v) x.at 0 ≡ get_or ws x.at 0 = get_or-set_other ws p.at x.at v 0 ne in
          let r = chain_set ws t v k (get_or ws x.at 0) p xs s a.1 u.2 d.1 in
          simp (e, g) (d.0, r))
      | inr e ↦ (let d : Chain ws h (of_size k xs) = simp e at c in simp e (chain_set ws t v k h p xs s a.1 u.2 d))
    ]

-- the first of a chain
pub record Headed (ws : List ℕ) (h : ℕ) (l : List ℕ) : Type 0 where
  pub rest : List ℕ
  pub is : l ≡ (h - 1) ∷ rest
  pub more : Chain ws (get_or ws (h - 1) 0) rest

pub headed : (ws : List ℕ) (h : ℕ) (l : List ℕ) → Chain ws h l → (h ≡ 0 → ⊥) → Headed ws h l
headed ws h [] c ne = absurd (ne c)
headed ws h (a ∷ l) c ne =
    let e : a ≡ h - 1 = (let d = c.0 in omega arith) in
    record { rest = l; is = ap (λ b. b ∷ l) e; more = subst (λ (b : ℕ). Chain ws (get_or ws b 0) l) e c.1 }

pub no_head : (ws : List ℕ) (h : ℕ) (l : List ℕ) → Chain ws h l → h ≡ 0 → l ≡ []
no_head ws h [] c e = refl
no_head ws h (a ∷ l) c e = let d = c.0 in absurd (omega arith)

pub first_in : (ws hs : List ℕ) (top k : ℕ) (used free : List Place) → Pooled ws hs top used free → k < length hs → (get_or hs k 0 ≡ 0 → ⊥) → get_or hs k 0 - 1 < length ws
first_in ws hs top k used free P kl ne =
    let c = headed ws (get_or hs k 0) (of_size k free) (P.chains k kl) ne in
    let s = at_size k (get_or hs k 0 - 1) c.rest free c.is in
    let u : Under top ((used ++ s.one) ++ (place (get_or hs k 0 - 1) k ∷ s.two)) = subst (λ (l : List Place). Under top l) (ap (λ (l : List Place). used ++ l) s.is ∙ sym (append_assoc used s.one _)) P.under in
    let v = under_out top (place (get_or hs k 0 - 1) k) (used ++ s.one) s.two u in
    let a = v.0 in let b = v.1 in let r = P.room in omega arith

pub got_free : (ws hs : List ℕ) (top k : ℕ) (used free : List Place) → Pooled ws hs top used free → k < length hs → (get_or hs k 0 ≡ 0 → ⊥) → Got ws hs top k (set hs k (get_or ws (get_or hs k 0 - 1) 0)) top used free (get_or hs k 0 - 1)
got_free ws hs top k used free P kl ne =
    let a : ℕ = get_or hs k 0 - 1 in
    let c = headed ws (get_or hs k 0) (of_size k free) (P.chains k kl) ne in
    let s = at_size k a c.rest free c.is in
    let e : used ++ free ≡ (used ++ s.one) ++ (place a k ∷ s.two) = ap (λ (l : List Place). used ++ l) s.is ∙ sym (append_assoc used s.one _) in
    let f : (used ++ s.one) ++ s.two ≡ used ++ but_first k free = append_assoc used s.one s.two ∙ ap (λ (l : List Place). used ++ l) (sym s.but) in
    let d = disjoint_out (place a k) (used ++ s.one) s.two (subst (λ (l : List Place). Disjoint l) e P.disjoint) in
    let u = under_out top (place a k) (used ++ s.one) s.two (subst (λ (l : List Place). Under top l) e P.under) in
    let t : total free ≡ k + total (but_first k free) = ap total s.is ∙ (total_in (place a k) s.one s.two ∙ ap (λ (l : List Place). k + total l) (sym s.but)) in
    let z = P.filled in
    record {
      which = ap (first_or top) (sym c.is);
      fits = λ n0. (let w : ◌≡◌ {A = ℕ} 0 1 = cc (n0, c.is) in absurd (omega arith));
      pooled = record {
        disjoint = (subst (λ (l : List Place). ApartAll (place a k) l) f d.0, subst (λ (l : List Place). Disjoint l) f d.1);
        under = (u.0, u.1, subst (λ (l : List Place). Under top l) f u.2);
        filled = omega arith;
        room = P.room;
        chains = λ j jl. elim (by_test (eqb j k)) [
          | inl t ↦ (let q = eqb-true j k t in
              subst (λ (i : ℕ). Chain ws (get_or (set hs k (get_or ws a 0)) i 0) (of_size i (but_first k free))) (sym q)
              (simp (get_or-set_same hs k (get_or ws a 0) 0 kl, s.left) c.more))
          | inr t ↦ (let ne2 : j ≢ k = eqb-false j k t in
              let jl2 : j < length hs = simp length-set at jl in
              simp (get_or-set_other hs k j (get_or ws a 0) 0 ne2, but_other k j free ne2) (P.chains j jl2))
        ];
      };
    }

pub got_new : (ws hs : List ℕ) (top k : ℕ) (used free : List Place) → Pooled ws hs top used free → 1 ≤ k → k < length hs → get_or hs k 0 ≡ 0 → top + k ≤ length ws → Got ws hs top k hs (top + k) used free top
got_new ws hs top k used free P k1 kl e r =
    let n0 = no_head ws (get_or hs k 0) (of_size k free) (P.chains k kl) e in
    let f : used ++ free ≡ used ++ but_first k free = ap (λ (l : List Place). used ++ l) (sym (but_none k free n0)) in
    let t : total (but_first k free) ≡ total free = ap total (but_none k free n0) in
    let z = P.filled in
    record {
      which = ap (first_or top) (sym n0);
      fits = λ _. r;
      pooled = record {
        disjoint = (subst (λ (l : List Place). ApartAll (place top k) l) f (apart_above top k (used ++ free) P.under), subst (λ (l : List Place). Disjoint l) f P.disjoint);
        under = (k1, omega arith, subst (λ (l : List Place). Under (top + k) l) f (under_more top (top + k) (used ++ free) (omega arith) P.under));
        filled = omega arith;
        room = r;
        chains = λ j jl. subst (λ (l : List Place). Chain ws (get_or hs j 0) (of_size j l)) (sym (but_none k free n0)) (P.chains j jl);
      };
    }

pub refused : (ws hs : List ℕ) (top k : ℕ) (used free : List Place) → Pooled ws hs top used free → k < length hs → get_or hs k 0 ≡ 0 → length ws < top + k → Refused ws hs top k hs top free
refused ws hs top k used free P kl e r = record { none_free = no_head ws (get_or hs k 0) (of_size k free) (P.chains k kl) e; no_room = r; same_heads = refl; same_top = refl }

pub used_under : (ws hs : List ℕ) (top : ℕ) (p : Place) (one two free : List Place) → Pooled ws hs top (one ++ (p ∷ two)) free → (1 ≤ p.size) × (p.at + p.size ≤ length ws)
used_under ws hs top p one two free P =
    let v = under_out top p one (two ++ free) (subst (λ (l : List Place). Under top l) (append_assoc one (p ∷ two) free) P.under) in
    let b = v.1 in let r = P.room in (v.0, omega arith)

-- a used place begins within the words
pub used_inside : (ws hs : List ℕ) (top : ℕ) (p : Place) (one two free : List Place) → Pooled ws hs top (one ++ (p ∷ two)) free → p.at < length ws
used_inside ws hs top p one two free P = let u = used_under ws hs top p one two free P in let a = u.0 in let b = u.1 in omega arith

pub gave : (ws hs : List ℕ) (top a k : ℕ) (one two free : List Place) → k < length hs → Pooled ws hs top (one ++ (place a k ∷ two)) free → Pooled (set ws a (get_or hs k 0)) (set hs k (a + 1)) top (one ++ two) (place a k ∷ free)
gave ws hs top a k one two free kl P =
    let p : Place = place a k in
    let e : (one ++ (p ∷ two)) ++ free ≡ one ++ (p ∷ (two ++ free)) = append_assoc one (p ∷ two) free in
    let f : one ++ (two ++ free) ≡ (one ++ two) ++ free = sym (append_assoc one two free) in
    let d = disjoint_out p one (two ++ free) (subst (λ (l : List Place). Disjoint l) e P.disjoint) in
    let u = under_out top p one (two ++ free) (subst (λ (l : List Place). Under top l) e P.under) in
    let ap1 : ApartAll p ((one ++ two) ++ free) = subst (λ (l : List Place). ApartAll p l) f d.0 in
    let un1 : Under top ((one ++ two) ++ free) = subst (λ (l : List Place). Under top l) f u.2 in
    let t = total_in p one two in
    let z = P.filled in
    let s1 = u.0 in let b1 = u.1 in let r1 = P.room in
    let al : a < length ws = omega arith in
    record {
      disjoint = disjoint_in p (one ++ two) free ap1 (subst (λ (l : List Place). Disjoint l) f d.1);
      under = under_in top p (one ++ two) free s1 b1 un1;
      filled = omega arith;
      room = simp length-set P.room;
      chains = λ j jl. (
          let jl2 : j < length hs = simp length-set at jl in
          let old = chain_set ws top (get_or hs k 0) j (get_or hs j 0) p free s1 (apart_right p (one ++ two) free ap1) (under_right top (one ++ two) free un1) (P.chains j jl2) in
          elim (by_test (eqb k j)) [
            | inl t2 ↦ (let q = eqb-true k j t2 in
                let g1 : get_or (set hs k (a + 1)) j 0 ≡ a + 1 = subst (λ (i : ℕ). get_or (set hs k (a + 1)) i 0 ≡ a + 1) q (get_or-set_same hs k (a + 1) 0 kl) in
                let g2 : get_or (set ws a (get_or hs k 0)) a 0 ≡ get_or hs j 0 = get_or-set_same ws a (get_or hs k 0) 0 al ∙ ap (λ i. get_or hs i 0) q in
                simp (t2, g1, g2) (refl, old))
            | inr t2 ↦ (let ne2 : j ≢ k = λ q. eqb-false k j t2 (sym q) in
                simp (t2, get_or-set_other hs k j (a + 1) 0 ne2) old)
          ]);
    }
