-- Where values lie; memory as a whole; what a piece of work leaves alone.
use mathlib.Core.Path.{◌≡◌, refl, sym, ap, subst, ◌∙◌}
use mathlib.Core.Bool.{Bool, true, false}
use mathlib.Core.List.{List, [], ◌∷◌, ◌++◌}
use mathlib.Core.Option.{Option, some, none}
use mathlib.Core.Logic.{◌⊎◌, inl, inr}
use Prim.Native.Nat.{ℕ, zero, suc, ◌+◌, ◌≤◌, ◌<◌}
use native.Mathlib.Omega.{arith}
use lib.ListN.{length}
use lib.Dec.{eqb, T, eqb→eq, eqb_refl}
use Rattle.language.specs.Base.{choose, if_some, at_place, set_at}
use Rattle.language.specs.Syntax.{Ty, int, dat, box, ref, mut}
use Rattle.language.specs.Meaning.{Value, int_v, con_v, box_v, ref_v, hole, Values, nil_v, cons_v, Root, two_64}
pub use Rattle.simulation.specs.Sizes.{total, Fits}
pub use Rattle.simulation.specs.Borrows.{Live}
use Rattle.simulation.proofs.Machine.{Kit, Info, upd}

pub no_some : {A : Type 0} {x : A} → none ≡ some x → ⊥
no_some e = let z : ◌≡◌ {A = ℕ} 0 1 = cc in omega arith

pub some_is : {A : Type 0} {x y : A} → some x ≡ some y → x ≡ y
some_is e = cc

pub at_put_same : {A : Type 0} (xs : List A) (r : ℕ) (x v : A) → at_place xs r ≡ some x → at_place (set_at xs r v) r ≡ some v
at_put_same [] r x v e = absurd (no_some e)
at_put_same (y ∷ ys) zero x v e = refl
at_put_same (y ∷ ys) (suc r) x v e = at_put_same ys r x v e

pub at_put_other : {A : Type 0} (xs : List A) (r j : ℕ) (v : A) → (r ≡ j → ⊥) → at_place (set_at xs r v) j ≡ at_place xs j
at_put_other [] r j v h = refl
at_put_other (y ∷ ys) zero zero v h = absurd (h refl)
at_put_other (y ∷ ys) zero (suc j) v h = refl
at_put_other (y ∷ ys) (suc r) zero v h = refl
at_put_other (y ∷ ys) (suc r) (suc j) v h = at_put_other ys r j v (λ e. h (ap suc e))

pub put_length : {A : Type 0} (xs : List A) (r : ℕ) (v : A) → length (set_at xs r v) ≡ length xs
put_length [] r v = refl
put_length (y ∷ ys) zero v = refl
put_length (y ∷ ys) (suc r) v = ap suc (put_length ys r v)

pub at_old : {A : Type 0} (xs ys : List A) (r : ℕ) (x : A) → at_place xs r ≡ some x → at_place (xs ++ ys) r ≡ some x
at_old [] ys r x e = absurd (no_some e)
at_old (y ∷ xs) ys zero x e = e
at_old (y ∷ xs) ys (suc r) x e = at_old xs ys r x e

pub at_end : {A : Type 0} (xs : List A) (x : A) → at_place (xs ++ (x ∷ [])) (length xs) ≡ some x
at_end [] x = refl
at_end (y ∷ xs) x = at_end xs x

-- in a list with one more: an old one, or the new
pub at_more : {A : Type 0} (xs : List A) (x y : A) (r : ℕ) → at_place (xs ++ (x ∷ [])) r ≡ some y → (at_place xs r ≡ some y) ⊎ ((r ≡ length xs) × (x ≡ y))
at_more [] x y zero e = inr (refl, some_is e)
at_more [] x y (suc r) e = absurd (no_some e)
at_more (z ∷ xs) x y zero e = inl e
at_more (z ∷ xs) x y (suc r) e = elim (at_more xs x y r e) [ inl h ↦ inl h | inr h ↦ inr (ap suc h.0, h.1) ]

pub more_length : {A : Type 0} (xs : List A) (x : A) → length (xs ++ (x ∷ [])) ≡ suc (length xs)
more_length [] x = refl
more_length (y ∷ xs) x = ap suc (more_length xs x)

pub eqb_no : (i j : ℕ) → (i ≡ j → ⊥) → eqb i j ≡ false
eqb_no i j h = by (eqb i j) (λ t. h (eqb→eq i j t))
  where
    by : (z : Bool) → (T z → ⊥) → z ≡ false
    by true g = absurd (g tt)
    by false g = refl

pub eqb_yes : (i : ℕ) → eqb i i ≡ true
eqb_yes i = by (eqb i i) (eqb_refl i)
  where
    by : (z : Bool) → T z → z ≡ true
    by true g = refl
    by false g = absurd g

pub same_or : (i j : ℕ) → (i ≡ j) ⊎ (i ≡ j → ⊥)
same_or i j = by (eqb i j) refl (λ t. eqb→eq i j t)
  where
    tf : true ≡ false → ⊥
    tf e = subst (λ b1. T b1) e tt

    by : (z : Bool) → eqb i j ≡ z → (T z → i ≡ j) → (i ≡ j) ⊎ (i ≡ j → ⊥)
    by true e f = inl (f tt)
    by false e f = inr (λ q. tf (sym (subst (λ k. eqb i k ≡ true) q (eqb_yes i)) ∙ e))

pub upd_same : (w : ℕ → ℕ) (a x : ℕ) → upd w a x a ≡ x
upd_same w a x = ap (λ z. choose z x (w a)) (eqb_yes a)

pub upd_other : (w : ℕ → ℕ) (a x j : ℕ) → (j ≡ a → ⊥) → upd w a x j ≡ w j
upd_other w a x j h = ap (λ z. choose z x (w j)) (eqb_no j a h)

-- a root's place: its words, and the flag before them (a box has none: then flag is the place itself)
pub record Pl : Type 0 where
  pub flag : ℕ
  pub at : ℕ
  pub ty : Ty
  pub box : Bool

pub record At (L : List Pl) (r a : ℕ) (u : Ty) : Type 0 where
  pub pl : Pl
  pub is : at_place L r ≡ some pl
  pub at : pl.at ≡ a
  pub ty : pl.ty ≡ u

abbrev pub Refers : Ty → Ty → Type 0
Refers int u = ⊥
Refers (dat d) u = ⊥
Refers (box t) u = ⊥
Refers (ref t) u = t ≡ u
Refers (mut t) u = t ≡ u

-- what can have been moved away
abbrev pub Holed : Ty → Type 0
Holed int = ⊥
Holed (dat d) = Unit {0}
Holed (box t) = Unit {0}
Holed (ref t) = ⊥
Holed (mut t) = ⊥

-- is it there
abbrev pub flag_of : Value → ℕ
flag_of (int_v k) = 1
flag_of (con_v k vs) = 1
flag_of (box_v r) = 1
flag_of (ref_v l) = 1
flag_of hole = 0

-- a value of a type lies at a: numbers are words; what is in a constructor is there; of a reference only its type is said
abbrev mutual
  pub Lay : Kit → List Pl → (ℕ → ℕ) → ℕ → Ty → Value → Type 0
  Lay K L w a t (int_v k) = (t ≡ int) × (w a ≡ k) × (k < two_64)
  Lay K L w a t (con_v k vs) = (i : Info) × ((K.info k ≡ some i) × (t ≡ dat i.home) × (w a ≡ i.tag) × Lays K L w (a + 1) i.fields vs)
  Lay K L w a t (box_v r) = (u : Ty) × ((t ≡ box u) × ((y : At L r (w a) u) × (y.pl.box ≡ true)))
  Lay K L w a t (ref_v l) = (u : Ty) × Refers t u
  Lay K L w a t hole = Holed t

  pub Lays : Kit → List Pl → (ℕ → ℕ) → ℕ → List Ty → Values → Type 0
  Lays K L w a ts nil_v = ts ≡ []
  Lays K L w a ts (cons_v v vs) = (t : Ty) × ((rest : List Ty) × ((ts ≡ t ∷ rest) × Lay K L w a t v × Lays K L w (a + K.size t) rest vs × (flag_of v ≡ 1)))

first : (w w' : ℕ → ℕ) (a d s : ℕ) → 1 ≤ s → ((i : ℕ) → i < s → w' (d + i) ≡ w (a + i)) → w' d ≡ w a
first w w' a d s h f = let e1 : d ≡ d + 0 = omega arith in let e2 : a + 0 ≡ a = omega arith in ap w' e1 ∙ (f 0 (omega arith) ∙ ap w e2)

shift : (w w' : ℕ → ℕ) (a d s k : ℕ) → ((i : ℕ) → i < s → w' (d + i) ≡ w (a + i)) → (i : ℕ) → k + i < s → w' ((d + k) + i) ≡ w ((a + k) + i)
shift w w' a d s k f i h = let e1 : (d + k) + i ≡ d + (k + i) = omega arith in let e2 : a + (k + i) ≡ (a + k) + i = omega arith in ap w' e1 ∙ (f (k + i) h ∙ ap w e2)

abbrev at_moved : {L : List Pl} {r : ℕ} {u : Ty} {x y : ℕ} → x ≡ y → At L r y u → At L r x u
at_moved e h = record { pl = h.pl; is = h.is; at = h.at ∙ sym e; ty = h.ty }

mutual
  pub copied : (K : Kit) → Fits K → (L : List Pl) (w w' : ℕ → ℕ) (a d : ℕ) (t : Ty) (v : Value) → Lay K L w a t v → ((i : ℕ) → i < K.size t → w' (d + i) ≡ w (a + i)) → Lay K L w' d t v
  copied K F L w w' a d t (int_v k) y f = (y.0, first w w' a d (K.size t) (F.some_word t) f ∙ y.1, y.2)
  copied K F L w w' a d t (con_v k vs) y f =
      let i = y.0 in let z = F.inside k i y.1.0 in
      let sz : 1 + total K i.fields ≤ K.size t = subst (λ (t1 : Ty). 1 + total K i.fields ≤ K.size t1) (sym y.1.1) z in (
        i,
        (
          y.1.0,
          y.1.1,
          first w w' a d (K.size t) (F.some_word t) f ∙ y.1.2,
          copied_all K F L w w' (a + 1) (d + 1) i.fields vs y.1.3 (λ j h. shift w w' a d (K.size t) 1 f j (omega arith)),
        ),
      )
  copied K F L w w' a d t (box_v r) y f = (y.0, (y.1.0, (at_moved (first w w' a d (K.size t) (F.some_word t) f) y.1.1.0, y.1.1.1)))
  copied K F L w w' a d t (ref_v l) y f = y
  copied K F L w w' a d t hole y f = y

  pub copied_all : (K : Kit) → Fits K → (L : List Pl) (w w' : ℕ → ℕ) (a d : ℕ) (ts : List Ty) (vs : Values) → Lays K L w a ts vs → ((i : ℕ) → i < total K ts → w' (d + i) ≡ w (a + i)) → Lays K L w' d ts vs
  copied_all K F L w w' a d ts nil_v y f = y
  copied_all K F L w w' a d ts (cons_v v vs) y f =
      let t = y.0 in let rest = y.1.0 in
      let q : total K ts ≡ K.size t + total K rest = ap (total K) y.1.1.0 in (
        t,
        (
          rest,
          (
            y.1.1.0,
            copied K F L w w' a d t v y.1.1.1 (λ j h. f j (omega arith)),
            copied_all K F L w w' (a + K.size t) (d + K.size t) rest vs y.1.1.2 (λ j h. shift w w' a d (total K ts) (K.size t) f j (omega arith)),
            y.1.1.3,
          ),
        ),
      )

-- more roots
abbrev pub Ext : List Pl → List Pl → Type 0
Ext L M = (r : ℕ) (x : Pl) → at_place L r ≡ some x → at_place M r ≡ some x

abbrev at_ext : {L M : List Pl} {r a : ℕ} {u : Ty} → Ext L M → At L r a u → At M r a u
at_ext {r = r} f h = record { pl = h.pl; is = f r h.pl h.is; at = h.at; ty = h.ty }

mutual
  pub lay_ext : (K : Kit) (L M : List Pl) → Ext L M → (w : ℕ → ℕ) (a : ℕ) (t : Ty) (v : Value) → Lay K L w a t v → Lay K M w a t v
  lay_ext K L M f w a t (int_v k) y = y
  lay_ext K L M f w a t (con_v k vs) y = (y.0, (y.1.0, y.1.1, y.1.2, lays_ext K L M f w (a + 1) y.0.fields vs y.1.3))
  lay_ext K L M f w a t (box_v r) y = (y.0, (y.1.0, (at_ext f y.1.1.0, y.1.1.1)))
  lay_ext K L M f w a t (ref_v l) y = y
  lay_ext K L M f w a t hole y = y

  pub lays_ext : (K : Kit) (L M : List Pl) → Ext L M → (w : ℕ → ℕ) (a : ℕ) (ts : List Ty) (vs : Values) → Lays K L w a ts vs → Lays K M w a ts vs
  lays_ext K L M f w a ts nil_v y = y
  lays_ext K L M f w a ts (cons_v v vs) y = (y.0, (y.1.0, (y.1.1.0, lay_ext K L M f w a y.0 v y.1.1.1, lays_ext K L M f w (a + K.size y.0) y.1.0 vs y.1.1.2, y.1.1.3)))

abbrev pub live : List Root → ℕ → Option Root
live rs r = if_some (at_place rs r) (λ x. choose x.live (some x) none)

pub lives : (rs : List Root) (r : ℕ) (x : Root) → live rs r ≡ some x → Live rs r x
lives rs r x e = by (at_place rs r) refl e
  where
    by2 : (y : Root) (z : Bool) → y.live ≡ z → at_place rs r ≡ some y → choose z (some y) none ≡ some x → Live rs r x
    by2 y true q h g = let e1 : y ≡ x = some_is g in subst (λ u. Live rs r u) e1 (record { is = h; lives = q })
    by2 y false q h g = absurd (no_some g)

    by : (o : Option Root) → at_place rs r ≡ o → if_some o (λ x. choose x.live (some x) none) ≡ some x → Live rs r x
    by none h g = absurd (no_some g)
    by (some y) h g = by2 y y.live refl h g

pub record Owns (K : Kit) (rs : List Root) (L : List Pl) (r j : ℕ) : Type 0 where
  pub root : Root
  pub pl : Pl
  pub lives : Live rs r root
  pub is : at_place L r ≡ some pl
  pub from : pl.flag ≤ j
  pub upto : j < pl.at + K.size pl.ty

-- a box's has its words, and lies among the words for boxes; any other has none
abbrev pub Kind : Kit → Pl → ℕ → Type 0
Kind K y k = ((y.box ≡ true) × (y.flag ≡ y.at) × (k ≡ K.size y.ty) × (y.at + K.size y.ty ≤ K.lent.heap)) ⊎ ((y.box ≡ false) × (k ≡ 0))

pub record Sits (K : Kit) (L : List Pl) (w : ℕ → ℕ) (y : Pl) (x : Root) : Type 0 where
  pub lay : Lay K L w y.at y.ty x.val
  pub order : y.flag ≤ y.at
  pub flag : y.flag < y.at → w y.flag ≡ flag_of x.val
  pub full : y.flag ≡ y.at → flag_of x.val ≡ 1
  pub kind : Kind K y x.words

pub record Mem (K : Kit) (bound : ℕ) (L : List Pl) (rs : List Root) (w : ℕ → ℕ) : Type 0 where
  pub long : length L ≡ length rs
  pub laid : (r : ℕ) (x : Root) (y : Pl) → Live rs r x → at_place L r ≡ some y → Sits K L w y x
  pub apart : (r i j : ℕ) → Owns K rs L r j → Owns K rs L i j → r ≡ i
  pub low : (r j : ℕ) → Owns K rs L r j → j < bound

module _ (K : Kit) (F : Fits K) where
  sits_same : (L : List Pl) (w w' : ℕ → ℕ) (y : Pl) (v : Root) → Sits K L w y v → ((j : ℕ) → y.flag ≤ j → j < y.at + K.size y.ty → w' j ≡ w j) → Sits K L w' y v
  sits_same L w w' y v s f =
      let o = s.order in let z = F.some_word y.ty in
      record { lay = copied K F L w w' y.at y.at y.ty v.val s.lay (λ i h. f (y.at + i) (omega arith) (omega arith)); order = o; flag = λ h. f y.flag (omega arith) (omega arith) ∙ s.flag h; full = s.full; kind = s.kind }

  -- words that no live root owns are no matter
  pub mem_words : (bound : ℕ) (L : List Pl) (rs : List Root) (w w' : ℕ → ℕ) → Mem K bound L rs w → ((r j : ℕ) → Owns K rs L r j → w' j ≡ w j) → Mem K bound L rs w'
  mem_words bound L rs w w' m f = record {
    long = m.long;
    apart = m.apart;
    low = m.low;
    laid = λ r x y h e. sits_same L w w' y x (m.laid r x y h e) (λ j h1 h2. f r j (record { root = x; pl = y; lives = h; is = e; from = h1; upto = h2 }));
  }

  pub mem_wider : (b1 b2 : ℕ) (L : List Pl) (rs : List Root) (w : ℕ → ℕ) → b1 ≤ b2 → Mem K b1 L rs w → Mem K b2 L rs w
  mem_wider b1 b2 L rs w h m = record { long = m.long; apart = m.apart; laid = m.laid; low = λ r j o. let z = m.low r j o in omega arith }

  -- a root's value is another: whoever owns a word owned it before
  pub own_put : (L : List Pl) (rs : List Root) (r i j : ℕ) (x v : Root) → Live rs r x → Owns K (set_at rs r v) L i j → Owns K rs L i j × (i ≡ r → v.live ≡ true)
  own_put L rs r i j x v h o = by (same_or r i)
    where
      by : (r ≡ i) ⊎ (r ≡ i → ⊥) → Owns K rs L i j × (i ≡ r → v.live ≡ true)
      by (inl q) =
          let e0 : at_place (set_at rs r v) i ≡ some v = subst (λ k. at_place (set_at rs r v) k ≡ some v) q (at_put_same rs r x v h.is) in
          let e1 : v ≡ o.root = some_is (sym e0 ∙ o.lives.is) in
          (record { root = x; pl = o.pl; lives = subst (λ k. Live rs k x) q h; is = o.is; from = o.from; upto = o.upto }, λ z. ap (λ y. y.live) e1 ∙ o.lives.lives)
      by (inr q) = (record { root = o.root; pl = o.pl; lives = record { is = sym (at_put_other rs r i v q) ∙ o.lives.is; lives = o.lives.lives }; is = o.is; from = o.from; upto = o.upto }, λ z. absurd (q (sym z)))

  live_put : (rs : List Root) (r i : ℕ) (x v y : Root) → Live rs r x → Live (set_at rs r v) i y → ((i ≡ r) × (v ≡ y)) ⊎ ((r ≡ i → ⊥) × Live rs i y)
  live_put rs r i x v y h o = by (same_or r i)
    where
      by : (r ≡ i) ⊎ (r ≡ i → ⊥) → ((i ≡ r) × (v ≡ y)) ⊎ ((r ≡ i → ⊥) × Live rs i y)
      by (inl q) = inl (sym q, some_is (sym (subst (λ k. at_place (set_at rs r v) k ≡ some v) q (at_put_same rs r x v h.is)) ∙ o.is))
      by (inr q) = inr (q, record { is = sym (at_put_other rs r i v q) ∙ o.is; lives = o.lives })

  pub mem_write : (bound : ℕ) (L : List Pl) (rs : List Root) (w w' : ℕ → ℕ) (r : ℕ) (x v : Root) (y : Pl) → Mem K bound L rs w → Live rs r x → at_place L r ≡ some y → (v.live ≡ true → Sits K L w' y v) → ((i j : ℕ) → Owns K rs L i j → (r ≡ i → ⊥) → w' j ≡ w j) → Mem K bound L (set_at rs r v) w'
  mem_write bound L rs w w' r x v y m h e s f = record {
    long = m.long ∙ sym (put_length rs r v);
    laid = λ i z u g e1. by i z u g e1 (live_put rs r i x v z h g);
    apart = λ i k j o1 o2. m.apart i k j (own_put L rs r i j x v h o1).0 (own_put L rs r k j x v h o2).0;
    low = λ i j o. m.low i j (own_put L rs r i j x v h o).0;
  }
    where
      by : (i : ℕ) (z : Root) (u : Pl) → Live (set_at rs r v) i z → at_place L i ≡ some u → ((i ≡ r) × (v ≡ z)) ⊎ ((r ≡ i → ⊥) × Live rs i z) → Sits K L w' u z
      by i z u g e1 (inl q) =
          let e2 : y ≡ u = some_is (sym e ∙ subst (λ k. at_place L k ≡ some u) q.0 e1) in
          subst (λ (a : Pl). Sits K L w' a z) e2 (subst (λ (a : Root). Sits K L w' y a) q.1 (s (ap (λ k. k.live) q.1 ∙ g.lives)))
      by i z u g e1 (inr q) = sits_same L w w' u z (m.laid i z u q.1 e1) (λ j h1 h2. f i j (record { root = z; pl = u; lives = q.1; is = e1; from = h1; upto = h2 }) q.0)

  -- one root more
  pub ext_more : (L : List Pl) (y : Pl) → Ext L (L ++ (y ∷ []))
  ext_more L y r x e = at_old L (y ∷ []) r x e

  pub own_more : (L : List Pl) (rs : List Root) (y : Pl) (v : Root) (i j : ℕ) → length L ≡ length rs → Owns K (rs ++ (v ∷ [])) (L ++ (y ∷ [])) i j → Owns K rs L i j ⊎ ((i ≡ length rs) × (y.flag ≤ j) × (j < y.at + K.size y.ty))
  own_more L rs y v i j e o = by (at_more rs v o.root i o.lives.is) (at_more L y o.pl i o.is)
    where
      short : {A : Type 0} (xs : List A) (r : ℕ) (x : A) → at_place xs r ≡ some x → r < length xs
      short [] r x h = absurd (no_some h)
      short (z ∷ xs) zero x h = omega arith
      short (z ∷ xs) (suc r) x h = let k = short xs r x h in omega arith

      by : (at_place rs i ≡ some o.root) ⊎ ((i ≡ length rs) × (v ≡ o.root)) → (at_place L i ≡ some o.pl) ⊎ ((i ≡ length L) × (y ≡ o.pl)) → Owns K rs L i j ⊎ ((i ≡ length rs) × (y.flag ≤ j) × (j < y.at + K.size y.ty))
      by (inl h) (inl g) = inl (record { root = o.root; pl = o.pl; lives = record { is = h; lives = o.lives.lives }; is = g; from = o.from; upto = o.upto })
      by (inl h) (inr g) = let k = short rs i o.root h in let g0 = g.0 in absurd (omega arith)
      by (inr h) (inl g) = let k = short L i o.pl g in let h0 = h.0 in absurd (omega arith)
      by (inr h) (inr g) = inr (h.0, subst (λ (a : Pl). a.flag ≤ j) (sym g.1) o.from, subst (λ (a : Pl). j < a.at + K.size a.ty) (sym g.1) o.upto)

  pub mem_add : (bound b2 : ℕ) (L : List Pl) (rs : List Root) (w : ℕ → ℕ) (y : Pl) (v : Root) → Mem K bound L rs w → Sits K (L ++ (y ∷ [])) w y v → ((r j : ℕ) → Owns K rs L r j → y.flag ≤ j → j < y.at + K.size y.ty → ⊥) → bound ≤ b2 → y.at + K.size y.ty ≤ b2 → Mem K b2 (L ++ (y ∷ [])) (rs ++ (v ∷ [])) w
  mem_add bound b2 L rs w y v m s f h1 h2 = record {
    long = more_length L y ∙ (ap suc m.long ∙ sym (more_length rs v));
    laid = λ r x u g e. by r x u g (at_more rs v x r g.is) (at_more L y u r e);
    apart = λ i k j o1 o2. by2 i k j (own_more L rs y v i j m.long o1) (own_more L rs y v k j m.long o2);
    low = λ i j o. by3 i j (own_more L rs y v i j m.long o);
  }
    where
      short : {A : Type 0} (xs : List A) (r : ℕ) (x : A) → at_place xs r ≡ some x → r < length xs
      short [] r x h = absurd (no_some h)
      short (z ∷ xs) zero x h = omega arith
      short (z ∷ xs) (suc r) x h = let k = short xs r x h in omega arith

      by : (r : ℕ) (x : Root) (u : Pl) → Live (rs ++ (v ∷ [])) r x → (at_place rs r ≡ some x) ⊎ ((r ≡ length rs) × (v ≡ x)) → (at_place L r ≡ some u) ⊎ ((r ≡ length L) × (y ≡ u)) → Sits K (L ++ (y ∷ [])) w u x
      by r x u g (inl h) (inl k) = let z = m.laid r x u (record { is = h; lives = g.lives }) k in record { lay = lay_ext K L (L ++ (y ∷ [])) (ext_more L y) w u.at u.ty x.val z.lay; order = z.order; flag = z.flag; full = z.full; kind = z.kind }
      by r x u g (inl h) (inr k) = let z = short rs r x h in let z2 = k.0 in let z3 = m.long in absurd (omega arith)
      by r x u g (inr h) (inl k) = let z = short L r u k in let z2 = h.0 in let z3 = m.long in absurd (omega arith)
      by r x u g (inr h) (inr k) = subst (λ (a : Pl). Sits K (L ++ (y ∷ [])) w a x) k.1 (subst (λ (a : Root). Sits K (L ++ (y ∷ [])) w y a) h.1 s)

      by2 : (i k j : ℕ) → Owns K rs L i j ⊎ ((i ≡ length rs) × (y.flag ≤ j) × (j < y.at + K.size y.ty)) → Owns K rs L k j ⊎ ((k ≡ length rs) × (y.flag ≤ j) × (j < y.at + K.size y.ty)) → i ≡ k
      by2 i k j (inl o1) (inl o2) = m.apart i k j o1 o2
      by2 i k j (inl o1) (inr o2) = absurd (f i j o1 o2.1 o2.2)
      by2 i k j (inr o1) (inl o2) = absurd (f k j o2 o1.1 o1.2)
      by2 i k j (inr o1) (inr o2) = o1.0 ∙ sym o2.0

      by3 : (i j : ℕ) → Owns K rs L i j ⊎ ((i ≡ length rs) × (y.flag ≤ j) × (j < y.at + K.size y.ty)) → j < b2
      by3 i j (inl o) = let z = m.low i j o in omega arith
      by3 i j (inr o) = let z = o.2 in omega arith

  -- what a piece of work does to the rest: words of Same that nobody owns stay; nobody new owns a word of Keep
  pub record Frame (Same Keep : ℕ → Type 0) (L : List Pl) (rs : List Root) (w : ℕ → ℕ) (L2 : List Pl) (rs2 : List Root) (w2 : ℕ → ℕ) : Type 0 where
    pub ext : Ext L L2
    pub kept : (j : ℕ) → Same j → ((r : ℕ) → Owns K rs L r j → ⊥) → w2 j ≡ w j
    pub grew : (r j : ℕ) → Owns K rs2 L2 r j → Owns K rs L r j ⊎ (Keep j → ⊥)

  pub frame_none : (S1 K1 : ℕ → Type 0) (L : List Pl) (rs : List Root) (w : ℕ → ℕ) → Frame S1 K1 L rs w L rs w
  frame_none S1 K1 L rs w = record { ext = λ r x e. e; kept = λ j h f. refl; grew = λ r j o. inl o }

  -- words change, and nobody owns anything new
  pub frame_words : (S1 K1 : ℕ → Type 0) (L : List Pl) (rs : List Root) (w w' : ℕ → ℕ) → ((j : ℕ) → S1 j → ((r : ℕ) → Owns K rs L r j → ⊥) → w' j ≡ w j) → Frame S1 K1 L rs w L rs w'
  frame_words S1 K1 L rs w w' f = record { ext = λ r x e. e; kept = f; grew = λ r j o. inl o }

  pub frame_less : {S1 K1 S2 K2 : ℕ → Type 0} {L : List Pl} {rs : List Root} {w : ℕ → ℕ} {L2 : List Pl} {rs2 : List Root} {w2 : ℕ → ℕ} → ((j : ℕ) → S2 j → S1 j) → ((j : ℕ) → K2 j → K1 j) → Frame S1 K1 L rs w L2 rs2 w2 → Frame S2 K2 L rs w L2 rs2 w2
  frame_less {S1} {K1} {S2} {K2} {L} {rs} f g h = record { ext = h.ext; kept = λ j s z. h.kept j (f j s) z; grew = λ r j o. by r j (h.grew r j o) }
    where
      by : (r j : ℕ) → Owns K rs L r j ⊎ (K1 j → ⊥) → Owns K rs L r j ⊎ (K2 j → ⊥)
      by r j (inl o) = inl o
      by r j (inr o) = inr (λ k. o (g j k))

  pub frame_on : {S1 K1 : ℕ → Type 0} {L : List Pl} {rs : List Root} {w : ℕ → ℕ} {L2 : List Pl} {rs2 : List Root} {w2 : ℕ → ℕ} {L3 : List Pl} {rs3 : List Root} {w3 : ℕ → ℕ} → ((j : ℕ) → S1 j → K1 j) → Frame S1 K1 L rs w L2 rs2 w2 → Frame S1 K1 L2 rs2 w2 L3 rs3 w3 → Frame S1 K1 L rs w L3 rs3 w3
  frame_on {S1} {K1} {L} {rs} {w} {L2} {rs2} {w2} {L3} {rs3} {w3} sk f g = record {
    ext = λ r x e. g.ext r x (f.ext r x e);
    kept = λ j h z. g.kept j h (λ r o. by r j h z (f.grew r j o)) ∙ f.kept j h z;
    grew = λ r j o. by2 r j (g.grew r j o);
  }
    where
      by : (r j : ℕ) → S1 j → ((r : ℕ) → Owns K rs L r j → ⊥) → Owns K rs L r j ⊎ (K1 j → ⊥) → ⊥
      by r j h z (inl o) = z r o
      by r j h z (inr o) = o (sk j h)

      by2 : (r j : ℕ) → Owns K rs2 L2 r j ⊎ (K1 j → ⊥) → Owns K rs L r j ⊎ (K1 j → ⊥)
      by2 r j (inl o) = f.grew r j o
      by2 r j (inr o) = inr o

  -- nobody owned it, nobody does
  pub frame_free : {S1 K1 : ℕ → Type 0} {L : List Pl} {rs : List Root} {w : ℕ → ℕ} {L2 : List Pl} {rs2 : List Root} {w2 : ℕ → ℕ} → Frame S1 K1 L rs w L2 rs2 w2 → (j : ℕ) → K1 j → ((r : ℕ) → Owns K rs L r j → ⊥) → (r : ℕ) → Owns K rs2 L2 r j → ⊥
  frame_free {S1} {K1} {L} {rs} f j k z r o = by (f.grew r j o)
    where
      by : Owns K rs L r j ⊎ (K1 j → ⊥) → ⊥
      by (inl o) = z r o
      by (inr o) = o k
