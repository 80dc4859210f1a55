-- Parts of data: the offset and the type along a path; a part is laid there, and written there.
use mathlib.Core.Path.{◌≡◌, refl, sym, ap, subst, ◌∙◌}
use mathlib.Core.List.{List, [], ◌∷◌, ◌++◌}
use mathlib.Core.Option.{Option, some}
use mathlib.Core.Logic.{◌⊎◌, inl, inr}
use Prim.Native.Nat.{ℕ, zero, suc, ◌+◌, ◌≤◌, ◌<◌}
use native.Mathlib.Omega.{arith}
use mathlib.Core.Bool.{Bool, true, false, not}
use lib.Dec.{leb, T, leb→le, nleb→lt}
use Rattle.language.specs.Base.{Lexeme, from_option, if_some, at_place}
use Rattle.language.specs.Syntax.{Ty, dat}
use Rattle.language.specs.Meaning.{Value, con_v, hole, Values, nil_v, cons_v, nth_v, put_v, at_path, put_path}
pub use Rattle.simulation.specs.Borrows.{Inside}
use Rattle.simulation.proofs.Machine.{Kit, Info}
use Rattle.simulation.proofs.Memory.{no_some, some_is, same_or, Pl, Lay, Lays, total, Fits, flag_of, copied, copied_all}

abbrev pub field_off : Kit → List Ty → ℕ → ℕ
field_off K [] i = 0
field_off K (t ∷ ts) zero = 0
field_off K (t ∷ ts) (suc i) = K.size t + field_off K ts i

-- one step into data; R is said of the part, its type and its offset
pub record Down (K : Kit) (i : ℕ) (v : Value) (t : Ty) (R : Value → Ty → ℕ → Type 0) : Type 0 where
  pub word : Lexeme
  pub vs : Values
  pub info : Info
  pub part : Value
  pub ty : Ty
  pub is : v ≡ con_v word vs
  pub known : K.info word ≡ some info
  pub nth : nth_v vs i ≡ some part
  pub field : at_place info.fields i ≡ some ty
  pub rest : R part ty (1 + field_off K info.fields i)

-- the path leads from v of type t to x of type u, at offset o
abbrev pub Goes : Kit → List ℕ → Value → Ty → ℕ → Ty → Value → Type 0
Goes K [] v t o u x = (o ≡ 0) × (t ≡ u) × (v ≡ x)
Goes K (i ∷ is) v t o u x = Down K i v t (λ v1 t1 o1. (o2 : ℕ) × ((o ≡ o1 + o2) × Goes K is v1 t1 o2 u x))

pub goes_at : (K : Kit) (is : List ℕ) (v : Value) (t : Ty) (o : ℕ) (u : Ty) (x : Value) → Goes K is v t o u x → at_path is v ≡ some x
goes_at K [] v t o u x g = ap some g.2
goes_at K (i ∷ is) v t o u x g = ap (at_path (i ∷ is)) g.is ∙ (ap (λ (z : Option Value). if_some z (at_path is)) g.nth ∙ goes_at K is g.part g.ty g.rest.0 u x g.rest.1.1)

-- one step more
pub goes_more : (K : Kit) (is : List ℕ) (i : ℕ) (v : Value) (t : Ty) (o : ℕ) (u : Ty) (x : Value) (R : Value → Ty → ℕ → Type 0) → Goes K is v t o u x → (d : Down K i x u R) → Goes K (is ++ (i ∷ [])) v t (o + (1 + field_off K d.info.fields i)) d.ty d.part
goes_more K [] i v t o u x R g d = let g0 = g.0 in record { word = d.word; vs = d.vs; info = d.info; part = d.part; ty = d.ty; is = g.2 ∙ d.is; known = d.known; nth = d.nth; field = d.field; rest = (0, (omega arith, (refl, refl, refl))) }
goes_more K (j ∷ is) i v t o u x R g d =
    let e = g.rest.1.0 in
    record {
      word = g.word;
      vs = g.vs;
      info = g.info;
      part = g.part;
      ty = g.ty;
      is = g.is;
      known = g.known;
      nth = g.nth;
      field = g.field;
      rest = (g.rest.0 + (1 + field_off K d.info.fields i), (omega arith, goes_more K is i g.part g.ty g.rest.0 u x R g.rest.1.1 d));
    }

-- WRITING AT q: a path that isn't strictly inside leads to the same offset and type
nth_put_same : (vs : Values) (i : ℕ) (v x : Value) → nth_v vs i ≡ some v → nth_v (put_v vs i x) i ≡ some x
nth_put_same nil_v i v x e = absurd (no_some e)
nth_put_same (cons_v y vs) zero v x e = refl
nth_put_same (cons_v y vs) (suc i) v x e = nth_put_same vs i v x e

nth_put_other : (vs : Values) (i j : ℕ) (x : Value) → (i ≡ j → ⊥) → nth_v (put_v vs i x) j ≡ nth_v vs j
nth_put_other nil_v i j x h = refl
nth_put_other (cons_v y vs) zero zero x h = absurd (h refl)
nth_put_other (cons_v y vs) zero (suc j) x h = refl
nth_put_other (cons_v y vs) (suc i) zero x h = refl
nth_put_other (cons_v y vs) (suc i) (suc j) x h = nth_put_other vs i j x (λ e. h (ap suc e))

pub goes_put : (K : Kit) (q is : List ℕ) (v new : Value) (t : Ty) (o : ℕ) (u : Ty) (x : Value) → (Inside q is → ⊥) → Goes K is v t o u x → (y : Value) × Goes K is (put_path q new v) t o u y
goes_put K q [] v new t o u x nb g = (put_path q new v, (g.0, g.1, refl))
goes_put K [] (j ∷ js) v new t o u x nb g = absurd (nb (j, (js, refl)))
goes_put K (i ∷ q) (j ∷ js) v new t o u x nb g = by (same_or i j) (λ h. goes_put K q js g.part new g.ty g.rest.0 u x h g.rest.1.1)
  where
    whole : put_path (i ∷ q) new v ≡ con_v g.word (put_v g.vs i (from_option (nth_v g.vs i) hole (put_path q new)))
    whole = ap (put_path (i ∷ q) new) g.is

    by : (i ≡ j) ⊎ (i ≡ j → ⊥) → ((Inside q js → ⊥) → (y : Value) × Goes K js (put_path q new g.part) g.ty g.rest.0 u y) → (y : Value) × Goes K (j ∷ js) (put_path (i ∷ q) new v) t o u y
    by (inl e) ih =
        let r = ih (λ z. nb (z.0, (z.1.0, ap (λ (k : ℕ). k ∷ js) (sym e) ∙ ap (λ (ks : List ℕ). i ∷ ks) z.1.1))) in
        let e1 : nth_v g.vs i ≡ some g.part = subst (λ (k : ℕ). nth_v g.vs k ≡ some g.part) (sym e) g.nth in
        let e2 : nth_v (put_v g.vs i (from_option (nth_v g.vs i) hole (put_path q new))) j ≡ some (put_path q new g.part) = subst (λ (k : ℕ). nth_v (put_v g.vs i (from_option (nth_v g.vs i) hole (put_path q new))) k ≡ some (put_path q new g.part)) e (nth_put_same g.vs i g.part _ e1 ∙ ap (λ (z : Option Value). some (from_option z hole (put_path q new))) e1) in
        (r.0, record { word = g.word; vs = put_v g.vs i (from_option (nth_v g.vs i) hole (put_path q new)); info = g.info; part = put_path q new g.part; ty = g.ty; is = whole; known = g.known; nth = e2; field = g.field; rest = (g.rest.0, (g.rest.1.0, r.1)) })
    by (inr h) ih =
        (x, record { word = g.word; vs = put_v g.vs i (from_option (nth_v g.vs i) hole (put_path q new)); info = g.info; part = g.part; ty = g.ty; is = whole; known = g.known; nth = nth_put_other g.vs i j _ h ∙ g.nth; field = g.field; rest = g.rest })

-- what is written there is there
pub goes_flag : (K : Kit) (is : List ℕ) (v : Value) (t : Ty) (o : ℕ) (u : Ty) (x new : Value) → Goes K is v t o u x → flag_of new ≡ 1 → flag_of (put_path is new v) ≡ 1
goes_flag K [] v t o u x new g f = f
goes_flag K (i ∷ is) v t o u x new g f = ap (λ (k : Value). flag_of (put_path (i ∷ is) new k)) g.is

-- A PART IS LAID; what is there when it's written
abbrev pub But : (ℕ → ℕ) → (ℕ → ℕ) → ℕ → ℕ → Type 0
But w w' a s = ((j : ℕ) → j < a → w' j ≡ w j) × ((j : ℕ) → a + s ≤ j → w' j ≡ w j)

pub record Part (K : Kit) (L : List Pl) (w : ℕ → ℕ) (a s o : ℕ) (ty : Ty) (v : Value) (Whole : (ℕ → ℕ) → Value → Type 0) : Type 0 where
  pub lay : Lay K L w (a + o) ty v
  pub within : o + K.size ty ≤ s
  pub back : (w' : ℕ → ℕ) (x : Value) → But w w' (a + o) (K.size ty) → Lay K L w' (a + o) ty x → flag_of x ≡ 1 → Whole w' x

pub nth_part : (K : Kit) → Fits K → (L : List Pl) (w : ℕ → ℕ) (a : ℕ) (ts : List Ty) (vs : Values) (i : ℕ) (v : Value) (u : Ty) → Lays K L w a ts vs → nth_v vs i ≡ some v → at_place ts i ≡ some u → Part K L w a (total K ts) (field_off K ts i) u v (λ w' x. Lays K L w' a ts (put_v vs i x))
nth_part K F L w a ts nil_v i v u y e f = absurd (no_some e)
nth_part K F L w a [] (cons_v v0 vs) i v u y e f = absurd (no_some f)
nth_part K F L w a (t0 ∷ ts) (cons_v v0 vs) zero v u y e f =
    let q : v0 ≡ v = some_is e in let q1 : t0 ≡ u = some_is f in
    let q2 : t0 ≡ y.0 = cc in let q3 : ts ≡ y.1.0 = cc in
    let z : a ≡ a + 0 = omega arith in
    let l0 : Lay K L w a u v0 = subst (λ (x : Ty). Lay K L w a x v0) (sym q2 ∙ q1) y.1.1.1 in
    let sz : K.size t0 ≡ K.size u = ap K.size q1 in
    record {
      lay = subst (λ (x : Value). Lay K L w (a + 0) u x) q (subst (λ (x : ℕ). Lay K L w x u v0) z l0);
      within = omega arith;
      back = λ w' x h l fx. (
        y.0,
        (
          y.1.0,
          (
            y.1.1.0,
            subst (λ (k : Ty). Lay K L w' a k x) (sym q1 ∙ q2) (subst (λ (k : ℕ). Lay K L w' k u x) (sym z) l),
            (let s2 : K.size y.0 ≡ K.size u = ap K.size (sym q2 ∙ q1) in copied_all K F L w w' (a + K.size y.0) (a + K.size y.0) y.1.0 vs y.1.1.2 (λ j k. h.1 ((a + K.size y.0) + j) (omega arith))),
            fx,
          ),
        ),
      );
    }
nth_part K F L w a (t0 ∷ ts) (cons_v v0 vs) (suc i) v u y e f =
    let q2 : t0 ≡ y.0 = cc in let q3 : ts ≡ y.1.0 = cc in
    let l1 : Lays K L w (a + K.size t0) ts vs = subst (λ (x : Ty). Lays K L w (a + K.size x) ts vs) (sym q2) (subst (λ (x : List Ty). Lays K L w (a + K.size y.0) x vs) (sym q3) y.1.1.2) in
    let l0 : Lay K L w a t0 v0 = subst (λ (x : Ty). Lay K L w a x v0) (sym q2) y.1.1.1 in
    let r = nth_part K F L w (a + K.size t0) ts vs i v u l1 e f in
    let h = r.within in
    let z : (a + K.size t0) + field_off K ts i ≡ a + (K.size t0 + field_off K ts i) = omega arith in
    record {
      lay = subst (λ (x : ℕ). Lay K L w x u v) z r.lay;
      within = omega arith;
      back = λ w' x h2 l fx. (
        t0,
        (
          ts,
          (
            refl,
            copied K F L w w' a a t0 v0 l0 (λ j k. h2.0 (a + j) (omega arith)),
            r.back w' x (subst (λ (k : ℕ). But w w' k (K.size u)) (sym z) h2) (subst (λ (k : ℕ). Lay K L w' k u x) (sym z) l) fx,
            y.1.1.3,
          ),
        ),
      );
    }

-- data laid, taken apart
pub record DataLaid (K : Kit) (L : List Pl) (w : ℕ → ℕ) (a : ℕ) (t : Ty) (k : Lexeme) (vs : Values) (m : Info) : Type 0 where
  pub home : t ≡ dat m.home
  pub tag : w a ≡ m.tag
  pub lays : Lays K L w (a + 1) m.fields vs

pub data_laid : (K : Kit) (L : List Pl) (w : ℕ → ℕ) (a : ℕ) (t : Ty) (v : Value) (k : Lexeme) (vs : Values) (m : Info) → v ≡ con_v k vs → K.info k ≡ some m → Lay K L w a t v → DataLaid K L w a t k vs m
data_laid K L w a t v k vs m e f y =
    let y1 : Lay K L w a t (con_v k vs) = subst (λ (x : Value). Lay K L w a t x) e y in
    let q : y1.0 ≡ m = some_is (sym y1.1.0 ∙ f) in
    record { home = y1.1.1 ∙ ap (λ (x : Info). dat x.home) q; tag = y1.1.2 ∙ ap (λ (x : Info). x.tag) q; lays = subst (λ (x : Info). Lays K L w (a + 1) x.fields vs) q y1.1.3 }

pub at_part : (K : Kit) → Fits K → (L : List Pl) (w : ℕ → ℕ) (is : List ℕ) (a : ℕ) (t : Ty) (v : Value) (o : ℕ) (u : Ty) (old : Value) → Lay K L w a t v → Goes K is v t o u old → Part K L w a (K.size t) o u old (λ w' x. Lay K L w' a t (put_path is x v))
at_part K F L w [] a t v o u old y g =
    let z : a ≡ a + o = (let g0 = g.0 in omega arith) in let s : K.size t ≡ K.size u = ap K.size g.1 in let g0 = g.0 in
    record {
      lay = subst (λ (k : ℕ). Lay K L w k u old) z (subst (λ (k : Ty). Lay K L w a k old) g.1 (subst (λ (x : Value). Lay K L w a t x) g.2 y));
      within = omega arith;
      back = λ w' x h l fx. subst (λ (k : Ty). Lay K L w' a k x) (sym g.1) (subst (λ (k : ℕ). Lay K L w' k u x) (sym z) l);
    }
at_part K F L w (i ∷ is) a t v o u old y g =
    let m = g.info in
    let dl = data_laid K L w a t v g.word g.vs m g.is g.known y in
    let sz : 1 + total K m.fields ≤ K.size t = subst (λ (t1 : Ty). 1 + total K m.fields ≤ K.size t1) (sym dl.home) (F.inside g.word m g.known) in
    let fo : ℕ = field_off K m.fields i in
    let r = nth_part K F L w (a + 1) m.fields g.vs i g.part g.ty dl.lays g.nth g.field in
    let x2 = at_part K F L w is ((a + 1) + fo) g.ty g.part g.rest.0 u old r.lay g.rest.1.1 in
    let h1 = r.within in let h2 = x2.within in let e = g.rest.1.0 in
    let z : ((a + 1) + fo) + g.rest.0 ≡ a + o = omega arith in
    record {
      lay = subst (λ (j : ℕ). Lay K L w j u old) z x2.lay;
      within = omega arith;
      back = λ w' x1 h l fx. (
          let h3 = subst (λ (j : ℕ). But w w' j (K.size u)) (sym z) h in
          let inner = x2.back w' x1 h3 (subst (λ (j : ℕ). Lay K L w' j u x1) (sym z) l) fx in
          let wide : But w w' ((a + 1) + fo) (K.size g.ty) = ((λ j k. h3.0 j (omega arith)), (λ j k. h3.1 j (omega arith))) in
          let done = r.back w' (put_path is x1 g.part) wide inner (goes_flag K is g.part g.ty g.rest.0 u old x1 g.rest.1.1 fx) in
          let e3 : put_v g.vs i (put_path is x1 g.part) ≡ put_v g.vs i (from_option (nth_v g.vs i) hole (put_path is x1)) = ap (λ (k : Option Value). put_v g.vs i (from_option k hole (put_path is x1))) (sym g.nth) in
          let laid : Lay K L w' a t (con_v g.word (put_v g.vs i (put_path is x1 g.part))) = (m, (g.known, dl.home, h.0 a (omega arith) ∙ dl.tag, done)) in
          subst (λ (k : Value). Lay K L w' a t k) (sym (ap (put_path (i ∷ is) x1) g.is)) (subst (λ (k : Values). Lay K L w' a t (con_v g.word k)) e3 laid));
    }

pub le_or : (i j : ℕ) → (i ≤ j) ⊎ (j < i)
le_or i j = by (leb i j) refl
  where
    by : (z : Bool) → leb i j ≡ z → (i ≤ j) ⊎ (j < i)
    by true e = inl (leb→le i j (subst T (sym e) tt))
    by false e = inr (nleb→lt i j (subst (λ (z : Bool). T (not z)) (sym e) tt))
