-- References into data: an address that is right now; what lies there, and what writing there does.
use mathlib.Core.Path.{◌≡◌, refl, sym, ap, subst, ◌∙◌}
use mathlib.Core.Bool.{Bool, true}
use mathlib.Core.List.{List, [], ◌∷◌, ◌++◌}
use mathlib.Core.Option.{Option, some, none}
use mathlib.Core.Logic.{◌⊎◌, inl, inr}
use Prim.Native.Nat.{ℕ, ◌+◌, ◌≤◌, ◌<◌}
use native.Mathlib.Omega.{arith}
use Rattle.language.specs.Base.{Lexeme, choose, if_some, at_place, set_at}
use Rattle.language.specs.Syntax.{Ty}
use Rattle.language.specs.Meaning.{Loc, Value, int_v, con_v, box_v, ref_v, hole, Values, Root, State, nth_v, at_path, put_path, read_at, live_root, with_roots}
use Rattle.simulation.proofs.Machine.{Kit, Info}
use Rattle.simulation.proofs.Memory.{no_some, some_is, same_or, at_put_same, at_put_other, Pl, Lay, Fits, Live, flag_of, Owns, Mem, mem_write}
use Rattle.simulation.proofs.Paths.{field_off, Down, Goes, Inside, goes_at, goes_more, goes_put, But, Part, at_part, nth_part, DataLaid, data_laid}

-- l is a place of type u, at address a, now
pub record Spot (K : Kit) (L : List Pl) (rs : List Root) (l : Loc) (a : ℕ) (u : Ty) : Type 0 where
  pub root : Root
  pub pl : Pl
  pub off : ℕ
  pub val : Value
  pub lives : Live rs l.root root
  pub is : at_place L l.root ≡ some pl
  pub goes : Goes K l.path root.val pl.ty off u val
  pub at : a ≡ pl.at + off

module _ (K : Kit) (F : Fits K) where
  pub spot_word : (L : List Pl) (rs : List Root) (l : Loc) (a d : ℕ) (u : Ty) → d ≡ a → Spot K L rs l a u → Spot K L rs l d u
  spot_word L rs l a d u e h = record { root = h.root; pl = h.pl; off = h.off; val = h.val; lives = h.lives; is = h.is; goes = h.goes; at = e ∙ h.at }

  -- a root's value is written at q
  pub spot_put : (L : List Pl) (rs : List Root) (l : Loc) (a : ℕ) (u : Ty) (r : ℕ) (x : Root) (q : List ℕ) (new : Value) (k : ℕ) → Live rs r x → (l.root ≡ r → Inside q l.path → ⊥) → Spot K L rs l a u → Spot K L (set_at rs r (record { live = true; val = put_path q new x.val; words = k })) l a u
  spot_put L rs l a u r x q new k lv nb h = by (same_or r l.root)
    where
      by : (r ≡ l.root) ⊎ (r ≡ l.root → ⊥) → Spot K L (set_at rs r (record { live = true; val = put_path q new x.val; words = k })) l a u
      by (inl e) =
          let v1 : Root = record { live = true; val = put_path q new x.val; words = k } in
          let e1 : x ≡ h.root = some_is (sym lv.is ∙ subst (λ (i : ℕ). at_place rs i ≡ some h.root) (sym e) h.lives.is) in
          let g = goes_put K q l.path x.val new h.pl.ty h.off u h.val (nb (sym e)) (subst (λ (y : Root). Goes K l.path y.val h.pl.ty h.off u h.val) (sym e1) h.goes) in
          record { root = v1; pl = h.pl; off = h.off; val = g.0; lives = record { is = subst (λ (i : ℕ). at_place (set_at rs r v1) i ≡ some v1) e (at_put_same rs r x v1 lv.is); lives = refl }; is = h.is; goes = g.1; at = h.at }
      by (inr e) = record { root = h.root; pl = h.pl; off = h.off; val = h.val; lives = record { is = at_put_other rs r l.root _ e ∙ h.lives.is; lives = h.lives.lives }; is = h.is; goes = h.goes; at = h.at }

  -- a root as a whole is a spot
  pub spot_root : (L : List Pl) (rs : List Root) (r : ℕ) (x : Root) (y : Pl) → Live rs r x → at_place L r ≡ some y → Spot K L rs (record { root = r; path = [] }) y.at y.ty
  spot_root L rs r x y lv e = record { root = x; pl = y; off = 0; val = x.val; lives = lv; is = e; goes = (refl, refl, refl); at = omega arith }

  -- WHAT LIES AT A SPOT: its value, which words, whose they are; and what writing there makes of memory
  pub record Lies (bound : ℕ) (L : List Pl) (rs : List Root) (w : ℕ → ℕ) (l : Loc) (a : ℕ) (u : Ty) (v : Value) : Type 0 where
    pub lay : Lay K L w a u v
    pub root : Root
    pub lives : Live rs l.root root
    pub owned : (j : ℕ) → a ≤ j → j < a + K.size u → Owns K rs L l.root j
    pub written : (w' : ℕ → ℕ) (new : Value) → But w w' a (K.size u) → flag_of new ≡ 1 → flag_of v ≡ 1 → Lay K L w' a u new → Mem K bound L (set_at rs l.root (record { live = true; val = put_path l.path new root.val; words = root.words })) w'

  flag_put : (q : List ℕ) (v old new : Value) → at_path q v ≡ some old → flag_of new ≡ 1 → flag_of old ≡ 1 → (flag_of (put_path q new v) ≡ 1) × (flag_of v ≡ 1)
  flag_put [] v old new e f g = (f, ap flag_of (some_is e) ∙ g)
  flag_put (i ∷ q) (int_v k) old new e f g = absurd (no_some e)
  flag_put (i ∷ q) (con_v k vs) old new e f g = (refl, refl)
  flag_put (i ∷ q) (box_v k) old new e f g = absurd (no_some e)
  flag_put (i ∷ q) (ref_v k) old new e f g = absurd (no_some e)
  flag_put (i ∷ q) hole old new e f g = absurd (no_some e)

  read_spot : (s : State) (L : List Pl) (l : Loc) (a : ℕ) (u : Ty) (v : Value) → (h : Spot K L s.roots l a u) → read_at s l ≡ some v → h.val ≡ v
  read_spot s L l a u v h e =
      let e1 : live_root s l.root ≡ some h.root = ap (λ (o : Option Root). if_some o (λ x. choose x.live (some x) none)) h.lives.is ∙ ap (λ (t : Bool). choose t (some h.root) none) h.lives.lives in
      let e2 : read_at s l ≡ at_path l.path h.root.val = ap (λ (o : Option Root). if_some o (λ x. at_path l.path x.val)) e1 in
      some_is (sym (goes_at K l.path h.root.val h.pl.ty h.off u h.val h.goes) ∙ (sym e2 ∙ e))

  pub at_spot : (bound : ℕ) (L : List Pl) (s : State) (w : ℕ → ℕ) (l : Loc) (a : ℕ) (u : Ty) (v : Value) → Mem K bound L s.roots w → Spot K L s.roots l a u → read_at s l ≡ some v → Lies bound L s.roots w l a u v
  at_spot bound L s w l a u v m h er =
      let rs = s.roots in
      let ev = read_spot s L l a u v h er in
      let si = m.laid l.root h.root h.pl h.lives h.is in
      let pa = at_part K F L w l.path h.pl.at h.pl.ty h.root.val h.off u h.val si.lay h.goes in
      let ea = h.at in let wi = pa.within in let or = si.order in
      let own1 : (j : ℕ) → a ≤ j → j < a + K.size u → Owns K rs L l.root j = λ j g1 g2. record { root = h.root; pl = h.pl; lives = h.lives; is = h.is; from = omega arith; upto = omega arith } in
      record {
        lay = subst (λ (x : Value). Lay K L w a u x) ev (subst (λ (k : ℕ). Lay K L w k u h.val) (sym ea) pa.lay);
        root = h.root;
        lives = h.lives;
        owned = own1;
        written = λ w' new bt fn fv ly.
            (let fl = flag_put l.path h.root.val h.val new (goes_at K l.path h.root.val h.pl.ty h.off u h.val h.goes) fn (ap flag_of ev ∙ fv) in
            let bt2 : But w w' (h.pl.at + h.off) (K.size u) = subst (λ (k : ℕ). But w w' k (K.size u)) ea bt in
            mem_write K F bound L rs w w' l.root h.root _ h.pl m h.lives h.is
            (λ z. record { lay = pa.back w' new bt2 (subst (λ (k : ℕ). Lay K L w' k u new) ea ly) fn; order = or; flag = λ g. bt2.0 h.pl.flag (omega arith) ∙ (si.flag g ∙ (fl.1 ∙ sym fl.0)); full = λ g. fl.0; kind = si.kind })
            (λ i j o ne. outside w w' a (K.size u) j bt (λ g1 g2. ne (m.apart l.root i j (own1 j g1 g2) o))));
      }
    where
      outside : (w w' : ℕ → ℕ) (a z j : ℕ) → But w w' a z → (a ≤ j → j < a + z → ⊥) → w' j ≡ w j
      outside w w' a z j bt f = go1 (Rattle.simulation.proofs.Paths.le_or a j) (Rattle.simulation.proofs.Paths.le_or (a + z) j)
        where
          go1 : (a ≤ j) ⊎ (j < a) → (a + z ≤ j) ⊎ (j < a + z) → w' j ≡ w j
          go1 (inr x) y = bt.0 j x
          go1 (inl x) (inl y) = bt.1 j y
          go1 (inl x) (inr y) = absurd (f x y)

  -- A PART OF WHAT IS LOOKED AT is a spot: the address, the tag, and the fields before it
  pub spot_part : (L : List Pl) (s : State) (l : Loc) (a : ℕ) (u : Ty) (k : Lexeme) (vs : Values) (m : Info) (i : ℕ) (x : Value) (t : Ty) → Spot K L s.roots l a u → read_at s l ≡ some (con_v k vs) → K.info k ≡ some m → nth_v vs i ≡ some x → at_place m.fields i ≡ some t → Spot K L s.roots (record { root = l.root; path = l.path ++ (i ∷ []) }) (a + (1 + field_off K m.fields i)) t
  spot_part L s l a u k vs m i x t h er ek en ef =
      let d : Down K i h.val u (λ v1 t1 o1. Unit {0}) = record { word = k; vs = vs; info = m; part = x; ty = t; is = read_spot s L l a u (con_v k vs) h er; known = ek; nth = en; field = ef; rest = tt } in
      let ea = h.at in
      record { root = h.root; pl = h.pl; off = h.off + (1 + field_off K m.fields i); val = x; lives = h.lives; is = h.is; goes = goes_more K l.path i h.root.val h.pl.ty h.off u h.val (λ v1 t1 o1. Unit {0}) h.goes d; at = omega arith }

-- what is read at a spot among fewer roots is read there among all
pub spot_reads : (K : Kit) (F : Fits K) (L : List Pl) (s : State) (ws : List Root) (l : Loc) (a : ℕ) (u : Ty) (v : Value) → ((i : ℕ) (x : Root) → Live ws i x → Live s.roots i x) → Spot K L ws l a u → read_at s l ≡ some v → read_at (with_roots s ws) l ≡ some v
spot_reads K F L s ws l a u v f h e =
    let look : (s1 : State) → Live s1.roots l.root h.root → read_at s1 l ≡ at_path l.path h.root.val = λ s1 g. ap (λ (o : Option Root). if_some (if_some o (λ x. choose x.live (some x) none)) (λ x. at_path l.path x.val)) g.is ∙ ap (λ (t : Bool). if_some (choose t (some h.root) none) (λ x. at_path l.path x.val)) g.lives in
    look (with_roots s ws) h.lives ∙ (sym (look s (f l.root h.root h.lives)) ∙ e)
