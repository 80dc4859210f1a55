-- The context of a piece of work: boxes that are being dropped, roots whose references are of use, references in operands;
-- what memory is in a context, and what each kind of change makes of it.
use mathlib.Core.Path.{◌≡◌, refl, sym, ap, subst, ◌∙◌}
use mathlib.Core.Bool.{Bool, true, false, ◌&&◌, not}
use mathlib.Core.List.{List, [], ◌∷◌, ◌++◌}
use mathlib.Core.Option.{some}
use mathlib.Core.Logic.{◌⊎◌, inl, inr}
use Prim.Native.Nat.{ℕ, zero, suc, ◌+◌, ◌≤◌, ◌<◌}
use native.Mathlib.Omega.{arith}
use lib.ListN.{length}
use lib.Dec.{eqb}
use Rattle.language.specs.Base.{choose, at_place, set_at}
use Rattle.language.specs.Syntax.{Ty, int, dat, box, ref, mut}
use Rattle.language.specs.Meaning.{Loc, Value, int_v, con_v, box_v, ref_v, hole, Root, put_path}
pub use Rattle.simulation.specs.Borrows.{Has, has_this, has_rest, Clear, Unseen}
use Rattle.simulation.proofs.Machine.{Kit, Place}
use Rattle.simulation.proofs.Memory.{no_some, some_is, same_or, at_put_same, at_put_other, at_old, at_more, put_length, more_length, Pl, At, Lay, Fits, Ext, Live, flag_of, Refers, Owns, Sits, Mem, Kind, mem_words, mem_write, mem_add, own_put, own_more, ext_more}
use Rattle.simulation.proofs.Dying.{hush, NotIn, BelowAll, hush_put, hush_live, quiet_live}
use Rattle.simulation.proofs.Pointers.{Spot, spot_word, spot_put}
use Rattle.simulation.proofs.Boxes.{boxes, In, in_front, in_boxes}

-- a reference in an operand: what it refers to, the address of its word, the type referred to
pub record Flying : Type 0 where
  pub loc : Loc
  pub at : ℕ
  pub ty : Ty

-- a box that's being dropped
pub record Dying : Type 0 where
  pub root : ℕ
  pub pl : Pl

pub record Ctx : Type 0 where
  pub dying : List Dying
  pub held : List ℕ
  pub flying : List Flying

pub has_none : {A : Type 0} {x : A} → Has x [] → ⊥
has_none h = elim h [ ]

pub has_front : {A : Type 0} {x : A} (xs : List A) {ys : List A} → Has x ys → Has x (xs ++ ys)
has_front [] h = h
has_front (x ∷ xs) h = has_rest (has_front xs h)

pub has_left : {A : Type 0} {x : A} {xs : List A} (ys : List A) → Has x xs → Has x (xs ++ ys)
has_left ys (has_this e) = has_this e
has_left ys (has_rest h) = has_rest (has_left ys h)

abbrev pub roots_in_dying : List Dying → List ℕ
roots_in_dying [] = []
roots_in_dying (d ∷ D) = d.root ∷ roots_in_dying D

abbrev pub locs : List Flying → List Loc
locs [] = []
locs (f ∷ fs) = f.loc ∷ locs fs

pub has_loc : (f : Flying) (fs : List Flying) → Has f fs → Has f.loc (locs fs)
has_loc f (x ∷ fs) (has_this e) = has_this (ap (λ (k : Flying). k.loc) e)
has_loc f (x ∷ fs) (has_rest h) = has_rest (has_loc f fs h)
has_loc f [] h = elim h [ ]

-- the roots that memory speaks of
abbrev pub awake : Ctx → List Root → List Root
awake Z rs = hush (roots_in_dying Z.dying) rs

abbrev pub with_held : List ℕ → Ctx → Ctx
with_held hs Z = record { dying = Z.dying; held = hs; flying = Z.flying }

abbrev pub with_flying : List Flying → Ctx → Ctx
with_flying fs Z = record { dying = Z.dying; held = Z.held; flying = fs }

abbrev pub with_dying : Dying → Ctx → Ctx
with_dying d Z = record { dying = d ∷ Z.dying; held = Z.held; flying = Z.flying }

-- a value at an address, as a reference in an operand
abbrev pub fly_ty : ℕ → Loc → Ty → List Flying → List Flying
fly_ty a l int fs = fs
fly_ty a l (dat d) fs = fs
fly_ty a l (box t) fs = fs
fly_ty a l (ref t) fs = record { loc = l; at = a; ty = t } ∷ fs
fly_ty a l (mut t) fs = record { loc = l; at = a; ty = t } ∷ fs

abbrev pub fly : ℕ → Ty → Value → List Flying → List Flying
fly a t (int_v k) fs = fs
fly a t (con_v k vs) fs = fs
fly a t (box_v r) fs = fs
fly a t (ref_v l) fs = fly_ty a l t fs
fly a t hole fs = fs

pub record Dead (K : Kit) (L : List Pl) (rs : List Root) (d : Dying) : Type 0 where
  pub root : Root
  pub lives : Live rs d.root root
  pub is : at_place L d.root ≡ some d.pl
  pub words : root.words ≡ K.size d.pl.ty
  pub within : d.pl.at + K.size d.pl.ty ≤ K.lent.heap
  pub boxed : d.pl.box ≡ true

-- memory in a context: ws are the roots that it speaks of
pub record Core (K : Kit) (Z : Ctx) (bound : ℕ) (L : List Pl) (rs ws : List Root) (w : ℕ → ℕ) : Type 0 where
  pub mem : Mem K bound L ws w
  pub dead : (d : Dying) → Has d Z.dying → Dead K L rs d
  pub inside : (r j : ℕ) → Owns K ws L r j → j < K.lent.heap → In j (boxes rs L)
  pub named : (r : ℕ) → Has r Z.held → (x : Root) (y : Pl) (l : Loc) (u : Ty) → Live ws r x → at_place L r ≡ some y → x.val ≡ ref_v l → Refers y.ty u → Spot K L ws l (w y.at) u
  pub flown : (f : Flying) → Has f Z.flying → Spot K L ws f.loc (w f.at) f.ty
  pub high : (f : Flying) → Has f Z.flying → K.lent.heap ≤ f.at
  pub free : (f : Flying) → Has f Z.flying → (r : ℕ) → Owns K ws L r f.at → ⊥

not_dying : (D : List ℕ) (rs : List Root) (i : ℕ) (x : Root) → Live (hush D rs) i x → NotIn i D
not_dying [] rs i x h = tt
not_dying (r ∷ D) rs i x h = let z = quiet_live (hush D rs) r i x h in (z.1, not_dying D rs i x z.0)

pub awake_not : (Z : Ctx) (rs : List Root) (i : ℕ) (x : Root) → Live (awake Z rs) i x → NotIn i (roots_in_dying Z.dying)
awake_not Z rs i x h = not_dying (roots_in_dying Z.dying) rs i x h

pub awake_live : (Z : Ctx) (rs : List Root) (i : ℕ) (x : Root) → Live (awake Z rs) i x → Live rs i x
awake_live Z rs i x h = hush_live (roots_in_dying Z.dying) rs i x h

pub not_has : (D : List Dying) (i : ℕ) → NotIn i (roots_in_dying D) → (d : Dying) → Has d D → d.root ≡ i → ⊥
not_has (x ∷ D) i n1 d (has_this e) q = n1.0 (ap (λ (k : Dying). k.root) e ∙ q)
not_has (x ∷ D) i n1 d (has_rest h) q = not_has D i n1.1 d h q
not_has [] i n1 d h q = elim h [ ]

pub short : {A : Type 0} (xs : List A) (r : ℕ) (x : A) → at_place xs r ≡ some x → r < length xs
short [] r x h = absurd (no_some h)
short (z ∷ xs) zero x h = omega arith
short (z ∷ xs) (suc r) x h = let k = short xs r x h in omega arith

pub dying_below : (K : Kit) (L : List Pl) (rs : List Root) (D : List Dying) → ((d : Dying) → Has d D → Dead K L rs d) → BelowAll (roots_in_dying D) (length rs)
dying_below K L rs [] f = tt
dying_below K L rs (d ∷ D) f = (short rs d.root _ (f d (has_this refl)).lives.is, dying_below K L rs D (λ d1 h. f d1 (has_rest h)))

module _ (K : Kit) (F : Fits K) where
  -- a root owns its first word
  pub owns_first : {bound : ℕ} {L : List Pl} {ws : List Root} {w : ℕ → ℕ} (r : ℕ) (x : Root) (y : Pl) → Mem K bound L ws w → Live ws r x → at_place L r ≡ some y → Owns K ws L r y.at
  owns_first r x y m h e = let o = (m.laid r x y h e).order in let z = F.some_word y.ty in record { root = x; pl = y; lives = h; is = e; from = omega arith; upto = omega arith }

  pub spot_ws : (L : List Pl) (ws : List Root) (l : Loc) (a d : ℕ) (u : Ty) → d ≡ a → Spot K L ws l a u → Spot K L ws l d u
  spot_ws L ws l a d u e h = spot_word K F L ws l a d u e h

  -- less is asked
  pub core_less : {Z : Ctx} {bound : ℕ} {L : List Pl} {rs ws : List Root} {w : ℕ → ℕ} (hs : List ℕ) (fs : List Flying) → ((r : ℕ) → Has r hs → Has r Z.held) → ((f : Flying) → Has f fs → Has f Z.flying) → Core K Z bound L rs ws w → Core K (record { dying = Z.dying; held = hs; flying = fs }) bound L rs ws w
  core_less hs fs f g c = record { mem = c.mem; dead = c.dead; inside = c.inside; named = λ r h. c.named r (f r h); flown = λ x h. c.flown x (g x h); high = λ x h. c.high x (g x h); free = λ x h. c.free x (g x h) }

  pub core_wider : {Z : Ctx} {bound : ℕ} {L : List Pl} {rs ws : List Root} {w : ℕ → ℕ} (b2 : ℕ) → bound ≤ b2 → Core K Z bound L rs ws w → Core K Z b2 L rs ws w
  core_wider b2 h c = record { mem = Rattle.simulation.proofs.Memory.mem_wider K F _ b2 _ _ _ h c.mem; dead = c.dead; inside = c.inside; named = c.named; flown = c.flown; high = c.high; free = c.free }

  -- a reference in an operand
  pub core_fly : {Z : Ctx} {bound : ℕ} {L : List Pl} {rs ws : List Root} {w : ℕ → ℕ} (a : ℕ) (t : Ty) (v : Value) → K.lent.heap ≤ a → ((r : ℕ) → Owns K ws L r a → ⊥) → ((l : Loc) (u : Ty) → v ≡ ref_v l → Refers t u → Spot K L ws l (w a) u) → Core K Z bound L rs ws w → Core K (with_flying (fly a t v Z.flying) Z) bound L rs ws w
  core_fly a t (int_v k) h n1 sp c = c
  core_fly a t (con_v k vs) h n1 sp c = c
  core_fly a t (box_v k) h n1 sp c = c
  core_fly a int (ref_v l) h n1 sp c = c
  core_fly a (dat d) (ref_v l) h n1 sp c = c
  core_fly a (box d) (ref_v l) h n1 sp c = c
  core_fly {Z} {bound} {L} {rs} {ws} {w} a (ref u) (ref_v l) h n1 sp c = record { mem = c.mem; dead = c.dead; inside = c.inside; named = c.named; flown = λ f i. fl f i; high = λ f i. hi f i; free = λ f i. fr f i }
    where
      fl : (f : Flying) → Has f (record { loc = l; at = a; ty = u } ∷ Z.flying) → Spot K L ws f.loc (w f.at) f.ty
      fl f (has_this e) = subst (λ (k : Flying). Spot K L ws k.loc (w k.at) k.ty) e (sp l u refl refl)
      fl f (has_rest i) = c.flown f i

      hi : (f : Flying) → Has f (record { loc = l; at = a; ty = u } ∷ Z.flying) → K.lent.heap ≤ f.at
      hi f (has_this e) = subst (λ (k : Flying). K.lent.heap ≤ k.at) e h
      hi f (has_rest i) = c.high f i

      fr : (f : Flying) → Has f (record { loc = l; at = a; ty = u } ∷ Z.flying) → (r : ℕ) → Owns K ws L r f.at → ⊥
      fr f (has_this e) = subst (λ (k : Flying). (r : ℕ) → Owns K ws L r k.at → ⊥) e n1
      fr f (has_rest i) = c.free f i
  core_fly {Z} {bound} {L} {rs} {ws} {w} a (mut u) (ref_v l) h n1 sp c = record { mem = c.mem; dead = c.dead; inside = c.inside; named = c.named; flown = λ f i. fl f i; high = λ f i. hi f i; free = λ f i. fr f i }
    where
      fl : (f : Flying) → Has f (record { loc = l; at = a; ty = u } ∷ Z.flying) → Spot K L ws f.loc (w f.at) f.ty
      fl f (has_this e) = subst (λ (k : Flying). Spot K L ws k.loc (w k.at) k.ty) e (sp l u refl refl)
      fl f (has_rest i) = c.flown f i

      hi : (f : Flying) → Has f (record { loc = l; at = a; ty = u } ∷ Z.flying) → K.lent.heap ≤ f.at
      hi f (has_this e) = subst (λ (k : Flying). K.lent.heap ≤ k.at) e h
      hi f (has_rest i) = c.high f i

      fr : (f : Flying) → Has f (record { loc = l; at = a; ty = u } ∷ Z.flying) → (r : ℕ) → Owns K ws L r f.at → ⊥
      fr f (has_this e) = subst (λ (k : Flying). (r : ℕ) → Owns K ws L r k.at → ⊥) e n1
      fr f (has_rest i) = c.free f i
  core_fly a t hole h n1 sp c = c

  -- and taken out again: a reference in an operand is right
  pub fly_spot : (Z : Ctx) (bound : ℕ) (L : List Pl) (rs ws : List Root) (w : ℕ → ℕ) (a : ℕ) (t : Ty) (v : Value) → Core K (with_flying (fly a t v Z.flying) Z) bound L rs ws w → (l : Loc) (u : Ty) → v ≡ ref_v l → Refers t u → Spot K L ws l (w a) u
  fly_spot Z bound L rs ws w a t v c l u e rf = by t rf (subst (λ (v1 : Value). Core K (with_flying (fly a t v1 Z.flying) Z) bound L rs ws w) e c)
    where
      by : (t1 : Ty) → Refers t1 u → Core K (with_flying (fly_ty a l t1 Z.flying) Z) bound L rs ws w → Spot K L ws l (w a) u
      by int r1 c1 = absurd r1
      by (dat d) r1 c1 = absurd r1
      by (box d) r1 c1 = absurd r1
      by (ref u1) r1 c1 = subst (λ (k : Ty). Spot K L ws l (w a) k) r1 (c1.flown _ (has_this refl))
      by (mut u1) r1 c1 = subst (λ (k : Ty). Spot K L ws l (w a) k) r1 (c1.flown _ (has_this refl))

  has_fly : (a : ℕ) (t : Ty) (v : Value) (fs : List Flying) (f : Flying) → Has f fs → Has f (fly a t v fs)
  has_fly a t (int_v k) fs f h = h
  has_fly a t (con_v k vs) fs f h = h
  has_fly a t (box_v k) fs f h = h
  has_fly a int (ref_v l) fs f h = h
  has_fly a (dat d) (ref_v l) fs f h = h
  has_fly a (box d) (ref_v l) fs f h = h
  has_fly a (ref d) (ref_v l) fs f h = has_rest h
  has_fly a (mut d) (ref_v l) fs f h = has_rest h
  has_fly a t hole fs f h = h

  pub core_unfly : {Z : Ctx} {bound : ℕ} {L : List Pl} {rs ws : List Root} {w : ℕ → ℕ} (a : ℕ) (t : Ty) (v : Value) → Core K (with_flying (fly a t v Z.flying) Z) bound L rs ws w → Core K Z bound L rs ws w
  core_unfly {Z} a t v c = core_less Z.held Z.flying (λ r h. h) (λ f h. has_fly a t v Z.flying f h) c

  -- words change that nobody owns, and that are no operand's
  pub core_words : {Z : Ctx} {bound : ℕ} {L : List Pl} {rs ws : List Root} {w : ℕ → ℕ} (w' : ℕ → ℕ) → ((r j : ℕ) → Owns K ws L r j → w' j ≡ w j) → ((f : Flying) → Has f Z.flying → w' f.at ≡ w f.at) → Core K Z bound L rs ws w → Core K Z bound L rs ws w'
  core_words {Z} {bound} {L} {rs} {ws} {w} w' f g c = record {
    mem = mem_words K F bound L ws w w' c.mem f;
    dead = c.dead;
    inside = c.inside;
    named = λ r h x y l u lv e ev rf. spot_ws L ws l (w y.at) (w' y.at) u (f r y.at (owns_first r x y c.mem lv e)) (c.named r h x y l u lv e ev rf);
    flown = λ x h. spot_ws L ws x.loc (w x.at) (w' x.at) x.ty (g x h) (c.flown x h);
    high = c.high;
    free = c.free;
  }

  -- a root's value is written at q: what's new is no reference
  pub core_put : {Z : Ctx} {bound : ℕ} {L : List Pl} {rs : List Root} {w : ℕ → ℕ} (w' : ℕ → ℕ) (r : ℕ) (x : Root) (q : List ℕ) (new : Value) → Live (awake Z rs) r x → Clear Z.held (locs Z.flying) rs r q
      → ((l : Loc) → put_path q new x.val ≡ ref_v l → ⊥)
      → Mem K bound L (set_at (awake Z rs) r (record { live = true; val = put_path q new x.val; words = x.words })) w'
      → ((i j : ℕ) → Owns K (awake Z rs) L i j → (r ≡ i → ⊥) → w' j ≡ w j) → ((f : Flying) → Has f Z.flying → w' f.at ≡ w f.at)
      → boxes (set_at rs r (record { live = true; val = put_path q new x.val; words = x.words })) L ≡ boxes rs L
      → Core K Z bound L rs (awake Z rs) w → Core K Z bound L (set_at rs r (record { live = true; val = put_path q new x.val; words = x.words })) (awake Z (set_at rs r (record { live = true; val = put_path q new x.val; words = x.words }))) w'
  core_put {Z} {bound} {L} {rs} {w} w' r x q new lv cl nr m f g eb c =
      let v : Root = record { live = true; val = put_path q new x.val; words = x.words } in
      let ws : List Root = awake Z rs in
      let nd = awake_not Z rs r x lv in
      let rs2 : List Root = set_at rs r v in
      subst (λ (k : List Root). Core K Z bound L rs2 k w') (sym (hush_put (roots_in_dying Z.dying) rs r v nd))
      (record {
        mem = m;
        dead = λ d h. (let z = c.dead d h in record { root = z.root; lives = record { is = at_put_other rs r d.root v (λ e. not_has Z.dying r nd d h (sym e)) ∙ z.lives.is; lives = z.lives.lives }; is = z.is; words = z.words; within = z.within; boxed = z.boxed });
        inside = λ i j o h. subst (λ (us : List Place). In j us) (sym eb) (c.inside i j (own_put K F L ws r i j x v lv o).0 h);
        named = λ i h x1 y l u lv1 e ev rf. two i h x1 y l u e ev rf (same_or r i) lv1;
        flown = λ f1 h. spot_ws L _ f1.loc (w f1.at) (w' f1.at) f1.ty (g f1 h) (spot_put K F L ws f1.loc (w f1.at) f1.ty r x q new x.words lv (cl.1 f1.loc (has_loc f1 Z.flying h)) (c.flown f1 h));
        high = c.high;
        free = λ f1 h i o. c.free f1 h i (own_put K F L ws r i f1.at x v lv o).0;
      })
    where
      two : (i : ℕ) → Has i Z.held → (x1 : Root) (y : Pl) (l : Loc) (u : Ty) → at_place L i ≡ some y → x1.val ≡ ref_v l → Refers y.ty u → (r ≡ i) ⊎ (r ≡ i → ⊥) → Live (set_at (awake Z rs) r (record { live = true; val = put_path q new x.val; words = x.words })) i x1 → Spot K L (set_at (awake Z rs) r (record { live = true; val = put_path q new x.val; words = x.words })) l (w' y.at) u
      two i h x1 y l u e ev rf (inl q1) lv1 =
          let v : Root = record { live = true; val = put_path q new x.val; words = x.words } in
          let e1 : v ≡ x1 = some_is (sym (subst (λ (k : ℕ). at_place (set_at (awake Z rs) r v) k ≡ some v) q1 (at_put_same (awake Z rs) r x v lv.is)) ∙ lv1.is) in
          absurd (nr l (ap (λ (k : Root). k.val) e1 ∙ ev))
      two i h x1 y l u e ev rf (inr q1) lv1 =
          let v : Root = record { live = true; val = put_path q new x.val; words = x.words } in
          let ws : List Root = awake Z rs in
          let lv2 : Live ws i x1 = record { is = sym (at_put_other ws r i v q1) ∙ lv1.is; lives = lv1.lives } in
          spot_ws L _ l (w y.at) (w' y.at) u (f i y.at (owns_first i x1 y c.mem lv2 e) q1)
          (spot_put K F L ws l (w y.at) u r x q new x.words lv (λ el ins1. cl.0 i h x1 (awake_live Z rs i x1 lv2) l ev el ins1) (c.named i h x1 y l u lv2 e ev rf))

  -- one root more; if it holds a reference, that is right
  pub in_added : (rs : List Root) (L : List Pl) (v : Root) (y : Pl) (j : ℕ) → length L ≡ length rs → In j (boxes rs L) → In j (boxes (rs ++ (v ∷ [])) (L ++ (y ∷ [])))
  in_added [] L v y j e h = elim h [ ]
  in_added (x ∷ rs) [] v y j e h = elim h [ ]
  in_added (x ∷ rs) (z ∷ L) v y j e h = by (x.live && not (eqb x.words 0)) h (in_added rs L v y j (omega arith))
    where
      by : (t : Bool) → In j (choose t (record { at = z.at; size = x.words } ∷ boxes rs L) (boxes rs L)) → (In j (boxes rs L) → In j (boxes (rs ++ (v ∷ [])) (L ++ (y ∷ [])))) → In j (choose t (record { at = z.at; size = x.words } ∷ boxes (rs ++ (v ∷ [])) (L ++ (y ∷ []))) (boxes (rs ++ (v ∷ [])) (L ++ (y ∷ []))))
      by true (Rattle.simulation.proofs.Boxes.in_this a e1) k = Rattle.simulation.proofs.Boxes.in_this a e1
      by true (Rattle.simulation.proofs.Boxes.in_rest a) k = Rattle.simulation.proofs.Boxes.in_rest (k a)
      by false a k = k a
