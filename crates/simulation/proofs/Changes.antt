-- What becomes of memory in a context when a root comes, ends, begins to be dropped.
use mathlib.Core.Path.{◌≡◌, refl, sym, ap, subst, ◌∙◌}
use mathlib.Core.Bool.{Bool, true, false, not}
use mathlib.Core.List.{List, [], ◌∷◌, ◌++◌}
use mathlib.Core.Option.{some}
use mathlib.Core.Logic.{◌⊎◌, inl, inr}
use Prim.Native.Nat.{ℕ, ◌+◌, ◌≤◌, ◌<◌}
use native.Mathlib.Omega.{arith}
use lib.ListN.{length}
use lib.Dec.{T}
use Rattle.language.specs.Base.{at_place, set_at}
use Rattle.language.specs.Syntax.{Ty}
use Rattle.language.specs.Meaning.{Loc, ref_v, hole, Root}
use Rattle.simulation.proofs.Machine.{Kit, Place}
use Rattle.simulation.proofs.Memory.{some_is, same_or, at_put_same, at_put_other, at_old, at_more, put_length, Pl, Fits, Live, Refers, Owns, Sits, Mem, Kind, mem_words, mem_add, own_put, own_more}
use Rattle.simulation.proofs.Dying.{quiet, NotIn, hush_length, hush_put, hush_more, live_hush, quiet_live, quiet_length, quiet_at, owns_fewer, mem_fewer}
use Rattle.simulation.proofs.Pointers.{Spot}
use Rattle.simulation.proofs.Boxes.{boxes, In, in_apart, among}
use Rattle.simulation.proofs.Context.{Flying, Dying, Ctx, Has, has_this, has_rest, roots_in_dying, locs, has_loc, awake, with_held, with_dying, Unseen, Dead, Core, awake_not, awake_live, not_has, short, dying_below, owns_first, spot_ws, in_added}

no_bool : false ≡ true → ⊥
no_bool e = subst (λ (z : Bool). T (not z)) e tt

module _ (K : Kit) (F : Fits K) where
  spot_more : (L : List Pl) (ws : List Root) (y : Pl) (v : Root) (l : Loc) (a : ℕ) (u : Ty) → Spot K L ws l a u → Spot K (L ++ (y ∷ [])) (ws ++ (v ∷ [])) l a u
  spot_more L ws y v l a u h = record { root = h.root; pl = h.pl; off = h.off; val = h.val; lives = record { is = at_old ws (v ∷ []) l.root h.root h.lives.is; lives = h.lives.lives }; is = at_old L (y ∷ []) l.root h.pl h.is; goes = h.goes; at = h.at }

  -- one root more; if it holds a reference, that is right
  pub core_add : {Z : Ctx} {bound : ℕ} {L : List Pl} {rs : List Root} {w : ℕ → ℕ} (b2 : ℕ) (y : Pl) (v : Root) → Sits K (L ++ (y ∷ [])) w y v → ((r j : ℕ) → Owns K (awake Z rs) L r j → y.flag ≤ j → j < y.at + K.size y.ty → ⊥) → bound ≤ b2 → y.at + K.size y.ty ≤ b2
      → ((l : Loc) (u : Ty) → v.val ≡ ref_v l → Refers y.ty u → Spot K L (awake Z rs) l (w y.at) u)
      → ((f : Flying) → Has f Z.flying → y.flag ≤ f.at → f.at < y.at + K.size y.ty → ⊥)
      → ((j : ℕ) → y.flag ≤ j → j < y.at + K.size y.ty → j < K.lent.heap → In j (boxes (rs ++ (v ∷ [])) (L ++ (y ∷ []))))
      → Core K Z bound L rs (awake Z rs) w → Core K (with_held (length rs ∷ Z.held) Z) b2 (L ++ (y ∷ [])) (rs ++ (v ∷ [])) (awake Z (rs ++ (v ∷ []))) w
  core_add {Z} {bound} {L} {rs} {w} b2 y v st cl h1 h2 nsp off ins c =
      let ws : List Root = awake Z rs in
      let len : length ws ≡ length rs = hush_length (roots_in_dying Z.dying) rs in
      let long : length L ≡ length ws = c.mem.long in
      subst (λ (k : List Root). Core K (with_held (length rs ∷ Z.held) Z) b2 (L ++ (y ∷ [])) (rs ++ (v ∷ [])) k w) (sym (hush_more (roots_in_dying Z.dying) rs v (dying_below K L rs Z.dying c.dead)))
      (record {
        mem = mem_add K F bound b2 L ws w y v c.mem st cl h1 h2;
        dead = λ d h. (let z = c.dead d h in record { root = z.root; lives = record { is = at_old rs (v ∷ []) d.root z.root z.lives.is; lives = z.lives.lives }; is = at_old L (y ∷ []) d.root d.pl z.is; words = z.words; within = z.within; boxed = z.boxed });
        inside = λ i j o h. ins2 i j h (own_more K F L ws y v i j long o);
        named = λ i h x1 y1 l u lv e ev rf. nam i h x1 y1 l u lv e ev rf (at_more ws v x1 i lv.is) (at_more L y y1 i e);
        flown = λ f h. spot_more L ws y v f.loc (w f.at) f.ty (c.flown f h);
        high = c.high;
        free = λ f h i o. fre f h i (own_more K F L ws y v i f.at long o);
      })
    where
      ins2 : (i j : ℕ) → j < K.lent.heap → Owns K (awake Z rs) L i j ⊎ ((i ≡ length (awake Z rs)) × (y.flag ≤ j) × (j < y.at + K.size y.ty)) → In j (boxes (rs ++ (v ∷ [])) (L ++ (y ∷ [])))
      ins2 i j h (inl o) = in_added K F rs L v y j (c.mem.long ∙ hush_length (roots_in_dying Z.dying) rs) (c.inside i j o h)
      ins2 i j h (inr o) = ins j o.1 o.2 h

      fre : (f : Flying) → Has f Z.flying → (i : ℕ) → Owns K (awake Z rs) L i f.at ⊎ ((i ≡ length (awake Z rs)) × (y.flag ≤ f.at) × (f.at < y.at + K.size y.ty)) → ⊥
      fre f h i (inl o) = c.free f h i o
      fre f h i (inr o) = off f h o.1 o.2

      old : (i : ℕ) (x1 : Root) (y1 : Pl) → at_place (awake Z rs) i ≡ some x1 → at_place L i ≡ some y1 → Has i (length rs ∷ Z.held) → Has i Z.held
      old i x1 y1 e e1 (has_this q) = let k = short (awake Z rs) i x1 e in let len = hush_length (roots_in_dying Z.dying) rs in absurd (omega arith)
      old i x1 y1 e e1 (has_rest h) = h

      nam : (i : ℕ) → Has i (length rs ∷ Z.held) → (x1 : Root) (y1 : Pl) (l : Loc) (u : Ty) → Live (awake Z rs ++ (v ∷ [])) i x1 → at_place (L ++ (y ∷ [])) i ≡ some y1 → x1.val ≡ ref_v l → Refers y1.ty u → (at_place (awake Z rs) i ≡ some x1) ⊎ ((i ≡ length (awake Z rs)) × (v ≡ x1)) → (at_place L i ≡ some y1) ⊎ ((i ≡ length L) × (y ≡ y1)) → Spot K (L ++ (y ∷ [])) (awake Z rs ++ (v ∷ [])) l (w y1.at) u
      nam i h x1 y1 l u lv e ev rf (inl a1) (inl a2) = spot_more L (awake Z rs) y v l (w y1.at) u (c.named i (old i x1 y1 a1 a2 h) x1 y1 l u (record { is = a1; lives = lv.lives }) a2 ev rf)
      nam i h x1 y1 l u lv e ev rf (inl a1) (inr a2) = let k = short (awake Z rs) i x1 a1 in let k2 = a2.0 in let k3 = c.mem.long in absurd (omega arith)
      nam i h x1 y1 l u lv e ev rf (inr a1) (inl a2) = let k = short L i y1 a2 in let k2 = a1.0 in let k3 = c.mem.long in absurd (omega arith)
      nam i h x1 y1 l u lv e ev rf (inr a1) (inr a2) = spot_more L (awake Z rs) y v l (w y1.at) u (subst (λ (k : Pl). Spot K L (awake Z rs) l (w k.at) u) a2.1 (nsp l u (ap (λ (k : Root). k.val) a1.1 ∙ ev) (subst (λ (k : Pl). Refers k.ty u) (sym a2.1) rf)))

  -- a root ends
  abbrev pub gone_root : ℕ → Root
  gone_root k = record { live = false; val = hole; words = k }

  spot_end : (L : List Pl) (ws : List Root) (r : ℕ) (v : Root) (l : Loc) (a : ℕ) (u : Ty) → (l.root ≡ r → ⊥) → Spot K L ws l a u → Spot K L (set_at ws r v) l a u
  spot_end L ws r v l a u ne h = record { root = h.root; pl = h.pl; off = h.off; val = h.val; lives = record { is = at_put_other ws r l.root v (λ e. ne (sym e)) ∙ h.lives.is; lives = h.lives.lives }; is = h.is; goes = h.goes; at = h.at }

  pub core_end : {Z : Ctx} {bound : ℕ} {L : List Pl} {rs : List Root} {w : ℕ → ℕ} (b2 : ℕ) (w' : ℕ → ℕ) (r : ℕ) (x : Root) → Live (awake Z rs) r x → Unseen Z.held (locs Z.flying) rs r
      → Mem K b2 L (set_at (awake Z rs) r (gone_root x.words)) w'
      → ((i j : ℕ) → Owns K (awake Z rs) L i j → (r ≡ i → ⊥) → w' j ≡ w j) → ((f : Flying) → Has f Z.flying → w' f.at ≡ w f.at)
      → ((i j : ℕ) → Owns K (awake Z rs) L i j → (r ≡ i → ⊥) → j < K.lent.heap → In j (boxes (set_at rs r (gone_root x.words)) L))
      → Core K Z bound L rs (awake Z rs) w → Core K Z b2 L (set_at rs r (gone_root x.words)) (awake Z (set_at rs r (gone_root x.words))) w'
  core_end {Z} {bound} {L} {rs} {w} b2 w' r x lv un m f g ins c =
      let ws : List Root = awake Z rs in
      let v : Root = gone_root x.words in
      let nd = awake_not Z rs r x lv in
      subst (λ (k : List Root). Core K Z b2 L (set_at rs r v) k w') (sym (hush_put (roots_in_dying Z.dying) rs r v nd))
      (record {
        mem = m;
        dead = λ d h. (let z = c.dead d h in record { root = z.root; lives = record { is = at_put_other rs r d.root v (λ e. not_has Z.dying r nd d h (sym e)) ∙ z.lives.is; lives = z.lives.lives }; is = z.is; words = z.words; within = z.within; boxed = z.boxed });
        inside = λ i j o h. (let o2 = own_put K F L ws r i j x v lv o in ins i j o2.0 (λ e. no_bool (o2.1 (sym e))) h);
        named = λ i h x1 y l u lv1 e ev rf. nam i h x1 y l u lv1 e ev rf (same_or r i);
        flown = λ f1 h. spot_end L ws r v f1.loc (w' f1.at) f1.ty (un.1 f1.loc (has_loc f1 Z.flying h)) (spot_ws K F L ws f1.loc (w f1.at) (w' f1.at) f1.ty (g f1 h) (c.flown f1 h));
        high = c.high;
        free = λ f1 h i o. c.free f1 h i (own_put K F L ws r i f1.at x v lv o).0;
      })
    where
      nam : (i : ℕ) → Has i Z.held → (x1 : Root) (y : Pl) (l : Loc) (u : Ty) → Live (set_at (awake Z rs) r (gone_root x.words)) i x1 → at_place L i ≡ some y → x1.val ≡ ref_v l → Refers y.ty u → (r ≡ i) ⊎ (r ≡ i → ⊥) → Spot K L (set_at (awake Z rs) r (gone_root x.words)) l (w' y.at) u
      nam i h x1 y l u lv1 e ev rf (inl q1) =
          let v : Root = gone_root x.words in
          let e1 : v ≡ x1 = some_is (sym (subst (λ (k : ℕ). at_place (set_at (awake Z rs) r v) k ≡ some v) q1 (at_put_same (awake Z rs) r x v lv.is)) ∙ lv1.is) in
          absurd (no_bool (ap (λ (k : Root). k.live) e1 ∙ lv1.lives))
      nam i h x1 y l u lv1 e ev rf (inr q1) =
          let ws : List Root = awake Z rs in
          let lv2 : Live ws i x1 = record { is = sym (at_put_other ws r i (gone_root x.words) q1) ∙ lv1.is; lives = lv1.lives } in
          spot_end L ws r (gone_root x.words) l (w' y.at) u (λ el. un.0 i h x1 (awake_live Z rs i x1 lv2) l ev el)
          (spot_ws K F L ws l (w y.at) (w' y.at) u (f i y.at (owns_first K F i x1 y c.mem lv2 e) q1) (c.named i h x1 y l u lv2 e ev rf))

  -- a box begins to be dropped: memory no longer speaks of it
  spot_quiet : (L : List Pl) (ws : List Root) (r : ℕ) (l : Loc) (a : ℕ) (u : Ty) → (l.root ≡ r → ⊥) → Spot K L ws l a u → Spot K L (quiet ws r) l a u
  spot_quiet L ws r l a u ne h = record { root = h.root; pl = h.pl; off = h.off; val = h.val; lives = record { is = quiet_at ws r l.root (λ e. ne (sym e)) ∙ h.lives.is; lives = h.lives.lives }; is = h.is; goes = h.goes; at = h.at }

  pub core_dying : {Z : Ctx} {bound : ℕ} {L : List Pl} {rs : List Root} {w : ℕ → ℕ} (d : Dying) (x : Root) → Live (awake Z rs) d.root x → at_place L d.root ≡ some d.pl → d.pl.box ≡ true → Unseen Z.held (locs Z.flying) rs d.root → Core K Z bound L rs (awake Z rs) w → Core K (with_dying d Z) bound L rs (awake (with_dying d Z) rs) w
  core_dying {Z} {bound} {L} {rs} {w} d x lv e eb un c =
      let ws : List Root = awake Z rs in let r : ℕ = d.root in
      record {
        mem = mem_fewer K F bound L ws (quiet ws r) w (quiet_length ws r) (λ i z g. (quiet_live ws r i z g).0) c.mem;
        dead = λ d1 h. ded d1 h;
        inside = λ i j o h. c.inside i j (owns_fewer K F L ws (quiet ws r) i j (λ k z g. (quiet_live ws r k z g).0) o) h;
        named = λ i h x1 y l u lv1 e1 ev rf. (let z = quiet_live ws r i x1 lv1 in spot_quiet L ws r l (w y.at) u (λ el. un.0 i h x1 (awake_live Z rs i x1 z.0) l ev el) (c.named i h x1 y l u z.0 e1 ev rf));
        flown = λ f h. spot_quiet L ws r f.loc (w f.at) f.ty (un.1 f.loc (has_loc f Z.flying h)) (c.flown f h);
        high = c.high;
        free = λ f h i o. c.free f h i (owns_fewer K F L ws (quiet ws r) i f.at (λ k z g. (quiet_live ws r k z g).0) o);
      }
    where
      kd : Kind K d.pl x.words → (x.words ≡ K.size d.pl.ty) × (d.pl.at + K.size d.pl.ty ≤ K.lent.heap)
      kd (inl k) = (k.2, k.3)
      kd (inr k) = absurd (no_bool (sym k.0 ∙ eb))

      ded : (d1 : Dying) → Has d1 (d ∷ Z.dying) → Dead K L rs d1
      ded d1 (has_this q) = let k = kd (c.mem.laid d.root x d.pl lv e).kind in subst (λ (z : Dying). Dead K L rs z) q (record { root = x; lives = awake_live Z rs d.root x lv; is = e; words = k.0; within = k.1; boxed = eb })
      ded d1 (has_rest h) = c.dead d1 h

  -- and has been dropped: its place is free, and the words there may be anything
  pub core_dropped : {Z : Ctx} {bound : ℕ} {L : List Pl} {rs : List Root} {w : ℕ → ℕ} (w' : ℕ → ℕ) (d : Dying) (x : Root) → NotIn d.root (roots_in_dying Z.dying) → Live rs d.root x → x.words ≡ K.size d.pl.ty
      → ((i j : ℕ) → Owns K (awake (with_dying d Z) rs) L i j → d.pl.at ≤ j → j < d.pl.at + K.size d.pl.ty → ⊥)
      → ((j : ℕ) → ((d.pl.at ≤ j) × (j < d.pl.at + K.size d.pl.ty) → ⊥) → w' j ≡ w j)
      → Core K (with_dying d Z) bound L rs (awake (with_dying d Z) rs) w → Core K Z bound L (set_at rs d.root (gone_root x.words)) (awake Z (set_at rs d.root (gone_root x.words))) w'
  core_dropped {Z} {bound} {L} {rs} {w} w' d x nd lv ew cl f c =
      let ws : List Root = awake Z rs in let r : ℕ = d.root in let v : Root = gone_root x.words in
      let dd = c.dead d (has_this refl) in
      let sw = F.some_word d.pl.ty in
      let lvw : Live ws r x = live_hush (roots_in_dying Z.dying) rs r x nd lv in
      let am = among rs L r x d.pl v lv dd.is (omega arith) refl in
      let to : (i : ℕ) (z : Root) → Live (set_at ws r v) i z → Live (quiet ws r) i z = λ i z g. back1 i z g (same_or r i) in
      subst (λ (k : List Root). Core K Z bound L (set_at rs r v) k w') (sym (hush_put (roots_in_dying Z.dying) rs r v nd))
      (record {
        mem = mem_words K F bound L (set_at ws r v) w w' (mem_fewer K F bound L (quiet ws r) (set_at ws r v) w (put_length ws r v ∙ sym (quiet_length ws r)) to c.mem)
            (λ i j o. f j (λ g. cl i j (owns_fewer K F L (quiet ws r) (set_at ws r v) i j to o) g.0 g.1));
        dead = λ d1 h. (let z = c.dead d1 (has_rest h) in record { root = z.root; lives = record { is = at_put_other rs r d1.root v (λ e. not_has Z.dying r nd d1 h (sym e)) ∙ z.lives.is; lives = z.lives.lives }; is = z.is; words = z.words; within = z.within; boxed = z.boxed });
        inside = λ i j o h. (let o2 = owns_fewer K F L (quiet ws r) (set_at ws r v) i j to o in
            subst (λ (us : List Place). In j us) (sym am.gone) (in_apart j am.before am.behind _ (subst (λ (us : List Place). In j us) am.is (c.inside i j o2 h)) (λ g1 g2. cl i j o2 g1 (omega arith))));
        named = λ i h x1 y l u lv1 e1 ev rf. (let lv2 = to i x1 lv1 in spot_back l (w' y.at) u (spot_ws K F L (quiet ws r) l (w y.at) (w' y.at) u (f y.at (λ g. cl i y.at (owns_first K F i x1 y c.mem lv2 e1) g.0 g.1)) (c.named i h x1 y l u lv2 e1 ev rf)));
        flown = λ f1 h. (let hh = c.high f1 h in let dw = dd.within in spot_back f1.loc (w' f1.at) f1.ty (spot_ws K F L (quiet ws r) f1.loc (w f1.at) (w' f1.at) f1.ty (f f1.at (λ g. (let g1 = g.1 in omega arith))) (c.flown f1 h)));
        high = c.high;
        free = λ f1 h i o. c.free f1 h i (owns_fewer K F L (quiet ws r) (set_at ws r v) i f1.at to o);
      })
    where
      back1 : (i : ℕ) (z : Root) → Live (set_at (awake Z rs) d.root (gone_root x.words)) i z → (d.root ≡ i) ⊎ (d.root ≡ i → ⊥) → Live (quiet (awake Z rs) d.root) i z
      back1 i z g (inl q1) =
          let v : Root = gone_root x.words in let lvw : Live (awake Z rs) d.root x = live_hush (roots_in_dying Z.dying) rs d.root x nd lv in
          let e1 : v ≡ z = some_is (sym (subst (λ (k : ℕ). at_place (set_at (awake Z rs) d.root v) k ≡ some v) q1 (at_put_same (awake Z rs) d.root x v lvw.is)) ∙ g.is) in
          absurd (no_bool (ap (λ (k : Root). k.live) e1 ∙ g.lives))
      back1 i z g (inr q1) = record { is = quiet_at (awake Z rs) d.root i q1 ∙ (sym (at_put_other (awake Z rs) d.root i _ q1) ∙ g.is); lives = g.lives }

      spot_back : (l : Loc) (a : ℕ) (u : Ty) → Spot K L (quiet (awake Z rs) d.root) l a u → Spot K L (set_at (awake Z rs) d.root (gone_root x.words)) l a u
      spot_back l a u h = let q = quiet_live (awake Z rs) d.root l.root h.root h.lives in
          record { root = h.root; pl = h.pl; off = h.off; val = h.val; lives = record { is = at_put_other (awake Z rs) d.root l.root _ q.1 ∙ q.0.is; lives = h.lives.lives }; is = h.is; goes = h.goes; at = h.at }
