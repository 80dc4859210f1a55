-- match: the alternative is found by the tag, its parts get names, its statements or its body are done.
use mathlib.Core.Path.{◌≡◌, refl, sym, ap, subst, ◌∙◌}
use mathlib.Core.Bool.{Bool, true, false, ◌&&◌, not}
use mathlib.Core.List.{List, [], ◌∷◌, ◌++◌}
use mathlib.Core.Option.{Option, some}
use mathlib.Core.Logic.{◌⊎◌, inl, inr}
use Prim.Native.Nat.{ℕ, ◌+◌, ◌≤◌, ◌<◌}
use native.Mathlib.Omega.{arith}
use lib.Dec.{eqb, T}
use Rattle.language.specs.Base.{Lexeme, choose, from_option, at_place, set_at, same}
use Rattle.language.specs.Syntax.{Ty, int, dat, box, ref, mut, Access, take, view, edit, Prog}
use Rattle.language.specs.Meaning.{Loc, Value, con_v, ref_v, hole, Values, Root, Class, State, Env, with_roots, read_at, write_at, here, words_of, list_of, refs_to, parts, taken, names_in, roots_in}
use Rattle.simulation.proofs.Machine.{Kit, Info, Place, Pools, Instr, NUM, PADDR, JTAG, Mach, go, upd, sets, from_end, Leads, leads_on, lead_one}
use Rattle.simulation.proofs.Lowering.{Slot, Sc, slot_of, slot_at, Entry, share_ty, part_ty, part_tys, part_code, enter_all, base_of, alt_scope, tag_of, fields_of, code_parts, code_open}
use Rattle.simulation.proofs.Memory.{no_some, some_is, Pl, Lay, Lays, total, Fits, Ext, Live, flag_of, Refers, Owns, Sits, Mem, Kind, eqb_yes, eqb_no, upd_same, upd_other, copied_all, lays_ext, mem_write, own_put, frame_words}
use Rattle.simulation.proofs.Paths.{field_off}
use Rattle.simulation.proofs.Dying.{hush_put}
use Rattle.simulation.proofs.Boxes.{boxes, boxes_put}
use Rattle.simulation.proofs.WordOps.{choose_true, choose_false}
use Rattle.simulation.proofs.Pointers.{Spot, spot_part, at_spot, spot_reads}
use Rattle.simulation.proofs.Context.{Flying, Dying, Ctx, Has, has_this, has_rest, roots_in_dying, locs, awake, awake_live, awake_not, with_held, with_flying, fly, fly_spot, Core, core_words, core_put, core_wider, core_unfly}
use Rattle.simulation.specs.Borrows.{env_roots, TakesClear}
use Rattle.simulation.proofs.Relation.{Pooling, pl_of, Names, names_ext, Keep, keep_low, Work, work_none, work_on, Rep}
use Rattle.simulation.proofs.Scopes.{Stack, stack_le, names_on}
use Rattle.simulation.proofs.Stand.{Base, Under, reads, wrote, rep_above, base_set, work_above}
use Rattle.simulation.proofs.Binding.{binds, roots_same}
use Rattle.simulation.proofs.Opening.{step_to, Fetched, fetch_refs, fetch_words}
use Rattle.simulation.proofs.Statements.{held_more, seen_ty, Ready}
use Rattle.simulation.proofs.Drops.{Tables}

pub same_eq : (xs ys : List ℕ) → same xs ys ≡ true → xs ≡ ys
same_eq [] [] e = refl
same_eq [] (y ∷ ys) e = absurd (subst (λ (b1 : Bool). T (not b1)) e tt)
same_eq (x ∷ xs) [] e = absurd (subst (λ (b1 : Bool). T (not b1)) e tt)
same_eq (x ∷ xs) (y ∷ ys) e = by (eqb x y) refl e (same_eq xs ys)
  where
    by : (t : Bool) → eqb x y ≡ t → (t && same xs ys) ≡ true → (same xs ys ≡ true → xs ≡ ys) → x ∷ xs ≡ y ∷ ys
    by true q1 d f = let e1 : x ≡ y = Rattle.simulation.proofs.WordOps.eqb_says x y q1 in let e2 : xs ≡ ys = f d in ap (λ (k : ℕ). k ∷ xs) e1 ∙ ap (λ (ks : List ℕ). y ∷ ks) e2
    by false q1 d f = absurd (subst (λ (b1 : Bool). T (not b1)) d tt)

pub no_tf : true ≡ false → ⊥
no_tf e = subst (λ (b1 : Bool). T b1) e tt

pub seen_is : (t u : Ty) → Refers (share_ty t) u → seen_ty t ≡ u
seen_is int u e = e
seen_is (dat d) u e = e
seen_is (box d) u e = e
seen_is (ref d) u e = e
seen_is (mut d) u e = e

pub seen_ref : (t : Ty) → Refers (share_ty t) (seen_ty t)
seen_ref int = refl
seen_ref (dat d) = refl
seen_ref (box d) = refl
seen_ref (ref d) = refl
seen_ref (mut d) = refl

pub slot_is : (G : List Slot) (x : Lexeme) (l : Slot) → slot_of G x ≡ some l → slot_at G x ≡ l
slot_is G x l e = ap (λ (o : Option Slot). from_option o (record { name = x; ty = int; flag = 0 }) (λ k. k)) e

module _ (K : Kit) (F : Fits K) (P : Pools → (ℕ → ℕ) → List Class → List Place → Type 0) (Q : Pooling K P) (code : List Instr) (fns : Lexeme → Option Entry) (q : Prog) (dw : (k : Lexeme) (vs : Values) (i : Info) → K.info k ≡ some i → words_of q (con_v k vs) ≡ K.size (dat i.home)) where
  -- what is taken apart is a name's own
  abbrev pub TakeAt : Access → Slot → Loc → ℕ → List Pl → Type 0
  TakeAt take l loc fb L = (at_place L loc.root ≡ some (pl_of fb l)) × (loc.path ≡ [])
  TakeAt view l loc fb L = Unit {0}
  TakeAt edit l loc fb L = Unit {0}

  -- what a match looks at: its address is in the word at h
  pub record Looking (w : Access) (l : Slot) (loc : Loc) (k : Lexeme) (vs : Values) (d : Lexeme) (Z : Ctx) (fb h : ℕ) (L : List Pl) (s : State) (M : Mach) : Type 0 where
    pub addr : ℕ
    pub word : M.words (fb + h) ≡ addr
    pub spot : Spot K L (awake Z s.roots) loc addr (dat d)
    pub reads1 : read_at s loc ≡ some (con_v k vs)
    pub takes : TakeAt w l loc fb L

  pub record Opened (Z : Ctx) (fb sp : ℕ) (C C2 : Sc) (g i : Env) (L : List Pl) (s z : State) (js : List Instr) (M N : Mach) : Type 0 where
    pub L2 : List Pl
    pub base : Base N fb sp
    pub ctl : N.ctl ≡ js
    pub ls : List Slot
    pub ks : Env
    pub slots : C2.names ≡ ls ++ C.names
    pub names : i ≡ ks ++ g
    pub stack : Stack K (C.high + 1) ls C2.high
    pub new : Names L2 fb ls ks
    pub rep : Rep K F P (with_held (env_roots ks ++ Z.held) Z) (fb + C2.high) L2 z N
    pub frame : Work K F P Z.dying (fb + (C.high + 1)) L (awake Z s.roots) M.words L2 (awake Z z.roots) N.words

  data_at : (w : Access) (l : Slot) (loc : Loc) (k : Lexeme) (vs : Values) (d : Lexeme) (Z : Ctx) (fb h lo : ℕ) (L : List Pl) (s : State) (M : Mach) → Rep K F P Z lo L s M → (lk : Looking w l loc k vs d Z fb h L s M) → Lay K L M.words lk.addr (dat d) (con_v k vs)
  data_at w l loc k vs d Z fb h lo L s M R lk = (at_spot K F lo L (with_roots s (awake Z s.roots)) M.words loc lk.addr (dat d) (con_v k vs) R.core.mem lk.spot (spot_reads K F L s (awake Z s.roots) loc lk.addr (dat d) (con_v k vs) (λ j x1 g1. awake_live Z s.roots j x1 g1) lk.spot lk.reads1)).lay

  -- names for the parts that were fetched
  named : (TB : Tables K F P Q code fns q dw) (Z : Ctx) (fb sp : ℕ) (C : Sc) (w : Access) (c : Lexeme) (m : Info) (xs : List Lexeme) (vs : List Value) (g i : Env) (L : List Pl) (s t : State) (js : List Instr) (M M1 : Mach) → K.info c ≡ some m → K.lent.heap ≤ fb → Under Z (fb + C.high) → Base M1 fb sp → Work K F P Z.dying (fb + (C.high + 1)) L (awake Z s.roots) M.words L (awake Z t.roots) M1.words → Leads K code M M1 → Rep K F P Z (fb + C.high) L t M1 → names_in g t xs vs ≡ some i → Fetched K F code fns L (awake Z t.roots) fb (C.high + 1) (part_tys w m.fields) vs js M1 → (N : Mach) × (Leads K code M N × Opened Z fb sp C (alt_scope K fns C w c xs) g i L s (roots_in t vs) js M N)
  named TB Z fb sp C w c m xs vs g i L s t js M M1 ek hp un B fr0 ld R en ft =
      let W : ℕ → ℕ = ft.words in let N : Mach = sets M1 js W in
      let below : (j : ℕ) → j < fb + (C.high + 1) → W j ≡ M1.words j = ft.below in
      let un1 : Under Z (fb + (C.high + 1)) = λ f i1. (let z = un f i1 in omega arith) in
      let R1 : Rep K F P Z (fb + C.high) L t N = rep_above K F P Q js W (fb + (C.high + 1)) below (omega arith) (omega arith) un1 R in
      let c1 : Core K Z (fb + (C.high + 1)) L t.roots (awake Z t.roots) W = core_wider K F (fb + (C.high + 1)) (omega arith) R1.core in
      let Bd = binds K F fns Z fb (base_of K fns C) xs (part_tys w m.fields) vs L t W g i hp un1 en ft.slots c1 in
      let es : enter_all K fns (base_of K fns C) xs (part_tys w m.fields) ≡ alt_scope K fns C w c xs = ap (λ (o : Option Info). enter_all K fns (base_of K fns C) xs (part_tys w (from_option o [] (λ i1. i1.fields)))) (sym ek) in
      let z : State = roots_in t vs in
      let rp : Rep K F P (with_held (env_roots Bd.ks ++ Z.held) Z) (fb + (enter_all K fns (base_of K fns C) xs (part_tys w m.fields)).high) Bd.L2 z N = subst (λ (y : State). Rep K F P (with_held (env_roots Bd.ks ++ Z.held) Z) (fb + (enter_all K fns (base_of K fns C) xs (part_tys w m.fields)).high) Bd.L2 y N) (sym (roots_same t vs))
      (record { core = Bd.core; pool = subst (λ (us : List Place). P M1.pool W t.classes us) (sym Bd.same_boxes) R1.pool; sp = R.sp; turns = R.turns; ins = R.ins; outs = R.outs }) in
      let wk : Work K F P Z.dying (fb + (C.high + 1)) L (awake Z t.roots) M1.words Bd.L2 (awake Z z.roots) W = work_on K F P (fb + (C.high + 1)) (omega arith) (work_above K F P Q W (fb + (C.high + 1)) below (omega arith) R.core)
      (record { ext = Bd.ext; kept = λ j k n1. refl; grew = λ r j o. grew1 Z (fb + (C.high + 1)) L t r j (λ k. keep_low K Z.dying (fb + (C.high + 1)) L t.roots (omega arith) R.core.dead j k) (Bd.grew r j o) }) in (
        N,
        (
          leads_on ld ft.leads,
          subst (λ (C2 : Sc). Opened Z fb sp C C2 g i L s z js M N) es
              (record { L2 = Bd.L2; base = base_set K F P Q js W B; ctl = refl; ls = Bd.ls; ks = Bd.ks; slots = Bd.slots; names = Bd.names; stack = Bd.stack; new = Bd.new; rep = rp; frame = work_on K F P (fb + (C.high + 1)) (omega arith) fr0 wk }),
        ),
      )
    where
      grew1 : (Z : Ctx) (b1 : ℕ) (L : List Pl) (t : State) (r j : ℕ) → (Keep K Z.dying b1 j → j < b1) → Owns K (awake Z t.roots) L r j ⊎ (b1 ≤ j) → Owns K (awake Z t.roots) L r j ⊎ (Keep K Z.dying b1 j → ⊥)
      grew1 Z b1 L t r j f (inl o) = inl o
      grew1 Z b1 L t r j f (inr o) = inr (λ k. (let z = f k in omega arith))

  -- by reference: the parts' addresses
  looks : (TB : Tables K F P Q code fns q dw) (w : Access) → ((base f h o z : ℕ) → part_code K fns w base f h o z ≡ PADDR (h + 1) base o) → ((t : Ty) → Refers (part_ty w t) t) → ((t : Ty) → K.size (part_ty w t) ≡ 1) → (l : Slot) (loc : Loc) (k : Lexeme) (vs : Values) (d : Lexeme) (Z : Ctx) (fb sp : ℕ) (C : Sc) (xs : List Lexeme) (g i : Env) (L : List Pl) (s : State) (js : List Instr) (M : Mach) → K.lent.heap ≤ fb → Under Z (fb + C.high) → Base M fb sp → (lk : Looking w l loc k vs d Z fb C.high L s M) → Rep K F P Z (fb + C.high) L s M → names_in g s xs (refs_to loc 0 vs) ≡ some i → M.ctl ≡ code_parts K fns w C.high l.flag (C.high + 1) 1 (fields_of K fns k) js → (N : Mach) × (Leads K code M N × Opened Z fb sp C (alt_scope K fns C w k xs) g i L s (roots_in s (refs_to loc 0 vs)) js M N)
  looks TB w pc pt p1 l loc k vs d Z fb sp C xs g i L s js M hp un B lk R en ec =
      let ly = data_at w l loc k vs d Z fb C.high (fb + C.high) L s M R lk in let m : Info = ly.0 in let ek = ly.1.0 in
      let ec2 : M.ctl ≡ code_parts K fns w C.high l.flag (C.high + 1) 1 m.fields js = ec ∙ ap (λ (o : Option Info). code_parts K fns w C.high l.flag (C.high + 1) 1 (from_option o [] (λ i1. i1.fields)) js) ek in
      let ft = fetch_refs K F code fns w pc pt p1 m.fields vs L (awake Z s.roots) fb sp C.high l.flag (C.high + 1) lk.addr (lk.addr + 1) 0 1 loc M.words js M ly.1.3 B (omega arith) lk.word
      (λ j x t en1 ef. (let e : j ≡ 0 + j = omega arith in subst (λ (z : ℕ). Spot K L (awake Z s.roots) (step_to loc z) (lk.addr + (1 + field_off K m.fields j)) t) e (spot_part K F L (with_roots s (awake Z s.roots)) loc lk.addr (dat d) k vs m j x t lk.spot (spot_reads K F L s (awake Z s.roots) loc lk.addr (dat d) (con_v k vs) (λ j1 x1 g1. awake_live Z s.roots j1 x1 g1) lk.spot lk.reads1) ek en1 ef))) ec2 in
      named TB Z fb sp C w k m xs (refs_to loc 0 vs) g i L s s js M M ek hp un B (work_none K F P Z.dying (fb + (C.high + 1)) L (awake Z s.roots) M.words) (λ x os r. r) R en ft

  -- the alternative's beginning: parts moved out, or their addresses
  pub opened : (TB : Tables K F P Q code fns q dw) (w : Access) (l : Slot) (loc : Loc) (k : Lexeme) (vs : Values) (d : Lexeme) (Z : Ctx) (fb sp : ℕ) (C : Sc) (xs : List Lexeme) (g i : Env) (L : List Pl) (s t : State) (js : List Instr) (M : Mach) → K.lent.heap ≤ fb → Under Z (fb + C.high) → Base M fb sp → (lk : Looking w l loc k vs d Z fb C.high L s M) → Rep K F P Z (fb + C.high) L s M → TakesClear w Z.held (locs Z.flying) s.roots loc → taken w s loc ≡ some t → names_in g t xs (parts w loc vs) ≡ some i → M.ctl ≡ code_open K fns C w l k js → (N : Mach) × (Leads K code M N × Opened Z fb sp C (alt_scope K fns C w k xs) g i L s (roots_in t (parts w loc vs)) js M N)
  opened TB view l loc k vs d Z fb sp C xs g i L s t js M hp un B lk R tc et en ec = let e : s ≡ t = some_is et in
      subst (λ (t1 : State). (N : Mach) × (Leads K code M N × Opened Z fb sp C (alt_scope K fns C view k xs) g i L s (roots_in t1 (refs_to loc 0 vs)) js M N)) e
      (looks TB view (λ b1 f h o z. refl) (λ t1. refl) (λ t1. F.one_ref t1) l loc k vs d Z fb sp C xs g i L s js M hp un B lk R (subst (λ (t1 : State). names_in g t1 xs (refs_to loc 0 vs) ≡ some i) (sym e) en) ec)
  opened TB edit l loc k vs d Z fb sp C xs g i L s t js M hp un B lk R tc et en ec = let e : s ≡ t = some_is et in
      subst (λ (t1 : State). (N : Mach) × (Leads K code M N × Opened Z fb sp C (alt_scope K fns C edit k xs) g i L s (roots_in t1 (refs_to loc 0 vs)) js M N)) e
      (looks TB edit (λ b1 f h o z. refl) (λ t1. refl) (λ t1. F.one_mut t1) l loc k vs d Z fb sp C xs g i L s js M hp un B lk R (subst (λ (t1 : State). names_in g t1 xs (refs_to loc 0 vs) ≡ some i) (sym e) en) ec)
  opened TB take l loc k vs d Z fb sp C xs g i L s t js M hp un B lk R tc et en ec =
      let r : ℕ = loc.root in let el : loc ≡ here r = ap (λ (p1 : List ℕ). record { root = r; path = p1 }) lk.takes.1 in let ea = lk.takes.0 in
      let er : read_at s (here r) ≡ some (con_v k vs) = subst (λ (l1 : Loc). read_at s l1 ≡ some (con_v k vs)) el lk.reads1 in
      let ew : write_at s (here r) hole ≡ some t = subst (λ (l1 : Loc). write_at s l1 hole ≡ some t) el et in
      let rd = reads K F P Q Z (fb + C.high) L s M.words r (pl_of fb l) (con_v k vs) R.core ea refl er in
      let wr = wrote K F P Q s r hole t ew in let ws : List Root = awake Z s.roots in
      let ly : Lay K L M.words (fb + (l.flag + 1)) l.ty (con_v k vs) = subst (λ (v1 : Value). Lay K L M.words (fb + (l.flag + 1)) l.ty v1) rd.val rd.sits.lay in
      let m : Info = ly.0 in let ek = ly.1.0 in let sw = F.some_word l.ty in
      let sz : 1 + total K m.fields ≤ K.size l.ty = subst (λ (t1 : Ty). 1 + total K m.fields ≤ K.size t1) (sym ly.1.1) (F.inside k m ek) in
      let own : (j : ℕ) → fb + l.flag ≤ j → j < fb + (l.flag + 1) + K.size l.ty → Owns K ws L r j = λ j g1 g2. record { root = rd.root; pl = pl_of fb l; lives = rd.lives; is = ea; from = g1; upto = g2 } in
      let flow : fb + (l.flag + K.size l.ty) < fb + C.high = R.core.mem.low r (fb + (l.flag + K.size l.ty)) (own (fb + (l.flag + K.size l.ty)) (omega arith) (omega arith)) in
      let js1 : List Instr = code_parts K fns take C.high l.flag (C.high + 1) 1 (fields_of K fns k) js in
      let W : ℕ → ℕ = upd M.words (fb + l.flag) 0 in let M1 : Mach = sets M js1 W in
      let far : (j : ℕ) → (j ≡ fb + l.flag → ⊥) → W j ≡ M.words j = λ j g1. upd_other M.words (fb + l.flag) 0 j g1 in
      let rawl = awake_live Z s.roots r rd.root rd.lives in
      let x1 : Root = record { live = true; val = hole; words = rd.root.words } in let rs2 : List Root = set_at s.roots r x1 in
      let eb : boxes rs2 L ≡ boxes s.roots L = boxes_put s.roots L r rd.root x1 rawl refl refl in
      let aside : (i1 j : ℕ) → Owns K ws L i1 j → (r ≡ i1 → ⊥) → W j ≡ M.words j = λ i1 j o ne. far j (λ ej. ne (R.core.mem.apart r i1 j (own j (omega arith) (omega arith)) o)) in
      let flies : (f1 : Flying) → Has f1 Z.flying → W f1.at ≡ M.words f1.at = λ f1 i1. far f1.at (λ ej. R.core.free f1 i1 r (own f1.at (omega arith) (omega arith))) in
      let mem2 : Mem K (fb + C.high) L (set_at ws r x1) W = mem_write K F (fb + C.high) L ws M.words W r rd.root x1 (pl_of fb l) R.core.mem rd.lives ea
      (λ g1. record { lay = subst Rattle.simulation.proofs.Memory.Holed (sym ly.1.1) tt; order = omega arith; flag = λ g2. upd_same M.words (fb + l.flag) 0; full = λ g2. absurd (omega arith); kind = rd.sits.kind }) aside in
      let cl : Rattle.simulation.proofs.Context.Clear Z.held (locs Z.flying) s.roots r [] = subst (λ (p1 : List ℕ). Rattle.simulation.proofs.Context.Clear Z.held (locs Z.flying) s.roots r p1) lk.takes.1 tc in
      let core2 : Core K Z (fb + C.high) L rs2 (awake Z rs2) W = core_put K F W r rd.root [] hole rd.lives cl (λ k1 e1. no_hole k1 e1) mem2 aside flies eb R.core in
      let t2 : State = with_roots s rs2 in
      let same_root : rd.root ≡ wr.root = some_is (sym rawl.is ∙ wr.lives.is) in
      let ez : t2 ≡ t = ap (λ (k1 : Root). with_roots s (set_at s.roots r (record { live = true; val = hole; words = k1.words }))) same_root ∙ sym wr.is in
      let R2 : Rep K F P Z (fb + C.high) L t2 M1 = record { core = core2; pool = subst (λ (us : List Place). P M.pool W s.classes us) (sym eb) (Q.same_words M.pool M.words W s.classes (boxes s.roots L) R.pool (λ j g1 g2. far j (λ ej. omega arith))); sp = R.sp; turns = R.turns; ins = R.ins; outs = R.outs } in
      let ep : awake Z rs2 ≡ set_at ws r x1 = hush_put (roots_in_dying Z.dying) s.roots r x1 (awake_not Z s.roots r rd.root rd.lives) in
      let fr : Work K F P Z.dying (fb + (C.high + 1)) L ws M.words L (awake Z rs2) W = subst (λ (k1 : List Root). Work K F P Z.dying (fb + (C.high + 1)) L ws M.words L k1 W) (sym ep) (record { ext = λ i1 k1 k2. k2; kept = λ j kp n1. far j (λ ej. n1 r (own j (omega arith) (omega arith))); grew = λ i1 j o. inl (own_put K F L ws r i1 j rd.root x1 rd.lives o).0 }) in
      let e7 : (fb + (l.flag + 1)) + 1 ≡ fb + (l.flag + (1 + 1)) = omega arith in
      let lys : Lays K L W (fb + (l.flag + (1 + 1))) m.fields vs = subst (λ (k1 : ℕ). Lays K L W k1 m.fields vs) e7 (copied_all K F L M.words W ((fb + (l.flag + 1)) + 1) ((fb + (l.flag + 1)) + 1) m.fields vs ly.1.3 (λ i1 g1. far (((fb + (l.flag + 1)) + 1) + i1) (λ ej. omega arith))) in
      let ld : Leads K code M M1 = lead_one {N = M1} (NUM l.flag 0) js1 B.mode ec (ap (λ k1. go (sets M js1 (upd M.words (k1 + l.flag) 0))) B.fb) in
      let B1 : Base M1 fb sp = base_set K F P Q js1 W B in
      let ec2 : M1.ctl ≡ code_parts K fns take C.high l.flag (C.high + 1) 1 m.fields js = ap (λ (o : Option Info). code_parts K fns take C.high l.flag (C.high + 1) 1 (from_option o [] (λ i1. i1.fields)) js) ek in
      let ft = fetch_words K F code fns m.fields vs L (awake Z rs2) fb sp C.high l.flag (C.high + 1) 1 js M1 (TB.own k m ek) lys (omega arith) B1 ec2 in
      subst (λ (t1 : State). (N : Mach) × (Leads K code M N × Opened Z fb sp C (alt_scope K fns C take k xs) g i L s (roots_in t1 (list_of vs)) js M N)) ez
      (named TB Z fb sp C take k m xs (list_of vs) g i L s t2 js M M1 ek hp un B1 fr ld R2 (subst (λ (t1 : State). names_in g t1 xs (list_of vs) ≡ some i) (sym ez) en) ft)
    where
      no_hole : (l1 : Loc) → hole ≡ ref_v l1 → ⊥
      no_hole l1 e = let z : ◌≡◌ {A = ℕ} 0 1 = ap flag_of e in omega arith

  -- the tag decides
  pub tested : (TB : Tables K F P Q code fns q dw) (w : Access) (l : Slot) (loc : Loc) (k c : Lexeme) (vs : Values) (d : Lexeme) (Z : Ctx) (fb sp lo : ℕ) (h j : ℕ) (L : List Pl) (s : State) (is js : List Instr) (M : Mach) → Base M fb sp → Rep K F P Z lo L s M → (lk : Looking w l loc k vs d Z fb h L s M) → (i : Info) × ((K.info c ≡ some i) × (i.home ≡ d)) → M.ctl ≡ JTAG h (tag_of K fns c) j ∷ is → from_end code j ≡ js → (t : Bool) → same c k ≡ t → Leads K code M (sets M (choose t is js) M.words)
  tested TB w l loc k c vs d Z fb sp lo h j L s is js M B R lk ci ec ej t et =
      let ly = data_at w l loc k vs d Z fb h lo L s M R lk in let m : Info = ly.0 in let ek = ly.1.0 in
      let etag : tag_of K fns c ≡ ci.0.tag = ap (λ (o : Option Info). from_option o 0 (λ i1. i1.tag)) ci.1.0 in
      let ew : M.words (M.words (fb + h)) ≡ m.tag = ap M.words lk.word ∙ ly.1.2 in
      let ehome : d ≡ m.home = (let e1 = ly.1.1 in let z : d ≡ m.home = cc in z) in
      let eq : eqb m.tag ci.0.tag ≡ t = by t et m ci.0 ek ci.1.0 (ci.1.1 ∙ ehome) in
      lead_one (JTAG h (tag_of K fns c) j) is B.mode ec (ap (λ x. go (sets M (choose (eqb (M.words (M.words (x + h))) (tag_of K fns c)) is (from_end code j)) M.words)) B.fb ∙ (ap (λ x. go (sets M (choose (eqb x (tag_of K fns c)) is (from_end code j)) M.words)) ew ∙ (ap (λ x. go (sets M (choose (eqb m.tag x) is (from_end code j)) M.words)) etag ∙ (ap (λ x. go (sets M (choose x is (from_end code j)) M.words)) eq ∙ ap (λ x. go (sets M (choose t is x) M.words)) ej))))
    where
      by : (t : Bool) → same c k ≡ t → (m i : Info) → K.info k ≡ some m → K.info c ≡ some i → i.home ≡ m.home → eqb m.tag i.tag ≡ t
      by true e m i e1 e2 e3 = let q1 : i ≡ m = some_is (sym e2 ∙ (ap K.info (same_eq c k e) ∙ e1)) in ap (λ (x : Info). eqb m.tag x.tag) q1 ∙ eqb_yes m.tag
      by false e m i e1 e2 e3 = eqb_no m.tag i.tag (λ q1. no_tf (sym (TB.tags c k i m e2 e1 e3 (sym q1)) ∙ e))

  pub looking_ctl : {w : Access} {l : Slot} {loc : Loc} {k : Lexeme} {vs : Values} {d : Lexeme} {Z : Ctx} {fb h : ℕ} {L : List Pl} {s : State} {M : Mach} (is : List Instr) → Looking w l loc k vs d Z fb h L s M → Looking w l loc k vs d Z fb h L s (sets M is M.words)
  looking_ctl is lk = record { addr = lk.addr; word = lk.word; spot = lk.spot; reads1 = lk.reads1; takes = lk.takes }

  pub ready_ctl : {Z : Ctx} {fb sp room : ℕ} {C : Sc} {g : Env} {L : List Pl} {M : Mach} (is : List Instr) → Ready K F P Q code fns q dw Z fb sp room C g L M → Ready K F P Q code fns q dw Z fb sp room C g L (sets M is M.words)
  ready_ctl is Y = record { base = base_set K F P Q is _ Y.base; names = Y.names; held = Y.held; heap = Y.heap; room = Y.room; under = Y.under }

  pub ready_opened : {Z : Ctx} {fb sp room : ℕ} {C C2 : Sc} {g i : Env} {L : List Pl} {s z : State} {js : List Instr} {M N : Mach} → Ready K F P Q code fns q dw Z fb sp room C g L M → (O : Opened Z fb sp C C2 g i L s z js M N) → Ready K F P Q code fns q dw (with_held (env_roots O.ks ++ Z.held) Z) fb sp room C2 (O.ks ++ g) O.L2 N
  ready_opened {Z} {fb} {C = C} {C2 = C2} {g = g} Y O = let le = stack_le K O.ls (C.high + 1) C2.high O.stack in
      record { base = O.base; names = subst (λ (z : List Slot). Names O.L2 fb z (O.ks ++ g)) (sym O.slots) (names_on O.new (names_ext O.frame.ext Y.names)); held = held_more O.ks g Z.held Y.held; heap = Y.heap; room = Y.room; under = λ f i. (let z = Y.under f i in omega arith) }
