-- Names end; x = e and *r = e: the new value is in place while the old one is dropped.
use mathlib.Core.Path.{◌≡◌, refl, sym, ap, subst, ◌∙◌}
use mathlib.Core.Bool.{Bool, true, false, not}
use mathlib.Core.List.{List, [], ◌∷◌}
use mathlib.Core.Option.{Option, some, none}
use mathlib.Core.Logic.{◌⊎◌, inl, inr}
use Prim.Native.Nat.{ℕ, zero, suc, ◌+◌, ◌≤◌, ◌<◌}
use native.Mathlib.Omega.{arith}
use lib.Dec.{eqb, leb, T}
use Rattle.language.specs.Base.{Lexeme, choose, from_option, set_at}
use Rattle.language.specs.Syntax.{Ty, int, dat, box, ref, mut, Expr, num, var, op, ctor, boxed, call, share, lend, load, get_e, Prog}
use Rattle.language.specs.Meaning.{Loc, Value, int_v, con_v, box_v, ref_v, hole, Values, Root, Class, State, Res, ok, then, with_roots, live_root, read_at, write_at, here, kill, there, words_of, at_path, put_path, eval, ends, drops}
use Rattle.simulation.proofs.Machine.{Kit, Info, Place, Pools, Instr, END, Mode, running, dropping, whole, Mach, go, to_mode, Leads, lead_one, lead_mode}
use Rattle.simulation.proofs.Lowering.{Slot, slot_of, Entry, share_ty, type_e, high_e, code_ends, same1, later, suf_trans}
use Rattle.simulation.proofs.Memory.{no_some, some_is, Pl, Lay, Fits, Live, lives, flag_of, Owns, Mem, Kind, eqb_yes, mem_write, own_put, frame_less}
use Rattle.simulation.proofs.Dying.{hush_put}
use Rattle.simulation.proofs.Boxes.{boxes, In, boxes_kill}
use Rattle.simulation.proofs.WordOps.{if_some_is, choose_true, leb_says, leb_denies}
use Rattle.simulation.proofs.Context.{Dying, Ctx, roots_in_dying, locs, awake, awake_live, awake_not, Unseen}
use Rattle.simulation.proofs.Changes.{core_end, gone_root}
use Rattle.simulation.specs.Borrows.{SteadyEnds, SteadyDrop}
use Rattle.simulation.proofs.Relation.{Pooling, pl_of, no_names, one_name, names_ext, Keep, keep_low, keep_wide, Work, work_none, work_on, work_lower, Rep, Does, by_ok, by_stop, back, does_then, does_need, does_as}
use Rattle.simulation.proofs.Scopes.{stack_le}
use Rattle.simulation.proofs.Stand.{Base, Read, reads}
use Rattle.simulation.proofs.Statements.{AfterEnd, EndsSim}
use Rattle.simulation.proofs.Drops.{Dropped, AfterDrop, Handed, DropSim}

pub flag_or : (v : Value) → (flag_of v ≡ 1) ⊎ (v ≡ hole)
flag_or (int_v k) = inl refl
flag_or (con_v k vs) = inl refl
flag_or (box_v r) = inl refl
flag_or (ref_v l) = inl refl
flag_or hole = inr refl

pub there_is : (v x : Value) → there v ≡ some x → (v ≡ x) × (flag_of x ≡ 1)
there_is (int_v k) x e = (some_is e, ap flag_of (sym (some_is e)))
there_is (con_v k vs) x e = (some_is e, ap flag_of (sym (some_is e)))
there_is (box_v k) x e = (some_is e, ap flag_of (sym (some_is e)))
there_is (ref_v k) x e = (some_is e, ap flag_of (sym (some_is e)))
there_is hole x e = absurd (no_some e)

no_live : false ≡ true → ⊥
no_live g = subst (λ (z : Bool). T (not z)) g tt

pub record WroteAt (s : State) (l : Loc) (v : Value) (t : State) : Type 0 where
  pub root : Root
  pub lives : Live s.roots l.root root
  pub is : t ≡ with_roots s (set_at s.roots l.root (record { live = true; val = put_path l.path v root.val; words = root.words }))

pub wrote_at : (s : State) (l : Loc) (v : Value) (t : State) → write_at s l v ≡ some t → WroteAt s l v t
wrote_at s l v t h =
    let x = if_some_is (live_root s l.root) _ t h in
    let y = if_some_is (at_path l.path x.0.val) _ t x.1.1 in
    record { root = x.0; lives = lives s.roots l.root x.0 x.1.0; is = sym (some_is y.1.1) }

-- what is put in at a path is no reference, if what is written isn't one
pub put_no : (q : List ℕ) (v new : Value) (l : Loc) → ((k : Loc) → new ≡ ref_v k → ⊥) → ((k : Loc) → v ≡ ref_v k → (q ≡ []) ⊎ ⊥) → put_path q new v ≡ ref_v l → ⊥
put_no [] v new l nr nv e = nr l e
put_no (i ∷ q) (int_v k) new l nr nv e = wrong_tag e
  where
    is_ref : Value → Type 0
    is_ref (int_v k) = Unit {0}
    is_ref (con_v k vs) = Unit {0}
    is_ref (box_v r) = Unit {0}
    is_ref (ref_v l) = ⊥
    is_ref hole = Unit {0}

    wrong_tag : int_v k ≡ ref_v l → ⊥
    wrong_tag e = subst is_ref e tt
put_no (i ∷ q) (con_v k vs) new l nr nv e = subst is_ref e tt
  where
    is_ref : Value → Type 0
    is_ref (int_v k) = Unit {0}
    is_ref (con_v k vs) = Unit {0}
    is_ref (box_v r) = Unit {0}
    is_ref (ref_v l) = ⊥
    is_ref hole = Unit {0}
put_no (i ∷ q) (box_v k) new l nr nv e = subst is_ref e tt
  where
    is_ref : Value → Type 0
    is_ref (int_v k) = Unit {0}
    is_ref (con_v k vs) = Unit {0}
    is_ref (box_v r) = Unit {0}
    is_ref (ref_v l) = ⊥
    is_ref hole = Unit {0}
put_no (i ∷ q) (ref_v k) new l nr nv e = by (nv k refl)
  where
    by : ((i ∷ q) ≡ []) ⊎ ⊥ → ⊥
    by (inl z) = let y : ◌≡◌ {A = ℕ} 0 1 = cc in omega arith
    by (inr z) = z
put_no (i ∷ q) hole new l nr nv e = subst is_ref e tt
  where
    is_ref : Value → Type 0
    is_ref (int_v k) = Unit {0}
    is_ref (con_v k vs) = Unit {0}
    is_ref (box_v r) = Unit {0}
    is_ref (ref_v l) = ⊥
    is_ref hole = Unit {0}

module _ (K : Kit) (F : Fits K) (P : Pools → (ℕ → ℕ) → List Class → List Place → Type 0) (Q : Pooling K P) (code : List Instr) (fns : Lexeme → Option Entry) (q : Prog) (dw : (k : Lexeme) (vs : Values) (i : Info) → K.info k ≡ some i → words_of q (con_v k vs) ≡ K.size (dat i.home)) where
  -- a value fits into what working it out takes
  pub size_high : (G : List Slot) (e : Expr) → K.size (type_e K fns G e) ≤ high_e K fns G e
  size_high G (num x) = let z = F.one_int in omega arith
  size_high G (var x) = omega arith
  size_high G (op o d e) = let z = F.one_int in let y = size_high G d in let sw = F.some_word (type_e K fns G d) in omega arith
  size_high G (ctor c es) = omega arith
  size_high G (boxed e) = let z = F.one_box (type_e K fns G e) in let y = size_high G e in let sw = F.some_word (type_e K fns G e) in omega arith
  size_high G (call f es) = omega arith
  size_high G (share x) = by (slot_of G x)
    where
      one : (t : Ty) → K.size (share_ty t) ≤ 1
      one int = let z = F.one_ref int in omega arith
      one (dat d) = let z = F.one_ref (dat d) in omega arith
      one (box t) = let z = F.one_ref (box t) in omega arith
      one (ref t) = let z = F.one_ref t in omega arith
      one (mut t) = let z = F.one_ref t in omega arith

      by : (o : Option Slot) → K.size (from_option o int (λ l. share_ty l.ty)) ≤ 1
      by none = let z = F.one_int in omega arith
      by (some l) = one l.ty
  size_high G (lend x) = by (slot_of G x)
    where
      by : (o : Option Slot) → K.size (from_option o int (λ l. mut l.ty)) ≤ 1
      by none = let z = F.one_int in omega arith
      by (some l) = let z = F.one_mut l.ty in omega arith
  size_high G (load x) = let z = F.one_int in omega arith
  size_high G get_e = let z = F.one_int in omega arith

  -- the whole was dropped: on in the frame
  pub rests : {Z : Ctx} {a z lo : ℕ} {L : List Pl} {rs : List Root} {M : Mach} {st : State} {N : Mach} → M.full ≡ M.sp → AfterDrop K F P Q code fns q dw Z a z whole lo L rs M st N → Leads K code N (to_mode N N.ctl N.words running)
  rests {N = N} e A = lead_mode whole A.mode (choose_true (eqb N.sp N.full) _ _ (ap (eqb N.sp) (A.full ∙ (e ∙ sym A.sp)) ∙ eqb_yes N.sp))

  -- of a drop's frame, what lies below
  pub drop_below : {D : List Dying} {top : ℕ} {L : List Pl} {ws : List Root} {w : ℕ → ℕ} {L2 : List Pl} {ws2 : List Root} {w2 : ℕ → ℕ} (a z b1 : ℕ) → b1 ≤ top → ((j : ℕ) → Keep K D b1 j → a ≤ j → j < a + z → ⊥) → Dropped K F P Q code fns q dw D top a z L ws w L2 ws2 w2 → Work K F P D b1 L ws w L2 ws2 w2
  drop_below {D} {top} a z b1 h n1 f = frame_less K F (λ j k. (keep_wide K D b1 top h j k, n1 j k)) (λ j k. keep_wide K D b1 top h j k) f

  pub by_hole : {A1 : Type 0} {R1 : A1 → State → Mach → Type 0} (u : ℕ) (d : State) (M : Mach) (f : ℕ → State → Res A1) → Does K F P code R1 M (f 0 d) → Does K F P code R1 M (then (drops u K.lent q hole d) f)
  unfolding eval then
  by_hole zero d M f h = by_stop tt
  by_hole (suc u) d M f h = h

  -- no fuel
  pub late : {A1 : Type 0} {R1 : A1 → State → Mach → Type 0} (f : ℕ → State → Res A1) (d : State) (M : Mach) (v : Value) → Does K F P code R1 M (then (drops zero K.lent q v d) f)
  unfolding eval then
  late f d M v = by_stop tt

  kill_is : (s : State) (r : ℕ) (x : Root) → Live s.roots r x → kill s r ≡ with_roots s (set_at s.roots r (gone_root K F x.words))
  kill_is s r x h = ap (λ (o : Option Root). from_option o s (λ y. with_roots s (set_at s.roots r (record { live = false; val = hole; words = y.words })))) h.is

  name_words : (fb : ℕ) (l : Slot) (k : ℕ) → Kind K (pl_of fb l) k → k ≡ 0
  name_words fb l k (inl g) = absurd (no_live g.0)
  name_words fb l k (inr g) = g.1

  module _ (u : ℕ) (ID : DropSim K F P Q code fns q dw u) (IN : EndsSim K F P Q code fns q dw u) where
    pub sim_ends : EndsSim K F P Q code fns q dw (suc u)
    unfolding eval
    sim_ends ls ks lo hi Z fb sp is L s M no_names st h1 h2 un B ec sf R sd = by_ok M (λ x os r. r) (record { L2 = L; base = B; ctl = ec; rep = subst (λ z. Rep K F P Z (fb + z) L s M) (sym st) R; frame = work_none K F P Z.dying (fb + lo) L (awake Z s.roots) M.words })
    sim_ends ls ks lo hi Z fb sp is L s M (one_name {l = l} {m = m} {G = G} {g = g} en ea ns) st h1 h2 un B ec sf R sd =
        does_need K F P code s (read_at s (here m.root)) (λ v ev.
        let rd = reads K F P Q Z (fb + hi) L s M.words m.root (pl_of fb l) v R.core ea refl ev in
        let rawl = awake_live Z s.roots m.root rd.root rd.lives in
        let ek = kill_is s m.root rd.root rawl in
        let sdv = sd v ev in
        subst (λ (z : State). Does K F P code (λ k z1 N. AfterEnd K F P Q code fns q dw Z fb sp lo L s.roots M.words is z1 N) M (then (drops u K.lent q v z) (λ k t. ends u K.lent q g t))) (sym ek)
        (by v rd (flag_or v) sdv.0 (subst (λ (z : State). SteadyDrop K.lent q u (roots_in_dying Z.dying) Z.held (locs Z.flying) v z) ek sdv.1) (λ k t e. sdv.2 k t (ap (drops u K.lent q v) ek ∙ e))))
      where
        rest : List Instr
        rest = code_ends K fns G is

        dead1 : Root → State
        dead1 x = with_roots s (set_at s.roots m.root (gone_root K F x.words))

        -- on behind it, at rest
        goes_on : (x : Root) → Live (awake Z s.roots) m.root x → (d : State) (N : Mach) (L2 : List Pl) → Base N fb sp → N.ctl ≡ code_ends K fns G is → Rep K F P Z (fb + l.flag) L2 d N → Work K F P Z.dying (fb + l.flag) L (awake Z (set_at s.roots m.root (gone_root K F x.words))) M.words L2 (awake Z d.roots) N.words → SteadyEnds K.lent q u (roots_in_dying Z.dying) Z.held (locs Z.flying) g d → Does K F P code (λ k z N1. AfterEnd K F P Q code fns q dw Z fb sp lo L s.roots M.words is z N1) N (ends u K.lent q g d)
        goes_on x h d N L2 B2 ec2 R2 f2 sd2 = let le = stack_le K G lo l.flag st.1 in let st0 = st.0 in
            let ep : awake Z (set_at s.roots m.root (gone_root K F x.words)) ≡ set_at (awake Z s.roots) m.root (gone_root K F x.words) = hush_put (roots_in_dying Z.dying) s.roots m.root _ (awake_not Z s.roots m.root x h) in
            let f1 : Work K F P Z.dying (fb + l.flag) L (awake Z s.roots) M.words L (awake Z (set_at s.roots m.root (gone_root K F x.words))) M.words = subst (λ (k : List Root). Work K F P Z.dying (fb + l.flag) L (awake Z s.roots) M.words L k M.words) (sym ep) (record { ext = λ r y e. e; kept = λ j k n1. refl; grew = λ i j o. inl (own_put K F L (awake Z s.roots) m.root i j x _ h o).0 }) in
            does_as K F P code (IN G g lo l.flag Z fb sp is L2 d N (names_ext f2.ext ns) st.1 h1 (omega arith) un B2 ec2 (suf_trans K fns (later same1) sf) R2 sd2)
            (λ k z O A. record { L2 = A.L2; base = A.base; ctl = A.ctl; rep = A.rep; frame = work_on K F P (fb + lo) (omega arith) (work_lower K F P (omega arith) (work_on K F P (fb + l.flag) (omega arith) f1 f2)) A.frame })

        core_dead : {v : Value} (rd : Read K L (awake Z s.roots) M.words m.root (pl_of fb l) v) → Unseen Z.held (locs Z.flying) s.roots m.root → (js : List Instr) (o : Mode) → Rep K F P Z (fb + l.flag) L (dead1 rd.root) (to_mode M js M.words o)
        core_dead rd us js o =
            let r : ℕ = m.root in let x : Root = rd.root in let ws : List Root = awake Z s.roots in let dead : Root = gone_root K F x.words in let st0 = st.0 in
            let rawl = awake_live Z s.roots r x rd.lives in
            let ebk : boxes (set_at s.roots r dead) L ≡ boxes s.roots L = boxes_kill s.roots L r x dead rawl (name_words fb l x.words rd.sits.kind) refl in
            let mw : Mem K (fb + hi) L (set_at ws r dead) M.words = mem_write K F (fb + hi) L ws M.words M.words r x dead (pl_of fb l) R.core.mem rd.lives ea (λ g. absurd (no_live g)) (λ i j o ne. refl) in
            let mem2 : Mem K (fb + l.flag) L (set_at ws r dead) M.words = record { long = mw.long; laid = mw.laid; apart = mw.apart; low = λ i j o. (let o2 = own_put K F L ws r i j x dead rd.lives o in low2 r x i j rd.lives o2.0 (λ e. no_live (o2.1 e)) (mw.low i j o) (leb (fb + l.flag) j) refl) } in
            record {
              core = core_end K F (fb + l.flag) M.words r x rd.lives us mem2 (λ i j o ne. refl) (λ f1 i. refl) (λ i j o ne g. subst (λ (ps : List Place). In j ps) (sym ebk) (R.core.inside i j o g)) R.core;
              pool = subst (λ (ps : List Place). P M.pool M.words s.classes ps) (sym ebk) R.pool;
              sp = R.sp;
              turns = R.turns;
              ins = R.ins;
              outs = R.outs;
            }
          where
            low2 : (r : ℕ) (x : Root) (i j : ℕ) → Live (awake Z s.roots) r x → Owns K (awake Z s.roots) L i j → (i ≡ m.root → ⊥) → j < fb + hi → (z : Bool) → leb (fb + l.flag) j ≡ z → j < fb + l.flag
            low2 r x i j lv o ne lw true ez = let z = leb_says (fb + l.flag) j ez in let st0 = st.0 in
                absurd (ne (R.core.mem.apart i m.root j o (record { root = rd.root; pl = pl_of fb l; lives = rd.lives; is = ea; from = z; upto = omega arith })))
            low2 r x i j lv o ne lw false ez = leb_denies (fb + l.flag) j ez

        by : (v : Value) (rd : Read K L (awake Z s.roots) M.words m.root (pl_of fb l) v) → (flag_of v ≡ 1) ⊎ (v ≡ hole) → Unseen Z.held (locs Z.flying) s.roots m.root → SteadyDrop K.lent q u (roots_in_dying Z.dying) Z.held (locs Z.flying) v (dead1 rd.root) → ((k : ℕ) (t : State) → drops u K.lent q v (dead1 rd.root) ≡ ok k t → SteadyEnds K.lent q u (roots_in_dying Z.dying) Z.held (locs Z.flying) g t) → Does K F P code (λ k z N. AfterEnd K F P Q code fns q dw Z fb sp lo L s.roots M.words is z N) M (then (drops u K.lent q v (dead1 rd.root)) (λ k t. ends u K.lent q g t))
        by v rd (inl fl) us sd1 sd2 =
            let B1 = B.sp in let B2 = B.full in let st0 = st.0 in let sw = F.some_word l.ty in let le = stack_le K G lo l.flag st.1 in
            let d0 : State = dead1 rd.root in
            let N0 : Mach = to_mode M (code_ends K fns G is) M.words (dropping (fb + (l.flag + 1)) l.ty 0) in
            let ew : M.words (fb + l.flag) ≡ 1 = rd.sits.flag (omega arith) ∙ (ap flag_of rd.val ∙ fl) in
            let ly : Lay K L M.words (fb + (l.flag + 1)) l.ty v = subst (λ (v1 : Value). Lay K L M.words (fb + (l.flag + 1)) l.ty v1) rd.val rd.sits.lay in
            let R1 = core_dead rd us (code_ends K fns G is) (dropping (fb + (l.flag + 1)) l.ty 0) in
            let hd1 : Handed K F P Q code fns q dw Z (fb + (l.flag + 1)) (K.size l.ty) (K.lent.heap + M.sp) L (awake Z d0.roots) = record { keep = λ j g1 g2. inl (omega arith, omega arith); free = λ i j g1 g2 o. (let lw = R1.core.mem.low i j o in omega arith); off = λ f i g1 g2. (let z = un f i in omega arith) } in
            back K F P code (lead_one {N = N0} (END l.flag l.ty) (code_ends K fns G is) B.mode ec (ap (λ i. go (to_mode M (code_ends K fns G is) M.words (choose (eqb (M.words (i + l.flag)) 0) running (dropping (i + (l.flag + 1)) l.ty 0)))) B.fb ∙ ap (λ i. go (to_mode M (code_ends K fns G is) M.words (choose (eqb i 0) running (dropping (fb + (l.flag + 1)) l.ty 0)))) ew))
            (does_then K F P code (drops u K.lent q v d0) (ID v l.ty (fb + (l.flag + 1)) 0 Z (fb + l.flag) L d0 N0 refl fl ly hd1 (record { low = omega arith; heap = omega arith; under = λ f i. (let z = un f i in omega arith); full = omega arith; suf = suf_trans K fns (later same1) sf }) R1 sd1) (λ k z N ez A.
            let N1 : Mach = to_mode N N.ctl N.words running in
            back K F P code (rests (B2 ∙ sym B1) A)
            (goes_on rd.root rd.lives z N1 A.L2 (record { mode = refl; fb = A.fb ∙ B.fb; sp = A.sp ∙ B1; full = A.full ∙ B2 }) A.ctl
            (record { core = A.rep.core; pool = A.rep.pool; sp = A.rep.sp; turns = A.rep.turns; ins = A.rep.ins; outs = A.rep.outs })
            (drop_below (fb + (l.flag + 1)) (K.size l.ty) (fb + l.flag) (omega arith) (λ j k1 g1 g2. (let lj = keep_low K Z.dying (fb + l.flag) L d0.roots (omega arith) R1.core.dead j k1 in omega arith)) A.frame) (sd2 k z ez))))
        by v rd (inr hl) us sd1 sd2 =
            let d0 : State = dead1 rd.root in
            let N0 : Mach = to_mode M (code_ends K fns G is) M.words running in
            let ew : M.words (fb + l.flag) ≡ 0 = rd.sits.flag (omega arith) ∙ (ap flag_of rd.val ∙ ap flag_of hl) in
            back K F P code (lead_one {N = N0} (END l.flag l.ty) (code_ends K fns G is) B.mode ec (ap (λ i. go (to_mode M (code_ends K fns G is) M.words (choose (eqb (M.words (i + l.flag)) 0) running (dropping (i + (l.flag + 1)) l.ty 0)))) B.fb ∙ ap (λ i. go (to_mode M (code_ends K fns G is) M.words (choose (eqb i 0) running (dropping (fb + (l.flag + 1)) l.ty 0)))) ew))
            (with_hole u v hl d0 N0 sd2 (λ sd3. goes_on rd.root rd.lives d0 N0 L (record { mode = refl; fb = B.fb; sp = B.sp; full = B.full }) refl (core_dead rd us (code_ends K fns G is) running) (work_none K F P Z.dying (fb + l.flag) L (awake Z d0.roots) M.words) sd3))
          where
            with_hole : (u1 : ℕ) (v : Value) → v ≡ hole → (d0 : State) (N0 : Mach) → ((k : ℕ) (t : State) → drops u1 K.lent q v d0 ≡ ok k t → SteadyEnds K.lent q u (roots_in_dying Z.dying) Z.held (locs Z.flying) g t) → (SteadyEnds K.lent q u (roots_in_dying Z.dying) Z.held (locs Z.flying) g d0 → Does K F P code (λ k z N. AfterEnd K F P Q code fns q dw Z fb sp lo L s.roots M.words is z N) N0 (ends u K.lent q g d0)) → Does K F P code (λ k z N. AfterEnd K F P Q code fns q dw Z fb sp lo L s.roots M.words is z N) N0 (then (drops u1 K.lent q v d0) (λ k t. ends u K.lent q g t))
            with_hole zero v hl d0 N0 sd2 f = late (λ k t. ends u K.lent q g t) d0 N0 v
            with_hole (suc u1) v hl d0 N0 sd2 f = subst (λ (v1 : Value). Does K F P code (λ k z N. AfterEnd K F P Q code fns q dw Z fb sp lo L s.roots M.words is z N) N0 (then (drops (suc u1) K.lent q v1 d0) (λ k t. ends u K.lent q g t))) (sym hl) (by_hole (suc u1) d0 N0 (λ k t. ends u K.lent q g t) (f (sd2 0 d0 (ap (λ (v1 : Value). drops (suc u1) K.lent q v1 d0) hl))))
