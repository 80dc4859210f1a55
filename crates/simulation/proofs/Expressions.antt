-- Expressions: a step for each form but constructors and calls.
use mathlib.Core.Path.{◌≡◌, refl, sym, ap, subst, ◌∙◌}
use mathlib.Core.Bool.{Bool, true, false}
use mathlib.Core.List.{List, [], ◌∷◌, ◌++◌}
use mathlib.Core.Option.{Option, some, none}
use mathlib.Core.Logic.{◌⊎◌, inl, inr}
use Prim.Native.Nat.{ℕ, zero, suc, ◌+◌, ◌-◌, ◌*◌, ◌/◌, ◌%◌, ◌≤◌, ◌<◌}
use native.Mathlib.Omega.{arith}
use lib.ListN.{length, drop}
use lib.Dec.{eqb, ltb, T}
use Rattle.language.specs.Base.{Lexeme, choose, from_option, at_place, set_at}
use Rattle.language.specs.Syntax.{Ty, int, dat, box, ref, mut, Expr, var, op, boxed, share, lend, load, Prog}
use Rattle.language.specs.Meaning.{Loc, Value, int_v, con_v, box_v, ref_v, hole, Values, Root, Class, State, no_heap, ok, stop, Env, root_of, with_roots, read_at, write_at, here, adds_root, count_in, with_classes, makes_box, words_of, num_of, loc_of, moves, place_of, worked, next_read, reads_in, two_64, unless_0, as_number, eval}
use Rattle.language.specs.Says.{shown_only}
use Rattle.simulation.proofs.Machine.{Kit, Info, Place, Pools, Taken, Instr, NUM, COPY, MOVE, OP, BOX, ADDR, LOAD, GET, STUCK, Mach, go, halt, stopped, upd, copy, sets, pooled, reading, Runs, lead_one, halt_one}
use Rattle.simulation.proofs.Lowering.{Slot, Entry, value_code, share_code, share_ty, type_e, code_e, high_e, Suf, suf_trans, suf_e}
use Rattle.simulation.proofs.Memory.{some_is, Pl, Lay, Fits, Live, flag_of, Owns, Mem, Refers, Holed, upd_same, upd_other, at_end, copied, lay_ext, mem_write, ext_more, own_more, own_put}
use Rattle.simulation.proofs.Dying.{hush_length, hush_put, live_hush, hush_more}
use Rattle.simulation.proofs.Boxes.{boxes, In, in_this, in_rest, boxes_put, boxes_box, in_mid}
use Rattle.simulation.proofs.WordOps.{copy_in, copy_under, copy_off}
use Rattle.simulation.proofs.Pointers.{Spot, spot_root, at_spot, spot_reads}
use Rattle.simulation.proofs.Context.{Flying, Dying, Ctx, Has, has_this, has_rest, roots_in_dying, locs, awake, awake_live, with_held, with_flying, fly, Clear, Core, core_fly, core_unfly, core_less, core_put, dying_below, fly_spot}
use Rattle.simulation.proofs.Changes.{core_add}
use Rattle.simulation.specs.Borrows.{MovesClear, SteadyE}
use Rattle.simulation.proofs.Relation.{Pooling, pl_of, names_ext, Found, found, Keep, keep_low, Work, work_on, Rep, Does, by_ok, by_stop, does_then, does_need}
use Rattle.simulation.proofs.Stand.{Base, held_root, Under, not_among, Read, reads, wrote, num_is, loc_is, not_ref, rep_unfly, base_set, Stand, FitE, After, EvalSim, one_word, after_on}

-- numbers stay numbers of 64 bits
choose_lt : (t : Bool) (x y n1 : ℕ) → x < n1 → y < n1 → choose t x y < n1
choose_lt true x y n1 h g = h
choose_lt false x y n1 h g = g

mod_lt : (x : ℕ) → x % two_64 < two_64
mod_lt x = native.Mathlib.Nat.mod-lt x (let z : 0 < two_64 = omega arith in z)

pub worked_lt : (o x y : ℕ) → x < two_64 → y < two_64 → worked o x y < two_64
worked_lt o x y h g = choose_lt (eqb o 0) _ _ two_64 (mod_lt (x + y)) (choose_lt (eqb o 1) _ _ two_64 (mod_lt ((x + two_64) - y)) (choose_lt (eqb o 2) _ _ two_64 (mod_lt (x * y)) (choose_lt (eqb o 3) _ _ two_64 (divs x y h) (choose_lt (eqb o 4) _ _ two_64 (mods x y h) (choose_lt (eqb o 5) _ _ two_64 (bits (eqb x y)) (bits (ltb x y)))))))
  where
    bits : (t : Bool) → as_number t < two_64
    bits true = omega arith
    bits false = omega arith

    divs : (x y : ℕ) → x < two_64 → unless_0 (λ d e. d / e) x y < two_64
    divs x zero h = omega arith
    divs x (suc y) h = let z : x / suc y ≤ x = native.Mathlib.Nat.div-le_self x (suc y) in omega arith

    mods : (x y : ℕ) → x < two_64 → unless_0 (λ d e. d % e) x y < two_64
    mods x zero h = omega arith
    mods x (suc y) h = let z : x % suc y ≤ x = native.Mathlib.Nat.mod-le x (suc y) in omega arith

pub next_lt : (ks : List ℕ) → next_read ks < two_64
next_lt [] = omega arith
next_lt (k ∷ ks) = mod_lt k

pub shown_more : (os : List ℕ) (k : ℕ) → shown_only (os ++ (k ∷ [])) ≡ shown_only os ++ shown_only (k ∷ [])
shown_more [] k = refl
shown_more (x ∷ os) k = by (eqb x two_64) (shown_more os k)
  where
    by : (t : Bool) → shown_only (os ++ (k ∷ [])) ≡ shown_only os ++ shown_only (k ∷ []) → choose t (shown_only (os ++ (k ∷ []))) (x ∷ shown_only (os ++ (k ∷ []))) ≡ choose t (shown_only os) (x ∷ shown_only os) ++ shown_only (k ∷ [])
    by true e = e
    by false e = ap (λ (z : List ℕ). x ∷ z) e

nothing_more : (xs : List ℕ) → xs ++ [] ≡ xs
nothing_more [] = refl
nothing_more (x ∷ xs) = ap (λ z. x ∷ z) (nothing_more xs)

module _ (K : Kit) (F : Fits K) (P : Pools → (ℕ → ℕ) → List Class → List Place → Type 0) (Q : Pooling K P) (code : List Instr) (fns : Lexeme → Option Entry) (q : Prog) (dw : (k : Lexeme) (vs : Values) (i : Info) → K.info k ≡ some i → words_of q (con_v k vs) ≡ K.size (dat i.home)) where
  module _ (u : ℕ) (IH : EvalSim K F P Q code fns q dw u) where
    pub sim_num : (k : ℕ) (G : List Slot) (g : Env) (Z : Ctx) (fb sp lo h : ℕ) (is : List Instr) (L : List Pl) (s : State) (M : Mach) → k < two_64 → M.ctl ≡ NUM h k ∷ is → Stand K F P Q code fns q dw Z fb sp lo h G g L M → Rep K F P Z lo L s M → Does K F P code (After K F P Q code fns q dw Z fb sp lo h L s.roots M.words int is) M (ok (int_v k) s)
    sim_num k G g Z fb sp lo h is L s M f ec S R =
        by_ok (sets M is (upd M.words (fb + h) k)) (lead_one (NUM h k) is S.base.mode ec (ap (λ i. go (sets M is (upd M.words (i + h) k))) S.base.fb))
        (one_word K F P Q code fns q dw Z fb sp lo h L s M int is (int_v k) k S.base S.heap S.here S.under R refl (refl, upd_same M.words (fb + h) k, f) (λ l t e rf. absurd rf))

    pub sim_op : (o : ℕ) (d e : Expr) (G : List Slot) (g : Env) (Z : Ctx) (fb sp lo h : ℕ) (is : List Instr) (L : List Pl) (s : State) (M : Mach) → FitE K F P Q code fns q dw G (op o d e) → M.ctl ≡ code_e K fns G h (op o d e) is → Suf K fns (code_e K fns G h (op o d e) is) code → Stand K F P Q code fns q dw Z fb sp lo h G g L M → fb + (h + high_e K fns G (op o d e)) ≤ K.lent.heap + sp → Rep K F P Z lo L s M → SteadyE K.lent q (suc u) (roots_in_dying Z.dying) Z.held (locs Z.flying) g (op o d e) s → Does K F P code (After K F P Q code fns q dw Z fb sp lo h L s.roots M.words int is) M (eval (suc u) K.lent q g (op o d e) s)
    unfolding eval
    sim_op o d e G g Z fb sp lo h is L s M f ec sf S rm R st =
        let h1 = S.heap in let h2 = S.here in let h0 = S.low in let sf1 : Suf K fns (code_e K fns G (h + 1) e (OP h o ∷ is)) code = suf_trans K fns (suf_e K fns d G h _) sf in
        does_then K F P code (eval u K.lent q g d s) (IH d G g Z fb sp lo h (code_e K fns G (h + 1) e (OP h o ∷ is)) L s M f.0 ec sf S (omega arith) R st.0) (λ v t N ev A.
        let Ra = rep_unfly K F P Q Z (fb + h) (type_e K fns G d) v A.rep in
        does_then K F P code (eval u K.lent q g e t) (IH e G g Z fb sp lo (h + 1) (OP h o ∷ is) A.L2 t N f.1 A.ctl sf1 (record { base = A.base; names = names_ext A.frame.ext S.names; held = S.held; heap = h1; low = h0; here = omega arith; under = λ f1 i. (let z = S.under f1 i in omega arith) }) (omega arith) Ra (st.1 v t ev)) (λ w z O ew A2.
        does_need K F P code z (num_of v) (λ x ex. does_need K F P code z (num_of w) (λ y ey.
        let k1 : Lay K A.L2 N.words (fb + h) (type_e K fns G d) (int_v x) = subst (λ (v1 : Value). Lay K A.L2 N.words (fb + h) (type_e K fns G d) v1) (num_is v x ex) A.lay in
        let k2 : Lay K A2.L2 O.words (fb + (h + 1)) (type_e K fns G e) (int_v y) = subst (λ (v1 : Value). Lay K A2.L2 O.words (fb + (h + 1)) (type_e K fns G e) v1) (num_is w y ey) A2.lay in
        let k3 : O.words (fb + h) ≡ x = A2.frame.kept (fb + h) (inl (omega arith, omega arith)) (λ r o1. let l = A.rep.core.mem.low r (fb + h) o1 in omega arith) ∙ k1.1 in
        let W : ℕ = worked o x y in
        let R2 = rep_unfly K F P Q Z (fb + (h + 1)) (type_e K fns G e) w A2.rep in
        let A3 = one_word K F P Q code fns q dw Z fb sp lo h A2.L2 z O int is (int_v W) W A2.base h1 h2 S.under R2 refl (refl, upd_same O.words (fb + h) W, worked_lt o x y k1.2 k2.2) (λ l t1 e1 rf. absurd rf) in
        by_ok (sets O is (upd O.words (fb + h) W)) (lead_one (OP h o) is A2.base.mode A2.ctl
        (ap (λ i. go (sets O is (upd O.words (i + h) (worked o (O.words (i + h)) (O.words (i + (h + 1))))))) A2.base.fb ∙ (ap (λ i. go (sets O is (upd O.words (fb + h) (worked o i (O.words (fb + (h + 1))))))) k3 ∙ ap (λ i. go (sets O is (upd O.words (fb + h) (worked o x i)))) k2.1)))
        (after_on K F P Q code fns q dw (work_on K F P (fb + (h + 1)) (omega arith) A.frame A2.frame) A3)))))

    -- a name's value: one word is copied
    copies : (l : Slot) (Z : Ctx) (fb sp lo h : ℕ) (is : List Instr) (L : List Pl) (s : State) (M : Mach) (v : Value) (t : Ty) → Base M fb sp → M.ctl ≡ COPY h l.flag ∷ is → K.lent.heap ≤ fb → lo ≤ fb + h → Under Z (fb + h) → Rep K F P Z lo L s M → flag_of v ≡ 1 → K.size t ≡ 1 → Lay K L M.words (fb + (l.flag + 1)) t v → ((i : Loc) (y : Ty) → v ≡ ref_v i → Refers t y → Spot K L (awake Z s.roots) i (M.words (fb + (l.flag + 1))) y) → Does K F P code (After K F P Q code fns q dw Z fb sp lo h L s.roots M.words t is) M (ok v s)
    copies l Z fb sp lo h is L s M v t B e h1 h2 un R f z y sp1 =
        by_ok (sets M is (upd M.words (fb + h) (M.words (fb + (l.flag + 1))))) (lead_one (COPY h l.flag) is B.mode e (ap (λ i. go (sets M is (upd M.words (i + h) (M.words (i + (l.flag + 1)))))) B.fb))
        (one_word K F P Q code fns q dw Z fb sp lo h L s M t is v (M.words (fb + (l.flag + 1))) B h1 h2 un R f (one_copied fb h (fb + (l.flag + 1)) L M.words t v z y) sp1)
      where
        one_copied : (fb h a : ℕ) (L : List Pl) (w : ℕ → ℕ) (t : Ty) (v : Value) → K.size t ≡ 1 → Lay K L w a t v → Lay K L (upd w (fb + h) (w a)) (fb + h) t v
        one_copied fb h a L w t v e y = copied K F L w (upd w (fb + h) (w a)) a (fb + h) t v y (λ i j. let z : (fb + h) + i ≡ fb + h = omega arith in let z2 : a ≡ a + i = omega arith in ap (upd w (fb + h) (w a)) z ∙ (upd_same w (fb + h) (w a) ∙ ap w z2))

    no_hole : (l : Loc) → hole ≡ ref_v l → ⊥
    no_hole l e = let z : ◌≡◌ {A = ℕ} 0 1 = ap flag_of e in omega arith

    -- moved: its words are copied, its flag is put down
    pub moved : (l : Slot) (r : ℕ) → Holed l.ty → (Z : Ctx) (fb sp lo h : ℕ) (is : List Instr) (L : List Pl) (s z : State) (M : Mach) (v : Value) → Base M fb sp → M.ctl ≡ MOVE h l.flag (K.size l.ty) ∷ is → K.lent.heap ≤ fb → lo ≤ fb + h → Under Z (fb + h) → Rep K F P Z lo L s M → flag_of v ≡ 1 → ((i : Loc) → v ≡ ref_v i → ⊥) → at_place L r ≡ some (pl_of fb l) → Read K L (awake Z s.roots) M.words r (pl_of fb l) v → Clear Z.held (locs Z.flying) s.roots r [] → write_at s (here r) hole ≡ some z → Does K F P code (After K F P Q code fns q dw Z fb sp lo h L s.roots M.words l.ty is) M (ok v z)
    moved l r hd Z fb sp lo h is L s z M v B e h1 h2 un R f nr ea rd cl ew =
        let wr = wrote K F P Q s r hole z ew in
        let sz : ℕ = K.size l.ty in let ws : List Root = awake Z s.roots in
        let W0 : ℕ → ℕ = copy M.words (fb + h) (fb + (l.flag + 1)) sz in
        let W : ℕ → ℕ = upd W0 (fb + l.flag) 0 in
        let some1 = F.some_word l.ty in
        let own : (j : ℕ) → fb + l.flag ≤ j → j < fb + (l.flag + 1) + sz → Owns K ws L r j = λ j g1 g2. record { root = rd.root; pl = pl_of fb l; lives = rd.lives; is = ea; from = g1; upto = g2 } in
        let flow : fb + l.flag < lo = R.core.mem.low r (fb + l.flag) (own (fb + l.flag) (omega arith) (omega arith)) in
        let far : (j : ℕ) → j < fb + h → (j ≡ fb + l.flag → ⊥) → W j ≡ M.words j = λ j g g2. upd_other W0 (fb + l.flag) 0 j g2 ∙ copy_under M.words (fb + h) (fb + (l.flag + 1)) sz j g in
        let same_root : rd.root ≡ wr.root = some_is (sym (awake_live Z s.roots r rd.root rd.lives).is ∙ wr.lives.is) in
        let x1 : Root = record { live = true; val = hole; words = rd.root.words } in
        let rs2 : List Root = set_at s.roots r x1 in
        let rawl : Live s.roots r rd.root = awake_live Z s.roots r rd.root rd.lives in
        let eb : boxes rs2 L ≡ boxes s.roots L = boxes_put s.roots L r rd.root x1 rawl refl refl in
        let aside : (i j : ℕ) → Owns K ws L i j → (r ≡ i → ⊥) → W j ≡ M.words j = λ i j o ne. far j (let lw = R.core.mem.low i j o in omega arith) (λ ej. ne (R.core.mem.apart r i j (own j (omega arith) (omega arith)) o)) in
        let flies : (f1 : Flying) → Has f1 Z.flying → W f1.at ≡ M.words f1.at = λ f1 i. far f1.at (un f1 i) (λ ej. R.core.free f1 i r (own f1.at (omega arith) (omega arith))) in
        let mem2 : Mem K lo L (set_at ws r x1) W = mem_write K F lo L ws M.words W r rd.root x1 (pl_of fb l) R.core.mem rd.lives ea
        (λ g. record { lay = hd; order = omega arith; flag = λ g2. upd_same W0 (fb + l.flag) 0; full = λ g2. absurd (omega arith); kind = rd.sits.kind }) aside in
        let core2 : Core K Z lo L rs2 (awake Z rs2) W = core_put K F W r rd.root [] hole rd.lives cl (λ i e1. no_hole i e1) mem2 aside flies eb R.core in
        let N : Mach = sets M is W in
        let t2 : State = with_roots s rs2 in
        let y1 : Lay K L M.words (fb + (l.flag + 1)) l.ty v = subst (λ (v1 : Value). Lay K L M.words (fb + (l.flag + 1)) l.ty v1) rd.val rd.sits.lay in
        let ep : awake Z rs2 ≡ set_at ws r x1 = hush_put (roots_in_dying Z.dying) s.roots r x1 (Rattle.simulation.proofs.Context.awake_not Z s.roots r rd.root rd.lives) in
        let A : After K F P Q code fns q dw Z fb sp lo h L s.roots M.words l.ty is v t2 N = record {
          L2 = L;
          base = base_set K F P Q is W B;
          ctl = refl;
          there = f;
          rep = record {
            sp = R.sp;
            turns = R.turns;
            ins = R.ins;
            outs = R.outs;
            core = core_fly K F (fb + h) l.ty v (omega arith) (λ i o. (let lw = core2.mem.low i (fb + h) o in omega arith)) (λ i t1 e1 rf. absurd (nr i e1)) core2;
            pool = subst (λ (us : List Place). P M.pool W s.classes us) (sym eb) (Q.same_words M.pool M.words W s.classes (boxes s.roots L) R.pool (λ j g g2. far j (omega arith) (λ ej. omega arith)));
          };
          lay = copied K F L M.words W (fb + (l.flag + 1)) (fb + h) l.ty v y1 (λ i g. upd_other W0 (fb + l.flag) 0 ((fb + h) + i) (λ ej. omega arith) ∙ copy_in M.words (fb + h) (fb + (l.flag + 1)) sz i g);
          frame = subst (λ (k : List Root). Work K F P Z.dying (fb + h) L ws M.words L k W) (sym ep) (record {
            ext = λ i x k. k;
            kept = λ j k no1. far j (keep_low K Z.dying (fb + h) L s.roots (omega arith) R.core.dead j k) (λ ej. no1 r (own j (omega arith) (omega arith)));
            grew = λ i j o. inl (own_put K F L ws r i j rd.root x1 rd.lives o).0;
          });
        } in
        let ez : t2 ≡ z = ap (λ (k : Root). with_roots s (set_at s.roots r (record { live = true; val = hole; words = k.words }))) same_root ∙ sym wr.is in
        by_ok N (lead_one (MOVE h l.flag sz) is B.mode e (ap (λ i. go (sets M is (upd (copy M.words (i + h) (i + (l.flag + 1)) sz) (i + l.flag) 0))) B.fb))
        (subst (λ (x : State). After K F P Q code fns q dw Z fb sp lo h L s.roots M.words l.ty is v x N) ez A)

    con_no : (k : Lexeme) (vs : Values) (l : Loc) → con_v k vs ≡ ref_v l → ⊥
    con_no k vs l e = let z : ◌≡◌ {A = Bool} true false = ap is_con e in subst (λ (b1 : Bool). T b1) z tt
      where
        is_con : Value → Bool
        is_con (int_v j) = false
        is_con (con_v j us) = true
        is_con (box_v j) = false
        is_con (ref_v j) = false
        is_con hole = false

    box_no : (i : ℕ) (l : Loc) → box_v i ≡ ref_v l → ⊥
    box_no i l e = let z : ◌≡◌ {A = Bool} true false = ap is_box e in subst (λ (b1 : Bool). T b1) z tt
      where
        is_box : Value → Bool
        is_box (int_v j) = false
        is_box (con_v j us) = false
        is_box (box_v j) = true
        is_box (ref_v j) = false
        is_box hole = false

    pub sim_var : (x : Lexeme) (G : List Slot) (g : Env) (Z : Ctx) (fb sp lo h : ℕ) (is : List Instr) (L : List Pl) (s : State) (M : Mach) → M.ctl ≡ code_e K fns G h (var x) is → Stand K F P Q code fns q dw Z fb sp lo h G g L M → Rep K F P Z lo L s M → SteadyE K.lent q (suc u) (roots_in_dying Z.dying) Z.held (locs Z.flying) g (var x) s → Does K F P code (After K F P Q code fns q dw Z fb sp lo h L s.roots M.words (type_e K fns G (var x)) is) M (eval (suc u) K.lent q g (var x) s)
    unfolding eval
    sim_var x G g Z fb sp lo h is L s M ec S R st = does_need K F P code s (root_of g x) (λ r er. does_need K F P code s (read_at s (here r)) (λ v ev. by r er (found S.names x r er) v ev))
      where
        by_value : (r : ℕ) (l : Slot) → root_of g x ≡ some r → at_place L r ≡ some (pl_of fb l) → M.ctl ≡ value_code K h l l.ty ∷ is → (v : Value) → Read K L (awake Z s.roots) M.words r (pl_of fb l) v → MovesClear Z.held (locs Z.flying) s.roots r v → Does K F P code (After K F P Q code fns q dw Z fb sp lo h L s.roots M.words l.ty is) M (moves s r v)
        by_value r l er ea ec2 (int_v k) rd mc = let y1 = subst (λ (v1 : Value). Lay K L M.words (fb + (l.flag + 1)) l.ty v1) rd.val rd.sits.lay in
            copies l Z fb sp lo h is L s M (int_v k) l.ty S.base (ec2 ∙ ap (λ (t : Ty). value_code K h l t ∷ is) y1.0) S.heap S.here S.under R refl (ap K.size y1.0 ∙ F.one_int) y1 (λ i t e rf. absurd (subst (λ (t1 : Ty). Refers t1 t) y1.0 rf))
        by_value r l er ea ec2 (con_v k vs) rd mc = let y1 = subst (λ (v1 : Value). Lay K L M.words (fb + (l.flag + 1)) l.ty v1) rd.val rd.sits.lay in
            does_need K F P code s (write_at s (here r) hole) (λ z ew. moved l r (subst Holed (sym y1.1.1) tt) Z fb sp lo h is L s z M (con_v k vs) S.base (ec2 ∙ (ap (λ (t : Ty). value_code K h l t ∷ is) y1.1.1 ∙ ap (λ (t : Ty). MOVE h l.flag (K.size t) ∷ is) (sym y1.1.1))) S.heap S.here S.under R refl (con_no k vs) ea rd mc ew)
        by_value r l er ea ec2 (box_v i) rd mc = let y1 = subst (λ (v1 : Value). Lay K L M.words (fb + (l.flag + 1)) l.ty v1) rd.val rd.sits.lay in
            does_need K F P code s (write_at s (here r) hole) (λ z ew. moved l r (subst Holed (sym y1.1.0) tt) Z fb sp lo h is L s z M (box_v i) S.base (ec2 ∙ (ap (λ (t : Ty). value_code K h l t ∷ is) y1.1.0 ∙ ap (λ (t : Ty). MOVE h l.flag (K.size t) ∷ is) (sym y1.1.0))) S.heap S.here S.under R refl (box_no i) ea rd mc ew)
        by_value r l er ea ec2 (ref_v i) rd mc = refs l.ty refl
          where
            y1 : Lay K L M.words (fb + (l.flag + 1)) l.ty (ref_v i)
            y1 = subst (λ (v1 : Value). Lay K L M.words (fb + (l.flag + 1)) l.ty v1) rd.val rd.sits.lay

            spots : (j : Loc) (t : Ty) → ref_v i ≡ ref_v j → Refers l.ty t → Spot K L (awake Z s.roots) j (M.words (fb + (l.flag + 1))) t
            spots j t e rf = R.core.named r (held_root g Z.held S.held x r er) rd.root (pl_of fb l) j t rd.lives ea (rd.val ∙ e) rf

            refs : (t : Ty) → l.ty ≡ t → Does K F P code (After K F P Q code fns q dw Z fb sp lo h L s.roots M.words l.ty is) M (ok (ref_v i) s)
            refs int e = absurd (subst (λ (t1 : Ty). Refers t1 y1.0) e y1.1)
            refs (dat d) e = absurd (subst (λ (t1 : Ty). Refers t1 y1.0) e y1.1)
            refs (box d) e = absurd (subst (λ (t1 : Ty). Refers t1 y1.0) e y1.1)
            refs (ref d) e = copies l Z fb sp lo h is L s M (ref_v i) l.ty S.base (ec2 ∙ ap (λ (t1 : Ty). value_code K h l t1 ∷ is) e) S.heap S.here S.under R refl (ap K.size e ∙ F.one_ref d) y1 spots
            refs (mut d) e = copies l Z fb sp lo h is L s M (ref_v i) l.ty S.base (ec2 ∙ ap (λ (t1 : Ty). value_code K h l t1 ∷ is) e) S.heap S.here S.under R refl (ap K.size e ∙ F.one_mut d) y1 spots
        by_value r l er ea ec2 hole rd mc = by_stop tt

        by : (r : ℕ) → root_of g x ≡ some r → Found L fb G x r → (v : Value) → read_at s (here r) ≡ some v → Does K F P code (After K F P Q code fns q dw Z fb sp lo h L s.roots M.words (type_e K fns G (var x)) is) M (moves s r v)
        by r er fo v ev = let l = fo.slot in
            subst (λ (t : Ty). Does K F P code (After K F P Q code fns q dw Z fb sp lo h L s.roots M.words t is) M (moves s r v)) (sym (ap (λ (o : Option Slot). from_option o int (λ y. y.ty)) fo.is))
            (by_value r l er fo.at (ec ∙ ap (λ (o : Option Slot). from_option o STUCK (λ y. value_code K h y y.ty) ∷ is) fo.is) v (reads K F P Q Z lo L s M.words r (pl_of fb l) v R.core fo.at refl ev) (st r er v ev))

    -- a root's address
    addressed : (l : Slot) (r : ℕ) (x : Root) (t : Ty) (Z : Ctx) (fb sp lo h : ℕ) (is : List Instr) (L : List Pl) (s : State) (M : Mach) → Base M fb sp → M.ctl ≡ ADDR h l.flag ∷ is → K.lent.heap ≤ fb → lo ≤ fb + h → Under Z (fb + h) → Rep K F P Z lo L s M → at_place L r ≡ some (pl_of fb l) → Live (awake Z s.roots) r x → Refers t l.ty → Does K F P code (After K F P Q code fns q dw Z fb sp lo h L s.roots M.words t is) M (ok (ref_v (here r)) s)
    addressed l r x t Z fb sp lo h is L s M B e h1 h2 un R ea lv rf =
        by_ok (sets M is (upd M.words (fb + h) (fb + (l.flag + 1)))) (lead_one (ADDR h l.flag) is B.mode e (ap (λ i. go (sets M is (upd M.words (i + h) (i + (l.flag + 1))))) B.fb))
        (one_word K F P Q code fns q dw Z fb sp lo h L s M t is (ref_v (here r)) (fb + (l.flag + 1)) B h1 h2 un R refl (l.ty, rf) (λ j y1 e1 rf1. spotted j y1 e1 (same_ref t l.ty y1 rf rf1)))
      where
        same_ref : (t a c : Ty) → Refers t a → Refers t c → a ≡ c
        same_ref int a c e1 e2 = absurd e1
        same_ref (dat d) a c e1 e2 = absurd e1
        same_ref (box d) a c e1 e2 = absurd e1
        same_ref (ref d) a c e1 e2 = sym e1 ∙ e2
        same_ref (mut d) a c e1 e2 = sym e1 ∙ e2

        spotted : (j : Loc) (y1 : Ty) → ref_v (here r) ≡ ref_v j → l.ty ≡ y1 → Spot K L (awake Z s.roots) j (fb + (l.flag + 1)) y1
        spotted j y1 e1 e2 = let ej : here r ≡ j = cc in subst (λ (k : Loc). Spot K L (awake Z s.roots) k (fb + (l.flag + 1)) y1) ej (subst (λ (k : Ty). Spot K L (awake Z s.roots) (here r) (fb + (l.flag + 1)) k) e2 (spot_root K F L (awake Z s.roots) r x (pl_of fb l) lv ea))

    pub sim_lend : (x : Lexeme) (G : List Slot) (g : Env) (Z : Ctx) (fb sp lo h : ℕ) (is : List Instr) (L : List Pl) (s : State) (M : Mach) → M.ctl ≡ code_e K fns G h (lend x) is → Stand K F P Q code fns q dw Z fb sp lo h G g L M → Rep K F P Z lo L s M → SteadyE K.lent q (suc u) (roots_in_dying Z.dying) Z.held (locs Z.flying) g (lend x) s → Does K F P code (After K F P Q code fns q dw Z fb sp lo h L s.roots M.words (type_e K fns G (lend x)) is) M (eval (suc u) K.lent q g (lend x) s)
    unfolding eval
    sim_lend x G g Z fb sp lo h is L s M ec S R st = does_need K F P code s (root_of g x) (λ r er. by r (found S.names x r er) (st r er))
      where
        by : (r : ℕ) → Found L fb G x r → (y : Root) × Live s.roots r y → Does K F P code (After K F P Q code fns q dw Z fb sp lo h L s.roots M.words (type_e K fns G (lend x)) is) M (ok (ref_v (here r)) s)
        by r fo lv = let l = fo.slot in
            let lv2 : Live (awake Z s.roots) r lv.0 = live_hush (roots_in_dying Z.dying) s.roots r lv.0 (not_among K F P Q L s.roots Z.dying r (pl_of fb l) R.core.dead fo.at refl) lv.1 in
            subst (λ (t : Ty). Does K F P code (After K F P Q code fns q dw Z fb sp lo h L s.roots M.words t is) M (ok (ref_v (here r)) s)) (sym (ap (λ (o : Option Slot). from_option o int (λ y. mut y.ty)) fo.is))
            (addressed l r lv.0 (mut l.ty) Z fb sp lo h is L s M S.base (ec ∙ ap (λ (o : Option Slot). from_option o STUCK (λ y. ADDR h y.flag) ∷ is) fo.is) S.heap S.here S.under R fo.at lv2 refl)

    -- the address of what a name holds, or of what it refers to: to the word at h
    pub looked : (x : Lexeme) (r : ℕ) (l : Slot) (v : Value) (G : List Slot) (g : Env) (Z : Ctx) (fb sp lo h : ℕ) (is : List Instr) (L : List Pl) (s : State) (M : Mach) → root_of g x ≡ some r → at_place L r ≡ some (pl_of fb l) → Read K L (awake Z s.roots) M.words r (pl_of fb l) v → M.ctl ≡ share_code h l l.ty ∷ is → Stand K F P Q code fns q dw Z fb sp lo h G g L M → Rep K F P Z lo L s M → Does K F P code (After K F P Q code fns q dw Z fb sp lo h L s.roots M.words (share_ty l.ty) is) M (ok (ref_v (place_of r v)) s)
    looked x r l v G g Z fb sp lo h is L s M er ea rd ec2 S R = by_value v rd
      where
        owned1 : (t : Ty) → l.ty ≡ t → share_code h l t ≡ ADDR h l.flag → Refers (share_ty t) t → {v1 : Value} → Read K L (awake Z s.roots) M.words r (pl_of fb l) v1 → Does K F P code (After K F P Q code fns q dw Z fb sp lo h L s.roots M.words (share_ty l.ty) is) M (ok (ref_v (here r)) s)
        owned1 t et es rf rd1 = addressed l r rd1.root (share_ty l.ty) Z fb sp lo h is L s M S.base (ec2 ∙ (ap (λ (t1 : Ty). share_code h l t1 ∷ is) et ∙ ap (λ (i : Instr). i ∷ is) es)) S.heap S.here S.under R ea rd1.lives (subst (λ (t1 : Ty). Refers (share_ty t1) t1) (sym et) rf)

        holed : (t : Ty) → l.ty ≡ t → Holed t → {v1 : Value} → Read K L (awake Z s.roots) M.words r (pl_of fb l) v1 → Does K F P code (After K F P Q code fns q dw Z fb sp lo h L s.roots M.words (share_ty l.ty) is) M (ok (ref_v (here r)) s)
        holed int et hd rd1 = absurd hd
        holed (dat d) et hd rd1 = owned1 (dat d) et refl refl rd1
        holed (box t) et hd rd1 = owned1 (box t) et refl refl rd1
        holed (ref t) et hd rd1 = absurd hd
        holed (mut t) et hd rd1 = absurd hd

        again : (i : Loc) (t u1 : Ty) → l.ty ≡ t → Refers t u1 → Read K L (awake Z s.roots) M.words r (pl_of fb l) (ref_v i) → Does K F P code (After K F P Q code fns q dw Z fb sp lo h L s.roots M.words (share_ty l.ty) is) M (ok (ref_v i) s)
        again i int u1 et rf rd1 = absurd rf
        again i (dat d) u1 et rf rd1 = absurd rf
        again i (box t) u1 et rf rd1 = absurd rf
        again i (ref t) u1 et rf rd1 = subst (λ (t1 : Ty). Does K F P code (After K F P Q code fns q dw Z fb sp lo h L s.roots M.words (share_ty t1) is) M (ok (ref_v i) s)) (sym et) (copies l Z fb sp lo h is L s M (ref_v i) (ref t) S.base (ec2 ∙ ap (λ (t1 : Ty). share_code h l t1 ∷ is) et) S.heap S.here S.under R refl (F.one_ref t) (u1, rf)
            (λ j y1 e1 rf1. R.core.named r (held_root g Z.held S.held x r er) rd1.root (pl_of fb l) j y1 rd1.lives ea (rd1.val ∙ e1) (subst (λ (t1 : Ty). Refers t1 y1) (sym et) rf1)))
        again i (mut t) u1 et rf rd1 = subst (λ (t1 : Ty). Does K F P code (After K F P Q code fns q dw Z fb sp lo h L s.roots M.words (share_ty t1) is) M (ok (ref_v i) s)) (sym et) (copies l Z fb sp lo h is L s M (ref_v i) (ref t) S.base (ec2 ∙ ap (λ (t1 : Ty). share_code h l t1 ∷ is) et) S.heap S.here S.under R refl (F.one_ref t) (u1, rf)
            (λ j y1 e1 rf1. R.core.named r (held_root g Z.held S.held x r er) rd1.root (pl_of fb l) j y1 rd1.lives ea (rd1.val ∙ e1) (subst (λ (t1 : Ty). Refers t1 y1) (sym et) rf1)))

        lay_of : (v1 : Value) → Read K L (awake Z s.roots) M.words r (pl_of fb l) v1 → Lay K L M.words (fb + (l.flag + 1)) l.ty v1
        lay_of v1 rd1 = subst (λ (k : Value). Lay K L M.words (fb + (l.flag + 1)) l.ty k) rd1.val rd1.sits.lay

        by_value : (v1 : Value) → Read K L (awake Z s.roots) M.words r (pl_of fb l) v1 → Does K F P code (After K F P Q code fns q dw Z fb sp lo h L s.roots M.words (share_ty l.ty) is) M (ok (ref_v (place_of r v1)) s)
        by_value (int_v k) rd1 = let y = lay_of (int_v k) rd1 in owned1 int y.0 refl refl rd1
        by_value (con_v k vs) rd1 = let y = lay_of (con_v k vs) rd1 in owned1 (dat y.0.home) y.1.1 refl refl rd1
        by_value (box_v i) rd1 = let y = lay_of (box_v i) rd1 in owned1 (box y.0) y.1.0 refl refl rd1
        by_value (ref_v i) rd1 = let y = lay_of (ref_v i) rd1 in again i l.ty y.0 refl y.1 rd1
        by_value hole rd1 = holed l.ty refl (lay_of hole rd1) rd1

    pub sim_share : (x : Lexeme) (G : List Slot) (g : Env) (Z : Ctx) (fb sp lo h : ℕ) (is : List Instr) (L : List Pl) (s : State) (M : Mach) → M.ctl ≡ code_e K fns G h (share x) is → Stand K F P Q code fns q dw Z fb sp lo h G g L M → Rep K F P Z lo L s M → Does K F P code (After K F P Q code fns q dw Z fb sp lo h L s.roots M.words (type_e K fns G (share x)) is) M (eval (suc u) K.lent q g (share x) s)
    unfolding eval
    sim_share x G g Z fb sp lo h is L s M ec S R = does_need K F P code s (root_of g x) (λ r er. does_need K F P code s (read_at s (here r)) (λ v ev. by r er (found S.names x r er) v ev))
      where
        by : (r : ℕ) → root_of g x ≡ some r → Found L fb G x r → (v : Value) → read_at s (here r) ≡ some v → Does K F P code (After K F P Q code fns q dw Z fb sp lo h L s.roots M.words (type_e K fns G (share x)) is) M (ok (ref_v (place_of r v)) s)
        by r er fo v ev = let l = fo.slot in
            subst (λ (t : Ty). Does K F P code (After K F P Q code fns q dw Z fb sp lo h L s.roots M.words t is) M (ok (ref_v (place_of r v)) s)) (sym (ap (λ (o : Option Slot). from_option o int (λ y. share_ty y.ty)) fo.is))
            (looked x r l v G g Z fb sp lo h is L s M er fo.at (reads K F P Q Z lo L s M.words r (pl_of fb l) v R.core fo.at refl ev) (ec ∙ ap (λ (o : Option Slot). from_option o STUCK (λ y. share_code h y y.ty) ∷ is) fo.is) S R)

    pub sim_load : (x : Lexeme) (G : List Slot) (g : Env) (Z : Ctx) (fb sp lo h : ℕ) (is : List Instr) (L : List Pl) (s : State) (M : Mach) → M.ctl ≡ code_e K fns G h (load x) is → Stand K F P Q code fns q dw Z fb sp lo h G g L M → Rep K F P Z lo L s M → Does K F P code (After K F P Q code fns q dw Z fb sp lo h L s.roots M.words int is) M (eval (suc u) K.lent q g (load x) s)
    unfolding eval
    sim_load x G g Z fb sp lo h is L s M ec S R = does_need K F P code s (root_of g x) (λ r er. does_need K F P code s (read_at s (here r)) (λ v ev. does_need K F P code s (loc_of v) (λ i ei. does_need K F P code s (read_at s i) (λ w ew. does_need K F P code s (num_of w) (λ k ek. by r er (found S.names x r er) v ev i ei w ew k ek)))))
      where
        by : (r : ℕ) → root_of g x ≡ some r → Found L fb G x r → (v : Value) → read_at s (here r) ≡ some v → (i : Loc) → loc_of v ≡ some i → (w : Value) → read_at s i ≡ some w → (k : ℕ) → num_of w ≡ some k → Does K F P code (After K F P Q code fns q dw Z fb sp lo h L s.roots M.words int is) M (ok (int_v k) s)
        by r er fo v ev i ei w ew k ek =
            let l = fo.slot in let rd = reads K F P Q Z lo L s M.words r (pl_of fb l) v R.core fo.at refl ev in
            let y : Lay K L M.words (fb + (l.flag + 1)) l.ty (ref_v i) = subst (λ (v1 : Value). Lay K L M.words (fb + (l.flag + 1)) l.ty v1) (rd.val ∙ loc_is v i ei) rd.sits.lay in
            let sp1 : Spot K L (awake Z s.roots) i (M.words (fb + (l.flag + 1))) y.0 = R.core.named r (held_root g Z.held S.held x r er) rd.root (pl_of fb l) i y.0 rd.lives fo.at (rd.val ∙ loc_is v i ei) y.1 in
            let li = at_spot K F lo L (with_roots s (awake Z s.roots)) M.words i (M.words (fb + (l.flag + 1))) y.0 w R.core.mem sp1 (spot_reads K F L s (awake Z s.roots) i (M.words (fb + (l.flag + 1))) y.0 w (λ j x1 g1. awake_live Z s.roots j x1 g1) sp1 ew) in
            let y2 : Lay K L M.words (M.words (fb + (l.flag + 1))) y.0 (int_v k) = subst (λ (v1 : Value). Lay K L M.words (M.words (fb + (l.flag + 1))) y.0 v1) (num_is w k ek) li.lay in
            by_ok (sets M is (upd M.words (fb + h) k)) (lead_one (LOAD h l.flag) is S.base.mode (ec ∙ ap (λ (o : Option Slot). from_option o STUCK (λ z. LOAD h z.flag) ∷ is) fo.is)
            (ap (λ f. go (sets M is (upd M.words (f + h) (M.words (M.words (f + (l.flag + 1))))))) S.base.fb ∙ ap (λ f. go (sets M is (upd M.words (fb + h) f))) y2.1))
            (one_word K F P Q code fns q dw Z fb sp lo h L s M int is (int_v k) k S.base S.heap S.here S.under R refl (refl, upd_same M.words (fb + h) k, y2.2) (λ j t e rf. absurd rf))

    pub sim_get : (G : List Slot) (g : Env) (Z : Ctx) (fb sp lo h : ℕ) (is : List Instr) (L : List Pl) (s : State) (M : Mach) → M.ctl ≡ GET h ∷ is → Stand K F P Q code fns q dw Z fb sp lo h G g L M → Rep K F P Z lo L s M → Does K F P code (After K F P Q code fns q dw Z fb sp lo h L s.roots M.words int is) M (reads_in s)
    sim_get G g Z fb sp lo h is L s M ec S R =
        let k : ℕ = next_read M.ins in
        let A = one_word K F P Q code fns q dw Z fb sp lo h L s M int is (int_v k) k S.base S.heap S.here S.under R refl (refl, upd_same M.words (fb + h) k, next_lt M.ins) (λ j t e rf. absurd rf) in
        let t2 : State = record { roots = s.roots; classes = s.classes; under = s.under; turns = s.turns; ins = drop 1 s.ins; outs = s.outs ++ (two_64 ∷ []) } in
        subst (λ (x : ℕ). Does K F P code (After K F P Q code fns q dw Z fb sp lo h L s.roots M.words int is) M (ok (int_v x) t2)) (ap next_read R.ins)
        (by_ok (reading M is (upd M.words (fb + h) k)) (lead_one (GET h) is S.base.mode ec (ap (λ i. go (reading M is (upd M.words (i + h) k))) S.base.fb))
        (record {
          L2 = A.L2;
          base = record { mode = S.base.mode; fb = S.base.fb; sp = S.base.sp; full = S.base.full };
          ctl = refl;
          lay = A.lay;
          there = refl;
          frame = A.frame;
          rep = record { core = A.rep.core; pool = A.rep.pool; sp = R.sp; turns = R.turns; ins = ap (drop 1) R.ins; outs = R.outs ∙ sym (shown_more s.outs two_64 ∙ nothing_more (shown_only s.outs)) };
        }))

    words_fit : (L : List Pl) (w : ℕ → ℕ) (a : ℕ) (t : Ty) (v : Value) → Lay K L w a t v → flag_of v ≡ 1 → words_of q v ≡ K.size t
    words_fit L w a t (int_v k) y f = sym (ap K.size y.0 ∙ F.one_int)
    words_fit L w a t (con_v k vs) y f = dw k vs y.0 y.1.0 ∙ ap K.size (sym y.1.1)
    words_fit L w a t (box_v r) y f = sym (ap K.size y.1.0 ∙ F.one_box y.0)
    words_fit L w a int (ref_v l) y f = absurd y.1
    words_fit L w a (dat d) (ref_v l) y f = absurd y.1
    words_fit L w a (box t) (ref_v l) y f = absurd y.1
    words_fit L w a (ref t) (ref_v l) y f = sym (F.one_ref t)
    words_fit L w a (mut t) (ref_v l) y f = sym (F.one_mut t)
    words_fit L w a t hole y f = absurd (omega arith)

    in_end : (j : ℕ) (us : List Place) (y : Place) → y.at ≤ j → j < y.at + y.size → In j (us ++ (y ∷ []))
    in_end j us y g1 g2 = in_mid j us [] y g1 g2

    -- box e: a place from the pools, the words moved there
    pub sim_boxed : (e : Expr) (G : List Slot) (g : Env) (Z : Ctx) (fb sp lo h : ℕ) (is : List Instr) (L : List Pl) (s : State) (M : Mach) → FitE K F P Q code fns q dw G (boxed e) → M.ctl ≡ code_e K fns G h (boxed e) is → Suf K fns (code_e K fns G h (boxed e) is) code → Stand K F P Q code fns q dw Z fb sp lo h G g L M → fb + (h + high_e K fns G (boxed e)) ≤ K.lent.heap + sp → Rep K F P Z lo L s M → SteadyE K.lent q (suc u) (roots_in_dying Z.dying) Z.held (locs Z.flying) g (boxed e) s → Does K F P code (After K F P Q code fns q dw Z fb sp lo h L s.roots M.words (box (type_e K fns G e)) is) M (eval (suc u) K.lent q g (boxed e) s)
    unfolding eval
    sim_boxed e G g Z fb sp lo h is L s M f ec sf S rm R st =
        does_then K F P code (eval u K.lent q g e s) (IH e G g Z fb sp lo h (BOX h (K.size (type_e K fns G e)) ∷ is) L s M f.0 ec sf S rm R st) (λ v t N ev A.
        subst (λ k. Does K F P code (After K F P Q code fns q dw Z fb sp lo h L s.roots M.words (box (type_e K fns G e)) is) N (makes_box K.lent t v k)) (sym (words_fit A.L2 N.words (fb + h) (type_e K fns G e) v A.lay A.there)) (by v t N A (K.take N.pool N.words (K.size (type_e K fns G e))) refl))
      where
        Post : Value → State → Mach → Type 0
        Post = After K F P Q code fns q dw Z fb sp lo h L s.roots M.words (box (type_e K fns G e)) is

        by : (v : Value) (t : State) (N : Mach) → After K F P Q code fns q dw Z fb sp lo h L s.roots M.words (type_e K fns G e) (BOX h (K.size (type_e K fns G e)) ∷ is) v t N → (o : Option Taken) → K.take N.pool N.words (K.size (type_e K fns G e)) ≡ o → Does K F P code (After K F P Q code fns q dw Z fb sp lo h L s.roots M.words (box (type_e K fns G e)) is) N (makes_box K.lent t v (K.size (type_e K fns G e)))
        by v t N A none et =
            let ty : Ty = type_e K fns G e in let z : ℕ = K.size ty in
            subst (λ bb. Does K F P code (After K F P Q code fns q dw Z fb sp lo h L s.roots M.words (box ty) is) N (choose bb (ok (box_v (length t.roots)) (with_classes (adds_root t v z) (count_in t.classes z))) (stop no_heap t))) (sym (Q.refused N.pool N.words t.classes (boxes t.roots A.L2) ty A.rep.pool et))
            (by_stop (subst (λ os. Runs K code N (stopped no_heap) os) A.rep.outs (halt_one (BOX h z) is A.base.mode A.ctl (ap (λ (o : Option Taken). from_option o (halt (stopped no_heap) N.outs) (λ t1. go (pooled N is (upd (copy N.words t1.at (N.fb + h) z) (N.fb + h) t1.at) t1.left))) et))))
        by v t N A (some k) et =
            let ty : Ty = type_e K fns G e in let z : ℕ = K.size ty in let h1 = S.heap in let h2 = S.here in let h0 = S.low in
            let Ra = rep_unfly K F P Q Z (fb + h) ty v A.rep in
            let c : Core K Z lo A.L2 t.roots (awake Z t.roots) N.words = Ra.core in
            let us : List Place = boxes t.roots A.L2 in
            let wi = Q.within N.pool N.words t.classes us ty k A.rep.pool et in
            let sw = F.some_word ty in
            let W0 : ℕ → ℕ = copy N.words k.at (fb + h) z in
            let W : ℕ → ℕ = upd W0 (fb + h) k.at in
            let O : Mach = pooled N is W k.left in
            let y : Pl = record { flag = k.at; at = k.at; ty = ty; box = true } in
            let x1 : Root = record { live = true; val = v; words = z } in
            let L3 : List Pl = A.L2 ++ (y ∷ []) in
            let rs3 : List Root = t.roots ++ (x1 ∷ []) in
            let ws : List Root = awake Z t.roots in
            let lenL : length A.L2 ≡ length t.roots = c.mem.long ∙ hush_length (roots_in_dying Z.dying) t.roots in
            let apart1 : (j : ℕ) → k.at ≤ j → j < k.at + z → In j us → ⊥ = Q.apart N.pool N.words t.classes us ty k A.rep.pool et in
            let clear : (r j : ℕ) → Owns K ws A.L2 r j → k.at ≤ j → j < k.at + z → ⊥ = λ r j o g1 g2. apart1 j g1 g2 (c.inside r j o (omega arith)) in
            let same1 : (j : ℕ) → (j ≡ fb + h → ⊥) → (k.at ≤ j → j < k.at + z → ⊥) → W j ≡ N.words j = λ j g1 g2. upd_other W0 (fb + h) k.at j g1 ∙ copy_off N.words k.at (fb + h) z j g2 in
            let flies : (f1 : Flying) → Has f1 Z.flying → W f1.at ≡ N.words f1.at = λ f1 i. (let hi = c.high f1 i in let un = S.under f1 i in same1 f1.at (λ ej. omega arith) (λ g1 g2. omega arith)) in
            let core1 : Core K Z lo A.L2 t.roots ws W = Rattle.simulation.proofs.Context.core_words K F W (λ r j o. same1 j (λ ej. let lw = c.mem.low r j o in omega arith) (clear r j o)) flies c in
            let lay1 : Lay K L3 W k.at ty v = lay_ext K A.L2 L3 (ext_more K F A.L2 y) W k.at ty v (copied K F A.L2 N.words W (fb + h) k.at ty v A.lay (λ i g1. upd_other W0 (fb + h) k.at (k.at + i) (λ ej. omega arith) ∙ copy_in N.words k.at (fb + h) z i g1)) in
            let eb : boxes rs3 L3 ≡ us ++ (record { at = k.at; size = z } ∷ []) = boxes_box t.roots A.L2 x1 y lenL refl sw in
            let core3 : Core K Z lo L3 rs3 (awake Z rs3) W = core_less K F Z.held Z.flying (λ r i. has_rest i) (λ f1 i. i)
            (core_add K F lo y x1 (record { lay = lay1; order = omega arith; flag = λ g1. absurd (omega arith); full = λ g1. A.there; kind = inl (refl, refl, refl, wi) }) clear (omega arith) (omega arith)
            (λ l t1 e1 rf. absurd (not_ref K A.L2 N.words (fb + h) ty l f.1 (subst (λ (v1 : Value). Lay K A.L2 N.words (fb + h) ty v1) e1 A.lay)))
            (λ f1 i g1 g2. (let hi = c.high f1 i in omega arith))
            (λ j g1 g2 g3. subst (λ (ps : List Place). In j ps) (sym eb) (in_end j us _ g1 g2)) core1) in
            let atend : at_place L3 (length t.roots) ≡ some y = subst (λ i. at_place L3 i ≡ some y) lenL (at_end A.L2 y) in
            let pool3 : P k.left W (count_in t.classes z) (boxes rs3 L3) = subst (λ (ps : List Place). P k.left W (count_in t.classes z) ps) (sym eb)
            (Q.same_words k.left N.words W (count_in t.classes z) (us ++ (record { at = k.at; size = z } ∷ [])) (Q.taken N.pool N.words t.classes us ty k A.rep.pool et) (λ j g1 g2. same1 j (λ ej. omega arith) (λ g3 g4. g2 (in_end j us _ g3 g4)))) in
            let em : awake Z rs3 ≡ ws ++ (x1 ∷ []) = hush_more (roots_in_dying Z.dying) t.roots x1 (dying_below K A.L2 t.roots Z.dying c.dead) in
            let notkeep : (j : ℕ) → k.at ≤ j → j < k.at + z → Keep K Z.dying (fb + h) j → ⊥ = λ j g1 g2 kp. not_kept A.L2 t Z.dying (fb + h) k z wi apart1 c.dead j g1 g2 kp in
            let fr : Work K F P Z.dying (fb + h) A.L2 ws N.words L3 (awake Z rs3) W = subst (λ (kk : List Root). Work K F P Z.dying (fb + h) A.L2 ws N.words L3 kk W) (sym em)
            (record {
              ext = ext_more K F A.L2 y;
              kept = λ j kp no1. same1 j (λ ej. (let lw = keep_low K Z.dying (fb + h) A.L2 t.roots (omega arith) c.dead j kp in omega arith)) (λ g3 g4. notkeep j g3 g4 kp);
              grew = λ r j o. grew1 A.L2 ws Z.dying (fb + h) k z r j notkeep (own_more K F A.L2 ws y x1 r j c.mem.long o);
            }) in
            subst (λ bb. Does K F P code (After K F P Q code fns q dw Z fb sp lo h L s.roots M.words (box ty) is) N (choose bb (ok (box_v (length t.roots)) (with_classes (adds_root t v z) (count_in t.classes z))) (stop no_heap t))) (sym (Q.fits N.pool N.words t.classes us ty k A.rep.pool et))
            (by_ok O (lead_one (BOX h z) is A.base.mode A.ctl (ap (λ (o : Option Taken). from_option o (halt (stopped no_heap) N.outs) (λ t1. go (pooled N is (upd (copy N.words t1.at (N.fb + h) z) (N.fb + h) t1.at) t1.left))) et ∙ ap (λ i. go (pooled N is (upd (copy N.words k.at (i + h) z) (i + h) k.at) k.left)) A.base.fb))
            (after_on K F P Q code fns q dw A.frame (record {
              L2 = L3;
              base = record { mode = A.base.mode; fb = A.base.fb; sp = A.base.sp; full = A.base.full };
              ctl = refl;
              there = refl;
              rep = record { core = core3; pool = pool3; sp = A.rep.sp; turns = A.rep.turns; ins = A.rep.ins; outs = A.rep.outs };
              lay = (ty, (refl, (record { pl = y; is = atend; at = sym (upd_same W0 (fb + h) k.at); ty = refl }, refl)));
              frame = fr;
            })))
          where
            not_kept : (L2 : List Pl) (t : State) (D : List Dying) (b1 : ℕ) (k : Taken) (z : ℕ) → k.at + z ≤ K.lent.heap → ((j : ℕ) → k.at ≤ j → j < k.at + z → In j (boxes t.roots L2) → ⊥) → ((d : Dying) → Has d D → Rattle.simulation.proofs.Context.Dead K L2 t.roots d) → (j : ℕ) → k.at ≤ j → j < k.at + z → Keep K D b1 j → ⊥
            not_kept L2 t D b1 k z wi ap1 dd j g1 g2 (inl kp) = let k0 = kp.0 in omega arith
            not_kept L2 t D b1 k z wi ap1 dd j g1 g2 (inr kp) = let d1 = dd kp.0 kp.1.0 in let ew = d1.words in let sw = F.some_word kp.0.pl.ty in let k2 = kp.1.2 in
                ap1 j g1 g2 (Rattle.simulation.proofs.Boxes.in_boxes t.roots L2 kp.0.root d1.root kp.0.pl j d1.lives d1.is (omega arith) kp.1.1 (omega arith))

            grew1 : (L2 : List Pl) (ws : List Root) (D : List Dying) (b1 : ℕ) (k : Taken) (z r j : ℕ) → ((j : ℕ) → k.at ≤ j → j < k.at + z → Keep K D b1 j → ⊥) → Owns K ws L2 r j ⊎ ((r ≡ length ws) × (k.at ≤ j) × (j < k.at + z)) → Owns K ws L2 r j ⊎ (Keep K D b1 j → ⊥)
            grew1 L2 ws D b1 k z r j nk (inl o) = inl o
            grew1 L2 ws D b1 k z r j nk (inr o) = inr (λ kp. nk j o.1 o.2 kp)
