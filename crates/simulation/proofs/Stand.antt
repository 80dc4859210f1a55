-- Where work stands in a frame; reading and writing a name's root; the statement for expressions.
use mathlib.Core.Path.{◌≡◌, refl, sym, ap, subst, ◌∙◌}
use mathlib.Core.Bool.{Bool, true, false, not}
use mathlib.Core.List.{List, [], ◌∷◌}
use mathlib.Core.Option.{Option, some}
use Prim.Native.Nat.{ℕ, ◌+◌, ◌≤◌, ◌<◌}
use native.Mathlib.Omega.{arith}
use lib.Dec.{T}
use Rattle.language.specs.Base.{Lexeme, choose, at_place, set_at, same}
use Rattle.language.specs.Syntax.{Ty, int, dat, box, ref, mut, Expr, Exprs, Prog}
use Rattle.language.specs.Checks.{owned}
use Rattle.language.specs.Meaning.{Loc, Value, int_v, con_v, box_v, ref_v, hole, Values, Root, Class, State, Env, root_of, with_roots, live_root, read_at, write_at, here, words_of, num_of, loc_of, box_of, at_path, eval}
use Rattle.simulation.proofs.Machine.{Kit, Info, Place, Pools, Instr, running, Mach, upd, sets}
use Rattle.simulation.proofs.Lowering.{Slot, Entry, type_e, code_e, high_e, Suf}
use Rattle.simulation.proofs.Memory.{no_some, some_is, Pl, Lay, Fits, Live, lives, flag_of, Refers, Sits, upd_same, upd_other, frame_words}
use Rattle.simulation.proofs.Dying.{NotIn, live_hush}
use Rattle.simulation.proofs.Boxes.{boxes}
use Rattle.simulation.proofs.WordOps.{if_some_is}
use Rattle.simulation.proofs.Pointers.{Spot}
use Rattle.simulation.proofs.Context.{Flying, Dying, Ctx, Has, has_this, has_rest, roots_in_dying, locs, awake, with_flying, fly, Dead, Core, core_words, core_fly, core_unfly}
use Rattle.simulation.specs.Borrows.{SteadyE}
use Rattle.simulation.proofs.Relation.{Pooling, Names, Keep, keep_low, Work, work_on, Rep, Does}

-- registers as they stand in a frame at rest
pub record Base (M : Mach) (f1 s1 : ℕ) : Type 0 where
  pub mode : M.mode ≡ running
  pub fb : M.fb ≡ f1
  pub sp : M.sp ≡ s1
  pub full : M.full ≡ s1

-- the roots of names are held
abbrev pub AllHeld : Env → List ℕ → Type 0
AllHeld [] hs = Unit {0}
AllHeld (m ∷ g) hs = Has m.root hs × AllHeld g hs

pub held_root : (g : Env) (hs : List ℕ) → AllHeld g hs → (x : Lexeme) (r : ℕ) → root_of g x ≡ some r → Has r hs
held_root [] hs h x r e = absurd (no_some e)
held_root (m ∷ g) hs h x r e = by (same m.name x) e (held_root g hs h.1 x r)
  where
    by : (t : Bool) → choose t (some m.root) (root_of g x) ≡ some r → (root_of g x ≡ some r → Has r hs) → Has r hs
    by true d f = subst (λ (k : ℕ). Has k hs) (some_is d) h.0
    by false d f = f d

-- operands under way lie below
abbrev pub Under : Ctx → ℕ → Type 0
Under Z a = (f : Flying) → Has f Z.flying → f.at < a

-- a root that was read
pub record Read (K : Kit) (L : List Pl) (ws : List Root) (w : ℕ → ℕ) (r : ℕ) (y : Pl) (v : Value) : Type 0 where
  pub root : Root
  pub lives : Live ws r root
  pub val : root.val ≡ v
  pub sits : Sits K L w y root

pub num_is : (v : Value) (k : ℕ) → num_of v ≡ some k → v ≡ int_v k
num_is (int_v j) k e = ap int_v (some_is e)
num_is (con_v j vs) k e = absurd (no_some e)
num_is (box_v r) k e = absurd (no_some e)
num_is (ref_v l) k e = absurd (no_some e)
num_is hole k e = absurd (no_some e)

pub loc_is : (v : Value) (l : Loc) → loc_of v ≡ some l → v ≡ ref_v l
loc_is (int_v j) k e = absurd (no_some e)
loc_is (con_v j vs) k e = absurd (no_some e)
loc_is (box_v r) k e = absurd (no_some e)
loc_is (ref_v l) k e = ap ref_v (some_is e)
loc_is hole k e = absurd (no_some e)

pub box_is : (v : Value) (i : ℕ) → box_of v ≡ some i → v ≡ box_v i
box_is (int_v j) k e = absurd (no_some e)
box_is (con_v j vs) k e = absurd (no_some e)
box_is (box_v r) k e = ap box_v (some_is e)
box_is (ref_v l) k e = absurd (no_some e)
box_is hole k e = absurd (no_some e)

-- what is owned holds no reference
pub not_ref : (K : Kit) (L : List Pl) (w : ℕ → ℕ) (a : ℕ) (t : Ty) (l : Loc) → owned t ≡ true → Lay K L w a t (ref_v l) → ⊥
not_ref K L w a int l e y = y.1
not_ref K L w a (dat d) l e y = y.1
not_ref K L w a (box t) l e y = y.1
not_ref K L w a (ref t) l e y = subst (λ (z : Bool). T (not z)) e tt
not_ref K L w a (mut t) l e y = subst (λ (z : Bool). T (not z)) e tt

module _ (K : Kit) (F : Fits K) (P : Pools → (ℕ → ℕ) → List Class → List Place → Type 0) (Q : Pooling K P) where
  -- what lies in no box isn't being dropped
  pub not_among : (L : List Pl) (rs : List Root) (D : List Dying) (r : ℕ) (y : Pl) → ((d : Dying) → Has d D → Dead K L rs d) → at_place L r ≡ some y → y.box ≡ false → NotIn r (roots_in_dying D)
  not_among L rs [] r y f e eb = tt
  not_among L rs (d ∷ D) r y f e eb = ((λ q. (let z = f d (has_this refl) in let e1 : d.pl ≡ y = some_is (sym z.is ∙ (ap (at_place L) q ∙ e)) in subst (λ (t : Bool). T (not t)) (sym eb ∙ (ap (λ (k : Pl). k.box) (sym e1) ∙ z.boxed)) tt)), not_among L rs D r y (λ d1 h. f d1 (has_rest h)) e eb)

  pub reads : (Z : Ctx) (lo : ℕ) (L : List Pl) (s : State) (w : ℕ → ℕ) (r : ℕ) (y : Pl) (v : Value) → Core K Z lo L s.roots (awake Z s.roots) w → at_place L r ≡ some y → y.box ≡ false → read_at s (here r) ≡ some v → Read K L (awake Z s.roots) w r y v
  reads Z lo L s w r y v c e eb h =
      let x = if_some_is (live_root s r) (λ x. at_path [] x.val) v h in
      let g = lives s.roots r x.0 x.1.0 in
      let g2 = live_hush (roots_in_dying Z.dying) s.roots r x.0 (not_among L s.roots Z.dying r y c.dead e eb) g in
      record { root = x.0; lives = g2; val = some_is x.1.1; sits = c.mem.laid r x.0 y g2 e }

  pub record Wrote (s : State) (r : ℕ) (v : Value) (t : State) : Type 0 where
    pub root : Root
    pub lives : Live s.roots r root
    pub is : t ≡ with_roots s (set_at s.roots r (record { live = true; val = v; words = root.words }))

  pub wrote : (s : State) (r : ℕ) (v : Value) (t : State) → write_at s (here r) v ≡ some t → Wrote s r v t
  wrote s r v t h = let x = if_some_is (live_root s r) _ t h in record { root = x.0; lives = lives s.roots r x.0 x.1.0; is = sym (some_is x.1.1) }

  -- words from a on are written: nobody owns them, no operand is there
  pub core_above : {Z : Ctx} {lo : ℕ} {L : List Pl} {rs : List Root} {w : ℕ → ℕ} (w' : ℕ → ℕ) (a : ℕ) → ((j : ℕ) → j < a → w' j ≡ w j) → lo ≤ a → Under Z a → Core K Z lo L rs (awake Z rs) w → Core K Z lo L rs (awake Z rs) w'
  core_above {Z} {lo} w' a f h u c = core_words K F w' (λ r j o. f j (let z = c.mem.low r j o in omega arith)) (λ x i. f x.at (u x i)) c

  pub rep_above : {Z : Ctx} {lo : ℕ} {L : List Pl} {s : State} {M : Mach} (is : List Instr) (w' : ℕ → ℕ) (a : ℕ) → ((j : ℕ) → j < a → w' j ≡ M.words j) → lo ≤ a → K.lent.heap ≤ a → Under Z a → Rep K F P Z lo L s M → Rep K F P Z lo L s (sets M is w')
  rep_above {Z} {lo} {L} {s} {M} is w' a f h1 h2 u R = record { core = core_above w' a f h1 u R.core; pool = Q.same_words M.pool M.words w' s.classes (boxes s.roots L) R.pool (λ j z n1. f j (omega arith)); sp = R.sp; turns = R.turns; ins = R.ins; outs = R.outs }

  pub rep_unfly : {lo : ℕ} {L : List Pl} {s : State} {M : Mach} (Z : Ctx) (a : ℕ) (t : Ty) (v : Value) → Rep K F P (with_flying (fly a t v Z.flying) Z) lo L s M → Rep K F P Z lo L s M
  rep_unfly Z a t v R = record { core = core_unfly K F a t v R.core; pool = R.pool; sp = R.sp; turns = R.turns; ins = R.ins; outs = R.outs }

  pub rep_ctl : {Z : Ctx} {lo : ℕ} {L : List Pl} {s : State} {M : Mach} (is : List Instr) → Rep K F P Z lo L s M → Rep K F P Z lo L s (sets M is M.words)
  rep_ctl is R = record { core = R.core; pool = R.pool; sp = R.sp; turns = R.turns; ins = R.ins; outs = R.outs }

  pub base_set : {M : Mach} {f1 s1 : ℕ} (is : List Instr) (w : ℕ → ℕ) → Base M f1 s1 → Base (sets M is w) f1 s1
  base_set is w B = record { mode = B.mode; fb = B.fb; sp = B.sp; full = B.full }

  pub work_above : {Z : Ctx} {lo : ℕ} {L : List Pl} {rs : List Root} {w : ℕ → ℕ} (w' : ℕ → ℕ) (a : ℕ) → ((j : ℕ) → j < a → w' j ≡ w j) → K.lent.heap ≤ a → Core K Z lo L rs (awake Z rs) w → Work K F P Z.dying a L (awake Z rs) w L (awake Z rs) w'
  work_above {Z} {lo} {L} {rs} {w} w' a f h c = frame_words K F (Keep K Z.dying a) (Keep K Z.dying a) L (awake Z rs) w w' (λ j k n1. f j (keep_low K Z.dying a L rs h c.dead j k))

  module _ (code : List Instr) (fns : Lexeme → Option Entry) (q : Prog) (dw : (k : Lexeme) (vs : Values) (i : Info) → K.info k ≡ some i → words_of q (con_v k vs) ≡ K.size (dat i.home)) where
    -- a frame at rest, in a context; work is to be done from h on
    pub record Stand (Z : Ctx) (f1 s1 lo h : ℕ) (G : List Slot) (g : Env) (L : List Pl) (M : Mach) : Type 0 where
      pub base : Base M f1 s1
      pub names : Names L f1 G g
      pub held : AllHeld g Z.held
      pub heap : K.lent.heap ≤ f1
      pub low : f1 ≤ lo
      pub here : lo ≤ f1 + h
      pub under : Under Z (f1 + h)

    abbrev pub types_of : List Slot → Exprs → List Ty
    types_of G es = Rattle.simulation.specs.Fitting.types_of K fns G es

    abbrev pub FitE : List Slot → Expr → Type 0
    FitE G e = Rattle.simulation.specs.Fitting.FitE K fns G e

    abbrev pub FitEs : List Slot → Exprs → Type 0
    FitEs G es = Rattle.simulation.specs.Fitting.FitEs K fns G es

    pub record After (Z : Ctx) (f1 s1 lo h : ℕ) (L : List Pl) (rs : List Root) (w : ℕ → ℕ) (t : Ty) (is : List Instr) (v : Value) (z : State) (N : Mach) : Type 0 where
      pub L2 : List Pl
      pub base : Base N f1 s1
      pub ctl : N.ctl ≡ is
      pub rep : Rep K F P (with_flying (fly (f1 + h) t v Z.flying) Z) lo L2 z N
      pub lay : Lay K L2 N.words (f1 + h) t v
      pub there : flag_of v ≡ 1
      pub frame : Work K F P Z.dying (f1 + h) L (awake Z rs) w L2 (awake Z z.roots) N.words

    abbrev pub EvalSim : ℕ → Type 0
    EvalSim u = (e : Expr) (G : List Slot) (g : Env) (Z : Ctx) (fb sp lo h : ℕ) (is : List Instr) (L : List Pl) (s : State) (M : Mach) → FitE G e → M.ctl ≡ code_e K fns G h e is → Suf K fns (code_e K fns G h e is) code → Stand Z fb sp lo h G g L M → fb + (h + high_e K fns G e) ≤ K.lent.heap + sp → Rep K F P Z lo L s M → SteadyE K.lent q u (roots_in_dying Z.dying) Z.held (locs Z.flying) g e s → Does K F P code (After Z fb sp lo h L s.roots M.words (type_e K fns G e) is) M (eval u K.lent q g e s)

    -- one word at h, nothing else; if it's a reference it's right
    pub one_word : (Z : Ctx) (fb sp lo h : ℕ) (L : List Pl) (s : State) (M : Mach) (t : Ty) (is : List Instr) (v : Value) (x : ℕ) → Base M fb sp → K.lent.heap ≤ fb → lo ≤ fb + h → Under Z (fb + h) → Rep K F P Z lo L s M → flag_of v ≡ 1 → Lay K L (upd M.words (fb + h) x) (fb + h) t v → ((l : Loc) (u : Ty) → v ≡ ref_v l → Refers t u → Spot K L (awake Z s.roots) l x u) → After Z fb sp lo h L s.roots M.words t is v s (sets M is (upd M.words (fb + h) x))
    one_word Z fb sp lo h L s M t is v x B g g2 un R f y sp1 =
        let W : ℕ → ℕ = upd M.words (fb + h) x in
        let below : (j : ℕ) → j < fb + h → W j ≡ M.words j = λ j k. upd_other M.words (fb + h) x j (λ ej. omega arith) in
        let R2 = rep_above is W (fb + h) below g2 (omega arith) un R in
        record {
          L2 = L;
          base = base_set is W B;
          ctl = refl;
          there = f;
          lay = y;
          frame = work_above W (fb + h) below (omega arith) R.core;
          rep = record {
            core = core_fly K F (fb + h) t v (omega arith) (λ r o. (let z = R.core.mem.low r (fb + h) o in omega arith)) (λ l u e rf. subst (λ (k : ℕ). Spot K L (awake Z s.roots) l k u) (sym (upd_same M.words (fb + h) x)) (sp1 l u e rf)) R2.core;
            pool = R2.pool;
            sp = R.sp;
            turns = R.turns;
            ins = R.ins;
            outs = R.outs;
          };
        }

    -- work before it, at the same height
    pub after_on : {Z : Ctx} {fb sp lo h : ℕ} {L : List Pl} {rs : List Root} {w : ℕ → ℕ} {L1 : List Pl} {rs1 : List Root} {w1 : ℕ → ℕ} {t : Ty} {is : List Instr} {v : Value} {z : State} {N : Mach} → Work K F P Z.dying (fb + h) L (awake Z rs) w L1 (awake Z rs1) w1 → After Z fb sp lo h L1 rs1 w1 t is v z N → After Z fb sp lo h L rs w t is v z N
    after_on {Z} {fb} {h = h} f A = record { L2 = A.L2; base = A.base; ctl = A.ctl; rep = A.rep; lay = A.lay; there = A.there; frame = work_on K F P (fb + h) (omega arith) f A.frame }
