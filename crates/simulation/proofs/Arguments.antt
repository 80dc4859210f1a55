-- Arguments, one behind the other; constructors, built in place.
use mathlib.Core.Path.{◌≡◌, refl, sym, ap, subst, ◌∙◌}
use mathlib.Core.List.{List, [], ◌∷◌}
use mathlib.Core.Option.{Option, some}
use mathlib.Core.Logic.{inl}
use Prim.Native.Nat.{ℕ, suc, ◌+◌, ◌≤◌, ◌<◌}
use native.Mathlib.Omega.{arith}
use Rattle.language.specs.Base.{Lexeme, from_option}
use Rattle.language.specs.Syntax.{Ty, int, dat, box, ref, mut, ctor, Exprs, nil_e, cons_e, Prog}
use Rattle.language.specs.Meaning.{Loc, Value, int_v, con_v, box_v, ref_v, hole, Values, nil_v, cons_v, append, Root, Class, State, Env, words_of, eval, evals}
use Rattle.simulation.proofs.Machine.{Kit, Info, Place, Pools, Instr, NUM, STUCK, Mach, go, upd, sets, lead_one}
use Rattle.simulation.proofs.Lowering.{Slot, Entry, type_e, code_e, code_es, high_e, high_es, Suf, suf_trans, later, same1, suf_e}
use Rattle.simulation.proofs.Memory.{Pl, Lay, Lays, Fits, upd_same, upd_other, copied, lay_ext}
use Rattle.simulation.proofs.Context.{Flying, Ctx, Has, has_this, has_rest, roots_in_dying, locs, awake, with_flying, fly, core_less}
use Rattle.simulation.specs.Borrows.{add_loc, SteadyE, SteadyEs}
use Rattle.simulation.proofs.Relation.{Pooling, names_ext, Work, work_none, work_on, Rep, Does, by_ok, back, does_then, does_as}
use Rattle.simulation.proofs.Stand.{Base, base_set, rep_above, work_above, Stand, FitE, FitEs, types_of, After, EvalSim}

abbrev pub cat : Values → Values → Values
cat nil_v ws = ws
cat (cons_v v vs) ws = cons_v v (cat vs ws)

cat_append : (vs : Values) (v : Value) (ws : Values) → cat (append vs v) ws ≡ cat vs (cons_v v ws)
cat_append nil_v v ws = refl
cat_append (cons_v x vs) v ws = ap (cons_v x) (cat_append vs v ws)

cat_end : (vs : Values) → vs ≡ cat vs nil_v
cat_end nil_v = refl
cat_end (cons_v x vs) = ap (cons_v x) (cat_end vs)

-- references among values that lie side by side
abbrev pub flies : Kit → ℕ → List Ty → Values → List Flying → List Flying
flies K a [] vs fs = fs
flies K a (t ∷ ts) nil_v fs = fs
flies K a (t ∷ ts) (cons_v v vs) fs = flies K (a + K.size t) ts vs (fly a t v fs)

pub fly_locs : (K : Kit) (L : List Pl) (w : ℕ → ℕ) (a : ℕ) (t : Ty) (v : Value) (fs : List Flying) → Lay K L w a t v → locs (fly a t v fs) ≡ add_loc v (locs fs)
fly_locs K L w a t (int_v k) fs y = refl
fly_locs K L w a t (con_v k vs) fs y = refl
fly_locs K L w a t (box_v k) fs y = refl
fly_locs K L w a int (ref_v l) fs y = absurd y.1
fly_locs K L w a (dat d) (ref_v l) fs y = absurd y.1
fly_locs K L w a (box d) (ref_v l) fs y = absurd y.1
fly_locs K L w a (ref d) (ref_v l) fs y = refl
fly_locs K L w a (mut d) (ref_v l) fs y = refl
fly_locs K L w a t hole fs y = refl

pub fly_under : (a : ℕ) (t : Ty) (v : Value) (fs : List Flying) (top : ℕ) → a < top → ((f : Flying) → Has f fs → f.at < top) → (f : Flying) → Has f (fly a t v fs) → f.at < top
fly_under a t (int_v k) fs top h g f i = g f i
fly_under a t (con_v k vs) fs top h g f i = g f i
fly_under a t (box_v k) fs top h g f i = g f i
fly_under a int (ref_v l) fs top h g f i = g f i
fly_under a (dat d) (ref_v l) fs top h g f i = g f i
fly_under a (box d) (ref_v l) fs top h g f i = g f i
fly_under a (ref d) (ref_v l) fs top h g f (has_this e) = subst (λ (k : Flying). k.at < top) e h
fly_under a (ref d) (ref_v l) fs top h g f (has_rest i) = g f i
fly_under a (mut d) (ref_v l) fs top h g f (has_this e) = subst (λ (k : Flying). k.at < top) e h
fly_under a (mut d) (ref_v l) fs top h g f (has_rest i) = g f i
fly_under a t hole fs top h g f i = g f i

pub has_flies : (K : Kit) (a : ℕ) (ts : List Ty) (vs : Values) (fs : List Flying) (f : Flying) → Has f fs → Has f (flies K a ts vs fs)
has_flies K a [] vs fs f i = i
has_flies K a (t ∷ ts) nil_v fs f i = i
has_flies K a (t ∷ ts) (cons_v v vs) fs f i = has_flies K (a + K.size t) ts vs (fly a t v fs) f (one a t v fs f i)
  where
    one : (a : ℕ) (t : Ty) (v : Value) (fs : List Flying) (f : Flying) → Has f fs → Has f (fly a t v fs)
    one a t (int_v k) fs f h = h
    one a t (con_v k vs) fs f h = h
    one a t (box_v k) fs f h = h
    one a int (ref_v l) fs f h = h
    one a (dat d) (ref_v l) fs f h = h
    one a (box d) (ref_v l) fs f h = h
    one a (ref d) (ref_v l) fs f h = has_rest h
    one a (mut d) (ref_v l) fs f h = has_rest h
    one a t hole fs f h = h

module _ (K : Kit) (F : Fits K) (P : Pools → (ℕ → ℕ) → List Class → List Place → Type 0) (Q : Pooling K P) (code : List Instr) (fns : Lexeme → Option Entry) (q : Prog) (dw : (k : Lexeme) (vs : Values) (i : Info) → K.info k ≡ some i → words_of q (con_v k vs) ≡ K.size (dat i.home)) where
  pub record AfterEs (Z : Ctx) (f1 s1 lo h : ℕ) (L : List Pl) (rs : List Root) (w : ℕ → ℕ) (ts : List Ty) (vs : Values) (is : List Instr) (us : Values) (z : State) (N : Mach) : Type 0 where
    pub L2 : List Pl
    pub new : Values
    pub base : Base N f1 s1
    pub ctl : N.ctl ≡ is
    pub rep : Rep K F P (with_flying (flies K (f1 + h) ts new Z.flying) Z) lo L2 z N
    pub all : us ≡ cat vs new
    pub lays : Lays K L2 N.words (f1 + h) ts new
    pub frame : Work K F P Z.dying (f1 + h) L (awake Z rs) w L2 (awake Z z.roots) N.words

  abbrev pub EvalsSim : ℕ → Type 0
  EvalsSim u = (es : Exprs) (vs : Values) (G : List Slot) (g : Env) (Z : Ctx) (fb sp lo h : ℕ) (is : List Instr) (L : List Pl) (s : State) (M : Mach) → FitEs K F P Q code fns q dw G es → M.ctl ≡ code_es K fns G h es is → Suf K fns (code_es K fns G h es is) code → Stand K F P Q code fns q dw Z fb sp lo h G g L M → fb + (h + high_es K fns G es) ≤ K.lent.heap + sp → Rep K F P Z lo L s M → SteadyEs K.lent q u (roots_in_dying Z.dying) Z.held (locs Z.flying) g es vs s → Does K F P code (AfterEs Z fb sp lo h L s.roots M.words (types_of K F P Q code fns q dw G es) vs is) M (evals u K.lent q g es vs s)

  -- one before the others
  consed : {Z : Ctx} {fb sp lo h : ℕ} {L : List Pl} {rs : List Root} {w : ℕ → ℕ} {t : Ty} {ts : List Ty} {vs : Values} {js is : List Instr} {v : Value} {us : Values} {t1 z : State} {N O : Mach} → K.lent.heap ≤ fb → lo ≤ fb + h → (A : After K F P Q code fns q dw Z fb sp lo h L rs w t js v t1 N) → AfterEs (with_flying (fly (fb + h) t v Z.flying) Z) fb sp lo (h + K.size t) A.L2 t1.roots N.words ts (append vs v) is us z O → AfterEs Z fb sp lo h L rs w (t ∷ ts) vs is us z O
  consed {Z} {fb} {sp} {lo} {h} {L} {rs} {w} {t} {ts} {vs} {js} {is} {v} {us} {t1} {z} {N} {O} h1 h2 A B =
      let e1 : fb + (h + K.size t) ≡ (fb + h) + K.size t = omega arith in
      record {
        L2 = B.L2;
        new = cons_v v B.new;
        base = B.base;
        ctl = B.ctl;
        all = B.all ∙ cat_append vs v B.new;
        rep = subst (λ (a : ℕ). Rep K F P (with_flying (flies K a ts B.new (fly (fb + h) t v Z.flying)) Z) lo B.L2 z O) e1 B.rep;
        lays = (
          t,
          (
            ts,
            (
              refl,
              lay_ext K A.L2 B.L2 B.frame.ext O.words (fb + h) t v (copied K F A.L2 N.words O.words (fb + h) (fb + h) t v A.lay (λ i g1. B.frame.kept ((fb + h) + i) (inl (omega arith, omega arith)) (λ r o. let z1 = A.rep.core.mem.low r ((fb + h) + i) o in omega arith))),
              subst (λ (a : ℕ). Lays K B.L2 O.words a ts B.new) e1 B.lays,
              A.there,
            ),
          ),
        );
        frame = work_on K F P (fb + (h + K.size t)) (omega arith) A.frame B.frame;
      }

  module _ (u : ℕ) (IE : EvalSim K F P Q code fns q dw u) (IS : EvalsSim u) where
    pub sim_evals : EvalsSim (suc u)
    unfolding evals
    sim_evals nil_e vs G g Z fb sp lo h is L s M f ec sf S rm R st = by_ok M (λ x os r. r) (record { L2 = L; new = nil_v; base = S.base; ctl = ec; rep = R; all = cat_end vs; lays = refl; frame = work_none K F P Z.dying (fb + h) L (awake Z s.roots) M.words })
    sim_evals (cons_e e es) vs G g Z fb sp lo h is L s M f ec sf S rm R st =
        let t0 : Ty = type_e K fns G e in let sw = F.some_word t0 in
        let h1 = S.heap in let h2 = S.here in let h0 = S.low in
        does_then K F P code (eval u K.lent q g e s) (IE e G g Z fb sp lo h (code_es K fns G (h + K.size t0) es is) L s M f.0 ec sf S (omega arith) R st.0) (λ v t N ev A.
        let Z1 : Ctx = with_flying (fly (fb + h) t0 v Z.flying) Z in
        does_as K F P code (IS es (append vs v) G g Z1 fb sp lo (h + K.size t0) is A.L2 t N f.1 A.ctl (suf_trans K fns (suf_e K fns e G h _) sf)
        (record { base = A.base; names = names_ext A.frame.ext S.names; held = S.held; heap = h1; low = h0; here = omega arith; under = fly_under (fb + h) t0 v Z.flying (fb + (h + K.size t0)) (omega arith) (λ f1 i. (let z1 = S.under f1 i in omega arith)) }) (omega arith) A.rep
        (subst (λ (ls : List Loc). SteadyEs K.lent q u (roots_in_dying Z.dying) Z.held ls g es (append vs v) t) (sym (fly_locs K A.L2 N.words (fb + h) t0 v Z.flying A.lay)) (st.1 v t ev)))
        (λ us z O A2. consed h1 h2 A A2))

    pub sim_ctor : (k : Lexeme) (es : Exprs) (G : List Slot) (g : Env) (Z : Ctx) (fb sp lo h : ℕ) (is : List Instr) (L : List Pl) (s : State) (M : Mach) → FitE K F P Q code fns q dw G (ctor k es) → M.ctl ≡ code_e K fns G h (ctor k es) is → Suf K fns (code_e K fns G h (ctor k es) is) code → Stand K F P Q code fns q dw Z fb sp lo h G g L M → fb + (h + high_e K fns G (ctor k es)) ≤ K.lent.heap + sp → Rep K F P Z lo L s M → SteadyE K.lent q (suc u) (roots_in_dying Z.dying) Z.held (locs Z.flying) g (ctor k es) s → Does K F P code (After K F P Q code fns q dw Z fb sp lo h L s.roots M.words (type_e K fns G (ctor k es)) is) M (eval (suc u) K.lent q g (ctor k es) s)
    unfolding eval
    sim_ctor k es G g Z fb sp lo h is L s M f ec sf S rm R st =
        let i : Info = f.1.0 in let ei = f.1.1.0 in let et = f.1.1.1 in
        let h1 = S.heap in let h2 = S.here in let h0 = S.low in
        let W : ℕ → ℕ = upd M.words (fb + h) i.tag in
        let js : List Instr = code_es K fns G (h + 1) es is in
        let N : Mach = sets M js W in
        let below : (j : ℕ) → j < fb + h → W j ≡ M.words j = λ j g1. upd_other M.words (fb + h) i.tag j (λ ej. omega arith) in
        let ec2 : M.ctl ≡ NUM h i.tag ∷ js = ec ∙ ap (λ (o : Option Info). from_option o STUCK (λ i1. NUM h i1.tag) ∷ js) ei in
        let ty : type_e K fns G (ctor k es) ≡ dat i.home = ap (λ (o : Option Info). from_option o int (λ i1. dat i1.home)) ei in
        let R2 : Rep K F P Z lo L s N = rep_above K F P Q js W (fb + h) below h2 (omega arith) S.under R in
        let S2 : Stand K F P Q code fns q dw Z fb sp lo (h + 1) G g L N = record { base = base_set K F P Q js W S.base; names = S.names; held = S.held; heap = h1; low = h0; here = omega arith; under = λ f1 i1. (let z1 = S.under f1 i1 in omega arith) } in
        back K F P code (lead_one (NUM h i.tag) js S.base.mode ec2 (ap (λ f1. go (sets M js (upd M.words (f1 + h) i.tag))) S.base.fb))
        (does_then K F P code (evals u K.lent q g es nil_v s) (IS es nil_v G g Z fb sp lo (h + 1) is L s N f.0 refl (suf_trans K fns (later same1) sf) S2 (omega arith) R2 st) (λ us z O ev A.
        by_ok O (λ x os r. r) (record {
          L2 = A.L2;
          base = A.base;
          ctl = A.ctl;
          there = refl;
          rep = record { core = core_less K F Z.held Z.flying (λ r i1. i1) (λ f1 i1. has_flies K (fb + (h + 1)) (types_of K F P Q code fns q dw G es) A.new Z.flying f1 i1) A.rep.core; pool = A.rep.pool; sp = A.rep.sp; turns = A.rep.turns; ins = A.rep.ins; outs = A.rep.outs };
          lay = (
            i,
            (
              ei,
              ty,
              A.frame.kept (fb + h) (inl (omega arith, omega arith)) (λ r o. let z1 = R2.core.mem.low r (fb + h) o in omega arith) ∙ upd_same M.words (fb + h) i.tag,
              (let e1 : fb + (h + 1) ≡ (fb + h) + 1 = omega arith in subst (λ (x : Values). Lays K A.L2 O.words ((fb + h) + 1) i.fields x) (sym A.all) (subst (λ (x : List Ty). Lays K A.L2 O.words ((fb + h) + 1) x A.new) et (subst (λ (x : ℕ). Lays K A.L2 O.words x (types_of K F P Q code fns q dw G es) A.new) e1 A.lays))),
            ),
          );
          frame = work_on K F P (fb + (h + 1)) (omega arith) (work_above K F P Q W (fb + h) below (omega arith) R.core) A.frame;
        })))
