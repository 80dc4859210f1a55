-- State and machine; what it is to do what the meaning does; combinators.
use mathlib.Core.Path.{◌≡◌, refl, ap, subst, ◌∙◌}
use mathlib.Core.Bool.{Bool, true, false}
use mathlib.Core.List.{List, [], ◌∷◌, ◌++◌}
use mathlib.Core.Option.{Option, some, none}
use mathlib.Core.Logic.{◌⊎◌, inl, inr}
use Prim.Native.Nat.{ℕ, suc, ◌+◌, ◌≤◌, ◌<◌}
use native.Mathlib.Omega.{arith}
use lib.Dec.{ltb, leb}
use Rattle.language.specs.Base.{Lexeme, choose, at_place, same}
use Rattle.language.specs.Syntax.{Ty}
use Rattle.language.specs.Meaning.{Root, Class, State, Stop, wrong, out_of_fuel, no_heap, no_stack, no_turns, Res, ok, stop, then, need, turn, Name, Env, root_of, count_in, count_out, peaks}
use Rattle.language.specs.Says.{shown_only}
use Rattle.simulation.specs.Pooling.{InUse, words_same, one_taken, one_given, PoolsRight}
use Rattle.simulation.proofs.Machine.{Kit, Place, Pools, Taken, Instr, TURN, running, Mach, go, halt, stopped, turned, Runs, Leads, leads_on, lead_one, halt_one}
use Rattle.simulation.proofs.Lowering.{Slot, slot_of}
use Rattle.simulation.proofs.Memory.{no_some, some_is, Pl, Fits, Ext, Frame, frame_none, frame_less, frame_on}
use Rattle.simulation.proofs.Boxes.{boxes, In}
use Rattle.simulation.proofs.Context.{Dying, Ctx, Has, awake, Core, Dead}
use Rattle.simulation.specs.Borrows.{turned_state}

-- what is asked of the pools: held by words that are in no box; sizes are those of types
pub record Pooling (K : Kit) (P : Pools → (ℕ → ℕ) → List Class → List Place → Type 0) : Type 0 where
  pub same_words : (ps : Pools) (w w' : ℕ → ℕ) (cs : List Class) (us : List Place) → P ps w cs us → ((j : ℕ) → j < K.lent.heap → (In j us → ⊥) → w' j ≡ w j) → P ps w' cs us
  pub refused : (ps : Pools) (w : ℕ → ℕ) (cs : List Class) (us : List Place) (t : Ty) → P ps w cs us → K.take ps w (K.size t) ≡ none → leb (peaks (count_in cs (K.size t))) K.lent.heap ≡ false
  pub fits : (ps : Pools) (w : ℕ → ℕ) (cs : List Class) (us : List Place) (t : Ty) (x : Taken) → P ps w cs us → K.take ps w (K.size t) ≡ some x → leb (peaks (count_in cs (K.size t))) K.lent.heap ≡ true
  pub within : (ps : Pools) (w : ℕ → ℕ) (cs : List Class) (us : List Place) (t : Ty) (x : Taken) → P ps w cs us → K.take ps w (K.size t) ≡ some x → x.at + K.size t ≤ K.lent.heap
  pub apart : (ps : Pools) (w : ℕ → ℕ) (cs : List Class) (us : List Place) (t : Ty) (x : Taken) → P ps w cs us → K.take ps w (K.size t) ≡ some x → (j : ℕ) → x.at ≤ j → j < x.at + K.size t → In j us → ⊥
  pub taken : (ps : Pools) (w : ℕ → ℕ) (cs : List Class) (us : List Place) (t : Ty) (x : Taken) → P ps w cs us → K.take ps w (K.size t) ≡ some x → P x.left w (count_in cs (K.size t)) (us ++ (record { at = x.at; size = K.size t } ∷ []))
  pub given : (ps : Pools) (w : ℕ → ℕ) (cs : List Class) (xs ys : List Place) (a : ℕ) (t : Ty) → P ps w cs (xs ++ (record { at = a; size = K.size t } ∷ ys)) → P (K.give ps a (K.size t)) (K.link ps a (K.size t) w) (count_out cs (K.size t)) (xs ++ ys)
  pub link_at : (ps : Pools) (w : ℕ → ℕ) (a : ℕ) (t : Ty) (j : ℕ) → ((a ≤ j) × (j < a + K.size t) → ⊥) → K.link ps a (K.size t) w j ≡ w j

pub pooling : (K : Kit) (ps0 : Pools) (w0 : ℕ → ℕ) → PoolsRight K ps0 w0 → Pooling K (InUse K ps0 w0)
pooling K ps0 w0 R = record { same_words = λ ps w w' cs us h f. words_same h f; refused = R.refused; fits = R.fits; within = R.within; apart = R.apart; taken = λ ps w cs us t x h e. one_taken t x h e; given = λ ps w cs xs ys a t h. one_given xs ys a t h; link_at = R.link_at }

-- a name's place
abbrev pub pl_of : ℕ → Slot → Pl
pl_of fb l = record { flag = fb + l.flag; at = fb + (l.flag + 1); ty = l.ty; box = false }

pub data Names (L : List Pl) (fb : ℕ) : List Slot → Env → Type 0 where
  no_names : Names L fb [] []
  one_name : {l : Slot} {m : Name} {G : List Slot} {g : Env} → l.name ≡ m.name → at_place L m.root ≡ some (pl_of fb l) → Names L fb G g → Names L fb (l ∷ G) (m ∷ g)

pub names_ext : {L M : List Pl} {fb : ℕ} {G : List Slot} {g : Env} → Ext L M → Names L fb G g → Names M fb G g
names_ext f no_names = no_names
names_ext f (one_name {m = m} e h ns) = one_name e (f m.root _ h) (names_ext f ns)

pub record Found (L : List Pl) (fb : ℕ) (G : List Slot) (x : Lexeme) (r : ℕ) : Type 0 where
  pub slot : Slot
  pub is : slot_of G x ≡ some slot
  pub at : at_place L r ≡ some (pl_of fb slot)

pub found : {L : List Pl} {fb : ℕ} {G : List Slot} {g : Env} → Names L fb G g → (x : Lexeme) (r : ℕ) → root_of g x ≡ some r → Found L fb G x r
found no_names x r e = absurd (no_some e)
found {L} {fb} (one_name {l = l} {m = m} {G = G} {g = g} q h ns) x r e = by (same m.name x) (ap (λ y. same y x) q) e (λ d. found ns x r d)
  where
    by : (t : Bool) → same l.name x ≡ t → choose t (some m.root) (root_of g x) ≡ some r → (root_of g x ≡ some r → Found L fb G x r) → Found L fb (l ∷ G) x r
    by true a d f = record { slot = l; is = ap (λ y. choose y (some l) (slot_of G x)) a; at = subst (λ y. at_place L y ≡ some (pl_of fb l)) (some_is d) h }
    by false a d f = let z = f d in record { slot = z.slot; is = ap (λ y. choose y (some l) (slot_of G x)) a ∙ z.is; at = z.at }

-- words that stay where work begins at b: those under way below b, and those of boxes that are being dropped
abbrev pub Keep : Kit → List Dying → ℕ → ℕ → Type 0
Keep K D b1 j = ((K.lent.heap ≤ j) × (j < b1)) ⊎ ((d : Dying) × (Has d D × (d.pl.at ≤ j) × (j < d.pl.at + K.size d.pl.ty)))

pub keep_wide : (K : Kit) (D : List Dying) (b1 b2 : ℕ) → b1 ≤ b2 → (j : ℕ) → Keep K D b1 j → Keep K D b2 j
keep_wide K D b1 b2 h j (inl k) = let k1 = k.1 in inl (k.0, omega arith)
keep_wide K D b1 b2 h j (inr k) = inr k

pub keep_low : (K : Kit) (D : List Dying) (b1 : ℕ) (L : List Pl) (rs : List Root) → K.lent.heap ≤ b1 → ((d : Dying) → Has d D → Dead K L rs d) → (j : ℕ) → Keep K D b1 j → j < b1
keep_low K D b1 L rs h f j (inl k) = k.1
keep_low K D b1 L rs h f j (inr k) = let z = (f k.0 k.1.0).within in let z1 = k.1.2 in omega arith

module _ (K : Kit) (F : Fits K) (P : Pools → (ℕ → ℕ) → List Class → List Place → Type 0) where
  abbrev pub Work : List Dying → ℕ → List Pl → List Root → (ℕ → ℕ) → List Pl → List Root → (ℕ → ℕ) → Type 0
  Work D b1 L rs w L2 rs2 w2 = Frame K F (Keep K D b1) (Keep K D b1) L rs w L2 rs2 w2

  pub work_none : (D : List Dying) (b1 : ℕ) (L : List Pl) (rs : List Root) (w : ℕ → ℕ) → Work D b1 L rs w L rs w
  work_none D b1 L rs w = frame_none K F (Keep K D b1) (Keep K D b1) L rs w

  pub work_lower : {D : List Dying} {b1 b2 : ℕ} {L : List Pl} {rs : List Root} {w : ℕ → ℕ} {L2 : List Pl} {rs2 : List Root} {w2 : ℕ → ℕ} → b1 ≤ b2 → Work D b2 L rs w L2 rs2 w2 → Work D b1 L rs w L2 rs2 w2
  work_lower {D} {b1} {b2} h f = frame_less K F (λ j k. keep_wide K D b1 b2 h j k) (λ j k. keep_wide K D b1 b2 h j k) f

  pub work_on : {D : List Dying} {b1 : ℕ} {L : List Pl} {rs : List Root} {w : ℕ → ℕ} {L2 : List Pl} {rs2 : List Root} {w2 : ℕ → ℕ} {L3 : List Pl} {rs3 : List Root} {w3 : ℕ → ℕ} (b2 : ℕ) → b1 ≤ b2 → Work D b1 L rs w L2 rs2 w2 → Work D b2 L2 rs2 w2 L3 rs3 w3 → Work D b1 L rs w L3 rs3 w3
  work_on b2 h f g = frame_on K F (λ j k. k) f (work_lower h g)

  pub record Rep (Z : Ctx) (bound : ℕ) (L : List Pl) (s : State) (M : Mach) : Type 0 where
    pub core : Core K Z bound L s.roots (awake Z s.roots) M.words
    pub pool : P M.pool M.words s.classes (boxes s.roots L)
    pub sp : M.sp ≡ s.under
    pub turns : M.turns ≡ s.turns
    pub ins : M.ins ≡ s.ins
    pub outs : M.outs ≡ shown_only s.outs

  module _ (code : List Instr) where
    -- how it halts, if the meaning tells: nothing of wrong and out_of_fuel
    abbrev pub Tells : Mach → Stop → List ℕ → Type 0
    Tells M wrong os = Unit {0}
    Tells M out_of_fuel os = Unit {0}
    Tells M no_heap os = Runs K code M (stopped no_heap) (shown_only os)
    Tells M no_stack os = Runs K code M (stopped no_stack) (shown_only os)
    Tells M no_turns os = Runs K code M (stopped no_turns) (shown_only os)

    pub data Does {A : Type 0} (Q : A → State → Mach → Type 0) (M : Mach) : Res A → Type 0 where
      by_ok : {a : A} {t : State} (N : Mach) → Leads K code M N → Q a t N → Does Q M (ok a t)
      by_stop : {k : Stop} {t : State} → Tells M k t.outs → Does Q M (stop k t)

    tells_back : {M N : Mach} → Leads K code M N → (k : Stop) (os : List ℕ) → Tells N k os → Tells M k os
    tells_back f wrong os h = tt
    tells_back f out_of_fuel os h = tt
    tells_back f no_heap os h = f (stopped no_heap) (shown_only os) h
    tells_back f no_stack os h = f (stopped no_stack) (shown_only os) h
    tells_back f no_turns os h = f (stopped no_turns) (shown_only os) h

    pub back : {A : Type 0} {Q : A → State → Mach → Type 0} {M N : Mach} {r : Res A} → Leads K code M N → Does Q N r → Does Q M r
    back f (by_ok N l h) = by_ok N (leads_on f l) h
    back f (by_stop {k = k} {t = t} h) = by_stop (tells_back f k t.outs h)

    pub does_then : {A C : Type 0} {Q : A → State → Mach → Type 0} {R : C → State → Mach → Type 0} {M : Mach} (r : Res A) {f : A → State → Res C} → Does Q M r → ((a : A) (t : State) (N : Mach) → r ≡ ok a t → Q a t N → Does R N (f a t)) → Does R M (then r f)
    unfolding then
    does_then (ok a t) (by_ok N l h) g = back l (g a t N refl h)
    does_then (stop k t) (by_stop h) g = by_stop h

    pub does_need : {A C : Type 0} {R : C → State → Mach → Type 0} {M : Mach} (s : State) (o : Option A) {f : A → Res C} → ((a : A) → o ≡ some a → Does R M (f a)) → Does R M (need s o f)
    unfolding need
    does_need s none g = by_stop tt
    does_need s (some a) g = g a refl

    pub does_choose : {C : Type 0} {R : C → State → Mach → Type 0} {M : Mach} (t : Bool) (x y : Res C) → (t ≡ true → Does R M x) → (t ≡ false → Does R M y) → Does R M (choose t x y)
    does_choose true x y f g = f refl
    does_choose false x y f g = g refl

    pub does_as : {A : Type 0} {Q R : A → State → Mach → Type 0} {M : Mach} {r : Res A} → Does Q M r → ((a : A) (t : State) (N : Mach) → Q a t N → R a t N) → Does R M r
    does_as (by_ok {a = a} {t = t} N l h) g = by_ok N l (g a t N h)
    does_as (by_stop h) g = by_stop h

    -- a step more behind it
    pub does_more : {A : Type 0} {Q1 R : A → State → Mach → Type 0} {M : Mach} {r : Res A} → Does Q1 M r → ((a : A) (t : State) (N : Mach) → Q1 a t N → (O : Mach) × (Leads K code N O × R a t O)) → Does R M r
    does_more (by_ok {a = a} {t = t} N l h) f = let z = f a t N h in by_ok z.0 (leads_on l z.1.0) z.1.1
    does_more (by_stop h) f = by_stop h

    pub does_turn : {A : Type 0} {R : A → State → Mach → Type 0} (s : State) (f : State → Res A) (Z : Ctx) (lo : ℕ) (L : List Pl) (M : Mach) (is : List Instr) → M.mode ≡ running → M.ctl ≡ TURN ∷ is → Rep Z lo L s M → (Rep Z lo L (turned_state s) (turned M is) → Does R (turned M is) (f (turned_state s))) → Does R M (turn K.lent s f)
    unfolding turn
    does_turn {A} {R} s f Z lo L M is em ec Rp k = does_choose (ltb s.turns K.lent.max_turns) _ _
        (λ e. back (lead_one TURN is em ec (ap (λ t. choose t (go (turned M is)) (halt (stopped no_turns) M.outs)) (ap (λ t. ltb t K.lent.max_turns) Rp.turns ∙ e))) (k (record { core = Rp.core; pool = Rp.pool; sp = Rp.sp; turns = ap suc Rp.turns; ins = Rp.ins; outs = Rp.outs })))
        (λ e. by_stop (subst (λ os. Runs K code M (stopped no_turns) os) Rp.outs (halt_one TURN is em ec (ap (λ t. choose t (go (turned M is)) (halt (stopped no_turns) M.outs)) (ap (λ t. ltb t K.lent.max_turns) Rp.turns ∙ e)))))
