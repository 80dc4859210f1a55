-- What the rules promise about references, along a run: D are the boxes that are being dropped, hs the roots whose references are
-- of use, ls the references in operands. Where a value is written, moved or taken apart nobody of use points inside it;
-- where a root ends nobody of use points to it; what is lent, opened and dropped is there.
use Rattle.std.specs.Prelude.{◌≡◌, true, false, List, [], ◌∷◌, ◌++◌, ℕ, zero, suc, ◌+◌, length, eqb}
use Rattle.std.proofs.Math.Option.{some}
use Rattle.language.specs.Base.{choose, if_some, at_place}
use Rattle.language.specs.Syntax.{Expr, num, var, op, ctor, boxed, call, share, lend, load, get_e, Exprs, nil_e, cons_e, Access, take, view, edit, Stmt, bind, assign, store, put_s, cond, loop, match_s, open_s, inside, Stmts, nil_s, cons_s, Alts, Body, body, Tail, give, give_cond, give_match, Arms, Fn, Prog}
use Rattle.language.specs.Checks.{fn_named, home_of, Home}
use Rattle.language.specs.Meaning.{Loc, Value, int_v, con_v, box_v, ref_v, hole, Values, nil_v, cons_v, append, list_of, Root, State, Limits, ok, Env, root_of, read_at, write_at, here, adds_root, kill, with_under, frame, num_of, loc_of, box_of, there, place_of, newer, names_in, roots_in, names_of, parts, taken, Found, find_alt, FoundArm, find_arm, Shape, shape, shape_of, eval, evals, calls, tails, execs, block, exec, drops}

-- a root that lives
pub record Live (rs : List Root) (r : ℕ) (x : Root) : Type 0 where
  pub is : at_place rs r ≡ some x
  pub lives : x.live ≡ true

abbrev pub NotIn : ℕ → List ℕ → Type 0
NotIn i [] = Unit {0}
NotIn i (r ∷ D) = (r ≡ i → ⊥) × NotIn i D

pub data Has {A : Type 0} (x : A) : List A → Type 0 where
  has_this : {y : A} {ys : List A} → y ≡ x → Has x (y ∷ ys)
  has_rest : {y : A} {ys : List A} → Has x ys → Has x (y ∷ ys)

-- strictly inside
abbrev pub Inside : List ℕ → List ℕ → Type 0
Inside q is = (j : ℕ) × ((js : List ℕ) × (is ≡ q ++ (j ∷ js)))

-- nobody of use points strictly inside the place q of root r; nobody points to the root at all
abbrev pub Clear : List ℕ → List Loc → List Root → ℕ → List ℕ → Type 0
Clear hs ls rs r q = ((r1 : ℕ) → Has r1 hs → (x : Root) → Live rs r1 x → (l : Loc) → x.val ≡ ref_v l → l.root ≡ r → Inside q l.path → ⊥) × ((l : Loc) → Has l ls → l.root ≡ r → Inside q l.path → ⊥)

abbrev pub Unseen : List ℕ → List Loc → List Root → ℕ → Type 0
Unseen hs ls rs r = ((r1 : ℕ) → Has r1 hs → (x : Root) → Live rs r1 x → (l : Loc) → x.val ≡ ref_v l → l.root ≡ r → ⊥) × ((l : Loc) → Has l ls → l.root ≡ r → ⊥)

abbrev pub env_roots : Env → List ℕ
env_roots [] = []
env_roots (m ∷ g) = m.root ∷ env_roots g

abbrev pub add_loc : Value → List Loc → List Loc
add_loc (int_v k) ls = ls
add_loc (con_v k vs) ls = ls
add_loc (box_v r) ls = ls
add_loc (ref_v l) ls = l ∷ ls
add_loc hole ls = ls

abbrev pub turned_state : State → State
turned_state s = record { roots = s.roots; classes = s.classes; under = s.under; turns = suc s.turns; ins = s.ins; outs = s.outs }

-- what is moved away has nobody pointing inside
abbrev pub MovesClear : List ℕ → List Loc → List Root → ℕ → Value → Type 0
MovesClear hs ls rs r (int_v k) = Unit {0}
MovesClear hs ls rs r (con_v k vs) = Clear hs ls rs r []
MovesClear hs ls rs r (box_v i) = Clear hs ls rs r []
MovesClear hs ls rs r (ref_v l) = Unit {0}
MovesClear hs ls rs r hole = Unit {0}

abbrev pub TakesClear : Access → List ℕ → List Loc → List Root → Loc → Type 0
TakesClear take hs ls rs l = Clear hs ls rs l.root l.path
TakesClear view hs ls rs l = Unit {0}
TakesClear edit hs ls rs l = Unit {0}

module _ (m : Limits) (q : Prog) where
  abbrev mutual
    pub SteadyE : ℕ → List ℕ → List ℕ → List Loc → Env → Expr → State → Type 0
    SteadyE zero D hs ls g e s = Unit {0}
    SteadyE (suc u) D hs ls g (num k) s = Unit {0}
    SteadyE (suc u) D hs ls g (var x) s = (r : ℕ) → root_of g x ≡ some r → (v : Value) → read_at s (here r) ≡ some v → MovesClear hs ls s.roots r v
    SteadyE (suc u) D hs ls g (op o d e) s = SteadyE u D hs ls g d s × ((v : Value) (t : State) → eval u m q g d s ≡ ok v t → SteadyE u D hs ls g e t)
    SteadyE (suc u) D hs ls g (ctor k es) s = SteadyEs u D hs ls g es nil_v s
    SteadyE (suc u) D hs ls g (boxed e) s = SteadyE u D hs ls g e s
    SteadyE (suc u) D hs ls g (call f es) s = SteadyEs u D hs ls g es nil_v s × ((vs : Values) (t : State) → evals u m q g es nil_v s ≡ ok vs t → (k : Fn) → fn_named q.funs f ≡ some k → SteadyCalls u D hs ls k (list_of vs) t)
    SteadyE (suc u) D hs ls g (share x) s = Unit {0}
    SteadyE (suc u) D hs ls g (lend x) s = (r : ℕ) → root_of g x ≡ some r → (y : Root) × Live s.roots r y
    SteadyE (suc u) D hs ls g (load x) s = Unit {0}
    SteadyE (suc u) D hs ls g get_e s = Unit {0}

    pub SteadyEs : ℕ → List ℕ → List ℕ → List Loc → Env → Exprs → Values → State → Type 0
    SteadyEs zero D hs ls g es vs s = Unit {0}
    SteadyEs (suc u) D hs ls g nil_e vs s = Unit {0}
    SteadyEs (suc u) D hs ls g (cons_e e es) vs s = SteadyE u D hs ls g e s × ((v : Value) (t : State) → eval u m q g e s ≡ ok v t → SteadyEs u D hs (add_loc v ls) g es (append vs v) t)

    -- hs: the callers'
    pub SteadyCalls : ℕ → List ℕ → List ℕ → List Loc → Fn → List Value → State → Type 0
    SteadyCalls zero D hs ls f vs s = Unit {0}
    SteadyCalls (suc u) D hs ls f vs s = (g : Env) → names_in [] (with_under (turned_state s) (s.under + frame q f)) (names_of f.pars) vs ≡ some g → SteadyBody u D hs ls g [] f.does (roots_in (with_under (turned_state s) (s.under + frame q f)) vs)

    pub SteadyBody : ℕ → List ℕ → List ℕ → List Loc → Env → Env → Body → State → Type 0
    SteadyBody zero D hs ls g h d s = Unit {0}
    SteadyBody (suc u) D hs ls g h (body ss t) s = SteadySs u D (env_roots g ++ hs) ls g ss s × ((i : Env) (z : State) → execs u m q g ss s ≡ ok i z → SteadyTail u D hs ls i t z × ((v : Value) (y : State) → tails u m q i t z ≡ ok v y → SteadyEnds u D hs (add_loc v ls) (newer i h) y))

    pub SteadyTail : ℕ → List ℕ → List ℕ → List Loc → Env → Tail → State → Type 0
    SteadyTail zero D hs ls g t s = Unit {0}
    SteadyTail (suc u) D hs ls g (give e) s = SteadyE u D (env_roots g ++ hs) ls g e s
    SteadyTail (suc u) D hs ls g (give_cond e d f) s = SteadyE u D (env_roots g ++ hs) ls g e s × ((v : Value) (t : State) → eval u m q g e s ≡ ok v t → (k : ℕ) → num_of v ≡ some k → SteadyBody u D hs ls g g (choose (eqb k 0) f d) t)
    SteadyTail (suc u) D hs ls g (give_match w x as₁) s = (r : ℕ) → root_of g x ≡ some r → (v : Value) → read_at s (here r) ≡ some v → (z : Value) → read_at s (place_of r v) ≡ some z → (y : Shape) → shape_of z ≡ some y → SteadyArm u D hs ls g w (place_of r v) as₁ y s

    pub SteadyArm : ℕ → List ℕ → List ℕ → List Loc → Env → Access → Loc → Arms → Shape → State → Type 0
    SteadyArm zero D hs ls g w l as₁ y s = Unit {0}
    SteadyArm (suc u) D hs ls g w l as₁ (shape k vs) s = (a : FoundArm) → find_arm as₁ k ≡ some a → TakesClear w (env_roots g ++ hs) ls s.roots l × ((t : State) → taken w s l ≡ some t → (i : Env) → names_in g t a.names (parts w l vs) ≡ some i → SteadyBody u D hs ls i g a.does (roots_in t (parts w l vs)))

    pub SteadySs : ℕ → List ℕ → List ℕ → List Loc → Env → Stmts → State → Type 0
    SteadySs zero D hs ls g ss s = Unit {0}
    SteadySs (suc u) D hs ls g nil_s s = Unit {0}
    SteadySs (suc u) D hs ls g (cons_s x ss) s = SteadyS u D hs ls g x (turned_state s) × ((g2 : Env) (t : State) → exec u m q g x (turned_state s) ≡ ok g2 t → SteadySs u D (env_roots (newer g2 g) ++ hs) ls g2 ss t)

    -- hs: without the names of g that aren't in h
    pub SteadyBlock : ℕ → List ℕ → List ℕ → List Loc → Env → Env → Stmts → State → Type 0
    SteadyBlock zero D hs ls g h ss s = Unit {0}
    SteadyBlock (suc u) D hs ls g h ss s = SteadySs u D (env_roots (newer g h) ++ hs) ls g ss s × ((i : Env) (t : State) → execs u m q g ss s ≡ ok i t → SteadyEnds u D hs ls (newer i h) t)

    pub SteadyS : ℕ → List ℕ → List ℕ → List Loc → Env → Stmt → State → Type 0
    SteadyS zero D hs ls g x s = Unit {0}
    SteadyS (suc u) D hs ls g (bind x e) s = SteadyE u D hs ls g e s
    SteadyS (suc u) D hs ls g (assign x e) s = SteadyE u D hs ls g e s × ((v : Value) (t : State) → eval u m q g e s ≡ ok v t → (r : ℕ) → root_of g x ≡ some r → Clear hs ls t.roots r [] × ((old : Value) → read_at t (here r) ≡ some old → (z : State) → write_at t (here r) v ≡ some z → SteadyDrop u D hs ls old z))
    SteadyS (suc u) D hs ls g (store x e) s = SteadyE u D hs ls g e s × ((v : Value) (t : State) → eval u m q g e s ≡ ok v t → (r : ℕ) → root_of g x ≡ some r → (w : Value) → read_at t (here r) ≡ some w → (l : Loc) → loc_of w ≡ some l → Clear hs ls t.roots l.root l.path × ((old : Value) → if_some (read_at t l) there ≡ some old → (z : State) → write_at t l v ≡ some z → SteadyDrop u D hs ls old z))
    SteadyS (suc u) D hs ls g (put_s e) s = SteadyE u D hs ls g e s
    SteadyS (suc u) D hs ls g (cond e d f) s = SteadyE u D hs ls g e s × ((v : Value) (t : State) → eval u m q g e s ≡ ok v t → (k : ℕ) → num_of v ≡ some k → SteadyBlock u D hs ls g g (choose (eqb k 0) f d) t)
    SteadyS (suc u) D hs ls g (loop e d) s = SteadyE u D hs ls g e s × ((v : Value) (t : State) → eval u m q g e s ≡ ok v t → (k : ℕ) → num_of v ≡ some k → eqb k 0 ≡ false → SteadyBlock u D hs ls g g d t × ((i : Env) (z : State) → block u m q g g d t ≡ ok i z → SteadyS u D hs ls g (loop e d) (turned_state z)))
    SteadyS (suc u) D hs ls g (match_s w x as₁) s = (r : ℕ) → root_of g x ≡ some r → (v : Value) → read_at s (here r) ≡ some v → (z : Value) → read_at s (place_of r v) ≡ some z → (y : Shape) → shape_of z ≡ some y → SteadyAlt u D hs ls g w (place_of r v) as₁ y s
    SteadyS (suc u) D hs ls g (open_s x y) s = (r : ℕ) → root_of g y ≡ some r → (v : Value) → read_at s (here r) ≡ some v → (i : ℕ) → box_of v ≡ some i → NotIn i D × Clear hs ls s.roots r [] × Unseen hs ls s.roots i
    SteadyS (suc u) D hs ls g (inside x y) s = (r : ℕ) → root_of g y ≡ some r → (v : Value) → read_at s (here r) ≡ some v → (l : Loc) → loc_of v ≡ some l → (w : Value) → read_at s l ≡ some w → (i : ℕ) → box_of w ≡ some i → NotIn i D × ((z : Root) × Live s.roots i z)

    pub SteadyAlt : ℕ → List ℕ → List ℕ → List Loc → Env → Access → Loc → Alts → Shape → State → Type 0
    SteadyAlt zero D hs ls g w l as₁ y s = Unit {0}
    SteadyAlt (suc u) D hs ls g w l as₁ (shape k vs) s = (a : Found) → find_alt as₁ k ≡ some a → TakesClear w hs ls s.roots l × ((t : State) → taken w s l ≡ some t → (i : Env) → names_in g t a.names (parts w l vs) ≡ some i → SteadyBlock u D hs ls i g a.does (roots_in t (parts w l vs)))

    -- hs: without those that end
    pub SteadyEnds : ℕ → List ℕ → List ℕ → List Loc → Env → State → Type 0
    SteadyEnds zero D hs ls g s = Unit {0}
    SteadyEnds (suc u) D hs ls [] s = Unit {0}
    SteadyEnds (suc u) D hs ls (x ∷ xs) s = (v : Value) → read_at s (here x.root) ≡ some v → Unseen hs ls s.roots x.root × SteadyDrop u D hs ls v (kill s x.root) × ((k : ℕ) (t : State) → drops u m q v (kill s x.root) ≡ ok k t → SteadyEnds u D hs ls xs t)

    pub SteadyDrop : ℕ → List ℕ → List ℕ → List Loc → Value → State → Type 0
    SteadyDrop zero D hs ls v s = Unit {0}
    SteadyDrop (suc u) D hs ls (int_v k) s = Unit {0}
    SteadyDrop (suc u) D hs ls (con_v k vs) s = (h : Home) → home_of q.datas k ≡ some h → (eqb (length h.data1.last) 0 ≡ true → SteadyDrops u D hs ls vs s) × (eqb (length h.data1.last) 0 ≡ false → (f : Fn) → fn_named q.funs h.data1.last ≡ some f → SteadyLast u D hs ls f (con_v k vs) s)
    SteadyDrop (suc u) D hs ls (box_v r) s = NotIn r D × Unseen hs ls s.roots r × ((v : Value) → read_at s (here r) ≡ some v → SteadyDrop u (r ∷ D) hs ls v (with_under s (s.under + 8)))
    SteadyDrop (suc u) D hs ls (ref_v l) s = Unit {0}
    SteadyDrop (suc u) D hs ls hole s = Unit {0}

    pub SteadyLast : ℕ → List ℕ → List ℕ → List Loc → Fn → Value → State → Type 0
    SteadyLast zero D hs ls f v s = Unit {0}
    SteadyLast (suc u) D hs ls f v s = SteadyCalls u D hs ls f (ref_v (here (length s.roots)) ∷ []) (adds_root s v 0) × ((k : Value) (t : State) → calls u m q f (ref_v (here (length s.roots)) ∷ []) (adds_root s v 0) ≡ ok k t → Unseen hs ls t.roots (length s.roots) × ((w : Value) → read_at t (here (length s.roots)) ≡ some w → SteadyParts u D hs ls w (kill t (length s.roots))))

    pub SteadyParts : ℕ → List ℕ → List ℕ → List Loc → Value → State → Type 0
    SteadyParts zero D hs ls v s = Unit {0}
    SteadyParts (suc u) D hs ls (int_v k) s = Unit {0}
    SteadyParts (suc u) D hs ls (con_v k vs) s = SteadyDrops u D hs ls vs s
    SteadyParts (suc u) D hs ls (box_v r) s = Unit {0}
    SteadyParts (suc u) D hs ls (ref_v l) s = Unit {0}
    SteadyParts (suc u) D hs ls hole s = Unit {0}

    pub SteadyDrops : ℕ → List ℕ → List ℕ → List Loc → Values → State → Type 0
    SteadyDrops zero D hs ls vs s = Unit {0}
    SteadyDrops (suc u) D hs ls nil_v s = Unit {0}
    SteadyDrops (suc u) D hs ls (cons_v v vs) s = SteadyDrop u D hs ls v s × ((k : ℕ) (t : State) → drops u m q v s ≡ ok k t → SteadyDrops u D hs ls vs t)
