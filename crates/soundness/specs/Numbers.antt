-- Numbers while a program runs: what a value, a state and a program's text hold of them, and what is shown.
use Rattle.std.specs.Prelude.{List, [], ◌∷◌, ◌⊎◌, ◌≡◌, ℕ, ◌<◌}
use Rattle.std.proofs.Math.Option.{some}
use Rattle.language.specs.Syntax.{Expr, num, var, op, ctor, boxed, call, share, lend, load, get_e, Exprs, nil_e, cons_e, Access, Stmt, bind, assign}
use Rattle.language.specs.Syntax.{store, put_s, cond, loop, match_s, open_s, inside, Stmts, nil_s, cons_s, Alts, no_alts, alt, Body, body, Tail, give}
use Rattle.language.specs.Syntax.{give_cond, give_match, Arms, no_arms, arm, Fn, Prog}
use Rattle.language.specs.Text.{reads}
use Rattle.language.specs.Meaning.{Loc, Value, int_v, con_v, box_v, ref_v, hole, Values, nil_v, cons_v, Root, State, Limits, Res, ok, stop, Env}
use Rattle.language.specs.Meaning.{Shape, shape, two_64, eval, evals, calls, bodies, tails, by_shape, execs, block, exec, by_alt, ends, drops, lasts}
use Rattle.language.specs.Meaning.{parts_of, drops_all, run}
use Rattle.language.specs.Says.{Front}

abbrev pub Every : {A : Type 0} → (A → Type 0) → List A → Type 0
Every P [] = Unit {0}
Every P (x ∷ xs) = P x × Every P xs

-- L holds of every number of a value
abbrev mutual
  pub Numbers : (ℕ → Type 0) → Value → Type 0
  Numbers L (int_v k) = L k
  Numbers L (con_v k vs) = NumbersOf L vs
  Numbers L (box_v r) = Unit {0}
  Numbers L (ref_v l) = Unit {0}
  Numbers L hole = Unit {0}

  pub NumbersOf : (ℕ → Type 0) → Values → Type 0
  NumbersOf L nil_v = Unit {0}
  NumbersOf L (cons_v v vs) = Numbers L v × NumbersOf L vs

abbrev pub ShapeNumbers : (ℕ → Type 0) → Shape → Type 0
ShapeNumbers L (shape k vs) = NumbersOf L vs

-- L holds of every number that is stored, and Q of what was shown
pub record StateNumbers (L : ℕ → Type 0) (Q : List ℕ → Type 0) (s : State) : Type 0 where
  pub stored : Every (λ (x : Root). Numbers L x.val) s.roots
  pub shown : Q s.outs

-- L holds of every number that a program writes out
abbrev mutual
  pub LiteralsE : (ℕ → Type 0) → Expr → Type 0
  LiteralsE L (num k) = L k
  LiteralsE L (var x) = Unit {0}
  LiteralsE L (op o d e) = LiteralsE L d × LiteralsE L e
  LiteralsE L (ctor k es) = LiteralsEs L es
  LiteralsE L (boxed e) = LiteralsE L e
  LiteralsE L (call f es) = LiteralsEs L es
  LiteralsE L (share x) = Unit {0}
  LiteralsE L (lend x) = Unit {0}
  LiteralsE L (load x) = Unit {0}
  LiteralsE L get_e = Unit {0}

  pub LiteralsEs : (ℕ → Type 0) → Exprs → Type 0
  LiteralsEs L nil_e = Unit {0}
  LiteralsEs L (cons_e e es) = LiteralsE L e × LiteralsEs L es

abbrev mutual
  pub LiteralsS : (ℕ → Type 0) → Stmt → Type 0
  LiteralsS L (bind x e) = LiteralsE L e
  LiteralsS L (assign x e) = LiteralsE L e
  LiteralsS L (store x e) = LiteralsE L e
  LiteralsS L (put_s e) = LiteralsE L e
  LiteralsS L (cond e a d) = LiteralsE L e × LiteralsSs L a × LiteralsSs L d
  LiteralsS L (loop e a) = LiteralsE L e × LiteralsSs L a
  LiteralsS L (match_s w x as₁) = LiteralsAlts L as₁
  LiteralsS L (open_s x y) = Unit {0}
  LiteralsS L (inside x y) = Unit {0}

  pub LiteralsSs : (ℕ → Type 0) → Stmts → Type 0
  LiteralsSs L nil_s = Unit {0}
  LiteralsSs L (cons_s s ss) = LiteralsS L s × LiteralsSs L ss

  pub LiteralsAlts : (ℕ → Type 0) → Alts → Type 0
  LiteralsAlts L no_alts = Unit {0}
  LiteralsAlts L (alt k xs ss as₁) = LiteralsSs L ss × LiteralsAlts L as₁

abbrev mutual
  pub LiteralsBody : (ℕ → Type 0) → Body → Type 0
  LiteralsBody L (body ss t) = LiteralsSs L ss × LiteralsTail L t

  pub LiteralsTail : (ℕ → Type 0) → Tail → Type 0
  LiteralsTail L (give e) = LiteralsE L e
  LiteralsTail L (give_cond e a d) = LiteralsE L e × LiteralsBody L a × LiteralsBody L d
  LiteralsTail L (give_match w x as₁) = LiteralsArms L as₁

  pub LiteralsArms : (ℕ → Type 0) → Arms → Type 0
  LiteralsArms L no_arms = Unit {0}
  LiteralsArms L (arm k xs d as₁) = LiteralsBody L d × LiteralsArms L as₁

abbrev pub Literals : (ℕ → Type 0) → Prog → Type 0
Literals L q = Every (λ (f : Fn). LiteralsBody L f.does) q.funs

-- behind an evaluation, also where it stops: V of what it gave, P of the state
abbrev pub Behind : {A : Type 0} → (A → Type 0) → (State → Type 0) → Res A → Type 0
Behind V P (ok a s) = V a × P s
Behind V P (stop k s) = P s

-- what every function of the meaning keeps, at fuel u: P of the state, and L of the numbers of what is given
pub record NumbersKept (L : ℕ → Type 0) (P : State → Type 0) (q : Prog) (m : Limits) (u : ℕ) : Type 0 where
  pub by_eval : (g : Env) (e : Expr) (s : State) → LiteralsE L e → P s → Behind (Numbers L) P (eval u m q g e s)
  pub by_evals : (g : Env) (es : Exprs) (vs : Values) (s : State) → LiteralsEs L es → NumbersOf L vs → P s
      → Behind (NumbersOf L) P (evals u m q g es vs s)
  pub by_calls : (f : Fn) (vs : List Value) (s : State) → LiteralsBody L f.does → Every (Numbers L) vs → P s
      → Behind (Numbers L) P (calls u m q f vs s)
  pub by_bodies : (g h : Env) (d : Body) (s : State) → LiteralsBody L d → P s → Behind (Numbers L) P (bodies u m q g h d s)
  pub by_tails : (g : Env) (t : Tail) (s : State) → LiteralsTail L t → P s → Behind (Numbers L) P (tails u m q g t s)
  pub by_arms : (g : Env) (w : Access) (l : Loc) (as₁ : Arms) (y : Shape) (s : State) → LiteralsArms L as₁ → ShapeNumbers L y → P s
      → Behind (Numbers L) P (by_shape u m q g w l as₁ y s)
  pub by_execs : (g : Env) (ss : Stmts) (s : State) → LiteralsSs L ss → P s → Behind (λ _. Unit {0}) P (execs u m q g ss s)
  pub by_block : (g h : Env) (ss : Stmts) (s : State) → LiteralsSs L ss → P s → Behind (λ _. Unit {0}) P (block u m q g h ss s)
  pub by_exec : (g : Env) (x : Stmt) (s : State) → LiteralsS L x → P s → Behind (λ _. Unit {0}) P (exec u m q g x s)
  pub by_alts : (g : Env) (w : Access) (l : Loc) (as₁ : Alts) (y : Shape) (s : State) → LiteralsAlts L as₁ → ShapeNumbers L y → P s
      → Behind (λ _. Unit {0}) P (by_alt u m q g w l as₁ y s)
  pub by_ends : (g : Env) (s : State) → P s → Behind (λ _. Unit {0}) P (ends u m q g s)
  pub by_drops : (v : Value) (s : State) → Numbers L v → P s → Behind (λ _. Unit {0}) P (drops u m q v s)
  pub by_lasts : (f : Fn) (v : Value) (s : State) → LiteralsBody L f.does → Numbers L v → P s → Behind (λ _. Unit {0}) P (lasts u m q f v s)
  pub by_parts : (v : Value) (s : State) → Numbers L v → P s → Behind (λ _. Unit {0}) P (parts_of u m q v s)
  pub by_drops_all : (vs : Values) (s : State) → NumbersOf L vs → P s → Behind (λ _. Unit {0}) P (drops_all u m q vs s)

-- NUMBERS ARE WORDS: below 2^64; what is shown is a word, or the mark 2^64 that 'get' leaves
abbrev pub Word : ℕ → Type 0
Word k = k < two_64

abbrev pub Shown : ℕ → Type 0
Shown k = Word k ⊎ (k ≡ two_64)

-- for a program that was read from a text: at every fuel, for every function of the meaning; and so for its runs
abbrev pub WordsKept : Type 0
WordsKept = (text : List ℕ) (q : Prog) → reads text ≡ some q → (m : Limits) (u : ℕ) → NumbersKept Word (StateNumbers Word (Every Shown)) q m u

abbrev pub ShownSmall : Type 0
ShownSmall =
    (text : List ℕ) (q : Prog) → reads text ≡ some q → (u : ℕ) (m : Limits) (ins : List ℕ)
    → Behind (Numbers Word) (λ s. Every Shown s.outs) (run u m q ins)

-- WHAT IS SHOWN ONLY GROWS, for every program, from every state, also where a run stops
abbrev pub outs_behind : {A : Type 0} → Res A → List ℕ
outs_behind (ok a s) = s.outs
outs_behind (stop k s) = s.outs

pub record ShownBy (q : Prog) (m : Limits) (u : ℕ) : Type 0 where
  pub by_eval : (g : Env) (e : Expr) (s : State) → Front s.outs (outs_behind (eval u m q g e s))
  pub by_evals : (g : Env) (es : Exprs) (vs : Values) (s : State) → Front s.outs (outs_behind (evals u m q g es vs s))
  pub by_calls : (f : Fn) (vs : List Value) (s : State) → Front s.outs (outs_behind (calls u m q f vs s))
  pub by_bodies : (g h : Env) (d : Body) (s : State) → Front s.outs (outs_behind (bodies u m q g h d s))
  pub by_tails : (g : Env) (t : Tail) (s : State) → Front s.outs (outs_behind (tails u m q g t s))
  pub by_arms : (g : Env) (w : Access) (l : Loc) (as₁ : Arms) (y : Shape) (s : State) → Front s.outs (outs_behind (by_shape u m q g w l as₁ y s))
  pub by_execs : (g : Env) (ss : Stmts) (s : State) → Front s.outs (outs_behind (execs u m q g ss s))
  pub by_block : (g h : Env) (ss : Stmts) (s : State) → Front s.outs (outs_behind (block u m q g h ss s))
  pub by_exec : (g : Env) (x : Stmt) (s : State) → Front s.outs (outs_behind (exec u m q g x s))
  pub by_alts : (g : Env) (w : Access) (l : Loc) (as₁ : Alts) (y : Shape) (s : State) → Front s.outs (outs_behind (by_alt u m q g w l as₁ y s))
  pub by_ends : (g : Env) (s : State) → Front s.outs (outs_behind (ends u m q g s))
  pub by_drops : (v : Value) (s : State) → Front s.outs (outs_behind (drops u m q v s))
  pub by_lasts : (f : Fn) (v : Value) (s : State) → Front s.outs (outs_behind (lasts u m q f v s))
  pub by_parts : (v : Value) (s : State) → Front s.outs (outs_behind (parts_of u m q v s))
  pub by_drops_all : (vs : Values) (s : State) → Front s.outs (outs_behind (drops_all u m q vs s))

abbrev pub ShownGrows : Type 0
ShownGrows = (q : Prog) (m : Limits) (u : ℕ) → ShownBy q m u
