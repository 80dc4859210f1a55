-- What every function of the meaning keeps, stated for each fuel.
use Rattle.std.specs.Prelude.{true, List, [], ◌∷◌, ◌++◌, ◌≡◌, ℕ, ◌<◌, length}
use Rattle.std.proofs.Math.Option.{some}
use Rattle.language.specs.Base.{Lexeme}
use Rattle.language.specs.Syntax.{Ty, int, dat, mut, Expr, Exprs, Access, Stmt, Stmts, Alts, Body, Tail, Arms, Fn, Prog}
use Rattle.language.specs.Checks.{Loan, Var, Matched, ok_fn, types_of_pars}
use Rattle.language.specs.Checks as ch
use Rattle.language.specs.Meaning.{Loc, Value, Values, State, Limits, Stop, wrong, out_of_fuel, no_heap, no_stack, no_turns, Res, stop, Shape, here}
use Rattle.language.specs.Meaning.{list_of, root_of, read_at, place_of, shape_of, eval, evals, calls, bodies, tails, by_shape, execs, block, exec}
use Rattle.language.specs.Meaning.{by_alt, ends, drops, lasts, parts_of, drops_all, run}
use Rattle.language.specs.Meaning as me
use Rattle.soundness.specs.Borrows.{In, LevelLoan, loans_of}
use Rattle.soundness.specs.Trees.{Tree, flat, Typed}
use Rattle.soundness.specs.Invariant.{in_flight, Entry, kinds, Invariant}
use Rattle.soundness.specs.Frames.{LoansCover, Scope, ValueEntry, all_loans_of, Arguments, RootsNamed, NoBorrows, Dropping, Frame, RefParams}
use Rattle.soundness.specs.Frames.{owned_entry}

-- what doesn't go wrong
abbrev pub NotWrong : Stop → Type 0
NotWrong wrong = ⊥
NotWrong out_of_fuel = Unit {0}
NotWrong no_heap = Unit {0}
NotWrong no_stack = Unit {0}
NotWrong no_turns = Unit {0}

-- where it ends P holds; else it stopped, and not as wrong
pub data Safe {A : Type 0} (P : A → State → Type 0) : Res A → Type 0 where
  safe_ok : {a : A} {s : State} → P a s → Safe P (me.ok a s)
  safe_stop : {k : Stop} {s : State} → NotWrong k → Safe P (stop k s)

-- what's there behind an expression: the value's entry on top, and the frame's with the flags of the names behind it; all that's under the frame is the same
pub record AfterEval (q : Prog) (C : List Entry) (lent1 : List LevelLoan) (d : me.Env) (H : List Entry) (r : ch.Typed) (k : ℕ) (v : Value)
    (s : State) : Type 0 where
  pub top : Entry
  pub F : List Entry
  pub T : List Tree
  pub value_entry : ValueEntry v r.ty top
  pub covered : LoansCover (length C) lent1 r.env r.loans (loans_of top.kind)
  pub names : Scope (length C) lent1 r.env d F
  pub invariant : Invariant q.datas (top ∷ (H ++ (F ++ C))) T s
  pub under : s.under ≡ k

pub record AfterArgs (q : Prog) (C : List Entry) (lent1 : List LevelLoan) (d : me.Env) (A H : List Entry) (ts : List Ty) (r : ch.Typed) (k : ℕ)
    (vs : Values) (s : State) : Type 0 where
  pub K : List Entry
  pub F : List Entry
  pub T : List Tree
  pub arguments : Arguments (K ++ A) ts vs
  pub covered : LoansCover (length C) lent1 r.env r.loans (all_loans_of K)
  pub names : Scope (length C) lent1 r.env d F
  pub invariant : Invariant q.datas (K ++ ((A ++ H) ++ (F ++ C))) T s
  pub under : s.under ≡ k

-- behind a call: what it gives, with no loans but those that the arguments came with
pub record AfterCall (q : Prog) (C A : List Entry) (t : Ty) (k : ℕ) (v : Value) (s : State) : Type 0 where
  pub top : Entry
  pub T : List Tree
  pub value_entry : ValueEntry v t top
  pub loans : (l : LevelLoan) → In l (loans_of top.kind) → In l (all_loans_of A)
  pub invariant : Invariant q.datas (top ∷ C) T s
  pub under : s.under ≡ k

-- behind what's given: it stands under the frame, whose references are used no more
pub record AfterGive (q : Prog) (C : List Entry) (lent1 : List LevelLoan) (h : me.Env) (t : Ty) (k : ℕ) (v : Value) (s : State) : Type 0 where
  pub top : Entry
  pub F : List Entry
  pub T : List Tree
  pub value_entry : ValueEntry v t top
  pub loans : (l : LevelLoan) → In l (loans_of top.kind) → In l lent1
  pub named : RootsNamed h F
  pub no_refs : NoBorrows (kinds F)
  pub invariant : Invariant q.datas (F ++ (top ∷ C)) T s
  pub under : s.under ≡ k

-- behind statements: newer names on top
pub record AfterExec (q : Prog) (C : List Entry) (lent1 : List LevelLoan) (g : ch.Env) (d : me.Env) (k : ℕ) (d2 : me.Env) (s : State) : Type 0 where
  pub newer : me.Env
  pub grown : d2 ≡ newer ++ d
  pub F : List Entry
  pub T : List Tree
  pub names : Scope (length C) lent1 g d2 F
  pub invariant : Invariant q.datas (F ++ C) T s
  pub under : s.under ≡ k

-- behind what ends: the rest of the stack
pub record AfterEnd (q : Prog) (N : List Entry) (k : ℕ) (s : State) : Type 0 where
  pub T : List Tree
  pub invariant : Invariant q.datas N T s
  pub under : s.under ≡ k

-- what a match looks at
pub record Scrutinee (d : me.Env) (x : Lexeme) (l : Loc) (y : Shape) (s : State) : Type 0 where
  pub root : ℕ
  pub val : Value
  pub seen : Value
  pub named : root_of d x ≡ some root
  pub reads : read_at s (here root) ≡ some val
  pub place : l ≡ place_of root val
  pub sees : read_at s l ≡ some seen
  pub shaped : shape_of seen ≡ some y

module _ (q : Prog) (m : Limits) where
  abbrev pub EvalOk : ℕ → Type 0
  EvalOk u =
      (C : List Entry) (ln : List LevelLoan) (held : List Loan) (g : ch.Env) (d : me.Env) (H F : List Entry) (T : List Tree) (s : State) (e : Expr)
      (r : ch.Typed) → ch.expr q held g e ≡ some r → Frame C ln held g d H F → Invariant q.datas (H ++ (F ++ C)) T s
      → Safe (AfterEval q C ln d H r s.under) (eval u m q d e s)

  abbrev pub EvalsOk : ℕ → Type 0
  EvalsOk u =
      (C : List Entry) (ln : List LevelLoan) (held : List Loan) (g : ch.Env) (d : me.Env) (A H F : List Entry) (T : List Tree) (s : State)
      (es : Exprs) (us ts : List Ty) (vs : Values) (r : ch.Typed) → ch.args q held g es ts ≡ some r → Arguments A us vs
      → Frame C ln held g d (A ++ H) F → Invariant q.datas ((A ++ H) ++ (F ++ C)) T s
      → Safe (AfterArgs q C ln d A H (us ++ ts) r s.under) (evals u m q d es vs s)

  abbrev pub CallsOk : ℕ → Type 0
  CallsOk u =
      (C A : List Entry) (T : List Tree) (s : State) (f : Fn) (vs : Values) → ok_fn q f ≡ true → Arguments A (types_of_pars f.pars) vs
      → ((l : LevelLoan) → In l (all_loans_of A) → l.level < length C) → Invariant q.datas (A ++ C) T s
      → Safe (AfterCall q C A f.ret s.under) (calls u m q f (list_of vs) s)

  abbrev pub BodiesOk : ℕ → Type 0
  BodiesOk u =
      (C : List Entry) (ln : List LevelLoan) (g : ch.Env) (d k h : me.Env) (F : List Entry) (T : List Tree) (s : State) (qs : List Lexeme) (t : Ty)
      (x : Body) → ch.is_body q qs t g x ≡ true → RefParams qs g → d ≡ k ++ h → Frame C ln [] g d [] F → Invariant q.datas (F ++ C) T s
      → Safe (AfterGive q C ln h t s.under) (bodies u m q d h x s)

  abbrev pub TailsOk : ℕ → Type 0
  TailsOk u =
      (C : List Entry) (ln : List LevelLoan) (g : ch.Env) (d : me.Env) (F : List Entry) (T : List Tree) (s : State) (qs : List Lexeme) (t : Ty)
      (x : Tail) → ch.is_tail q qs t g x ≡ true → RefParams qs g → Frame C ln [] g d [] F → Invariant q.datas (F ++ C) T s
      → Safe (AfterGive q C ln d t s.under) (tails u m q d x s)

  abbrev pub ByShapeOk : ℕ → Type 0
  ByShapeOk u =
      (C : List Entry) (ln : List LevelLoan) (g : ch.Env) (d : me.Env) (F : List Entry) (T : List Tree) (s : State) (qs : List Lexeme) (t : Ty)
      (w : Access) (x : Lexeme) (v : Var) (mm : Matched) (as₁ : Arms) (l : Loc) (y : Shape) → ch.there g x ≡ some v
      → ch.looks_at q g v w v.ty ≡ some mm → ch.covers mm.data1 (ch.arm_names as₁) ≡ true
      → ch.are_arms q qs t mm.env w mm.loans mm.data1 as₁ ≡ true → RefParams qs g → Scrutinee d x l y s → Frame C ln [] g d [] F
      → Invariant q.datas (F ++ C) T s → Safe (AfterGive q C ln d t s.under) (by_shape u m q d w l as₁ y s)

  abbrev pub ExecsOk : ℕ → Type 0
  ExecsOk u =
      (C : List Entry) (ln : List LevelLoan) (g g2 : ch.Env) (d : me.Env) (F : List Entry) (T : List Tree) (s : State) (x : Stmts)
      → ch.stmts q g x ≡ some g2 → Frame C ln [] g d [] F → Invariant q.datas (F ++ C) T s
      → Safe (AfterExec q C ln g2 d s.under) (execs u m q d x s)

  -- inner names k ++ end, those of h stay: g is gk ++ gh
  abbrev pub BlockOk : ℕ → Type 0
  BlockOk u =
      (C : List Entry) (ln : List LevelLoan) (gk gh g2 : ch.Env) (k h : me.Env) (F : List Entry) (T : List Tree) (s : State) (x : Stmts)
      → ch.stmts q (gk ++ gh) x ≡ some g2 → length gk ≡ length k → Frame C ln [] (gk ++ gh) (k ++ h) [] F → Invariant q.datas (F ++ C) T s
      → Safe (λ d2 t. (d2 ≡ h) × AfterExec q C ln (ch.outer gh g2) h s.under d2 t) (block u m q (k ++ h) h x s)

  abbrev pub ExecOk : ℕ → Type 0
  ExecOk u =
      (C : List Entry) (ln : List LevelLoan) (g g2 : ch.Env) (d : me.Env) (F : List Entry) (T : List Tree) (s : State) (x : Stmt)
      → ch.stmt q g x ≡ some g2 → Frame C ln [] g d [] F → Invariant q.datas (F ++ C) T s
      → Safe (AfterExec q C ln g2 d s.under) (exec u m q d x s)

  abbrev pub ByAltOk : ℕ → Type 0
  ByAltOk u =
      (C : List Entry) (ln : List LevelLoan) (g g2 : ch.Env) (d : me.Env) (F : List Entry) (T : List Tree) (s : State) (w : Access) (x : Lexeme)
      (v : Var) (mm : Matched) (as₁ : Alts) (l : Loc) (y : Shape) → ch.there g x ≡ some v → ch.looks_at q g v w v.ty ≡ some mm
      → ch.covers mm.data1 (ch.alt_names as₁) ≡ true → ch.alts q mm.env w mm.loans mm.data1 as₁ ≡ some g2 → Scrutinee d x l y s
      → Frame C ln [] g d [] F → Invariant q.datas (F ++ C) T s → Safe (AfterExec q C ln g2 d s.under) (by_alt u m q d w l as₁ y s)

  abbrev pub EndsOk : ℕ → Type 0
  EndsOk u =
      (K N : List Entry) (T : List Tree) (s : State) (d : me.Env) → RootsNamed d K → Invariant q.datas (K ++ N) T s
      → Safe (λ k t. AfterEnd q N s.under t) (ends u m q d s)

  abbrev pub DropsOk : ℕ → Type 0
  DropsOk u =
      (e : Entry) (N : List Entry) (T : List Tree) (s : State) (v : Value) → e.at ≡ in_flight v → Invariant q.datas (e ∷ N) T s
      → Safe (λ k t. AfterEnd q N s.under t) (drops u m q v s)

  -- the last function f of data x: a typed tree in flight
  abbrev pub LastsOk : ℕ → Type 0
  LastsOk u =
      (N : List Entry) (x : Tree) (T : List Tree) (s : State) (w : Lexeme) (f : Fn) → ok_fn q f ≡ true → types_of_pars f.pars ≡ mut (dat w) ∷ []
      → f.ret ≡ int → Typed q.datas x (dat w) → Invariant q.datas (owned_entry x (dat w) ∷ N) (x ∷ T) s
      → Safe (λ k t. AfterEnd q N s.under t) (lasts u m q f (flat x) s)

  abbrev pub PartsOk : ℕ → Type 0
  PartsOk u =
      (N : List Entry) (x : Tree) (T : List Tree) (s : State) (w : Lexeme) → Typed q.datas x (dat w)
      → Invariant q.datas (owned_entry x (dat w) ∷ N) (x ∷ T) s → Safe (λ k t. AfterEnd q N s.under t) (parts_of u m q (flat x) s)

  abbrev pub DropsAllOk : ℕ → Type 0
  DropsAllOk u =
      (K N : List Entry) (T : List Tree) (s : State) (vs : Values) → Dropping vs K → Invariant q.datas (K ++ N) T s
      → Safe (λ k t. AfterEnd q N s.under t) (drops_all u m q vs s)

pub record Preserved (q : Prog) (m : Limits) (u : ℕ) : Type 0 where
  pub eval_ok : EvalOk q m u
  pub evals_ok : EvalsOk q m u
  pub calls_ok : CallsOk q m u
  pub bodies_ok : BodiesOk q m u
  pub tails_ok : TailsOk q m u
  pub by_shape_ok : ByShapeOk q m u
  pub execs_ok : ExecsOk q m u
  pub block_ok : BlockOk q m u
  pub exec_ok : ExecOk q m u
  pub by_alt_ok : ByAltOk q m u
  pub ends_ok : EndsOk q m u
  pub drops_ok : DropsOk q m u
  pub lasts_ok : LastsOk q m u
  pub parts_ok : PartsOk q m u
  pub drops_all_ok : DropsAllOk q m u

-- of an accepted program, at every fuel
abbrev pub InvariantKept : Type 0
InvariantKept = (q : Prog) (m : Limits) → ch.accepts q ≡ true → (u : ℕ) → Preserved q m u

-- so its runs are safe: behind one, the value that main gives is a number, in flight over an empty stack
abbrev pub RunSafe : Type 0
RunSafe = (u : ℕ) (m : Limits) (q : Prog) (ins : List ℕ) → ch.accepts q ≡ true → Safe (AfterCall q [] [] int 0) (run u m q ins)
