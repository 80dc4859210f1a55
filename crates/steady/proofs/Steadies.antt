-- What is shown of every function of the meaning, for each fuel: from what the invariant asks before it, and from who is watched, it is steady.
use mathlib.Core.Bool.{true}
use mathlib.Core.List.{List, [], ◌∷◌, ◌++◌}
use mathlib.Core.Option.{some}
use mathlib.Core.Path.{◌≡◌, subst}
use Prim.Native.Nat.{ℕ, zero, ◌<◌}
use lib.ListN.{length}
use Rattle.language.specs.Base.{Lexeme}
use Rattle.language.specs.Syntax.{Ty, int, dat, mut, Expr, Exprs, Access, Stmt, Stmts, Alts, Body, Tail, Arms, Fn, Prog}
use Rattle.language.specs.Checks.{Loan, Var, Matched, ok_fn, types_of_pars}
use Rattle.language.specs.Checks as ch
use Rattle.language.specs.Meaning.{Loc, Value, Values, State, Limits, Res, Shape, list_of}
use Rattle.language.specs.Meaning as me
use Rattle.soundness.specs.Borrows.{In, LevelLoan}
use Rattle.soundness.specs.Trees.{Tree, flat, Typed}
use Rattle.soundness.specs.Invariant.{in_flight, Entry, Invariant}
use Rattle.soundness.specs.Frames.{all_loans_of, Arguments, RootsNamed, Dropping, Frame, RefParams, owned_entry}
use Rattle.soundness.specs.Preserved.{Safe, Scrutinee}
use Rattle.soundness.proofs.Safety.{ended}
use Rattle.simulation.specs.Borrows.{SteadyE, SteadyEs, SteadyCalls, SteadyBody, SteadyTail, SteadyArm, SteadySs, SteadyBlock, SteadyS}
use Rattle.simulation.specs.Borrows.{SteadyAlt, SteadyEnds, SteadyDrop, SteadyLast, SteadyParts, SteadyDrops}
use Rattle.steady.proofs.Watch.{Watch, FrameWatch}

-- what is kept, where it ended so
pub got : {A : Type 0} (P : A → State → Type 0) (r : Res A) (a : A) (s : State) → Safe P r → r ≡ me.ok a s → P a s
got P r a s h e = ended (subst (Safe P) e h)

module _ (q : Prog) (m : Limits) where
  abbrev pub EvalSteady : ℕ → Type 0
  EvalSteady u =
      (C : List Entry) (ln : List LevelLoan) (held : List Loan) (g : ch.Env) (d : me.Env) (H F : List Entry) (T : List Tree) (s : State) (e : Expr)
      (r : ch.Typed) (D hs : List ℕ) (ls : List Loc) → ch.expr q held g e ≡ some r → Frame C ln held g d H F
      → Invariant q.datas (H ++ (F ++ C)) T s → FrameWatch C H d D hs ls → SteadyE m q u D hs ls d e s

  abbrev pub EvalsSteady : ℕ → Type 0
  EvalsSteady u =
      (C : List Entry) (ln : List LevelLoan) (held : List Loan) (g : ch.Env) (d : me.Env) (A H F : List Entry) (T : List Tree) (s : State)
      (es : Exprs) (us ts : List Ty) (vs : Values) (r : ch.Typed) (D hs : List ℕ) (ls : List Loc) → ch.args q held g es ts ≡ some r
      → Arguments A us vs → Frame C ln held g d (A ++ H) F → Invariant q.datas ((A ++ H) ++ (F ++ C)) T s → FrameWatch C (A ++ H) d D hs ls
      → SteadyEs m q u D hs ls d es vs s

  abbrev pub CallsSteady : ℕ → Type 0
  CallsSteady u =
      (C A : List Entry) (T : List Tree) (s : State) (f : Fn) (vs : Values) (D hs : List ℕ) (ls : List Loc) → ok_fn q f ≡ true
      → Arguments A (types_of_pars f.pars) vs → ((l : LevelLoan) → In l (all_loans_of A) → l.level < length C)
      → Invariant q.datas (A ++ C) T s → Watch C D hs ls → SteadyCalls m q u D hs ls f (list_of vs) s

  abbrev pub BodiesSteady : ℕ → Type 0
  BodiesSteady u =
      (C : List Entry) (ln : List LevelLoan) (g : ch.Env) (d k h : me.Env) (F : List Entry) (T : List Tree) (s : State) (qs : List Lexeme) (t : Ty)
      (x : Body) (D hs : List ℕ) (ls : List Loc) → ch.is_body q qs t g x ≡ true → RefParams qs g → d ≡ k ++ h → Frame C ln [] g d [] F
      → Invariant q.datas (F ++ C) T s → Watch C D hs ls → SteadyBody m q u D hs ls d h x s

  abbrev pub TailsSteady : ℕ → Type 0
  TailsSteady u =
      (C : List Entry) (ln : List LevelLoan) (g : ch.Env) (d : me.Env) (F : List Entry) (T : List Tree) (s : State) (qs : List Lexeme) (t : Ty)
      (x : Tail) (D hs : List ℕ) (ls : List Loc) → ch.is_tail q qs t g x ≡ true → RefParams qs g → Frame C ln [] g d [] F
      → Invariant q.datas (F ++ C) T s → Watch C D hs ls → SteadyTail m q u D hs ls d x s

  abbrev pub ByShapeSteady : ℕ → Type 0
  ByShapeSteady u =
      (C : List Entry) (ln : List LevelLoan) (g : ch.Env) (d : me.Env) (F : List Entry) (T : List Tree) (s : State) (qs : List Lexeme) (t : Ty)
      (w : Access) (x : Lexeme) (v : Var) (mm : Matched) (as₁ : Arms) (l : Loc) (y : Shape) (D hs : List ℕ) (ls : List Loc)
      → ch.there g x ≡ some v → ch.looks_at q g v w v.ty ≡ some mm → ch.covers mm.data1 (ch.arm_names as₁) ≡ true
      → ch.are_arms q qs t mm.env w mm.loans mm.data1 as₁ ≡ true → RefParams qs g → Scrutinee d x l y s → Frame C ln [] g d [] F
      → Invariant q.datas (F ++ C) T s → Watch C D hs ls → SteadyArm m q u D hs ls d w l as₁ y s

  abbrev pub ExecsSteady : ℕ → Type 0
  ExecsSteady u =
      (C : List Entry) (ln : List LevelLoan) (g g2 : ch.Env) (d : me.Env) (F : List Entry) (T : List Tree) (s : State) (x : Stmts)
      (D hs : List ℕ) (ls : List Loc) → ch.stmts q g x ≡ some g2 → Frame C ln [] g d [] F → Invariant q.datas (F ++ C) T s
      → FrameWatch C [] d D hs ls → SteadySs m q u D hs ls d x s

  abbrev pub BlockSteady : ℕ → Type 0
  BlockSteady u =
      (C : List Entry) (ln : List LevelLoan) (gk gh g2 : ch.Env) (k h : me.Env) (F : List Entry) (T : List Tree) (s : State) (x : Stmts)
      (D hs : List ℕ) (ls : List Loc) → ch.stmts q (gk ++ gh) x ≡ some g2 → length gk ≡ length k → Frame C ln [] (gk ++ gh) (k ++ h) [] F
      → Invariant q.datas (F ++ C) T s → FrameWatch C [] h D hs ls → SteadyBlock m q u D hs ls (k ++ h) h x s

  abbrev pub ExecSteady : ℕ → Type 0
  ExecSteady u =
      (C : List Entry) (ln : List LevelLoan) (g g2 : ch.Env) (d : me.Env) (F : List Entry) (T : List Tree) (s : State) (x : Stmt)
      (D hs : List ℕ) (ls : List Loc) → ch.stmt q g x ≡ some g2 → Frame C ln [] g d [] F → Invariant q.datas (F ++ C) T s
      → FrameWatch C [] d D hs ls → SteadyS m q u D hs ls d x s

  abbrev pub ByAltSteady : ℕ → Type 0
  ByAltSteady u =
      (C : List Entry) (ln : List LevelLoan) (g g2 : ch.Env) (d : me.Env) (F : List Entry) (T : List Tree) (s : State) (w : Access) (x : Lexeme)
      (v : Var) (mm : Matched) (as₁ : Alts) (l : Loc) (y : Shape) (D hs : List ℕ) (ls : List Loc) → ch.there g x ≡ some v
      → ch.looks_at q g v w v.ty ≡ some mm → ch.covers mm.data1 (ch.alt_names as₁) ≡ true
      → ch.alts q mm.env w mm.loans mm.data1 as₁ ≡ some g2 → Scrutinee d x l y s → Frame C ln [] g d [] F
      → Invariant q.datas (F ++ C) T s → FrameWatch C [] d D hs ls → SteadyAlt m q u D hs ls d w l as₁ y s

  abbrev pub EndsSteady : ℕ → Type 0
  EndsSteady u =
      (K N : List Entry) (T : List Tree) (s : State) (d : me.Env) (D hs : List ℕ) (ls : List Loc) → RootsNamed d K
      → Invariant q.datas (K ++ N) T s → Watch N D hs ls → SteadyEnds m q u D hs ls d s

  abbrev pub DropsSteady : ℕ → Type 0
  DropsSteady u =
      (e : Entry) (N : List Entry) (T : List Tree) (s : State) (v : Value) (D hs : List ℕ) (ls : List Loc) → e.at ≡ in_flight v
      → Invariant q.datas (e ∷ N) T s → Watch N D hs ls → SteadyDrop m q u D hs ls v s

  abbrev pub LastsSteady : ℕ → Type 0
  LastsSteady u =
      (N : List Entry) (x : Tree) (T : List Tree) (s : State) (w : Lexeme) (f : Fn) (D hs : List ℕ) (ls : List Loc) → ok_fn q f ≡ true
      → types_of_pars f.pars ≡ mut (dat w) ∷ [] → f.ret ≡ int → Typed q.datas x (dat w)
      → Invariant q.datas (owned_entry x (dat w) ∷ N) (x ∷ T) s → Watch N D hs ls → SteadyLast m q u D hs ls f (flat x) s

  abbrev pub PartsSteady : ℕ → Type 0
  PartsSteady u =
      (N : List Entry) (x : Tree) (T : List Tree) (s : State) (w : Lexeme) (D hs : List ℕ) (ls : List Loc) → Typed q.datas x (dat w)
      → Invariant q.datas (owned_entry x (dat w) ∷ N) (x ∷ T) s → Watch N D hs ls → SteadyParts m q u D hs ls (flat x) s

  abbrev pub DropsAllSteady : ℕ → Type 0
  DropsAllSteady u =
      (K N : List Entry) (T : List Tree) (s : State) (vs : Values) (D hs : List ℕ) (ls : List Loc) → Dropping vs K
      → Invariant q.datas (K ++ N) T s → Watch N D hs ls → SteadyDrops m q u D hs ls vs s

pub record Steadies (q : Prog) (m : Limits) (u : ℕ) : Type 0 where
  pub eval_steady : EvalSteady q m u
  pub evals_steady : EvalsSteady q m u
  pub calls_steady : CallsSteady q m u
  pub bodies_steady : BodiesSteady q m u
  pub tails_steady : TailsSteady q m u
  pub by_shape_steady : ByShapeSteady q m u
  pub execs_steady : ExecsSteady q m u
  pub block_steady : BlockSteady q m u
  pub exec_steady : ExecSteady q m u
  pub by_alt_steady : ByAltSteady q m u
  pub ends_steady : EndsSteady q m u
  pub drops_steady : DropsSteady q m u
  pub lasts_steady : LastsSteady q m u
  pub parts_steady : PartsSteady q m u
  pub drops_all_steady : DropsAllSteady q m u

pub steadies_zero : (q : Prog) (m : Limits) → Steadies q m zero
steadies_zero q m = record {
  eval_steady = λ C ln held g d H F T s e r D hs ls h sc w wa. tt;
  evals_steady = λ C ln held g d A H F T s es us ts vs r D hs ls h fl sc w wa. tt;
  calls_steady = λ C A T s f vs D hs ls h fl lo w wa. tt;
  bodies_steady = λ C ln g d k h F T s qs t x D hs ls b l e sc w wa. tt;
  tails_steady = λ C ln g d F T s qs t x D hs ls b l sc w wa. tt;
  by_shape_steady = λ C ln g d F T s qs t w x v mm as₁ l y D hs ls a1 a2 a3 a4 a5 a6 sc wo wa. tt;
  execs_steady = λ C ln g g2 d F T s x D hs ls e sc w wa. tt;
  block_steady = λ C ln gk gh g2 k h F T s x D hs ls e le sc w wa. tt;
  exec_steady = λ C ln g g2 d F T s x D hs ls e sc w wa. tt;
  by_alt_steady = λ C ln g g2 d F T s w x v mm as₁ l y D hs ls a1 a2 a3 a4 a5 sc wo wa. tt;
  ends_steady = λ K N T s d D hs ls nm w wa. tt;
  drops_steady = λ e N T s v D hs ls a w wa. tt;
  lasts_steady = λ N x T s w f D hs ls o e r ty wo wa. tt;
  parts_steady = λ N x T s w D hs ls ty wo wa. tt;
  drops_all_steady = λ K N T s vs D hs ls f w wa. tt;
}
