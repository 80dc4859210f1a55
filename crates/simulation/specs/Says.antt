-- The machine does what the meaning says.
use Rattle.std.specs.Prelude.{◌≡◌, List, [], ◌∷◌, ℕ}
use Rattle.std.proofs.Math.Option.{Option, some}
use Rattle.language.specs.Base.{Lexeme}
use Rattle.language.specs.Syntax.{int, dat, Fn, Prog}
use Rattle.language.specs.Checks.{fn_named, w_main}
use Rattle.language.specs.Meaning.{Value, int_v, con_v, Values, wrong, out_of_fuel, no_heap, no_stack, no_turns, Res, ok, stop, blank, words_of, run}
use Rattle.language.specs.Says.{shown_only}
use Rattle.simulation.specs.Machine.{Kit, Info, Pools, Instr, MAIN, HALT, running, Mach, ended, stopped, Runs}
use Rattle.simulation.specs.Lowering.{Entry, Suf}
use Rattle.simulation.specs.Sizes.{Fits}
use Rattle.simulation.specs.Pooling.{PoolsRight}
use Rattle.simulation.specs.Borrows.{SteadyCalls}
use Rattle.simulation.specs.Fitting.{Tables, Coded}

-- at the start: nothing is in use
abbrev pub start : Kit → Pools → (ℕ → ℕ) → List ℕ → Mach
start K ps w ins = record { ctl = MAIN w_main ∷ HALT ∷ []; mode = running; words = w; fb = K.lent.heap; sp = 0; full = 0; turns = 0; pool = ps; ins = ins; outs = [] }

-- how the machine halts, by what the meaning says; nothing is said of wrong and out_of_fuel
abbrev pub Halts : Kit → List Instr → Mach → Res Value → Type 0
Halts K code M (ok v s) = (k : ℕ) × ((v ≡ int_v k) × Runs K code M (ended k) (shown_only s.outs))
Halts K code M (stop wrong s) = Unit {0}
Halts K code M (stop out_of_fuel s) = Unit {0}
Halts K code M (stop no_heap s) = Runs K code M (stopped no_heap) (shown_only s.outs)
Halts K code M (stop no_stack s) = Runs K code M (stopped no_stack) (shown_only s.outs)
Halts K code M (stop no_turns s) = Runs K code M (stopped no_turns) (shown_only s.outs)

-- what the rules say of main
abbrev pub MainFn : Prog → Type 0
MainFn q = (fn : Fn) → fn_named q.funs w_main ≡ some fn → (fn.pars ≡ []) × (fn.ret ≡ int)

-- what a program's code and tables must be, and what the pools must do: to be met by what prepares a run
pub record Prepared (K : Kit) (ps : Pools) (w : ℕ → ℕ) (code : List Instr) (fns : Lexeme → Option Entry) (q : Prog) : Type 0 where
  pub sizes : Fits K
  pub pools : PoolsRight K ps w
  pub words : (k : Lexeme) (vs : Values) (i : Info) → K.info k ≡ some i → words_of q (con_v k vs) ≡ K.size (dat i.home)
  pub tables : Tables K fns code q
  pub coded : Coded K fns code q
  pub main : MainFn q
  pub halt : Suf K fns (HALT ∷ []) code

-- what the rules promise of references along the run: to be met by what is accepted
abbrev pub SteadyRun : Kit → Prog → ℕ → List ℕ → Type 0
SteadyRun K q u ins = (fn : Fn) → fn_named q.funs w_main ≡ some fn → SteadyCalls K.lent q u [] [] [] fn [] (blank ins)

-- the machine, started with nothing in use, halts as the meaning ends: with the same number or for the same want, and the same output
abbrev pub RunWords : Type 0
RunWords = (K : Kit) (code : List Instr) (fns : Lexeme → Option Entry) (q : Prog) (u : ℕ) (ins : List ℕ) (ps : Pools) (w : ℕ → ℕ) → Prepared K ps w code fns q → SteadyRun K q u ins → Halts K code (start K ps w ins) (run u K.lent q ins)
