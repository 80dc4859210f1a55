-- What is asked can be met: a program that gives 7 is prepared and steady, and the machine runs to 7.
use mathlib.Core.Path.{◌≡◌, refl, ap, subst, ◌∙◌}
use mathlib.Core.Bool.{Bool, true, false}
use mathlib.Core.List.{List, [], ◌∷◌, ◌++◌}
use mathlib.Core.Option.{Option, some, none}
use Prim.Native.Nat.{ℕ}
use native.Mathlib.Omega.{arith}
use lib.Dec.{leb}
use Rattle.language.specs.Base.{Lexeme, choose, same}
use Rattle.language.specs.Syntax.{int, num, nil_s, body, give, Fn, Prog}
use Rattle.language.specs.Checks.{fn_named, w_main}
use Rattle.language.specs.Meaning.{Class, peaks, count_in, int_v, State, Res, ok, Env, newer, blank, then, need, turn, goes_under, eval, run}
use Rattle.simulation.specs.Borrows.{add_loc, SteadyCalls, SteadyEnds}
use Rattle.simulation.specs.Machine.{Kit, Place, Pools, Instr, MAIN, HALT, ended, Runs}
use Rattle.simulation.specs.Lowering.{Entry, code_fn, same1, later}
use Rattle.simulation.specs.Pooling.{InUse, at_first, words_same, one_taken, one_given}
use Rattle.simulation.specs.Fitting.{CodedFn}
use Rattle.simulation.specs.Says.{start, Halts, Prepared, SteadyRun}
use Rattle.simulation.proofs.Top.{run_words}
use Rattle.simulation.proofs.Memory.{no_some, some_is}

abbrev no_pools : Pools
no_pools = record { heads = []; top = 0 }

abbrev gives_7 : Fn
gives_7 = record { name = w_main; pars = []; ret = int; does = body nil_s (give (num 7)) }

abbrev small : Prog
small = record { datas = []; funs = gives_7 ∷ [] }

abbrev sigs : Lexeme → Option Entry
sigs f = some (record { pars = []; ret = int })

abbrev kit : ℕ → ℕ → Kit
kit stack turns = record {
  info = λ k. none;
  size = λ t. 1;
  ent = λ e. none;
  first_of = λ d t. 0;
  last = λ d. none;
  entry = λ f. 5;
  frame = λ f. 88;
  resume = λ d. 0;
  lent = record { heap = 0; stack = stack; max_turns = turns };
  take = λ ps w z. none;
  give = λ ps a z. ps;
  link = λ ps a z w. w;
}

abbrev code7 : ℕ → ℕ → List Instr
code7 stack turns = code_fn (kit stack turns) sigs gives_7 (MAIN w_main ∷ HALT ∷ [])

module _ (stack turns : ℕ) (ps : Pools) (w : ℕ → ℕ) where
  no_cons : {A : Type 0} (xs ys : List A) (y : A) → xs ++ (y ∷ ys) ≡ [] → ⊥
  no_cons [] ys y e = let z : ◌≡◌ {A = ℕ} 0 1 = cc in omega arith
  no_cons (x ∷ xs) ys y e = let z : ◌≡◌ {A = ℕ} 0 1 = cc in omega arith

  nothing_used : {ps2 : Pools} {w2 : ℕ → ℕ} {cs : List Class} {us : List Place} → InUse (kit stack turns) ps w ps2 w2 cs us → (cs ≡ []) × (us ≡ [])
  nothing_used at_first = (refl, refl)
  nothing_used (words_same h f) = nothing_used h
  nothing_used (one_taken t x h e) = absurd (no_some e)
  nothing_used (one_given xs ys a t h) = absurd (no_cons xs ys _ (nothing_used h).1)

  only_main : (f : Lexeme) (fn : Fn) → fn_named (gives_7 ∷ []) f ≡ some fn → gives_7 ≡ fn
  only_main f fn e = by (same w_main f) e
    where
      by : (t : Bool) → choose t (some gives_7) none ≡ some fn → gives_7 ≡ fn
      by true d = some_is d
      by false d = absurd (no_some d)

  pub prepared : Prepared (kit stack turns) ps w (code7 stack turns) sigs small
  prepared = record {
    sizes = record { some_word = λ t. omega arith; inside = λ k i e. absurd (no_some e); one_int = refl; one_box = λ t. refl; one_ref = λ t. refl; one_mut = λ t. refl };
    pools = record { refused = λ ps2 w2 cs us t h e. ap (λ (c : List Class). leb (peaks (count_in c 1)) 0) (nothing_used h).0; fits = λ ps2 w2 cs us t x h e. absurd (no_some e); within = λ ps2 w2 cs us t x h e. absurd (no_some e); apart = λ ps2 w2 cs us t x h e. absurd (no_some e); link_at = λ ps2 w2 a t j n1. refl };
    words = λ k vs i e. absurd (no_some e);
    tables = record { run = λ k m e. absurd (no_some e); first = λ k m e. absurd (no_some e); own = λ k m e. absurd (no_some e); tags = λ c k i m e. absurd (no_some e); plain = λ k m h e. absurd (no_some e); last = λ k m h e. absurd (no_some e) };
    coded = λ f fn e. subst (λ (x : Fn). CodedFn (kit stack turns) sigs (code7 stack turns) small f x) (only_main f fn e)
        (record { rest = MAIN w_main ∷ HALT ∷ []; at = refl; suf = same1; words = refl; fit = (omega arith, (omega arith, omega arith, refl), omega arith); sig = refl });
    main = λ fn e. subst (λ (x : Fn). (x.pars ≡ []) × (x.ret ≡ int)) (only_main w_main fn e) (refl, refl);
    halt = later (later (later (later same1)));
  }

pub steady : (stack turns : ℕ) (ins : List ℕ) → SteadyRun (kit stack turns) small 4 ins
unfolding eval
steady stack turns ins fn e = subst (λ (x : Fn). SteadyCalls (kit stack turns).lent small 4 [] [] [] x [] (blank ins)) (only_main stack turns no_pools (λ j. 0) w_main fn e)
    (λ g eg. (tt, λ i z ei. (tt, λ v y ev. (let e1 : [] ≡ g = some_is eg in let e2 : g ≡ i = same_ok ei in subst (λ (k : Env). SteadyEnds (kit stack turns).lent small 2 [] [] (add_loc v []) (newer k []) y) (e1 ∙ e2) tt))))
  where
    same_ok : {a c : Env} {s t : State} → ◌≡◌ {A = Res Env} (ok a s) (ok c t) → a ≡ c
    same_ok e = cc

-- the machine runs to its end: 7, and nothing was shown
pub seven : (ps : Pools) (w : ℕ → ℕ) → Runs (kit 88 1) (code7 88 1) (start (kit 88 1) ps w []) (ended 7) []
unfolding eval then need turn goes_under
seven ps w = let r : Halts (kit 88 1) (code7 88 1) (start (kit 88 1) ps w []) (run 4 (kit 88 1).lent small []) = run_words (kit 88 1) (code7 88 1) sigs small 4 [] ps w (prepared 88 1 ps w) (steady 88 1 []) in
    let e : int_v 7 ≡ int_v r.0 = r.1.0 in let q1 : r.0 ≡ 7 = cc in subst (λ (k : ℕ). Runs (kit 88 1) (code7 88 1) (start (kit 88 1) ps w []) (ended k) []) q1 r.1.1
