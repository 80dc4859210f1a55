-- What is safe, by the combinators of the meaning; what every function keeps, with no fuel.
use mathlib.Core.Bool.{Bool, true, false}
use mathlib.Core.List.{List, []}
use mathlib.Core.Option.{Option, some}
use mathlib.Core.Path.{◌≡◌, refl, sym, subst}
use Prim.Native.Nat.{ℕ, zero, suc, ◌+◌}
use lib.Dec.{leb, ltb}
use lib.ListN.{length}
use Rattle.language.specs.Base.{choose}
use Rattle.language.specs.Syntax.{Prog}
use Rattle.language.specs.Checks as ch
use Rattle.language.specs.Meaning.{State, Limits, Res, then, need, turn, goes_under, with_under, eval, Stop, stop}
use Rattle.language.specs.Meaning as me
use Rattle.soundness.specs.Borrows.{LevelLoan}
use Rattle.soundness.specs.Invariant.{Entry}
use Rattle.soundness.specs.Preserved.{AfterExec, Preserved, Safe, safe_ok, safe_stop, NotWrong}
use Rattle.soundness.proofs.invariant.Flags.{Weaker, with_flags, weak_frame}

pub safe_then : {A C : Type 0} {P : A → State → Type 0} (Q : C → State → Type 0) {r : Res A} {f : A → State → Res C} → Safe P r
    → ((a : A) (s : State) → P a s → Safe Q (f a s)) → Safe Q (then r f)
unfolding then
safe_then Q (safe_ok h) k = k _ _ h
safe_then Q (safe_stop h) k = safe_stop h

pub safe_need : {A C : Type 0} (Q : C → State → Type 0) (s : State) (o : Option A) (f : A → Res C) {x : A} → o ≡ some x → Safe Q (f x)
    → Safe Q (need s o f)
unfolding need
safe_need Q s o f e h = subst (λ z. Safe Q (need s z f)) (sym e) h

pub safe_choose : {C : Type 0} (Q : C → State → Type 0) (z : Bool) {x y : Res C} → (z ≡ true → Safe Q x) → (z ≡ false → Safe Q y)
    → Safe Q (choose z x y)
safe_choose Q true f g = f refl
safe_choose Q false f g = g refl

pub safe_weaken : {A : Type 0} {P : A → State → Type 0} (Q : A → State → Type 0) {r : Res A} → Safe P r
    → ((a : A) (s : State) → P a s → Q a s) → Safe Q r
safe_weaken Q (safe_ok h) f = safe_ok (f _ _ h)
safe_weaken Q (safe_stop h) f = safe_stop h

pub ended : {A : Type 0} {P : A → State → Type 0} {a : A} {s : State} → Safe P (me.ok a s) → P a s
ended (safe_ok h) = h

pub stopped : {A : Type 0} {P : A → State → Type 0} {k : Stop} {s : State} → Safe P (stop k s) → NotWrong k
stopped (safe_stop h) = h

-- one turn more
abbrev pub turned : State → State
turned s = record { roots = s.roots; classes = s.classes; under = s.under; turns = suc s.turns; ins = s.ins; outs = s.outs }

pub safe_turn : {C : Type 0} (Q : C → State → Type 0) (m : Limits) (s : State) (f : State → Res C) → Safe Q (f (turned s)) → Safe Q (turn m s f)
unfolding turn
safe_turn Q m s f h = safe_choose Q (ltb s.turns m.max_turns) (λ _. h) (λ _. safe_stop tt)

pub safe_under : {C : Type 0} {P : C → State → Type 0} (Q : C → State → Type 0) (m : Limits) (k : ℕ) (s : State) (f : State → Res C)
    → Safe P (f (with_under s (s.under + k))) → ((a : C) (t : State) → P a t → Q a (with_under t s.under)) → Safe Q (goes_under m k s f)
unfolding goes_under
safe_under Q m k s f h g = safe_choose Q (leb (s.under + k) m.stack) (λ _. safe_then Q h (λ a t p. safe_ok (g a t p))) (λ _. safe_stop tt)

-- no fuel: that isn't wrong
pub preserved_zero : (q : Prog) (m : Limits) → Preserved q m zero
unfolding eval
preserved_zero q m = record {
  eval_ok = λ C ln held g d H F T s e r h sc w. safe_stop tt;
  evals_ok = λ C ln held g d A H F T s es us ts vs r h fl sc w. safe_stop tt;
  calls_ok = λ C A T s f vs h fl lo w. safe_stop tt;
  bodies_ok = λ C ln g d k h F T s qs t x b l e sc w. safe_stop tt;
  tails_ok = λ C ln g d F T s qs t x b l sc w. safe_stop tt;
  by_shape_ok = λ C ln g d F T s qs t w x v mm as₁ l y a1 a2 a3 a4 a5 a6 sc wo. safe_stop tt;
  execs_ok = λ C ln g g2 d F T s x e sc w. safe_stop tt;
  block_ok = λ C ln gk gh g2 k h F T s x e le sc w. safe_stop tt;
  exec_ok = λ C ln g g2 d F T s x e sc w. safe_stop tt;
  by_alt_ok = λ C ln g g2 d F T s w x v mm as₁ l y a1 a2 a3 a4 a5 sc wo. safe_stop tt;
  ends_ok = λ K N T s d nm w. safe_stop tt;
  drops_ok = λ e N T s v a w. safe_stop tt;
  lasts_ok = λ N x T s w f o e r ty wo. safe_stop tt;
  parts_ok = λ N x T s w ty wo. safe_stop tt;
  drops_all_ok = λ K N T s vs f w. safe_stop tt;
}

-- the same with more flags
pub after_weak : (q : Prog) (C : List Entry) (ln : List LevelLoan) (g h : ch.Env) (d : me.Env) (k : ℕ) (d2 : me.Env) (s : State) → Weaker g h
    → AfterExec q C ln g d k d2 s → AfterExec q C ln h d k d2 s
after_weak q C ln g h d k d2 s wk a =
    let r = weak_frame q.datas (length C) ln g h d2 [] a.F C a.T s wk a.names a.invariant in
    record { newer = a.newer; grown = a.grown; F = with_flags h a.F; T = a.T; names = r.0; invariant = r.1; under = a.under }
