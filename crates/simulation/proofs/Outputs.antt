-- A machine whose output has room for so many: what it does, from what the one without a limit does.
use mathlib.Core.Path.{◌≡◌, refl, ap, subst, ◌∙◌}
use mathlib.Core.Bool.{Bool, true, false}
use mathlib.Core.List.{List, [], ◌∷◌, ◌++◌, append_assoc}
use mathlib.Core.Option.{Option, some, none}
use mathlib.Core.Logic.{◌⊎◌, inl, inr}
use Prim.Native.Nat.{ℕ, ◌+◌, ◌≤◌}
use lib.ListN.{length}
use lib.Dec.{eqb, ltb, leb}
use Rattle.language.specs.Base.{Lexeme, choose, from_option}
use Rattle.language.specs.Syntax.{Ty, int, dat, box, ref, mut}
pub use Rattle.simulation.specs.Outputs.{Capped, c_halts, c_goes, Full, f_here, f_goes, Over}
use Rattle.simulation.proofs.Machine.{Kit, Taken, Instr, NUM, COPY, MOVE, OP, BOX, ADDR, LOAD, GET, TURN, ASSIGN, STORE, PADDR, PART, JTAG, OPEN, PUT, JZ, JMP, END, CALL, RESULT, RETURN, RESUME, MAIN, HALT, STUCK, Mode, running, dropping, tagged, fields, whole, Mach, Next, go, halt, Outcome, enters, does, drop_step, run_step, mode_step, step, Runs, halts, goes}
use Rattle.simulation.proofs.WordOps.{leb_says, leb_denies}

-- a step only adds to what was shown
abbrev pub Adds : Mach → Next → Type 0
Adds M (go N) = (xs : List ℕ) × (N.outs ≡ M.outs ++ xs)
Adds M (halt x os) = os ≡ M.outs

nothing : (xs : List ℕ) → xs ≡ xs ++ []
nothing [] = refl
nothing (x ∷ xs) = ap (λ z. x ∷ z) (nothing xs)

either : (M : Mach) (t : Bool) (x y : Next) → Adds M x → Adds M y → Adds M (choose t x y)
either M true x y a e = a
either M false x y a e = e

maybe : (M : Mach) (o : Option Taken) (x : Next) (f : Taken → Next) → Adds M x → ((t : Taken) → Adds M (f t)) → Adds M (from_option o x f)
maybe M none x f a e = a
maybe M (some t) x f a e = e t

enters_adds : (K : Kit) (code : List Instr) (M : Mach) (back1 res e1 e2 e3 : ℕ) (f : Lexeme) (r : ℕ) (ts : List Ty) (a : ℕ) → Adds M (enters K code M back1 res e1 e2 e3 f r ts a)
enters_adds K code M back1 res e1 e2 e3 f r ts a = either M (ltb M.turns K.lent.max_turns) _ _ (either M (leb (M.sp + K.frame f) K.lent.stack) _ _ ([], nothing M.outs) refl) refl

does_adds : (K : Kit) (code : List Instr) (i : Instr) (is : List Instr) (M : Mach) → Adds M (does K code i is M)
does_adds K code (NUM h x) is M = ([], nothing M.outs)
does_adds K code (COPY h f) is M = ([], nothing M.outs)
does_adds K code (MOVE h f z) is M = ([], nothing M.outs)
does_adds K code (OP h o) is M = ([], nothing M.outs)
does_adds K code (BOX h z) is M = maybe M (K.take M.pool M.words z) _ _ refl (λ t. ([], nothing M.outs))
does_adds K code (ADDR h f) is M = ([], nothing M.outs)
does_adds K code (LOAD h f) is M = ([], nothing M.outs)
does_adds K code (GET h) is M = ([], nothing M.outs)
does_adds K code TURN is M = either M (ltb M.turns K.lent.max_turns) _ _ ([], nothing M.outs) refl
does_adds K code (ASSIGN f h t) is M = ([], nothing M.outs)
does_adds K code (STORE f h t) is M = ([], nothing M.outs)
does_adds K code (PADDR h f o) is M = ([], nothing M.outs)
does_adds K code (PART h f o z) is M = ([], nothing M.outs)
does_adds K code (JTAG h x j) is M = ([], nothing M.outs)
does_adds K code (OPEN h f z) is M = ([], nothing M.outs)
does_adds K code (PUT h) is M = (M.words (M.fb + h) ∷ [], refl)
does_adds K code (JZ h j) is M = ([], nothing M.outs)
does_adds K code (JMP j) is M = ([], nothing M.outs)
does_adds K code (END f t) is M = ([], nothing M.outs)
does_adds K code (CALL h f ts r) is M = enters_adds K code M (length is) (M.fb + h) 0 0 0 f r ts (M.fb + h)
does_adds K code (RESULT h z) is M = ([], nothing M.outs)
does_adds K code (RETURN z) is M = ([], nothing M.outs)
does_adds K code (RESUME d) is M = ([], nothing M.outs)
does_adds K code (MAIN f) is M = enters_adds K code M (length is) (K.lent.heap + M.sp + 2) 0 0 0 f 1 [] 0
does_adds K code HALT is M = refl
does_adds K code STUCK is M = refl

last_adds : (K : Kit) (M : Mach) (o : Option Lexeme) (x : Next) (f : Lexeme → Next) → Adds M x → ((l : Lexeme) → Adds M (f l)) → Adds M (from_option o x f)
last_adds K M none x f a e = a
last_adds K M (some l) x f a e = e l

drop_adds : (K : Kit) (code : List Instr) (a : ℕ) (t : Ty) (pe : ℕ) (M : Mach) → Adds M (drop_step K code a t pe M)
drop_adds K code a int pe M = ([], nothing M.outs)
drop_adds K code a (dat d) pe M = last_adds K M (K.last d) _ _ ([], nothing M.outs) (λ f. enters_adds K code M (K.resume d) (K.lent.heap + M.sp + 2) a pe (length M.ctl) f 1 (mut (dat d) ∷ []) (K.lent.heap + M.sp + 4))
drop_adds K code a (box t) pe M = either M (leb (M.sp + 8) K.lent.stack) _ _ ([], nothing M.outs) refl
drop_adds K code a (ref t) pe M = ([], nothing M.outs)
drop_adds K code a (mut t) pe M = ([], nothing M.outs)

run_adds : (K : Kit) (code is : List Instr) (M : Mach) → Adds M (run_step K code is M)
run_adds K code [] M = refl
run_adds K code (i ∷ is) M = does_adds K code i is M

mode_adds : (K : Kit) (code : List Instr) (o : Mode) (M : Mach) → Adds M (mode_step K code o M)
mode_adds K code running M = run_adds K code M.ctl M
mode_adds K code (dropping a t pe) M = drop_adds K code a t pe M
mode_adds K code (tagged a d pe) M = ([], nothing M.outs)
mode_adds K code (fields a e) M = ([], nothing M.outs)
mode_adds K code whole M = either M (eqb M.sp M.full) _ _ ([], nothing M.outs) ([], nothing M.outs)

pub step_adds : (K : Kit) (code : List Instr) (M : Mach) → Adds M (step K code M)
unfolding step
step_adds K code M = mode_adds K code M.mode M

pub runs_adds : {K : Kit} {code : List Instr} {M : Mach} {x : Outcome} {os : List ℕ} → Runs K code M x os → (xs : List ℕ) × (os ≡ M.outs ++ xs)
runs_adds {K} {code} (halts {M = M} e) = ([], subst (λ n1. Adds M n1) e (step_adds K code M) ∙ nothing M.outs)
runs_adds {K} {code} (goes {M = M} e r) = let a = subst (λ n1. Adds M n1) e (step_adds K code M) in let c1 = runs_adds r in (a.0 ++ c1.0, c1.1 ∙ (ap (λ z. z ++ c1.0) a.1 ∙ append_assoc M.outs a.0 c1.0))

pub capped : {K : Kit} {code : List Instr} (cap : ℕ) {M : Mach} {x : Outcome} {os : List ℕ} → Runs K code M x os → Capped K code cap M x os ⊎ Over K code cap M os
capped cap (halts e) = inl (c_halts e)
capped {K} {code} cap (goes {M = M} {N = N} {x = x} {os = os} e r) = by (leb (length N.outs) cap) refl (capped cap r)
  where
    on : length N.outs ≤ cap → Capped K code cap N x os ⊎ Over K code cap N os → Capped K code cap M x os ⊎ Over K code cap M os
    on h (inl c1) = inl (c_goes e h c1)
    on h (inr o) = inr (record { shown = o.shown; rest = o.rest; full = f_goes e h o.full; more = o.more; front = o.front })

    by : (t : Bool) → leb (length N.outs) cap ≡ t → Capped K code cap N x os ⊎ Over K code cap N os → Capped K code cap M x os ⊎ Over K code cap M os
    by true q1 z = on (leb_says (length N.outs) cap q1) z
    by false q1 z = let a = runs_adds r in let h = leb_denies (length N.outs) cap q1 in inr (record { shown = N.outs; rest = a.0; full = f_here e h; more = h; front = a.1 })

pub output_limited : Rattle.simulation.specs.Outputs.OutputLimited
output_limited K code cap M x os r = capped cap r
