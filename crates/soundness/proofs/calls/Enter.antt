-- Arguments become the names of the parameters.
use mathlib.Core.Bool.{Bool, true, false, ◌&&◌, ◌||◌, not}
use mathlib.Core.List.{List, [], ◌∷◌, ◌++◌, append_assoc}
use mathlib.Core.Logic.{inl, inr}
use mathlib.Core.Option.{Option, some}
use mathlib.Core.Path.{◌≡◌, refl, sym, ◌∙◌, ap, subst}
use Prim.Native.Nat.{ℕ, suc}
use native.Mathlib.Omega.{arith}
use lib.ListN.{length}
use Rattle.language.specs.Base.{choose, Lexeme, same, is_in, no_twice}
use Rattle.language.specs.Syntax.{Ty, Data, Param}
use Rattle.language.specs.Checks.{Var, types_of_pars, owned, look, enter, pars_env, ref_pars, names_of_pars}
use Rattle.language.specs.Checks as ch
use Rattle.language.specs.Meaning.{Value, Values, State, list_of, append, nil_v, cons_v, adds_root, roots_in, names_in, names_of}
use Rattle.language.specs.Meaning as me
use Rattle.soundness.specs.Borrows.{In, LevelLoan, loans_of}
use Rattle.soundness.specs.Trees.{Tree}
use Rattle.soundness.specs.Invariant.{Entry, Invariant}
use Rattle.soundness.specs.Frames.{KindFits, Scope, ValueEntry, all_loans_of, Arguments, no_args, snoc_arg}
use Rattle.soundness.proofs.Basics.{no_some, some_is, bool_case, true_false, and_left, and_right, or_case, same_is, same_self, in_left, in_right}
use Rattle.soundness.proofs.Basics.{not_true}
use Rattle.soundness.proofs.invariant.Top.{with_root}
use Rattle.soundness.proofs.invariant.Rooting.{root_mid}

-- names that are not twice
or_false : (x y : Bool) → (x || y) ≡ false → (x ≡ false) × (y ≡ false)
or_false true y e = absurd (true_false e)
or_false false y e = (refl, e)

same_flip : (x y : Lexeme) → same x y ≡ false → same y x ≡ false
same_flip x y e =
    elim (bool_case (same y x)) [
      | inl k ↦ absurd
          (true_false (sym (subst (λ z. same x z ≡ true) (sym (same_is y x k)) (same_self x)) ∙ e))
      | inr k ↦ k
    ]

-- the last name is not among the others
last_out : (w : Lexeme) (ps : List Param) (y : Param) → is_in w (names_of_pars (ps ++ (y ∷ []))) ≡ false
    → (is_in w (names_of_pars ps) ≡ false) × (same w y.name ≡ false)
last_out w [] y e = (refl, (or_false (same w y.name) false e).0)
last_out w (x ∷ ps) y e =
    let k = or_false (same w x.name) (is_in w (names_of_pars (ps ++ (y ∷ [])))) e in
    let r = last_out w ps y k.1 in (ap (λ z. z || is_in w (names_of_pars ps)) k.0 ∙ r.0, r.1)

last_new : (ps : List Param) (y : Param) → no_twice (names_of_pars (ps ++ (y ∷ []))) ≡ true
    → (no_twice (names_of_pars ps) ≡ true) × (is_in y.name (names_of_pars ps) ≡ false)
last_new [] y e = (refl, refl)
last_new (x ∷ ps) y e =
    let a = last_out x.name ps y (not_true (is_in x.name (names_of_pars (ps ++ (y ∷ []))))
    (and_left (not (is_in x.name (names_of_pars (ps ++ (y ∷ []))))) (no_twice (names_of_pars (ps ++ (y ∷ [])))) e)) in
    let r = last_new ps y (and_right (not (is_in x.name (names_of_pars (ps ++ (y ∷ []))))) (no_twice (names_of_pars (ps ++ (y ∷ [])))) e) in (
      ap (λ z. not z && no_twice (names_of_pars ps)) a.0 ∙ r.0,
      ap (λ z. z || is_in y.name (names_of_pars ps))
          (same_flip x.name y.name a.1) ∙ r.1,
    )

look_kept : (ps : List Param) (g : ch.Env) (y : Lexeme) → is_in y (names_of_pars ps) ≡ false → look (pars_env ps g) y ≡ look g y
look_kept [] g y e = refl
look_kept (x ∷ ps) g y e =
    let k = or_false (same y x.name) (is_in y (names_of_pars ps)) e in
    look_kept ps (enter g x.name x.ty []) y k.1 ∙ ap
    (λ z. choose z (some (record { name = x.name; ty = x.ty; gone = false; loans = [] })) (look g y)) (same_flip y x.name k.0)

-- parameters that are references have no loans of their own
pub lent_of : (ps : List Param) (g : ch.Env) → no_twice (names_of_pars ps) ≡ true → (x : Lexeme) → is_in x (ref_pars ps) ≡ true
    → (v : Var) × (look (pars_env ps g) x ≡ some v) × (v.loans ≡ []) × (owned v.ty ≡ false)
lent_of [] g nt x e = absurd (true_false (sym e))
lent_of (y ∷ ps) g nt x e = go (owned y.ty) refl e (λ k. lent_of ps (enter g y.name y.ty []) nt2 x k)
  where
    nt2 : no_twice (names_of_pars ps) ≡ true
    nt2 = and_right (not (is_in y.name (names_of_pars ps))) (no_twice (names_of_pars ps)) nt

    out : is_in y.name (names_of_pars ps) ≡ false
    out = not_true (is_in y.name (names_of_pars ps)) (and_left (not (is_in y.name (names_of_pars ps))) (no_twice (names_of_pars ps)) nt)

    v : Var
    v = record { name = y.name; ty = y.ty; gone = false; loans = [] }

    found : x ≡ y.name → look (pars_env ps (v ∷ g)) x ≡ some v
    found k =
        subst (λ z. look (pars_env ps (v ∷ g)) z ≡ some v) (sym k)
        (look_kept ps (v ∷ g) y.name out ∙ ap (λ z. choose z (some v) (look g y.name)) (same_self y.name))

    go : (o : Bool) → owned y.ty ≡ o → is_in x (choose o (ref_pars ps) (y.name ∷ ref_pars ps)) ≡ true
        → (is_in x (ref_pars ps) ≡ true → (v1 : Var) × (look (pars_env ps (v ∷ g)) x ≡ some v1) × (v1.loans ≡ []) × (owned v1.ty ≡ false))
        → (v1 : Var) × (look (pars_env ps (v ∷ g)) x ≡ some v1) × (v1.loans ≡ []) × (owned v1.ty ≡ false)
    go true ow k r = r k
    go false ow k r =
        elim (or_case (same x y.name) (is_in x (ref_pars ps)) k) [ inl j ↦ (v, found (same_is x y.name j), refl, ow) | inr j ↦ r j ]

-- one more parameter behind the others
types_last : (ps : List Param) (ts : List Ty) (t : Ty) → types_of_pars ps ≡ ts ++ (t ∷ [])
    → (qs : List Param) × (y : Param) × (ps ≡ qs ++ (y ∷ [])) × (types_of_pars qs ≡ ts) × (y.ty ≡ t)
types_last [] [] t e = absurd (let k : ◌≡◌ {A = ℕ} 0 1 = ap length e in omega arith)
types_last [] (u ∷ ts) t e = absurd (let k : 0 ≡ suc (length (ts ++ (t ∷ []))) = ap length e in omega arith)
types_last (x ∷ []) [] t e = ([], x, refl, refl, (let k : x.ty ≡ t = cc in k))
types_last (x ∷ (y ∷ ps)) [] t e = absurd (let k : suc (suc (length (types_of_pars ps))) ≡ 1 = ap length e in omega arith)
types_last (x ∷ ps) (u ∷ ts) t e =
    let k : types_of_pars ps ≡ ts ++ (t ∷ []) = cc in
    let k2 : x.ty ≡ u = cc in let r = types_last ps ts t k in (x ∷ r.0, r.1, ap (λ z. x ∷ z) r.2, (let k3 = r.3 in cc), r.4)

env_last : (ps : List Param) (y : Param) (g : ch.Env) → enter (pars_env ps g) y.name y.ty [] ≡ pars_env (ps ++ (y ∷ [])) g
env_last [] y g = refl
env_last (x ∷ ps) y g = env_last ps y (enter g x.name x.ty [])

names_last : (ps : List Param) (y : Param) → names_of ps ++ (y.name ∷ []) ≡ names_of (ps ++ (y ∷ []))
names_last [] y = refl
names_last (x ∷ ps) y = ap (λ z. x.name ∷ z) (names_last ps y)

list_last : (vs : Values) (v : Value) → list_of vs ++ (v ∷ []) ≡ list_of (append vs v)
list_last nil_v v = refl
list_last (cons_v x xs) v = ap (λ z. x ∷ z) (list_last xs v)

roots_last : (s : State) (vs : Values) (v : Value) → roots_in s (list_of (append vs v)) ≡ adds_root (roots_in s (list_of vs)) v 0
roots_last s nil_v v = refl
roots_last s (cons_v x xs) v = roots_last (adds_root s x 0) xs v

in_last : (g g1 : me.Env) (s : State) (xs : List Lexeme) (vs : List Value) (x : Lexeme) (v : Value) → names_in g s xs vs ≡ some g1
    → names_in g s (xs ++ (x ∷ [])) (vs ++ (v ∷ [])) ≡ some (record { name = x; root = length (roots_in s vs).roots } ∷ g1)
in_last g g1 s [] [] x v e = ap {B = Option me.Env} (λ z. some (record { name = x; root = length s.roots } ∷ z)) (some_is e)
in_last g g1 s [] (w ∷ vs) x v e = absurd (no_some e)
in_last g g1 s (y ∷ xs) [] x v e = absurd (no_some e)
in_last g g1 s (y ∷ xs) (w ∷ vs) x v e = in_last (record { name = y; root = length s.roots } ∷ g) g1 (adds_root s w 0) xs vs x v e

-- arguments become names, under the entries X that are still in flight
pub record Entered (ds : List Data) (X C : List Entry) (ln : List LevelLoan) (T : List Tree) (s : State) (ps : List Param)
    (vs : Values) : Type 0 where
  pub env : me.Env
  pub F : List Entry
  pub named : names_in [] s (names_of ps) (list_of vs) ≡ some env
  pub names : Scope (length C) ln (pars_env ps []) env F
  pub invariant : Invariant ds (X ++ (F ++ C)) T (roots_in s (list_of vs))

entered_one : (ds : List Data) (X C : List Entry) (ln : List LevelLoan) (T : List Tree) (s : State) (qs : List Param) (y : Param) (vs1 : Values)
    (e1 : Entry) (t : Ty) (v : Value) → y.ty ≡ t → ValueEntry v t e1 → is_in y.name (names_of_pars qs) ≡ false
    → ((l : LevelLoan) → In l (loans_of e1.kind) → In l ln) → Entered ds (X ++ (e1 ∷ [])) C ln T s qs vs1
    → Entered ds X C ln T s (qs ++ (y ∷ [])) (append vs1 v)
entered_one ds X C ln T s qs y vs1 e1 t v t_is fg out low h = record {
  env = record { name = y.name; root = r } ∷ h.env;
  F = with_root e1 r ∷ h.F;
  named =
      subst (λ z. names_in [] s z (list_of (append vs1 v)) ≡ some (record { name = y.name; root = r } ∷ h.env)) (names_last qs y)
      (subst (λ z. names_in [] s (names_of qs ++ (y.name ∷ [])) z ≡ some (record { name = y.name; root = r } ∷ h.env)) (list_last vs1 v)
      (in_last [] h.env s (names_of qs) (list_of vs1) y.name v h.named));
  names = subst (λ z. Scope (length C) ln z (record { name = y.name; root = r } ∷ h.env) (with_root e1 r ∷ h.F)) (env_last qs y []) (
    record {
      name = refl;
      place = refl;
      flag = fg.flag;
      type = subst (λ z. KindFits z e1.kind) (sym t_is) fg.type;
      loans = λ l i. inl (low l i);
      fresh = look_kept qs [] y.name out;
    },
    h.names,
  );
  invariant =
      subst (Invariant ds (X ++ (with_root e1 r ∷ (h.F ++ C))) T) (sym (roots_last s vs1 v))
      (root_mid ds X e1 v (h.F ++ C) T (roots_in s (list_of vs1)) fg.place w2);
}
  where
    r : ℕ
    r = length (roots_in s (list_of vs1)).roots

    w2 : Invariant ds (X ++ (e1 ∷ (h.F ++ C))) T (roots_in s (list_of vs1))
    w2 = subst (λ z. Invariant ds z T (roots_in s (list_of vs1))) (append_assoc X (e1 ∷ []) (h.F ++ C)) h.invariant

pub entered : (ds : List Data) (X C : List Entry) (ln : List LevelLoan) (T : List Tree) (s : State) (ps : List Param) (A : List Entry) (ts : List Ty)
    (vs : Values) → Arguments A ts vs → types_of_pars ps ≡ ts → no_twice (names_of_pars ps) ≡ true
    → ((l : LevelLoan) → In l (all_loans_of A) → In l ln) → Invariant ds (X ++ (A ++ C)) T s → Entered ds X C ln T s ps vs
entered ds X C ln T s [] [] [] nil_v no_args e nt low w = record { env = []; F = []; named = refl; names = tt; invariant = w }
entered ds X C ln T s (x ∷ ps) [] [] nil_v no_args e nt low w = absurd (let k : suc (length (types_of_pars ps)) ≡ 0 = ap length e in omega arith)
entered ds X C ln T s ps A ts vs (snoc_arg {A = A1} {ts = ts1} {vs = vs1} e1 t v fl fg) e nt low w =
    let sp = types_last ps ts1 t e in
    let nt2 = last_new sp.0 sp.1 (subst (λ z. no_twice (names_of_pars z) ≡ true) sp.2 nt) in
    let h = entered ds (X ++ (e1 ∷ [])) C ln T s sp.0 A1 ts1 vs1 fl sp.3 nt2.0
    (λ l i. low l (in_right l (loans_of e1.kind) (all_loans_of A1) i))
    (subst (λ z. Invariant ds z T s) (sym (append_assoc X (e1 ∷ []) (A1 ++ C))) w) in
    subst (λ z. Entered ds X C ln T s z (append vs1 v)) (sym sp.2)
    (entered_one ds X C ln T s sp.0 sp.1 vs1 e1 t v sp.4 fg nt2.1
    (λ l i. low l (in_left l (loans_of e1.kind) (all_loans_of A1) i)) h)
