-- Expressions: the type of each, what it moves, and the loans that its value holds.
use Rattle.std.specs.Prelude.{true, false, ◌&&◌, List, [], ◌∷◌, ◌++◌}
use Rattle.std.proofs.Math.Option.{Option, some, none}
use Rattle.language.specs.Base.{if_some, only_if}
use Rattle.language.specs.Syntax.{Ty, int, dat, box, ref, mut, Expr, num, var, op, ctor, boxed, call, share, lend, load, get_e, Exprs, nil_e, cons_e, Prog}
use Rattle.language.specs.Checks.Types.{same_ty, owned, loadable, home_of, fn_named, types_of_pars}
use Rattle.language.specs.Checks.Scopes.{Loan, loan, Var, Env, there, set_gone, all_loans, readable, is_free}

-- an expression's type, the loans that its value holds, and the names behind it
pub record Typed : Type 0 where
  pub ty : Ty
  pub loans : List Loan
  pub env : Env

abbrev pub typed : Ty → List Loan → Env → Option Typed
typed t ls g = some (record { ty = t; loans = ls; env = g })

-- it is of type t
abbrev pub with_ty : Option Typed → Ty → (List Loan → Env → Option Typed) → Option Typed
with_ty o t f = if_some o (λ r. only_if (same_ty r.ty t) (f r.loans r.env))

-- a name as a value. held: the loans of arguments that are already worked out.
-- int: it's readable. Data or box: it's free, and then moved. ref: the same loans again. mut: it's free, and lent on, alone, from this name
abbrev pub value : List Loan → Env → Var → Ty → Option Typed
value held g v int = only_if (readable (held ++ all_loans g) v.name) (typed int [] g)
value held g v (dat d) =
    only_if (is_free (held ++ all_loans g) v.name) (typed (dat d) [] (set_gone true g v.name))
value held g v (box t) =
    only_if (is_free (held ++ all_loans g) v.name) (typed (box t) [] (set_gone true g v.name))
value held g v (ref t) = only_if (readable (held ++ all_loans g) v.name) (typed (ref t) v.loans g)
value held g v (mut t) =
    only_if (is_free (held ++ all_loans g) v.name) (typed (mut t) (loan v.name true ∷ []) g)

-- &x: x readable; shared from x; of what is owned, or of what a mut was lent
abbrev pub shared : List Loan → Env → Var → Ty → Option Typed
shared held g v int =
    only_if (readable (held ++ all_loans g) v.name) (typed (ref int) (loan v.name false ∷ []) g)
shared held g v (dat d) =
    only_if (readable (held ++ all_loans g) v.name) (typed (ref (dat d)) (loan v.name false ∷ []) g)
shared held g v (box t) =
    only_if (readable (held ++ all_loans g) v.name) (typed (ref (box t)) (loan v.name false ∷ []) g)
shared held g v (ref t) = none
shared held g v (mut t) =
    only_if (readable (held ++ all_loans g) v.name) (typed (ref t) (loan v.name false ∷ []) g)

-- the loans that a call's value holds: those of all arguments, if it's a reference
abbrev pub holds : Ty → List Loan → List Loan
holds int ls = []
holds (dat d) ls = []
holds (box t) ls = []
holds (ref t) ls = ls
holds (mut t) ls = ls

abbrev mutual
  pub expr : Prog → List Loan → Env → Expr → Option Typed
  expr p held g (num n) = typed int [] g
  expr p held g (var x) = if_some (there g x) (λ v. value held g v v.ty)
  expr p held g (op o a b) =
      with_ty (expr p held g a) int (λ ls h. with_ty (expr p held h b) int (λ ms i. typed int [] i))
  expr p held g (ctor c es) =
      if_some (home_of p.datas c) (λ h.
      if_some (args p held g es h.ctor1.fields) (λ r. typed (dat h.data1.name) [] r.env))
  expr p held g (boxed a) =
      if_some (expr p held g a) (λ r. only_if (owned r.ty) (typed (box r.ty) [] r.env))
  expr p held g (call f es) =
      if_some (fn_named p.funs f) (λ k.
      if_some (args p held g es (types_of_pars k.pars)) (λ r. typed k.ret (holds k.ret r.loans) r.env))
  expr p held g (share x) = if_some (there g x) (λ v. shared held g v v.ty)
  -- &mut x: x owned and free; alone from x
  expr p held g (lend x) =
      if_some (there g x) (λ v.
      only_if (owned v.ty && is_free (held ++ all_loans g) x) (typed (mut v.ty) (loan x true ∷ []) g))
  -- *r: r readable
  expr p held g (load x) =
      if_some (there g x) (λ v. only_if (loadable v.ty && readable (held ++ all_loans g) x) (typed int [] g))
  expr p held g get_e = typed int [] g

  -- arguments from left to right; what one has as a loan is held until the call is made
  pub args : Prog → List Loan → Env → Exprs → List Ty → Option Typed
  args p held g nil_e [] = typed int [] g
  args p held g nil_e (t ∷ ts) = none
  args p held g (cons_e e es) [] = none
  args p held g (cons_e e es) (t ∷ ts) =
      with_ty (expr p held g e) t (λ ls h.
      if_some (args p (ls ++ held) h es ts) (λ r. typed int (ls ++ r.loans) r.env))
