-- The rules of expressions read backwards: what an accepted one says of its parts.
use mathlib.Core.Bool.{true, ◌&&◌}
use mathlib.Core.List.{List, [], ◌∷◌, ◌++◌}
use mathlib.Core.Option.{some}
use mathlib.Core.Path.{◌≡◌}
use Prim.Native.Nat.{ℕ}
use native.Mathlib.Omega.{arith}
use Rattle.language.specs.Base.{Lexeme}
use Rattle.language.specs.Syntax.{Ty, int, dat, box, mut, Expr, op, ctor, boxed, call, lend, load, Exprs, cons_e, Fn, Prog}
use Rattle.language.specs.Checks.{Loan, Var, Env, Typed, Home, loan, there, owned, loadable, is_free, all_loans, holds, types_of_pars, home_of}
use Rattle.language.specs.Checks.{fn_named, typed, expr, args}
use Rattle.soundness.proofs.Basics.{only_is, if_some_is, and_left, and_right}
use Rattle.soundness.proofs.statics.Rules.{same_ty_is, with_ty_is}

-- d o e
pub record OpRule (q : Prog) (held : List Loan) (g : Env) (a d : Expr) (r : Typed) : Type 0 where
  pub left : Typed
  pub right : Typed
  pub is_left : expr q held g a ≡ some left
  pub left_int : left.ty ≡ int
  pub is_right : expr q held left.env d ≡ some right
  pub right_int : right.ty ≡ int
  pub behind : typed int [] right.env ≡ some r

pub op_rule : (q : Prog) (held : List Loan) (g : Env) (o : ℕ) (a d : Expr) (r : Typed) → expr q held g (op o a d) ≡ some r → OpRule q held g a d r
op_rule q held g o a d r k = grind (arith, same_ty_is)

-- C(..)
pub record CtorRule (q : Prog) (held : List Loan) (g : Env) (c : Lexeme) (es : Exprs) (r : Typed) : Type 0 where
  pub home : Home
  pub fields : Typed
  pub is_home : home_of q.datas c ≡ some home
  pub is_args : args q held g es home.ctor1.fields ≡ some fields
  pub behind : typed (dat home.data1.name) [] fields.env ≡ some r

pub ctor_rule : (q : Prog) (held : List Loan) (g : Env) (c : Lexeme) (es : Exprs) (r : Typed) → expr q held g (ctor c es) ≡ some r
    → CtorRule q held g c es r
ctor_rule q held g c es r k =
    let a = if_some_is (home_of q.datas c) _ r k in
    let d = if_some_is (args q held g es a.0.ctor1.fields) _ r a.2 in
    record { home = a.0; fields = d.0; is_home = a.1; is_args = d.1; behind = d.2 }

-- box e
pub record BoxedRule (q : Prog) (held : List Loan) (g : Env) (e : Expr) (r : Typed) : Type 0 where
  pub content : Typed
  pub is_expr : expr q held g e ≡ some content
  pub is_owned : owned content.ty ≡ true
  pub behind : typed (box content.ty) [] content.env ≡ some r

pub boxed_rule : (q : Prog) (held : List Loan) (g : Env) (e : Expr) (r : Typed) → expr q held g (boxed e) ≡ some r → BoxedRule q held g e r
boxed_rule q held g e r k = grind arith

-- f(..): what it gives holds the loans of all arguments
pub record CallRule (q : Prog) (held : List Loan) (g : Env) (f : Lexeme) (es : Exprs) (r : Typed) : Type 0 where
  pub callee : Fn
  pub arguments : Typed
  pub is_fn : fn_named q.funs f ≡ some callee
  pub is_args : args q held g es (types_of_pars callee.pars) ≡ some arguments
  pub behind : typed callee.ret (holds callee.ret arguments.loans) arguments.env ≡ some r

pub call_rule : (q : Prog) (held : List Loan) (g : Env) (f : Lexeme) (es : Exprs) (r : Typed) → expr q held g (call f es) ≡ some r
    → CallRule q held g f es r
call_rule q held g f es r k =
    let a = if_some_is (fn_named q.funs f) _ r k in
    let d = if_some_is (args q held g es (types_of_pars a.0.pars)) _ r a.2 in
    record { callee = a.0; arguments = d.0; is_fn = a.1; is_args = d.1; behind = d.2 }

-- &mut x
pub record LendRule (held : List Loan) (g : Env) (x : Lexeme) (r : Typed) : Type 0 where
  pub var1 : Var
  pub is_there : there g x ≡ some var1
  pub is_owned : owned var1.ty ≡ true
  pub free : is_free (held ++ all_loans g) x ≡ true
  pub behind : typed (mut var1.ty) (loan x true ∷ []) g ≡ some r

pub lend_rule : (q : Prog) (held : List Loan) (g : Env) (x : Lexeme) (r : Typed) → expr q held g (lend x) ≡ some r → LendRule held g x r
lend_rule q held g x r k =
    let a = if_some_is (there g x) _ r k in
    let d = only_is (owned a.0.ty && is_free (held ++ all_loans g) x) _ r a.2 in
    record { var1 = a.0; is_there = a.1; is_owned = and_left _ _ d.0; free = and_right (owned a.0.ty) _ d.0; behind = d.1 }

-- *x (that x is readable isn't needed here)
pub record LoadRule (held : List Loan) (g : Env) (x : Lexeme) (r : Typed) : Type 0 where
  pub var1 : Var
  pub is_there : there g x ≡ some var1
  pub is_loadable : loadable var1.ty ≡ true
  pub behind : typed int [] g ≡ some r

pub load_rule : (q : Prog) (held : List Loan) (g : Env) (x : Lexeme) (r : Typed) → expr q held g (load x) ≡ some r → LoadRule held g x r
load_rule q held g x r k =
    let a = if_some_is (there g x) _ r k in
    let d = only_is _ (typed int [] g) r a.2 in
    record { var1 = a.0; is_there = a.1; is_loadable = and_left (loadable a.0.ty) _ d.0; behind = d.1 }

-- one argument, then the others, which hold what it holds
pub record ArgsRule (q : Prog) (held : List Loan) (g : Env) (e : Expr) (es : Exprs) (t : Ty) (ts : List Ty) (r : Typed) : Type 0 where
  pub first : Typed
  pub others : Typed
  pub is_first : expr q held g e ≡ some first
  pub first_type : first.ty ≡ t
  pub is_others : args q (first.loans ++ held) first.env es ts ≡ some others
  pub behind : typed int (first.loans ++ others.loans) others.env ≡ some r

pub args_rule : (q : Prog) (held : List Loan) (g : Env) (e : Expr) (es : Exprs) (t : Ty) (ts : List Ty) (r : Typed)
    → args q held g (cons_e e es) (t ∷ ts) ≡ some r → ArgsRule q held g e es t ts r
args_rule q held g e es t ts r k =
    let a = with_ty_is (expr q held g e) t _ r k in
    let d = if_some_is (args q (a.0.loans ++ held) a.0.env es ts) _ r a.3 in
    record { first = a.0; others = d.0; is_first = a.1; first_type = a.2; is_others = d.1; behind = d.2 }
