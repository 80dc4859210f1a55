-- Programs as trees.
use Rattle.std.specs.Prelude.{List, ℕ}
use Rattle.language.specs.Base.{Lexeme}

-- int; a declared type; a box; a shared reference; a lent one, through which one may write
pub data Ty : Type 0 where
  int : Ty
  dat : Lexeme → Ty
  box : Ty → Ty
  ref : Ty → Ty
  mut : Ty → Ty

-- a number; a name; an operator (0 +, 1 -, 2 *, 3 /, 4 %, 5 ==, 6 <); C(e, ..); box e; f(e, ..); &x; &mut x; *r; get
mutual
  pub data Expr : Type 0 where
    num : ℕ → Expr
    var : Lexeme → Expr
    op : ℕ → Expr → Expr → Expr
    ctor : Lexeme → Exprs → Expr
    boxed : Expr → Expr
    call : Lexeme → Exprs → Expr
    share : Lexeme → Expr
    lend : Lexeme → Expr
    load : Lexeme → Expr
    get_e : Expr

  pub data Exprs : Type 0 where
    nil_e : Exprs
    cons_e : Expr → Exprs → Exprs

-- a match takes a value apart (take), or looks into one (view), or lets its parts be written (edit)
pub data Access : Type 0 where
  take : Access
  view : Access
  edit : Access

-- let x = e; x = e; *r = e; put e; if e {..} else {..}; while e {..}; take, view or edit x {..}; let x = open y; let x = inside y
mutual
  pub data Stmt : Type 0 where
    bind : Lexeme → Expr → Stmt
    assign : Lexeme → Expr → Stmt
    store : Lexeme → Expr → Stmt
    put_s : Expr → Stmt
    cond : Expr → Stmts → Stmts → Stmt
    loop : Expr → Stmts → Stmt
    match_s : Access → Lexeme → Alts → Stmt
    open_s : Lexeme → Lexeme → Stmt
    inside : Lexeme → Lexeme → Stmt

  pub data Stmts : Type 0 where
    nil_s : Stmts
    cons_s : Stmt → Stmts → Stmts

  -- C(x, ..) {..} for each constructor
  pub data Alts : Type 0 where
    no_alts : Alts
    alt : Lexeme → List Lexeme → Stmts → Alts → Alts

-- a function's body: statements, and what it gives
mutual
  pub data Body : Type 0 where
    body : Stmts → Tail → Body

  pub data Tail : Type 0 where
    give : Expr → Tail
    give_cond : Expr → Body → Body → Tail
    give_match : Access → Lexeme → Arms → Tail

  pub data Arms : Type 0 where
    no_arms : Arms
    arm : Lexeme → List Lexeme → Body → Arms → Arms

-- a constructor of a data type
pub record Ctor : Type 0 where
  pub name : Lexeme
  pub fields : List Ty

-- a data type; last: the function that's called when one is dropped, [] where there is none
pub record Data : Type 0 where
  pub name : Lexeme
  pub ctors : List Ctor
  pub last : Lexeme

-- a parameter
pub record Param : Type 0 where
  pub name : Lexeme
  pub ty : Ty

-- a function: its parameters, the type of what it gives, its body
pub record Fn : Type 0 where
  pub name : Lexeme
  pub pars : List Param
  pub ret : Ty
  pub does : Body

-- in the order of the text
pub record Prog : Type 0 where
  pub datas : List Data
  pub funs : List Fn
