-- Statements: the names behind each.
use Rattle.std.specs.Prelude.{Bool, true, false, ◌&&◌, List, [], ◌∷◌, length, leb}
use Rattle.std.proofs.Math.Option.{Option, some, none}
use Rattle.language.specs.Base.{choose, if_some, only_if, each_of, Lexeme, is_in, no_twice}
use Rattle.language.specs.Syntax.{Ty, int, dat, box, ref, mut, Access, take, view, edit, Stmt, bind, assign, store, put_s, cond, loop, match_s, open_s, inside, Stmts, nil_s, cons_s, Alts, no_alts, alt, Arms, no_arms, arm, Data, Prog}
use Rattle.language.specs.Checks.Types.{same_ty, owned, boxed_in, ctor_named, names_of_ctors, data_named, data_of}
use Rattle.language.specs.Checks.Scopes.{Loan, loan, Var, Env, look, fresh, there, set_gone, enter, all_loans, readable, is_free, outer, both, no_more_gone}
use Rattle.language.specs.Checks.Expressions.{Typed, expr}

-- a number is asked for
abbrev pub as_int : Option Typed → (Env → Option Env) → Option Env
as_int o f = if_some o (λ r. only_if (same_ty r.ty int) (f r.env))

-- *r = e, with e of type t: r is a mut of that, which is owned, and free
abbrev pub stores : Env → Lexeme → Ty → Ty → Option Env
stores g x t int = none
stores g x t (dat d) = none
stores g x t (box u) = none
stores g x t (ref u) = none
stores g x t (mut u) = only_if (owned u && (same_ty t u && is_free (all_loans g) x)) (some g)

-- let x = inside y: y a ref of a box, then x has its loans; or a mut of one, and free, then x has y alone
abbrev pub goes_in : Env → Var → Lexeme → Ty → Option Env
goes_in g v x int = none
goes_in g v x (dat d) = none
goes_in g v x (box t) = none
goes_in g v x (ref t) =
    if_some (boxed_in t) (λ u. only_if (readable (all_loans g) v.name) (some (enter g x (ref u) v.loans)))
goes_in g v x (mut t) =
    if_some (boxed_in t) (λ u. only_if (is_free (all_loans g) v.name) (some (enter g x (mut u) (loan v.name true ∷ []))))

-- a part's type in a pattern
abbrev pub ref_of : Access → Ty → Ty
ref_of take t = t
ref_of view t = ref t
ref_of edit t = mut t

-- the names that a pattern binds: with what types and loans
abbrev pub bind_all : Access → List Loan → Env → List Lexeme → List Ty → Option Env
bind_all w ls g [] [] = some g
bind_all w ls g [] (t ∷ ts) = none
bind_all w ls g (x ∷ xs) [] = none
bind_all w ls g (x ∷ xs) (t ∷ ts) = only_if (fresh g x) (bind_all w ls (enter g x (ref_of w t) ls) xs ts)

-- what is matched, in which way: its data, the loans of its parts, and the names behind
pub record Matched : Type 0 where
  pub data1 : Data
  pub loans : List Loan
  pub env : Env

abbrev pub matched : Option Data → List Loan → Env → Option Matched
matched o ls g = if_some o (λ d. some (record { data1 = d; loans = ls; env = g }))

-- take x: data, free, and then moved. view x: readable; its parts are shared from x, or have x's loans if x is a ref.
-- edit x: data or a mut of it, and free; its parts have x alone
abbrev pub looks_at : Prog → Env → Var → Access → Ty → Option Matched
looks_at p g v take (dat d) =
    only_if (is_free (all_loans g) v.name) (matched (data_named p.datas d) [] (set_gone true g v.name))
looks_at p g v take int = none
looks_at p g v take (box t) = none
looks_at p g v take (ref t) = none
looks_at p g v take (mut t) = none
looks_at p g v view int = none
looks_at p g v view (dat d) =
    only_if (readable (all_loans g) v.name) (matched (data_named p.datas d) (loan v.name false ∷ []) g)
looks_at p g v view (box t) = none
looks_at p g v view (ref t) = only_if (readable (all_loans g) v.name) (matched (data_of p t) v.loans g)
looks_at p g v view (mut t) =
    only_if (readable (all_loans g) v.name) (matched (data_of p t) (loan v.name false ∷ []) g)
looks_at p g v edit int = none
looks_at p g v edit (dat d) =
    only_if (is_free (all_loans g) v.name) (matched (data_named p.datas d) (loan v.name true ∷ []) g)
looks_at p g v edit (box t) = none
looks_at p g v edit (ref t) = none
looks_at p g v edit (mut t) =
    only_if (is_free (all_loans g) v.name) (matched (data_of p t) (loan v.name true ∷ []) g)

abbrev pub alt_names : Alts → List Lexeme
alt_names no_alts = []
alt_names (alt c xs ss as₁) = c ∷ alt_names as₁

abbrev pub arm_names : Arms → List Lexeme
arm_names no_arms = []
arm_names (arm c xs b as₁) = c ∷ arm_names as₁

-- each constructor once, in any order
abbrev pub covers : Data → List Lexeme → Bool
covers d cs =
    no_twice cs && (each_of (λ c. is_in c cs) (names_of_ctors d.ctors) && leb (length cs) (length d.ctors))

abbrev pub is_no_alts : Alts → Bool
is_no_alts no_alts = true
is_no_alts (alt c xs ss as₁) = false

abbrev mutual
  pub stmt : Prog → Env → Stmt → Option Env
  -- let x = e: x is new, and takes the value's loans
  stmt p g (bind x e) =
      if_some (expr p [] g e) (λ r. only_if (fresh r.env x) (some (enter r.env x r.ty r.loans)))
  -- x = e: x owned, and free behind e; then it's there again
  stmt p g (assign x e) =
      if_some (expr p [] g e) (λ r. if_some (look r.env x) (λ v.
      only_if (owned v.ty && (same_ty r.ty v.ty && is_free (all_loans r.env) x)) (some (set_gone false r.env x))))
  stmt p g (store x e) =
      if_some (expr p [] g e) (λ r. if_some (there r.env x) (λ v. stores r.env x r.ty v.ty))
  stmt p g (put_s e) = as_int (expr p [] g e) (λ h. some h)
  -- what one of the two ways may have moved may have been
  stmt p g (cond e a b) =
      as_int (expr p [] g e) (λ h. if_some (stmts p h a) (λ i. if_some (stmts p h b) (λ j. some (both (outer h i) (outer h j)))))
  -- what a round moves, of what was there before its test, it puts back; what the last test moves stays moved
  stmt p g (loop e a) =
      as_int (expr p [] g e) (λ h. if_some (stmts p h a) (λ i. only_if (no_more_gone g (outer h i)) (some h)))
  stmt p g (match_s w x as₁) =
      if_some (there g x) (λ v. if_some (looks_at p g v w v.ty) (λ m.
      only_if (covers m.data1 (alt_names as₁)) (alts p m.env w m.loans m.data1 as₁)))
  -- let x = open y: y a box, free, and then moved; x owns what was in it
  stmt p g (open_s x y) =
      if_some (there g y) (λ v. if_some (boxed_in v.ty) (λ t.
      only_if (fresh g x && is_free (all_loans g) y) (some (enter (set_gone true g y) x t []))))
  stmt p g (inside x y) = only_if (fresh g x) (if_some (there g y) (λ v. goes_in g v x v.ty))

  pub stmts : Prog → Env → Stmts → Option Env
  stmts p g nil_s = some g
  stmts p g (cons_s s ss) = if_some (stmt p g s) (λ h. stmts p h ss)

  -- the names behind all alternatives
  pub alts : Prog → Env → Access → List Loan → Data → Alts → Option Env
  alts p g w ls d no_alts = some g
  alts p g w ls d (alt c xs ss as₁) =
      if_some (ctor_named d.ctors c) (λ k. if_some (bind_all w ls g xs k.fields) (λ h.
      if_some (stmts p h ss) (λ i. if_some (alts p g w ls d as₁) (λ j.
      some (choose (is_no_alts as₁) (outer g i) (both (outer g i) j))))))
