-- The rules read backwards: what an accepted expression or statement says of its parts, one record for each rule.
use mathlib.Core.Bool.{true, false, ◌&&◌}
use mathlib.Core.List.{[]}
use mathlib.Core.Option.{some}
use mathlib.Core.Path.{◌≡◌, refl}
use native.Mathlib.Omega.{arith}
use Rattle.language.specs.Base.{Lexeme}
use Rattle.language.specs.Syntax.{Ty, int, dat, box, ref, mut, Expr, Access, bind, assign, store, put_s, cond, loop, match_s, open_s, inside, Stmts}
use Rattle.language.specs.Syntax.{Alts, Prog}
use Rattle.language.specs.Checks.{Var, Env, Typed, Matched, look, there, owned, is_free, all_loans, set_gone, enter, fresh, expr, stmt, stmts, alts}
use Rattle.language.specs.Checks.{outer, both, no_more_gone, looks_at, covers, alt_names, boxed_in, goes_in, stores, same_ty}
use Rattle.soundness.proofs.Basics.{some_is, only_is, if_some_is, and_left, and_right, no_some}
use Rattle.soundness.proofs.statics.Rules.{there_is, same_ty_is}

-- let x = e
pub record BindRule (q : Prog) (g : Env) (x : Lexeme) (e : Expr) (h : Env) : Type 0 where
  pub result : Typed
  pub is_expr : expr q [] g e ≡ some result
  pub is_fresh : fresh result.env x ≡ true
  pub behind : enter result.env x result.ty result.loans ≡ h

pub bind_rule : (q : Prog) (g : Env) (x : Lexeme) (e : Expr) (h : Env) → stmt q g (bind x e) ≡ some h → BindRule q g x e h
bind_rule q g x e h k = grind arith

-- x = e
pub record AssignRule (q : Prog) (g : Env) (x : Lexeme) (e : Expr) (h : Env) : Type 0 where
  pub result : Typed
  pub var1 : Var
  pub is_expr : expr q [] g e ≡ some result
  pub is_var : look result.env x ≡ some var1
  pub is_owned : owned var1.ty ≡ true
  pub same_type : result.ty ≡ var1.ty
  pub free : is_free (all_loans result.env) x ≡ true
  pub behind : set_gone false result.env x ≡ h

pub assign_rule : (q : Prog) (g : Env) (x : Lexeme) (e : Expr) (h : Env) → stmt q g (assign x e) ≡ some h → AssignRule q g x e h
assign_rule q g x e h k = grind (arith, same_ty_is)

stores_is : (g : Env) (x : Lexeme) (t tx : Ty) (h : Env) → stores g x t tx ≡ some h
    → (u : Ty) × (tx ≡ mut u) × (owned u ≡ true) × (t ≡ u) × (is_free (all_loans g) x ≡ true) × (g ≡ h)
stores_is g x t int h e = absurd (no_some e)
stores_is g x t (dat d) h e = absurd (no_some e)
stores_is g x t (box u) h e = absurd (no_some e)
stores_is g x t (ref u) h e = absurd (no_some e)
stores_is g x t (mut u) h e =
    let z = only_is (owned u && (same_ty t u && is_free (all_loans g) x)) (some g) h e in
    let z2 = and_right (owned u) (same_ty t u && is_free (all_loans g) x) z.0 in (
      u,
      refl,
      and_left (owned u) (same_ty t u && is_free (all_loans g) x) z.0,
      same_ty_is t u
          (and_left (same_ty t u) (is_free (all_loans g) x) z2),
      and_right (same_ty t u) (is_free (all_loans g) x) z2,
      some_is z.1,
    )

-- *x = e
pub record StoreRule (q : Prog) (g : Env) (x : Lexeme) (e : Expr) (h : Env) : Type 0 where
  pub result : Typed
  pub var1 : Var
  pub target : Ty
  pub is_expr : expr q [] g e ≡ some result
  pub is_var : look result.env x ≡ some var1
  pub is_mut : var1.ty ≡ mut target
  pub is_owned : owned target ≡ true
  pub same_type : result.ty ≡ target
  pub free : is_free (all_loans result.env) x ≡ true
  pub behind : result.env ≡ h

pub store_rule : (q : Prog) (g : Env) (x : Lexeme) (e : Expr) (h : Env) → stmt q g (store x e) ≡ some h → StoreRule q g x e h
store_rule q g x e h k =
    let a = if_some_is (expr q [] g e) _ h k in
    let d = if_some_is (there a.0.env x) _ h a.2 in
    let c = stores_is a.0.env x a.0.ty d.0.ty h d.2 in
    record {
      result = a.0;
      var1 = d.0;
      target = c.0;
      is_expr = a.1;
      is_var = (there_is a.0.env x d.0 d.1).0;
      is_mut = c.1;
      is_owned = c.2;
      same_type = c.3;
      free = c.4;
      behind = c.5;
    }

-- put e
pub record PutRule (q : Prog) (g : Env) (e : Expr) (h : Env) : Type 0 where
  pub result : Typed
  pub is_expr : expr q [] g e ≡ some result
  pub is_int : result.ty ≡ int
  pub behind : result.env ≡ h

pub put_rule : (q : Prog) (g : Env) (e : Expr) (h : Env) → stmt q g (put_s e) ≡ some h → PutRule q g e h
put_rule q g e h k = grind (arith, same_ty_is)

-- if e: the names behind either way
pub record CondRule (q : Prog) (g : Env) (e : Expr) (a d : Stmts) (h : Env) : Type 0 where
  pub result : Typed
  pub yes : Env
  pub no : Env
  pub is_expr : expr q [] g e ≡ some result
  pub is_int : result.ty ≡ int
  pub is_yes : stmts q result.env a ≡ some yes
  pub is_no : stmts q result.env d ≡ some no
  pub behind : both (outer result.env yes) (outer result.env no) ≡ h

pub cond_rule : (q : Prog) (g : Env) (e : Expr) (a d : Stmts) (h : Env) → stmt q g (cond e a d) ≡ some h → CondRule q g e a d h
cond_rule q g e a d h k = grind (arith, same_ty_is)

-- while e: nothing more is gone behind a round
pub record LoopRule (q : Prog) (g : Env) (e : Expr) (a : Stmts) (h : Env) : Type 0 where
  pub result : Typed
  pub round : Env
  pub is_expr : expr q [] g e ≡ some result
  pub is_int : result.ty ≡ int
  pub is_round : stmts q result.env a ≡ some round
  pub nothing_moved : no_more_gone g (outer result.env round) ≡ true
  pub behind : result.env ≡ h

pub loop_rule : (q : Prog) (g : Env) (e : Expr) (a : Stmts) (h : Env) → stmt q g (loop e a) ≡ some h → LoopRule q g e a h
loop_rule q g e a h k = grind (arith, same_ty_is)

-- take, view or edit x
pub record MatchRule (q : Prog) (g : Env) (w : Access) (x : Lexeme) (as₁ : Alts) (h : Env) : Type 0 where
  pub var1 : Var
  pub seen : Matched
  pub is_there : there g x ≡ some var1
  pub is_seen : looks_at q g var1 w var1.ty ≡ some seen
  pub is_covered : covers seen.data1 (alt_names as₁) ≡ true
  pub behind : alts q seen.env w seen.loans seen.data1 as₁ ≡ some h

pub match_rule : (q : Prog) (g : Env) (w : Access) (x : Lexeme) (as₁ : Alts) (h : Env) → stmt q g (match_s w x as₁) ≡ some h
    → MatchRule q g w x as₁ h
match_rule q g w x as₁ h k =
    let a = if_some_is (there g x) _ h k in
    let d = if_some_is (looks_at q g a.0 w a.0.ty) _ h a.2 in
    let c = only_is (covers d.0.data1 (alt_names as₁)) _ h d.2 in
    record { var1 = a.0; seen = d.0; is_there = a.1; is_seen = d.1; is_covered = c.0; behind = c.1 }

-- let x = open y
pub record OpenRule (g : Env) (x y : Lexeme) (h : Env) : Type 0 where
  pub var1 : Var
  pub content : Ty
  pub is_there : there g y ≡ some var1
  pub is_box : boxed_in var1.ty ≡ some content
  pub is_fresh : fresh g x ≡ true
  pub free : is_free (all_loans g) y ≡ true
  pub behind : enter (set_gone true g y) x content [] ≡ h

pub open_rule : (q : Prog) (g : Env) (x y : Lexeme) (h : Env) → stmt q g (open_s x y) ≡ some h → OpenRule g x y h
open_rule q g x y h k = grind arith

-- let x = inside y
pub record InsideRule (g : Env) (x y : Lexeme) (h : Env) : Type 0 where
  pub var1 : Var
  pub is_fresh : fresh g x ≡ true
  pub is_there : there g y ≡ some var1
  pub behind : goes_in g var1 x var1.ty ≡ some h

pub inside_rule : (q : Prog) (g : Env) (x y : Lexeme) (h : Env) → stmt q g (inside x y) ≡ some h → InsideRule g x y h
inside_rule q g x y h k =
    let a = only_is (fresh g x) _ h k in
    let d = if_some_is (there g y) _ h a.1 in
    record { var1 = d.0; is_fresh = a.0; is_there = d.1; behind = d.2 }
