-- Static: expressions keep names, types and loans of the names in scope; only flags change.
use mathlib.Core.Bool.{Bool, true, false}
use mathlib.Core.List.{List, [], ◌∷◌, ◌++◌}
use mathlib.Core.Option.{some, none}
use mathlib.Core.Path.{◌≡◌, refl, sym, ◌∙◌, ap, subst}
use Prim.Native.Nat.{suc}
use lib.ListN.{length}
use Rattle.language.specs.Base.{choose, Lexeme, same}
use Rattle.language.specs.Syntax.{Ty, int, dat, box, ref, mut, Expr, num, var, op, ctor, boxed, call, share, lend, load, get_e, Exprs, Prog, nil_e}
use Rattle.language.specs.Syntax.{cons_e}
use Rattle.language.specs.Checks.{Loan, Var, types_of_pars, loan, Env, look, set_gone, typed, value, shared, Typed, there, expr, holds, args}
use Rattle.language.specs.Checks as ch
use Rattle.soundness.proofs.Basics.{no_some, some_is, if_some_is, only_is, true_false, same_is}
use Rattle.soundness.proofs.statics.ExprRules.{op_rule, ctor_rule, boxed_rule, call_rule, lend_rule, load_rule, args_rule}

abbrev pub EnvLike : Env → Env → Type 0
EnvLike [] [] = Unit {0}
EnvLike [] (w ∷ h) = ⊥
EnvLike (v ∷ g) [] = ⊥
EnvLike (v ∷ g) (w ∷ h) = (v.name ≡ w.name) × (v.ty ≡ w.ty) × (v.loans ≡ w.loans) × EnvLike g h

pub like_self : (g : Env) → EnvLike g g
like_self [] = tt
like_self (v ∷ g) = (refl, refl, refl, like_self g)

pub like_then : (f g h : Env) → EnvLike f g → EnvLike g h → EnvLike f h
like_then [] [] [] a b = tt
like_then [] [] (w ∷ h) a b = absurd b
like_then [] (v ∷ g) h a b = absurd a
like_then (u ∷ f) [] h a b = absurd a
like_then (u ∷ f) (v ∷ g) [] a b = absurd b
like_then (u ∷ f) (v ∷ g) (w ∷ h) a b = (a.0 ∙ b.0, a.1 ∙ b.1, a.2 ∙ b.2, like_then f g h a.3 b.3)

pub like_gone : (z : Bool) (g : Env) (x : Lexeme) → EnvLike g (set_gone z g x)
like_gone z [] x = tt
like_gone z (v ∷ g) x = go (same v.name x) (like_gone z g x)
  where
    go : (y : Bool) → EnvLike g (set_gone z g x)
        → EnvLike (v ∷ g) (choose y (record { name = v.name; ty = v.ty; gone = z; loans = v.loans } ∷ g) (v ∷ set_gone z g x))
    go true h = (refl, refl, refl, like_self g)
    go false h = (refl, refl, refl, h)

env_is : (g : Env) (t : Ty) (ls : List Loan) (h : Env) (r : Typed) → EnvLike g h → typed t ls h ≡ some r → EnvLike g r.env
env_is g t ls h r l e = subst (λ z. EnvLike g z.env) (some_is e) l

value_like : (held : List Loan) (g : Env) (v : Var) (t : Ty) (r : Typed) → value held g v t ≡ some r → EnvLike g r.env
value_like held g v int r e = env_is g _ _ g r (like_self g) (only_is _ _ r e).1
value_like held g v (dat d) r e = env_is g _ _ (set_gone true g v.name) r (like_gone true g v.name) (only_is _ _ r e).1
value_like held g v (box t) r e = env_is g _ _ (set_gone true g v.name) r (like_gone true g v.name) (only_is _ _ r e).1
value_like held g v (ref t) r e = env_is g _ _ g r (like_self g) (only_is _ _ r e).1
value_like held g v (mut t) r e = env_is g _ _ g r (like_self g) (only_is _ _ r e).1

shared_like : (held : List Loan) (g : Env) (v : Var) (t : Ty) (r : Typed) → shared held g v t ≡ some r → EnvLike g r.env
shared_like held g v int r e = env_is g _ _ g r (like_self g) (only_is _ _ r e).1
shared_like held g v (dat d) r e = env_is g _ _ g r (like_self g) (only_is _ _ r e).1
shared_like held g v (box t) r e = env_is g _ _ g r (like_self g) (only_is _ _ r e).1
shared_like held g v (ref t) r e = absurd (no_some e)
shared_like held g v (mut t) r e = env_is g _ _ g r (like_self g) (only_is _ _ r e).1

mutual
  pub expr_like : (q : Prog) (held : List Loan) (g : Env) (e : Expr) (r : Typed) → expr q held g e ≡ some r → EnvLike g r.env
  expr_like q held g (num k) r h = env_is g int [] g r (like_self g) h
  expr_like q held g (var x) r h = let y = if_some_is (there g x) (λ v. value held g v v.ty) r h in value_like held g y.0 y.0.ty r y.2
  expr_like q held g (op o a d) r h =
      let i = op_rule q held g o a d r h in
      like_then g i.left.env r.env (expr_like q held g a i.left i.is_left)
      (env_is i.left.env int [] i.right.env r (expr_like q held i.left.env d i.right i.is_right) i.behind)
  expr_like q held g (ctor k es) r h =
      let i = ctor_rule q held g k es r h in
      env_is g (dat i.home.data1.name) [] i.fields.env r
      (args_like q held g es i.home.ctor1.fields i.fields i.is_args) i.behind
  expr_like q held g (boxed a) r h =
      let i = boxed_rule q held g a r h in
      env_is g (box i.content.ty) [] i.content.env r (expr_like q held g a i.content i.is_expr) i.behind
  expr_like q held g (call f es) r h =
      let i = call_rule q held g f es r h in
      env_is g i.callee.ret (holds i.callee.ret i.arguments.loans) i.arguments.env r
      (args_like q held g es (types_of_pars i.callee.pars) i.arguments i.is_args) i.behind
  expr_like q held g (share x) r h =
      let y = if_some_is (there g x) (λ v. shared held g v v.ty) r h in shared_like held g y.0 y.0.ty r y.2
  expr_like q held g (lend x) r h =
      let i = lend_rule q held g x r h in env_is g (mut i.var1.ty) (loan x true ∷ []) g r (like_self g) i.behind
  expr_like q held g (load x) r h = env_is g int [] g r (like_self g) (load_rule q held g x r h).behind
  expr_like q held g get_e r h = env_is g int [] g r (like_self g) h

  pub args_like : (q : Prog) (held : List Loan) (g : Env) (es : Exprs) (ts : List Ty) (r : Typed) → args q held g es ts ≡ some r → EnvLike g r.env
  args_like q held g nil_e [] r h = env_is g int [] g r (like_self g) h
  args_like q held g nil_e (t ∷ ts) r h = absurd (no_some h)
  args_like q held g (cons_e e es) [] r h = absurd (no_some h)
  args_like q held g (cons_e e es) (t ∷ ts) r h =
      let i = args_rule q held g e es t ts r h in
      like_then g i.first.env r.env (expr_like q held g e i.first i.is_first)
      (env_is i.first.env int (i.first.loans ++ i.others.loans) i.others.env r
      (args_like q (i.first.loans ++ held) i.first.env es ts i.others i.is_others) i.behind)

-- environments that differ by flags
pub look_name : (g : ch.Env) (x : Lexeme) (v : Var) → look g x ≡ some v → v.name ≡ x
look_name [] x v e = absurd (no_some e)
look_name (u ∷ g) x v e = go (same u.name x) (same_is u.name x) e (look_name g x v)
  where
    go : (o : Bool) → (o ≡ true → u.name ≡ x) → choose o (some u) (look g x) ≡ some v → (look g x ≡ some v → v.name ≡ x) → v.name ≡ x
    go true h k r = ap (λ z. z.name) (sym (some_is k)) ∙ h refl
    go false h k r = r k

pub like_length : (g h : ch.Env) → EnvLike g h → length g ≡ length h
like_length [] [] l = refl
like_length [] (w ∷ h) l = absurd l
like_length (v ∷ g) [] l = absurd l
like_length (v ∷ g) (w ∷ h) l = ap suc (like_length g h l.3)

pub fresh_like : (g h : ch.Env) (x : Lexeme) → EnvLike g h → look g x ≡ none → look h x ≡ none
fresh_like [] [] x l e = refl
fresh_like [] (w ∷ h) x l e = absurd l
fresh_like (v ∷ g) [] x l e = absurd l
fresh_like (v ∷ g) (w ∷ h) x l e = go (same v.name x) (same w.name x) (ap (λ z. same z x) l.0) e (fresh_like g h x l.3)
  where
    go : (a z : Bool) → a ≡ z → choose a (some v) (look g x) ≡ none → (look g x ≡ none → look h x ≡ none) → choose z (some w) (look h x) ≡ none
    go true z s k r = absurd (no_some (sym k))
    go false true s k r = absurd (true_false (sym s))
    go false false s k r = r k
