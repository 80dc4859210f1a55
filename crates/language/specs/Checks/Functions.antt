-- Functions: what is given, and what may be given as a reference.
use Rattle.std.specs.Prelude.{Bool, true, false, ◌&&◌, ◌||◌, not, List, [], ◌∷◌, ℕ, zero, suc, length}
use Rattle.language.specs.Base.{choose, from_option, each_of, Lexeme, is_in, no_twice}
use Rattle.language.specs.Syntax.{Ty, int, Access, Body, body, Tail, give, give_cond, give_match, Arms, no_arms, arm, Data, Param, Fn, Prog}
use Rattle.language.specs.Checks.Types.{same_ty, owned, ctor_named, types_of_pars, well_made}
use Rattle.language.specs.Checks.Scopes.{Loan, Env, look, there, enter}
use Rattle.language.specs.Checks.Expressions.{expr}
use Rattle.language.specs.Checks.Statements.{bind_all, looks_at, arm_names, covers, stmts}

-- each loan is of a parameter that is a reference (these are qs), or of a name that is a reference with such loans only.
-- n is more than there are names
abbrev pub from_caller : ℕ → Env → List Lexeme → List Loan → Bool
from_caller zero g qs ls = false
from_caller (suc n) g qs ls =
    each_of
    (λ l. is_in l.root qs
    || from_option (look g l.root) false (λ v. not (owned v.ty) && from_caller n g qs v.loans))
    ls

-- what is given is of type t, and if it's a reference, from the caller
abbrev mutual
  pub is_body : Prog → List Lexeme → Ty → Env → Body → Bool
  is_body p qs t g (body ss b) = from_option (stmts p g ss) false (λ h. is_tail p qs t h b)

  pub is_tail : Prog → List Lexeme → Ty → Env → Tail → Bool
  is_tail p qs t g (give e) =
      from_option (expr p [] g e) false (λ r. same_ty r.ty t && from_caller (suc (length g)) g qs r.loans)
  is_tail p qs t g (give_cond e a b) =
      from_option (expr p [] g e) false (λ r.
      same_ty r.ty int && (is_body p qs t r.env a && is_body p qs t r.env b))
  is_tail p qs t g (give_match w x as₁) =
      from_option (there g x) false (λ v. from_option (looks_at p g v w v.ty) false (λ m.
      covers m.data1 (arm_names as₁) && are_arms p qs t m.env w m.loans m.data1 as₁))

  pub are_arms : Prog → List Lexeme → Ty → Env → Access → List Loan → Data → Arms → Bool
  are_arms p qs t g w ls d no_arms = true
  are_arms p qs t g w ls d (arm c xs b as₁) =
      from_option (ctor_named d.ctors c) false (λ k.
      from_option (bind_all w ls g xs k.fields) false (λ h. is_body p qs t h b))
      && are_arms p qs t g w ls d as₁

-- the names that a body begins with
abbrev pub pars_env : List Param → Env → Env
pars_env [] g = g
pars_env (q ∷ qs) g = pars_env qs (enter g q.name q.ty [])

-- the parameters that are references
abbrev pub ref_pars : List Param → List Lexeme
ref_pars [] = []
ref_pars (q ∷ qs) = choose (owned q.ty) (ref_pars qs) (q.name ∷ ref_pars qs)

abbrev pub names_of_pars : List Param → List Lexeme
names_of_pars [] = []
names_of_pars (q ∷ qs) = q.name ∷ names_of_pars qs

-- a function is accepted
abbrev pub ok_fn : Prog → Fn → Bool
ok_fn p f =
    no_twice (names_of_pars f.pars)
    && (each_of (well_made p.datas) (f.ret ∷ types_of_pars f.pars)
    && is_body p (ref_pars f.pars) f.ret (pars_env f.pars []) f.does)
