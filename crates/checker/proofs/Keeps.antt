-- An expression changes nothing of the names but which are gone.
use Rattle.std.proofs.Common.{◌≡◌, ℕ, zero, suc, Bool, true, false, not, ◌&&◌, ◌||◌, List, [], ◌∷◌, ◌++◌, length, sym, refl, ap, ◌∙◌, ap₂}
use mathlib.Core.Option.{Option, some, none}
use Rattle.language.specs.Base.{choose, from_option, each_of, Lexeme, same, is_in}
use Rattle.language.specs.Syntax.{Ty, int, dat, box, ref, mut, Expr, num, var, op, ctor, boxed, call, share, lend, load, get_e, Exprs, nil_e, cons_e, Prog}
use Rattle.language.specs.Checks.{same_ty, owned, home_of, fn_named, Loan, Var, Env, look, all_loans, readable, is_free, set_gone, there, Typed, value, shared, loadable, types_of_pars, expr, args, from_caller}
use Rattle.checker.proofs.Options.{Each, each_if, each_any, each_only}

-- what's said of a name when it is bound
pub record Name : Type 0 where
  pub name : Lexeme
  pub ty : Ty
  pub loans : List Loan

-- the names without what's gone
abbrev pub plain : Env → List Name
plain [] = []
plain (v ∷ vs) = record { name = v.name; ty = v.ty; loans = v.loans } ∷ plain vs

plain_set : (b : Bool) (g : Env) (x : Lexeme) → plain (set_gone b g x) ≡ plain g
plain_set b [] x = refl
plain_set b (v ∷ vs) x = go (same v.name x) (plain_set b vs x)
  where
    go : (c : Bool) → plain (set_gone b vs x) ≡ plain vs → plain (choose c (record { name = v.name; ty = v.ty; gone = b; loans = v.loans } ∷ vs) (v ∷ set_gone b vs x)) ≡ plain (v ∷ vs)
    go true h = refl
    go false h = ap (λ ns. record { name = v.name; ty = v.ty; loans = v.loans } ∷ ns) h

abbrev pub Keeps : Env → Option Typed → Type 0
Keeps g o = Each o (λ r. plain r.env ≡ plain g)

keeps_value : (held : List Loan) (g : Env) (v : Var) (t : Ty) → Keeps g (value held g v t)
keeps_value held g v int = each_only _ (readable (held ++ all_loans g) v.name) _ refl
keeps_value held g v (dat d) = each_only _ (is_free (held ++ all_loans g) v.name) _ (plain_set true g v.name)
keeps_value held g v (box t) = each_only _ (is_free (held ++ all_loans g) v.name) _ (plain_set true g v.name)
keeps_value held g v (ref t) = each_only _ (readable (held ++ all_loans g) v.name) _ refl
keeps_value held g v (mut t) = each_only _ (is_free (held ++ all_loans g) v.name) _ refl

keeps_shared : (held : List Loan) (g : Env) (v : Var) (t : Ty) → Keeps g (shared held g v t)
keeps_shared held g v int = each_only _ (readable (held ++ all_loans g) v.name) _ refl
keeps_shared held g v (dat d) = each_only _ (readable (held ++ all_loans g) v.name) _ refl
keeps_shared held g v (box t) = each_only _ (readable (held ++ all_loans g) v.name) _ refl
keeps_shared held g v (ref t) = tt
keeps_shared held g v (mut t) = each_only _ (readable (held ++ all_loans g) v.name) _ refl

mutual
  pub keeps : (e : Expr) (p : Prog) (held : List Loan) (g : Env) → Keeps g (expr p held g e)
  keeps (num n) p held g = refl
  keeps (var x) p held g = each_if _ _ (there g x) _ (each_any (there g x)) (λ v u. keeps_value held g v v.ty)
  keeps (op o a b) p held g = each_if _ _ (expr p held g a) _ (keeps a p held g) (λ r h. each_only _ (same_ty r.ty int) _ (each_if _ _ (expr p held r.env b) _ (keeps b p held r.env) (λ q k. each_only _ (same_ty q.ty int) _ (k ∙ h))))
  keeps (ctor c es) p held g = each_if _ _ (home_of p.datas c) _ (each_any (home_of p.datas c)) (λ k u. each_if _ _ (args p held g es k.ctor1.fields) _ (keeps_all es p held g k.ctor1.fields) (λ r h. h))
  keeps (boxed a) p held g = each_if _ _ (expr p held g a) _ (keeps a p held g) (λ r h. each_only _ (owned r.ty) _ h)
  keeps (call f es) p held g = each_if _ _ (fn_named p.funs f) _ (each_any (fn_named p.funs f)) (λ k u. each_if _ _ (args p held g es (types_of_pars k.pars)) _ (keeps_all es p held g (types_of_pars k.pars)) (λ r h. h))
  keeps (share x) p held g = each_if _ _ (there g x) _ (each_any (there g x)) (λ v u. keeps_shared held g v v.ty)
  keeps (lend x) p held g = each_if _ _ (there g x) _ (each_any (there g x)) (λ v u. each_only _ (owned v.ty && is_free (held ++ all_loans g) x) _ refl)
  keeps (load x) p held g = each_if _ _ (there g x) _ (each_any (there g x)) (λ v u. each_only _ (loadable v.ty && readable (held ++ all_loans g) x) _ refl)
  keeps get_e p held g = refl

  pub keeps_all : (es : Exprs) (p : Prog) (held : List Loan) (g : Env) (ts : List Ty) → Keeps g (args p held g es ts)
  keeps_all nil_e p held g [] = refl
  keeps_all nil_e p held g (t ∷ ts) = tt
  keeps_all (cons_e e es) p held g [] = tt
  keeps_all (cons_e e es) p held g (t ∷ ts) = each_if _ _ (expr p held g e) _ (keeps e p held g) (λ r h. each_only _ (same_ty r.ty t) _ (each_if _ _ (args p (r.loans ++ held) r.env es ts) _ (keeps_all es p (r.loans ++ held) r.env ts) (λ q k. k ∙ h)))

-- from_caller sees only the names without what's gone
abbrev pub look_plain : List Name → Lexeme → Option Name
look_plain [] x = none
look_plain (v ∷ vs) x = choose (same v.name x) (some v) (look_plain vs x)

look_is : {C : Type 0} (g : Env) (x : Lexeme) (c : C) (f : Ty → List Loan → C) → from_option (look g x) c (λ v. f v.ty v.loans) ≡ from_option (look_plain (plain g) x) c (λ v. f v.ty v.loans)
look_is [] x c f = refl
look_is (v ∷ vs) x c f = go (same v.name x) (look_is vs x c f)
  where
    go : (b : Bool) → from_option (look vs x) c (λ v. f v.ty v.loans) ≡ from_option (look_plain (plain vs) x) c (λ v. f v.ty v.loans) → from_option (choose b (some v) (look vs x)) c (λ v. f v.ty v.loans) ≡ from_option (choose b (some (record { name = v.name; ty = v.ty; loans = v.loans })) (look_plain (plain vs) x)) c (λ v. f v.ty v.loans)
    go true h = refl
    go false h = h

abbrev pub from_plain : ℕ → List Name → List Lexeme → List Loan → Bool
from_plain zero ns qs ls = false
from_plain (suc n) ns qs ls = each_of (λ l. is_in l.root qs || from_option (look_plain ns l.root) false (λ v. not (owned v.ty) && from_plain n ns qs v.loans)) ls

each_same : (f g : Loan → Bool) (ls : List Loan) → ((l : Loan) → f l ≡ g l) → each_of f ls ≡ each_of g ls
each_same f g [] h = refl
each_same f g (l ∷ ls) h = ap₂ ◌&&◌ (h l) (each_same f g ls h)

from_is : (n : ℕ) (g : Env) (qs : List Lexeme) (ls : List Loan) → from_caller n g qs ls ≡ from_plain n (plain g) qs ls
from_is zero g qs ls = refl
from_is (suc n) g qs ls = each_same _ _ ls (λ l. ap (λ b. is_in l.root qs || b) (look_is g l.root false (λ t ms. not (owned t) && from_caller n g qs ms) ∙ from_names (look_plain (plain g) l.root) (λ ms. from_is n g qs ms)))
  where
    from_names : (o : Option Name) → ((ms : List Loan) → from_caller n g qs ms ≡ from_plain n (plain g) qs ms) → from_option o false (λ v. not (owned v.ty) && from_caller n g qs v.loans) ≡ from_option o false (λ v. not (owned v.ty) && from_plain n (plain g) qs v.loans)
    from_names none h = refl
    from_names (some v) h = ap (λ b. not (owned v.ty) && b) (h v.loans)

length_plain : (g : Env) → length g ≡ length (plain g)
length_plain [] = refl
length_plain (v ∷ vs) = ap suc (length_plain vs)

pub from_same : (g h : Env) (qs : List Lexeme) (ls : List Loan) → plain g ≡ plain h → from_caller (suc (length g)) g qs ls ≡ from_caller (suc (length h)) h qs ls
from_same g h qs ls e = from_is (suc (length g)) g qs ls ∙ ap₂ (λ n ns. from_plain (suc n) ns qs ls) (length_plain g ∙ ap length e ∙ sym (length_plain h)) e ∙ sym (from_is (suc (length h)) h qs ls)
