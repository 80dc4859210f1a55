-- Names in scope: the type of each, whether it may have been moved, and its loans.
use Rattle.std.specs.Prelude.{Bool, true, false, ◌&&◌, ◌||◌, not, List, [], ◌∷◌, ◌++◌}
use Rattle.std.proofs.Math.Option.{Option, some, none}
use Rattle.language.specs.Base.{choose, from_option, if_some, only_if, present, some_of, Lexeme, same}
use Rattle.language.specs.Syntax.{Ty}

-- a loan of what a name holds: alone, or shared
pub record Loan : Type 0 where
  pub root : Lexeme
  pub alone : Bool

abbrev pub loan : Lexeme → Bool → Loan
loan x b = record { root = x; alone = b }

-- a name in scope: its type; whether it may have been moved; and its loans, if it's a reference
pub record Var : Type 0 where
  pub name : Lexeme
  pub ty : Ty
  pub gone : Bool
  pub loans : List Loan

-- the newest first
abbrev pub Env : Type 0
Env = List Var

abbrev pub look : Env → Lexeme → Option Var
look [] x = none
look (v ∷ vs) x = choose (same v.name x) (some v) (look vs x)

-- names in scope are all different
abbrev pub fresh : Env → Lexeme → Bool
fresh g x = not (present (look g x))

-- a name that can be used: it hasn't been moved
abbrev pub there : Env → Lexeme → Option Var
there g x = if_some (look g x) (λ v. only_if (not v.gone) (some v))

abbrev pub set_gone : Bool → Env → Lexeme → Env
set_gone b [] x = []
set_gone b (v ∷ vs) x =
    choose (same v.name x)
    (record { name = v.name; ty = v.ty; gone = b; loans = v.loans } ∷ vs)
    (v ∷ set_gone b vs x)

abbrev pub enter : Env → Lexeme → Ty → List Loan → Env
enter g x t ls = record { name = x; ty = t; gone = false; loans = ls } ∷ g

abbrev pub all_loans : Env → List Loan
all_loans [] = []
all_loans (v ∷ vs) = v.loans ++ all_loans vs

-- nobody has it alone
abbrev pub readable : List Loan → Lexeme → Bool
readable ls x = not (some_of (λ l. same l.root x && l.alone) ls)

-- nobody has a loan of it
abbrev pub is_free : List Loan → Lexeme → Bool
is_free ls x = not (some_of (λ l. same l.root x) ls)

-- what stays of the names g when inner ones end: they are as h has them
abbrev pub outer : Env → Env → Env
outer [] h = []
outer (v ∷ vs) h = from_option (look h v.name) v (λ w. w) ∷ outer vs h

-- of two ways: what one of them may have moved may have been
abbrev pub both : Env → Env → Env
both [] h = []
both (v ∷ vs) h =
    record {
      name = v.name;
      ty = v.ty;
      gone = v.gone || from_option (look h v.name) false (λ w. w.gone);
      loans = v.loans;
    } ∷ both vs h

-- nothing is gone in h that wasn't in g
abbrev pub no_more_gone : Env → Env → Bool
no_more_gone [] h = true
no_more_gone (v ∷ vs) h =
    (v.gone || not (from_option (look h v.name) true (λ w. w.gone))) && no_more_gone vs h
