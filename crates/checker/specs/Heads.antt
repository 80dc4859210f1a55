-- The heads of functions: all but their bodies.
use Rattle.std.specs.Prelude.{List, [], ◌∷◌}
use Rattle.std.proofs.Math.Option.{Option, some, none}
use Rattle.language.specs.Base.{choose, Lexeme, same}
use Rattle.language.specs.Syntax.{Ty, Param, Fn}

-- a function without its body
pub record Sig : Type 0 where
  pub name : Lexeme
  pub params : List Param
  pub ret : Ty

abbrev pub sig_of : Fn → Sig
sig_of f = record { name = f.name; params = f.pars; ret = f.ret }

-- the first of that name
abbrev pub sig_named : List Sig → Lexeme → Option Sig
sig_named [] w = none
sig_named (s ∷ ss) w = choose (same s.name w) (some s) (sig_named ss w)

abbrev pub names_of_sigs : List Sig → List Lexeme
names_of_sigs [] = []
names_of_sigs (s ∷ ss) = s.name ∷ names_of_sigs ss
