-- Types: which are the same, which are owned; data types, constructors and functions by their names, of which the first counts.
use Rattle.std.specs.Prelude.{Bool, true, false, ◌&&◌, List, [], ◌∷◌}
use Rattle.std.proofs.Math.Option.{Option, some, none}
use Rattle.language.specs.Base.{choose, from_option, present, Lexeme, same}
use Rattle.language.specs.Syntax.{Ty, int, dat, box, ref, mut, Ctor, Data, Param, Fn, Prog}

abbrev pub same_ty : Ty → Ty → Bool
same_ty int int = true
same_ty int (dat d) = false
same_ty int (box u) = false
same_ty int (ref u) = false
same_ty int (mut u) = false
same_ty (dat c) int = false
same_ty (dat c) (dat d) = same c d
same_ty (dat c) (box u) = false
same_ty (dat c) (ref u) = false
same_ty (dat c) (mut u) = false
same_ty (box t) int = false
same_ty (box t) (dat d) = false
same_ty (box t) (box u) = same_ty t u
same_ty (box t) (ref u) = false
same_ty (box t) (mut u) = false
same_ty (ref t) int = false
same_ty (ref t) (dat d) = false
same_ty (ref t) (box u) = false
same_ty (ref t) (ref u) = same_ty t u
same_ty (ref t) (mut u) = false
same_ty (mut t) int = false
same_ty (mut t) (dat d) = false
same_ty (mut t) (box u) = false
same_ty (mut t) (ref u) = false
same_ty (mut t) (mut u) = same_ty t u

-- owned: no reference
abbrev pub owned : Ty → Bool
owned int = true
owned (dat d) = true
owned (box t) = owned t
owned (ref t) = false
owned (mut t) = false

-- what *r reads: a number behind a reference
abbrev pub loadable : Ty → Bool
loadable int = false
loadable (dat d) = false
loadable (box t) = false
loadable (ref t) = same_ty t int
loadable (mut t) = same_ty t int

-- what a box has in it
abbrev pub boxed_in : Ty → Option Ty
boxed_in int = none
boxed_in (dat d) = none
boxed_in (box t) = some t
boxed_in (ref t) = none
boxed_in (mut t) = none

abbrev pub ctor_named : List Ctor → Lexeme → Option Ctor
ctor_named [] c = none
ctor_named (k ∷ ks) c = choose (same k.name c) (some k) (ctor_named ks c)

abbrev pub names_of_ctors : List Ctor → List Lexeme
names_of_ctors [] = []
names_of_ctors (k ∷ ks) = k.name ∷ names_of_ctors ks

-- a constructor, and the data type that it is of
pub record Home : Type 0 where
  pub data1 : Data
  pub ctor1 : Ctor

abbrev pub home_of : List Data → Lexeme → Option Home
home_of [] c = none
home_of (d ∷ ds) c = from_option (ctor_named d.ctors c) (home_of ds c) (λ k. some (record { data1 = d; ctor1 = k }))

abbrev pub data_named : List Data → Lexeme → Option Data
data_named [] w = none
data_named (d ∷ ds) w = choose (same d.name w) (some d) (data_named ds w)

abbrev pub data_of : Prog → Ty → Option Data
data_of p int = none
data_of p (dat d) = data_named p.datas d
data_of p (box t) = none
data_of p (ref t) = none
data_of p (mut t) = none

abbrev pub fn_named : List Fn → Lexeme → Option Fn
fn_named [] w = none
fn_named (f ∷ fs) w = choose (same f.name w) (some f) (fn_named fs w)

abbrev pub types_of_pars : List Param → List Ty
types_of_pars [] = []
types_of_pars (q ∷ qs) = q.ty ∷ types_of_pars qs

-- types that exist; references, and what is in a box, only of what is owned
abbrev pub well_made : List Data → Ty → Bool
well_made ds int = true
well_made ds (dat d) = present (data_named ds d)
well_made ds (box t) = owned t && well_made ds t
well_made ds (ref t) = owned t && well_made ds t
well_made ds (mut t) = owned t && well_made ds t
