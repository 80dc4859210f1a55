-- Programs: data types, last functions, names declared once, main.
use Rattle.std.specs.Prelude.{Bool, true, false, ◌&&◌, List, [], ◌∷◌, ◌++◌, length, eqb, leb}
use Rattle.language.specs.Base.{choose, from_option, each_of, Lexeme, no_twice}
use Rattle.language.specs.Syntax.{Ty, int, dat, mut, Ctor, Data, Fn, Prog}
use Rattle.language.specs.Checks.Types.{same_ty, owned, names_of_ctors, fn_named, types_of_pars, well_made}
use Rattle.language.specs.Checks.Sizes.{size_of}
use Rattle.language.specs.Checks.Functions.{ok_fn}

-- at most eight fields, of types that are there, and no references
abbrev pub ok_ctor : List Data → Ctor → Bool
ok_ctor ds k = leb (length k.fields) 8 && each_of (λ t. owned t && well_made ds t) k.fields

-- a last function of the data d takes a mut of it and gives an int
abbrev pub is_last : Lexeme → List Ty → Ty → Bool
is_last d [] r = false
is_last d (t ∷ []) r = same_ty t (mut (dat d)) && same_ty r int
is_last d (t ∷ u ∷ ts) r = false

abbrev pub ok_last : Prog → Data → Bool
ok_last p d =
    choose (eqb (length d.last) 0) true
    (from_option (fn_named p.funs d.last) false (λ f. is_last d.name (types_of_pars f.pars) f.ret))

-- it isn't part of itself but through a box, and has at most 4,096 words
abbrev pub ok_data : Prog → Data → Bool
ok_data p d =
    each_of (ok_ctor p.datas) d.ctors
    && (ok_last p d
    && from_option (size_of p.datas (dat d.name)) false (λ n. leb n 4096))

abbrev pub names_of_datas : List Data → List Lexeme
names_of_datas [] = []
names_of_datas (d ∷ ds) = d.name ∷ names_of_datas ds

abbrev pub every_ctor_name : List Data → List Lexeme
every_ctor_name [] = []
every_ctor_name (d ∷ ds) = names_of_ctors d.ctors ++ every_ctor_name ds

abbrev pub names_of_fns : List Fn → List Lexeme
names_of_fns [] = []
names_of_fns (f ∷ fs) = f.name ∷ names_of_fns fs

-- main
abbrev pub w_main : Lexeme
w_main = 109 ∷ 97 ∷ 105 ∷ 110 ∷ []

-- main takes nothing and gives an int
abbrev pub is_main : Fn → Bool
is_main f = eqb (length f.pars) 0 && same_ty f.ret int

-- a program is accepted
abbrev pub accepts : Prog → Bool
accepts p =
    no_twice (names_of_datas p.datas)
    && (no_twice (every_ctor_name p.datas)
    && (no_twice (names_of_fns p.funs)
    && (each_of (ok_data p) p.datas
    && (each_of (ok_fn p) p.funs
    && from_option (fn_named p.funs w_main) false is_main))))
