-- What is asked of a program besides its functions' bodies: of the names, of each data, and of the function main.
use Rattle.std.specs.Prelude.{Bool, true, false, ◌&&◌, List, ◌∷◌, length, ◌==◌, nat_le}
use Rattle.language.specs.Base.{choose, from_option, each_of, no_twice}
use Rattle.language.specs.Syntax.{Ty, int, dat, Data}
use Rattle.language.specs.Checks.{same_ty, types_of_pars, owned, well_made, size_of, ok_ctor, names_of_pars, names_of_datas, every_ctor_name, w_main, is_last}
use Rattle.tables.specs.Heads.{Sig, sig_named, names_of_sigs}

-- a function's head: no parameter twice, and types that exist
abbrev pub ok_head : List Data → Sig → Bool
ok_head ds s = no_twice (names_of_pars s.params) && each_of (well_made ds) (s.ret ∷ types_of_pars s.params)

-- a field's type: owned, and it exists
abbrev pub ok_field : List Data → Ty → Bool
ok_field ds t = owned t && well_made ds t

-- the function that is called when one is dropped, if there is one
abbrev pub ok_drop : List Sig → Data → Bool
ok_drop ss d = choose (length d.last == 0) true (from_option (sig_named ss d.last) false (λ s. is_last d.name (types_of_pars s.params) s.ret))

abbrev pub ok_size : List Data → Data → Bool
ok_size ds d = from_option (size_of ds (dat d.name)) false (λ n. nat_le n 4096)

abbrev pub ok_decl : List Data → List Sig → Data → Bool
ok_decl ds ss d = each_of (ok_ctor ds) d.ctors && (ok_drop ss d && ok_size ds d)

abbrev pub ok_main : List Sig → Bool
ok_main ss = from_option (sig_named ss w_main) false (λ s. (length s.params == 0) && same_ty s.ret int)

-- all but the functions
abbrev pub ok_rest : List Data → List Sig → Bool
ok_rest ds ss = no_twice (names_of_datas ds) && (no_twice (every_ctor_name ds) && (no_twice (names_of_sigs ss) && (each_of (ok_decl ds ss) ds && ok_main ss)))
