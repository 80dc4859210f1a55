-- What is asked of the data types, by their numbers and with the table of sizes.
use Rattle.std.specs.Prelude.{ℕ, Bool, not, ◌&&◌, List, ◌==◌, slice_index}
use Rattle.language.specs.Base.{each_of}
use Rattle.language.specs.Checks.{ok_ctor}
use Rattle.tables.specs.declared.tables.Tables.{Tables}
use Rattle.tables.specs.Index.{each_from}
use Rattle.tables.specs.Rest.{ok_drop}
use Rattle.tables.specs.Tables.{datas_in, sigs_in, the_data}

abbrev pub decl_at : Tables → List ℕ → ℕ → Bool
decl_at t ws k = each_of (ok_ctor (datas_in t)) (the_data t k).ctors && (ok_drop (sigs_in t) (the_data t k) && not (slice_index ws k == 0))

abbrev pub decls_in : Tables → List ℕ → Bool
decls_in t ws = each_of (decl_at t ws) (each_from (λ k. k) 0 t.done.datas)
