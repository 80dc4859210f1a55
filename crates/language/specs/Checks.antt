-- What is accepted: types, what was moved, and what is lent. The rules speak of the text alone.
pub mod Types
pub mod Sizes
pub mod Scopes
pub mod Expressions
pub mod Statements
pub mod Functions
pub mod Programs
pub use Types.{same_ty, owned, loadable, boxed_in, ctor_named, names_of_ctors, Home, home_of, data_named, data_of, fn_named, types_of_pars, well_made}
pub use Sizes.{size, size_ctors, size_fields, many_fields, many_ctors, deep, size_of}
pub use Scopes.{Loan, loan, Var, Env, look, fresh, there, set_gone, enter, all_loans, readable, is_free, outer, both, no_more_gone}
pub use Expressions.{Typed, typed, with_ty, value, shared, holds, expr, args}
pub use Statements.{as_int, stores, goes_in, ref_of, bind_all, Matched, matched, looks_at, alt_names, arm_names, covers, is_no_alts, stmt, stmts, alts}
pub use Functions.{from_caller, is_body, is_tail, are_arms, pars_env, ref_pars, names_of_pars, ok_fn}
pub use Programs.{ok_ctor, is_last, ok_last, ok_data, names_of_datas, every_ctor_name, names_of_fns, w_main, is_main, accepts}
