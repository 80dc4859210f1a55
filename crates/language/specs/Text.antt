-- From bytes to a program: tokens, words of the language, then a reader by recursive descent.
pub mod Lexer
pub mod Words
pub mod Reading
pub mod Expressions
pub mod Statements
pub mod Items
pub use Lexer.{is_word_byte, is_blank, Lexing, idle, collecting, after_equals, skipping, Lexed, moved, starts, reads_byte, flushed, tokenize}
pub use Words.{kw_data, kw_drop, kw_by, kw_fn, kw_let, kw_put, kw_if, kw_else, kw_while, kw_take, kw_view, kw_edit, kw_open, kw_inside, kw_give, kw_box, kw_ref, kw_mut, kw_int, kw_get, sg_lp, sg_rp, sg_lc, sg_rc, sg_comma, sg_semi, sg_colon, sg_bar, sg_gets, sg_and, sg_star, sg_is, sg_less, sg_plus, sg_minus, sg_over, sg_rest, reserved, leading, is_number, is_upper, is_lower, decimal, value_of}
pub use Reading.{Found, found, go_on, expect, read_name, peek, skip_one, read_type, read_names, some_names, read_types}
pub use Expressions.{sign_on, read_value, on_level, read_more, read_smallest, read_values}
pub use Statements.{a_way, closed, a_let, read_statements, read_statement, block, alts, a_body, a_tail, arms}
pub use Items.{ctors, pars, read_pars, read_items, reads}
