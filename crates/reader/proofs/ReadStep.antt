-- One equation for every symbol: with enough fuel the definition reads what the step says.
use Rattle.std.proofs.Common.{◌≡◌, ℕ, zero, suc, ◌+◌, ◌*◌, ◌≤◌, List, [], ◌∷◌, length, refl, arith}
use Rattle.language.specs.Base.{Lexeme}
use Rattle.code.specs.Instr.{Instr}
use Rattle.reader.specs.Symbol.{Symbol, s_emit, s_token, s_expr, s_compared, s_sum, s_product, s_factor}
use Rattle.reader.specs.Symbol.{s_more_sum, s_more_product, s_primary, s_args, s_args_on, s_names, s_some_names}
use Rattle.reader.specs.Symbol.{s_stmts, s_block, s_alts, s_body, s_tail, s_arms, s_type, s_fields, s_fields_on}
use Rattle.reader.specs.Symbol.{s_some_fields, s_ctors, s_ctors_on, s_params, s_params_on, s_some_params}
use Rattle.reader.specs.Symbol.{s_drop, s_items, step}
use Rattle.reader.proofs.Ranks.{rank}
use Rattle.reader.proofs.ReadSymbol.{read_symbol, spent, act}
use Rattle.reader.proofs.ReadExpr.{token_ok, expr_ok, compared_ok, args_ok, args_on_ok, sum_ok, product_ok}
use Rattle.reader.proofs.ReadExpr.{factor_ok, more_sum_ok, more_product_ok, primary_ok}
use Rattle.reader.proofs.ReadStmt.{names_ok, some_names_ok, block_ok, alts_ok, arms_ok, body_ok, tail_ok}
use Rattle.reader.proofs.ReadStmt.{stmts_ok}
use Rattle.reader.proofs.ReadItem.{type_ok, fields_ok, fields_on_ok, some_fields_ok, ctors_ok, ctors_on_ok}
use Rattle.reader.proofs.ReadItem.{params_ok, params_on_ok, some_params_ok, drop_ok, items_ok}

-- at enough fuel a symbol reads what its step says
pub reads_on : (s : Symbol) (f : ℕ) (ts : List Lexeme) (o : List Instr) → rank s + 16 * length ts ≤ f →
    read_symbol s f ts o ≡ act (spent s f) o (step s ts)
reads_on (s_emit i) f ts o h = refl
reads_on (s_token w) f ts o h = token_ok w f ts o
reads_on s_expr zero ts o h = absurd (omega arith)
reads_on s_expr (suc f) ts o h = expr_ok f ts o
reads_on s_compared f ts o h = compared_ok f ts o
reads_on s_sum zero ts o h = absurd (omega arith)
reads_on s_sum (suc f) ts o h = sum_ok f ts o
reads_on s_product zero ts o h = absurd (omega arith)
reads_on s_product (suc f) ts o h = product_ok f ts o
reads_on s_factor zero ts o h = absurd (omega arith)
reads_on s_factor (suc f) ts o h = factor_ok f ts o
reads_on s_more_sum zero ts o h = absurd (omega arith)
reads_on s_more_sum (suc f) ts o h = more_sum_ok f ts o
reads_on s_more_product zero ts o h = absurd (omega arith)
reads_on s_more_product (suc f) ts o h = more_product_ok f ts o
reads_on s_primary zero ts o h = absurd (omega arith)
reads_on s_primary (suc f) [] o h = refl
reads_on s_primary (suc f) (t ∷ ts) o h = primary_ok f t ts o
reads_on s_args zero ts o h = absurd (omega arith)
reads_on s_args (suc f) ts o h = args_ok f ts o
reads_on s_args_on f ts o h = args_on_ok f ts o
reads_on s_names zero ts o h = absurd (omega arith)
reads_on s_names (suc f) ts o h = names_ok f ts o
reads_on s_some_names f ts o h = some_names_ok f ts o
reads_on s_stmts zero ts o h = absurd (omega arith)
reads_on s_stmts (suc f) [] o h = refl
reads_on s_stmts (suc f) (t ∷ ts) o h = stmts_ok f t ts o
reads_on s_block zero ts o h = absurd (omega arith)
reads_on s_block (suc zero) ts o h = absurd (omega arith)
reads_on s_block (suc (suc f)) ts o h = block_ok f ts o
reads_on s_alts zero ts o h = absurd (omega arith)
reads_on s_alts (suc f) ts o h = alts_ok f ts o
reads_on s_body zero ts o h = absurd (omega arith)
reads_on s_body (suc zero) ts o h = absurd (omega arith)
reads_on s_body (suc (suc f)) ts o h = body_ok f ts o
reads_on s_tail f ts o h = tail_ok f ts o
reads_on s_arms zero ts o h = absurd (omega arith)
reads_on s_arms (suc f) ts o h = arms_ok f ts o
reads_on s_type zero ts o h = absurd (omega arith)
reads_on s_type (suc f) [] o h = refl
reads_on s_type (suc f) (t ∷ ts) o h = type_ok f t ts o
reads_on s_fields zero ts o h = absurd (omega arith)
reads_on s_fields (suc f) ts o h = fields_ok f ts o
reads_on s_fields_on f ts o h = fields_on_ok f ts o
reads_on s_some_fields f ts o h = some_fields_ok f ts o
reads_on s_ctors zero ts o h = absurd (omega arith)
reads_on s_ctors (suc f) ts o h = ctors_ok f ts o
reads_on s_ctors_on f ts o h = ctors_on_ok f ts o
reads_on s_params zero ts o h = absurd (omega arith)
reads_on s_params (suc f) ts o h = params_ok f ts o
reads_on s_params_on f ts o h = params_on_ok f ts o
reads_on s_some_params f ts o h = some_params_ok f ts o
reads_on (s_drop d) f ts o h = drop_ok d f ts o
reads_on s_items zero ts o h = absurd (omega arith)
reads_on s_items (suc f) ts o h = items_ok f ts o
