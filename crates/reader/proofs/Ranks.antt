-- Numbers of each symbol: fuel that its reading needs, measure, stack and output, each above so
-- much for each token left.
use Rattle.std.proofs.Common.{ℕ, ◌+◌, List, [], ◌∷◌}
use Rattle.reader.specs.Growth.{grow}
use Rattle.reader.specs.Symbol.{Symbol, s_emit, s_token, s_expr, s_compared, s_sum, s_product, s_factor}
use Rattle.reader.specs.Symbol.{s_more_sum, s_more_product, s_primary, s_args, s_args_on, s_names, s_some_names}
use Rattle.reader.specs.Symbol.{s_stmts, s_block, s_alts, s_body, s_tail, s_arms, s_type, s_fields, s_fields_on}
use Rattle.reader.specs.Symbol.{s_some_fields, s_ctors, s_ctors_on, s_params, s_params_on, s_some_params}
use Rattle.reader.specs.Symbol.{s_drop, s_items}

-- fuel, above 16 for each token
abbrev pub rank : Symbol → ℕ
rank (s_emit i) = 0
rank (s_token w) = 0
rank s_expr = 5
rank s_compared = 0
rank s_sum = 4
rank s_product = 3
rank s_factor = 2
rank s_more_sum = 1
rank s_more_product = 1
rank s_primary = 1
rank s_args = 6
rank s_args_on = 0
rank s_names = 1
rank s_some_names = 0
rank s_stmts = 1
rank s_block = 2
rank s_alts = 1
rank s_body = 2
rank s_tail = 5
rank s_arms = 1
rank s_type = 1
rank s_fields = 2
rank s_fields_on = 0
rank s_some_fields = 0
rank s_ctors = 1
rank s_ctors_on = 0
rank s_params = 1
rank s_params_on = 0
rank s_some_params = 1
rank (s_drop d) = 0
rank s_items = 1

-- measure, above 20 for each token
abbrev pub weight : Symbol → ℕ
weight (s_emit i) = 2
weight (s_token w) = 1
weight s_expr = 8
weight s_compared = 1
weight s_sum = 6
weight s_product = 4
weight s_factor = 2
weight s_more_sum = 1
weight s_more_product = 1
weight s_primary = 1
weight s_args = 12
weight s_args_on = 1
weight s_names = 1
weight s_some_names = 1
weight s_stmts = 1
weight s_block = 1
weight s_alts = 1
weight s_body = 1
weight s_tail = 11
weight s_arms = 1
weight s_type = 1
weight s_fields = 5
weight s_fields_on = 1
weight s_some_fields = 1
weight s_ctors = 1
weight s_ctors_on = 1
weight s_params = 1
weight s_params_on = 1
weight s_some_params = 2
weight (s_drop d) = 4
weight s_items = 1

-- places on the stack and in the output, above 10 for each token
abbrev pub room : Symbol → ℕ
room (s_emit i) = 1
room (s_token w) = 1
room s_expr = 4
room s_compared = 1
room s_sum = 3
room s_product = 2
room s_factor = 1
room s_more_sum = 1
room s_more_product = 1
room s_primary = 1
room s_args = 6
room s_args_on = 1
room s_names = 1
room s_some_names = 1
room s_stmts = 1
room s_block = 1
room s_alts = 1
room s_body = 1
room s_tail = 5
room s_arms = 1
room s_type = 1
room s_fields = 3
room s_fields_on = 1
room s_some_fields = 1
room s_ctors = 1
room s_ctors_on = 1
room s_params = 1
room s_params_on = 1
room s_some_params = 1
room (s_drop d) = 2
room s_items = 1

-- instructions made, above 3 for each token
abbrev pub makes : Symbol → ℕ
makes (s_emit i) = 1
makes (s_token w) = 0
makes s_expr = 0
makes s_compared = 0
makes s_sum = 0
makes s_product = 0
makes s_factor = 0
makes s_more_sum = 0
makes s_more_product = 0
makes s_primary = 0
makes s_args = 1
makes s_args_on = 0
makes s_names = 0
makes s_some_names = 0
makes s_stmts = 0
makes s_block = 0
makes s_alts = 0
makes s_body = 0
makes s_tail = 1
makes s_arms = 0
makes s_type = 0
makes s_fields = 1
makes s_fields_on = 0
makes s_some_fields = 0
makes s_ctors = 0
makes s_ctors_on = 0
makes s_params = 0
makes s_params_on = 0
makes s_some_params = 0
makes (s_drop d) = 1
makes s_items = 0

abbrev pub makes_all : List Symbol → ℕ
makes_all [] = 0
makes_all (s ∷ ss) = makes s + makes_all ss

abbrev pub weights : List Symbol → ℕ
weights [] = 0
weights (s ∷ ss) = weight s + weights ss

abbrev pub rooms : List Symbol → ℕ
rooms [] = 0
rooms (s ∷ ss) = room s + rooms ss

-- above 1 for each token
abbrev pub grows : Symbol → ℕ
grows (s_emit i) = grow i
grows (s_token w) = 0
grows s_expr = 0
grows s_compared = 0
grows s_sum = 0
grows s_product = 0
grows s_factor = 0
grows s_more_sum = 0
grows s_more_product = 0
grows s_primary = 0
grows s_args = 0
grows s_args_on = 0
grows s_names = 0
grows s_some_names = 0
grows s_stmts = 0
grows s_block = 0
grows s_alts = 0
grows s_body = 0
grows s_tail = 0
grows s_arms = 0
grows s_type = 0
grows s_fields = 0
grows s_fields_on = 0
grows s_some_fields = 0
grows s_ctors = 0
grows s_ctors_on = 0
grows s_params = 0
grows s_params_on = 0
grows s_some_params = 0
grows (s_drop d) = 1
grows s_items = 0

abbrev pub grows_all : List Symbol → ℕ
grows_all [] = 0
grows_all (s ∷ ss) = grows s + grows_all ss
