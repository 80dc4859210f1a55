-- What the definition reads at each symbol, with fuel, and what an action makes of it.
use Rattle.std.proofs.Common.{ℕ, zero, suc, pred, ◌+◌, List, [], ◌∷◌, ◌++◌}
use mathlib.Core.Option.{Option, some, none}
use Rattle.language.specs.Base.{choose, from_option, if_some, Lexeme, same}
use Rattle.language.specs.Text.{Found, found, go_on, expect, read_name, peek, skip_one, sign_on, is_lower}
use Rattle.language.specs.Text.{sg_lp, sg_rp, sg_comma, sg_semi, sg_colon, sg_bar, sg_gets, kw_data, kw_drop}
use Rattle.language.specs.Text.{kw_fn, read_value, on_level, read_smallest, read_values, read_statements}
use Rattle.language.specs.Text.{read_names, read_type, read_types}
use Rattle.language.specs.Text as text
use Rattle.code.specs.Instr.{Instr, i_int, i_op, i_apply, i_data}
use Rattle.code.specs.Instr.{Item, a_data, a_fn}
use Rattle.reader.specs.Symbol.{Symbol, s_emit, s_token, s_expr, s_compared, s_sum, s_product, s_factor}
use Rattle.reader.specs.Symbol.{s_more_sum, s_more_product, s_primary, s_args, s_args_on, s_names, s_some_names}
use Rattle.reader.specs.Symbol.{s_stmts, s_block, s_alts, s_body, s_tail, s_arms, s_type, s_fields, s_fields_on}
use Rattle.reader.specs.Symbol.{s_some_fields, s_ctors, s_ctors_on, s_params, s_params_on, s_some_params}
use Rattle.reader.specs.Symbol.{s_drop, s_items, Action, fail, push, emit}
use Rattle.reader.proofs.Flat.{flat_e, flat_es, flat_names, flat_ss, flat_alts, flat_body, flat_tail, flat_arms}
use Rattle.reader.proofs.Flat.{flat_ty, flat_fields, flat_ctors, flat_params, flat_items}

abbrev pub with_item : Item → Option (List Item) → Option (List Item)
with_item i m = if_some m (λ is. some (i ∷ is))

abbrev pub items_of : ℕ → List Lexeme → Option (List Item)
items_of zero left = none
items_of (suc fuel) [] = some []
items_of (suc fuel) (piece ∷ left) =
    choose (same piece kw_data) (go_on (read_name is_lower left)
    (λ decl left1. expect sg_gets left1 (λ left2. go_on (text.ctors fuel left2)
    (λ bytes left3. go_on (choose (same (peek left3) kw_drop)
    (read_name is_lower (skip_one left3)) (found [] left3))
    (λ fun left4. expect sg_semi left4 (λ left5. with_item
    (a_data (record { name = decl; ctors = bytes; last = fun })) (items_of fuel left5)))))))
    (choose (same piece kw_fn) (go_on (read_name is_lower left)
    (λ fun left1. expect sg_lp left1 (λ left2. go_on (text.read_pars fuel left2)
    (λ ps left3. expect sg_colon left3 (λ left4. go_on (read_type fuel left4)
    (λ one1 left5. go_on (text.a_body fuel left5)
    (λ two1 bytes. with_item
    (a_fn (record { name = fun; pars = ps; ret = one1; does = two1 }))
    (items_of fuel bytes)))))))) none)

abbrev pub coded : {A : Type 0} → (A → List Instr) → List Instr → Option (Found A) → Option (Found (List Instr))
coded code o m = go_on m (λ a r. found (o ++ code a) r)

-- what is left of a sum or product, behind its first part
abbrev pub more_code : ℕ → ℕ → List Lexeme → List Instr → Option (Found (List Instr))
more_code zero l ts o = none
more_code (suc f) l ts o = from_option (sign_on l (peek ts)) (found o ts)
    (λ k. go_on (on_level f (l + 1) (skip_one ts))
    (λ e r. more_code f l r (((o ++ (i_int ∷ [])) ++ flat_e e) ++ (i_op k ∷ []))))

-- what a symbol reads, with fuel
abbrev pub read_symbol : Symbol → ℕ → List Lexeme → List Instr → Option (Found (List Instr))
read_symbol (s_emit i) f ts o = found (o ++ (i ∷ [])) ts
read_symbol (s_token w) f ts o = expect w ts (λ r. found o r)
read_symbol s_expr f ts o = coded flat_e o (read_value f ts)
read_symbol s_compared f ts o = from_option (sign_on 1 (peek ts)) (found o ts)
    (λ k. go_on (on_level f 2 (skip_one ts))
    (λ e r. found (((o ++ (i_int ∷ [])) ++ flat_e e) ++ (i_op k ∷ [])) r))
read_symbol s_sum f ts o = coded flat_e o (on_level f 2 ts)
read_symbol s_product f ts o = coded flat_e o (on_level f 3 ts)
read_symbol s_factor f ts o = coded flat_e o (on_level f 4 ts)
read_symbol s_more_sum f ts o = more_code f 2 ts o
read_symbol s_more_product f ts o = more_code f 3 ts o
read_symbol s_primary f ts o = coded flat_e o (read_smallest f ts)
read_symbol s_args f ts o = coded flat_es o (read_values f ts)
read_symbol s_args_on f ts o = choose (same (peek ts) sg_comma) (coded flat_es o (read_values f (skip_one ts)))
    (expect sg_rp ts (λ r. found (o ++ (i_apply ∷ [])) r))
read_symbol s_names f ts o = coded flat_names o (read_names f ts)
read_symbol s_some_names f ts o = coded flat_names o (text.some_names f ts)
read_symbol s_stmts f ts o = coded flat_ss o (read_statements (suc f) ts)
read_symbol s_block f ts o = coded flat_ss o (text.block f ts)
read_symbol s_alts f ts o = coded flat_alts o (text.alts f ts)
read_symbol s_body f ts o = coded flat_body o (text.a_body f ts)
read_symbol s_tail f ts o = coded flat_tail o (text.a_tail (suc f) ts)
read_symbol s_arms f ts o = coded flat_arms o (text.arms f ts)
read_symbol s_type f ts o = coded flat_ty o (read_type f ts)
read_symbol s_fields f ts o = coded flat_fields o (read_types f ts)
read_symbol s_fields_on f ts o = choose (same (peek ts) sg_comma)
    (coded flat_fields o (read_types f (skip_one ts))) (expect sg_rp ts (λ r. found o r))
read_symbol s_some_fields f ts o =
    coded flat_fields o (choose (same (peek ts) sg_lp) (read_types f (skip_one ts)) (found [] ts))
read_symbol s_ctors f ts o = coded flat_ctors o (text.ctors f ts)
read_symbol s_ctors_on f ts o =
    choose (same (peek ts) sg_bar) (coded flat_ctors o (text.ctors f (skip_one ts))) (found o ts)
read_symbol s_params f ts o = coded flat_params o (text.pars f ts)
read_symbol s_params_on f ts o = choose (same (peek ts) sg_comma)
    (coded flat_params o (text.pars f (skip_one ts))) (expect sg_rp ts (λ r. found o r))
read_symbol s_some_params f ts o = coded flat_params o (text.read_pars f ts)
read_symbol (s_drop d) f ts o = go_on
    (choose (same (peek ts) kw_drop) (read_name is_lower (skip_one ts)) (found [] ts))
    (λ w r. expect sg_semi r (λ r1. found (o ++ (i_data d w ∷ [])) r1))
read_symbol s_items f ts o = if_some (items_of f ts) (λ is. found (o ++ flat_items is) [])

abbrev pub spent : Symbol → ℕ → ℕ
spent (s_emit i) f = f
spent (s_token w) f = f
spent s_expr f = pred f
spent s_compared f = f
spent s_sum f = pred f
spent s_product f = pred f
spent s_factor f = pred f
spent s_more_sum f = pred f
spent s_more_product f = pred f
spent s_primary f = pred f
spent s_args f = pred f
spent s_args_on f = f
spent s_names f = pred f
spent s_some_names f = f
spent s_stmts f = pred f
spent s_block f = pred (pred f)
spent s_alts f = pred f
spent s_body f = pred (pred f)
spent s_tail f = f
spent s_arms f = pred f
spent s_type f = pred f
spent s_fields f = pred f
spent s_fields_on f = f
spent s_some_fields f = f
spent s_ctors f = pred f
spent s_ctors_on f = f
spent s_params f = pred f
spent s_params_on f = f
spent s_some_params f = f
spent (s_drop d) f = f
spent s_items f = pred f

abbrev pub read_symbols : ℕ → List Symbol → List Lexeme → List Instr → Option (Found (List Instr))
read_symbols f [] ts o = found o ts
read_symbols f (s ∷ ss) ts o = go_on (read_symbol s f ts o) (λ o1 r. read_symbols f ss r o1)

abbrev pub act : ℕ → List Instr → Action → Option (Found (List Instr))
act f o fail = none
act f o (push ss ts) = read_symbols f ss ts o
act f o (emit i ts) = found (o ++ (i ∷ [])) ts
