-- Items: data types and functions; and a whole text.
use Rattle.std.specs.Prelude.{List, [], ◌∷◌, ◌++◌, ℕ, zero, suc, ◌+◌, ◌*◌, length}
use Rattle.std.proofs.Math.Option.{Option, some, none}
use Rattle.language.specs.Base.{choose, Lexeme, same}
use Rattle.language.specs.Syntax.{Ctor, Data, Param, Fn, Prog}
use Rattle.language.specs.Text.Lexer.{idle, tokenize}
use Rattle.language.specs.Text.Words.{kw_data, kw_drop, kw_fn, sg_lp, sg_rp, sg_comma, sg_semi, sg_colon, sg_bar, sg_gets, is_upper, is_lower}
use Rattle.language.specs.Text.Reading.{Found, found, go_on, expect, read_name, peek, skip_one, read_type, read_types}
use Rattle.language.specs.Text.Statements.{a_body}

-- C | D(t, ..) ..
abbrev pub ctors : ℕ → List Lexeme → Option (Found (List Ctor))
ctors zero left = none
ctors (suc fuel) left = go_on (read_name is_upper left) (λ c left1.
    go_on (choose (same (peek left1) sg_lp) (read_types fuel (skip_one left1)) (found [] left1)) (λ tys left2.
    choose (same (peek left2) sg_bar)
    (go_on (ctors fuel (skip_one left2)) (λ cs left3. found (record { name = c; fields = tys } ∷ cs) left3))
    (found (record { name = c; fields = tys } ∷ []) left2)))

-- x: t, .. up to )
abbrev pub pars : ℕ → List Lexeme → Option (Found (List Param))
pars zero left = none
pars (suc fuel) left = go_on (read_name is_lower left) (λ x left1. expect sg_colon left1 (λ left2.
    go_on (read_type fuel left2) (λ t left3.
    choose (same (peek left3) sg_comma)
    (go_on (pars fuel (skip_one left3)) (λ ps left4. found (record { name = x; ty = t } ∷ ps) left4))
    (expect sg_rp left3 (λ left4. found (record { name = x; ty = t } ∷ []) left4)))))

abbrev pub read_pars : ℕ → List Lexeme → Option (Found (List Param))
read_pars fuel left = choose (same (peek left) sg_rp) (found [] (skip_one left)) (pars fuel left)

-- all items; ds and fs are those that are read already
abbrev pub read_items : ℕ → List Lexeme → List Data → List Fn → Option Prog
read_items zero left ds fs = none
read_items (suc fuel) [] ds fs = some (record { datas = ds; funs = fs })
read_items (suc fuel) (token ∷ left) ds fs =
    choose (same token kw_data)
    (go_on (read_name is_lower left) (λ d left1. expect sg_gets left1 (λ left2.
    go_on (ctors fuel left2) (λ cs left3.
    go_on (choose (same (peek left3) kw_drop) (read_name is_lower (skip_one left3)) (found [] left3)) (λ f left4.
    expect sg_semi left4 (λ left5.
    read_items fuel left5 (ds ++ (record { name = d; ctors = cs; last = f } ∷ [])) fs))))))
    (choose (same token kw_fn)
    (go_on (read_name is_lower left) (λ f left1. expect sg_lp left1 (λ left2.
    go_on (read_pars fuel left2) (λ ps left3. expect sg_colon left3 (λ left4.
    go_on (read_type fuel left4) (λ t left5.
    go_on (a_body fuel left5) (λ b left6.
    read_items fuel left6 ds (fs ++ (record { name = f; pars = ps; ret = t; does = b } ∷ [])))))))))
    none)

-- the program that a text is, if it is one; with more fuel than any reading needs
abbrev pub reads : List ℕ → Option Prog
reads text = read_items (16 * (1 + length (tokenize idle text))) (tokenize idle text) [] []
