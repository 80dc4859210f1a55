-- Expressions: a step reads what the definition reads.
use Rattle.std.proofs.Common.{◌≡◌, ℕ, zero, suc, ◌+◌, List, ◌∷◌, ◌++◌, refl, ap, ◌∙◌, append_assoc, arith}
use Rattle.language.specs.Base.{Lexeme, same}
use Rattle.language.specs.Syntax.{Expr, op}
use Rattle.language.specs.Text.{peek, skip_one, sign_on, is_lower, is_upper, is_number, sg_lp, sg_rp, sg_comma}
use Rattle.language.specs.Text.{sg_star, sg_and, kw_get, kw_mut, kw_box, on_level, read_more}
use Rattle.code.specs.Instr.{Instr}
use Rattle.reader.specs.Symbol.{s_token, s_expr, s_compared, s_sum, s_product, s_factor, s_more_sum}
use Rattle.reader.specs.Symbol.{s_more_product, s_primary, s_args, s_args_on, step}
use Rattle.reader.proofs.Flat.{flat_e}
use Rattle.reader.proofs.ReadSymbol.{coded, more_code, read_symbol, act}
use Rattle.reader.proofs.Joints.{ways, chain, both, signs, named, pasts}

pub token_ok : (w : Lexeme) (f : ℕ) (ts : List Lexeme) (o : List Instr) → read_symbol (s_token w) f ts o
    ≡ act f o (step (s_token w) ts)
token_ok w f ts o = pasts (λ m. m) (act f o) w ts _ _ refl (λ r. refl)

pub expr_ok : (f : ℕ) (ts : List Lexeme) (o : List Instr) → read_symbol s_expr (suc f) ts o
    ≡ act f o (step s_expr ts)
expr_ok f ts o = grind (arith, append_assoc)

pub compared_ok : (f : ℕ) (ts : List Lexeme) (o : List Instr) → read_symbol s_compared f ts o
    ≡ act f o (step s_compared ts)
compared_ok f ts o = grind arith

pub args_ok : (f : ℕ) (ts : List Lexeme) (o : List Instr) → read_symbol s_args (suc f) ts o
    ≡ act f o (step s_args ts)
args_ok f ts o = grind (arith, append_assoc)

pub args_on_ok : (f : ℕ) (ts : List Lexeme) (o : List Instr) → read_symbol s_args_on f ts o
    ≡ act f o (step s_args_on ts)
args_on_ok f ts o = ways (λ m. m) (act f o) (same (peek ts) sg_comma) (grind arith)
    (pasts (λ m. m) (act f o) sg_rp ts _ _ refl (λ r. refl))

-- a sum's or product's parts come from the left: the code of what is left does not depend on the tree so far
pub more_same : (f : ℕ) (l : ℕ) (e : Expr) (ts : List Lexeme) (o : List Instr) →
    coded flat_e o (read_more f l e ts) ≡ more_code f l ts (o ++ flat_e e)
more_same zero l e ts o = refl
more_same (suc f) l e ts o = signs (coded flat_e o) (λ m. m) (sign_on l (peek ts)) refl
    (λ k. chain (on_level f (l + 1) (skip_one ts)) _ _ _
    (λ e2 r. more_same f l (op k e e2) r o ∙ ap (more_code f l r) (simp append_assoc)))

pub sum_ok : (f : ℕ) (ts : List Lexeme) (o : List Instr) → read_symbol s_sum (suc f) ts o
    ≡ act f o (step s_sum ts)
sum_ok f ts o = both (on_level f 3 ts) _ _ _ _ (λ e r. grind (arith, more_same f 2 e r o))

pub product_ok : (f : ℕ) (ts : List Lexeme) (o : List Instr) → read_symbol s_product (suc f) ts o
    ≡ act f o (step s_product ts)
product_ok f ts o = both (on_level f 4 ts) _ _ _ _ (λ e r. grind (arith, more_same f 3 e r o))

pub factor_ok : (f : ℕ) (ts : List Lexeme) (o : List Instr) → read_symbol s_factor (suc f) ts o
    ≡ act f o (step s_factor ts)
factor_ok f ts o = grind arith

pub more_sum_ok : (f : ℕ) (ts : List Lexeme) (o : List Instr) → read_symbol s_more_sum (suc f) ts o
    ≡ act f o (step s_more_sum ts)
more_sum_ok f ts o = grind arith

pub more_product_ok : (f : ℕ) (ts : List Lexeme) (o : List Instr) → read_symbol s_more_product (suc f) ts o
    ≡ act f o (step s_more_product ts)
more_product_ok f ts o = grind arith

pub primary_ok : (f : ℕ) (t : Lexeme) (ts : List Lexeme) (o : List Instr) →
    read_symbol s_primary (suc f) (t ∷ ts) o ≡ act f o (step s_primary (t ∷ ts))
primary_ok f t ts o =
    let F = coded flat_e o in
    let G = act f o in
    ways F G (same t sg_lp) (grind arith)
    (ways F G (same t kw_get) refl
    (ways F G (same t sg_star) (named F G is_lower ts _ _ refl (λ x r. refl))
    (ways F G (same t sg_and) (ways F G (same (peek ts) kw_mut)
    (named F G is_lower (skip_one ts) _ _ refl (λ x r. refl))
    (named F G is_lower ts _ _ refl (λ x r. refl)))
    (ways F G (same t kw_box) (grind (arith, append_assoc))
    (ways F G (is_number t) (grind arith)
    (ways F G (is_upper t)
    (ways F G (same (peek ts) sg_lp) (grind (arith, append_assoc)) (grind (arith, append_assoc)))
    (ways F G (is_lower t) (ways F G (same (peek ts) sg_lp) (ways F G (same (peek (skip_one ts)) sg_rp)
    (grind (arith, append_assoc)) (grind (arith, append_assoc))) refl) refl)))))))
