-- Each step eats a token or goes down in rank; the measure falls; stack and output have room.
use Rattle.std.proofs.Common.{◌≡◌, ℕ, suc, pred, ◌+◌, ◌*◌, ◌<◌, ◌≤◌, Bool, true, false, ◌||◌, List, [], ◌∷◌, length, refl, arith}
use mathlib.Core.Option.{Option, some, none}
use Rattle.language.specs.Base.{choose, from_option, Lexeme, same}
use Rattle.language.specs.Text.{peek, skip_one, sign_on, a_way, is_lower, is_upper, is_number, value_of, sg_lp}
use Rattle.language.specs.Text.{sg_rp, sg_lc, sg_rc, sg_comma, sg_colon, sg_gets, sg_star, sg_and, kw_data}
use Rattle.language.specs.Text.{kw_drop, kw_fn, kw_let, kw_put, kw_if, kw_else, kw_while, kw_open, kw_inside}
use Rattle.language.specs.Text.{kw_give, kw_get, kw_mut, kw_box, kw_ref, kw_int}
use Rattle.code.specs.Instr.{i_int, i_op, i_arg, i_if, i_else, i_end_if, i_end_match, i_field}
use Rattle.reader.specs.Symbol.{Symbol, s_emit, s_token, s_expr, s_compared, s_sum, s_product, s_factor}
use Rattle.reader.specs.Symbol.{s_more_sum, s_more_product, s_primary, s_args, s_args_on, s_names, s_some_names}
use Rattle.reader.specs.Symbol.{s_stmts, s_block, s_alts, s_body, s_tail, s_arms, s_type, s_fields, s_fields_on}
use Rattle.reader.specs.Symbol.{s_some_fields, s_ctors, s_ctors_on, s_params, s_params_on, s_some_params}
use Rattle.reader.specs.Symbol.{s_drop, s_items, Action, fail, push, emit, with_name, with_token, step}
use Rattle.reader.specs.Symbol.{step_stmt}
use Rattle.reader.specs.Growth.{grow}
use Rattle.reader.proofs.Ranks.{rank, weight, room, makes, weights, rooms, makes_all, grows, grows_all}
use Rattle.reader.proofs.ReadSymbol.{spent}

abbrev pub Ranks : ℕ → ℕ → List Symbol → Type 0
Ranks f n [] = Unit {0}
Ranks f n (s ∷ ss) = (rank s + 16 * n ≤ f) × Ranks f n ss

-- at most n tokens are left, fuel f is enough for what was put, and measure and room
abbrev pub Within : ℕ → ℕ → ℕ → ℕ → ℕ → ℕ → Action → Type 0
Within n f b c y z fail = Unit {0}
Within n f b c y z (push ss ts) = (length ts ≤ n) × (20 * length ts + weights ss < b)
    × (10 * length ts + rooms ss ≤ c) × (3 * length ts + makes_all ss ≤ y) × (length ts + grows_all ss ≤ z)
    × Ranks f (length ts) ss
Within n f b c y z (emit i ts) = (length ts ≤ n) × (20 * length ts + 1 < b) × (10 * length ts + 1 ≤ c)
    × (3 * length ts + 1 ≤ y) × (length ts + grow i ≤ z)

pub either : (P : Action → Type 0) (b : Bool) {x y : Action} → P x → P y → P (choose b x y)
either P true p q = p
either P false p q = q

pub option : {D : Type 0} (P : Action → Type 0) (m : Option D) {x : Action} {y : D → Action} → P x →
    ((k : D) → P (y k)) → P (from_option m x y)
option P none p q = p
option P (some k) p q = q k

pub a_name : (P : Action → Type 0) (ok : Lexeme → Bool) (ts : List Lexeme)
    (fun : Lexeme → List Lexeme → Action) → P fail →
    ((x : Lexeme) (r : List Lexeme) → suc (length r) ≡ length ts → P (fun x r)) → P (with_name ok ts fun)
a_name P ok [] fun p q = p
a_name P ok (t ∷ ts) fun p q = either P (ok t) (q t ts refl) p

pub a_token : (P : Action → Type 0) (w : Lexeme) (ts : List Lexeme) (fun : List Lexeme → Action) → P fail →
    ((r : List Lexeme) → suc (length r) ≡ length ts → P (fun r)) → P (with_token w ts fun)
a_token P w [] fun p q = p
a_token P w (t ∷ ts) fun p q = either P (same w t) (q ts refl) p

abbrev pub WithinStep : Symbol → ℕ → List Lexeme → Type 0
WithinStep s f ts = Within (length ts) (spent s f) (20 * length ts + weight s) (10 * length ts + room s)
    (3 * length ts + makes s) (length ts + grows s) (step s ts)

pub skipped : (ts : List Lexeme) → length (skip_one ts) ≤ length ts
skipped [] = omega arith
skipped (t ∷ ts) = omega arith

-- a test on the next token with skip_one behind it: at no token it is none of these words
pub next : (P : Action → Type 0) (w0 : ℕ) (w : Lexeme) (ts : List Lexeme)
    (fun : List Lexeme → Action) {y : Action} → ((r : List Lexeme) → suc (length r) ≡ length ts → P (fun r)) →
    P y → P (choose (same (peek ts) (w0 ∷ w)) (fun (skip_one ts)) y)
next P w0 w [] fun p q = q
next P w0 w (t ∷ ts) fun p q = either P (same t (w0 ∷ w)) (p ts refl) q

-- a sign of a level, with skip_one behind it
pub next_sign : (P : Action → Type 0) (l : ℕ) (ts : List Lexeme) (fun : ℕ → List Lexeme → Action) {x : Action} →
    sign_on l [] ≡ none → P x → ((k : ℕ) (r : List Lexeme) → suc (length r) ≡ length ts → P (fun k r)) →
    P (from_option (sign_on l (peek ts)) x (λ k. fun k (skip_one ts)))
next_sign P l [] fun {x} e p q = rw e p
next_sign P l (t ∷ ts) fun e p q = option P (sign_on l t) p (λ k. q k ts refl)

pub primary_within : (f : ℕ) (t : Lexeme) (ts : List Lexeme) → 1 + 16 * suc (length ts) ≤ f →
    WithinStep s_primary f (t ∷ ts)
primary_within f t ts h =
    let P = Within (suc (length ts)) (pred f) (20 * suc (length ts) + 1) (10 * suc (length ts) + 1)
    (3 * suc (length ts) + 0) (suc (length ts) + 0) in
    let k = skipped ts in
    let k2 = skipped (skip_one ts) in
    either P (same t sg_lp) (omega arith)
    (either P (same t kw_get) (omega arith)
    (either P (same t sg_star) (a_name P is_lower ts _ tt (λ x r e. omega arith))
    (either P (same t sg_and) (either P (same (peek ts) kw_mut)
    (a_name P is_lower (skip_one ts) _ tt (λ x r e. omega arith))
    (a_name P is_lower ts _ tt (λ x r e. omega arith)))
    (either P (same t kw_box) (omega arith)
    (either P (is_number t) (option P (value_of t) tt (λ n. omega arith))
    (either P (is_upper t) (either P (same (peek ts) sg_lp) (omega arith) (omega arith))
    (either P (is_lower t) (either P (same (peek ts) sg_lp)
    (either P (same (peek (skip_one ts)) sg_rp) (omega arith) (omega arith)) (omega arith)) tt)))))))

pub stmt_within : (f : ℕ) (t : Lexeme) (ts : List Lexeme) → 1 + 16 * suc (length ts) ≤ f →
    Within (suc (length ts)) (pred f) (20 * suc (length ts) + 1) (10 * suc (length ts) + 1)
    (3 * suc (length ts) + 0) (suc (length ts) + 0) (step_stmt (t ∷ ts))
stmt_within f t ts h =
    let P = Within (suc (length ts)) (pred f) (20 * suc (length ts) + 1) (10 * suc (length ts) + 1)
    (3 * suc (length ts) + 0) (suc (length ts) + 0) in
    either P (same t kw_let) (a_name P is_lower ts _ tt (λ x l1 e1. a_token P sg_gets l1 _ tt
    (λ l2 e2. let k = skipped l2 in either P (same (peek l2) kw_open)
    (a_name P is_lower (skip_one l2) _ tt (λ y l3 e3. omega arith))
    (either P (same (peek l2) kw_inside)
    (a_name P is_lower (skip_one l2) _ tt (λ y l3 e3. omega arith)) (omega arith)))))
    (either P (same t kw_put) (omega arith)
    (either P (same t sg_star)
    (a_name P is_lower ts _ tt (λ x l1 e1. a_token P sg_gets l1 _ tt (λ l2 e2. omega arith)))
    (either P (same t kw_if) (omega arith)
    (either P (same t kw_while) (omega arith)
    (option P (a_way t) (either P (is_lower t) (a_token P sg_gets ts _ tt (λ l1 e1. omega arith)) tt)
    (λ w. a_name P is_lower ts _ tt (λ x l1 e1. a_token P sg_lc l1 _ tt (λ l2 e2. omega arith))))))))

pub tail_within : (f : ℕ) (ts : List Lexeme) → 5 + 16 * length ts ≤ f → WithinStep s_tail f ts
tail_within f ts h =
    let P =
    Within (length ts) f (20 * length ts + 11) (10 * length ts + 5) (3 * length ts + 1) (length ts + 0) in
    let k = skipped ts in
    next P 105 (102 ∷ []) ts (λ r. push
    (s_expr ∷ s_emit i_if ∷ s_body ∷ s_token kw_else ∷ s_emit i_else ∷ s_body ∷ s_emit i_end_if ∷ []) r)
    (λ r e. omega arith) (option P (a_way (peek ts)) (omega arith)
    (λ w. a_name P is_lower (skip_one ts) _ tt
    (λ x l1 e1. a_token P sg_lc l1 _ tt (λ l2 e2. omega arith))))

pub type_within : (f : ℕ) (t : Lexeme) (ts : List Lexeme) → 1 + 16 * suc (length ts) ≤ f →
    WithinStep s_type f (t ∷ ts)
type_within f t ts h =
    let P = Within (suc (length ts)) (pred f) (20 * suc (length ts) + 1) (10 * suc (length ts) + 1)
    (3 * suc (length ts) + 0) (suc (length ts) + 0) in
    either P (same t kw_int) (omega arith) (either P (same t kw_box) (omega arith)
    (either P (same t kw_ref) (omega arith)
    (either P (same t kw_mut) (omega arith) (either P (is_lower t) (omega arith) tt))))

pub item_within : (f : ℕ) (t : Lexeme) (ts : List Lexeme) → 1 + 16 * suc (length ts) ≤ f →
    WithinStep s_items f (t ∷ ts)
item_within f t ts h =
    let P = Within (suc (length ts)) (pred f) (20 * suc (length ts) + 1) (10 * suc (length ts) + 1)
    (3 * suc (length ts) + 0) (suc (length ts) + 0) in
    either P (same t kw_data)
    (a_name P is_lower ts _ tt (λ x l1 e1. a_token P sg_gets l1 _ tt (λ l2 e2. omega arith)))
    (either P (same t kw_fn)
    (a_name P is_lower ts _ tt (λ x l1 e1. a_token P sg_lp l1 _ tt (λ l2 e2. omega arith))) tt)

pub within : (s : Symbol) (f : ℕ) (ts : List Lexeme) → rank s + 16 * length ts ≤ f → WithinStep s f ts
within (s_emit i) f ts h = omega arith
within (s_token w) f ts h = a_token (Within (length ts) f (20 * length ts + 1) (10 * length ts + 1)
    (3 * length ts + 0) (length ts + 0)) w ts _ tt (λ r e. omega arith)
within s_expr f ts h =
    let p : Within (length ts) (pred f) (20 * length ts + 8) (10 * length ts + 4) (3 * length ts + 0)
    (length ts + 0) (push (s_sum ∷ s_compared ∷ []) ts) = omega arith in p
within s_compared f ts h = next_sign
    (Within (length ts) f (20 * length ts + 1) (10 * length ts + 1) (3 * length ts + 0) (length ts + 0)) 1 ts
    (λ k r. push (s_emit i_int ∷ s_sum ∷ s_emit (i_op k) ∷ []) r) refl (omega arith) (λ k r e. omega arith)
within s_sum f ts h =
    let p : Within (length ts) (pred f) (20 * length ts + 6) (10 * length ts + 3) (3 * length ts + 0)
    (length ts + 0) (push (s_product ∷ s_more_sum ∷ []) ts) = omega arith in p
within s_product f ts h =
    let p : Within (length ts) (pred f) (20 * length ts + 4) (10 * length ts + 2) (3 * length ts + 0)
    (length ts + 0) (push (s_factor ∷ s_more_product ∷ []) ts) = omega arith in p
within s_factor f ts h =
    let p : Within (length ts) (pred f) (20 * length ts + 2) (10 * length ts + 1) (3 * length ts + 0)
    (length ts + 0) (push (s_primary ∷ []) ts) = omega arith in p
within s_more_sum f ts h = next_sign (Within (length ts) (pred f) (20 * length ts + 1) (10 * length ts + 1)
    (3 * length ts + 0) (length ts + 0)) 2 ts
    (λ k r. push (s_emit i_int ∷ s_product ∷ s_emit (i_op k) ∷ s_more_sum ∷ []) r) refl (omega arith)
    (λ k r e. omega arith)
within s_more_product f ts h = next_sign (Within (length ts) (pred f) (20 * length ts + 1) (10 * length ts + 1)
    (3 * length ts + 0) (length ts + 0)) 3 ts
    (λ k r. push (s_emit i_int ∷ s_factor ∷ s_emit (i_op k) ∷ s_more_product ∷ []) r) refl (omega arith)
    (λ k r e. omega arith)
within s_primary f [] h = tt
within s_primary f (t ∷ ts) h = primary_within f t ts h
within s_args f ts h =
    let p : Within (length ts) (pred f) (20 * length ts + 12) (10 * length ts + 6) (3 * length ts + 1)
    (length ts + 0) (push (s_expr ∷ s_emit i_arg ∷ s_args_on ∷ []) ts) = omega arith in p
within s_args_on f ts h =
    let P =
    Within (length ts) f (20 * length ts + 1) (10 * length ts + 1) (3 * length ts + 0) (length ts + 0) in
    next P 44 [] ts (λ r. push (s_args ∷ []) r) (λ r e. omega arith)
    (a_token P sg_rp ts _ tt (λ r e. omega arith))
within s_names f ts h =
    let P = Within (length ts) (pred f) (20 * length ts + 1) (10 * length ts + 1) (3 * length ts + 0)
    (length ts + 0) in
    a_name P is_lower ts _ tt (λ x l1 e1. let k = skipped l1 in
    either P (same (peek l1) sg_comma) (omega arith) (a_token P sg_rp l1 _ tt (λ r e. omega arith)))
within s_some_names f ts h = next (Within (length ts) f (20 * length ts + 1) (10 * length ts + 1)
    (3 * length ts + 0) (length ts + 0)) 40 [] ts (λ r. push (s_names ∷ []) r) (λ r e. omega arith)
    (omega arith)
within s_stmts f [] h = tt
within s_stmts f (t ∷ ts) h = either (Within (suc (length ts)) (pred f) (20 * suc (length ts) + 1)
    (10 * suc (length ts) + 1) (3 * suc (length ts) + 0) (suc (length ts) + 0))
    (same t sg_rc || same t kw_give) (omega arith) (stmt_within f t ts h)
within s_block f ts h = a_token (Within (length ts) (pred (pred f)) (20 * length ts + 1) (10 * length ts + 1)
    (3 * length ts + 0) (length ts + 0)) sg_lc ts _ tt (λ r e. omega arith)
within s_alts f ts h =
    let P = Within (length ts) (pred f) (20 * length ts + 1) (10 * length ts + 1) (3 * length ts + 0)
    (length ts + 0) in
    next P 125 [] ts (λ r. emit i_end_match r) (λ r e. omega arith)
    (a_name P is_upper ts _ tt (λ c r e. omega arith))
within s_body f ts h = a_token (Within (length ts) (pred (pred f)) (20 * length ts + 1) (10 * length ts + 1)
    (3 * length ts + 0) (length ts + 0)) sg_lc ts _ tt (λ r e. omega arith)
within s_tail f ts h = tail_within f ts h
within s_arms f ts h =
    let P = Within (length ts) (pred f) (20 * length ts + 1) (10 * length ts + 1) (3 * length ts + 0)
    (length ts + 0) in
    next P 125 [] ts (λ r. emit i_end_match r) (λ r e. omega arith)
    (a_name P is_upper ts _ tt (λ c r e. omega arith))
within s_type f [] h = tt
within s_type f (t ∷ ts) h = type_within f t ts h
within s_fields f ts h =
    let p : Within (length ts) (pred f) (20 * length ts + 5) (10 * length ts + 3) (3 * length ts + 1)
    (length ts + 0) (push (s_type ∷ s_emit i_field ∷ s_fields_on ∷ []) ts) = omega arith in p
within s_fields_on f ts h =
    let P =
    Within (length ts) f (20 * length ts + 1) (10 * length ts + 1) (3 * length ts + 0) (length ts + 0) in
    next P 44 [] ts (λ r. push (s_fields ∷ []) r) (λ r e. omega arith)
    (a_token P sg_rp ts _ tt (λ r e. omega arith))
within s_some_fields f ts h = next (Within (length ts) f (20 * length ts + 1) (10 * length ts + 1)
    (3 * length ts + 0) (length ts + 0)) 40 [] ts (λ r. push (s_fields ∷ []) r) (λ r e. omega arith)
    (omega arith)
within s_ctors f ts h = a_name (Within (length ts) (pred f) (20 * length ts + 1) (10 * length ts + 1)
    (3 * length ts + 0) (length ts + 0)) is_upper ts _ tt (λ c r e. omega arith)
within s_ctors_on f ts h = next (Within (length ts) f (20 * length ts + 1) (10 * length ts + 1)
    (3 * length ts + 0) (length ts + 0)) 124 [] ts (λ r. push (s_ctors ∷ []) r) (λ r e. omega arith)
    (omega arith)
within s_params f ts h =
    let P = Within (length ts) (pred f) (20 * length ts + 1) (10 * length ts + 1) (3 * length ts + 0)
    (length ts + 0) in
    a_name P is_lower ts _ tt (λ x l1 e1. a_token P sg_colon l1 _ tt (λ l2 e2. omega arith))
within s_params_on f ts h =
    let P =
    Within (length ts) f (20 * length ts + 1) (10 * length ts + 1) (3 * length ts + 0) (length ts + 0) in
    next P 44 [] ts (λ r. push (s_params ∷ []) r) (λ r e. omega arith)
    (a_token P sg_rp ts _ tt (λ r e. omega arith))
within s_some_params f ts h = next (Within (length ts) f (20 * length ts + 2) (10 * length ts + 1)
    (3 * length ts + 0) (length ts + 0)) 41 [] ts (λ r. push [] r) (λ r e. omega arith) (omega arith)
within (s_drop d) f ts h =
    let P =
    Within (length ts) f (20 * length ts + 4) (10 * length ts + 2) (3 * length ts + 1) (length ts + 1) in
    let k = skipped ts in
    either P (same (peek ts) kw_drop) (a_name P is_lower (skip_one ts) _ tt (λ x r e. omega arith))
    (omega arith)
within s_items f [] h = omega arith
within s_items f (t ∷ ts) h = item_within f t ts h
