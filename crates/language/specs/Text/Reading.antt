-- How a reader goes on: what was read and the tokens behind it; names, types and lists of them.
use Rattle.std.specs.Prelude.{Bool, List, [], ◌∷◌, ℕ, zero, suc}
use Rattle.std.proofs.Math.Option.{Option, some, none}
use Rattle.language.specs.Base.{choose, if_some, Lexeme, same}
use Rattle.language.specs.Syntax.{Ty, int, dat, box, ref, mut}
use Rattle.language.specs.Text.Words.{kw_int, kw_box, kw_ref, kw_mut, sg_lp, sg_rp, sg_comma, is_lower}

-- what was read, and the tokens behind it
pub record Found (A : Type 0) : Type 0 where
  pub what : A
  pub behind : List Lexeme

abbrev pub found : {A : Type 0} → A → List Lexeme → Option (Found A)
found it left = some (record { what = it; behind = left })

abbrev pub go_on : {A C : Type 0} → Option (Found A) → (A → List Lexeme → Option C) → Option C
go_on seen next = if_some seen (λ f. next f.what f.behind)

-- this token must come next
abbrev pub expect : {C : Type 0} → Lexeme → List Lexeme → (List Lexeme → Option C) → Option C
expect token [] next = none
expect token (t ∷ left) next = choose (same token t) (next left) none

abbrev pub read_name : (Lexeme → Bool) → List Lexeme → Option (Found Lexeme)
read_name ok [] = none
read_name ok (t ∷ left) = choose (ok t) (found t left) none

-- the next token, [] at the end; and what stands behind it
abbrev pub peek : List Lexeme → Lexeme
peek [] = []
peek (t ∷ left) = t

abbrev pub skip_one : List Lexeme → List Lexeme
skip_one [] = []
skip_one (t ∷ left) = left

-- int, a data type's name, box t, ref t, mut t. Fuel here and below goes down with each call inside; `reads` begins with more than any text needs
abbrev pub read_type : ℕ → List Lexeme → Option (Found Ty)
read_type zero left = none
read_type (suc fuel) [] = none
read_type (suc fuel) (t ∷ left) =
    choose (same t kw_int) (found int left)
    (choose (same t kw_box) (go_on (read_type fuel left) (λ ty left1. found (box ty) left1))
    (choose (same t kw_ref) (go_on (read_type fuel left) (λ ty left1. found (ref ty) left1))
    (choose (same t kw_mut) (go_on (read_type fuel left) (λ ty left1. found (mut ty) left1))
    (choose (is_lower t) (found (dat t) left)
    none))))

-- one name or more, with commas between, up to )
abbrev pub read_names : ℕ → List Lexeme → Option (Found (List Lexeme))
read_names zero left = none
read_names (suc fuel) left = go_on (read_name is_lower left) (λ x left1.
    choose (same (peek left1) sg_comma)
    (go_on (read_names fuel (skip_one left1)) (λ xs left2. found (x ∷ xs) left2))
    (expect sg_rp left1 (λ left2. found (x ∷ []) left2)))

-- a pattern's names: in parentheses, or none
abbrev pub some_names : ℕ → List Lexeme → Option (Found (List Lexeme))
some_names fuel left = choose (same (peek left) sg_lp) (read_names fuel (skip_one left)) (found [] left)

-- one type or more, with commas between, up to )
abbrev pub read_types : ℕ → List Lexeme → Option (Found (List Ty))
read_types zero left = none
read_types (suc fuel) left = go_on (read_type fuel left) (λ ty left1.
    choose (same (peek left1) sg_comma)
    (go_on (read_types fuel (skip_one left1)) (λ tys left2. found (ty ∷ tys) left2))
    (expect sg_rp left1 (λ left2. found (ty ∷ []) left2)))
