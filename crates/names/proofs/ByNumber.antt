-- Names of canonical code are compared by their places.
use Rattle.std.proofs.Common.{◌≡◌, ℕ, ◌<◌, eqb, List, Some, sym, ap, ◌∙◌, eq-eqb, eqb-true}
use Rattle.std.specs.Cmp.{both_ways}
use Rattle.language.specs.Base.{same}
use Rattle.lexer.specs.Spelling.{lexeme_at}
use Rattle.lexer.proofs.Same.{same_is, same_refl}
use Rattle.code.specs.declared.instr.Instr.{Instr}
use Rattle.code.specs.Words.{instr_at}
use Rattle.names.specs.Canonical.{Uses, Canonical}

pub by_number : (text words : List ℕ) (n : ℕ) → Canonical text words n → (k l : ℕ) (i j : Instr) (x y : ℕ) → k < n → l < n → instr_at words k ≡ Some i → instr_at words l ≡ Some j → Uses i x → Uses j y → same (lexeme_at text x) (lexeme_at text y) ≡ eqb x y
by_number text words n canon k l i j x y hk hl ik jl ux uy =
    both_ways (same (lexeme_at text x) (lexeme_at text y)) (eqb x y)
    (λ e. eq-eqb x y (canon k l i j x y hk hl ik jl ux uy (same_is (lexeme_at text x) (lexeme_at text y) e)))
    (λ e. ap (λ z. same (lexeme_at text x) (lexeme_at text z)) (sym (eqb-true x y e)) ∙ same_refl (lexeme_at text x))
