-- Lists as what stands at each number of a range, and the first number of a range that passes a test.
use Rattle.std.specs.Prelude.{ℕ, zero, suc, ◌-◌, Bool, List, [], ◌∷◌}
use Rattle.std.proofs.Math.Option.{Option, some, none}
use Rattle.language.specs.Base.{choose, Lexeme, same}
use Rattle.lexer.specs.declared.name.Name.{Name}
use Rattle.lexer.specs.Spelling.{spelling}
use Rattle.tables.specs.declared.span.Span.{Span}

-- what stands at i and the numbers behind it, n in all
abbrev pub each_from : {A : Type 0} → (ℕ → A) → ℕ → ℕ → List A
each_from f i zero = []
each_from f i (suc n) = f i ∷ each_from f (suc i) n

-- the first of n numbers from i on that passes
abbrev pub first_from : (ℕ → Bool) → ℕ → ℕ → Option ℕ
first_from p i zero = none
first_from p i (suc n) = choose (p i) (some i) (first_from p (suc i) n)

abbrev pub span : ℕ → ℕ → Span
span i n = record { first = i; end = n }

-- of the numbers of a span
abbrev pub all_in : {A : Type 0} → (ℕ → A) → Span → List A
all_in f s = each_from f s.first (s.end - s.first)

abbrev pub first_in : (ℕ → Bool) → Span → Option ℕ
first_in p s = first_from p s.first (s.end - s.first)

-- whether the name of the row with a number is spelled so
abbrev pub is_spelled : {R : Type 0} → List ℕ → (R → Name) → (ℕ → R) → Lexeme → ℕ → Bool
is_spelled text title row word k = same (spelling text (title (row k))) word
