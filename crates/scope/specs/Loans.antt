-- The loans of names: entries, each a loan or "as that older name has", and how they lie in words.
use Rattle.std.specs.Prelude.{ℕ, zero, suc, ◌+◌, ◌*◌, Bool, true, false, ◌&&◌, List, [], ◌∷◌, ◌==◌, slice_index}
use Rattle.language.specs.Base.{choose, Lexeme, same}
use Rattle.language.specs.Checks.{Loan, loan}
use Rattle.lexer.specs.Spelling.{spelling}
use Rattle.scope.specs.declared.loans.Entry.{Entry}
use Rattle.scope.specs.declared.loans.Entry.TheVariants.{Shared, Alone, Via}
use Rattle.scope.specs.declared.loans.Asked.{Asked}
use Rattle.scope.specs.declared.loans.Asked.TheVariants.{Any, Alone as One}

pub data Ent : Type 0 where
  leaf : Loan → Ent
  via : ℕ → Ent

abbrev pub leaves : List Ent → List Loan
leaves [] = []
leaves (leaf l ∷ e) = l ∷ leaves e
leaves (via j ∷ e) = leaves e

abbrev pub ent_of : List ℕ → Entry → Ent
ent_of text (Shared x) = leaf (loan (spelling text x) false)
ent_of text (Alone x) = leaf (loan (spelling text x) true)
ent_of text (Via p) = via p.0

-- an entry is two words: how, and of what
abbrev pub entry_in : ℕ → ℕ → Entry
entry_in tag k = choose (tag == 0) (Shared (record { 0 = k })) (choose (tag == 1) (Alone (record { 0 = k })) (Via (record { 0 = k })))

abbrev pub loan_at : List ℕ → ℕ → Entry
loan_at ws i = entry_in (slice_index ws (2 * i)) (slice_index ws (2 * i + 1))

-- n entries from a height on, the oldest first
abbrev pub slice : List ℕ → List ℕ → ℕ → ℕ → List Ent
slice text ws from zero = []
slice text ws from (suc n) = ent_of text (loan_at ws from) ∷ slice text ws (suc from) n

-- a loan of a name; one that's alone
abbrev pub asks : Asked → Lexeme → Loan → Bool
asks Any x l = same l.root x
asks One x l = same l.root x && l.alone

abbrev pub entry_number : Entry → ℕ
entry_number (Shared x) = 0
entry_number (Alone x) = 1
entry_number (Via p) = 2

abbrev pub operand_of : Entry → ℕ
operand_of (Shared x) = x.0
operand_of (Alone x) = x.0
operand_of (Via p) = p.0
