use Rattle.std.proofs.Common.{ℕ, ◌-◌, rules, refl, [], ◌∷◌, ◌∙◌}
use borrow.Author.Tests.{tests}
use Rattle.std.proofs.lemmas.Iterator.{YieldsList-from_range}
use Rattle.std.proofs.lemmas.Iterator.Search.{any_from_yields_List}
use Rattle.language.specs.Base.{some_of}
use Rattle.lexer.specs.Spelling.{spelling}
use Rattle.scope.specs.Loans.{asks, leaves, ent_of, loan_at}
use Rattle.scope.proofs.LoanWords.{any_loan}
use Rattle.scope.proofs.loans.is_lent.Goals as goal

pub returns : goal.returns
returns c =
    let test = λ (i : ℕ). some_of (asks c.args.asked (spelling c.args.text.now c.args.name)) (leaves (ent_of c.args.text.now (loan_at c.args.words.now i) ∷ [])) in
    any_from_yields_List test _ _ _ c.any.ensures.ran (YieldsList-from_range c.args.from c.args.to _ refl refl) (λ x b q k. search (rules, tests)) ∙ any_loan (asks c.args.asked (spelling c.args.text.now c.args.name)) c.args.text.now c.args.words.now c.args.from (c.args.to - c.args.from)
