use Rattle.std.proofs.Common.{refl, rules}
use Rattle.lexer.specs.declared.token.Keyword.TheVariants.{If, Inside, Int}
use Rattle.lexer.proofs.Words.{three}
use Rattle.lexer.proofs.word.keyword.Goals as goal

pub returns-in-105 : goal.returns-in-105
returns-in-105 c =
    three c.args.lexeme.now 105 If Inside Int _ _ _ _ _ (search rules) (λ v. refl) c.exactly-in-105.ensures c.exactly-in-105-2.ensures c.exactly-in-105-3.ensures c.or-in-105.ensures c.or-in-105-2.ensures
