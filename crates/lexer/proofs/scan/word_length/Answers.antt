use Rattle.std.proofs.Common.{◌≡◌, length, ap, ◌∙◌, rules, tests}
use Rattle.std.proofs.lemmas.Iterator.{YieldsList-from_slice}
use Rattle.std.proofs.lemmas.Iterator.Consumers.{count_from_yields_List}
use Rattle.std.proofs.lemmas.Iterator.Search.{YieldsList-from_take_while}
use Rattle.language.specs.Text.{is_word_byte}
use Rattle.lexer.specs.Spelling.{word_run}
use Rattle.lexer.proofs.Runs.{run_taken}
use Rattle.lexer.proofs.scan.word_length.Goals as goal

pub returns-clause-run : goal.returns-clause-run
returns-clause-run c =
    let bytes = c.args.bytes.now in
    let told : c.count.result ≡ length (word_run bytes) =
    count_from_yields_List c.take_while.result _ c.count.ensures.ran (YieldsList-from_take_while _ is_word_byte (YieldsList-from_slice bytes cc) c.take_while.ensures.closure c.take_while.ensures.done (λ x b q k. search (rules, tests))) ∙ ap length (run_taken bytes) in
    search (rules, told)
