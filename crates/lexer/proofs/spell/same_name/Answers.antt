use Rattle.std.proofs.Common.{take_while, ◌≡◌, ap, ap₂, refl, ◌∙◌, rules, tests}
use Rattle.std.proofs.lemmas.Iterator.{YieldsList-from_slice}
use Rattle.std.proofs.lemmas.Iterator.Search.{YieldsList-from_take_while}
use Rattle.language.specs.Base.{same}
use Rattle.language.specs.Text.{is_word_byte}
use Rattle.lexer.specs.Spelling.{word_run, spelling}
use Rattle.lexer.proofs.Chains.{same_from_eq}
use Rattle.lexer.proofs.Runs.{run_taken}
use Rattle.lexer.proofs.spell.same_name.Goals as goal

pub returns : goal.returns
returns c =
    let one = c.from_name.result.now in
    let two = c.from_name-2.result.now in
    let told : c.eq-2.result ≡ same (spelling c.args.text.now c.args.a) (spelling c.args.text.now c.args.b) =
    same_from_eq {ys = take_while is_word_byte two} (λ x y. y ≡ x) _ _ c.eq-2.ensures.ran (YieldsList-from_take_while _ is_word_byte (YieldsList-from_slice one cc) c.take_while-bytes.ensures.closure c.take_while-bytes.ensures.done (λ x b q k. search (rules, tests))) (λ it e. rw e (YieldsList-from_take_while _ is_word_byte (YieldsList-from_slice two cc) c.take_while.ensures.closure c.take_while.ensures.done (λ x b q k. search (rules, tests)))) (λ x y. refl)
    ∙ ap₂ same (run_taken one ∙ ap word_run c.from_name.ensures) (run_taken two ∙ ap word_run c.from_name-2.ensures) in
    search (rules, told)
