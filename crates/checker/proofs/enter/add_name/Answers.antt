use Rattle.std.proofs.Common.{◌≡◌, [], length, refl, ap, ◌∙◌, arith}
use Rattle.scope.specs.Slots.{slots_of}
use Rattle.checker.specs.Stands.{lent_in, with_names}
use Rattle.checker.proofs.Entering.{name_stands}
use Rattle.checker.proofs.enter.add_name.Goals as goal

pub returns : goal.returns
returns c = record {
  stands = λ d text code s st.
      let w = c.args.words.now in
      let h = c.args.at.now in
      let ls = c.copy_loans.new.words.loans.now in
      let ns = c.store.new.words in
      name_stands d (lent_in text code w) h s st ls ns c.args.name c.args.of_caller c.int-at.result (c.int-at.ensures.is text code) c.store.ensures.this
      (c.store.ensures.below text code ls h.names h.loans (omega arith) ∙ ap (λ x. slots_of text code x.names ls h.names h.loans) (c.copy_loans.ensures.kept text code))
      (c.copy_loans.ensures.below text) (c.copy_loans.ensures.copied text)
      (with_names (lent_in text code c.copy_loans.new.words) ns) (ap (λ x. with_names x ns) (c.copy_loans.ensures.kept text code));
  log = (refl, ap (λ x. x.log) (c.copy_loans.ensures.kept [] []));
}

pub store-requires : goal.store-requires
store-requires c = let e : length c.copy_loans.new.words.names.now ≡ length c.args.words.now.names.now = ap (λ x. length x.names) (c.copy_loans.ensures.kept [] []) in omega arith
