use Rattle.std.proofs.Common.{◌≡◌, ◌+◌, ap, sym, ◌∙◌, subst, length, arith}
use Rattle.code.specs.Slots.{slot_of}
use Rattle.code.specs.Words.{with_slot}
use Rattle.code.specs.Means.{means}
use Rattle.names.specs.Table.{Sound}
use Rattle.names.proofs.Going.{Going, moved, passed_over, renamed_one, code_now, filled_now, canonical_now}
use Rattle.names.proofs.pass.canonical.Goals as goal
use Rattle.names.proofs.pass.canonical.Goals.{in-Some+in_ok-named, in_default}

pub returns-in_err-named-clause-code : goal.returns-in_err-named-clause-code
returns-in_err-named-clause-code c = code_now c.loop-k.invariant.going c.args.n

pub returns-in_err-named-clause-filled : goal.returns-in_err-named-clause-filled
returns-in_err-named-clause-filled c = filled_now c.loop-k.invariant.going c.args.n

pub loop-k-preserved : goal.loop-k-preserved
loop-k-preserved c =
    let text = c.args.text.now in
    let words = c.args.words.now in
    let after = c.loop-k.words in
    let table = c.loop-k.interner.table.now in
    let k = c.loop-k.k in
    let inv = c.loop-k.invariant in
    elim c.match-decode.branch [
      | in-Some+in_ok-named w ↦
          let j = w.in_ok-named.named in
          let r = w.in_ok-named.ensures in
          let next = w.rename.new.self.table.now in
          let means_same = subst (λ t. means t j ≡ means t w.in-Some.instr) inv.text r.gives.0 in
          record {
            text = ap (λ i. i.text.now) w.interner-is ∙ r.text ∙ inv.text;
            length = ap (λ i. length i.table.now) w.interner-is ∙ r.length ∙ inv.length;
            going = moved text words (with_slot after k (slot_of j)) c.match-decode.words next c.match-decode.interner.table.now (k + 1) (w.words-is ∙ w.encode.ensures.value) (ap (λ i. i.table.now) w.interner-is)
                (renamed_one text words after table next k w.in-Some.instr j inv.going (omega arith) (sym w.in-Some.ensures) means_same r.gives.1 r.counts r.grows);
          }
      | in_default w ↦
          record {
            text = ap (λ i. i.text.now) w.interner-is ∙ inv.text;
            length = ap (λ i. length i.table.now) w.interner-is ∙ inv.length;
            going = moved text words after c.match-decode.words table c.match-decode.interner.table.now (k + 1) w.words-is (ap (λ i. i.table.now) w.interner-is)
                (passed_over text words after table k inv.going (sym w.in_default.ensures));
          }
    ]

pub returns-clause-code : goal.returns-clause-code
returns-clause-code c = code_now c.loop-k.invariant.going c.args.n

pub returns-clause-filled : goal.returns-clause-filled
returns-clause-filled c = filled_now c.loop-k.invariant.going c.args.n

pub returns-clause-names : goal.returns-clause-names
returns-clause-names c =
    let inv = c.loop-k.invariant in
    let all : c.loop-k.k ≡ c.args.n = omega arith in
    canonical_now c.args.text.now c.args.words.now c.loop-k.words c.loop-k.interner.table.now c.args.n
    (subst (λ t. ∥ Sound t c.loop-k.interner.table.now ∥₁) inv.text c.loop-k.interner.sound)
    (subst (Going c.args.text.now c.args.words.now c.loop-k.words c.loop-k.interner.table.now) all inv.going)
