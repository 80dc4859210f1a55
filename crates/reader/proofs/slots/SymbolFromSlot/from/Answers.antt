use Rattle.std.proofs.Common.{rules, ◌≡◌, sym, ◌∙◌, ne_eqb}
use Rattle.std.proofs.lemmas.Bool.{lt-ltb, le-ltb}
use Rattle.lexer.proofs.Cut.{choose_true, choose_false}
use Rattle.code.specs.Slots.{held}
use Rattle.reader.specs.Stack.{emit_held}
use Rattle.reader.proofs.slots.SymbolFromSlot.from.Goals as goal

pub returns-then-slot-lt-DATA_END : goal.returns-then-slot-lt-DATA_END
returns-then-slot-lt-DATA_END c =
    let e : c.map_or.result ≡ emit_held (held c.args.slot) = search rules in
    e ∙ sym (choose_true _ _ (lt-ltb c.args.slot.op 64 c.if-slot-lt-DATA_END.true))

pub returns-else-slot-eq-DATA_END : goal.returns-else-slot-eq-DATA_END
returns-else-slot-eq-DATA_END c =
    c.plain_symbol.ensures
    ∙ sym (choose_false _ _ (le-ltb c.args.slot.op 64 c.if-slot-lt-DATA_END.false)
    ∙ choose_false _ _ (ne_eqb c.args.slot.op 64 c.if-slot-eq-DATA_END.false))
