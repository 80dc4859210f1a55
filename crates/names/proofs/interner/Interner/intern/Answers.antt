use Rattle.std.proofs.Common.{◌+◌, Some, ap, ◌∙◌}
use Rattle.std.proofs.lemmas.Option.{MatchOption-at_some}
use Rattle.names.specs.declared.spot.Spot.TheVariants.{Free}
use Rattle.names.specs.Table.{IsFull, Stopped}
use Rattle.names.proofs.Inserts.{still_sound}
use Rattle.names.proofs.Used.{used_set}
use Rattle.names.proofs.interner.Interner.intern.Goals as goal

pub invariant_of-self : goal.invariant_of-self
invariant_of-self c =
    let text = c.args.self.now.text.now in
    let table = c.args.self.now.table.now in
    let q = c.min-place.result in
    let i = c.in-Free.i in
    let room = MatchOption-at_some (IsFull table) (Stopped text table record { 0 = q }) (Free i) (c.in_ok-other.ensures.ok_part ∙ ap Some c.in-Free.is) c.search.ensures in
    record { sound = still_sound text table i q room.within room.free room c.args.self.now.sound }

pub returns-in-Free-clause-counts : goal.returns-in-Free-clause-counts
returns-in-Free-clause-counts c = used_set c.args.self.now.table.now c.in-Free.i (c.min-place.result + 1)
