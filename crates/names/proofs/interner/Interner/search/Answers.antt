use Rattle.std.proofs.Common.{◌%◌, length, ap, mod-lt, arith}
use Rattle.names.proofs.Search.{stopped, searched}
use Rattle.names.proofs.interner.Interner.search.Goals as goal

pub returns-in-Some : goal.returns-in-Some
returns-in-Some c =
    let table = c.args.self.now.table.now in
    stopped c.args.self.now.text.now table c.args.name _ (ap (λ h. h % length table) c.hash_of.ensures) c.in-Some.spot c.in-Some.ensures

pub returns-in-None : goal.returns-in-None
returns-in-None c =
    let table = c.args.self.now.table.now in
    searched c.args.self.now.text.now table c.args.name _ (ap (λ h. h % length table) c.hash_of.ensures) c.search_in-in-None.result (mod-lt c.hash_of.result (omega arith)) c.in-None.ensures c.search_in-in-None.ensures
