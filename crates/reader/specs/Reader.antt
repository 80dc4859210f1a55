-- The code of a program, in the order of its items.
use Rattle.std.specs.Prelude.{◌≡◌, List, []}
use Rattle.std.proofs.Math.Option.{Option, some}
use Rattle.language.specs.Syntax.{Prog}
use Rattle.code.specs.Instr.{Instr, Item, code_items, gather}

-- there is a program, these are its items in the order of the text, and this is their code
pub record Coded (q : Option Prog) (o : List Instr) : Type 0 where
  pub parts : List Item
  pub is : q ≡ some (gather [] [] parts)
  pub code : o ≡ code_items parts
