-- The machine in words: what an action does to them, and what they hold when the text is read.
use Rattle.std.specs.Prelude.{◌≡◌, ℕ, ◌+◌, ◌*◌, ◌<◌, ◌≤◌, List, [], ◌∷◌, ◌++◌, map, length, slice_index}
use Rattle.std.specs.Prelude.{Some, None, Option, Ok, Err, Result}
use Rattle.std.proofs.Math.Option.{none}
use Rattle.language.specs.Text.{reads}
use Rattle.lexer.specs.Places.{from_place}
use Rattle.code.specs.declared.instr.Instr.{Instr}
use Rattle.code.specs.Means.{means}
use Rattle.code.specs.Words.{code_in, Filled}
use Rattle.reader.specs.declared.symbol.Symbol.{Symbol}
use Rattle.reader.specs.declared.action.Action.{Action}
use Rattle.reader.specs.declared.action.Action.TheVariants.{Emit, Push0, Push1, Push2, Push3, Push4}
use Rattle.reader.specs.declared.action.Action.TheVariants.{Push6, Push7, Push8}
use Rattle.reader.specs.declared.progress.Progress.{Progress}
use Rattle.reader.specs.declared.error.Misread.{Misread}
use Rattle.reader.specs.Steps.{Stands}
use Rattle.reader.specs.Stack.{stack_in}
use Rattle.reader.specs.Growth.{growth}
use Rattle.reader.specs.Reader.{Coded}

-- what an action puts on the stack, and what it gives out
abbrev pub pushed : Action → List Symbol
pushed (Emit i) = []
pushed Push0 = []
pushed (Push1 ss) = ss
pushed (Push2 ss) = ss
pushed (Push3 ss) = ss
pushed (Push4 ss) = ss
pushed (Push6 ss) = ss
pushed (Push7 ss) = ss
pushed (Push8 ss) = ss

abbrev pub given : Action → List Instr
given (Emit i) = i ∷ []
given Push0 = []
given (Push1 ss) = []
given (Push2 ss) = []
given (Push3 ss) = []
given (Push4 ss) = []
given (Push6 ss) = []
given (Push7 ss) = []
given (Push8 ss) = []

-- the stack of a reading, and whether there is room for so many more symbols on it, and for one instruction more besides
abbrev pub stack_of : List ℕ → Progress → List Symbol
stack_of words at = stack_in words at.base at.height

abbrev pub StackFits : List ℕ → Progress → ℕ → Type 0
StackFits words at n = 3 * (at.base + at.height + n) ≤ length words

abbrev pub HasRoom : List ℕ → Progress → ℕ → Type 0
HasRoom words at n = (at.made < at.base) × StackFits words at n

-- the words before and after it: these symbols are on top of the stack, and these instructions behind the code
pub record Performed (ss : List Symbol) (is : List Instr) (before : List ℕ) (at : Progress) (after : List ℕ) (to : Progress) :
    Type 0 where
  pub base : to.base ≡ at.base
  pub height : to.height ≡ at.height + length ss
  pub made : to.made ≡ at.made + length is
  pub stack : stack_of after to ≡ ss ++ stack_of before at
  pub code : (text : List ℕ) → code_in text after to.made ≡ code_in text before at.made ++ map (means text) is
  pub filled : Filled before at.made → Filled after to.made

-- the words before and after it: these symbols are on top of the stack, and every word in front of the stack is as it was
pub record Piled (ss : List Symbol) (before : List ℕ) (at : Progress) (after : List ℕ) (to : Progress) : Type 0 where
  pub base : to.base ≡ at.base
  pub height : to.height ≡ at.height + length ss
  pub made : to.made ≡ at.made
  pub stack : stack_of after to ≡ ss ++ stack_of before at
  pub kept : (j : ℕ) → j < 3 * at.base → slice_index after j ≡ slice_index before j

-- the symbol on top was taken, or there was none
abbrev pub Popped : List ℕ → Progress → Option Symbol → Progress → Type 0
Popped words at None to = (at.height ≡ 0) × (to ≡ at)
Popped words at (Some s) to =
    (stack_of words at ≡ s ∷ stack_of words to) × (to.height + 1 ≡ at.height) × (to.base ≡ at.base) × (to.made ≡ at.made)

-- so many slots hold the code of the program that the definition reads. How many there are, and how many of them are such
-- that a checker keeps something for them, is bounded by the text
pub record Read (text words : List ℕ) (count : ℕ) : Type 0 where
  pub coded : Coded (reads text) (code_in text words count)
  pub filled : Filled words count
  pub few : count ≤ 3 * length text
  pub grown : growth (code_in text words count) ≤ length text

-- or the definition reads nothing, and this token stands at that place
pub record Refused (text : List ℕ) (e : Misread) : Type 0 where
  pub none_read : reads text ≡ none
  pub stands : Stands text e (from_place text e.place)

-- which of the two, with enough words
abbrev pub Reading : List ℕ → List ℕ → Result ℕ Misread → Type 0
Reading text words (Ok count) = Read text words count
Reading text words (Err e) = Refused text e
