-- What there is while a program runs: values, roots, boxes counted by size, words and turns; and how it comes to a stop.
use Rattle.std.specs.Prelude.{Bool, List, [], ◌∷◌, ℕ}
use Rattle.std.proofs.Math.Option.{Option, some, none}
use Rattle.language.specs.Base.{choose, from_option, Lexeme, same}

-- a place: a root, and the way from it through fields
pub record Loc : Type 0 where
  pub root : ℕ
  pub path : List ℕ

-- a number; a constructor with its fields, inside the value; a box, by its root; a reference; nothing, where something was moved away
mutual
  pub data Value : Type 0 where
    int_v : ℕ → Value
    con_v : Lexeme → Values → Value
    box_v : ℕ → Value
    ref_v : Loc → Value
    hole : Value

  pub data Values : Type 0 where
    nil_v : Values
    cons_v : Value → Values → Values

-- a name's value, or a box's; live until it has ended. words: of a box, how many; of a name 0
pub record Root : Type 0 where
  pub live : Bool
  pub val : Value
  pub words : ℕ

-- boxes of one size: how many there are, and were at most
pub record Class : Type 0 where
  pub words : ℕ
  pub in_use : ℕ
  pub peak : ℕ

pub record State : Type 0 where
  -- all that there ever were; a root's number is its place here
  pub roots : List Root
  pub classes : List Class
  -- words under way, and turns made
  pub under : ℕ
  pub turns : ℕ
  -- numbers to read, and what was shown; each number read leaves a mark there, two_64
  pub ins : List ℕ
  pub outs : List ℕ

-- words lent for boxes and for what is under way, and how many turns
pub record Limits : Type 0 where
  pub heap : ℕ
  pub stack : ℕ
  pub max_turns : ℕ

-- going wrong; the meaning's own fuel used up; no room for a box, none for what is under way; no turns left
pub data Stop : Type 0 where
  wrong : Stop
  out_of_fuel : Stop
  no_heap : Stop
  no_stack : Stop
  no_turns : Stop

pub data Res (A : Type 0) : Type 0 where
  ok : A → State → Res A
  stop : Stop → State → Res A

unfoldable pub then : {A C : Type 0} → Res A → (A → State → Res C) → Res C
then (ok a s) f = f a s
then (stop k s) f = stop k s

-- what isn't there makes it go wrong
unfoldable pub need : {A C : Type 0} → State → Option A → (A → Res C) → Res C
need s o f = from_option o (stop wrong s) f

-- a name in scope, and the root of its value
pub record Name : Type 0 where
  pub name : Lexeme
  pub root : ℕ

-- the newest first
abbrev pub Env : Type 0
Env = List Name

abbrev pub root_of : Env → Lexeme → Option ℕ
root_of [] x = none
root_of (m ∷ ms) x = choose (same m.name x) (some m.root) (root_of ms x)
