-- Numbers, and what a value is: a number, a box, a reference, data in a shape; what moves.
use Rattle.std.specs.Prelude.{Bool, List, [], ◌∷◌, ◌++◌, ℕ, zero, suc, ◌+◌, ◌-◌, ◌*◌, ◌/◌, ◌%◌, drop, eqb, ltb}
use Rattle.std.proofs.Math.Option.{Option, some, none}
use Rattle.language.specs.Base.{choose, Lexeme}
use Rattle.language.specs.Meaning.States.{Loc, Value, int_v, con_v, box_v, ref_v, hole, Values, nil_v, cons_v, State, wrong, Res, ok, stop, need}
use Rattle.language.specs.Meaning.Memory.{write_at, here}

abbrev pub two_64 : ℕ
two_64 = 18446744073709551616

abbrev pub as_number : Bool → ℕ
as_number t = choose t 1 0

abbrev pub unless_0 : (ℕ → ℕ → ℕ) → ℕ → ℕ → ℕ
unless_0 f x zero = 0
unless_0 f x (suc y) = f x (suc y)

-- 0 +, 1 -, 2 *, 3 /, 4 %, 5 ==, 6 <; modulo 2^64, and / and % by 0 give 0
abbrev pub worked : ℕ → ℕ → ℕ → ℕ
worked o x y =
    choose (eqb o 0) ((x + y) % two_64)
    (choose (eqb o 1) (((x + two_64) - y) % two_64)
    (choose (eqb o 2) ((x * y) % two_64)
    (choose (eqb o 3) (unless_0 (λ d e. d / e) x y)
    (choose (eqb o 4) (unless_0 (λ d e. d % e) x y)
    (choose (eqb o 5) (as_number (eqb x y))
    (as_number (ltb x y)))))))

-- a value that's there
abbrev pub there : Value → Option Value
there (int_v k) = some (int_v k)
there (con_v k vs) = some (con_v k vs)
there (box_v r) = some (box_v r)
there (ref_v l) = some (ref_v l)
there hole = none

abbrev pub num_of : Value → Option ℕ
num_of (int_v k) = some k
num_of (con_v k vs) = none
num_of (box_v r) = none
num_of (ref_v l) = none
num_of hole = none

abbrev pub loc_of : Value → Option Loc
loc_of (int_v k) = none
loc_of (con_v k vs) = none
loc_of (box_v r) = none
loc_of (ref_v l) = some l
loc_of hole = none

abbrev pub box_of : Value → Option ℕ
box_of (int_v k) = none
box_of (con_v k vs) = none
box_of (box_v r) = some r
box_of (ref_v l) = none
box_of hole = none

-- a constructor and its fields
pub data Shape : Type 0 where
  shape : Lexeme → Values → Shape

abbrev pub shape_of : Value → Option Shape
shape_of (int_v k) = none
shape_of (con_v k vs) = some (shape k vs)
shape_of (box_v r) = none
shape_of (ref_v l) = none
shape_of hole = none

-- a name's value is copied, if it's a number or a reference, else moved away
abbrev pub moves : State → ℕ → Value → Res Value
moves s r (int_v k) = ok (int_v k) s
moves s r (con_v k vs) = need s (write_at s (here r) hole) (λ t. ok (con_v k vs) t)
moves s r (box_v i) = need s (write_at s (here r) hole) (λ t. ok (box_v i) t)
moves s r (ref_v l) = ok (ref_v l) s
moves s r hole = stop wrong s

-- &x of what was lent is that again
abbrev pub place_of : ℕ → Value → Loc
place_of r (int_v k) = here r
place_of r (con_v k vs) = here r
place_of r (box_v i) = here r
place_of r (ref_v l) = l
place_of r hole = here r

abbrev pub append : Values → Value → Values
append nil_v w = cons_v w nil_v
append (cons_v v vs) w = cons_v v (append vs w)

abbrev pub list_of : Values → List Value
list_of nil_v = []
list_of (cons_v v vs) = v ∷ list_of vs

-- the next number there is to read, modulo 2^64, or 0
abbrev pub next_read : List ℕ → ℕ
next_read [] = 0
next_read (k ∷ ks) = k % two_64

abbrev pub reads_in : State → Res Value
reads_in s =
    ok (int_v (next_read s.ins))
    (record { roots = s.roots; classes = s.classes; under = s.under; turns = s.turns; ins = drop 1 s.ins; outs = s.outs ++ (two_64 ∷ []) })

abbrev pub shows : State → ℕ → State
shows s k =
    record { roots = s.roots; classes = s.classes; under = s.under; turns = s.turns; ins = s.ins; outs = s.outs ++ (k ∷ []) }
