-- What a type in the code is: read backwards, from the instruction behind it.
use Rattle.std.specs.Prelude.{◌≡◌, ℕ, zero, suc, ◌/◌, ◌<◌, ◌≤◌, true, false, List, length, Some, None, Option, nat_lt}
use Rattle.language.specs.Base.{choose}
use Rattle.language.specs.Syntax.{Ty, int, dat, box, ref, mut}
use Rattle.language.specs.Checks.{same_ty}
use Rattle.lexer.specs.Spelling.{spelling}
use Rattle.code.specs.declared.instr.Instr.{Instr}
use Rattle.code.specs.declared.instr.Instr.TheVariants.{Num, Var, Int as AnInt, Op, Make, Call, Arg, Apply, Box as BoxIt, Share, Lend, Load, Get, Bind, Assign, Store, Put, If, Else, EndIf, While, Do, EndWhile, Match, Arm, Part, Body, EndArm, EndMatch, Open, Inside, Give, EndFn, TyInt, TyData, TyBox, TyRef, TyMut, Field, Ctor, Data as ADatum, Param, Fn}
use Rattle.code.specs.Words.{instr_at}
use Rattle.types.specs.declared.role.Role.{Role}
use Rattle.types.specs.declared.role.Role.TheVariants.{Int, Named, Boxed, Shared, Lent, Ends}
use Rattle.types.specs.declared.ty.Outer.{Outer}
use Rattle.types.specs.declared.ty.Outer.TheVariants.{Plain, Ref, Mut}
use Rattle.types.specs.declared.ty.Base.{Base}
use Rattle.types.specs.declared.ty.Base.TheVariants.{Number, Data, Written}
use Rattle.types.specs.declared.ty.ValueType.{ValueType}
use Rattle.types.specs.declared.ty.Shape.{Shape}
use Rattle.types.specs.declared.ty.Shape.TheVariants.{Int as IsInt, Data as IsData, Box as IsBox, Ref as IsRef, Mut as IsMut}
use Rattle.types.specs.declared.same.Compared.{Compared}
use Rattle.types.specs.declared.same.Compared.TheVariants.{Same, Differ, Within}

-- what an instruction makes of the type under way, if it changes it
abbrev pub role_of : Instr → Option Role
role_of (Num x) = None
role_of (Var x) = None
role_of AnInt = None
role_of (Op x) = None
role_of (Make x) = None
role_of (Call x) = None
role_of Arg = None
role_of Apply = None
role_of BoxIt = None
role_of (Share x) = None
role_of (Lend x) = None
role_of (Load x) = None
role_of Get = None
role_of (Bind x) = None
role_of (Assign x) = None
role_of (Store x) = None
role_of Put = None
role_of If = None
role_of Else = None
role_of EndIf = None
role_of While = None
role_of Do = None
role_of EndWhile = None
role_of (Match x y) = None
role_of (Arm x) = None
role_of (Part x) = None
role_of Body = None
role_of EndArm = None
role_of EndMatch = None
role_of (Open x y) = None
role_of (Inside x y) = None
role_of Give = None
role_of EndFn = None
role_of TyInt = Some Int
role_of (TyData x) = Some (Named x)
role_of TyBox = Some Boxed
role_of TyRef = Some Shared
role_of TyMut = Some Lent
role_of Field = Some Ends
role_of (Ctor x) = Some Ends
role_of (ADatum x y) = Some Ends
role_of (Param x) = Some Ends
role_of (Fn x) = Some Ends

abbrev pub role_in : Option Instr → Option Role
role_in None = None
role_in (Some i) = role_of i

-- behind the code's end nothing is done
abbrev pub role_at : List ℕ → ℕ → Option Role
role_at code k = choose (nat_lt k (length code / 3)) (role_in (instr_at code k)) None

-- what a role makes of the type under way
abbrev pub made : List ℕ → Role → Ty → Ty
made text Int t = int
made text (Named x) t = dat (spelling text x)
made text Boxed t = box t
made text Shared t = ref t
made text Lent t = mut t
made text Ends t = int

-- the type under way behind it
abbrev pub after : List ℕ → Option Role → Ty → Ty
after text None t = t
after text (Some r) t = made text r t

-- the type under way behind the first k instructions
abbrev pub written : List ℕ → List ℕ → ℕ → Ty
written text code zero = int
written text code (suc k) = after text (role_at code k) (written text code k)

abbrev pub base_of : List ℕ → List ℕ → Base → Ty
base_of text code Number = int
base_of text code (Data x) = dat (spelling text x)
base_of text code (Written k) = written text code k

abbrev pub boxes : ℕ → Ty → Ty
boxes zero t = t
boxes (suc n) t = box (boxes n t)

abbrev pub within : Outer → Ty → Ty
within Plain t = t
within Ref t = ref t
within Mut t = mut t

abbrev pub type_of : List ℕ → List ℕ → ValueType → Ty
type_of text code t = within t.outer (boxes t.boxes (base_of text code t.base))

-- one layer of a type, and what's in it
abbrev pub shape_of : List ℕ → List ℕ → Shape → Ty
shape_of text code IsInt = int
shape_of text code (IsData x) = dat (spelling text x)
shape_of text code (IsBox t) = box (type_of text code t)
shape_of text code (IsRef t) = ref (type_of text code t)
shape_of text code (IsMut t) = mut (type_of text code t)

-- what's inside is plain, and has no more boxes that aren't written
abbrev pub Inner : ℕ → Shape → Type 0
Inner n IsInt = Unit {0}
Inner n (IsData x) = Unit {0}
Inner n (IsBox t) = (t.outer ≡ Plain) × (t.boxes ≤ n)
Inner n (IsRef t) = (t.outer ≡ Plain) × (t.boxes ≤ n)
Inner n (IsMut t) = (t.outer ≡ Plain) × (t.boxes ≤ n)

-- what's no reference is plain
abbrev pub Bare : Shape → Outer → Type 0
Bare IsInt o = o ≡ Plain
Bare (IsData x) o = o ≡ Plain
Bare (IsBox t) o = o ≡ Plain
Bare (IsRef t) o = Unit {0}
Bare (IsMut t) o = Unit {0}

abbrev pub layers : Ty → ℕ
layers int = 0
layers (dat d) = 0
layers (box t) = suc (layers t)
layers (ref t) = suc (layers t)
layers (mut t) = suc (layers t)

-- how the comparison of two types stands
abbrev pub Stands : List ℕ → List ℕ → Compared → Ty → Ty → Type 0
Stands text code Same t u = same_ty t u ≡ true
Stands text code Differ t u = same_ty t u ≡ false
Stands text code (Within a b) t u = (same_ty t u ≡ same_ty (type_of text code a) (type_of text code b)) × (layers (type_of text code a) < layers t)
