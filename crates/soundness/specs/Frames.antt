-- A frame: the rules' names, the meaning's names and the entries of the stack, side by side.
use Rattle.std.specs.Prelude.{true, false, List, [], ◌∷◌, ◌++◌, ◌⊎◌, ◌≡◌, ℕ, ◌+◌, ◌<◌, length}
use Rattle.std.proofs.Math.Option.{Option, some, none}
use Rattle.language.specs.Base.{choose, Lexeme, same, is_in}
use Rattle.language.specs.Syntax.{Ty, ref, mut}
use Rattle.language.specs.Checks.{Loan, Var, loan, owned, look}
use Rattle.language.specs.Checks as ch
use Rattle.language.specs.Meaning.{Value, Values, append, nil_v, cons_v, Name}
use Rattle.language.specs.Meaning as me
use Rattle.soundness.specs.Borrows.{In, LevelLoan, Kind, own, borrow, inert, loans_of}
use Rattle.soundness.specs.Trees.{Tree, flat}
use Rattle.soundness.specs.Invariant.{Entry, in_flight, rooted}

-- the level of a name: base is the number of entries under the frame
abbrev pub name_level : ℕ → ch.Env → Lexeme → Option ℕ
name_level base [] x = none
name_level base (v ∷ vs) x = choose (same v.name x) (some (length vs + base)) (name_level base vs x)

-- each loan is the caller's, or is among the static ones, under its name
abbrev pub LoansCover : ℕ → List LevelLoan → ch.Env → List Loan → List LevelLoan → Type 0
LoansCover base lend g ls L =
    (l : LevelLoan) → In l L → In l lend ⊎ ((x : Lexeme) × (name_level base g x ≡ some l.level) × In (loan x l.alone) ls)

abbrev pub KindFits : Ty → Kind → Type 0
KindFits t (own u) = (t ≡ u) × (owned u ≡ true)
KindFits t (borrow true u a ls) = t ≡ mut u
KindFits t (borrow false u a ls) = t ≡ ref u
KindFits t inert = ⊥

pub record Binding (base : ℕ) (lend : List LevelLoan) (g : ch.Env) (v : Var) (m : Name) (e : Entry) : Type 0 where
  pub name : v.name ≡ m.name
  pub place : e.at ≡ rooted m.root 0
  pub flag : e.gone ≡ v.gone
  pub type : KindFits v.ty e.kind
  pub loans : LoansCover base lend g v.loans (loans_of e.kind)
  pub fresh : look g v.name ≡ none

abbrev pub Scope : ℕ → List LevelLoan → ch.Env → me.Env → List Entry → Type 0
Scope base lend [] [] [] = Unit {0}
Scope base lend [] [] (e ∷ F) = ⊥
Scope base lend [] (m ∷ d) F = ⊥
Scope base lend (v ∷ g) [] F = ⊥
Scope base lend (v ∷ g) (m ∷ d) [] = ⊥
Scope base lend (v ∷ g) (m ∷ d) (e ∷ F) = Binding base lend g v m e × Scope base lend g d F

-- what's in flight above the frame: held covers its loans
pub record ValueEntry (v : Value) (t : Ty) (e : Entry) : Type 0 where
  pub place : e.at ≡ in_flight v
  pub flag : e.gone ≡ false
  pub type : KindFits t e.kind

abbrev pub all_loans_of : List Entry → List LevelLoan
all_loans_of [] = []
all_loans_of (e ∷ N) = loans_of e.kind ++ all_loans_of N

-- arguments in flight, the newest first: their types and values from the first on
pub data Arguments : List Entry → List Ty → Values → Type 0 where
  no_args : Arguments [] [] nil_v
  snoc_arg : {A : List Entry} {ts : List Ty} {vs : Values} (e : Entry) (t : Ty) (v : Value) → Arguments A ts vs → ValueEntry v t e
      → Arguments (e ∷ A) (ts ++ (t ∷ [])) (append vs v)

-- entries that are there to be ended, by the meaning's names; and such that nobody points from
abbrev pub RootsNamed : me.Env → List Entry → Type 0
RootsNamed [] [] = Unit {0}
RootsNamed [] (e ∷ K) = ⊥
RootsNamed (m ∷ ms) [] = ⊥
RootsNamed (m ∷ ms) (e ∷ K) = (e.at ≡ rooted m.root 0) × RootsNamed ms K

abbrev pub NoBorrows : List Kind → Type 0
NoBorrows [] = Unit {0}
NoBorrows (own t ∷ N) = NoBorrows N
NoBorrows (borrow al t a ls ∷ N) = ⊥
NoBorrows (inert ∷ N) = NoBorrows N

-- parts to be dropped, the first on top
abbrev pub Dropping : Values → List Entry → Type 0
Dropping nil_v [] = Unit {0}
Dropping nil_v (e ∷ K) = ⊥
Dropping (cons_v v vs) [] = ⊥
Dropping (cons_v v vs) (e ∷ K) = (e.at ≡ in_flight v) × Dropping vs K

-- a frame stands: held are the static loans of what is in flight above it
pub record Frame (C : List Entry) (lend : List LevelLoan) (held : List Loan) (g : ch.Env) (d : me.Env) (H F : List Entry) : Type 0 where
  pub names : Scope (length C) lend g d F
  pub above : LoansCover (length C) lend g held (all_loans_of H)
  pub under : (l : LevelLoan) → In l lend → l.level < length C

-- the parameters that are references: theirs are the caller's loans alone
abbrev pub RefParams : List Lexeme → ch.Env → Type 0
RefParams qs g = (x : Lexeme) → is_in x qs ≡ true → (v : Var) × (look g x ≡ some v) × (v.loans ≡ []) × (owned v.ty ≡ false)

-- parts in flight, the first on top
abbrev pub owned_entry : Tree → Ty → Entry
owned_entry x t = record { at = in_flight (flat x); gone = false; kind = own t }
