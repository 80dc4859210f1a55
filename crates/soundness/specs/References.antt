-- What the invariant says of one name of a frame, and of the references of the whole stack: what a run that lays values out in words needs at each step.
use Rattle.std.specs.Prelude.{Bool, true, List, ◌++◌, ◌⊎◌, ◌≡◌, ℕ, ◌<◌, length}
use Rattle.std.proofs.Math.Option.{some}
use Rattle.language.specs.Base.{Lexeme}
use Rattle.language.specs.Syntax.{Ty, ref, mut, Data}
use Rattle.language.specs.Checks.{Loan, Var, owned, there, look, is_free, all_loans}
use Rattle.language.specs.Checks as ch
use Rattle.language.specs.Meaning.{Loc, State, here, root_of, read_at, ref_v}
use Rattle.language.specs.Meaning as me
use Rattle.soundness.specs.Trees.{Tree, flat, Typed, StrictlyBelow}
use Rattle.soundness.specs.Borrows.{Addr, LevelLoan, borrow, at_level}
use Rattle.soundness.specs.Invariant.{Entry, kinds, Invariant}
use Rattle.soundness.specs.Frames.{name_level, Frame}

-- an owned name that isn't gone holds a value of its type
abbrev pub ThereTyped : Type 0
ThereTyped = (ds : List Data) (C : List Entry) (ln : List LevelLoan) (held : List Loan) (g : ch.Env) (d : me.Env) (H F : List Entry) (T : List Tree)
    (s : State) (x : Lexeme) (v : Var) → Frame C ln held g d H F → Invariant ds (H ++ (F ++ C)) T s → there g x ≡ some v → owned v.ty ≡ true
    → (r : ℕ) × (y : Tree) × (root_of d x ≡ some r) × (read_at s (here r) ≡ some (flat y)) × Typed ds y v.ty

-- a name that is a reference leads to a live place, where a value of its type is
abbrev pub ReferenceValid : Type 0
ReferenceValid =
    (ds : List Data) (C : List Entry) (ln : List LevelLoan) (held : List Loan) (g : ch.Env) (d : me.Env) (H F : List Entry) (T : List Tree)
    (s : State) (x : Lexeme) (v : Var) (t : Ty) → Frame C ln held g d H F → Invariant ds (H ++ (F ++ C)) T s → look g x ≡ some v
    → (v.ty ≡ ref t) ⊎ (v.ty ≡ mut t)
    → (r : ℕ) × (l : Loc) × (y : Tree) × (root_of d x ≡ some r) × (read_at s (here r) ≡ some (ref_v l)) × (read_at s l ≡ some (flat y)) × Typed ds y t

-- no reference of the stack leads into a free name that owns: what is moved, assigned, opened or taken apart
abbrev pub NoneIntoFree : Type 0
NoneIntoFree =
    (ds : List Data) (C : List Entry) (ln : List LevelLoan) (held : List Loan) (g : ch.Env) (d : me.Env) (H F : List Entry) (T : List Tree)
    (s : State) (x : Lexeme) (v : Var) (lx : ℕ) → Frame C ln held g d H F → Invariant ds (H ++ (F ++ C)) T s → look g x ≡ some v
    → owned v.ty ≡ true
    → is_free (held ++ all_loans g) x ≡ true → name_level (length C) g x ≡ some lx
    → (j : ℕ) (al : Bool) (t : Ty) (a : Addr) (ls : List LevelLoan) → at_level (kinds (H ++ (F ++ C))) j ≡ some (borrow al t a ls)
    → a.owner ≡ lx → ⊥

-- none leads strictly below the place that a free mut is of: what is written through it
abbrev pub NoneBelowFree : Type 0
NoneBelowFree =
    (ds : List Data) (C : List Entry) (ln : List LevelLoan) (held : List Loan) (g : ch.Env) (d : me.Env) (H F : List Entry) (T : List Tree)
    (s : State) (x : Lexeme) (lx : ℕ) (u : Ty) (ax : Addr) (lx-loans : List LevelLoan) → Frame C ln held g d H F → Invariant ds (H ++ (F ++ C)) T s
    → name_level (length C) g x ≡ some lx → is_free (held ++ all_loans g) x ≡ true
    → at_level (kinds (H ++ (F ++ C))) lx ≡ some (borrow true u ax lx-loans)
    → (j : ℕ) (al : Bool) (t : Ty) (a : Addr) (ls : List LevelLoan) → at_level (kinds (H ++ (F ++ C))) j ≡ some (borrow al t a ls)
    → ax.owner ≡ a.owner → StrictlyBelow ax.path a.path → ⊥

-- references lead to older entries: none is left into a name that ends at the top, or into a value that is dropped there
abbrev pub ReferencesDown : Type 0
ReferencesDown = (ds : List Data) (N : List Entry) (T : List Tree) (s : State) → Invariant ds N T s
    → (j : ℕ) (al : Bool) (t : Ty) (a : Addr) (ls : List LevelLoan) → at_level (kinds N) j ≡ some (borrow al t a ls) → a.owner < j
