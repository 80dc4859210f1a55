-- The kind of an entry, by its type.
use mathlib.Core.Bool.{Bool, true, false}
use mathlib.Core.List.{List}
use mathlib.Core.Path.{◌≡◌, refl, sym, ◌∙◌, ap}
use Prim.Native.Nat.{ℕ}
use native.Mathlib.Omega.{arith}
use Rattle.language.specs.Base.{Lexeme}
use Rattle.language.specs.Syntax.{Ty, int, dat, box, ref, mut}
use Rattle.language.specs.Checks.{owned, loadable}
use Rattle.soundness.specs.Borrows.{Addr, LevelLoan, Kind, own, borrow, inert}
use Rattle.soundness.specs.Frames.{KindFits}
use Rattle.soundness.proofs.Basics.{true_false}
use Rattle.soundness.proofs.statics.Rules.{same_ty_is}

-- kinds by types
pub fits_dat : (D : Lexeme) (z : Kind) → KindFits (dat D) z → z ≡ own (dat D)
fits_dat D (own u) su = ap own (sym su.0)
fits_dat D (borrow true u a ls) su = absurd (let k : ◌≡◌ {A = ℕ} 0 1 = cc in omega arith)
fits_dat D (borrow false u a ls) su = absurd (let k : ◌≡◌ {A = ℕ} 0 1 = cc in omega arith)
fits_dat D inert su = absurd su

pub fits_ref : (t : Ty) (z : Kind) → KindFits (ref t) z → (a : Addr) × (ls : List LevelLoan) × (z ≡ borrow false t a ls)
fits_ref t (own u) su = absurd (true_false (sym su.1 ∙ ap owned (sym su.0)))
fits_ref t (borrow true u a ls) su = absurd (let k : ◌≡◌ {A = ℕ} 0 1 = cc in omega arith)
fits_ref t (borrow false u a ls) su = let e : t ≡ u = cc in (a, ls, ap (λ y. borrow false y a ls) (sym e))
fits_ref t inert su = absurd su

pub fits_mut : (t : Ty) (z : Kind) → KindFits (mut t) z → (a : Addr) × (ls : List LevelLoan) × (z ≡ borrow true t a ls)
fits_mut t (own u) su = absurd (true_false (sym su.1 ∙ ap owned (sym su.0)))
fits_mut t (borrow true u a ls) su = let e : t ≡ u = cc in (a, ls, ap (λ y. borrow true y a ls) (sym e))
fits_mut t (borrow false u a ls) su = absurd (let k : ◌≡◌ {A = ℕ} 0 1 = cc in omega arith)
fits_mut t inert su = absurd su

pub owned_kind : (t : Ty) (sh : Kind) → owned t ≡ true → KindFits t sh → sh ≡ own t
owned_kind t (own u) ow su = ap own (sym su.0)
owned_kind t (borrow true u a ls) ow su = absurd (true_false (sym ow ∙ ap owned su))
owned_kind t (borrow false u a ls) ow su = absurd (true_false (sym ow ∙ ap owned su))
owned_kind t inert ow su = absurd su

-- a reference: a mut if alone
abbrev pub ref_type : Bool → Ty → Ty
ref_type true t = mut t
ref_type false t = ref t

pub fits_borrow : (al : Bool) (t : Ty) (z : Kind) → KindFits (ref_type al t) z → (a : Addr) × (ls : List LevelLoan) × (z ≡ borrow al t a ls)
fits_borrow true t z su = fits_mut t z su
fits_borrow false t z su = fits_ref t z su

pub borrow_fits : (al : Bool) (t : Ty) (a : Addr) (ls : List LevelLoan) → KindFits (ref_type al t) (borrow al t a ls)
borrow_fits true t a ls = refl
borrow_fits false t a ls = refl

-- what can be loaded: a reference to a number
pub loadable_is : (t : Ty) → loadable t ≡ true → (al : Bool) × (t ≡ ref_type al int)
loadable_is int e = absurd (true_false (sym e))
loadable_is (dat d) e = absurd (true_false (sym e))
loadable_is (box t) e = absurd (true_false (sym e))
loadable_is (ref t) e = (false, ap ref (same_ty_is t int e))
loadable_is (mut t) e = (true, ap mut (same_ty_is t int e))

-- what a box holds is owned
pub box_owned : (u : Ty) (sh : Kind) → KindFits (box u) sh → owned u ≡ true
box_owned u (own t) h = ap owned h.0 ∙ h.1
box_owned u (borrow true t a ls) h = absurd (let z : ◌≡◌ {A = ℕ} 0 1 = cc in omega arith)
box_owned u (borrow false t a ls) h = absurd (let z : ◌≡◌ {A = ℕ} 0 1 = cc in omega arith)
box_owned u inert h = absurd h
