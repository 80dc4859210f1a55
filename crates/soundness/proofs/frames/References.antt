-- What the invariant says of one name of a frame, and of the references of the stack.
use mathlib.Core.Bool.{Bool, true, false}
use mathlib.Core.List.{◌++◌}
use mathlib.Core.Logic.{inl, inr}
use mathlib.Core.Option.{Option, some}
use mathlib.Core.Path.{◌≡◌, refl, sym, ◌∙◌, ap, subst}
use Prim.Native.Nat.{ℕ}
use Rattle.language.specs.Meaning.{here, Loc, root_of, read_at, ref_v}
use Rattle.soundness.specs.Trees.{flat, Tree, Typed}
use Rattle.soundness.specs.Borrows.{Kind, own, borrow, at_level}
use Rattle.soundness.specs.Invariant.{kinds}
use Rattle.soundness.specs.References.{ThereTyped, ReferenceValid, NoneIntoFree, NoneBelowFree, ReferencesDown}
use Rattle.soundness.proofs.Basics.{some_is}
use Rattle.soundness.proofs.loans.Free.{none_below, owner_older, none_into}
use Rattle.soundness.proofs.statics.Rules.{there_is}
use Rattle.soundness.proofs.frames.Lookup.{name_at, free_at, NameAt}
use Rattle.soundness.proofs.invariant.Kinds.{owned_kind, ref_type}
use Rattle.soundness.proofs.frames.AtName.{own_at, borrow_at}

pub there_typed : ThereTyped
there_typed ds C ln held g d H F T s x v fr w th ow =
    let k = there_is g x v th in
    let n = name_at ds C ln held g d H F T s x v fr w k.0 in
    let o = own_at ds C ln g d H F T s x v n ow k.1 in
    (n.root, o.tree, n.named, o.reads_it, o.typed)

pub none_into_free : NoneIntoFree
none_into_free ds C ln held g d H F T s x v lx fr w lk ow free lv j al t a ls at_j into =
    let n = name_at ds C ln held g d H F T s x v fr w lk in
    let level_is : n.level ≡ lx = some_is (sym n.levelled ∙ lv) in
    let own_v : n.en.kind ≡ own v.ty = owned_kind v.ty n.en.kind ow n.type in
    let at_x : at_level (kinds (H ++ (F ++ C))) lx ≡ some (own v.ty)
    = subst (λ z. at_level (kinds (H ++ (F ++ C))) z ≡ some (own v.ty)) level_is (n.at_kind ∙ ap {B = Option Kind} (λ z. some z) own_v) in
    none_into (kinds (H ++ (F ++ C))) w.borrows lx v.ty at_x (free_at ds C ln held g d H F T s x lx fr w lv free) j al t a ls at_j into

pub none_below_free : NoneBelowFree
none_below_free ds C ln held g d H F T s x lx u ax lx-loans fr w lv free at_x j al t a ls at_j same_owner below =
    none_below (kinds (H ++ (F ++ C))) w.borrows.exclusivity lx (borrow true u ax lx-loans) ax at_x refl refl
    (free_at ds C ln held g d H F T s x lx fr w lv free) j (borrow al t a ls) a at_j refl same_owner below

pub references_down : ReferencesDown
references_down ds N T s w j al t a ls at_j = owner_older (kinds N) w.borrows.anchored j al t a ls at_j

pub reference_valid : ReferenceValid
reference_valid ds C ln held g d H F T s x v t fr w lk ty = elim ty [ inl e ↦ by false e | inr e ↦ by true e ]
  where
    n : NameAt ds C ln g d H F T s x v
    n = name_at ds C ln held g d H F T s x v fr w lk

    by : (al : Bool) → v.ty ≡ ref_type al t
        → (k : ℕ) × (l : Loc) × (y : Tree) × (root_of d x ≡ some k) × (read_at s (here k) ≡ some (ref_v l))
        × (read_at s l ≡ some (flat y)) × Typed ds y t
    by al e =
        let b = borrow_at ds C ln g d H F T s x v al t w n e in
        (n.root, b.loc, b.valid.part, n.named, b.reads_it, b.leads, b.valid.typed)
