-- Returning: what is given goes below its frame, with the loans that the arguments came with; the frame's references are used no more.
use mathlib.Core.Bool.{Bool}
use mathlib.Core.List.{List, [], ◌∷◌, ◌++◌}
use mathlib.Core.Logic.{◌⊎◌, inl, inr}
use mathlib.Core.Option.{Option, some, none}
use mathlib.Core.Path.{◌≡◌, refl, sym, ◌∙◌, ap, subst}
use Prim.Native.Nat.{ℕ, ◌+◌, ◌<◌}
use native.Mathlib.Omega.{arith}
use lib.ListN.{length, length-append}
use Rattle.language.specs.Base.{if_some, Lexeme}
use Rattle.language.specs.Syntax.{Ty, Data}
use Rattle.language.specs.Checks.{Loan}
use Rattle.language.specs.Checks as ch
use Rattle.language.specs.Meaning.{Value, Root, State}
use Rattle.language.specs.Meaning as me
use Rattle.soundness.specs.Borrows.{In, Addr, LevelLoan, Kind, own, borrow, inert, at_level, loans_of, addr_of, Comparable, HasLoan, owner_at}
use Rattle.soundness.specs.Borrows.{WellBorrowed, Lent}
use Rattle.soundness.specs.Trees.{Tree, tree_sum}
use Rattle.soundness.specs.Invariant.{Place, rooted, Entry, kinds, places, ValidRef, Idle, EntryOk, EntriesOk, place_sum, stack_sum, Invariant}
use Rattle.soundness.specs.Frames.{name_level, LoansCover, Scope, RootsNamed, NoBorrows}
use Rattle.soundness.proofs.Basics.{no_some, some_is}
use Rattle.soundness.proofs.loans.Levels.{level_top, level_below, level_push}
use Rattle.soundness.proofs.loans.Exclusivity.{Permitted, permitted_at}
use Rattle.soundness.proofs.loans.Free.{owner_older, push_own, push_inert, pop_borrows}
use Rattle.soundness.proofs.invariant.Levels.{kinds_length, borrows_under, places_length, level_under}
use Rattle.soundness.proofs.frames.Levels.{name_level_low}
use Rattle.soundness.proofs.frames.Caller.{OfOwner}

-- references that are used no more
abbrev pub retire : Kind → Kind
retire (own t) = own t
retire (borrow al t a ls) = inert
retire inert = inert

abbrev pub retired : List Entry → List Entry
retired [] = []
retired (e ∷ F) = record { at = e.at; gone = e.gone; kind = retire e.kind } ∷ retired F

pub retired_no_borrows : (F : List Entry) → NoBorrows (kinds (retired F))
retired_no_borrows [] = tt
retired_no_borrows (e ∷ F) = go e.kind (retired_no_borrows F)
  where
    go : (s : Kind) → NoBorrows (kinds (retired F)) → NoBorrows (retire s ∷ kinds (retired F))
    go (own t) h = h
    go (borrow al t a ls) h = h
    go inert h = h

pub retired_named : (base : ℕ) (ln : List LevelLoan) (g : ch.Env) (d : me.Env) (F : List Entry) → Scope base ln g d F → RootsNamed d (retired F)
retired_named base ln [] [] [] h = tt
retired_named base ln [] [] (e ∷ F) h = absurd h
retired_named base ln [] (m ∷ d) F h = absurd h
retired_named base ln (v ∷ g) [] F h = absurd h
retired_named base ln (v ∷ g) (m ∷ d) [] h = absurd h
retired_named base ln (v ∷ g) (m ∷ d) (e ∷ F) h = (h.0.place, retired_named base ln g d F h.1)

retired_borrows : (F : List Entry) (M : List Entry) → WellBorrowed (kinds M) → WellBorrowed (kinds (retired F ++ M))
retired_borrows [] M h = h
retired_borrows (e ∷ F) M h = go e.kind (retired_borrows F M h)
  where
    go : (s : Kind) → WellBorrowed (kinds (retired F ++ M)) → WellBorrowed (retire s ∷ kinds (retired F ++ M))
    go (own t) ih = push_own (kinds (retired F ++ M)) ih t
    go (borrow al t a ls) ih = push_inert (kinds (retired F ++ M)) ih
    go inert ih = push_inert (kinds (retired F ++ M)) ih

-- a level that's below: the same under the frame
level_down : {A : Type 0} (H X : List A) (i : ℕ) (e : A) → i < length X → at_level (H ++ X) i ≡ some e → at_level X i ≡ some e
level_down [] X i e lt h = h
level_down (y ∷ H) X i e lt h = level_down H X i e lt (sym (level_push y (H ++ X) i (let k = length-append H X in omega arith)) ∙ h)

kinds_two : (F C : List Entry) → kinds (F ++ C) ≡ kinds F ++ kinds C
kinds_two [] C = refl
kinds_two (e ∷ F) C = ap (λ z. e.kind ∷ z) (kinds_two F C)

places_two : (F C : List Entry) → places (F ++ C) ≡ places F ++ places C
places_two [] C = refl
places_two (e ∷ F) C = ap (λ z. e.at ∷ z) (places_two F C)

kinds_down : (F C : List Entry) (i : ℕ) (x : Kind) → i < length C → at_level (kinds (F ++ C)) i ≡ some x → at_level (kinds C) i ≡ some x
kinds_down F C i x lt h =
    level_down (kinds F) (kinds C) i x (let k = kinds_length C in omega arith) (ap (λ z. at_level z i) (sym (kinds_two F C)) ∙ h)

-- loans of what's below: by the frame's entries only those that the arguments came with
below_lent : (C : List Entry) (ln : List LevelLoan) (g : ch.Env) (ls : List Loan) (L : List LevelLoan) (i : ℕ) (al : Bool) → i < length C
    → LoansCover (length C) ln g ls L → HasLoan L i al → HasLoan ln i al
below_lent C ln g ls L i al lt cov h = go (cov h.0 h.1)
  where
    go : In h.0 ln ⊎ ((x : Lexeme) × (name_level (length C) g x ≡ some h.0.level) × In (ch.loan x h.0.alone) ls) → HasLoan ln i al
    go (inl k) = (h.0, k, h.2, h.3)
    go (inr k) = absurd (let a = name_level_low (length C) g k.0 h.0.level k.1 in let a0 = a.0 in let k2 = h.2 in omega arith)

frame_lent : (C : List Entry) (ln : List LevelLoan) (g : ch.Env) (d : me.Env) (F : List Entry) (i : ℕ) (al : Bool) → Scope (length C) ln g d F
    → i < length C → Lent (kinds (F ++ C)) i al → HasLoan ln i al ⊎ Lent (kinds C) i al
frame_lent C ln [] [] [] i al mt lt h = inr h
frame_lent C ln [] [] (e ∷ F) i al mt lt h = absurd mt
frame_lent C ln [] (m ∷ d) F i al mt lt h = absurd mt
frame_lent C ln (v ∷ g) [] F i al mt lt h = absurd mt
frame_lent C ln (v ∷ g) (m ∷ d) [] i al mt lt h = absurd mt
frame_lent C ln (v ∷ g) (m ∷ d) (e ∷ F) i al mt lt (inl h) = inl (below_lent C ln g v.loans (loans_of e.kind) i al lt mt.0.loans h)
frame_lent C ln (v ∷ g) (m ∷ d) (e ∷ F) i al mt lt (inr h) = frame_lent C ln g d F i al mt.1 lt h

-- Exclusivity and Anchored for what is given, on the caller's stack
pub given_borrows : (C : List Entry) (ln : List LevelLoan) (g : ch.Env) (d : me.Env) (F : List Entry) (ls0 : List Loan) (al : Bool) (t : Ty)
    (a : Addr) (ls : List LevelLoan) → Scope (length C) ln g d F → ((l : LevelLoan) → In l ln → l.level < length C)
    → LoansCover (length C) ln g ls0 ls → OfOwner (F ++ C) ln a.owner → WellBorrowed (borrow al t a ls ∷ kinds (F ++ C))
    → WellBorrowed (borrow al t a ln ∷ kinds C) × (a.owner < length C)
given_borrows C ln g d F ls0 al t a ls mt low cov oc sn = (
  record {
    exclusivity = (λ f f_is i x b x-at b-is co. pair f f_is i x b x-at b-is co, sane_C.exclusivity);
    anchored = (
      ((λ l i. (let k = low l i in let k2 = kinds_length C in omega arith)), (oc.0, oc.1, cell_C), (own_cell.0, own_cell.1)),
      sane_C.anchored,
    );
  },
  cell_low,
)
  where
    sane_C : WellBorrowed (kinds C)
    sane_C = borrows_under F C (pop_borrows (borrow al t a ls) (kinds (F ++ C)) sn)

    lt1 : oc.0.level < length C
    lt1 = low oc.0 oc.1

    at_l : (o : Option Kind) → at_level (kinds (F ++ C)) oc.0.level ≡ o
        → if_some o (λ z. if_some (addr_of oc.0.level z) (λ b. some b.owner)) ≡ some a.owner
        → (owner_at (kinds C) oc.0.level ≡ some a.owner) × (a.owner < length C)
    at_l none e h = absurd (no_some h)
    at_l (some z) e h = (ap (λ o. if_some o (λ z1. if_some (addr_of oc.0.level z1) (λ b. some b.owner))) zc ∙ h, low2 z zc h)
      where
        zc : at_level (kinds C) oc.0.level ≡ some z
        zc = kinds_down F C oc.0.level z lt1 e

        low2 : (z : Kind) → at_level (kinds C) oc.0.level ≡ some z → if_some (addr_of oc.0.level z) (λ b. some b.owner) ≡ some a.owner
            → a.owner < length C
        low2 (own u) zc1 h1 = let k : oc.0.level ≡ a.owner = some_is h1 in omega arith
        low2 (borrow x u b ms) zc1 h1 =
            let k : b.owner ≡ a.owner = some_is h1 in let k2 = owner_older (kinds C) sane_C.anchored oc.0.level x u b ms zc1 in omega arith
        low2 inert zc1 h1 = absurd (no_some h1)

    both : (owner_at (kinds C) oc.0.level ≡ some a.owner) × (a.owner < length C)
    both = at_l (at_level (kinds (F ++ C)) oc.0.level) refl oc.2

    cell_C : owner_at (kinds C) oc.0.level ≡ some a.owner
    cell_C = both.0

    cell_low : a.owner < length C
    cell_low = both.1

    own_cell : (u : Ty) × (at_level (kinds C) a.owner ≡ some (own u))
    own_cell = (sn.anchored.0.2.0, kinds_down F C a.owner (own sn.anchored.0.2.0) cell_low sn.anchored.0.2.1)

    lent1 : (i : ℕ) (al1 : Bool) → i < length C → Lent (borrow al t a ls ∷ kinds (F ++ C)) i al1 → Lent (borrow al t a ln ∷ kinds C) i al1
    lent1 i al1 lt (inl h) = inl (below_lent C ln g ls0 ls i al1 lt cov h)
    lent1 i al1 lt (inr h) = frame_lent C ln g d F i al1 mt lt h

    pair : (f : Addr) → some a ≡ some f → (i : ℕ) (x : Kind) (b : Addr) → at_level (kinds C) i ≡ some x → addr_of i x ≡ some b → Comparable b f
        → Permitted (borrow al t a ln ∷ kinds C) i x b (borrow al t a ln) f
    pair f f_is i x b x-at b-is co =
        conv (permitted_at (borrow al t a ls ∷ kinds (F ++ C)) sn.exclusivity i (length (kinds (F ++ C))) x (borrow al t a ls) b f lt2
        (level_push (borrow al t a ls) (kinds (F ++ C)) i lt2 ∙ up) (level_top (borrow al t a ls) (kinds (F ++ C))) b-is f_is co)
      where
        up : at_level (kinds (F ++ C)) i ≡ some x
        up = ap (λ z. at_level z i) (kinds_two F C) ∙ level_under (kinds F) (kinds C) i x x-at

        lt2 : i < length (kinds (F ++ C))
        lt2 = level_below (kinds (F ++ C)) i x up

        conv : Permitted (borrow al t a ls ∷ kinds (F ++ C)) i x b (borrow al t a ls) f
            → Permitted (borrow al t a ln ∷ kinds C) i x b (borrow al t a ln) f
        conv (inl k) = inl k
        conv (inr k) = inr (k.0, k.1, lent1 i al (let z = level_below (kinds C) i x x-at in let z2 = kinds_length C in omega arith) k.2)

-- contents
retired_entry : (ds : List Data) (rs : List Root) (r : ℕ) (at : Place) (gone : Bool) (sh : Kind) (y : Tree) (N M : List Entry) (T U : List Tree)
    → at ≡ rooted r 0 → EntryOk ds rs at gone sh y N T → EntryOk ds rs at gone (retire sh) y M U
retired_entry ds rs r at gone (own t) y N M T U e f = f
retired_entry ds rs r at gone (borrow al t a ls) y N M T U e f = (f.0, (f.1.0, f.1.1, subst (λ z. Idle z f.1.0) (sym e) (_, f.1.2.value)))
retired_entry ds rs r at gone inert y N M T U e f = f

retired_entries : (ds : List Data) (rs : List Root) (base : ℕ) (ln : List LevelLoan) (g : ch.Env) (d : me.Env) (F : List Entry) (C : List Entry)
    (TF TC : List Tree) (top : Entry) (x : Tree) → Scope base ln g d F → length F ≡ length TF
    → EntryOk ds rs top.at top.gone top.kind x C TC → EntriesOk ds rs (F ++ C) (TF ++ TC)
    → EntriesOk ds rs (retired F ++ (top ∷ C)) (TF ++ (x ∷ TC))
retired_entries ds rs base ln [] [] [] C [] TC top x mt le tf f = (tf, f)
retired_entries ds rs base ln [] [] [] C (y ∷ TF) TC top x mt le tf f = absurd (omega arith)
retired_entries ds rs base ln [] [] (e ∷ F) C TF TC top x mt le tf f = absurd mt
retired_entries ds rs base ln [] (m ∷ d) F C TF TC top x mt le tf f = absurd mt
retired_entries ds rs base ln (v ∷ g) [] F C TF TC top x mt le tf f = absurd mt
retired_entries ds rs base ln (v ∷ g) (m ∷ d) [] C TF TC top x mt le tf f = absurd mt
retired_entries ds rs base ln (v ∷ g) (m ∷ d) (e ∷ F) C [] TC top x mt le tf f = absurd (omega arith)
retired_entries ds rs base ln (v ∷ g) (m ∷ d) (e ∷ F) C (y ∷ TF) TC top x mt le tf f = (
  retired_entry ds rs m.root e.at e.gone e.kind y (F ++ C) (retired F ++ (top ∷ C)) (TF ++ TC) (TF ++ (x ∷ TC)) mt.0.place f.0,
  retired_entries ds rs base ln g d F C TF TC top x mt.1 (omega arith) tf f.1,
)

retired_sum : (f : ℕ → ℕ → ℕ) (F C : List Entry) (TF TC : List Tree) (top : Entry) (x : Tree) → length F ≡ length TF
    → stack_sum f (retired F ++ (top ∷ C)) (TF ++ (x ∷ TC)) ≡ place_sum f top.at + (tree_sum f x + stack_sum f (F ++ C) (TF ++ TC))
retired_sum f [] C [] TC top x h = refl
retired_sum f [] C (y ∷ TF) TC top x h = absurd (omega arith)
retired_sum f (e ∷ F) C [] TC top x h = absurd (omega arith)
retired_sum f (e ∷ F) C (y ∷ TF) TC top x h = let k = retired_sum f F C TF TC top x (omega arith) in omega arith

pub valid_ref_down : (ds : List Data) (F C : List Entry) (TF TC : List Tree) (t : Ty) (a : Addr) (v : Value) → length TC ≡ length C
    → a.owner < length C → ValidRef ds (F ++ C) (TF ++ TC) t a v → ValidRef ds C TC t a v
valid_ref_down ds F C TF TC t a v le lt pt = record {
  root = pt.root;
  whole = pt.whole;
  part = pt.part;
  standing =
      level_down (places F) (places C) a.owner (rooted pt.root 0) (let k = places_length C in omega arith)
      (ap (λ z. at_level z a.owner) (sym (places_two F C)) ∙ pt.standing);
  holding = level_down TF TC a.owner pt.whole (omega arith) pt.holding;
  leading = pt.leading;
  typed = pt.typed;
  value = pt.value;
}

pub give_below : (ds : List Data) (base : ℕ) (ln : List LevelLoan) (g : ch.Env) (d : me.Env) (top top2 : Entry) (F C : List Entry) (x : Tree)
    (TF TC : List Tree) (s : State) → Scope base ln g d F → length F ≡ length TF → top2.at ≡ top.at → WellBorrowed (top2.kind ∷ kinds C)
    → EntryOk ds s.roots top2.at top2.gone top2.kind x C TC → Invariant ds (top ∷ (F ++ C)) (x ∷ (TF ++ TC)) s
    → Invariant ds (retired F ++ (top2 ∷ C)) (TF ++ (x ∷ TC)) s
give_below ds base ln g d top top2 F C x TF TC s mt le at-is sn f1 w = record {
  borrows = retired_borrows F (top2 ∷ C) sn;
  entries = retired_entries ds s.roots base ln g d F C TF TC top2 x mt le f1 w.entries.1;
  sums =
      λ f. (let a = w.sums f in let a1 = retired_sum f F C TF TC top2 x le in let a2 : place_sum f top2.at ≡ place_sum f top.at = ap
      (place_sum f) at-is in omega arith);
  counted = w.counted;
}
