-- From the rule of a match to what the run sees: by an owner, a mut or a ref; taken, viewed, edited.
use mathlib.Core.Bool.{Bool, true, false}
use mathlib.Core.List.{List, [], ◌∷◌, ◌++◌}
use mathlib.Core.Logic.{inl}
use mathlib.Core.Option.{Option, some, none}
use mathlib.Core.Path.{◌≡◌, refl, sym, ◌∙◌, ap, subst}
use Prim.Native.Nat.{ℕ}
use lib.ListN.{length}
use Rattle.language.specs.Base.{Lexeme}
use Rattle.language.specs.Syntax.{Ty, int, dat, box, ref, mut, Access, Data, Prog, take, view, edit}
use Rattle.language.specs.Checks.{Loan, Var, Matched, loan, look, set_gone, is_free, all_loans, looks_at, matched, data_of, data_named}
use Rattle.language.specs.Checks as ch
use Rattle.language.specs.Meaning.{Loc, Values, State, shape, taken, refs_to, parts}
use Rattle.language.specs.Meaning as me
use Rattle.soundness.specs.Trees.{Tree}
use Rattle.soundness.specs.Borrows.{Addr, LevelLoan, Kind, own, borrow, at_level, exclusive, loans_of}
use Rattle.soundness.specs.Invariant.{rooted, Entry, kinds, EntryOk, Invariant}
use Rattle.soundness.specs.Frames.{name_level, LoansCover, KindFits, Scope, Frame}
use Rattle.soundness.specs.Preserved.{Scrutinee}
use Rattle.soundness.proofs.Basics.{no_some, some_is, only_is}
use Rattle.soundness.proofs.invariant.Borrows.{anchored_at, owner_of}
use Rattle.soundness.proofs.statics.Exprs.{look_name}
use Rattle.soundness.proofs.statics.Rules.{there_is}
use Rattle.soundness.proofs.frames.Lookup.{NameAt, name_at}
use Rattle.soundness.proofs.matches.View.{Seen, seen_own, seen_ref, Looked, Suit, looked_refs, looked_name}
use Rattle.soundness.proofs.matches.Take.{looked_take}
use Rattle.soundness.proofs.invariant.Kinds.{fits_mut, fits_dat, fits_ref}
use Rattle.soundness.proofs.frames.AtName.{MayLend, lendable}

-- what the rule says
pub matched_is : (o : Option Data) (ls : List Loan) (g : ch.Env) (mm : Matched) → matched o ls g ≡ some mm
    → (o ≡ some mm.data1) × (mm.loans ≡ ls) × (mm.env ≡ g)
matched_is none ls g mm e = absurd (no_some e)
matched_is (some d) ls g mm e =
    let h : record { data1 = d; loans = ls; env = g } ≡ mm = some_is e in
    (ap {B = Option Data} (λ z. some z.data1) h, sym (ap (λ z. z.loans) h), sym (ap (λ z. z.env) h))

pub data_of_is : (q : Prog) (t : Ty) (d : Data) → data_of q t ≡ some d → (D : Lexeme) × (t ≡ dat D) × (data_named q.datas D ≡ some d)
data_of_is q int d e = absurd (no_some e)
data_of_is q (dat D) d e = (D, refl, e)
data_of_is q (box t) d e = absurd (no_some e)
data_of_is q (ref t) d e = absurd (no_some e)
data_of_is q (mut t) d e = absurd (no_some e)

module _ (q : Prog) (o : ch.accepts q ≡ true) (C : List Entry) (ln : List LevelLoan) (g : ch.Env) (d : me.Env) (F : List Entry) (T : List Tree)
    (s : State) (x : Lexeme) (v : Var) (sc : Frame C ln [] g d [] F) (wo : Invariant q.datas (F ++ C) T s) (th : ch.there g x ≡ some v) where
  is_there : (look g x ≡ some v) × (v.gone ≡ false)
  is_there = there_is g x v th

  name_is : v.name ≡ x
  name_is = look_name g x v is_there.0

  pl : NameAt q.datas C ln g d [] F T s x v
  pl = name_at q.datas C ln [] g d [] F T s x v sc wo is_there.0

  -- the name's entry, of a kind
  stands_as : (z : Kind) → pl.en.kind ≡ z → at_level (kinds (F ++ C)) pl.level ≡ some z
  stands_as z e = pl.at_kind ∙ ap {B = Option Kind} (λ y. some y) e

  fine_as : (z : Kind) → pl.en.kind ≡ z → EntryOk q.datas s.roots (rooted pl.root 0) v.gone z pl.stands.tree (F ++ C) T
  fine_as z e = subst (λ y. EntryOk q.datas s.roots (rooted pl.root 0) v.gone y pl.stands.tree (F ++ C) T) e pl.ok_at_root

  module _ (mm : Matched) (l : Loc) (k : Lexeme) (vs : Values) (lk : Scrutinee d x l (shape k vs) s) where
    -- by an owner or a mut: loans of the name
    by_name : (w : Access) (al : Bool) → Suit w al → parts w l vs ≡ refs_to l 0 vs → taken w s l ≡ some s → (D : Lexeme) (z : Kind) → pl.en.kind ≡ z
        → exclusive z ≡ true → Seen q.datas (F ++ C) T pl.level z D l k vs → data_named q.datas D ≡ some mm.data1
        → mm.loans ≡ loan v.name al ∷ [] → mm.env ≡ g → MayLend (all_loans g) v.name al → Looked q C ln mm d w l k vs s
    by_name w al suit pa ta D z z-is xz sn dn ls-is env_is r =
        looked_name q o C ln d F T s w al mm D x pl.level z l k vs suit pa ta sn dn (stands_as z z-is) xz
        (owner_of (kinds (F ++ C)) wo.borrows.anchored pl.level z sn.az (stands_as z z-is) sn.az_is)
        (λ aw pre. lendable q.datas C ln [] g d [] F T s x pl.level al z sn.az aw sc wo pl.levelled
        (subst (λ y. MayLend (all_loans g) y al) name_is r) (stands_as z z-is) sn.az_is xz pre)
        (subst (λ y. name_level (length C) y x ≡ some pl.level) (sym env_is) pl.levelled)
        (subst (λ y. mm.loans ≡ loan y al ∷ []) name_is ls-is)
        (subst (λ y. Scope (length C) ln y d F) (sym env_is) sc.names) wo

    own_seen : (D : Lexeme) → pl.en.kind ≡ own (dat D) → Seen q.datas (F ++ C) T pl.level (own (dat D)) D l k vs
    own_seen D e =
        seen_own q.datas (F ++ C) T s pl.level pl.root v.gone pl.stands.tree D d x l k vs pl.named pl.at_root
        pl.stands.holds
        is_there.1 (fine_as (own (dat D)) e) lk

    ref_seen : (D : Lexeme) (al : Bool) (a : Addr) (ls : List LevelLoan) → pl.en.kind ≡ borrow al (dat D) a ls
        → Seen q.datas (F ++ C) T pl.level (borrow al (dat D) a ls) D l k vs
    ref_seen D al a ls e =
        seen_ref q.datas (F ++ C) T s pl.level pl.root v.gone pl.stands.tree al a ls D d x l k vs wo
        (stands_as (borrow al (dat D) a ls) e) pl.named (fine_as (borrow al (dat D) a ls) e) lk

    -- by a ref: its own loans
    by_ref : (D : Lexeme) (a : Addr) (ls : List LevelLoan) → pl.en.kind ≡ borrow false (dat D) a ls → data_named q.datas D ≡ some mm.data1
        → mm.loans ≡ v.loans → mm.env ≡ g → Looked q C ln mm d view l k vs s
    by_ref D a ls z-is dn ls-is env_is =
        let z = borrow false (dat D) a ls in
        let z_at = stands_as z z-is in
        let sn = seen_ref q.datas (F ++ C) T s pl.level pl.root v.gone pl.stands.tree false a ls D d x l k vs wo z_at pl.named
        (fine_as z z-is) lk in
        let hm = anchored_at (kinds (F ++ C)) wo.borrows.anchored pl.level false (dat D) a ls z_at in
        let a_is : a ≡ sn.az = some_is sn.az_is in
        looked_refs q o C ln d F T s view false mm D pl.level z ls l k vs (λ t a1 L. refl) refl refl sn dn z_at (λ y. y)
        hm.0 (hm.1.0, hm.1.1, hm.1.2 ∙ ap {B = Option ℕ} (λ y. some y.owner) a_is)
        (hm.2.0, ap (λ y. at_level (kinds (F ++ C)) y.owner) (sym a_is) ∙ hm.2.1) (inl refl)
        (subst (λ y. LoansCover (length C) ln y mm.loans ls) (sym env_is)
        (subst (λ y. LoansCover (length C) ln g y ls) (sym ls-is)
        (subst (λ y. LoansCover (length C) ln g v.loans (loans_of y)) z-is pl.loans)))
        (subst (λ y. Scope (length C) ln y d F) (sym env_is) sc.names) wo

    by_type : (w : Access) (ty : Ty) → v.ty ≡ ty → looks_at q g v w ty ≡ some mm → Looked q C ln mm d w l k vs s
    by_type take int e h = absurd (no_some h)
    by_type take (dat D) e h =
        let f = only_is _ (matched (data_named q.datas D) [] (set_gone true g v.name)) mm h in
        let m = matched_is (data_named q.datas D) [] (set_gone true g v.name) mm f.1 in
        looked_take q o C ln g d F T s x v D mm l k vs sc is_there.0 is_there.1 e (subst (λ y. is_free (all_loans g) y ≡ true) name_is f.0)
        m.0 m.1 (m.2 ∙ ap (set_gone true g) name_is) lk wo
    by_type take (box t) e h = absurd (no_some h)
    by_type take (ref t) e h = absurd (no_some h)
    by_type take (mut t) e h = absurd (no_some h)
    by_type view int e h = absurd (no_some h)
    by_type view (dat D) e h =
        let f = only_is _ (matched (data_named q.datas D) (loan v.name false ∷ []) g) mm h in
        let m = matched_is (data_named q.datas D) (loan v.name false ∷ []) g mm f.1 in
        let z-is = fits_dat D pl.en.kind (subst (λ y. KindFits y pl.en.kind) e pl.type) in
        by_name view false (λ t a L. refl) refl refl D (own (dat D)) z-is refl (own_seen D z-is) m.0 m.1 m.2 f.0
    by_type view (box t) e h = absurd (no_some h)
    by_type view (ref t) e h =
        let f = only_is _ (matched (data_of q t) v.loans g) mm h in
        let m = matched_is (data_of q t) v.loans g mm f.1 in
        let D = data_of_is q t mm.data1 m.0 in
        let z = fits_ref t pl.en.kind (subst (λ y. KindFits y pl.en.kind) e pl.type) in
        by_ref D.0 z.0 z.1 (z.2 ∙ ap (λ y. borrow false y z.0 z.1) D.1) D.2 m.1 m.2
    by_type view (mut t) e h =
        let f = only_is _ (matched (data_of q t) (loan v.name false ∷ []) g) mm h in
        let m = matched_is (data_of q t) (loan v.name false ∷ []) g mm f.1 in
        let D = data_of_is q t mm.data1 m.0 in
        let z = fits_mut t pl.en.kind (subst (λ y. KindFits y pl.en.kind) e pl.type) in
        let z-is = z.2 ∙ ap (λ y. borrow true y z.0 z.1) D.1 in
        by_name view false (λ t a L. refl) refl refl D.0 (borrow true (dat D.0) z.0 z.1) z-is refl
        (ref_seen D.0 true z.0 z.1 z-is) D.2 m.1 m.2 f.0
    by_type edit int e h = absurd (no_some h)
    by_type edit (dat D) e h =
        let f = only_is _ (matched (data_named q.datas D) (loan v.name true ∷ []) g) mm h in
        let m = matched_is (data_named q.datas D) (loan v.name true ∷ []) g mm f.1 in
        let z-is = fits_dat D pl.en.kind (subst (λ y. KindFits y pl.en.kind) e pl.type) in
        by_name edit true (λ t a L. refl) refl refl D (own (dat D)) z-is refl (own_seen D z-is) m.0 m.1 m.2 f.0
    by_type edit (box t) e h = absurd (no_some h)
    by_type edit (ref t) e h = absurd (no_some h)
    by_type edit (mut t) e h =
        let f = only_is _ (matched (data_of q t) (loan v.name true ∷ []) g) mm h in
        let m = matched_is (data_of q t) (loan v.name true ∷ []) g mm f.1 in
        let D = data_of_is q t mm.data1 m.0 in
        let z = fits_mut t pl.en.kind (subst (λ y. KindFits y pl.en.kind) e pl.type) in
        let z-is = z.2 ∙ ap (λ y. borrow true y z.0 z.1) D.1 in
        by_name edit true (λ t a L. refl) refl refl D.0 (borrow true (dat D.0) z.0 z.1) z-is refl
        (ref_seen D.0 true z.0 z.1 z-is) D.2 m.1 m.2 f.0

    -- what a match looks at, in any way
    pub looks : (w : Access) → looks_at q g v w v.ty ≡ some mm → Looked q C ln mm d w l k vs s
    looks w h = by_type w v.ty refl h
