-- The run finds what a match looks at.
use mathlib.Core.Bool.{Bool, true, false}
use mathlib.Core.List.{List, [], ◌∷◌, ◌++◌}
use mathlib.Core.Logic.{◌⊎◌, inl, inr}
use mathlib.Core.Option.{Option, some}
use mathlib.Core.Path.{◌≡◌, refl, sym, ◌∙◌, ap, subst}
use Prim.Native.Nat.{ℕ}
use Rattle.language.specs.Base.{Lexeme}
use Rattle.language.specs.Syntax.{Ty, int, dat, box, ref, mut, Access, Data, Prog, take, view, edit}
use Rattle.language.specs.Checks.{Var, Matched, loan, look, looks_at, matched, data_of}
use Rattle.language.specs.Checks as ch
use Rattle.language.specs.Meaning.{Value, con_v, State, Shape, here, root_of, read_at, place_of, shape}
use Rattle.language.specs.Meaning as me
use Rattle.soundness.specs.Trees.{Tree, int_t, con_t, box_t, hole_t, flat, flats, Typed}
use Rattle.soundness.specs.Borrows.{Addr, LevelLoan, Kind, own, borrow}
use Rattle.soundness.specs.Invariant.{rooted, Entry, kinds, Content, ValidRef, EntryOk, Invariant}
use Rattle.soundness.specs.Frames.{KindFits, Frame}
use Rattle.soundness.specs.Preserved.{Scrutinee}
use Rattle.soundness.proofs.Basics.{no_some, only_is, true_false}
use Rattle.soundness.proofs.invariant.Top.{reads}
use Rattle.soundness.proofs.invariant.Borrows.{anchored_at, valid_ref_read}
use Rattle.soundness.proofs.statics.Rules.{there_is}
use Rattle.soundness.proofs.frames.Lookup.{NameAt, name_at}
use Rattle.soundness.proofs.matches.View.{place_con}
use Rattle.soundness.proofs.invariant.Kinds.{fits_dat, fits_ref, fits_mut}
use Rattle.soundness.proofs.matches.Scrutinee.{matched_is, data_of_is}

-- what a rule lets be looked at: data, by its owner or by a reference
aims : (q : Prog) (g : ch.Env) (v : Var) (mm : Matched) (z : Kind) (w : Access) (ty : Ty) → KindFits ty z → looks_at q g v w ty ≡ some mm
    → (D : Lexeme) × ((z ≡ own (dat D)) ⊎ ((al : Bool) × (a : Addr) × (ls : List LevelLoan) × (z ≡ borrow al (dat D) a ls)))
aims q g v mm z take int su h = absurd (no_some h)
aims q g v mm z take (dat D) su h = (D, inl (fits_dat D z su))
aims q g v mm z take (box t) su h = absurd (no_some h)
aims q g v mm z take (ref t) su h = absurd (no_some h)
aims q g v mm z take (mut t) su h = absurd (no_some h)
aims q g v mm z view int su h = absurd (no_some h)
aims q g v mm z view (dat D) su h = (D, inl (fits_dat D z su))
aims q g v mm z view (box t) su h = absurd (no_some h)
aims q g v mm z view (ref t) su h =
    let m = matched_is (data_of q t) v.loans g mm (only_is _ (matched (data_of q t) v.loans g) mm h).1 in
    let D = data_of_is q t mm.data1 m.0 in
    let y = fits_ref t z su in
    (D.0, inr (false, y.0, y.1, y.2 ∙ ap (λ r. borrow false r y.0 y.1) D.1))
aims q g v mm z view (mut t) su h =
    let m = matched_is (data_of q t) (loan v.name false ∷ []) g mm
    (only_is _ (matched (data_of q t) (loan v.name false ∷ []) g) mm h).1 in
    let D = data_of_is q t mm.data1 m.0 in
    let y = fits_mut t z su in
    (D.0, inr (true, y.0, y.1, y.2 ∙ ap (λ r. borrow true r y.0 y.1) D.1))
aims q g v mm z edit int su h = absurd (no_some h)
aims q g v mm z edit (dat D) su h = (D, inl (fits_dat D z su))
aims q g v mm z edit (box t) su h = absurd (no_some h)
aims q g v mm z edit (ref t) su h = absurd (no_some h)
aims q g v mm z edit (mut t) su h =
    let m = matched_is (data_of q t) (loan v.name true ∷ []) g mm
    (only_is _ (matched (data_of q t) (loan v.name true ∷ []) g) mm h).1 in
    let D = data_of_is q t mm.data1 m.0 in
    let y = fits_mut t z su in
    (D.0, inr (true, y.0, y.1, y.2 ∙ ap (λ r. borrow true r y.0 y.1) D.1))

-- the run finds what is looked at
abbrev pub ScrutineeSeen : me.Env → Lexeme → State → Type 0
ScrutineeSeen d x s = (r : ℕ) × (v : Value) × (y : Shape) × Scrutinee d x (place_of r v) y s × (root_of d x ≡ some r) × (read_at s (here r) ≡ some v)

con_seen : (ds : List Data) (d : me.Env) (x : Lexeme) (s : State) (r : ℕ) (v : Value) (part : Tree) (D : Lexeme) → Typed ds part (dat D)
    → root_of d x ≡ some r → read_at s (here r) ≡ some v → read_at s (place_of r v) ≡ some (flat part) → ScrutineeSeen d x s
con_seen ds d x s r v (int_t j) D ty nm rd se = absurd ty
con_seen ds d x s r v (con_t k ts) D ty nm rd se = (
  r,
  v,
  shape k (flats ts),
  record {
    root = r;
    val = v;
    seen = con_v k (flats ts);
    named = nm;
    reads = rd;
    place = refl;
    sees = se;
    shaped = refl;
  },
  nm,
  rd,
)
con_seen ds d x s r v (box_t i w t) D ty nm rd se = absurd ty
con_seen ds d x s r v hole_t D ty nm rd se = absurd ty

pub scrutinee_seen : (q : Prog) (C : List Entry) (ln : List LevelLoan) (g : ch.Env) (d : me.Env) (F : List Entry) (T : List Tree) (s : State)
    (w : Access) (x : Lexeme) (v : Var) (mm : Matched) → ch.there g x ≡ some v → looks_at q g v w v.ty ≡ some mm → Frame C ln [] g d [] F
    → Invariant q.datas (F ++ C) T s → ScrutineeSeen d x s
scrutinee_seen q C ln g d F T s w x v mm th la sc wo = go (aims q g v mm pl.en.kind w v.ty pl.type la)
  where
    it : (look g x ≡ some v) × (v.gone ≡ false)
    it = there_is g x v th

    pl : NameAt q.datas C ln g d [] F T s x v
    pl = name_at q.datas C ln [] g d [] F T s x v sc wo it.0

    fine_as : (z : Kind) → pl.en.kind ≡ z → EntryOk q.datas s.roots (rooted pl.root 0) v.gone z pl.stands.tree (F ++ C) T
    fine_as z e = subst (λ y. EntryOk q.datas s.roots (rooted pl.root 0) v.gone y pl.stands.tree (F ++ C) T) e pl.ok_at_root

    whole1 : (D : Lexeme) → Content q.datas v.gone (dat D) pl.stands.tree → Typed q.datas pl.stands.tree (dat D)
    whole1 D (inl y) = y
    whole1 D (inr y) = absurd (true_false (sym y.0 ∙ it.1))

    go : (D : Lexeme) × ((pl.en.kind ≡ own (dat D)) ⊎ ((al : Bool) × (a : Addr) × (ls : List LevelLoan) × (pl.en.kind ≡ borrow al (dat D) a ls)))
        → ScrutineeSeen d x s
    go (D, inl e) =
        let f = fine_as (own (dat D)) e in
        let ty = whole1 D f.3 in
        let rd = reads s pl.root (flat pl.stands.tree) 0 f.0 in
        con_seen q.datas d x s pl.root (flat pl.stands.tree) pl.stands.tree D ty pl.named rd
        (ap (read_at s) (place_con q.datas pl.root pl.stands.tree D ty) ∙ rd)
    go (D, inr y) =
        let e = y.3 in
        let f = fine_as (borrow y.0 (dat D) y.1 y.2) e in
        let pt : ValidRef q.datas (F ++ C) T (dat D) y.1 f.1.0 = f.1.2 in
        let hm = anchored_at (kinds (F ++ C)) wo.borrows.anchored pl.level y.0 (dat D) y.1 y.2
        (pl.at_kind ∙ ap {B = Option Kind} (λ r. some r) e) in
        con_seen q.datas d x s pl.root f.1.0 pt.part D pt.typed pl.named (reads s pl.root f.1.0 0 f.1.1)
        (ap (λ r. read_at s (place_of pl.root r)) pt.value ∙ (valid_ref_read q.datas (F ++ C) T s (dat D) hm.2.0 y.1 f.1.0 wo
        hm.2.1 pt).0)
