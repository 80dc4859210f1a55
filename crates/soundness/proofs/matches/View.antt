-- What a match looks at, a constructor's tree at an address, and for view and edit the references to its parts.
use mathlib.Core.Bool.{Bool, true, false}
use mathlib.Core.List.{List, [], ◌∷◌, ◌++◌}
use mathlib.Core.Logic.{◌⊎◌, inl, inr}
use mathlib.Core.Option.{Option, some}
use mathlib.Core.Path.{◌≡◌, refl, sym, ◌∙◌, ap, subst}
use Prim.Native.Nat.{ℕ, ◌<◌}
use native.Mathlib.Omega.{arith}
use lib.ListN.{length}
use Rattle.language.specs.Base.{if_some, Lexeme}
use Rattle.language.specs.Syntax.{Ty, dat, Access, Data, Prog, Ctor}
use Rattle.language.specs.Checks.{Matched, loan, bind_all, ref_of, data_named, ctor_named}
use Rattle.language.specs.Checks as ch
use Rattle.language.specs.Meaning.{Loc, con_v, Values, State, here, root_of, read_at, place_of, shape_of, shape, taken, refs_to, parts}
use Rattle.language.specs.Meaning as me
use Rattle.soundness.specs.Borrows.{In, Addr, LevelLoan, Kind, own, borrow, at_level, exclusive, addr_of, Prefix, HasLoan, owner_at}
use Rattle.soundness.specs.Trees.{Tree, int_t, con_t, box_t, hole_t, Trees, flat, flats, Typed, field_step, nth_t, subtree, loc_down}
use Rattle.soundness.specs.Invariant.{rooted, Entry, kinds, places, Content, ValidRef, EntryOk, Invariant}
use Rattle.soundness.specs.Frames.{name_level, LoansCover, KindFits, Scope}
use Rattle.soundness.specs.Preserved.{Scrutinee}
use Rattle.soundness.proofs.Basics.{some_is, true_false}
use Rattle.soundness.proofs.loans.Levels.{level_below}
use Rattle.soundness.proofs.loans.Exclusivity.{Unobstructed}
use Rattle.soundness.proofs.invariant.Top.{reads}
use Rattle.soundness.proofs.invariant.Borrows.{anchored_at, valid_ref_read}
use Rattle.soundness.proofs.statics.Accepted.{okay}
use Rattle.soundness.proofs.statics.Alternatives.{home_is}
use Rattle.soundness.proofs.matches.Patterns.{Bound, child_addr, Ready, refs_bound}

-- what's seen: at level lz, of kind z; the constructor k with the parts vs, of data D
pub record Seen (ds : List Data) (N : List Entry) (T : List Tree) (lz : ℕ) (z : Kind) (D : Lexeme) (l : Loc) (k : Lexeme) (vs : Values) : Type 0 where
  pub az : Addr
  pub az_is : addr_of lz z ≡ some az
  pub root : ℕ
  pub whole : Tree
  pub all : Trees
  pub standing : at_level (places N) az.owner ≡ some (rooted root 0)
  pub holding : at_level T az.owner ≡ some whole
  pub sub_is : subtree az.path whole ≡ some (con_t k all)
  pub typed : Typed ds (con_t k all) (dat D)
  pub vs_is : flats all ≡ vs
  pub l_is : l ≡ loc_down (here root) az.path whole

seen_at : (ds : List Data) (N : List Entry) (T : List Tree) (s : State) (lz : ℕ) (z : Kind) (D : Lexeme) (d : me.Env) (x : Lexeme) (l : Loc)
    (k : Lexeme) (vs : Values) (az : Addr) (root : ℕ) (whole part : Tree) → addr_of lz z ≡ some az
    → at_level (places N) az.owner ≡ some (rooted root 0) → at_level T az.owner ≡ some whole → subtree az.path whole ≡ some part
    → Typed ds part (dat D) → l ≡ loc_down (here root) az.path whole → read_at s (loc_down (here root) az.path whole) ≡ some (flat part)
    → Scrutinee d x l (shape k vs) s → Seen ds N T lz z D l k vs
seen_at ds N T s lz z D d x l k vs az root whole (int_t j) a_is st ho sb ty l_is rd lk = absurd ty
seen_at ds N T s lz z D d x l k vs az root whole (con_t k1 ts) a_is st ho sb ty l_is rd lk =
    let seen_is : lk.seen ≡ con_v k1 (flats ts) = some_is (sym lk.sees ∙ ap (read_at s) l_is ∙ rd) in
    let sh_is : shape k1 (flats ts) ≡ shape k vs = some_is (sym (ap shape_of seen_is) ∙ lk.shaped) in
    let k_is : k1 ≡ k = cc in
    record {
      az = az;
      az_is = a_is;
      root = root;
      whole = whole;
      all = ts;
      standing = st;
      holding = ho;
      sub_is = sb ∙ ap {B = Option Tree}
          (λ y. some (con_t y ts)) k_is;
      typed = subst (λ y. Typed ds (con_t y ts) (dat D)) k_is ty;
      vs_is = cc;
      l_is = l_is;
    }
seen_at ds N T s lz z D d x l k vs az root whole (box_t r w t) a_is st ho sb ty l_is rd lk = absurd ty
seen_at ds N T s lz z D d x l k vs az root whole hole_t a_is st ho sb ty l_is rd lk = absurd ty

pub place_con : (ds : List Data) (r : ℕ) (x : Tree) (D : Lexeme) → Typed ds x (dat D) → place_of r (flat x) ≡ here r
place_con ds r (int_t j) D ty = refl
place_con ds r (con_t k ts) D ty = refl
place_con ds r (box_t i w t) D ty = refl
place_con ds r hole_t D ty = refl

-- by its owner
pub seen_own : (ds : List Data) (N : List Entry) (T : List Tree) (s : State) (lz : ℕ) (root : ℕ) (gone : Bool) (tree : Tree) (D : Lexeme) (d : me.Env)
    (x : Lexeme) (l : Loc) (k : Lexeme) (vs : Values) → root_of d x ≡ some root → at_level (places N) lz ≡ some (rooted root 0)
    → at_level T lz ≡ some tree → gone ≡ false → EntryOk ds s.roots (rooted root 0) gone (own (dat D)) tree N T → Scrutinee d x l (shape k vs) s
    → Seen ds N T lz (own (dat D)) D l k vs
seen_own ds N T s lz root gone tree D d x l k vs nm st ho ng f lk =
    seen_at ds N T s lz (own (dat D)) D d x l k vs (record { owner = lz; path = [] }) root tree tree refl st ho refl ty
    (lk.place ∙ ap (place_of lk.root) val_is ∙ place_con ds lk.root tree D ty ∙ ap here root_is) rd lk
  where
    root_is : lk.root ≡ root
    root_is = some_is (sym lk.named ∙ nm)

    rd : read_at s (here root) ≡ some (flat tree)
    rd = reads s root (flat tree) 0 f.0

    val_is : lk.val ≡ flat tree
    val_is = some_is (sym lk.reads ∙ ap (λ z. read_at s (here z)) root_is ∙ rd)

    whole1 : Content ds gone (dat D) tree → Typed ds tree (dat D)
    whole1 (inl y) = y
    whole1 (inr y) = absurd (true_false (sym y.0 ∙ ng))

    ty : Typed ds tree (dat D)
    ty = whole1 f.3

-- by a reference
pub seen_ref : (ds : List Data) (N : List Entry) (T : List Tree) (s : State) (lz : ℕ) (root : ℕ) (gone : Bool) (tree : Tree) (al : Bool) (a : Addr)
    (ls : List LevelLoan) (D : Lexeme) (d : me.Env) (x : Lexeme) (l : Loc) (k : Lexeme) (vs : Values) → Invariant ds N T s
    → at_level (kinds N) lz ≡ some (borrow al (dat D) a ls) → root_of d x ≡ some root
    → EntryOk ds s.roots (rooted root 0) gone (borrow al (dat D) a ls) tree N T → Scrutinee d x l (shape k vs) s
    → Seen ds N T lz (borrow al (dat D) a ls) D l k vs
seen_ref ds N T s lz root gone tree al a ls D d x l k vs w z_at nm f lk =
    let v = f.1.0 in
    let pt : ValidRef ds N T (dat D) a v = f.1.2 in
    let root_is : lk.root ≡ root = some_is (sym lk.named ∙ nm) in
    let val_is : lk.val ≡ v = some_is (sym lk.reads ∙ ap (λ z. read_at s (here z)) root_is ∙ reads s root v 0 f.1.1) in
    let hm = anchored_at (kinds N) w.borrows.anchored lz al (dat D) a ls z_at in
    seen_at ds N T s lz (borrow al (dat D) a ls) D d x l k vs a pt.root pt.whole pt.part refl pt.standing pt.holding
    pt.leading pt.typed
    (lk.place ∙ ap (place_of lk.root) (val_is ∙ pt.value))
    (valid_ref_read ds N T s (dat D) hm.2.0 a v w hm.2.1 pt).0 lk

-- what the rules and the run have of a match: the constructor, the state, the bound names
pub record Looked (q : Prog) (C : List Entry) (ln : List LevelLoan) (mm : Matched) (d : me.Env) (w : Access) (l : Loc) (k : Lexeme) (vs : Values)
    (s : State) : Type 0 where
  pub ctor1 : Ctor
  pub is_ctor : ctor_named mm.data1.ctors k ≡ some ctor1
  pub t : State
  pub takes : taken w s l ≡ some t
  pub under : t.under ≡ s.under
  pub binds : (xs : List Lexeme) (bound : ch.Env) → bind_all w mm.loans mm.env xs ctor1.fields ≡ some bound
      → Bound q.datas C ln mm.env bound d xs (parts w l vs) t

abbrev pub Suit : Access → Bool → Type 0
Suit w al = (t : Ty) (a : Addr) (L : List LevelLoan) → KindFits (ref_of w t) (borrow al t a L)

pub looked_refs : (q : Prog) → ch.accepts q ≡ true
    → (C : List Entry) (ln : List LevelLoan) (d : me.Env) (F : List Entry) (T : List Tree) (s : State) (w : Access) (al : Bool) (mm : Matched)
    (D : Lexeme) (lz : ℕ) (z : Kind) (L : List LevelLoan) (l : Loc) (k : Lexeme) (vs : Values) → Suit w al → parts w l vs ≡ refs_to l 0 vs
    → taken w s l ≡ some s → (sn : Seen q.datas (F ++ C) T lz z D l k vs) → data_named q.datas D ≡ some mm.data1
    → at_level (kinds (F ++ C)) lz ≡ some z → (al ≡ true → exclusive z ≡ true)
    → ((l1 : LevelLoan) → In l1 L → l1.level < length (kinds (F ++ C)))
    → ((l1 : LevelLoan) × In l1 L × (owner_at (kinds (F ++ C)) l1.level ≡ some sn.az.owner))
    → ((u : Ty) × (at_level (kinds (F ++ C)) sn.az.owner ≡ some (own u)))
    → (exclusive z ≡ false) ⊎ (HasLoan L lz al × ((aw : Addr) → Prefix sn.az aw → Unobstructed (kinds (F ++ C)) lz al aw))
    → LoansCover (length C) ln mm.env mm.loans L → Scope (length C) ln mm.env d F → Invariant q.datas (F ++ C) T s
    → Looked q C ln mm d w l k vs s
looked_refs q o C ln d F T s w al mm D lz z L l k vs suit pa ta sn dn z_at ex low home owner src cov mt wo =
    let ty = sn.typed in
    let rd : Ready al L lz z sn.az sn.root sn.whole 0
    (F ++ C) T = record {
      z_at = z_at;
      low = low;
      home = home;
      owner = owner;
      standing = sn.standing;
      holding = sn.holding;
      src = elim src [ inl y ↦ inl y | inr y ↦ inr (y.0, λ j le. y.1 (child_addr sn.az j) (refl, (field_step j ∷ [], refl))) ];
    } in
    record {
      ctor1 = ty.0.ctor1;
      is_ctor = home_is q.datas k D ty.0 mm.data1 (okay q o).data_names ty.1 ty.2 dn;
      t = s;
      takes = ta;
      under = refl;
      binds =
          λ xs bound e. subst (λ y. Bound q.datas C ln mm.env bound d xs y s)
          (ap (λ y. refs_to y 0 (flats sn.all)) (sym sn.l_is) ∙ ap (refs_to l 0) sn.vs_is ∙ sym pa)
          (refs_bound q.datas C ln w al suit mm.loans L lz z sn.az sn.az_is ex sn.root sn.whole k sn.all sn.sub_is xs
          ty.0.ctor1.fields sn.all 0 mm.env bound d F T s e ty.3 (λ j y h. ap (nth_t sn.all) (omega arith) ∙ h) mt cov rd wo);
    }

-- of a name that's exclusive: a loan of it
pub looked_name : (q : Prog) → ch.accepts q ≡ true
    → (C : List Entry) (ln : List LevelLoan) (d : me.Env) (F : List Entry) (T : List Tree) (s : State) (w : Access) (al : Bool) (mm : Matched)
    (D x : Lexeme) (lz : ℕ) (z : Kind) (l : Loc) (k : Lexeme) (vs : Values) → Suit w al → parts w l vs ≡ refs_to l 0 vs → taken w s l ≡ some s
    → (sn : Seen q.datas (F ++ C) T lz z D l k vs) → data_named q.datas D ≡ some mm.data1 → at_level (kinds (F ++ C)) lz ≡ some z
    → exclusive z ≡ true → ((u : Ty) × (at_level (kinds (F ++ C)) sn.az.owner ≡ some (own u)))
    → ((aw : Addr) → Prefix sn.az aw → Unobstructed (kinds (F ++ C)) lz al aw) → name_level (length C) mm.env x ≡ some lz
    → mm.loans ≡ loan x al ∷ [] → Scope (length C) ln mm.env d F → Invariant q.datas (F ++ C) T s → Looked q C ln mm d w l k vs s
looked_name q o C ln d F T s w al mm D x lz z l k vs suit pa ta sn dn z_at xz owner quiet lv ls-is mt wo =
    looked_refs q o C ln d F T s w al mm D lz z (l1 ∷ []) l k vs suit pa ta sn dn z_at (λ y. xz)
    (λ l2 i. elim i [
      | inl y ↦ (let y1 : l2.level ≡ lz = ap (λ r. r.level) y in let y2 = level_below (kinds (F ++ C)) lz z z_at in omega arith)
      | inr y ↦ absurd y
    ]) (
      l1,
      inl refl,
      ap (λ r. if_some r (λ z1. if_some (addr_of lz z1) (λ a. some a.owner))) z_at ∙ ap (λ r. if_some r (λ a. some a.owner))
          sn.az_is,
    ) owner
    (inr ((l1, inl refl, refl, λ y. y), quiet))
    (subst (λ y. LoansCover (length C) ln mm.env y (l1 ∷ [])) (sym ls-is)
    (λ l2 i. elim i [
      | inl y ↦ inr (x, lv ∙ ap {B = Option ℕ} (λ r. some r.level) (sym y), inl (ap (λ r. loan x r.alone) y))
      | inr y ↦ absurd y
    ])) mt wo
  where
    l1 : LevelLoan
    l1 = record { level = lz; alone = al }
