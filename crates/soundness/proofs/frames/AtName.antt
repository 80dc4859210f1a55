-- What stands at a name of the frame: a value that it owns, or a reference; and when it may be lent.
use mathlib.Core.Bool.{Bool, true, false}
use mathlib.Core.List.{List, [], ◌++◌}
use mathlib.Core.Option.{Option, some}
use mathlib.Core.Path.{◌≡◌, ◌∙◌, ap, subst, refl}
use Prim.Native.Nat.{ℕ}
use lib.ListN.{length}
use Rattle.language.specs.Base.{Lexeme}
use Rattle.language.specs.Syntax.{Data, Ty}
use Rattle.language.specs.Checks.{Loan, Var, is_free, readable, all_loans, owned}
use Rattle.language.specs.Checks as ch
use Rattle.language.specs.Meaning.{State, Loc, read_at, here, ref_v, Value}
use Rattle.language.specs.Meaning as me
use Rattle.soundness.specs.Trees.{Tree, loc_down, flat, Typed}
use Rattle.soundness.specs.Borrows.{LevelLoan, at_level, loans_of, Kind, Addr, borrow, own, addr_of, exclusive, Prefix}
use Rattle.soundness.specs.Invariant.{rooted, Entry, kinds, EntryOk, Invariant, ValidRef}
use Rattle.soundness.specs.Frames.{name_level, LoansCover, KindFits, Frame}
use Rattle.soundness.proofs.frames.Lookup.{NameAt, free_at, readable_at}
use Rattle.soundness.proofs.invariant.Kinds.{owned_kind, ref_type, fits_borrow}
use Rattle.soundness.proofs.invariant.Levels.{not_gone}
use Rattle.soundness.proofs.invariant.Borrows.{owner_of, valid_ref_read}
use Rattle.soundness.proofs.invariant.Top.{reads}
use Rattle.soundness.proofs.loans.Exclusivity.{Unobstructed, unobstructed_free, unobstructed_readable}

-- a name that is a reference
pub record BorrowAt (ds : List Data) (C : List Entry) (ln : List LevelLoan) (g : ch.Env) (v : Var) (N : List Entry) (T : List Tree) (s : State)
    (level root : ℕ) (al : Bool) (t : Ty) : Type 0 where
  pub addr : Addr
  pub ls : List LevelLoan
  pub loc : Loc
  pub at_kind : at_level (kinds N) level ≡ some (borrow al t addr ls)
  pub covered : LoansCover (length C) ln g v.loans ls
  pub reads_it : read_at s (here root) ≡ some (ref_v loc)
  pub valid : ValidRef ds N T t addr (ref_v loc)
  pub leads : read_at s loc ≡ some (flat valid.part)

pub borrow_at : (ds : List Data) (C : List Entry) (ln : List LevelLoan) (g : ch.Env) (d : me.Env) (H F : List Entry) (T : List Tree) (s : State)
    (x : Lexeme) (v : Var) (al : Bool) (t : Ty) → Invariant ds (H ++ (F ++ C)) T s → (n : NameAt ds C ln g d H F T s x v) → v.ty ≡ ref_type al t
    → BorrowAt ds C ln g v (H ++ (F ++ C)) T s n.level n.root al t
borrow_at ds C ln g d H F T s x v al t w n ty_is =
    let N = H ++ (F ++ C) in
    let b = fits_borrow al t n.en.kind (subst (λ z. KindFits z n.en.kind) ty_is n.type) in
    let ok : EntryOk ds s.roots (rooted n.root 0) v.gone (borrow al t b.0 b.1) n.stands.tree N T
    = subst (λ z. EntryOk ds s.roots (rooted n.root 0) v.gone z n.stands.tree N T) b.2 n.ok_at_root in
    let pt = ok.1.2 in
    let loc = loc_down (here pt.root) b.0.path pt.whole in
    let at_kind : at_level (kinds N) n.level ≡ some (borrow al t b.0 b.1) = n.at_kind ∙ ap {B = Option Kind} (λ z. some z) b.2 in
    let ow = owner_of (kinds N) w.borrows.anchored n.level (borrow al t b.0 b.1) b.0 at_kind refl in
    record {
      addr = b.0;
      ls = b.1;
      loc = loc;
      at_kind = at_kind;
      covered = subst (λ z. LoansCover (length C) ln g v.loans (loans_of z)) b.2 n.loans;
      reads_it = reads s n.root ok.1.0 0 ok.1.1 ∙ ap {B = Option Value} (λ z. some z) pt.value;
      valid = record {
        root = pt.root;
        whole = pt.whole;
        part = pt.part;
        standing = pt.standing;
        holding = pt.holding;
        leading = pt.leading;
        typed = pt.typed;
        value = refl;
      };
      leads = (valid_ref_read ds N T s t ow.0 b.0 ok.1.0 w ow.1 pt).0;
    }

-- a name that owns, and isn't gone
pub record OwnAt (ds : List Data) (N : List Entry) (T : List Tree) (s : State) (level root : ℕ) (t : Ty) : Type 0 where
  pub tree : Tree
  pub at_kind : at_level (kinds N) level ≡ some (own t)
  pub reads_it : read_at s (here root) ≡ some (flat tree)
  pub typed : Typed ds tree t
  pub valid : ValidRef ds N T t (record { owner = level; path = [] }) (ref_v (here root))

pub own_at : (ds : List Data) (C : List Entry) (ln : List LevelLoan) (g : ch.Env) (d : me.Env) (H F : List Entry) (T : List Tree) (s : State)
    (x : Lexeme) (v : Var) → (n : NameAt ds C ln g d H F T s x v) → owned v.ty ≡ true → v.gone ≡ false
    → OwnAt ds (H ++ (F ++ C)) T s n.level n.root v.ty
own_at ds C ln g d H F T s x v n ow there1 =
    let N = H ++ (F ++ C) in
    let tr = n.stands.tree in
    let k_is : n.en.kind ≡ own v.ty = owned_kind v.ty n.en.kind ow n.type in
    let ok : EntryOk ds s.roots (rooted n.root 0) v.gone (own v.ty) tr N T
    = subst (λ z. EntryOk ds s.roots (rooted n.root 0) v.gone z tr N T) k_is n.ok_at_root in
    let ty : Typed ds tr v.ty = not_gone ds v.gone v.ty tr there1 ok.3 in
    record {
      tree = tr;
      at_kind = n.at_kind ∙ ap {B = Option Kind} (λ z. some z) k_is;
      reads_it = reads s n.root (flat tr) 0 ok.0;
      typed = ty;
      valid = record {
        root = n.root;
        whole = tr;
        part = tr;
        standing = n.at_root;
        holding = n.stands.holds;
        leading = refl;
        typed = ty;
        value = refl;
      };
    }

-- alone only what is free, shared what is readable
abbrev pub MayLend : List Loan → Lexeme → Bool → Type 0
MayLend ls x true = is_free ls x ≡ true
MayLend ls x false = readable ls x ≡ true

pub lendable : (ds : List Data) (C : List Entry) (ln : List LevelLoan) (held : List Loan) (g : ch.Env) (d : me.Env) (H F : List Entry)
    (T : List Tree)
    (s : State) (x : Lexeme) (lx : ℕ) (al : Bool) (z : Kind) (az aw : Addr) → Frame C ln held g d H F → Invariant ds (H ++ (F ++ C)) T s
    → name_level (length C) g x ≡ some lx → MayLend (held ++ all_loans g) x al → at_level (kinds (H ++ (F ++ C))) lx ≡ some z
    → addr_of lx z ≡ some az → exclusive z ≡ true → Prefix az aw → Unobstructed (kinds (H ++ (F ++ C))) lx al aw
lendable ds C ln held g d H F T s x lx true z az aw sc w lv may z_at az_is xz pre =
    unobstructed_free (kinds (H ++ (F ++ C))) w.borrows.exclusivity lx z az z_at az_is xz
    (free_at ds C ln held g d H F T s x lx sc w lv may) true aw pre
lendable ds C ln held g d H F T s x lx false z az aw sc w lv may z_at az_is xz pre =
    unobstructed_readable (kinds (H ++ (F ++ C))) w.borrows.exclusivity lx z az z_at az_is xz
    (readable_at ds C ln held g d H F T s x lx sc w lv may) aw pre
