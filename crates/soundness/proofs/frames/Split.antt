-- A stack split at a level; a name's entry in its frame, with another flag.
use mathlib.Core.Bool.{Bool, true, false}
use mathlib.Core.List.{List, [], ◌∷◌, ◌++◌, append_assoc}
use mathlib.Core.Logic.{◌⊎◌, inl, inr}
use mathlib.Core.Option.{Option, some}
use mathlib.Core.Path.{◌≡◌, refl, sym, ◌∙◌, ap, subst}
use Prim.Native.Nat.{ℕ, suc, ◌+◌}
use native.Mathlib.Omega.{arith}
use lib.ListN.{length, length-append}
use Rattle.language.specs.Base.{choose, Lexeme, same}
use Rattle.language.specs.Checks.{Loan, Var, look, set_gone}
use Rattle.language.specs.Checks as ch
use Rattle.language.specs.Meaning as me
use Rattle.soundness.specs.Trees.{Tree}
use Rattle.soundness.specs.Borrows.{LevelLoan, at_level, loans_of}
use Rattle.soundness.specs.Invariant.{rooted, Entry}
use Rattle.soundness.specs.Frames.{name_level, LoansCover, KindFits, Binding, Scope}
use Rattle.soundness.proofs.Basics.{no_some, some_is}
use Rattle.soundness.proofs.loans.Levels.{level_case}
use Rattle.soundness.proofs.invariant.Middle.{with_gone}
use Rattle.soundness.proofs.statics.Exprs.{EnvLike, like_gone, like_length, fresh_like}
use Rattle.soundness.proofs.frames.Levels.{cover_push, scope_length}

-- at a level
pub split_level : {A : Type 0} (N : List A) (i : ℕ) (e : A) → at_level N i ≡ some e
    → (N1 : List A) × (N2 : List A) × (N ≡ N1 ++ (e ∷ N2)) × (length N2 ≡ i)
split_level [] i e h = absurd (no_some h)
split_level {A = A} (d ∷ N) i e h = go (level_case d N i e h) (split_level N i e)
  where
    go : ((i ≡ length N) × (d ≡ e)) ⊎ (at_level N i ≡ some e)
        → (at_level N i ≡ some e → (N1 : List A) × (N2 : List A) × (N ≡ N1 ++ (e ∷ N2)) × (length N2 ≡ i))
        → (N1 : List A) × (N2 : List A) × (d ∷ N ≡ N1 ++ (e ∷ N2)) × (length N2 ≡ i)
    go (inl k) r = ([], N, ap (λ z. z ∷ N) k.1, sym k.0)
    go (inr k) r = let y = r k in (d ∷ y.0, y.1, ap (λ z. d ∷ z) y.2, y.3)

-- the trees likewise
pub record Cut (N1 N2 : List Entry) (T : List Tree) : Type 0 where
  pub T1 : List Tree
  pub tree : Tree
  pub T2 : List Tree
  pub is : T ≡ T1 ++ (tree ∷ T2)
  pub len1 : length N1 ≡ length T1
  pub len2 : length T2 ≡ length N2

pub split_trees : (N1 : List Entry) (e : Entry) (N2 : List Entry) (T : List Tree) → length T ≡ length (N1 ++ (e ∷ N2)) → Cut N1 N2 T
split_trees [] e N2 [] h = absurd (omega arith)
split_trees [] e N2 (x ∷ T) h = record { T1 = []; tree = x; T2 = T; is = refl; len1 = refl; len2 = omega arith }
split_trees (d ∷ N1) e N2 [] h = absurd (omega arith)
split_trees (d ∷ N1) e N2 (x ∷ T) h =
    let y = split_trees N1 e N2 T (omega arith) in
    record { T1 = x ∷ y.T1; tree = y.tree; T2 = y.T2; is = ap (λ z. x ∷ z) y.is; len1 = ap suc y.len1; len2 = y.len2 }

-- the frame's entry, seen from the whole stack
pub cut_frame : (H F1 : List Entry) (e : Entry) (F2 C : List Entry) → H ++ ((F1 ++ (e ∷ F2)) ++ C) ≡ (H ++ F1) ++ (e ∷ (F2 ++ C))
cut_frame H F1 e F2 C = ap (λ z. H ++ z) (append_assoc F1 (e ∷ F2) C) ∙ sym (append_assoc H F1 (e ∷ (F2 ++ C)))

pub name_level_like : (base : ℕ) (g h : ch.Env) (x : Lexeme) → EnvLike g h → name_level base g x ≡ name_level base h x
name_level_like base [] [] x l = refl
name_level_like base [] (w ∷ h) x l = absurd l
name_level_like base (v ∷ g) [] x l = absurd l
name_level_like base (v ∷ g) (w ∷ h) x l =
    ap (λ z. choose (same z x) (some (length g + base)) (name_level base g x)) l.0 ∙ ap
    (λ z. choose (same w.name x) (some (z + base)) (name_level base g x)) (like_length g h l.3) ∙ ap
    (λ z. choose (same w.name x) (some (length h + base)) z) (name_level_like base g h x l.3)

pub cover_like : (base : ℕ) (ln : List LevelLoan) (g h : ch.Env) (ls : List Loan) (L : List LevelLoan) → EnvLike g h → LoansCover base ln g ls L
    → LoansCover base ln h ls L
cover_like base ln g h ls L lk cov l i = elim (cov l i) [ inl k ↦ inl k | inr k ↦ inr (k.0, sym (name_level_like base g h k.0 lk) ∙ k.1, k.2) ]

pub binding_like : (base : ℕ) (ln : List LevelLoan) (g h : ch.Env) (v : Var) (m : me.Name) (e : Entry) → EnvLike g h → Binding base ln g v m e
    → Binding base ln h v m e
binding_like base ln g h v m e lk k =
    record {
      name = k.name;
      place = k.place;
      flag = k.flag;
      type = k.type;
      loans = cover_like base ln g h v.loans (loans_of e.kind) lk
          k.loans;
      fresh = fresh_like g h v.name lk k.fresh;
    }

-- a name's entry in its frame: F is F1, the entry, F2; with another flag it is the frame of set_gone
pub record Split (C : List Entry) (ln : List LevelLoan) (g : ch.Env) (d : me.Env) (F : List Entry) (x : Lexeme) (v : Var) : Type 0 where
  pub F1 : List Entry
  pub en : Entry
  pub F2 : List Entry
  pub root : ℕ
  pub cut : F ≡ F1 ++ (en ∷ F2)
  pub levelled : name_level (length C) g x ≡ some (length (F2 ++ C))
  pub named : me.root_of d x ≡ some root
  pub placed : en.at ≡ rooted root 0
  pub flag : en.gone ≡ v.gone
  pub type : KindFits v.ty en.kind
  pub loans : LoansCover (length C) ln g v.loans (loans_of en.kind)
  pub with_flag : (z : Bool) → Scope (length C) ln (set_gone z g x) d (F1 ++ (with_gone en z ∷ F2))

pub split_of : (C : List Entry) (ln : List LevelLoan) (g : ch.Env) (d : me.Env) (F : List Entry) (x : Lexeme) (v : Var) → Scope (length C) ln g d F
    → look g x ≡ some v → Split C ln g d F x v
split_of C ln [] d F x v mt e = absurd (no_some e)
split_of C ln (v0 ∷ g) [] F x v mt e = absurd mt
split_of C ln (v0 ∷ g) (m ∷ d) [] x v mt e = absurd mt
split_of C ln (v0 ∷ g) (m ∷ d) (en ∷ F) x v mt e = go (same v0.name x) refl e (λ k. split_of C ln g d F x v mt.1 k)
  where
    len : length g + length C ≡ length (F ++ C)
    len = let a = length-append F C in let k = scope_length (length C) ln g d F mt.1 in omega arith

    m_same : same m.name x ≡ same v0.name x
    m_same = ap (λ z. same z x) (sym mt.0.name)

    go : (o : Bool) → same v0.name x ≡ o → choose o (some v0) (look g x) ≡ some v → (look g x ≡ some v → Split C ln g d F x v)
        → Split C ln (v0 ∷ g) (m ∷ d) (en ∷ F) x v
    go true s k r = let v_is : v0 ≡ v = some_is k in record {
      F1 = [];
      en = en;
      F2 = F;
      root = m.root;
      cut = refl;
      levelled = ap (λ z. choose z (some (length g + length C)) (name_level (length C) g x)) s ∙ ap {B = Option ℕ} (λ z. some z) len;
      named = ap (λ z. choose z (some m.root) (me.root_of d x)) (m_same ∙ s);
      placed = mt.0.place;
      flag = mt.0.flag ∙ ap (λ z. z.gone) v_is;
      type = subst (λ z. KindFits z.ty en.kind) v_is mt.0.type;
      loans =
          cover_push (length C) ln v0 g v.loans (loans_of en.kind) mt.0.fresh
          (subst (λ z. LoansCover (length C) ln g z.loans (loans_of en.kind)) v_is mt.0.loans);
      with_flag =
          λ z. subst (λ o. Scope (length C) ln (choose o (record { name = v0.name; ty = v0.ty; gone = z; loans = v0.loans } ∷ g)
          (v0 ∷ set_gone z g x)) (m ∷ d) (with_gone en z ∷ F)) (sym s)
          (record { name = mt.0.name; place = mt.0.place; flag = refl; type = mt.0.type; loans = mt.0.loans; fresh = mt.0.fresh }, mt.1);
    }
    go false s k r = let y = r k in record {
      F1 = en ∷ y.F1;
      en = y.en;
      F2 = y.F2;
      root = y.root;
      cut = ap (λ z. en ∷ z) y.cut;
      levelled = ap (λ z. choose z (some (length g + length C)) (name_level (length C) g x)) s ∙ y.levelled;
      named = ap (λ z. choose z (some m.root) (me.root_of d x)) (m_same ∙ s) ∙ y.named;
      placed = y.placed;
      flag = y.flag;
      type = y.type;
      loans = cover_push (length C) ln v0 g v.loans (loans_of y.en.kind) mt.0.fresh y.loans;
      with_flag =
          λ z. subst (λ o. Scope (length C) ln (choose o (record { name = v0.name; ty = v0.ty; gone = z; loans = v0.loans } ∷ g)
          (v0 ∷ set_gone z g x)) (m ∷ d) (en ∷ (y.F1 ++ (with_gone y.en z ∷ y.F2)))) (sym s)
          (binding_like (length C) ln g (set_gone z g x) v0 m en (like_gone z g x) mt.0, y.with_flag z);
    }
