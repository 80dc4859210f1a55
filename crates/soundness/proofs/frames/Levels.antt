-- Names and their levels: the entry of a name.
use mathlib.Core.Bool.{Bool, true, false}
use mathlib.Core.List.{List, [], ◌∷◌, ◌++◌}
use mathlib.Core.Logic.{◌⊎◌, inl, inr}
use mathlib.Core.Option.{some, none}
use mathlib.Core.Path.{◌≡◌, refl, sym, ◌∙◌, ap, subst}
use Prim.Native.Nat.{ℕ, suc, ◌+◌, ◌≤◌, ◌<◌}
use native.Mathlib.Omega.{arith}
use lib.ListN.{length, length-append}
use Rattle.language.specs.Base.{choose, Lexeme, same}
use Rattle.language.specs.Checks.{Loan, Var, look}
use Rattle.language.specs.Checks as ch
use Rattle.language.specs.Meaning as me
use Rattle.soundness.specs.Borrows.{LevelLoan, at_level, loans_of}
use Rattle.soundness.specs.Invariant.{rooted, Entry}
use Rattle.soundness.specs.Frames.{name_level, LoansCover, KindFits, Scope}
use Rattle.soundness.proofs.Basics.{no_some, some_is, same_is}
use Rattle.soundness.proofs.loans.Levels.{level_top, level_below, level_push}

-- levels of names
pub name_level_case : (base : ℕ) (v : Var) (vs : ch.Env) (x : Lexeme) (l : ℕ) → name_level base (v ∷ vs) x ≡ some l
    → ((v.name ≡ x) × (length vs + base ≡ l)) ⊎ (name_level base vs x ≡ some l)
name_level_case base v vs x l e = go (same v.name x) (same_is v.name x) e
  where
    go : (o : Bool) → (o ≡ true → v.name ≡ x) → choose o (some (length vs + base)) (name_level base vs x) ≡ some l
        → ((v.name ≡ x) × (length vs + base ≡ l)) ⊎ (name_level base vs x ≡ some l)
    go true h e1 = inl (h refl, some_is e1)
    go false h e1 = inr e1

pub name_level_low : (base : ℕ) (g : ch.Env) (x : Lexeme) (l : ℕ) → name_level base g x ≡ some l → (base ≤ l) × (l < length g + base)
name_level_low base [] x l e = absurd (no_some e)
name_level_low base (v ∷ vs) x l e = go (name_level_case base v vs x l e) (name_level_low base vs x l)
  where
    go : ((v.name ≡ x) × (length vs + base ≡ l)) ⊎ (name_level base vs x ≡ some l)
        → (name_level base vs x ≡ some l → (base ≤ l) × (l < length vs + base)) → (base ≤ l) × (l < suc (length vs) + base)
    go (inl h) f = let k = h.1 in (omega arith, omega arith)
    go (inr h) f = let k = f h in (k.0, (let k1 = k.1 in omega arith))

pub name_level_inj : (base : ℕ) (g : ch.Env) (x y : Lexeme) (l : ℕ) → name_level base g x ≡ some l → name_level base g y ≡ some l → x ≡ y
name_level_inj base [] x y l e f = absurd (no_some e)
name_level_inj base (v ∷ vs) x y l e f = go (name_level_case base v vs x l e) (name_level_case base v vs y l f) (name_level_inj base vs x y l)
  where
    go : ((v.name ≡ x) × (length vs + base ≡ l)) ⊎ (name_level base vs x ≡ some l)
        → ((v.name ≡ y) × (length vs + base ≡ l)) ⊎ (name_level base vs y ≡ some l)
        → (name_level base vs x ≡ some l → name_level base vs y ≡ some l → x ≡ y) → x ≡ y
    go (inl h) (inl k) r = sym h.0 ∙ k.0
    go (inl h) (inr k) r = absurd (let a = h.1 in let b = name_level_low base vs y l k in let b1 = b.1 in omega arith)
    go (inr h) (inl k) r = absurd (let a = k.1 in let b = name_level_low base vs x l h in let b1 = b.1 in omega arith)
    go (inr h) (inr k) r = r h k

-- a name's entry
look_name_level : (base : ℕ) (g : ch.Env) (x : Lexeme) (l : ℕ) → look g x ≡ none → name_level base g x ≡ some l → ⊥
look_name_level base [] x l e f = no_some f
look_name_level base (v ∷ vs) x l e f = go (same v.name x) e f (look_name_level base vs x l)
  where
    go : (o : Bool) → choose o (some v) (look vs x) ≡ none → choose o (some (length vs + base)) (name_level base vs x) ≡ some l
        → (look vs x ≡ none → name_level base vs x ≡ some l → ⊥) → ⊥
    go true a b r = no_some (sym a)
    go false a b r = r a b

pub name_level_push : (base : ℕ) (v : Var) (g : ch.Env) (x : Lexeme) (l : ℕ) → look g v.name ≡ none → name_level base g x ≡ some l
    → name_level base (v ∷ g) x ≡ some l
name_level_push base v g x l fr e = go (same v.name x) (same_is v.name x)
  where
    go : (o : Bool) → (o ≡ true → v.name ≡ x) → choose o (some (length g + base)) (name_level base g x) ≡ some l
    go true h = absurd (look_name_level base g v.name l fr (subst (λ z. name_level base g z ≡ some l) (sym (h refl)) e))
    go false h = e

pub cover_push : (base : ℕ) (ln : List LevelLoan) (v : Var) (g : ch.Env) (ls : List Loan) (L : List LevelLoan) → look g v.name ≡ none
    → LoansCover base ln g ls L → LoansCover base ln (v ∷ g) ls L
cover_push base ln v g ls L fr cov l i =
    elim (cov l i) [ inl h ↦ inl h | inr h ↦ inr (h.0, name_level_push base v g h.0 l.level fr h.1, h.2) ]

pub scope_length : (base : ℕ) (ln : List LevelLoan) (g : ch.Env) (d : me.Env) (F : List Entry) → Scope base ln g d F → length F ≡ length g
scope_length base ln [] [] [] h = refl
scope_length base ln [] [] (e ∷ F) h = absurd h
scope_length base ln [] (m ∷ d) F h = absurd h
scope_length base ln (v ∷ g) [] F h = absurd h
scope_length base ln (v ∷ g) (m ∷ d) [] h = absurd h
scope_length base ln (v ∷ g) (m ∷ d) (e ∷ F) h = ap suc (scope_length base ln g d F h.1)

pub record NameEntry (C : List Entry) (ln : List LevelLoan) (g : ch.Env) (d : me.Env) (F : List Entry) (x : Lexeme) (v : Var) : Type 0 where
  pub level : ℕ
  pub en : Entry
  pub root : ℕ
  pub levelled : name_level (length C) g x ≡ some level
  pub stands : at_level (F ++ C) level ≡ some en
  pub named : me.root_of d x ≡ some root
  pub placed : en.at ≡ rooted root 0
  pub flag : en.gone ≡ v.gone
  pub type : KindFits v.ty en.kind
  pub loans : LoansCover (length C) ln g v.loans (loans_of en.kind)

pub name_entry : (C : List Entry) (ln : List LevelLoan) (g : ch.Env) (d : me.Env) (F : List Entry) (x : Lexeme) (v : Var) → Scope (length C) ln g d F
    → look g x ≡ some v → NameEntry C ln g d F x v
name_entry C ln [] d F x v mt e = absurd (no_some e)
name_entry C ln (v0 ∷ g) [] F x v mt e = absurd mt
name_entry C ln (v0 ∷ g) (m ∷ d) [] x v mt e = absurd mt
name_entry C ln (v0 ∷ g) (m ∷ d) (en ∷ F) x v mt e = go (same v0.name x) refl e (λ k. name_entry C ln g d F x v mt.1 k)
  where
    len : length (F ++ C) ≡ length g + length C
    len = let a = length-append F C in let b = scope_length (length C) ln g d F mt.1 in omega arith

    m_same : same m.name x ≡ same v0.name x
    m_same = ap (λ z. same z x) (sym mt.0.name)

    go : (o : Bool) → same v0.name x ≡ o → choose o (some v0) (look g x) ≡ some v → (look g x ≡ some v → NameEntry C ln g d F x v)
        → NameEntry C ln (v0 ∷ g) (m ∷ d) (en ∷ F) x v
    go true s k r = let v_is : v0 ≡ v = some_is k in record {
      level = length g + length C;
      en = en;
      root = m.root;
      levelled = ap (λ z. choose z (some (length g + length C)) (name_level (length C) g x)) s;
      stands = subst (λ z. at_level (en ∷ (F ++ C)) z ≡ some en) len (level_top en (F ++ C));
      named = ap (λ z. choose z (some m.root) (me.root_of d x)) (m_same ∙ s);
      placed = mt.0.place;
      flag = mt.0.flag ∙ ap (λ z. z.gone) v_is;
      type = subst (λ z. KindFits z.ty en.kind) v_is mt.0.type;
      loans =
          cover_push (length C) ln v0 g v.loans (loans_of en.kind) mt.0.fresh
          (subst (λ z. LoansCover (length C) ln g z.loans (loans_of en.kind)) v_is mt.0.loans);
    }
    go false s k r = let y = r k in record {
      level = y.level;
      en = y.en;
      root = y.root;
      levelled = ap (λ z. choose z (some (length g + length C)) (name_level (length C) g x)) s ∙ y.levelled;
      stands = level_push en (F ++ C) y.level (level_below (F ++ C) y.level y.en y.stands) ∙ y.stands;
      named = ap (λ z. choose z (some m.root) (me.root_of d x)) (m_same ∙ s) ∙ y.named;
      placed = y.placed;
      flag = y.flag;
      type = y.type;
      loans = cover_push (length C) ln v0 g v.loans (loans_of y.en.kind) mt.0.fresh y.loans;
    }
