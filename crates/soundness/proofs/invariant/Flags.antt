-- Flags weaken: the invariant with some names gone gives the invariant with more gone.
use mathlib.Core.Bool.{Bool, true, false}
use mathlib.Core.List.{List, [], ◌∷◌, ◌++◌}
use mathlib.Core.Logic.{inl, inr}
use mathlib.Core.Option.{some, none}
use mathlib.Core.Path.{◌≡◌, refl, sym, ◌∙◌, ap, subst}
use Prim.Native.Nat.{ℕ, suc, ◌+◌}
use lib.ListN.{length}
use Rattle.language.specs.Base.{choose, Lexeme, same}
use Rattle.language.specs.Syntax.{Ty, Data}
use Rattle.language.specs.Checks.{Loan, look}
use Rattle.language.specs.Checks as ch
use Rattle.language.specs.Meaning.{Root, State}
use Rattle.language.specs.Meaning as me
use Rattle.soundness.specs.Trees.{Tree, tree_sum}
use Rattle.soundness.specs.Borrows.{LevelLoan, Kind, own, borrow, inert, at_level, loans_of, WellBorrowed}
use Rattle.soundness.specs.Invariant.{Place, Entry, kinds, places, Content, EntryOk, EntriesOk, place_sum, stack_sum, Invariant}
use Rattle.soundness.specs.Frames.{name_level, LoansCover, KindFits, Scope}
use Rattle.soundness.proofs.Basics.{no_some, true_false}
use Rattle.soundness.proofs.invariant.Middle.{with_gone}

-- entries, the same but for more flags
abbrev pub MoreGone : List Entry → List Entry → Type 0
MoreGone [] [] = Unit {0}
MoreGone [] (e2 ∷ N2) = ⊥
MoreGone (e ∷ N) [] = ⊥
MoreGone (e ∷ N) (e2 ∷ N2) = (e2.at ≡ e.at) × (e2.kind ≡ e.kind) × (e.gone ≡ true → e2.gone ≡ true) × MoreGone N N2

pub more_gone_self : (N : List Entry) → MoreGone N N
more_gone_self [] = tt
more_gone_self (e ∷ N) = (refl, refl, (λ h. h), more_gone_self N)

pub more_gone_two : (H H2 C C2 : List Entry) → MoreGone H H2 → MoreGone C C2 → MoreGone (H ++ C) (H2 ++ C2)
more_gone_two [] [] C C2 h k = k
more_gone_two [] (e2 ∷ H2) C C2 h k = absurd h
more_gone_two (e ∷ H) [] C C2 h k = absurd h
more_gone_two (e ∷ H) (e2 ∷ H2) C C2 h k = (h.0, h.1, h.2, more_gone_two H H2 C C2 h.3 k)

more_kinds : (N N2 : List Entry) → MoreGone N N2 → kinds N2 ≡ kinds N
more_kinds [] [] h = refl
more_kinds [] (e2 ∷ N2) h = absurd h
more_kinds (e ∷ N) [] h = absurd h
more_kinds (e ∷ N) (e2 ∷ N2) h = ap (λ z. z ∷ kinds N2) h.1 ∙ ap (λ z. e.kind ∷ z) (more_kinds N N2 h.3)

more_places : (N N2 : List Entry) → MoreGone N N2 → places N2 ≡ places N
more_places [] [] h = refl
more_places [] (e2 ∷ N2) h = absurd h
more_places (e ∷ N) [] h = absurd h
more_places (e ∷ N) (e2 ∷ N2) h = ap (λ z. z ∷ places N2) h.0 ∙ ap (λ z. e.at ∷ z) (more_places N N2 h.3)

weak_content : (ds : List Data) (g g2 : Bool) (t : Ty) (x : Tree) → (g ≡ true → g2 ≡ true) → Content ds g t x → Content ds g2 t x
weak_content ds g g2 t x h (inl k) = inl k
weak_content ds g g2 t x h (inr k) = inr (h k.0, k.1)

weak_entry : (ds : List Data) (rs : List Root) (at : Place) (g g2 : Bool) (sh : Kind) (x : Tree) (N N2 : List Entry) (T : List Tree)
    → (g ≡ true → g2 ≡ true) → places N2 ≡ places N → EntryOk ds rs at g sh x N T → EntryOk ds rs at g2 sh x N2 T
weak_entry ds rs at g g2 (own t) x N N2 T h pl f = (f.0, f.1, f.2, weak_content ds g g2 t x h f.3)
weak_entry ds rs at g g2 (borrow al t a ls) x N N2 T h pl f =
    let pt = f.1.2 in (
      f.0,
      (
        f.1.0,
        f.1.1,
        record {
          root = pt.root;
          whole = pt.whole;
          part = pt.part;
          standing = ap (λ z. at_level z a.owner) pl
              ∙ pt.standing;
          holding = pt.holding;
          leading = pt.leading;
          typed = pt.typed;
          value = pt.value;
        },
      ),
    )
weak_entry ds rs at g g2 inert x N N2 T h pl f = f

pub weak_entries : (ds : List Data) (rs : List Root) (N N2 : List Entry) (T : List Tree) → MoreGone N N2 → EntriesOk ds rs N T
    → EntriesOk ds rs N2 T
weak_entries ds rs [] [] T h f = f
weak_entries ds rs [] (e2 ∷ N2) T h f = absurd h
weak_entries ds rs (e ∷ N) [] T h f = absurd h
weak_entries ds rs (e ∷ N) (e2 ∷ N2) [] h f = absurd f
weak_entries ds rs (e ∷ N) (e2 ∷ N2) (x ∷ T) h f =
    let k : EntryOk ds rs e2.at e.gone e2.kind x N T = subst (λ z. EntryOk ds rs z e.gone e2.kind x N T) (sym h.0)
    (subst (λ z. EntryOk ds rs e.at e.gone z x N T) (sym h.1) f.0) in
    (weak_entry ds rs e2.at e.gone e2.gone e2.kind x N N2 T h.2 (more_places N N2 h.3) k, weak_entries ds rs N N2 T h.3 f.1)

weak_sum : (f : ℕ → ℕ → ℕ) (N N2 : List Entry) (T : List Tree) → MoreGone N N2 → stack_sum f N2 T ≡ stack_sum f N T
weak_sum f [] [] T h = refl
weak_sum f [] (e2 ∷ N2) T h = absurd h
weak_sum f (e ∷ N) [] T h = absurd h
weak_sum f (e ∷ N) (e2 ∷ N2) [] h = refl
weak_sum f (e ∷ N) (e2 ∷ N2) (x ∷ T) h =
    ap (λ z. place_sum f z + (tree_sum f x + stack_sum f N2 T)) h.0 ∙ ap (λ z. place_sum f e.at + (tree_sum f x + z)) (weak_sum f N N2 T h.3)

pub weak_invariant : (ds : List Data) (N N2 : List Entry) (T : List Tree) (s : State) → MoreGone N N2 → Invariant ds N T s → Invariant ds N2 T s
weak_invariant ds N N2 T s h w = record {
  borrows = subst WellBorrowed (sym (more_kinds N N2 h)) w.borrows;
  entries = weak_entries ds s.roots N N2 T h w.entries;
  sums = λ f. weak_sum f N N2 T h ∙ w.sums f;
  counted = w.counted;
}

-- the rules' names, the same but for more flags
abbrev pub Weaker : ch.Env → ch.Env → Type 0
Weaker [] [] = Unit {0}
Weaker [] (w ∷ h) = ⊥
Weaker (v ∷ g) [] = ⊥
Weaker (v ∷ g) (w ∷ h) = (v.name ≡ w.name) × (v.ty ≡ w.ty) × (v.loans ≡ w.loans) × (v.gone ≡ true → w.gone ≡ true) × Weaker g h

weak_length : (g h : ch.Env) → Weaker g h → length g ≡ length h
weak_length [] [] k = refl
weak_length [] (w ∷ h) k = absurd k
weak_length (v ∷ g) [] k = absurd k
weak_length (v ∷ g) (w ∷ h) k = ap suc (weak_length g h k.4)

pub weak_level : (base : ℕ) (g h : ch.Env) (x : Lexeme) → Weaker g h → name_level base g x ≡ name_level base h x
weak_level base [] [] x k = refl
weak_level base [] (w ∷ h) x k = absurd k
weak_level base (v ∷ g) [] x k = absurd k
weak_level base (v ∷ g) (w ∷ h) x k =
    ap (λ z. choose (same z x) (some (length g + base)) (name_level base g x)) k.0 ∙ ap
    (λ z. choose (same w.name x) (some (z + base)) (name_level base g x)) (weak_length g h k.4) ∙ ap
    (λ z. choose (same w.name x) (some (length h + base)) z) (weak_level base g h x k.4)

pub weak_covers : (base : ℕ) (ln : List LevelLoan) (g h : ch.Env) (ls : List Loan) (L : List LevelLoan) → Weaker g h → LoansCover base ln g ls L
    → LoansCover base ln h ls L
weak_covers base ln g h ls L k cov l i = elim (cov l i) [ inl y ↦ inl y | inr y ↦ inr (y.0, sym (weak_level base g h y.0 k) ∙ y.1, y.2) ]

weak_none : (g h : ch.Env) (x : Lexeme) → Weaker g h → look g x ≡ none → look h x ≡ none
weak_none [] [] x k e = refl
weak_none [] (w ∷ h) x k e = absurd k
weak_none (v ∷ g) [] x k e = absurd k
weak_none (v ∷ g) (w ∷ h) x k e = go (same v.name x) (same w.name x) (ap (λ z. same z x) k.0) e (weak_none g h x k.4)
  where
    go : (a z : Bool) → a ≡ z → choose a (some v) (look g x) ≡ none → (look g x ≡ none → look h x ≡ none) → choose z (some w) (look h x) ≡ none
    go true z s e1 r = absurd (no_some (sym e1))
    go false true s e1 r = absurd (true_false (sym s))
    go false false s e1 r = r e1

-- the entries with the flags of the names
abbrev pub with_flags : ch.Env → List Entry → List Entry
with_flags [] F = F
with_flags (w ∷ h) [] = []
with_flags (w ∷ h) (e ∷ F) = with_gone e w.gone ∷ with_flags h F

pub weak_scope : (base : ℕ) (ln : List LevelLoan) (g h : ch.Env) (d : me.Env) (F : List Entry) → Weaker g h → Scope base ln g d F
    → Scope base ln h d (with_flags h F) × MoreGone F (with_flags h F)
weak_scope base ln [] [] [] [] k m = (tt, tt)
weak_scope base ln [] [] [] (e ∷ F) k m = absurd m
weak_scope base ln [] [] (i ∷ d) F k m = absurd m
weak_scope base ln [] (w ∷ h) d F k m = absurd k
weak_scope base ln (v ∷ g) [] d F k m = absurd k
weak_scope base ln (v ∷ g) (w ∷ h) [] F k m = absurd m
weak_scope base ln (v ∷ g) (w ∷ h) (i ∷ d) [] k m = absurd m
weak_scope base ln (v ∷ g) (w ∷ h) (i ∷ d) (e ∷ F) k m =
    let r = weak_scope base ln g h d F k.4 m.1 in (
      (
        record {
          name = sym k.0 ∙ m.0.name;
          place = m.0.place;
          flag = refl;
          type = subst (λ z. KindFits z e.kind) k.1 m.0.type;
          loans =
              weak_covers base ln g h w.loans (loans_of e.kind) k.4
              (subst (λ z. LoansCover base ln g z (loans_of e.kind)) k.2 m.0.loans);
          fresh = subst (λ z. look h z ≡ none) k.0 (weak_none g h v.name k.4 m.0.fresh);
        },
        r.0,
      ),
      (refl, refl, (λ z. k.3 (sym m.0.flag ∙ z)), r.1),
    )

-- a frame with more flags, and the invariant with it; H is what is above the frame
pub weak_frame : (ds : List Data) (base : ℕ) (ln : List LevelLoan) (g h : ch.Env) (d : me.Env) (H F C : List Entry) (T : List Tree) (s : State)
    → Weaker g h → Scope base ln g d F → Invariant ds (H ++ (F ++ C)) T s
    → Scope base ln h d (with_flags h F) × Invariant ds (H ++ (with_flags h F ++ C)) T s
weak_frame ds base ln g h d H F C T s k m w =
    let r = weak_scope base ln g h d F k m in (
      r.0,
      weak_invariant ds (H ++ (F ++ C)) (H ++ (with_flags h F ++ C)) T s
          (more_gone_two H H (F ++ C) (with_flags h F ++ C) (more_gone_self H) (more_gone_two F (with_flags h F) C C r.1 (more_gone_self C))) w,
    )
