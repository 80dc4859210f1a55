-- How steps end, from how their parts do.
use Rattle.std.proofs.Common.{◌≡◌, ℕ, Bool, true, false, ◌&&◌, List, Ok, Err, Result, sym, refl, ap, ◌∙◌, subst}
use mathlib.Core.Option.{Option, some, none}
use Rattle.language.specs.Base.{if_some, only_if, Lexeme}
use Rattle.scope.specs.Slots.{Found, At}
use Rattle.scope.specs.declared.log.Place.{Place}
use Rattle.checker.specs.declared.state.State.{State}
use Rattle.checker.specs.declared.state.Rule.{Rule}
use Rattle.checker.specs.Marks.{State2}
use Rattle.checker.specs.Stands.{Decls, Lent, Left, Steps}
use Rattle.checker.specs.Held.{There}

pub only_none : {A : Type 0} (b : Bool) (o : Option A) → b ≡ false → only_if b o ≡ none
only_none b o h = ap (λ b. only_if b o) h

-- three tests, of which the second doesn't hold
pub none_second : {A : Type 0} (a b c : Bool) (o : Option A) → b ≡ false → only_if (a && (b && c)) o ≡ none
none_second a b c o e = ap (λ b. only_if (a && (b && c)) o) e ∙ go a
  where
    go : (a : Bool) → only_if (a && false) o ≡ none
    go true = refl
    go false = refl

module _ (d : Decls) (w : Lent) (h : State) where
  -- a test that holds
  pub only_left : (b : Bool) (o : Option State2) → b ≡ true → Left d w h o → Left d w h (only_if b o)
  only_left b o e l = subst (λ b. Left d w h (only_if b o)) (sym e) l

  -- a name that's there
  pub on_there : (text code ns : List ℕ) (n : ℕ) (x : Lexeme) (o : Option Found) (p : Place) (g : Found → Option State2) (r : Result Unit Rule) → There text code ns n x o (Ok p) → ((f : Found) → At text code ns n x p.0 f → Steps d w h (g f) r) → Steps d w h (if_some o g) r
  on_there text code ns n x none p g r t k = absurd t
  on_there text code ns n x (some f) p g r t k = k f t

  pub on_gone : (text code ns : List ℕ) (n : ℕ) (x : Lexeme) (o : Option Found) (e : Rule) (g : Found → Option State2) → There text code ns n x o (Err e) → if_some o g ≡ none
  on_gone text code ns n x none e g t = refl
  on_gone text code ns n x (some f) e g t = absurd t

  pub on_refused : (text code ns : List ℕ) (n : ℕ) (x : Lexeme) (o : Option Found) (p : Place) (g : Found → Option State2) → There text code ns n x o (Ok p) → ((f : Found) → At text code ns n x p.0 f → g f ≡ none) → if_some o g ≡ none
  on_refused text code ns n x none p g t k = absurd t
  on_refused text code ns n x (some f) p g t k = k f t

  -- two tests, of which the first holds
  pub steps_and : (a b : Bool) (o : Option State2) (r : Result Unit Rule) → a ≡ true → Steps d w h (only_if b o) r → Steps d w h (only_if (a && b) o) r
  steps_and a b o r e k = subst (λ a. Steps d w h (only_if (a && b) o) r) (sym e) k

  -- two, of which the first doesn't
  pub none_and : (a b : Bool) (o : Option State2) → a ≡ false → only_if (a && b) o ≡ none
  none_and a b o e = ap (λ a. only_if (a && b) o) e
