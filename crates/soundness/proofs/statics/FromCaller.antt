-- Static: what comes from the caller stays so behind an expression.
use mathlib.Core.Bool.{Bool, true, false, ◌&&◌, ◌||◌, not}
use mathlib.Core.List.{List, [], ◌∷◌}
use mathlib.Core.Logic.{inl, inr}
use mathlib.Core.Option.{Option, some, none}
use mathlib.Core.Path.{◌≡◌, refl, sym, ◌∙◌, ap, subst}
use Prim.Native.Nat.{ℕ, zero, suc}
use Rattle.language.specs.Base.{choose, from_option, Lexeme, same, is_in, each_of}
use Rattle.language.specs.Checks.{Loan, Var, owned, look, from_caller}
use Rattle.language.specs.Checks as ch
use Rattle.soundness.specs.Frames.{RefParams}
use Rattle.soundness.proofs.Basics.{no_some, some_is, true_false, or_left, or_right, and_left, and_right, or_case}
use Rattle.soundness.proofs.statics.Exprs.{EnvLike}

look_like : (g h : ch.Env) (x : Lexeme) (v : Var) → EnvLike g h → look g x ≡ some v
    → (w : Var) × (look h x ≡ some w) × (v.ty ≡ w.ty) × (v.loans ≡ w.loans)
look_like [] h x v l e = absurd (no_some e)
look_like (u ∷ g) [] x v l e = absurd l
look_like (u ∷ g) (w ∷ h) x v l e = go (same u.name x) (same w.name x) (ap (λ z. same z x) l.0) e (look_like g h x v l.3)
  where
    go : (a b : Bool) → a ≡ b → choose a (some u) (look g x) ≡ some v
        → (look g x ≡ some v → (w1 : Var) × (look h x ≡ some w1) × (v.ty ≡ w1.ty) × (v.loans ≡ w1.loans))
        → (w1 : Var) × (choose b (some w) (look h x) ≡ some w1) × (v.ty ≡ w1.ty) × (v.loans ≡ w1.loans)
    go true true s k r = (w, refl, ap (λ z. z.ty) (sym (some_is k)) ∙ l.1, ap (λ z. z.loans) (sym (some_is k)) ∙ l.2)
    go true false s k r = absurd (true_false s)
    go false true s k r = absurd (true_false (sym s))
    go false false s k r = r k

each_map : {A : Type 0} (f h : A → Bool) (xs : List A) → ((x : A) → f x ≡ true → h x ≡ true) → each_of f xs ≡ true → each_of h xs ≡ true
each_map f h [] k e = refl
each_map f h (x ∷ xs) k e = ap (λ z. z && each_of h xs) (k x (and_left (f x) (each_of f xs) e)) ∙ each_map f h xs k (and_right (f x) (each_of f xs) e)

pub from_caller_like : (k : ℕ) (g h : ch.Env) (qs : List Lexeme) (ls : List Loan) → EnvLike g h → from_caller k g qs ls ≡ true
    → from_caller k h qs ls ≡ true
from_caller_like zero g h qs ls l e = e
from_caller_like (suc k) g h qs ls l e = each_map (test g) (test h) ls (λ x. one x (λ ms. from_caller_like k g h qs ms l)) e
  where
    test : ch.Env → Loan → Bool
    test j x = is_in x.root qs || from_option (look j x.root) false (λ v. not (owned v.ty) && from_caller k j qs v.loans)

    one : (x : Loan) → ((ms : List Loan) → from_caller k g qs ms ≡ true → from_caller k h qs ms ≡ true) → test g x ≡ true → test h x ≡ true
    one x ih e1 =
        elim (or_case (is_in x.root qs) (from_option (look g x.root) false
        (λ v. not (owned v.ty) && from_caller k g qs v.loans)) e1) [
          | inl a ↦ or_left (is_in x.root qs)
              (from_option (look h x.root) false (λ v. not (owned v.ty) && from_caller k h qs v.loans)) a
          | inr a ↦ or_right (is_in x.root qs)
              (from_option (look h x.root) false (λ v. not (owned v.ty) && from_caller k h qs v.loans)) (by_name (look g x.root) refl a)
        ]
      where
        by_name : (o : Option Var) → look g x.root ≡ o → from_option o false (λ v. not (owned v.ty) && from_caller k g qs v.loans) ≡ true
            → from_option (look h x.root) false (λ v. not (owned v.ty) && from_caller k h qs v.loans) ≡ true
        by_name none lk a = absurd (true_false (sym a))
        by_name (some v) lk a =
            let w = look_like g h x.root v l lk in
            let o1 : not (owned w.0.ty) ≡ true = ap (λ z. not (owned z)) (sym w.2) ∙ and_left (not (owned v.ty))
            (from_caller k g qs v.loans) a in
            let o2 : from_caller k h qs w.0.loans ≡ true = subst (λ z. from_caller k h qs z ≡ true) w.3
            (ih v.loans (and_right (not (owned v.ty)) (from_caller k g qs v.loans) a)) in
            ap (λ z. from_option z false (λ v1. not (owned v1.ty) && from_caller k h qs v1.loans)) w.1 ∙ ap
            (λ z. z && from_caller k h qs w.0.loans) o1 ∙ o2

pub lent_like : (qs : List Lexeme) (g h : ch.Env) → EnvLike g h → RefParams qs g → RefParams qs h
lent_like qs g h l lp x i = let a = lp x i in let w = look_like g h x a.0 l a.1 in (w.0, w.1, sym w.3 ∙ a.2, ap owned (sym w.2) ∙ a.3)
