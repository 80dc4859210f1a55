-- A frame parted where a block or a body began: the newer names, and the older ones.
use mathlib.Core.List.{List, [], ◌∷◌, ◌++◌}
use mathlib.Core.Path.{◌≡◌, refl, ap}
use Prim.Native.Nat.{ℕ, suc, ◌-◌}
use native.Mathlib.Omega.{arith}
use lib.ListN.{length, length-append}
use Rattle.language.specs.Checks as ch
use Rattle.language.specs.Meaning.{newer}
use Rattle.language.specs.Meaning as me
use Rattle.soundness.specs.Borrows.{LevelLoan}
use Rattle.soundness.specs.Invariant.{Entry}
use Rattle.soundness.specs.Frames.{Scope, RootsNamed}

-- the names newer than h, on top of it
pub newer_is : (k h : me.Env) → newer (k ++ h) h ≡ k
newer_is [] h = let e : length h - length h ≡ 0 = omega arith in rw e refl
newer_is (m ∷ k) h =
    let r = newer_is k h in
    let z = length-append k h in let e : suc (length (k ++ h)) - length h ≡ suc (length (k ++ h) - length h) = omega arith in rw e (ap (λ y. m ∷ y) r)

pub scope_names : (base : ℕ) (ln : List LevelLoan) (g : ch.Env) (d : me.Env) (F : List Entry) → Scope base ln g d F → length g ≡ length d
scope_names base ln [] [] F h = refl
scope_names base ln [] (m ∷ d) F h = absurd h
scope_names base ln (v ∷ g) [] F h = absurd h
scope_names base ln (v ∷ g) (m ∷ d) [] h = absurd h
scope_names base ln (v ∷ g) (m ∷ d) (e ∷ F) h = ap suc (scope_names base ln g d F h.1)

-- the two parts of a frame: newer names that end, and the others
pub record Parted (base : ℕ) (ln : List LevelLoan) (g : ch.Env) (k h : me.Env) (F : List Entry) : Type 0 where
  pub g1 : ch.Env
  pub g2 : ch.Env
  pub F1 : List Entry
  pub F2 : List Entry
  pub g_is : g ≡ g1 ++ g2
  pub FIs : F ≡ F1 ++ F2
  pub named : RootsNamed k F1
  pub names : Scope base ln g2 h F2

pub scope_parted : (base : ℕ) (ln : List LevelLoan) (g : ch.Env) (k h : me.Env) (F : List Entry) → Scope base ln g (k ++ h) F
    → Parted base ln g k h F
scope_parted base ln g [] h F mt = record { g1 = []; g2 = g; F1 = []; F2 = F; g_is = refl; FIs = refl; named = tt; names = mt }
scope_parted base ln [] (m ∷ k) h F mt = absurd mt
scope_parted base ln (v ∷ g) (m ∷ k) h [] mt = absurd mt
scope_parted base ln (v ∷ g) (m ∷ k) h (e ∷ F) mt =
    let r = scope_parted base ln g k h F mt.1 in
    record {
      g1 = v ∷ r.g1;
      g2 = r.g2;
      F1 = e ∷ r.F1;
      F2 = r.F2;
      g_is = ap (λ z. v ∷ z) r.g_is;
      FIs = ap (λ z. e ∷ z) r.FIs;
      named = (mt.0.place, r.named);
      names = r.names;
    }

pub roots_parted : (k h : me.Env) (F : List Entry) → RootsNamed (k ++ h) F
    → (F1 : List Entry) × (F2 : List Entry) × (F ≡ F1 ++ F2) × RootsNamed k F1 × RootsNamed h F2
roots_parted [] h F nm = ([], F, refl, tt, nm)
roots_parted (m ∷ k) h [] nm = absurd nm
roots_parted (m ∷ k) h (e ∷ F) nm = let r = roots_parted k h F nm.1 in (e ∷ r.0, r.1, ap (λ z. e ∷ z) r.2, (nm.0, r.3), r.4)
