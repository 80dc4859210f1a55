-- An entry in the middle of the stack.
use mathlib.Core.Bool.{Bool, true, false}
use mathlib.Core.List.{List, [], ◌∷◌, ◌++◌}
use mathlib.Core.Option.{some}
use mathlib.Core.Path.{◌≡◌, refl, ◌∙◌, ap, subst}
use Prim.Native.Nat.{ℕ, suc, ◌+◌}
use native.Mathlib.Omega.{arith}
use lib.Dec.{eqb}
use lib.ListN.{length}
use Rattle.language.specs.Base.{choose}
use Rattle.soundness.specs.Trees.{Tree, tree_sum}
use Rattle.soundness.specs.Borrows.{at_level}
use Rattle.soundness.specs.Invariant.{Entry, kinds, places, place_sum, stack_sum}
use Rattle.soundness.proofs.loans.Levels.{level_top, level_below, level_push}
use Rattle.soundness.proofs.invariant.Levels.{places_length}

-- in the middle of a stack
pub level_mid : {A : Type 0} (xs : List A) (x : A) (ys : List A) → at_level (xs ++ (x ∷ ys)) (length ys) ≡ some x
level_mid [] x ys = level_top x ys
level_mid (z ∷ xs) x ys = let h = level_mid xs x ys in level_push z (xs ++ (x ∷ ys)) (length ys) (level_below (xs ++ (x ∷ ys)) (length ys) x h) ∙ h

mid_length : {A : Type 0} (xs : List A) (x y : A) (ys : List A) → length (xs ++ (x ∷ ys)) ≡ length (xs ++ (y ∷ ys))
mid_length [] x y ys = refl
mid_length (z ∷ xs) x y ys = ap suc (mid_length xs x y ys)

pub level_mid_other : {A : Type 0} (xs : List A) (x y : A) (ys : List A) (j : ℕ) → (j ≡ length ys → ⊥)
    → at_level (xs ++ (x ∷ ys)) j ≡ at_level (xs ++ (y ∷ ys)) j
level_mid_other [] x y ys j ne = go (eqb j (length ys)) (λ t. lib.Dec.eqb→eq j (length ys) t)
  where
    go : (o : Bool) → (lib.Dec.T o → j ≡ length ys) → choose o (some x) (at_level ys j) ≡ choose o (some y) (at_level ys j)
    go true h = absurd (ne (h tt))
    go false h = refl
level_mid_other (z ∷ xs) x y ys j ne =
    ap (λ k. choose (eqb j k) (some z) (at_level (xs ++ (x ∷ ys)) j)) (mid_length xs x y ys) ∙ ap
    (λ k. choose (eqb j (length (xs ++ (y ∷ ys)))) (some z) k) (level_mid_other xs x y ys j ne)

abbrev pub with_gone : Entry → Bool → Entry
with_gone e g = record { at = e.at; gone = g; kind = e.kind }

pub places_mid : (N1 : List Entry) (e : Entry) (g : Bool) (N2 : List Entry) → places (N1 ++ (with_gone e g ∷ N2)) ≡ places (N1 ++ (e ∷ N2))
places_mid [] e g N2 = refl
places_mid (d ∷ N1) e g N2 = ap (λ z. d.at ∷ z) (places_mid N1 e g N2)

pub kinds_mid : (N1 : List Entry) (e : Entry) (g : Bool) (N2 : List Entry) → kinds (N1 ++ (with_gone e g ∷ N2)) ≡ kinds (N1 ++ (e ∷ N2))
kinds_mid [] e g N2 = refl
kinds_mid (d ∷ N1) e g N2 = ap (λ z. d.kind ∷ z) (kinds_mid N1 e g N2)

pub places_two : (N1 : List Entry) (e : Entry) (N2 : List Entry) → at_level (places (N1 ++ (e ∷ N2))) (length N2) ≡ some e.at
places_two N1 e N2 = subst (λ z. at_level (places (N1 ++ (e ∷ N2))) z ≡ some e.at) (places_length N2) (go N1)
  where
    split : (M : List Entry) → places (M ++ (e ∷ N2)) ≡ places M ++ (e.at ∷ places N2)
    split [] = refl
    split (x ∷ M) = ap (λ z. x.at ∷ z) (split M)

    go : (M : List Entry) → at_level (places (M ++ (e ∷ N2))) (length (places N2)) ≡ some e.at
    go M = ap (λ z. at_level z (length (places N2))) (split M) ∙ level_mid (places M) e.at (places N2)

pub sum_mid : (f : ℕ → ℕ → ℕ) (N1 : List Entry) (T1 : List Tree) (e : Entry) (N2 : List Entry) (x : Tree) (T2 : List Tree) → length N1 ≡ length T1
    → stack_sum f (N1 ++ (e ∷ N2)) (T1 ++ (x ∷ T2)) ≡ stack_sum f N1 T1 + (place_sum f e.at + (tree_sum f x + stack_sum f N2 T2))
sum_mid f [] [] e N2 x T2 h = omega arith
sum_mid f [] (y ∷ T1) e N2 x T2 h = absurd (omega arith)
sum_mid f (d ∷ N1) [] e N2 x T2 h = absurd (omega arith)
sum_mid f (d ∷ N1) (y ∷ T1) e N2 x T2 h = let k = sum_mid f N1 T1 e N2 x T2 (omega arith) in omega arith
