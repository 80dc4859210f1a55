-- Writing where something can be read: what changes in the roots.
use mathlib.Core.Bool.{Bool, true, false}
use mathlib.Core.List.{List, [], ◌∷◌}
use mathlib.Core.Option.{Option, some, none}
use mathlib.Core.Path.{◌≡◌, refl, sym, ◌∙◌, ap}
use Prim.Native.Nat.{ℕ, zero, suc, ◌+◌}
use Rattle.language.specs.Base.{choose, if_some, at_place, set_at}
use Rattle.language.specs.Meaning.{Loc, Value, Root, State, read_at, with_roots, write_at, at_path, put_path}
use Rattle.soundness.specs.Invariant.{live_sum}
use Rattle.soundness.proofs.Basics.{no_some, some_is}
use Rattle.soundness.proofs.memory.Paths.{at_put_same, at_put_other, Written}

-- the write, where something can be read
sum_write : (f : ℕ → ℕ → ℕ) (i : ℕ) (rs : List Root) (r : ℕ) (y : Root) (v : Value) → at_place rs r ≡ some y → y.live ≡ true
    → live_sum f i (set_at rs r (record { live = true; val = v; words = y.words })) ≡ live_sum f i rs
sum_write f i [] r y v e l = refl
sum_write f i (x ∷ rs) zero y v e l =
    let h : x ≡ y = some_is e in
    ap (λ z. z + live_sum f (suc i) rs) (sym (ap (λ z. choose z.live (f i z.words) 0) h ∙ ap (λ z. choose z (f i y.words) 0) l))
sum_write f i (x ∷ rs) (suc r) y v e l = ap (λ z. choose x.live (f i x.words) 0 + z) (sum_write f (suc i) rs r y v e l)

pub record Wrote (s : State) (l : Loc) (v : Value) : Type 0 where
  pub s2 : State
  pub is : write_at s l v ≡ some s2
  pub written : Written s.roots s2.roots l v
  pub totals : (f : ℕ → ℕ → ℕ) → live_sum f 0 s2.roots ≡ live_sum f 0 s.roots
  pub classes : s2.classes ≡ s.classes
  pub under : s2.under ≡ s.under

pub writes : (s : State) (l : Loc) (v old : Value) → read_at s l ≡ some old → Wrote s l v
writes s l v old rd = go (at_place s.roots l.root) refl rd
  where
    after : (y : Root) → at_place s.roots l.root ≡ some y → y.live ≡ true → at_path l.path y.val ≡ some old → Wrote s l v
    after y e lv ap1 = record {
      s2 = with_roots s (set_at s.roots l.root (record { live = true; val = put_path l.path v y.val; words = y.words }));
      is =
          ap (λ o. if_some (if_some o (λ x. choose x.live (some x) none))
          (λ x. if_some (at_path l.path x.val)
          (λ z. some (with_roots s (set_at s.roots l.root (record { live = true; val = put_path l.path v x.val; words = x.words })))))) e
          ∙ ap (λ z. if_some (choose z (some y) none)
          (λ x. if_some (at_path l.path x.val)
          (λ z. some (with_roots s (set_at s.roots l.root
          (record { live = true; val = put_path l.path v x.val; words = x.words })))))) lv
          ∙ ap (λ o. if_some o (λ z. some (with_roots s
          (set_at s.roots l.root (record { live = true; val = put_path l.path v y.val; words = y.words }))))) ap1;
      written = record {
        others = λ j ne. at_put_other s.roots l.root j (record { live = true; val = put_path l.path v y.val; words = y.words }) ne;
        now_there =
            λ x ex. (let same1 : y ≡ x = some_is (sym e ∙ ex) in at_put_same s.roots l.root y
            (record { live = true; val = put_path l.path v y.val; words = y.words }) e ∙ ap {B = Option Root}
            (λ z. some (record { live = true; val = put_path l.path v z.val; words = z.words })) same1);
      };
      totals = λ f. sum_write f 0 s.roots l.root y (put_path l.path v y.val) e lv;
      classes = refl;
      under = refl;
    }

    by_live : (y : Root) (z : Bool) → y.live ≡ z → at_place s.roots l.root ≡ some y
        → if_some (choose z (some y) none) (λ x. at_path l.path x.val) ≡ some old → Wrote s l v
    by_live y true lv e h = after y e lv h
    by_live y false lv e h = absurd (no_some h)

    go : (o : Option Root) → at_place s.roots l.root ≡ o
        → if_some (if_some o (λ x. choose x.live (some x) none)) (λ x. at_path l.path x.val) ≡ some old → Wrote s l v
    go none e h = absurd (no_some h)
    go (some y) e h = by_live y y.live refl e h
