-- Moves and assignments: at a name that is free, a new value goes in and the old one comes out.
use mathlib.Core.Bool.{Bool, true, false}
use mathlib.Core.List.{List, [], ◌∷◌, ◌++◌}
use mathlib.Core.Logic.{inr}
use mathlib.Core.Option.{Option, some}
use mathlib.Core.Path.{◌≡◌, refl, sym, ◌∙◌, ap, subst}
use Prim.Native.Nat.{ℕ}
use native.Mathlib.Omega.{arith}
use lib.ListN.{length}
use Rattle.language.specs.Base.{Lexeme}
use Rattle.language.specs.Syntax.{Data}
use Rattle.language.specs.Checks.{Loan, Var, owned, look, set_gone, is_free, all_loans}
use Rattle.language.specs.Checks as ch
use Rattle.language.specs.Meaning.{State, here, read_at, hole, write_at}
use Rattle.language.specs.Meaning as me
use Rattle.soundness.specs.Trees.{Tree, hole_t, flat, Stored}
use Rattle.soundness.specs.Borrows.{LevelLoan, Kind, own, borrow, inert, Lent}
use Rattle.soundness.specs.Invariant.{rooted, in_flight, Entry, kinds, Content, EntryOk, Invariant}
use Rattle.soundness.specs.Frames.{KindFits, Scope, Frame}
use Rattle.soundness.proofs.Basics.{true_false}
use Rattle.soundness.proofs.loans.Free.{none_into, push_own, pop_borrows}
use Rattle.soundness.proofs.invariant.Levels.{anchored_under, level_kinds, entry_ok_mid, entries_length}
use Rattle.soundness.proofs.invariant.Top.{reads}
use Rattle.soundness.proofs.memory.Writes.{Wrote, writes}
use Rattle.soundness.proofs.invariant.Middle.{level_mid, with_gone}
use Rattle.soundness.proofs.invariant.Replace.{removed_entry, replace_at}
use Rattle.soundness.proofs.frames.Free.{not_lent_by_name, free_not_among}
use Rattle.soundness.proofs.frames.Split.{cut_frame, Cut, split_of, split_trees, Split}

-- at a name x that is owned and free: y, in flight on top, goes in, what was there comes out; the flag of x is now z
pub record Swapped (ds : List Data) (C : List Entry) (ln : List LevelLoan) (g : ch.Env) (d : me.Env) (H : List Entry) (x : Lexeme) (v : Var)
    (z : Bool) (y : Tree) (s : State) : Type 0 where
  pub root : ℕ
  pub old : Tree
  pub s2 : State
  pub F : List Entry
  pub T : List Tree
  pub named : me.root_of d x ≡ some root
  pub reads_old : read_at s (here root) ≡ some (flat old)
  pub writes_new : write_at s (here root) (flat y) ≡ some s2
  pub content : Content ds v.gone v.ty old
  pub stored : Stored s2.roots old
  pub names : Scope (length C) ln (set_gone z g x) d F
  pub invariant : Invariant ds (removed_entry old v.gone v.ty ∷ (H ++ (F ++ C))) (old ∷ T) s2
  pub under : s2.under ≡ s.under

pub swap_name : (ds : List Data) (C : List Entry) (ln : List LevelLoan) (held : List Loan) (g : ch.Env) (d : me.Env) (H F : List Entry) (x : Lexeme)
    (v : Var) (z : Bool) (e : Entry) (y : Tree) (T : List Tree) (s : State) → Frame C ln held g d H F → look g x ≡ some v → owned v.ty ≡ true
    → is_free (held ++ all_loans g) x ≡ true → e.at ≡ in_flight (flat y) → Stored s.roots y → Content ds z v.ty y
    → Invariant ds (e ∷ (H ++ (F ++ C))) (y ∷ T) s → Swapped ds C ln g d H x v z y s
swap_name ds C ln held g d H F x v z e y T s sc lk ow fr e-at st-y co w = by_shape1 sp.en.kind refl sp.type
  where
    sp : Split C ln g d F x v
    sp = split_of C ln g d F x v sc.names lk

    N1 : List Entry
    N1 = H ++ sp.F1

    ex : Entry
    ex = sp.en

    N2 : List Entry
    N2 = sp.F2 ++ C

    r : ℕ
    r = sp.root

    same_N : H ++ (F ++ C) ≡ N1 ++ (ex ∷ N2)
    same_N = ap (λ k. H ++ (k ++ C)) sp.cut ∙ cut_frame H sp.F1 ex sp.F2 C

    w1 : Invariant ds (e ∷ (N1 ++ (ex ∷ N2))) (y ∷ T) s
    w1 = subst (λ k. Invariant ds (e ∷ k) (y ∷ T) s) same_N w

    cu : Cut N1 N2 T
    cu = split_trees N1 ex N2 T (entries_length ds s.roots (N1 ++ (ex ∷ N2)) T w1.entries.1)

    tr : Tree
    tr = cu.tree

    w2 : Invariant ds (e ∷ (N1 ++ (ex ∷ N2))) (y ∷ (cu.T1 ++ (tr ∷ cu.T2))) s
    w2 = subst (λ k. Invariant ds (e ∷ (N1 ++ (ex ∷ N2))) (y ∷ k) s) cu.is w1

    f_ex : EntryOk ds s.roots ex.at ex.gone ex.kind tr N2 cu.T2
    f_ex = entry_ok_mid ds s.roots N1 cu.T1 ex N2 tr cu.T2 cu.len1 w2.entries.1

    free : Lent (kinds (N1 ++ (ex ∷ N2))) (length N2) false → ⊥
    free =
        subst (λ k. Lent (kinds k) (length N2) false → ⊥) same_N
        (not_lent_by_name C ln held g d H F x (length N2) false sc (anchored_under F C (anchored_under H (F ++ C) w.borrows.anchored.1))
        sp.levelled (free_not_among (held ++ all_loans g) x fr))

    by_shape1 : (sh : Kind) → ex.kind ≡ sh → KindFits v.ty sh → Swapped ds C ln g d H x v z y s
    by_shape1 (own t) sh_is su = record {
      root = r;
      old = tr;
      s2 = wr.s2;
      F = sp.F1 ++ (with_gone ex z ∷ sp.F2);
      T = cu.T1 ++ (y ∷ cu.T2);
      named = sp.named;
      reads_old = rd;
      writes_new = wr.is;
      content = c_old;
      stored = w3.entries.0.1;
      names = sp.with_flag z;
      invariant =
          subst (λ k. Invariant ds (removed_entry tr v.gone v.ty ∷ k) (tr ∷ (cu.T1 ++ (y ∷ cu.T2))) wr.s2)
          (sym (cut_frame H sp.F1 (with_gone ex z) sp.F2 C)) w3;
      under = wr.under;
    }
      where
        f_own : EntryOk ds s.roots (rooted r 0) v.gone (own v.ty) tr N2 cu.T2
        f_own =
            subst (λ k. EntryOk ds s.roots k v.gone (own v.ty) tr N2 cu.T2) sp.placed
            (subst (λ k. EntryOk ds s.roots ex.at k (own v.ty) tr N2 cu.T2) sp.flag
            (subst (λ k. EntryOk ds s.roots ex.at ex.gone (own k) tr N2 cu.T2) (sym su.0)
            (subst (λ k. EntryOk ds s.roots ex.at ex.gone k tr N2 cu.T2) sh_is f_ex)))

        c_old : Content ds v.gone v.ty tr
        c_old = f_own.3

        rd : read_at s (here r) ≡ some (flat tr)
        rd = reads s r (flat tr) 0 f_own.0

        wr : Wrote s (here r) (flat y)
        wr = writes s (here r) (flat y) (flat tr) rd

        sh_own : ex.kind ≡ own v.ty
        sh_own = sh_is ∙ ap own (sym su.0)

        w3 : Invariant ds (removed_entry tr v.gone v.ty ∷ (N1 ++ (with_gone ex z ∷ N2))) (tr ∷ (cu.T1 ++ (y ∷ cu.T2))) wr.s2
        w3 =
            replace_at ds e y N1 ex N2 cu.T1 tr cu.T2 s r v.ty [] tr z v.gone v.ty e-at st-y sp.placed sh_own cu.len1
            cu.len2 refl wr co c_old ow
            (λ j al t1 a ls part at_j cell lead ty. absurd
            (none_into (kinds (N1 ++ (ex ∷ N2))) (pop_borrows e.kind (kinds (N1 ++ (ex ∷ N2))) w1.borrows) (length N2) v.ty
            (level_kinds (N1 ++ (ex ∷ N2)) (length N2) ex (level_mid N1 ex N2) ∙ ap {B = Option Kind}
            (λ k. some k) sh_own) free j al t1 a ls at_j cell))
            w2
    by_shape1 (borrow true t a ls) sh_is su = absurd (true_false (sym ow ∙ ap owned su))
    by_shape1 (borrow false t a ls) sh_is su = absurd (true_false (sym ow ∙ ap owned su))
    by_shape1 inert sh_is su = absurd su

-- a move: x is gone, what it had is in flight
pub move_name : (ds : List Data) (C : List Entry) (ln : List LevelLoan) (held : List Loan) (g : ch.Env) (d : me.Env) (H F : List Entry) (x : Lexeme)
    (v : Var) (T : List Tree) (s : State) → Frame C ln held g d H F → look g x ≡ some v → owned v.ty ≡ true
    → is_free (held ++ all_loans g) x ≡ true → Invariant ds (H ++ (F ++ C)) T s → Swapped ds C ln g d H x v true hole_t s
move_name ds C ln held g d H F x v T s sc lk ow fr w =
    swap_name ds C ln held g d H F x v true (record { at = in_flight hole; gone = true; kind = own v.ty }) hole_t T s sc lk ow fr refl tt
    (inr (refl, refl))
    (record {
      borrows = push_own (kinds (H ++ (F ++ C))) w.borrows v.ty;
      entries = ((refl, tt, ow, inr (refl, refl)), w.entries);
      sums = λ f. (let a = w.sums f in omega arith);
      counted = w.counted;
    })
