-- The step for let x = open y: what is in a box becomes a name, the box ends.
use mathlib.Core.Bool.{true, false}
use mathlib.Core.List.{List, [], ◌∷◌, ◌++◌}
use mathlib.Core.Logic.{inl, inr}
use mathlib.Core.Option.{Option, some, none}
use mathlib.Core.Path.{◌≡◌, refl, sym, ◌∙◌, ap, subst}
use Prim.Native.Nat.{ℕ, zero, suc, ◌≤◌}
use native.Mathlib.Omega.{arith}
use lib.ListN.{length}
use Rattle.language.specs.Base.{choose, from_option, if_some, at_place, set_at, Lexeme}
use Rattle.language.specs.Syntax.{Ty, int, dat, box, ref, mut, Data, Prog, open_s}
use Rattle.language.specs.Checks.{Var, owned, look, fresh, set_gone, boxed_in}
use Rattle.language.specs.Checks as ch
use Rattle.language.specs.Meaning.{Value, Root, State, Limits, here, read_at, exec, hole, with_roots, adds_root, ends_box, write_at, box_of}
use Rattle.language.specs.Meaning as me
use Rattle.soundness.specs.Trees.{Tree, int_t, con_t, box_t, hole_t, flat, Stored, Typed}
use Rattle.soundness.specs.Borrows.{LevelLoan, own}
use Rattle.soundness.specs.Invariant.{rooted, in_flight, Entry, kinds, Content, Idle, place_sum, Invariant}
use Rattle.soundness.specs.Frames.{KindFits, Scope, Frame, owned_entry}
use Rattle.soundness.specs.Preserved.{safe_ok, Safe, AfterExec}
use Rattle.soundness.proofs.Basics.{no_some, some_is, true_false}
use Rattle.soundness.proofs.loans.Free.{push_own, push_inert, pop_borrows}
use Rattle.soundness.proofs.memory.Sizes.{typed_owned, words_pos}
use Rattle.soundness.proofs.invariant.Top.{with_root, reads, ended_under}
use Rattle.soundness.proofs.invariant.Apart.{shell, end_box_top}
use Rattle.soundness.proofs.memory.Writes.{Wrote, writes}
use Rattle.soundness.proofs.invariant.Replace.{removed_entry}
use Rattle.soundness.proofs.invariant.Rooting.{root_mid}
use Rattle.soundness.proofs.statics.Exprs.{like_gone, fresh_like}
use Rattle.soundness.proofs.statics.Rules.{there_is}
use Rattle.soundness.proofs.statics.Scopes.{fresh_none}
use Rattle.soundness.proofs.frames.Levels.{name_entry}
use Rattle.soundness.proofs.frames.Moves.{Swapped, move_name}
use Rattle.soundness.proofs.Safety.{safe_need}
use Rattle.soundness.proofs.stmts.Store.{typed_there}
use Rattle.soundness.proofs.statics.StmtRules.{OpenRule, open_rule}
use Rattle.soundness.proofs.invariant.Kinds.{box_owned}

-- a box in flight: what is in it, in flight, under the box that is to end
open_shell : (ds : List Data) (e : Entry) (N : List Entry) (r w : ℕ) (x : Tree) (t : Ty) (T : List Tree) (s : State) (v : Value) → e.at ≡ in_flight v
    → 1 ≤ w → Stored s.roots (box_t r w x) → Typed ds x t → Invariant ds (e ∷ N) (box_t r w x ∷ T) s
    → Invariant ds (shell r w ∷ (owned_entry x t ∷ N)) (hole_t ∷ (x ∷ T)) s
open_shell ds e N r w x t T s v at-is le st ty wo = record {
  borrows = push_inert (own t ∷ kinds N) (push_own (kinds N) (pop_borrows e.kind (kinds N) wo.borrows) t);
  entries = ((refl, (flat x, st.0, idle w le)), ((refl, st.1, typed_owned ds x t ty, inl ty), wo.entries.1));
  sums = λ f. (let a = wo.sums f in let a2 : place_sum f e.at ≡ 0 = ap (place_sum f) at-is in omega arith);
  counted = wo.counted;
}
  where
    idle : (k : ℕ) → 1 ≤ k → Idle (rooted r k) (flat x)
    idle zero h = absurd (omega arith)
    idle (suc k) h = tt

put_length : {A : Type 0} (xs : List A) (i : ℕ) (v : A) → length (set_at xs i v) ≡ length xs
put_length [] i v = refl
put_length (x ∷ xs) zero v = refl
put_length (x ∷ xs) (suc i) v = ap suc (put_length xs i v)

ended_length : (s : State) (r : ℕ) → length (ends_box s r).roots ≡ length s.roots
ended_length s r = go (at_place s.roots r)
  where
    go : (o : Option Root) → length (from_option o s
        (λ x. me.with_classes (from_option o s (λ y. with_roots s (set_at s.roots r (record { live = false; val = hole; words = y.words }))))
        (me.count_out s.classes x.words))).roots ≡ length s.roots
    go none = refl
    go (some x) = put_length s.roots r (record { live = false; val = hole; words = x.words })

root_read : (s : State) (r : ℕ) (v : Value) → read_at s (here r) ≡ some v → (x : Root) × (at_place s.roots r ≡ some x)
root_read s r v e = go (at_place s.roots r) e
  where
    go : (o : Option Root) → if_some (if_some o (λ x. choose x.live (some x) none)) (λ x. some x.val) ≡ some v → (x : Root) × (o ≡ some x)
    go none e1 = absurd (no_some e1)
    go (some x) e1 = (x, refl)

-- what's in a box reads the same before its name's root was emptied
box_reads : (ds : List Data) (s s2 : State) (r i w : ℕ) (v : Value) (x : Tree) (t : Ty) → read_at s (here r) ≡ some v
    → write_at s (here r) hole ≡ some s2 → Typed ds x t → at_place s2.roots i ≡ some (record { live = true; val = flat x; words = w })
    → read_at s (here i) ≡ some (flat x)
box_reads ds s s2 r i w v x t rd wr ty at2 = reads s i (flat x) w (sym (wo.written.others i apart) ∙ at3)
  where
    wo : Wrote s (here r) hole
    wo = writes s (here r) hole v rd

    s_is : s2 ≡ wo.s2
    s_is = some_is (sym wr ∙ wo.is)

    at3 : at_place wo.s2.roots i ≡ some (record { live = true; val = flat x; words = w })
    at3 = ap (λ z. at_place z.roots i) (sym s_is) ∙ at2

    rr : (y : Root) × (at_place s.roots r ≡ some y)
    rr = root_read s r v rd

    apart : r ≡ i → ⊥
    apart e =
        let a : record { live = true; val = hole; words = rr.0.words } ≡ record { live = true; val = flat x; words = w } = some_is
        (sym (wo.written.now_there rr.0 rr.1) ∙ ap (at_place wo.s2.roots) e ∙ at3) in
        let h : hole ≡ flat x = ap (λ (z : Root). z.val) a in
        no_some (ap me.there h ∙ typed_there ds x t ty)

pub boxed_is : (t u : Ty) → boxed_in t ≡ some u → t ≡ box u
boxed_is int u e = absurd (no_some e)
boxed_is (dat d) u e = absurd (no_some e)
boxed_is (box t) u e = ap box (some_is e)
boxed_is (ref t) u e = absurd (no_some e)
boxed_is (mut t) u e = absurd (no_some e)

-- a tree of a box's type
pub is_box1 : (ds : List Data) (x : Tree) (u : Ty) → Typed ds x (box u) → (r : ℕ) × (w : ℕ) × (y : Tree) × (x ≡ box_t r w y) × (1 ≤ w) × Typed ds y u
is_box1 ds (int_t k) u ty = absurd ty
is_box1 ds (con_t k ts) u ty = absurd ty
is_box1 ds (box_t r w y) u ty = (r, w, y, refl, subst (λ z. 1 ≤ z) (sym ty.0) (words_pos ds u), ty.1)
is_box1 ds hole_t u ty = absurd ty

-- let x = open y
pub open_step : (q : Prog) (m : Limits) (u : ℕ) (C : List Entry) (ln : List LevelLoan) (g g2 : ch.Env) (d : me.Env) (F : List Entry) (T : List Tree)
    (s : State) (x y : Lexeme) → ch.stmt q g (open_s x y) ≡ some g2 → Frame C ln [] g d [] F → Invariant q.datas (F ++ C) T s
    → Safe (AfterExec q C ln g2 d s.under) (exec (suc u) m q d (open_s x y) s)
unfolding me.eval
open_step q m u C ln g g2 d F T s x y e sc w =
    safe_need P _ _ _ sw.named
    (safe_need P _ _ _ sw.reads_old
    (safe_need P _ _ _ (ap (λ z. box_of (flat z)) bo.3)
    (safe_need P _ _ _ (box_reads q.datas s s2 sw.root i wd (flat sw.old) cont tb sw.reads_old sw.writes_new
    bo.5 st.0)
    (safe_need P _ _ _ sw.writes_new (safe_ok after)))))
  where
    P : me.Env → State → Type 0
    P = AfterExec q C ln g2 d s.under

    i1 : OpenRule g x y g2
    i1 = open_rule q g x y g2 e

    v : Var
    v = i1.var1

    tb : Ty
    tb = i1.content

    th : (look g y ≡ some v) × (v.gone ≡ false)
    th = there_is g y v i1.is_there

    ty_is : v.ty ≡ box tb
    ty_is = boxed_is v.ty tb i1.is_box

    ow : owned tb ≡ true
    ow =
        let en = name_entry C ln g d F y v sc.names th.0 in
        box_owned tb en.en.kind (subst (λ z. KindFits z en.en.kind) ty_is en.type)

    sw : Swapped q.datas C ln g d [] y v true hole_t s
    sw = move_name q.datas C ln [] g d [] F y v T s sc th.0 (ap owned ty_is ∙ ow) i1.free w

    s2 : State
    s2 = sw.s2

    there1 : Content q.datas v.gone v.ty sw.old → Typed q.datas sw.old v.ty
    there1 (inl ty) = ty
    there1 (inr k) = absurd (true_false (sym k.0 ∙ th.1))

    bo : (r : ℕ) × (k : ℕ) × (z : Tree) × (sw.old ≡ box_t r k z) × (1 ≤ k) × Typed q.datas z tb
    bo = is_box1 q.datas sw.old tb (subst (Typed q.datas sw.old) ty_is (there1 sw.content))

    i : ℕ
    i = bo.0

    wd : ℕ
    wd = bo.1

    cont : Tree
    cont = bo.2

    st : Stored s2.roots (box_t i wd cont)
    st = subst (Stored s2.roots) bo.3 sw.stored

    w1 : Invariant q.datas (removed_entry sw.old v.gone v.ty ∷ (sw.F ++ C)) (box_t i wd cont ∷ sw.T) s2
    w1 = subst (λ z. Invariant q.datas (removed_entry sw.old v.gone v.ty ∷ (sw.F ++ C)) (z ∷ sw.T) s2) bo.3 sw.invariant

    w2 : (U : List Tree) × Invariant q.datas (owned_entry cont tb ∷ (sw.F ++ C)) U (ends_box s2 i)
    w2 =
        end_box_top q.datas (owned_entry cont tb ∷ (sw.F ++ C)) i wd (hole_t ∷ (cont ∷ sw.T)) s2 bo.4
        (open_shell q.datas (removed_entry sw.old v.gone v.ty) (sw.F ++ C) i wd cont tb sw.T s2 (flat sw.old) refl
        bo.4 st bo.5 w1)

    s3 : State
    s3 = ends_box s2 i

    after : P (record { name = x; root = length s2.roots } ∷ d) (adds_root s3 (flat cont) 0)
    after = record {
      newer = record { name = x; root = length s2.roots } ∷ [];
      grown = refl;
      F = with_root (owned_entry cont tb) (length s3.roots) ∷ sw.F;
      T = w2.0;
      names =
          subst (λ z. Scope (length C) ln z (record { name = x; root = length s2.roots } ∷ d)
          (with_root (owned_entry cont tb) (length s3.roots) ∷ sw.F)) i1.behind (
            record {
              name = refl;
              place = ap (λ z. rooted z 0) (ended_length s2 i);
              flag = refl;
              type = (refl, ow);
              loans = λ l k. absurd k;
              fresh = fresh_like g (set_gone true g y) x (like_gone true g y) (fresh_none g x i1.is_fresh);
            },
            sw.names,
          );
      invariant = root_mid q.datas [] (owned_entry cont tb) (flat cont) (sw.F ++ C) w2.0 s3 refl w2.1;
      under = ended_under s2 i ∙ sw.under;
    }
