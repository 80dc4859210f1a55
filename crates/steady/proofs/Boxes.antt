-- Steady: let x = open y and let x = inside y. The box isn't being dropped.
use mathlib.Core.Bool.{Bool, true, false}
use mathlib.Core.List.{List, [], ◌++◌}
use mathlib.Core.Option.{some}
use mathlib.Core.Path.{◌≡◌, refl, sym, ◌∙◌, ap, subst}
use Prim.Native.Nat.{ℕ, suc, ◌+◌, ◌≤◌}
use native.Mathlib.Omega.{arith}
use Rattle.language.specs.Base.{Lexeme, at_place}
use Rattle.language.specs.Syntax.{Ty, int, dat, box, ref, mut, Data, Prog, open_s, inside}
use Rattle.language.specs.Checks.{Var, owned, boxed_in, goes_in}
use Rattle.language.specs.Checks as ch
use Rattle.language.specs.Meaning.{Loc, Value, State, Limits, here, read_at, root_of, ref_v, loc_of, box_of}
use Rattle.language.specs.Meaning as me
use Rattle.soundness.specs.Trees.{Tree, box_t, hole_t, flat, tree_sum, Stored, Typed, Path, subtree}
use Rattle.soundness.specs.Borrows.{LevelLoan, borrow}
use Rattle.soundness.specs.Invariant.{rooted, Entry, kinds, Invariant}
use Rattle.soundness.specs.Frames.{KindFits, Frame}
use Rattle.soundness.proofs.Basics.{no_some, some_is, if_some_is}
use Rattle.soundness.proofs.memory.Paths.{mark, mark_self, sum_replace}
use Rattle.soundness.proofs.invariant.Kinds.{box_owned, ref_type}
use Rattle.soundness.proofs.invariant.Borrows.{owner_of, valid_ref_read}
use Rattle.soundness.proofs.statics.Rules.{there_is}
use Rattle.soundness.proofs.statics.StmtRules.{OpenRule, open_rule, InsideRule, inside_rule}
use Rattle.soundness.proofs.frames.Lookup.{NameAt, name_at}
use Rattle.soundness.proofs.frames.AtName.{BorrowAt, borrow_at}
use Rattle.soundness.proofs.stmts.Open.{boxed_is, is_box1}
use Rattle.simulation.specs.Borrows.{NotIn, Clear, Unseen, SteadyS}
use Rattle.steady.proofs.Watch.{Watch, FrameWatch, frame_watched}
use Rattle.steady.proofs.Pointing.{unseen_clear, BoxedAt, boxed_stands, not_dropped}
use Rattle.steady.proofs.Names.{name_stands, free_unseen, OwnedHere, owned_here}

-- a part's boxes are among the tree's
part_sum : (f : ℕ → ℕ → ℕ) (w : Path) (t y : Tree) → subtree w t ≡ some y → tree_sum f y ≤ tree_sum f t
part_sum f w t y e = let k = sum_replace f w hole_t t y e in omega arith

pub steady_open : (q : Prog) (m : Limits) (u : ℕ) (C : List Entry) (ln : List LevelLoan) (g g2 : ch.Env) (d : me.Env) (F : List Entry) (T : List Tree)
    (s : State) (x y : Lexeme) (D hs : List ℕ) (ls : List Loc) → ch.stmt q g (open_s x y) ≡ some g2 → Frame C ln [] g d [] F
    → Invariant q.datas (F ++ C) T s → FrameWatch C [] d D hs ls → SteadyS m q (suc u) D hs ls d (open_s x y) s
steady_open q m u C ln g g2 d F T s x y D hs ls e sc w wa = λ r r_is v rd i i_is. found r (some_is (sym n.named ∙ r_is)) v rd i i_is
  where
    ds : List Data
    ds = q.datas

    ru : OpenRule g x y g2
    ru = open_rule q g x y g2 e

    var1 : Var
    var1 = ru.var1

    th : (ch.look g y ≡ some var1) × (var1.gone ≡ false)
    th = there_is g y var1 ru.is_there

    ty_is : var1.ty ≡ box ru.content
    ty_is = boxed_is var1.ty ru.content ru.is_box

    n : NameAt ds C ln g d [] F T s y var1
    n = name_at ds C ln [] g d [] F T s y var1 sc w th.0

    ow : owned var1.ty ≡ true
    ow = ap owned ty_is ∙ box_owned ru.content n.en.kind (subst (λ z. KindFits z n.en.kind) ty_is n.type)

    o : OwnedHere ds s n.root var1.ty n.stands.tree
    o = owned_here ds C ln g d [] F T s y var1 n ow th.1

    wn : Watch (F ++ C) D hs ls
    wn = frame_watched C [] ln g d F D hs ls sc.names wa

    bo : (k : ℕ) × (wd : ℕ) × (z : Tree) × (n.stands.tree ≡ box_t k wd z) × (1 ≤ wd) × Typed ds z ru.content
    bo = is_box1 ds n.stands.tree ru.content (subst (Typed ds n.stands.tree) ty_is o.typed)

    boxed : BoxedAt (F ++ C) T n.level bo.0
    boxed = record {
      place = rooted n.root 0;
      tree = n.stands.tree;
      placed = n.at_root;
      holds = n.stands.holds;
      counts = subst (λ z. 1 ≤ tree_sum (mark bo.0) z) (sym bo.3) (let c = mark_self bo.0 bo.1 in omega arith);
    }

    found : (r : ℕ) → n.root ≡ r → (v : Value) → read_at s (here r) ≡ some v → (i : ℕ) → box_of v ≡ some i
        → NotIn i D × Clear hs ls s.roots r [] × Unseen hs ls s.roots i
    found r r_is v rd i i_is =
        let v_is : v ≡ flat n.stands.tree = some_is (sym rd ∙ ap (λ z. read_at s (here z)) (sym r_is) ∙ o.reads_it) in
        let box_is : bo.0 ≡ i = some_is (sym (ap (λ z. box_of (flat z)) bo.3) ∙ ap box_of (sym v_is) ∙ i_is) in (
          subst (λ z. NotIn z D) box_is (not_dropped ds (F ++ C) T s D n.level bo.0 w boxed wn.boxes),
          subst (λ z. Clear hs ls s.roots z []) r_is (unseen_clear hs ls s.roots n.root []
              (free_unseen ds C ln [] g d [] F T s y var1 D hs ls n.root sc w wn th.0 ow ru.free n
              (name_stands ds C ln g d [] F T s y var1 n))),
          subst (Unseen hs ls s.roots) box_is (free_unseen ds C ln [] g d [] F T s y var1 D hs ls bo.0 sc w wn th.0 ow ru.free n
              (boxed_stands (F ++ C) T n.level bo.0 boxed)),
        )

pub steady_inside : (q : Prog) (m : Limits) (u : ℕ) (C : List Entry) (ln : List LevelLoan) (g g2 : ch.Env) (d : me.Env) (F : List Entry)
    (T : List Tree) (s : State) (x y : Lexeme) (D hs : List ℕ) (ls : List Loc) → ch.stmt q g (inside x y) ≡ some g2 → Frame C ln [] g d [] F
    → Invariant q.datas (F ++ C) T s → FrameWatch C [] d D hs ls → SteadyS m q (suc u) D hs ls d (inside x y) s
steady_inside q m u C ln g g2 d F T s x y D hs ls e sc w wa = by_type var1.ty refl ru.behind
  where
    ds : List Data
    ds = q.datas

    ru : InsideRule g x y g2
    ru = inside_rule q g x y g2 e

    var1 : Var
    var1 = ru.var1

    th : (ch.look g y ≡ some var1) × (var1.gone ≡ false)
    th = there_is g y var1 ru.is_there

    n : NameAt ds C ln g d [] F T s y var1
    n = name_at ds C ln [] g d [] F T s y var1 sc w th.0

    wn : Watch (F ++ C) D hs ls
    wn = frame_watched C [] ln g d F D hs ls sc.names wa

    by_ref : (al : Bool) (t : Ty) → var1.ty ≡ ref_type al (box t) → SteadyS m q (suc u) D hs ls d (inside x y) s
    by_ref al t t_is = λ r r_is v rd l l_is v2 rd2 i i_is. (
      subst (λ z. NotIn z D) (box_is r r_is v rd l l_is v2 rd2 i i_is)
          (not_dropped ds (F ++ C) T s D b.addr.owner bo.0 w boxed wn.boxes),
      (
        record { live = true; val = flat bo.2; words = bo.1 },
        record {
          is = subst (λ z. at_place s.roots z ≡ some (record { live = true; val = flat bo.2; words = bo.1 }))
              (box_is r r_is v rd l l_is v2 rd2 i i_is) st.0;
          lives = refl;
        },
      ),
    )
      where
        b : BorrowAt ds C ln g var1 (F ++ C) T s n.level n.root al (box t)
        b = borrow_at ds C ln g d [] F T s y var1 al (box t) w n t_is

        bo : (k : ℕ) × (wd : ℕ) × (z : Tree) × (b.valid.part ≡ box_t k wd z) × (1 ≤ wd) × Typed ds z t
        bo = is_box1 ds b.valid.part t b.valid.typed

        boxed : BoxedAt (F ++ C) T b.addr.owner bo.0
        boxed = record {
          place = rooted b.valid.root 0;
          tree = b.valid.whole;
          placed = b.valid.standing;
          holds = b.valid.holding;
          counts = (let c = mark_self bo.0 bo.1 in
              let k = part_sum (mark bo.0) b.addr.path b.valid.whole b.valid.part b.valid.leading in
              let k2 : tree_sum (mark bo.0) b.valid.part ≡ mark bo.0 bo.0 bo.1 + tree_sum (mark bo.0) bo.2
              = ap (tree_sum (mark bo.0)) bo.3 in omega arith);
        }

        st : Stored s.roots (box_t bo.0 bo.1 bo.2)
        st =
            let ow = owner_of (kinds (F ++ C)) w.borrows.anchored n.level (borrow al (box t) b.addr b.ls) b.addr b.at_kind refl in
            subst (Stored s.roots) bo.3 (valid_ref_read ds (F ++ C) T s (box t) ow.0 b.addr (ref_v b.loc) w ow.1 b.valid).1

        box_is : (r : ℕ) → root_of d y ≡ some r → (v : Value) → read_at s (here r) ≡ some v → (l : Loc) → loc_of v ≡ some l → (v2 : Value)
            → read_at s l ≡ some v2 → (i : ℕ) → box_of v2 ≡ some i → bo.0 ≡ i
        box_is r r_is v rd l l_is v2 rd2 i i_is =
            let root_is : n.root ≡ r = some_is (sym n.named ∙ r_is) in
            let v_is : v ≡ ref_v b.loc = some_is (sym rd ∙ ap (λ z. read_at s (here z)) (sym root_is) ∙ b.reads_it) in
            let loc_is : b.loc ≡ l = some_is (ap loc_of (sym v_is) ∙ l_is) in
            let v2_is : v2 ≡ flat b.valid.part = some_is (sym rd2 ∙ ap (read_at s) (sym loc_is) ∙ b.leads) in
            some_is (sym (ap (λ z. box_of (flat z)) bo.3) ∙ ap box_of (sym v2_is) ∙ i_is)

    by_type : (t : Ty) → var1.ty ≡ t → goes_in g var1 x t ≡ some g2 → SteadyS m q (suc u) D hs ls d (inside x y) s
    by_type int t_is e1 = absurd (no_some e1)
    by_type (dat k) t_is e1 = absurd (no_some e1)
    by_type (box t) t_is e1 = absurd (no_some e1)
    by_type (ref t) t_is e1 = let z = if_some_is (boxed_in t) _ g2 e1 in by_ref false z.0 (t_is ∙ ap ref (boxed_is t z.0 z.1))
    by_type (mut t) t_is e1 = let z = if_some_is (boxed_in t) _ g2 e1 in by_ref true z.0 (t_is ∙ ap mut (boxed_is t z.0 z.1))
