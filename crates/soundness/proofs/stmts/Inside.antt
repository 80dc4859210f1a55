-- The step for let x = inside y: a reference into a box.
use mathlib.Core.Bool.{Bool, true, false}
use mathlib.Core.List.{List, [], ◌∷◌, ◌++◌}
use mathlib.Core.Option.{Option, some}
use mathlib.Core.Path.{◌≡◌, refl, sym, ◌∙◌, ap, subst}
use Prim.Native.Nat.{ℕ, suc}
use lib.ListN.{length}
use Rattle.language.specs.Base.{Lexeme}
use Rattle.language.specs.Syntax.{Ty, int, dat, box, ref, mut, Data, Prog, inside}
use Rattle.language.specs.Checks.{Loan, Var, loan, look, enter, is_free, all_loans, goes_in, boxed_in}
use Rattle.language.specs.Checks as ch
use Rattle.language.specs.Meaning.{Loc, Value, State, Limits, Res, here, root_of, read_at, exec, ref_v, adds_root, loc_of, box_of}
use Rattle.language.specs.Meaning as me
use Rattle.soundness.specs.Trees.{Tree, box_t, hole_t, flat, box_step, Path, child, subtree, loc_step, loc_down}
use Rattle.soundness.specs.Borrows.{Addr, LevelLoan, borrow, at_level, Prefix}
use Rattle.soundness.specs.Invariant.{Entry, kinds, ValidRef, Invariant}
use Rattle.soundness.specs.Frames.{LoansCover, Scope, Frame}
use Rattle.soundness.specs.Preserved.{safe_ok, Safe, AfterExec}
use Rattle.soundness.proofs.Basics.{no_some, some_is, if_some_is, only_is}
use Rattle.soundness.proofs.memory.Paths.{loc_down_step}
use Rattle.soundness.proofs.invariant.Top.{with_root}
use Rattle.soundness.proofs.invariant.Rooting.{root_mid}
use Rattle.soundness.proofs.invariant.Borrows.{owner_of, one_loan, borrow_entry, push_loan, push_copy, valid_ref_read}
use Rattle.soundness.proofs.statics.Exprs.{look_name}
use Rattle.soundness.proofs.statics.Rules.{there_is}
use Rattle.soundness.proofs.frames.Lookup.{NameAt, name_at, one_covered}
use Rattle.soundness.proofs.Safety.{safe_need}
use Rattle.soundness.proofs.matches.Patterns.{scope_more, subtree_down}
use Rattle.soundness.proofs.stmts.Open.{boxed_is, is_box1}
use Rattle.soundness.proofs.statics.StmtRules.{InsideRule, inside_rule}
use Rattle.soundness.proofs.frames.AtName.{BorrowAt, borrow_at, lendable}
use Rattle.soundness.proofs.invariant.Kinds.{ref_type, borrow_fits}

-- one step further down, into a box
loc_down_in : (l : Loc) (q : Path) (t y : Tree) (r w : ℕ) → subtree q t ≡ some (box_t r w y) → loc_down l (q ++ (box_step ∷ [])) t ≡ here r
loc_down_in l [] t y r w e = ap (loc_down l (box_step ∷ [])) (some_is e)
loc_down_in l (j ∷ q) t y r w e = go (if_some_is (child j t) (subtree q) (box_t r w y) e) (λ l2 z ez. loc_down_in l2 q z y r w ez)
  where
    go : (z : Tree) × (child j t ≡ some z) × (subtree q z ≡ some (box_t r w y))
        → ((l2 : Loc) (z : Tree) → subtree q z ≡ some (box_t r w y) → loc_down l2 (q ++ (box_step ∷ [])) z ≡ here r)
        → loc_down l ((j ∷ q) ++ (box_step ∷ [])) t ≡ here r
    go z ih = loc_down_step l j (q ++ (box_step ∷ [])) t z.0 z.1 ∙ ih (loc_step l j t) z.0 z.2

abbrev in_addr : Addr → Addr
in_addr a = record { owner = a.owner; path = a.path ++ (box_step ∷ []) }

-- a reference to a box: what it reads, and the reference to what's in the box
record InBox (ds : List Data) (N : List Entry) (T : List Tree) (s : State) (u : Ty) (a : Addr) (val : Value) : Type 0 where
  box1 : ℕ
  loc : Loc
  place : loc_of val ≡ some loc
  reads_box : (z : Value) × (read_at s loc ≡ some z) × (box_of z ≡ some box1)
  points : ValidRef ds N T u (in_addr a) (ref_v (here box1))

in_box : (ds : List Data) (N : List Entry) (T : List Tree) (s : State) (lx : ℕ) (al : Bool) (u : Ty) (a : Addr) (ls : List LevelLoan) (val : Value)
    → Invariant ds N T s → at_level (kinds N) lx ≡ some (borrow al (box u) a ls) → ValidRef ds N T (box u) a val → InBox ds N T s u a val
in_box ds N T s lx al u a ls val w x-at pt =
    let ow = owner_of (kinds N) w.borrows.anchored lx (borrow al (box u) a ls) a x-at refl in
    let rd = valid_ref_read ds N T s (box u) ow.0 a val w ow.1 pt in
    let bo = is_box1 ds pt.part u pt.typed in
    let lead : subtree a.path pt.whole ≡ some (box_t bo.0 bo.1 bo.2) = pt.leading ∙ ap {B = Option Tree} (λ z. some z) bo.3 in
    record {
      box1 = bo.0;
      loc = loc_down (here pt.root) a.path pt.whole;
      place = ap loc_of pt.value;
      reads_box = (flat pt.part, rd.0, ap (λ z. box_of (flat z)) bo.3);
      points =
          record {
            root = pt.root;
            whole = pt.whole;
            part = bo.2;
            standing = pt.standing;
            holding = pt.holding;
            leading = subtree_down
                a.path box_step pt.whole (box_t bo.0 bo.1 bo.2) bo.2 lead refl;
            typed = bo.5;
            value = ap ref_v
                (sym (loc_down_in (here pt.root) a.path pt.whole bo.2 bo.0 bo.1 lead));
          };
    }

-- let x = inside y
pub inside_step : (q : Prog) (m : Limits) (u : ℕ) (C : List Entry) (ln : List LevelLoan) (g g2 : ch.Env) (d : me.Env) (F : List Entry)
    (T : List Tree) (s : State) (x y : Lexeme) → ch.stmt q g (inside x y) ≡ some g2 → Frame C ln [] g d [] F → Invariant q.datas (F ++ C) T s
    → Safe (AfterExec q C ln g2 d s.under) (exec (suc u) m q d (inside x y) s)
unfolding me.eval
inside_step q m u C ln g g2 d F T s x y e sc w = by_type v.ty refl i1.behind
  where
    N : List Entry
    N = F ++ C

    P : me.Env → State → Type 0
    P = AfterExec q C ln g2 d s.under

    -- what is done with the root of y
    next : ℕ → Res me.Env
    next r = me.need s (read_at s (here r)) (λ z. me.need s (loc_of z) (λ l. me.need s (read_at s l) (λ k. me.need s (box_of k)
        (λ i. me.ok (record { name = x; root = length s.roots } ∷ d) (adds_root s (ref_v (here i)) 0)))))

    i1 : InsideRule g x y g2
    i1 = inside_rule q g x y g2 e

    v : Var
    v = i1.var1

    th : (look g y ≡ some v) × (v.gone ≡ false)
    th = there_is g y v i1.is_there

    y_is : v.name ≡ y
    y_is = look_name g y v th.0

    pl : NameAt q.datas C ln g d [] F T s y v
    pl = name_at q.datas C ln [] g d [] F T s y v sc w th.0

    BoxRef : Bool → Ty → Type 0
    BoxRef al tu = BorrowAt q.datas C ln g v N T s pl.level pl.root al (box tu)

    -- the new reference is on top: it gets a root and its name
    finish : (al : Bool) (tu : Ty) (L : List LevelLoan) (ms : List Loan) (b : BoxRef al tu) → LoansCover (length C) ln g ms L
        → enter g x (ref_type al tu) ms ≡ g2 → (ib : InBox q.datas N T s tu b.addr (ref_v b.loc))
        → Invariant q.datas (borrow_entry al tu (in_addr b.addr) L (ref_v (here ib.box1)) ∷ N) (hole_t ∷ T) s
        → Safe P (me.need s (root_of d y) next)
    finish al tu L ms b cov g_is ib w2 =
        let r = length s.roots in
        let val = ref_v (here ib.box1) in
        let top = borrow_entry al tu (in_addr b.addr) L val in
        safe_need P _ _ _ pl.named
        (safe_need P _ _ _ b.reads_it
        (safe_need P _ _ _ ib.place
        (safe_need P _ _ _ ib.reads_box.1
        (safe_need P _ _ _ ib.reads_box.2
        (safe_ok (record {
          newer = record { name = x; root = r } ∷ [];
          grown = refl;
          F = with_root top r ∷ F;
          T = hole_t ∷ T;
          names = subst (λ z. Scope (length C) ln z (record { name = x; root = r } ∷ d) (with_root top r ∷ F)) g_is
              (scope_more (length C) ln g d F x (ref_type al tu) ms r (with_root top r) i1.is_fresh refl refl
              (borrow_fits al tu (in_addr b.addr) L) cov sc.names);
          invariant = root_mid q.datas [] top val N (hole_t ∷ T) s refl w2;
          under = refl;
        }))))))

    pre : (a : Addr) → Prefix a (in_addr a)
    pre a = (refl, (box_step ∷ [], refl))

    box_of_ref : (al : Bool) (tu : Ty) (b : BoxRef al tu) → InBox q.datas N T s tu b.addr (ref_v b.loc)
    box_of_ref al tu b = in_box q.datas N T s pl.level al tu b.addr b.ls (ref_v b.loc) w b.at_kind b.valid

    -- a shared reference is copied, one step further down; a mut is lent on
    by_ref : (tu : Ty) → v.ty ≡ ref (box tu) → enter g x (ref tu) v.loans ≡ g2 → Safe P (me.need s (root_of d y) next)
    by_ref tu t_is g_is =
        let b = borrow_at q.datas C ln g d [] F T s y v false (box tu) w pl t_is in
        let ib = box_of_ref false tu b in
        finish false tu b.ls v.loans b b.covered g_is ib
        (push_copy q.datas N T s pl.level (box tu) b.addr (in_addr b.addr) b.ls tu (ref_v (here ib.box1)) b.at_kind
        (pre b.addr) ib.points w)

    by_mut : (tu : Ty) → v.ty ≡ mut (box tu) → is_free (all_loans g) y ≡ true → enter g x (mut tu) (loan y true ∷ []) ≡ g2
        → Safe P (me.need s (root_of d y) next)
    by_mut tu t_is free g_is =
        let b = borrow_at q.datas C ln g d [] F T s y v true (box tu) w pl t_is in
        let ib = box_of_ref true tu b in
        let k = borrow true (box tu) b.addr b.ls in
        finish true tu (one_loan pl.level true) (loan y true ∷ []) b (one_covered (length C) ln g y pl.level true pl.levelled) g_is ib
        (push_loan q.datas N T s pl.level k b.addr (in_addr b.addr) true tu (ref_v (here ib.box1)) b.at_kind refl refl
        (pre b.addr)
        (lendable q.datas C ln [] g d [] F T s y pl.level true k b.addr (in_addr b.addr) sc w pl.levelled free b.at_kind refl refl
        (pre b.addr)) ib.points w)

    by_type : (t : Ty) → v.ty ≡ t → goes_in g v x t ≡ some g2 → Safe P (me.need s (root_of d y) next)
    by_type int t_is e1 = absurd (no_some e1)
    by_type (dat k) t_is e1 = absurd (no_some e1)
    by_type (box t) t_is e1 = absurd (no_some e1)
    by_type (ref t) t_is e1 =
        let z = if_some_is (boxed_in t) _ g2 e1 in
        by_ref z.0 (t_is ∙ ap ref (boxed_is t z.0 z.1)) (some_is (only_is _ (some (enter g x (ref z.0) v.loans)) g2 z.2).1)
    by_type (mut t) t_is e1 =
        let z = if_some_is (boxed_in t) _ g2 e1 in
        let c = only_is _ (some (enter g x (mut z.0) (loan v.name true ∷ []))) g2 z.2 in
        by_mut z.0 (t_is ∙ ap mut (boxed_is t z.0 z.1)) (subst (λ k. is_free (all_loans g) k ≡ true) y_is c.0)
        (subst (λ k. enter g x (mut z.0) (loan k true ∷ []) ≡ g2) y_is (some_is c.1))
