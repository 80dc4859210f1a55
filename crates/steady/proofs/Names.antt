-- At a name of the frame: what stands there, and that nobody of use points into it if it is free.
use mathlib.Core.Bool.{true, false}
use mathlib.Core.List.{List, [], ◌∷◌, ◌++◌}
use mathlib.Core.Option.{some}
use mathlib.Core.Path.{◌≡◌, sym, ◌∙◌, ap, subst}
use Prim.Native.Nat.{ℕ, ◌≤◌}
use native.Mathlib.Omega.{arith}
use lib.ListN.{length}
use Rattle.language.specs.Base.{Lexeme, at_place}
use Rattle.language.specs.Syntax.{Ty, Data}
use Rattle.language.specs.Checks.{Loan, Var, owned, look, is_free, all_loans}
use Rattle.language.specs.Checks as ch
use Rattle.language.specs.Meaning.{Loc, State, here, read_at, ref_v, loc_of}
use Rattle.language.specs.Meaning as me
use Rattle.soundness.specs.Trees.{Tree, flat, tree_sum, Stored, Typed, subtree, loc_down, StrictlyBelow}
use Rattle.soundness.specs.Borrows.{Addr, LevelLoan, own, borrow, at_level}
use Rattle.soundness.specs.Invariant.{rooted, Entry, kinds, places, ValidRef, EntryOk, Invariant}
use Rattle.soundness.specs.Frames.{name_level, Frame}
use Rattle.soundness.specs.Borrows.{In, loans_of}
use Rattle.soundness.proofs.Basics.{some_is}
use Rattle.soundness.proofs.memory.Paths.{mark, mark_self}
use Rattle.soundness.proofs.invariant.Levels.{not_gone}
use Rattle.soundness.proofs.invariant.Kinds.{owned_kind}
use Rattle.soundness.proofs.invariant.Top.{reads}
use Rattle.soundness.proofs.frames.Lookup.{NameAt}
use Rattle.soundness.proofs.frames.References.{none_into_free, none_below_free}
use Rattle.simulation.specs.Borrows.{Inside, Clear, Unseen}
use Rattle.steady.proofs.Sums.{StandsAt, one_level, once_at}
use Rattle.steady.proofs.Apart.{inside_below}
use Rattle.steady.proofs.Watch.{Watch}
use Rattle.steady.proofs.Pointing.{Pointing, clear_by, unseen_by, pointing_stands}

-- the frame with an owned value in flight above it
pub frame_own : (C : List Entry) (ln : List LevelLoan) (g : ch.Env) (d : me.Env) (F : List Entry) (e : Entry) (t : Ty) → e.kind ≡ own t
    → Frame C ln [] g d [] F → Frame C ln [] g d (e ∷ []) F
frame_own C ln g d F e t k_is sc = record {
  names = sc.names;
  above = λ l i. absurd (subst (λ k. In l (loans_of k ++ [])) k_is i);
  under = sc.under;
}

pub name_stands : (ds : List Data) (C : List Entry) (ln : List LevelLoan) (g : ch.Env) (d : me.Env) (H F : List Entry) (T : List Tree) (s : State)
    (x : Lexeme) (v : Var) (n : NameAt ds C ln g d H F T s x v) → StandsAt (H ++ (F ++ C)) T n.level n.root
name_stands ds C ln g d H F T s x v n = record {
  place = rooted n.root 0;
  tree = n.stands.tree;
  placed = n.at_root;
  holds = n.stands.holds;
  counts = (let c = mark_self n.root 0 in omega arith);
}

-- into a free name that owns nobody points: to no root that stands at its level
pub free_unseen : (ds : List Data) (C : List Entry) (ln : List LevelLoan) (held : List Loan) (g : ch.Env) (d : me.Env) (H F : List Entry)
    (T : List Tree) (s : State) (x : Lexeme) (v : Var) (D hs : List ℕ) (ls : List Loc) (r : ℕ) → Frame C ln held g d H F
    → Invariant ds (H ++ (F ++ C)) T s → Watch (H ++ (F ++ C)) D hs ls → look g x ≡ some v → owned v.ty ≡ true
    → is_free (held ++ all_loans g) x ≡ true → (n : NameAt ds C ln g d H F T s x v) → StandsAt (H ++ (F ++ C)) T n.level r
    → Unseen hs ls s.roots r
free_unseen ds C ln held g d H F T s x v D hs ls r fr w wa lk ow free n st =
    unseen_by ds (H ++ (F ++ C)) T s D hs ls n.level r w wa st
    (λ j al t a ms at_j own1. none_into_free ds C ln held g d H F T s x v n.level fr w lk ow free n.levelled j al t a ms at_j own1)

-- what a name owns that isn't gone
pub record OwnedHere (ds : List Data) (s : State) (r : ℕ) (t : Ty) (y : Tree) : Type 0 where
  pub lives : at_place s.roots r ≡ some (record { live = true; val = flat y; words = 0 })
  pub reads_it : read_at s (here r) ≡ some (flat y)
  pub stored : Stored s.roots y
  pub typed : Typed ds y t

pub owned_here : (ds : List Data) (C : List Entry) (ln : List LevelLoan) (g : ch.Env) (d : me.Env) (H F : List Entry) (T : List Tree) (s : State)
    (x : Lexeme) (v : Var) (n : NameAt ds C ln g d H F T s x v) → owned v.ty ≡ true → v.gone ≡ false
    → OwnedHere ds s n.root v.ty n.stands.tree
owned_here ds C ln g d H F T s x v n ow ng =
    let f : EntryOk ds s.roots (rooted n.root 0) v.gone (own v.ty) n.stands.tree (H ++ (F ++ C)) T = subst
    (λ k. EntryOk ds s.roots (rooted n.root 0) v.gone k n.stands.tree (H ++ (F ++ C)) T)
    (owned_kind v.ty n.en.kind ow n.type) n.ok_at_root in
    record {
      lives = f.0;
      reads_it = reads s n.root (flat n.stands.tree) 0 f.0;
      stored = f.1;
      typed = not_gone ds v.gone v.ty n.stands.tree ng f.3;
    }

-- strictly inside the place of a free mut nobody points
pub below_free : (ds : List Data) (C : List Entry) (ln : List LevelLoan) (held : List Loan) (g : ch.Env) (d : me.Env) (H F : List Entry)
    (T : List Tree) (s : State) (x : Lexeme) (lx : ℕ) (u : Ty) (a : Addr) (ms : List LevelLoan) (l : Loc) (D hs : List ℕ) (ls : List Loc)
    → Frame C ln held g d H F → Invariant ds (H ++ (F ++ C)) T s → Watch (H ++ (F ++ C)) D hs ls → name_level (length C) g x ≡ some lx
    → is_free (held ++ all_loans g) x ≡ true → at_level (kinds (H ++ (F ++ C))) lx ≡ some (borrow true u a ms)
    → ValidRef ds (H ++ (F ++ C)) T u a (ref_v l) → Clear hs ls s.roots l.root l.path
below_free ds C ln held g d H F T s x lx u a ms l D hs ls fr w wa lv free at_x pt = clear_by ds N T s D hs ls l.root l.path w wa hit
  where
    N : List Entry
    N = H ++ (F ++ C)

    mine : Pointing ds N T l
    mine = record { level = lx; alone = true; type = u; addr = a; loans = ms; at_kind = at_x; valid = pt }

    hit : (l2 : Loc) → Pointing ds N T l2 → l2.root ≡ l.root → Inside l.path l2.path → ⊥
    hit l2 p rt ins =
        none_below_free ds C ln held g d H F T s x lx u a ms fr w lv free at_x p.level p.alone p.type p.addr p.loans p.at_kind
        same_owner below
      where
        pt2 : ValidRef ds N T p.type p.addr (ref_v l2)
        pt2 = p.valid

        same_owner : a.owner ≡ p.addr.owner
        same_owner =
            one_level ds N T s a.owner p.addr.owner l.root w (pointing_stands ds N T l mine)
            (subst (StandsAt N T p.addr.owner) rt (pointing_stands ds N T l2 p))

        whole_is : pt2.whole ≡ pt.whole
        whole_is = some_is (sym pt2.holding ∙ ap (at_level T) (sym same_owner) ∙ pt.holding)

        root_is : pt2.root ≡ pt.root
        root_is =
            let e : rooted pt2.root 0 ≡ rooted pt.root 0 = some_is
            (sym pt2.standing ∙ ap (at_level (places N)) (sym same_owner) ∙ pt.standing) in
            let k : pt2.root ≡ pt.root = cc in k

        l_is : l ≡ loc_down (here pt.root) a.path pt.whole
        l_is = some_is (ap loc_of pt.value)

        l2_is : l2 ≡ loc_down (here pt.root) p.addr.path pt.whole
        l2_is =
            some_is (ap loc_of pt2.value) ∙ ap (λ z. loc_down (here z) p.addr.path pt2.whole) root_is ∙ ap
            (loc_down (here pt.root) p.addr.path) whole_is

        once : (r : ℕ) → tree_sum (mark r) pt.whole ≤ 1
        once r = let o = once_at ds N T s a.owner r (rooted pt.root 0) pt.whole w pt.standing pt.holding in omega arith

        out : tree_sum (mark pt.root) pt.whole ≡ 0
        out =
            let o = once_at ds N T s a.owner pt.root (rooted pt.root 0) pt.whole w pt.standing pt.holding in
            let c = mark_self pt.root 0 in omega arith

        below : StrictlyBelow a.path p.addr.path
        below =
            inside_below (here pt.root) a.path p.addr.path pt.whole pt.part pt2.part pt.leading
            (ap (subtree p.addr.path) (sym whole_is) ∙ pt2.leading) once out
            (sym (ap (λ z. z.root) l2_is) ∙ rt ∙ ap (λ z. z.root) l_is) (
              ins.0,
              (
                ins.1.0,
                sym (ap (λ z. z.path) l2_is) ∙ ins.1.1 ∙ ap (λ z. z.path ++ (ins.0 ∷ ins.1.0)) l_is,
              ),
            )
