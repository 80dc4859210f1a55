-- The steps for x = e and *x = e: the new value goes in, what was there is dropped.
use mathlib.Core.Bool.{true, false}
use mathlib.Core.List.{List, [], ◌∷◌, ◌++◌}
use mathlib.Core.Logic.{inl, inr}
use mathlib.Core.Option.{Option, some}
use mathlib.Core.Path.{◌≡◌, refl, sym, ◌∙◌, ap, subst}
use Prim.Native.Nat.{ℕ, suc}
use native.Mathlib.Omega.{arith}
use lib.ListN.{length}
use Rattle.language.specs.Base.{if_some, Lexeme}
use Rattle.language.specs.Syntax.{Ty, mut, Expr, Data, Prog, store}
use Rattle.language.specs.Checks.{owned, all_loans}
use Rattle.language.specs.Checks as ch
use Rattle.language.specs.Meaning.{Loc, Value, State, Limits, here, read_at, exec, ref_v, write_at, loc_of}
use Rattle.language.specs.Meaning as me
use Rattle.soundness.specs.Trees.{Tree, int_t, con_t, box_t, hole_t, flat, Stored, Typed, field_step, box_step, Path, subtree, replace, loc_down}
use Rattle.soundness.specs.Borrows.{Addr, LevelLoan, Kind, own, borrow, inert, at_level, WellBorrowed, Lent}
use Rattle.soundness.specs.Invariant.{rooted, in_flight, Entry, kinds, Holds, Content, ValidRef, EntryOk, EntriesOk, Invariant}
use Rattle.soundness.specs.Frames.{KindFits, Scope, ValueEntry, Frame}
use Rattle.soundness.specs.Preserved.{Safe, AfterExec, Preserved}
use Rattle.soundness.proofs.Basics.{no_some, some_is, true_false}
use Rattle.soundness.proofs.memory.Typing.{typed_replace, subtree_replace}
use Rattle.soundness.proofs.loans.Free.{none_below, pop_borrows}
use Rattle.soundness.proofs.invariant.Levels.{anchored_under, entry_back, level_kinds, entry_ok_mid, entries_length, EntryAt, entry_at}
use Rattle.soundness.proofs.invariant.Top.{reads}
use Rattle.soundness.proofs.memory.Reads.{reads_way}
use Rattle.soundness.proofs.memory.Writes.{Wrote, writes}
use Rattle.soundness.proofs.invariant.Middle.{level_mid}
use Rattle.soundness.proofs.invariant.Replace.{RefsStay, removed_entry, replace_at}
use Rattle.soundness.proofs.invariant.Values.{owned_top}
use Rattle.soundness.proofs.invariant.Borrows.{owner_of}
use Rattle.soundness.proofs.frames.Free.{not_lent_by_name, free_not_among}
use Rattle.soundness.proofs.frames.Levels.{name_entry}
use Rattle.soundness.proofs.frames.Split.{split_level, Cut, split_trees}
use Rattle.soundness.proofs.Safety.{safe_then, safe_need}
use Rattle.soundness.proofs.statics.StmtRules.{store_rule}
use Rattle.soundness.proofs.stmts.Assign.{drop_old}

-- a value on top goes in at the place of a free mut
pub record Put (ds : List Data) (N : List Entry) (y : Tree) (s : State) (u : Ty) (w : Value) : Type 0 where
  pub loc : Loc
  pub old : Tree
  pub s2 : State
  pub T : List Tree
  pub place : w ≡ ref_v loc
  pub reads_old : read_at s loc ≡ some (flat old)
  pub typed : Typed ds old u
  pub writes_new : write_at s loc (flat y) ≡ some s2
  pub invariant : Invariant ds (removed_entry old false u ∷ N) (old ∷ T) s2
  pub under : s2.under ≡ s.under

subtree_hole : (ds : List Data) (way : Path) (part : Tree) (u : Ty) → subtree way hole_t ≡ some part → Typed ds part u → ⊥
subtree_hole ds [] part u e ty = subst (λ z. Typed ds z u) (sym (some_is e)) ty
subtree_hole ds (field_step i ∷ is) part u e ty = no_some e
subtree_hole ds (box_step ∷ is) part u e ty = no_some e

pub put_in : (ds : List Data) (top : Entry) (N : List Entry) (y : Tree) (T : List Tree) (s : State) (u : Ty) (a : Addr) (ls : List LevelLoan) (w : Value)
    (lx : ℕ) → top.at ≡ in_flight (flat y) → Stored s.roots y → Typed ds y u → owned u ≡ true → at_level (kinds N) lx ≡ some (borrow true u a ls)
    → (Lent (kinds N) lx false → ⊥) → ValidRef ds N T u a w → Invariant ds (top ∷ N) (y ∷ T) s → Put ds N y s u w
put_in ds top N y T s u a ls w lx t-at st-y ty-y ow x-at free pt wo = record {
  loc = loc_down (here r) a.path tr;
  old = old;
  s2 = wr.s2;
  T = cu.T1 ++ (replace a.path y tr ∷ cu.T2);
  place = pt.value ∙ ap (λ z. ref_v (loc_down (here r) a.path z)) (sym tr_is);
  reads_old = rd;
  typed = pt.typed;
  writes_new = wr.is;
  invariant = subst (λ z. Invariant ds (removed_entry old false u ∷ z) (old ∷ (cu.T1 ++ (replace a.path y tr ∷ cu.T2))) wr.s2) (sym sp.2)
      (replace_at ds top y N1 ex N2 cu.T1 tr cu.T2 s r tx a.path old ex.gone false u t-at st-y ex_at eb.2 cu.len1
      cu.len2 lead wr content (inl pt.typed) ow kept w2);
  under = wr.under;
}
  where
    sn : WellBorrowed (kinds N)
    sn = pop_borrows top.kind (kinds N) wo.borrows

    own1 : (t : Ty) × (at_level (kinds N) a.owner ≡ some (own t))
    own1 = owner_of (kinds N) sn.anchored lx (borrow true u a ls) a x-at refl

    tx : Ty
    tx = own1.0

    eb : (e : Entry) × (at_level N a.owner ≡ some e) × (e.kind ≡ own tx)
    eb = entry_back N a.owner (own tx) own1.1

    ex : Entry
    ex = eb.0

    sp : (N1 : List Entry) × (N2 : List Entry) × (N ≡ N1 ++ (ex ∷ N2)) × (length N2 ≡ a.owner)
    sp = split_level N a.owner ex eb.1

    N1 : List Entry
    N1 = sp.0

    N2 : List Entry
    N2 = sp.1

    r : ℕ
    r = pt.root

    st : EntryAt ds s.roots N T a.owner ex
    st = entry_at ds s.roots N T a.owner ex wo.entries.1 eb.1

    ex_at : ex.at ≡ rooted r 0
    ex_at = some_is (sym st.place ∙ pt.standing)

    w1 : Invariant ds (top ∷ (N1 ++ (ex ∷ N2))) (y ∷ T) s
    w1 = subst (λ z. Invariant ds (top ∷ z) (y ∷ T) s) sp.2 wo

    cu : Cut N1 N2 T
    cu = split_trees N1 ex N2 T (entries_length ds s.roots (N1 ++ (ex ∷ N2)) T w1.entries.1)

    tr : Tree
    tr = cu.tree

    w2 : Invariant ds (top ∷ (N1 ++ (ex ∷ N2))) (y ∷ (cu.T1 ++ (tr ∷ cu.T2))) s
    w2 = subst (λ z. Invariant ds (top ∷ (N1 ++ (ex ∷ N2))) (y ∷ z) s) cu.is w1

    tr_is : tr ≡ pt.whole
    tr_is =
        some_is (sym (level_mid cu.T1 tr cu.T2) ∙ ap (λ z. at_level z (length cu.T2)) (sym cu.is) ∙ ap (at_level T)
        (cu.len2 ∙ sp.3) ∙ pt.holding)

    old : Tree
    old = pt.part

    lead : subtree a.path tr ≡ some old
    lead = ap (subtree a.path) tr_is ∙ pt.leading

    f_ex : EntryOk ds s.roots (rooted r 0) ex.gone (own tx) tr N2 cu.T2
    f_ex =
        subst (λ z. EntryOk ds s.roots z ex.gone (own tx) tr N2 cu.T2) ex_at
        (subst (λ z. EntryOk ds s.roots ex.at ex.gone z tr N2 cu.T2) eb.2
        (entry_ok_mid ds s.roots N1 cu.T1 ex N2 tr cu.T2 cu.len1 w2.entries.1))

    rd : read_at s (loc_down (here r) a.path tr) ≡ some (flat old)
    rd = reads_way s (here r) a.path tr old lead f_ex.1 (reads s r (flat tr) 0 f_ex.0)

    wr : Wrote s (loc_down (here r) a.path tr) (flat y)
    wr = writes s (loc_down (here r) a.path tr) (flat y) (flat old) rd

    whole : Content ds ex.gone tx tr → Content ds ex.gone tx (replace a.path y tr)
    whole (inl ty) = inl (typed_replace ds a.path tr y old tx u lead ty pt.typed ty-y)
    whole (inr g) = absurd (subtree_hole ds a.path old u (ap (subtree a.path) (sym g.1) ∙ lead) pt.typed)

    content : Content ds ex.gone tx (replace a.path y tr)
    content = whole f_ex.3

    kept : RefsStay ds r a.path tr y ex ex_at ex.gone N2 cu.T2 cu.len2 N1
    kept j al t b ms part at_j cell lead2 ty = subtree_replace ds (here r) a.path b.path tr y old part u t lead pt.typed ty-y
        (λ bel. none_below (kinds N) sn.exclusivity lx (borrow true u a ls) a x-at refl refl free j (borrow al t b ms) b
        (ap (λ z. at_level (kinds z) j) sp.2 ∙ at_j) refl (sym sp.3 ∙ sym cell) bel) lead2 ty

pub typed_there : (ds : List Data) (x : Tree) (t : Ty) → Typed ds x t → me.there (flat x) ≡ some (flat x)
typed_there ds (int_t k) t ty = refl
typed_there ds (con_t k ts) t ty = refl
typed_there ds (box_t r k y) t ty = refl
typed_there ds hole_t t ty = absurd ty

-- what a mut's name holds
pub record MutAt (ds : List Data) (N : List Entry) (T : List Tree) (s : State) (lx root : ℕ) (u : Ty) : Type 0 where
  pub addr : Addr
  pub ls : List LevelLoan
  pub val : Value
  pub shaped : at_level (kinds N) lx ≡ some (borrow true u addr ls)
  pub reads_it : read_at s (here root) ≡ some val
  pub points : ValidRef ds N T u addr val

pub mut_at : (ds : List Data) (N : List Entry) (T : List Tree) (s : State) (lx root : ℕ) (u : Ty) (e : Entry) → KindFits (mut u) e.kind
    → e.at ≡ rooted root 0 → at_level N lx ≡ some e → EntriesOk ds s.roots N T → MutAt ds N T s lx root u
mut_at ds N T s lx root u e su e-at at1 fi = go e.kind su (level_kinds N lx e at1) st.ok_entry
  where
    st : EntryAt ds s.roots N T lx e
    st = entry_at ds s.roots N T lx e fi at1

    go : (sh : Kind) → KindFits (mut u) sh → at_level (kinds N) lx ≡ some sh → EntryOk ds s.roots e.at e.gone sh st.tree N T
        → MutAt ds N T s lx root u
    go (own t) k a f = absurd (true_false (sym k.1 ∙ ap owned (sym k.0)))
    go (borrow true t b ls) k a f =
        let t_is : u ≡ t = cc in
        record {
          addr = b;
          ls = ls;
          val = f.1.0;
          shaped = a ∙ ap {B = Option Kind} (λ z. some (borrow true z b ls)) (sym t_is);
          reads_it = reads s root f.1.0 0 (subst (λ z. Holds s.roots z f.1.0) e-at f.1.1);
          points = subst (λ z. ValidRef ds N T z b f.1.0) (sym t_is) f.1.2;
        }
    go (borrow false t b ls) k a f = absurd (let z : ◌≡◌ {A = ℕ} 0 1 = cc in omega arith)
    go inert k a f = absurd k

-- *x = e
pub store_step : (q : Prog) (m : Limits) (u : ℕ) → Preserved q m u
    → (C : List Entry) (ln : List LevelLoan) (g g2 : ch.Env) (d : me.Env) (F : List Entry) (T : List Tree) (s : State) (x : Lexeme) (e1 : Expr)
    → ch.stmt q g (store x e1) ≡ some g2 → Frame C ln [] g d [] F → Invariant q.datas (F ++ C) T s
    → Safe (AfterExec q C ln g2 d s.under) (exec (suc u) m q d (store x e1) s)
unfolding me.eval
store_step q m u h C ln g g2 d F T s x e1 e sc w =
    let i = store_rule q g x e1 g2 e in
    let g1 = i.result.env in
    let ty = i.target in
    let P = AfterExec q C ln g2 d s.under in
    safe_then P (h.eval_ok C ln [] g d [] F T s e1 i.result i.is_expr sc w)
    (λ v t a. (let fl : ValueEntry v ty a.top = subst (λ k. ValueEntry v k a.top) i.same_type a.value_entry in
    let o = owned_top q.datas a.top (a.F ++ C) a.T t v ty i.is_owned fl a.invariant in
    let w2 : Invariant q.datas (a.top ∷ (a.F ++ C)) (o.tree ∷ o.rest) t
    = subst (λ k. Invariant q.datas (a.top ∷ (a.F ++ C)) k t) o.trees a.invariant in
    let sc1 : Frame C ln [] g1 d [] a.F = record { names = a.names; above = λ l j. absurd j; under = sc.under } in
    let en = name_entry C ln g1 d a.F x i.var1 a.names i.is_var in
    let mu = mut_at q.datas (a.F ++ C) o.rest t en.level en.root ty en.en
    (subst (λ k. KindFits k en.en.kind) i.is_mut en.type) en.placed en.stands w2.entries.1 in
    let not-lent = not_lent_by_name C ln [] g1 d [] a.F x en.level false sc1 (anchored_under a.F C w2.borrows.anchored.1)
    en.levelled (free_not_among (all_loans g1) x i.free) in
    let pu = put_in q.datas a.top (a.F ++ C) o.tree o.rest t ty mu.addr mu.ls mu.val en.level
    (fl.place ∙ ap in_flight o.value) o.stored o.typed i.is_owned mu.shaped not-lent mu.points w2 in
    safe_need P _ _ _ en.named
    (safe_need P _ _ _ mu.reads_it
    (safe_need P _ _ _ (ap loc_of pu.place)
    (safe_need P _ _ _ (ap (λ z. if_some z me.there) pu.reads_old ∙ typed_there q.datas pu.old ty pu.typed)
    (safe_need P _ _ _ (ap (write_at t pu.loc) o.value ∙ pu.writes_new)
    (drop_old q m u h C ln g2 d a.F (pu.old ∷ pu.T) pu.s2 s.under (removed_entry pu.old false ty) (flat pu.old) refl
    (pu.under ∙ a.under) (subst (λ k. Scope (length C) ln k d a.F) i.behind a.names) pu.invariant)))))))
