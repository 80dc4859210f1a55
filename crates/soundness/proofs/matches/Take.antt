-- A value taken apart: its name is empty and gone, its parts are names of their own.
use mathlib.Core.Bool.{true, false}
use mathlib.Core.List.{List, [], ◌∷◌, ◌++◌}
use mathlib.Core.Logic.{inl, inr}
use mathlib.Core.Option.{Option, some}
use mathlib.Core.Path.{◌≡◌, refl, sym, ◌∙◌, ap, subst}
use native.Mathlib.Omega.{arith}
use lib.ListN.{length}
use Rattle.language.specs.Base.{Lexeme}
use Rattle.language.specs.Syntax.{Ty, dat, Data, Prog, take}
use Rattle.language.specs.Checks.{Var, Matched, owned, look, fresh, set_gone, enter, is_free, all_loans, bind_all, data_named}
use Rattle.language.specs.Checks as ch
use Rattle.language.specs.Meaning.{Loc, Value, con_v, Values, Root, State, here, list_of, read_at, place_of, shape_of, hole, adds_root, write_at}
use Rattle.language.specs.Meaning.{shape}
use Rattle.language.specs.Meaning as me
use Rattle.soundness.specs.Trees.{Tree, int_t, con_t, box_t, hole_t, Trees, nil_t, cons_t, flat, flats, Stored, Typed, TypedAll}
use Rattle.soundness.specs.Borrows.{LevelLoan, own}
use Rattle.soundness.specs.Invariant.{Entry, kinds, Content, EntriesOk, Invariant}
use Rattle.soundness.specs.Frames.{Scope, Frame, owned_entry}
use Rattle.soundness.specs.Preserved.{Scrutinee}
use Rattle.soundness.proofs.Basics.{no_some, some_is, only_is, true_false}
use Rattle.soundness.proofs.loans.Free.{push_own, pop_borrows}
use Rattle.soundness.proofs.invariant.Levels.{borrows_under}
use Rattle.soundness.proofs.memory.Sizes.{typed_owned}
use Rattle.soundness.proofs.invariant.Top.{with_root}
use Rattle.soundness.proofs.invariant.Apart.{owned_entries, trees_of, parts_borrows, parts_sum, open_con}
use Rattle.soundness.proofs.invariant.Replace.{removed_entry}
use Rattle.soundness.proofs.invariant.Rooting.{root_mid}
use Rattle.soundness.proofs.statics.Accepted.{okay}
use Rattle.soundness.proofs.statics.Alternatives.{home_is}
use Rattle.soundness.proofs.frames.Moves.{Swapped, move_name}
use Rattle.soundness.proofs.matches.Patterns.{Bound, bound_more, bound_none, scope_more}
use Rattle.soundness.proofs.matches.View.{Looked}

-- what's under the parts may change
parts_fine : (ds : List Data) (rs : List Root) (xs : Trees) (ts : List Ty) (N M : List Entry) (T U : List Tree) → TypedAll ds xs ts
    → (EntriesOk ds rs N T → EntriesOk ds rs M U) → EntriesOk ds rs (owned_entries xs ts ++ N) (trees_of xs ++ T)
    → EntriesOk ds rs (owned_entries xs ts ++ M) (trees_of xs ++ U)
parts_fine ds rs nil_t [] N M T U ty g f = g f
parts_fine ds rs nil_t (t ∷ ts) N M T U ty g f = absurd ty
parts_fine ds rs (cons_t x xs) [] N M T U ty g f = absurd ty
parts_fine ds rs (cons_t x xs) (t ∷ ts) N M T U ty g f = (f.0, parts_fine ds rs xs ts N M T U ty.1 g f.1)

-- the first part goes below the others
part_down : (ds : List Data) (y : Tree) (t : Ty) (ys : Trees) (ts : List Ty) (M : List Entry) (U : List Tree) (s : State) → TypedAll ds ys ts
    → Invariant ds (owned_entry y t ∷ (owned_entries ys ts ++ M)) (y ∷ (trees_of ys ++ U)) s
    → Invariant ds (owned_entries ys ts ++ (owned_entry y t ∷ M)) (trees_of ys ++ (y ∷ U)) s
part_down ds y t ys ts M U s ty w = record {
  borrows =
      parts_borrows ds ys ts (owned_entry y t ∷ M)
      (push_own (kinds M) (borrows_under (owned_entries ys ts) M (pop_borrows (own t) (kinds (owned_entries ys ts ++ M)) w.borrows)) t);
  entries = parts_fine ds s.roots ys ts M (owned_entry y t ∷ M) U (y ∷ U) ty (λ f. (w.entries.0, f)) w.entries.1;
  sums =
      λ f. (let a = w.sums f in let a1 = parts_sum ds f ys ts M U ty in let a2 = parts_sum ds f ys ts (owned_entry y t ∷ M)
      (y ∷ U) ty in omega arith);
  counted = w.counted;
}

-- each part gets a root and a name, the first first
pub take_bound : (ds : List Data) (C : List Entry) (ln : List LevelLoan) (xs : List Lexeme) (ts : List Ty) (rest : Trees) (g bound : ch.Env)
    (d : me.Env) (F : List Entry) (T : List Tree) (s : State) → bind_all take [] g xs ts ≡ some bound → TypedAll ds rest ts
    → Scope (length C) ln g d F → Invariant ds (owned_entries rest ts ++ (F ++ C)) (trees_of rest ++ T) s
    → Bound ds C ln g bound d xs (list_of (flats rest)) s
take_bound ds C ln [] [] nil_t g bound d F T s e ty mt wo = bound_none ds C ln g bound d F T s (some_is e) mt wo
take_bound ds C ln [] [] (cons_t y ys) g bound d F T s e ty mt wo = absurd ty
take_bound ds C ln [] (t ∷ ts) rest g bound d F T s e ty mt wo = absurd (no_some e)
take_bound ds C ln (x ∷ xs) [] rest g bound d F T s e ty mt wo = absurd (no_some e)
take_bound ds C ln (x ∷ xs) (t ∷ ts) nil_t g bound d F T s e ty mt wo = absurd ty
take_bound ds C ln (x ∷ xs) (t ∷ ts) (cons_t y ys) g bound d F T s e ty mt wo =
    let fr = only_is (fresh g x) (bind_all take [] (enter g x t []) xs ts) bound e in
    let e1 : Entry = with_root (owned_entry y t) (length s.roots) in
    let w1 = part_down ds y t ys ts (F ++ C) T s ty.1 wo in
    let w2 : Invariant ds (owned_entries ys ts ++ ((e1 ∷ F) ++ C)) (trees_of ys ++ (y ∷ T)) (adds_root s (flat y) 0) = root_mid ds
    (owned_entries ys ts) (owned_entry y t) (flat y) (F ++ C) (trees_of ys ++ (y ∷ T)) s refl w1 in
    bound_more ds C ln g bound d x t [] xs (flat y) (list_of (flats ys)) s
    (take_bound ds C ln xs ts ys (enter g x t []) bound (record { name = x; root = length s.roots } ∷ d) (e1 ∷ F) (y ∷ T) (adds_root s (flat y) 0)
    fr.1 ty.1
    (scope_more (length C) ln g d F x t [] (length s.roots) e1 fr.0 refl refl (refl, typed_owned ds y t ty.0) (λ l i. absurd i) mt) w2)

-- a match that takes
pub looked_take : (q : Prog) → ch.accepts q ≡ true
    → (C : List Entry) (ln : List LevelLoan) (g : ch.Env) (d : me.Env) (F : List Entry) (T : List Tree) (s : State) (x : Lexeme) (v : Var)
    (D : Lexeme) (mm : Matched) (l : Loc) (k : Lexeme) (vs : Values) → Frame C ln [] g d [] F → look g x ≡ some v → v.gone ≡ false → v.ty ≡ dat D
    → is_free (all_loans g) x ≡ true → data_named q.datas D ≡ some mm.data1 → mm.loans ≡ [] → mm.env ≡ set_gone true g x
    → Scrutinee d x l (shape k vs) s → Invariant q.datas (F ++ C) T s → Looked q C ln mm d take l k vs s
looked_take q o C ln g d F T s x v D mm l k vs sc lo ng ty_is fr dn ls-is env_is lk wo =
    by_tree sw.old refl (whole1 (subst (λ z. Content q.datas v.gone z sw.old) ty_is sw.content))
  where
    sw : Swapped q.datas C ln g d [] x v true hole_t s
    sw = move_name q.datas C ln [] g d [] F x v T s sc lo (ap owned ty_is) fr wo

    whole1 : Content q.datas v.gone (dat D) sw.old → Typed q.datas sw.old (dat D)
    whole1 (inl y) = y
    whole1 (inr y) = absurd (true_false (sym y.0 ∙ ng))

    by_tree : (old : Tree) → sw.old ≡ old → Typed q.datas old (dat D) → Looked q C ln mm d take l k vs s
    by_tree (int_t j) old-is ty = absurd ty
    by_tree (box_t r w t) old-is ty = absurd ty
    by_tree hole_t old-is ty = absurd ty
    by_tree (con_t k1 ts) old-is ty =
        let root_is : lk.root ≡ sw.root = some_is (sym lk.named ∙ sw.named) in
        let rd : read_at s (here sw.root) ≡ some (con_v k1 (flats ts)) = sw.reads_old ∙ ap {B = Option Value} (λ z. some (flat z)) old-is in
        let val_is : lk.val ≡ con_v k1 (flats ts) = some_is (sym lk.reads ∙ ap (λ z. read_at s (here z)) root_is ∙ rd) in
        let l_is : l ≡ here sw.root = lk.place ∙ ap (place_of lk.root) val_is ∙ ap here root_is in
        let seen_is : lk.seen ≡ con_v k1 (flats ts) = some_is (sym lk.sees ∙ ap (read_at s) l_is ∙ rd) in
        let sh_is : shape k1 (flats ts) ≡ shape k vs = some_is (sym (ap shape_of seen_is) ∙ lk.shaped) in
        let k_is : k1 ≡ k = cc in
        let vs_is : flats ts ≡ vs = cc in
        let w1 : Invariant q.datas (removed_entry (con_t k1 ts) v.gone v.ty ∷ (sw.F ++ C)) (con_t k1 ts ∷ sw.T) sw.s2 = subst
        (λ z. Invariant q.datas (removed_entry z v.gone v.ty ∷ (sw.F ++ C)) (z ∷ sw.T) sw.s2) old-is sw.invariant in
        let w2 = open_con q.datas (removed_entry (con_t k1 ts) v.gone v.ty) (sw.F ++ C) k1 ts ty.0.ctor1.fields sw.T sw.s2
        (con_v k1 (flats ts)) refl (subst (Stored sw.s2.roots) old-is sw.stored) ty.3 w1 in
        record {
          ctor1 = ty.0.ctor1;
          is_ctor =
              home_is q.datas k D ty.0 mm.data1 (okay q o).data_names
              (subst (λ z. ch.home_of q.datas z ≡ some ty.0) k_is ty.1) ty.2 dn;
          t = sw.s2;
          takes = ap (λ z. write_at s z hole) l_is ∙ sw.writes_new;
          under = sw.under;
          binds = λ xs bound e. subst (λ z. Bound q.datas C ln mm.env bound d xs (list_of z) sw.s2) vs_is
              (take_bound q.datas C ln xs ty.0.ctor1.fields ts mm.env bound d sw.F sw.T sw.s2
              (subst (λ z. bind_all take z mm.env xs ty.0.ctor1.fields ≡ some bound) ls-is e) ty.3
              (subst (λ z. Scope (length C) ln z d sw.F) (sym env_is) sw.names) w2);
        }
