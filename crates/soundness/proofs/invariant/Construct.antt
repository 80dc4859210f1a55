-- New values: parts in flight become a constructor; a value in flight gets into a box.
use mathlib.Core.Bool.{Bool, true, false, ◌&&◌}
use mathlib.Core.List.{List, [], ◌∷◌, ◌++◌}
use mathlib.Core.Logic.{inl}
use mathlib.Core.Option.{some}
use mathlib.Core.Path.{◌≡◌, refl, sym, ◌∙◌, ap, subst}
use Prim.Native.Nat.{ℕ, zero, suc, ◌+◌, ◌≤◌}
use native.Mathlib.Omega.{arith}
use lib.Dec.{eqb, eqb→eq, eqb_refl}
use lib.ListN.{length}
use Rattle.language.specs.Base.{choose, from_option, Lexeme, each_of}
use Rattle.language.specs.Syntax.{Ty, int, dat, box, ref, mut, Data, Prog}
use Rattle.language.specs.Checks.{home_of, owned, size, size_of, Home}
use Rattle.language.specs.Checks as ch
use Rattle.language.specs.Meaning.{Value, Values, Root, State, append, nil_v, cons_v, Class, with_classes, adds_root, count_in, words_of}
use Rattle.language.specs.Says.{boxes}
use Rattle.soundness.specs.Trees.{Tree, int_t, con_t, box_t, hole_t, Trees, nil_t, cons_t, flat, flats, tree_sum, trees_sum, Stored, StoredAll}
use Rattle.soundness.specs.Trees.{words_in, Typed, TypedAll}
use Rattle.soundness.specs.Invariant.{in_flight, Entry, kinds, EntriesOk, place_sum, stack_sum, in_use_of, of_size, is_box, Invariant}
use Rattle.soundness.specs.Frames.{Arguments, no_args, snoc_arg, owned_entry}
use Rattle.soundness.proofs.Basics.{and_left, and_right}
use Rattle.soundness.proofs.memory.Paths.{mark}
use Rattle.soundness.proofs.loans.Free.{push_own, pop_borrows}
use Rattle.soundness.proofs.invariant.Levels.{borrows_under}
use Rattle.soundness.proofs.memory.Sizes.{typed_owned, words_pos}
use Rattle.soundness.proofs.memory.Roots.{sum_push, at_push, at_last, sum_high}
use Rattle.soundness.proofs.invariant.Elsewhere.{Elsewhere, stored_else, entries_ok_else}
use Rattle.soundness.proofs.invariant.Values.{owned_value}

-- one more part behind the others
abbrev snoc : Trees → Tree → Trees
snoc nil_t x = cons_t x nil_t
snoc (cons_t y ys) x = cons_t y (snoc ys x)

flats_snoc : (xs : Trees) (x : Tree) → append (flats xs) (flat x) ≡ flats (snoc xs x)
flats_snoc nil_t x = refl
flats_snoc (cons_t y ys) x = ap (cons_v (flat y)) (flats_snoc ys x)

typed_all_snoc : (ds : List Data) (xs : Trees) (ts : List Ty) (x : Tree) (t : Ty) → TypedAll ds xs ts → Typed ds x t
    → TypedAll ds (snoc xs x) (ts ++ (t ∷ []))
typed_all_snoc ds nil_t [] x t h k = (k, tt)
typed_all_snoc ds nil_t (u ∷ ts) x t h k = absurd h
typed_all_snoc ds (cons_t y ys) [] x t h k = absurd h
typed_all_snoc ds (cons_t y ys) (u ∷ ts) x t h k = (h.0, typed_all_snoc ds ys ts x t h.1 k)

stored_all_snoc : (rs : List Root) (xs : Trees) (x : Tree) → StoredAll rs xs → Stored rs x → StoredAll rs (snoc xs x)
stored_all_snoc rs nil_t x h k = (k, tt)
stored_all_snoc rs (cons_t y ys) x h k = (h.0, stored_all_snoc rs ys x h.1 k)

sum_snoc : (f : ℕ → ℕ → ℕ) (xs : Trees) (x : Tree) → trees_sum f (snoc xs x) ≡ trees_sum f xs + tree_sum f x
sum_snoc f nil_t x = omega arith
sum_snoc f (cons_t y ys) x = let k = sum_snoc f ys x in omega arith

each_front : (ts : List Ty) (t : Ty) → each_of owned (ts ++ (t ∷ [])) ≡ true → (each_of owned ts ≡ true) × (owned t ≡ true)
each_front [] t e = (refl, and_left (owned t) true e)
each_front (u ∷ ts) t e =
    let k = each_front ts t (and_right (owned u) (each_of owned (ts ++ (t ∷ []))) e) in
    (ap (λ z. z && each_of owned ts) (and_left (owned u) (each_of owned (ts ++ (t ∷ []))) e) ∙ k.0, k.1)

-- arguments of owned types, gathered: their trees from the first on
pub record Gathered (ds : List Data) (rs : List Root) (N A : List Entry) (ts : List Ty) (vs : Values) (T : List Tree) : Type 0 where
  pub parts : Trees
  pub rest : List Tree
  pub values : vs ≡ flats parts
  pub typeds : TypedAll ds parts ts
  pub storeds : StoredAll rs parts
  pub entries : EntriesOk ds rs N rest
  pub sums : (f : ℕ → ℕ → ℕ) → stack_sum f (A ++ N) T ≡ trees_sum f parts + stack_sum f N rest

pub gather : (ds : List Data) (rs : List Root) (N A : List Entry) (ts : List Ty) (vs : Values) (T : List Tree) → Arguments A ts vs
    → each_of owned ts ≡ true → EntriesOk ds rs (A ++ N) T → Gathered ds rs N A ts vs T
gather ds rs N [] [] nil_v T no_args ow fi =
    record { parts = nil_t; rest = T; values = refl; typeds = tt; storeds = tt; entries = fi; sums = λ f. (omega arith) }
gather ds rs N A ts vs [] (snoc_arg e t v fl fg) ow fi = absurd fi
gather ds rs N A ts vs (x ∷ T) (snoc_arg {A = A1} {ts = ts1} {vs = vs1} e t v fl fg) ow fi =
    let o = each_front ts1 t ow in
    let h = gather ds rs N A1 ts1 vs1 T fl o.0 fi.1 in
    let k = owned_value ds rs e x (A1 ++ N) T v t o.1 fg fi.0 in
    record {
      parts = snoc h.parts x;
      rest = h.rest;
      values = ap (λ z. append z v) h.values ∙ ap (append (flats h.parts)) k.0 ∙ flats_snoc h.parts x;
      typeds = typed_all_snoc ds h.parts ts1 x t h.typeds k.2;
      storeds = stored_all_snoc rs h.parts x h.storeds k.1;
      entries = h.entries;
      sums =
          λ f. (let a = h.sums f in let a1 = sum_snoc f h.parts x in let a2 : place_sum f e.at ≡ 0 = ap (place_sum f)
          fg.place in omega arith);
    }

-- the inverse of open_con
pub make_con : (ds : List Data) (N A : List Entry) (ts : List Ty) (vs : Values) (T : List Tree) (s : State) (k : Lexeme) (h : Home)
    → home_of ds k ≡ some h → ts ≡ h.ctor1.fields → Arguments A ts vs → each_of owned ts ≡ true → Invariant ds (A ++ N) T s
    → (xs : Trees) × (U : List Tree) × (vs ≡ flats xs) × Invariant ds (owned_entry (con_t k xs) (dat h.data1.name) ∷ N) (con_t k xs ∷ U) s
make_con ds N A ts vs T s k h hm t_is fl ow w =
    let y = gather ds s.roots N A ts vs T fl ow w.entries in (
      y.parts,
      y.rest,
      y.values,
      record {
        borrows = push_own (kinds N) (borrows_under A N w.borrows) (dat h.data1.name);
        entries = ((refl, y.storeds, refl, inl (h, hm, refl, subst (TypedAll ds y.parts) t_is y.typeds)), y.entries);
        sums = λ f. (let a = w.sums f in let a1 = y.sums f in omega arith);
        counted = w.counted;
      },
    )

-- a box's words are those of its content's type
size_int : (k : ℕ) (ds : List Data) → from_option (size k ds int) 1 (λ z. z) ≡ 1
size_int zero ds = refl
size_int (suc k) ds = refl

size_box : (k : ℕ) (ds : List Data) (t : Ty) → from_option (size k ds (box t)) 1 (λ z. z) ≡ 1
size_box zero ds t = refl
size_box (suc k) ds t = refl

pub words_is : (q : Prog) (x : Tree) (t : Ty) → Typed q.datas x t → words_of q (flat x) ≡ words_in q.datas t
words_is q (int_t k) int ty = sym (size_int (ch.deep q.datas) q.datas)
words_is q (int_t k) (dat d) ty = absurd ty
words_is q (int_t k) (box t) ty = absurd ty
words_is q (int_t k) (ref t) ty = absurd ty
words_is q (int_t k) (mut t) ty = absurd ty
words_is q (con_t k ts) int ty = absurd ty
words_is q (con_t k ts) (dat d) ty =
    ap (λ o. from_option o 1 (λ h. from_option (size_of q.datas (dat h.data1.name)) 1 (λ z. z))) ty.1 ∙ ap
    (λ y. from_option (size_of q.datas (dat y)) 1 (λ z. z)) ty.2
words_is q (con_t k ts) (box t) ty = absurd ty
words_is q (con_t k ts) (ref t) ty = absurd ty
words_is q (con_t k ts) (mut t) ty = absurd ty
words_is q (box_t r w y) int ty = absurd ty
words_is q (box_t r w y) (dat d) ty = absurd ty
words_is q (box_t r w y) (box u) ty = sym (size_box (ch.deep q.datas) q.datas u)
words_is q (box_t r w y) (ref u) ty = absurd ty
words_is q (box_t r w y) (mut u) ty = absurd ty
words_is q hole_t t ty = absurd ty

in_use_in : (cs : List Class) (k j : ℕ) → in_use_of (count_in cs k) j ≡ in_use_of cs j + choose (eqb k j) 1 0
in_use_in [] k j = omega arith
in_use_in (x ∷ xs) k j = go (eqb x.words k) (λ t. eqb→eq x.words k t) (λ e. no e) (in_use_in xs k j)
  where
    no : x.words ≡ k → lib.Dec.T (eqb x.words k)
    no e = subst (λ z. lib.Dec.T (eqb x.words z)) e (eqb_refl x.words)

    here1 : (z : Bool) → choose z (suc x.in_use) (in_use_of xs j) ≡ choose z x.in_use (in_use_of xs j) + choose z 1 0
    here1 true = omega arith
    here1 false = omega arith

    off : (z1 z2 : Bool) → (lib.Dec.T z1 → x.words ≡ j) → (lib.Dec.T z2 → k ≡ j) → (x.words ≡ k → ⊥)
        → in_use_of (count_in xs k) j ≡ in_use_of xs j + choose z2 1 0
        → choose z1 x.in_use (in_use_of (count_in xs k) j) ≡ choose z1 x.in_use (in_use_of xs j) + choose z2 1 0
    off true true a d ne ih = absurd (ne (a tt ∙ sym (d tt)))
    off true false a d ne ih = omega arith
    off false z2 a d ne ih = ih

    go : (z : Bool) → (lib.Dec.T z → x.words ≡ k) → (x.words ≡ k → lib.Dec.T z)
        → in_use_of (count_in xs k) j ≡ in_use_of xs j + choose (eqb k j) 1 0
        → in_use_of (choose z (record {
          words = k;
          in_use = suc x.in_use;
          peak = choose (lib.Dec.ltb x.in_use x.peak) x.peak
              (suc x.in_use);
        } ∷ xs) (x ∷ count_in xs k)) j ≡ choose (eqb x.words j) x.in_use (in_use_of xs j) + choose (eqb k j) 1 0
    go true a d ih = here1 (eqb k j) ∙ ap (λ z. choose (eqb z j) x.in_use (in_use_of xs j) + choose (eqb k j) 1 0) (sym (a tt))
    go false a d ih = off (eqb x.words j) (eqb k j) (λ t. eqb→eq x.words j t) (λ t. eqb→eq k j t) (λ e. d e) ih

boxes_in : (cs : List Class) (k : ℕ) → boxes (count_in cs k) ≡ suc (boxes cs)
boxes_in [] k = refl
boxes_in (x ∷ xs) k = go (eqb x.words k) (boxes_in xs k)
  where
    go : (z : Bool) → boxes (count_in xs k) ≡ suc (boxes xs)
        → boxes (choose z (record {
          words = k;
          in_use = suc x.in_use;
          peak = choose (lib.Dec.ltb x.in_use x.peak) x.peak
              (suc x.in_use);
        } ∷ xs) (x ∷ count_in xs k)) ≡ suc (x.in_use + boxes xs)
    go true ih = omega arith
    go false ih = omega arith

-- what's in flight gets into a new box
pub make_box : (ds : List Data) (e : Entry) (N : List Entry) (x : Tree) (T : List Tree) (s : State) (v : Value) (t : Ty) (k : ℕ) → e.at ≡ in_flight v
    → k ≡ words_in ds t → Stored s.roots x → Typed ds x t → Invariant ds (e ∷ N) (x ∷ T) s
    → Invariant ds (owned_entry (box_t (length s.roots) k x) (box t) ∷ N) (box_t (length s.roots) k x ∷ T)
    (with_classes (adds_root s (flat x) k) (count_in s.classes k))
make_box ds e N x T s v t k e-at k_is st ty w = record {
  borrows = push_own (kinds N) (pop_borrows e.kind (kinds N) w.borrows) (box t);
  entries = (
    (refl, (at_last s.roots nu, stored_else s.roots rs2 r x el (omega (arith, fresh)) st), typed_owned ds x t ty, inl (k_is, ty)),
    entries_ok_else ds s.roots rs2 r N T el (omega (arith, fresh)) w.entries.1,
  );
  sums =
      λ f. (let a = w.sums f in let a2 : place_sum f e.at ≡ 0 = ap (place_sum f) e-at in let k1 = sum_push f 0 s.roots (flat x) k in let k2 : f
      (r + 0) k ≡ f r k = ap (λ z. f z k) (omega arith) in omega arith);
  counted = record {
    by_size =
        λ j. (let a = w.counted.by_size j in let b1 = sum_push (of_size (suc j)) 0 s.roots (flat x) k in let b2 = in_use_in s.classes k
        (suc j) in omega arith);
    in_all =
        (let a = w.counted.in_all in let b1 = sum_push is_box 0 s.roots (flat x) k in let b2 = boxes_in s.classes k in
        let b3 = one k pos in omega arith);
  };
}
  where
    r : ℕ
    r = length s.roots

    nu : Root
    nu = record { live = true; val = flat x; words = k }

    rs2 : List Root
    rs2 = s.roots ++ (nu ∷ [])

    el : Elsewhere s.roots rs2 r
    el j ne y h = at_push s.roots nu j y h

    fresh : tree_sum (mark r) x + stack_sum (mark r) N T ≡ 0
    fresh = let a = w.sums (mark r) in let a2 = sum_high r 0 s.roots (omega arith) in omega arith

    pos : 1 ≤ k
    pos = let a = words_pos ds t in omega (arith, k_is)

    one : (j : ℕ) → 1 ≤ j → is_box (r + 0) j ≡ 1
    one zero h = absurd (omega arith)
    one (suc j) h = ap {B = ℕ} (λ z. choose z 0 1) (lib.Dec.eqb-suc-zero j)
