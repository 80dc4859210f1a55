-- What is read from memory holds numbers as memory does; what is written keeps memory so.
use mathlib.Core.Bool.{true, false}
use mathlib.Core.List.{List, [], ◌∷◌, ◌++◌}
use mathlib.Core.Option.{Option, some, none}
use mathlib.Core.Path.{◌≡◌, refl, subst}
use Prim.Native.Nat.{ℕ, zero, suc}
use native.Mathlib.Omega.{arith}
use Rattle.language.specs.Base.{choose, from_option, if_some, at_place, set_at}
use Rattle.language.specs.Syntax.{Access, take, view, edit}
use Rattle.language.specs.Meaning.{Loc, Value, int_v, con_v, box_v, ref_v, hole, Values, nil_v, cons_v, Root, State, nth_v, put_v, at_path, put_path}
use Rattle.language.specs.Meaning.{read_at, write_at, adds_root, kill, ends_box, with_classes, append, list_of, roots_in, refs_to, parts, taken}
use Rattle.language.specs.Meaning.{count_out}
use Rattle.soundness.specs.Numbers.{Every, Numbers, NumbersOf, StateNumbers}
use Rattle.soundness.proofs.Basics.{no_some, some_is, if_some_is}

module _ (L : ℕ → Type 0) where
  abbrev RootNumbers : Root → Type 0
  RootNumbers x = Numbers L x.val

  -- a list at a place
  every_at : (rs : List Root) (r : ℕ) (x : Root) → Every RootNumbers rs → at_place rs r ≡ some x → RootNumbers x
  every_at [] r x h e = absurd (no_some e)
  every_at (y ∷ rs) zero x h e = let same : y ≡ x = some_is e in rw same at h.0
  every_at (y ∷ rs) (suc r) x h e = every_at rs r x h.1 e

  every_set : (rs : List Root) (r : ℕ) (x : Root) → Every RootNumbers rs → RootNumbers x → Every RootNumbers (set_at rs r x)
  every_set [] r x h k = tt
  every_set (y ∷ rs) zero x h k = (k, h.1)
  every_set (y ∷ rs) (suc r) x h k = (h.0, every_set rs r x h.1 k)

  every_push : (rs : List Root) (x : Root) → Every RootNumbers rs → RootNumbers x → Every RootNumbers (rs ++ (x ∷ []))
  every_push [] x h k = (k, tt)
  every_push (y ∷ rs) x h k = (h.0, every_push rs x h.1 k)

  -- a part of a value
  nth_numbers : (vs : Values) (i : ℕ) (v : Value) → NumbersOf L vs → nth_v vs i ≡ some v → Numbers L v
  nth_numbers nil_v i v h e = absurd (no_some e)
  nth_numbers (cons_v w vs) zero v h e = let same : w ≡ v = some_is e in rw same at h.0
  nth_numbers (cons_v w vs) (suc i) v h e = nth_numbers vs i v h.1 e

  put_numbers : (vs : Values) (i : ℕ) (w : Value) → NumbersOf L vs → Numbers L w → NumbersOf L (put_v vs i w)
  put_numbers nil_v i w h k = tt
  put_numbers (cons_v v vs) zero w h k = (k, h.1)
  put_numbers (cons_v v vs) (suc i) w h k = (h.0, put_numbers vs i w h.1 k)

  pub append_numbers : (vs : Values) (w : Value) → NumbersOf L vs → Numbers L w → NumbersOf L (append vs w)
  append_numbers nil_v w h k = (k, tt)
  append_numbers (cons_v v vs) w h k = (h.0, append_numbers vs w h.1 k)

  pub list_numbers : (vs : Values) → NumbersOf L vs → Every (Numbers L) (list_of vs)
  list_numbers nil_v h = tt
  list_numbers (cons_v v vs) h = (h.0, list_numbers vs h.1)

  path_numbers : (is : List ℕ) (v w : Value) → Numbers L v → at_path is v ≡ some w → Numbers L w
  path_numbers [] v w h e = let same : v ≡ w = some_is e in rw same at h
  path_numbers (i ∷ is) (int_v k) w h e = absurd (no_some e)
  path_numbers (i ∷ is) (con_v k vs) w h e =
      let a = if_some_is (nth_v vs i) (at_path is) w e in
      path_numbers is a.0 w (nth_numbers vs i a.0 h a.1) a.2
  path_numbers (i ∷ is) (box_v r) w h e = absurd (no_some e)
  path_numbers (i ∷ is) (ref_v l) w h e = absurd (no_some e)
  path_numbers (i ∷ is) hole w h e = absurd (no_some e)

  put_path_numbers : (is : List ℕ) (w v : Value) → Numbers L w → Numbers L v → Numbers L (put_path is w v)
  put_path_numbers [] w v k h = k
  put_path_numbers (i ∷ is) w (int_v x) k h = h
  put_path_numbers (i ∷ is) w (con_v x vs) k h =
      put_numbers vs i (from_option (nth_v vs i) hole (put_path is w)) h (go (nth_v vs i) refl (λ v. put_path_numbers is w v k))
    where
      go : (o : Option Value) → nth_v vs i ≡ o → ((v : Value) → Numbers L v → Numbers L (put_path is w v))
          → Numbers L (from_option o hole (put_path is w))
      go none e ih = tt
      go (some v) e ih = ih v (nth_numbers vs i v h e)
  put_path_numbers (i ∷ is) w (box_v r) k h = tt
  put_path_numbers (i ∷ is) w (ref_v l) k h = tt
  put_path_numbers (i ∷ is) w hole k h = tt

  -- parts of what is matched
  refs_numbers : (l : Loc) (i : ℕ) (vs : Values) → Every (Numbers L) (refs_to l i vs)
  refs_numbers l i nil_v = tt
  refs_numbers l i (cons_v v vs) = (tt, refs_numbers l (suc i) vs)

  pub parts_numbers : (w : Access) (l : Loc) (vs : Values) → NumbersOf L vs → Every (Numbers L) (parts w l vs)
  parts_numbers take l vs h = list_numbers vs h
  parts_numbers view l vs h = refs_numbers l 0 vs
  parts_numbers edit l vs h = refs_numbers l 0 vs

  -- the state's memory
  live_is : (y x : Root) → choose y.live (some y) none ≡ some x → y ≡ x
  live_is y x e = grind arith

  pub read_numbers : (s : State) (l : Loc) (v : Value) → Every RootNumbers s.roots → read_at s l ≡ some v → Numbers L v
  read_numbers s l v h e =
      let a = if_some_is (if_some (at_place s.roots l.root) (λ x. choose x.live (some x) none)) (λ x. at_path l.path x.val) v e in
      let y = if_some_is (at_place s.roots l.root) (λ x. choose x.live (some x) none) a.0 a.1 in
      let same : y.0 ≡ a.0 = live_is y.0 a.0 y.2 in
      path_numbers l.path a.0.val v (rw same at (every_at s.roots l.root y.0 h y.1)) a.2

  module _ (Q : List ℕ → Type 0) where
    pub write_numbers : (s : State) (l : Loc) (v : Value) (t : State) → StateNumbers L Q s → Numbers L v → write_at s l v ≡ some t
        → StateNumbers L Q t
    write_numbers s l v t h k e =
        let live = λ (x : Root). choose x.live (some x) none in
        let a = if_some_is (if_some (at_place s.roots l.root) live) (λ x. if_some (at_path l.path x.val) (λ old. some _)) t e in
        let y = if_some_is (at_place s.roots l.root) live a.0 a.1 in
        let same : y.0 ≡ a.0 = live_is y.0 a.0 y.2 in
        let at_root : Numbers L a.0.val = rw same at (every_at s.roots l.root y.0 h.stored y.1) in
        let o = if_some_is (at_path l.path a.0.val) _ t a.2 in
        let written : Every RootNumbers (set_at s.roots l.root _) = every_set s.roots l.root
        (record { live = true; val = put_path l.path v a.0.val; words = a.0.words }) h.stored
        (put_path_numbers l.path v a.0.val k at_root) in
        subst (StateNumbers L Q) (some_is o.2) (record { stored = written; shown = h.shown })

    pub push_numbers : (s : State) (v : Value) (k : ℕ) → StateNumbers L Q s → Numbers L v → StateNumbers L Q (adds_root s v k)
    push_numbers s v k h nv = record { stored = every_push s.roots _ h.stored nv; shown = h.shown }

    pub kill_numbers : (s : State) (r : ℕ) → StateNumbers L Q s → StateNumbers L Q (kill s r)
    kill_numbers s r h = go (at_place s.roots r)
      where
        go : (o : Option Root) → StateNumbers L Q
            (from_option o s (λ x. record {
              roots = set_at s.roots r (record { live = false; val = hole; words = x.words });
              classes = s.classes;
              under = s.under;
              turns = s.turns;
              ins = s.ins;
              outs = s.outs;
            }))
        go none = h
        go (some x) = record { stored = every_set s.roots r _ h.stored tt; shown = h.shown }

    pub end_box_numbers : (s : State) (r : ℕ) → StateNumbers L Q s → StateNumbers L Q (ends_box s r)
    end_box_numbers s r h = go (at_place s.roots r)
      where
        killed : StateNumbers L Q (kill s r)
        killed = kill_numbers s r h

        go : (o : Option Root) → StateNumbers L Q (from_option o s (λ x. with_classes (kill s r) (count_out s.classes x.words)))
        go none = h
        go (some x) = record { stored = killed.stored; shown = killed.shown }

    pub roots_numbers : (s : State) (vs : List Value) → StateNumbers L Q s → Every (Numbers L) vs → StateNumbers L Q (roots_in s vs)
    roots_numbers s [] h k = h
    roots_numbers s (v ∷ vs) h k = roots_numbers (adds_root s v 0) vs (push_numbers s v 0 h k.0) k.1

    pub taken_numbers : (w : Access) (s : State) (l : Loc) (t : State) → StateNumbers L Q s → taken w s l ≡ some t → StateNumbers L Q t
    taken_numbers take s l t h e = write_numbers s l hole t h tt e
    taken_numbers view s l t h e = rw (some_is e) at h
    taken_numbers edit s l t h e = rw (some_is e) at h
