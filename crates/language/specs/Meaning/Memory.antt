-- Reading and writing at a place; roots that begin and end.
use Rattle.std.specs.Prelude.{true, false, List, [], ◌∷◌, ◌++◌, ℕ, zero, suc}
use Rattle.std.proofs.Math.Option.{Option, some, none}
use Rattle.language.specs.Base.{choose, from_option, if_some, set_at, at_place}
use Rattle.language.specs.Meaning.States.{Loc, Value, int_v, con_v, box_v, ref_v, hole, Values, nil_v, cons_v, Root, State}

abbrev pub with_roots : State → List Root → State
with_roots s rs =
    record { roots = rs; classes = s.classes; under = s.under; turns = s.turns; ins = s.ins; outs = s.outs }

abbrev pub nth_v : Values → ℕ → Option Value
nth_v nil_v i = none
nth_v (cons_v v vs) zero = some v
nth_v (cons_v v vs) (suc i) = nth_v vs i

abbrev pub put_v : Values → ℕ → Value → Values
put_v nil_v i w = nil_v
put_v (cons_v v vs) zero w = cons_v w vs
put_v (cons_v v vs) (suc i) w = cons_v v (put_v vs i w)

abbrev pub at_path : List ℕ → Value → Option Value
at_path [] v = some v
at_path (i ∷ is) (int_v k) = none
at_path (i ∷ is) (con_v k vs) = if_some (nth_v vs i) (at_path is)
at_path (i ∷ is) (box_v r) = none
at_path (i ∷ is) (ref_v l) = none
at_path (i ∷ is) hole = none

-- the value with w at that place of it
abbrev pub put_path : List ℕ → Value → Value → Value
put_path [] w v = w
put_path (i ∷ is) w (int_v k) = int_v k
put_path (i ∷ is) w (con_v k vs) = con_v k (put_v vs i (from_option (nth_v vs i) hole (put_path is w)))
put_path (i ∷ is) w (box_v r) = box_v r
put_path (i ∷ is) w (ref_v l) = ref_v l
put_path (i ∷ is) w hole = hole

abbrev pub live_root : State → ℕ → Option Root
live_root s r = if_some (at_place s.roots r) (λ x. choose x.live (some x) none)

abbrev pub read_at : State → Loc → Option Value
read_at s l = if_some (live_root s l.root) (λ x. at_path l.path x.val)

-- only where there is something, or was
abbrev pub write_at : State → Loc → Value → Option State
write_at s l v =
    if_some (live_root s l.root) (λ x. if_some (at_path l.path x.val) (λ old.
    some (with_roots s (set_at s.roots l.root (record { live = true; val = put_path l.path v x.val; words = x.words })))))

abbrev pub here : ℕ → Loc
here r = record { root = r; path = [] }

abbrev pub adds_root : State → Value → ℕ → State
adds_root s v k = with_roots s (s.roots ++ (record { live = true; val = v; words = k } ∷ []))

-- a root ends
abbrev pub kill : State → ℕ → State
kill s r =
    from_option (at_place s.roots r) s (λ x.
    with_roots s (set_at s.roots r (record { live = false; val = hole; words = x.words })))
