-- What is asked of the pools of boxes: which words are in use, that places are apart, when there is no more.
use Rattle.std.specs.Prelude.{◌≡◌, true, false, List, [], ◌∷◌, ◌++◌, ℕ, ◌+◌, ◌≤◌, ◌<◌, leb}
use Rattle.std.proofs.Math.Option.{some, none}
use Rattle.language.specs.Syntax.{Ty}
use Rattle.language.specs.Meaning.{Class, count_in, count_out, peaks}
use Rattle.simulation.specs.Machine.{Kit, Place, Pools, Taken}

pub data In (j : ℕ) : List Place → Type 0 where
  in_this : {u : Place} {us : List Place} → u.at ≤ j → j < u.at + u.size → In j (u ∷ us)
  in_rest : {u : Place} {us : List Place} → In j us → In j (u ∷ us)

-- pools as they come to be, from ps0 and words w0 with nothing in use: words in no box stay; a place is taken, or given back
pub data InUse (K : Kit) (ps0 : Pools) (w0 : ℕ → ℕ) : Pools → (ℕ → ℕ) → List Class → List Place → Type 0 where
  at_first : InUse K ps0 w0 ps0 w0 [] []
  words_same : {ps : Pools} {w w' : ℕ → ℕ} {cs : List Class} {us : List Place} → InUse K ps0 w0 ps w cs us → ((j : ℕ) → j < K.lent.heap → (In j us → ⊥) → w' j ≡ w j) → InUse K ps0 w0 ps w' cs us
  one_taken : {ps : Pools} {w : ℕ → ℕ} {cs : List Class} {us : List Place} (t : Ty) (x : Taken) → InUse K ps0 w0 ps w cs us → K.take ps w (K.size t) ≡ some x → InUse K ps0 w0 x.left w (count_in cs (K.size t)) (us ++ (record { at = x.at; size = K.size t } ∷ []))
  one_given : {ps : Pools} {w : ℕ → ℕ} {cs : List Class} (xs ys : List Place) (a : ℕ) (t : Ty) → InUse K ps0 w0 ps w cs (xs ++ (record { at = a; size = K.size t } ∷ ys)) → InUse K ps0 w0 (K.give ps a (K.size t)) (K.link ps a (K.size t) w) (count_out cs (K.size t)) (xs ++ ys)

-- what must hold of them: a place is refused exactly if the peaks are too much; it's in the heap, and apart from those in use
pub record PoolsRight (K : Kit) (ps0 : Pools) (w0 : ℕ → ℕ) : Type 0 where
  pub refused : (ps : Pools) (w : ℕ → ℕ) (cs : List Class) (us : List Place) (t : Ty) → InUse K ps0 w0 ps w cs us → K.take ps w (K.size t) ≡ none → leb (peaks (count_in cs (K.size t))) K.lent.heap ≡ false
  pub fits : (ps : Pools) (w : ℕ → ℕ) (cs : List Class) (us : List Place) (t : Ty) (x : Taken) → InUse K ps0 w0 ps w cs us → K.take ps w (K.size t) ≡ some x → leb (peaks (count_in cs (K.size t))) K.lent.heap ≡ true
  pub within : (ps : Pools) (w : ℕ → ℕ) (cs : List Class) (us : List Place) (t : Ty) (x : Taken) → InUse K ps0 w0 ps w cs us → K.take ps w (K.size t) ≡ some x → x.at + K.size t ≤ K.lent.heap
  pub apart : (ps : Pools) (w : ℕ → ℕ) (cs : List Class) (us : List Place) (t : Ty) (x : Taken) → InUse K ps0 w0 ps w cs us → K.take ps w (K.size t) ≡ some x → (j : ℕ) → x.at ≤ j → j < x.at + K.size t → In j us → ⊥
  pub link_at : (ps : Pools) (w : ℕ → ℕ) (a : ℕ) (t : Ty) (j : ℕ) → ((a ≤ j) × (j < a + K.size t) → ⊥) → K.link ps a (K.size t) w j ≡ w j
