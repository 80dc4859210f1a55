-- Who is watched: the roots of use (hs), the references in operands (ls) and the boxes being dropped (D), in the stack of entries.
use mathlib.Core.List.{List, [], ◌∷◌, ◌++◌}
use mathlib.Core.Logic.{◌⊎◌, inl, inr}
use mathlib.Core.Path.{◌≡◌, refl, ◌∙◌, ap}
use Prim.Native.Nat.{ℕ, zero, suc, ◌-◌}
use lib.ListN.{length}
use Rattle.language.specs.Syntax.{Ty}
use Rattle.language.specs.Checks as ch
use Rattle.language.specs.Meaning.{Loc, Value, int_v, con_v, box_v, ref_v, hole, newest, newer}
use Rattle.language.specs.Meaning as me
use Rattle.soundness.specs.Borrows.{In, LevelLoan, Kind, own, borrow, inert}
use Rattle.soundness.specs.Invariant.{rooted, in_flight, Entry}
use Rattle.soundness.specs.Frames.{KindFits, Scope, ValueEntry}
use Rattle.soundness.proofs.Basics.{in_left, in_right}
use Rattle.soundness.proofs.frames.Covers.{in_either}
use Rattle.simulation.specs.Borrows.{Has, has_this, has_rest, env_roots, add_loc}

-- an entry that isn't just waiting to be ended
abbrev pub OfUse : Kind → Type 0
OfUse (own t) = Unit {0}
OfUse (borrow al t a ls) = Unit {0}
OfUse inert = ⊥

abbrev pub NameIn : List Entry → ℕ → Type 0
NameIn N r = (e : Entry) × In e N × (e.at ≡ rooted r 0) × OfUse e.kind

abbrev pub ValueIn : List Entry → Loc → Type 0
ValueIn N l = (e : Entry) × In e N × (e.at ≡ in_flight (ref_v l)) × OfUse e.kind

abbrev pub BoxIn : List Entry → ℕ → Type 0
BoxIn N r = (e : Entry) × (w : ℕ) × In e N × (e.at ≡ rooted r w)

-- in the whole stack
pub record Watch (N : List Entry) (D hs : List ℕ) (ls : List Loc) : Type 0 where
  pub names : (r : ℕ) → Has r hs → NameIn N r
  pub values : (l : Loc) → Has l ls → ValueIn N l
  pub boxes : (r : ℕ) → Has r D → BoxIn N r

-- in a frame: names of its own or of callers, values in flight above it or under it, boxes under it
pub record FrameWatch (C H : List Entry) (d : me.Env) (D hs : List ℕ) (ls : List Loc) : Type 0 where
  pub names : (r : ℕ) → Has r hs → Has r (env_roots d) ⊎ NameIn C r
  pub values : (l : Loc) → Has l ls → ValueIn (H ++ C) l
  pub boxes : (r : ℕ) → Has r D → BoxIn C r

pub fits_use : (t : Ty) (k : Kind) → KindFits t k → OfUse k
fits_use t (own u) h = tt
fits_use t (borrow al u a ls) h = tt
fits_use t inert h = h

has_none : {A : Type 0} (x : A) → Has x [] → ⊥
has_none x h = elim h [ ]

-- nothing is watched
pub no_watch : (N : List Entry) → Watch N [] [] []
no_watch N = record { names = λ r h. absurd (has_none r h); values = λ l h. absurd (has_none l h); boxes = λ r h. absurd (has_none r h) }

-- more entries on top
pub watch_push : (K N : List Entry) (D hs : List ℕ) (ls : List Loc) → Watch N D hs ls → Watch (K ++ N) D hs ls
watch_push K N D hs ls w = record {
  names = λ r h. (let x = w.names r h in (x.0, in_right x.0 K N x.1, x.2, x.3));
  values = λ l h. (let x = w.values l h in (x.0, in_right x.0 K N x.1, x.2, x.3));
  boxes = λ r h. (let x = w.boxes r h in (x.0, x.1, in_right x.0 K N x.2, x.3));
}

has_split : {A : Type 0} (x : A) (xs ys : List A) → Has x (xs ++ ys) → Has x xs ⊎ Has x ys
has_split x [] ys h = inr h
has_split x (z ∷ zs) ys (has_this e) = inl (has_this e)
has_split x (z ∷ zs) ys (has_rest h) = elim (has_split x zs ys h) [ inl k ↦ inl (has_rest k) | inr k ↦ inr k ]

-- names of a frame stand in its entries
scope_in : (base : ℕ) (ln : List LevelLoan) (g : ch.Env) (d : me.Env) (F : List Entry) (r : ℕ) → Scope base ln g d F → Has r (env_roots d)
    → NameIn F r
scope_in base ln [] [] F r sc h = absurd (has_none r h)
scope_in base ln [] (m ∷ d) F r sc h = absurd sc
scope_in base ln (v ∷ g) [] F r sc h = absurd sc
scope_in base ln (v ∷ g) (m ∷ d) [] r sc h = absurd sc
scope_in base ln (v ∷ g) (m ∷ d) (e ∷ F) r sc (has_this k) =
    (e, inl refl, sc.0.place ∙ ap (λ z. rooted z 0) k, fits_use v.ty e.kind sc.0.type)
scope_in base ln (v ∷ g) (m ∷ d) (e ∷ F) r sc (has_rest h) = let x = scope_in base ln g d F r sc.1 h in (x.0, inr x.1, x.2, x.3)

pub frame_watched : (C H : List Entry) (ln : List LevelLoan) (g : ch.Env) (d : me.Env) (F : List Entry) (D hs : List ℕ) (ls : List Loc)
    → Scope (length C) ln g d F → FrameWatch C H d D hs ls → Watch (H ++ (F ++ C)) D hs ls
frame_watched C H ln g d F D hs ls sc w = record { names = nm; values = vl; boxes = bx }
  where
    up : (e : Entry) → In e C → In e (H ++ (F ++ C))
    up e i = in_right e H (F ++ C) (in_right e F C i)

    nm : (r : ℕ) → Has r hs → NameIn (H ++ (F ++ C)) r
    nm r h = elim (w.names r h) [
      | inl k ↦ (let x = scope_in (length C) ln g d F r sc k in (x.0, in_right x.0 H (F ++ C) (in_left x.0 F C x.1), x.2, x.3))
      | inr x ↦ (x.0, up x.0 x.1, x.2, x.3)
    ]

    vl : (l : Loc) → Has l ls → ValueIn (H ++ (F ++ C)) l
    vl l h =
        let x = w.values l h in
        (x.0, elim (in_either x.0 H C x.1) [ inl k ↦ in_left x.0 H (F ++ C) k | inr k ↦ up x.0 k ], x.2, x.3)

    bx : (r : ℕ) → Has r D → BoxIn (H ++ (F ++ C)) r
    bx r h = let x = w.boxes r h in (x.0, x.1, up x.0 x.2, x.3)

-- a frame entered: its names besides the callers'
pub watch_enter : (C : List Entry) (d : me.Env) (D hs : List ℕ) (ls : List Loc) → Watch C D hs ls → FrameWatch C [] d D (env_roots d ++ hs) ls
watch_enter C d D hs ls w = record {
  names = λ r h. elim (has_split r (env_roots d) hs h) [ inl k ↦ inl k | inr k ↦ inr (w.names r k) ];
  values = w.values;
  boxes = w.boxes;
}

-- more names of the frame
has_newest : (n : ℕ) (g : me.Env) (r : ℕ) → Has r (env_roots (newest n g)) → Has r (env_roots g)
has_newest zero g r h = absurd (has_none r h)
has_newest (suc n) [] r h = absurd (has_none r h)
has_newest (suc n) (m ∷ g) r (has_this e) = has_this e
has_newest (suc n) (m ∷ g) r (has_rest h) = has_rest (has_newest n g r h)

has_under : (k h : me.Env) (r : ℕ) → Has r (env_roots h) → Has r (env_roots (k ++ h))
has_under [] h r x = x
has_under (m ∷ k) h r x = has_rest (has_under k h r x)

pub watch_names : (C : List Entry) (k h : me.Env) (D hs : List ℕ) (ls : List Loc) → FrameWatch C [] h D hs ls
    → FrameWatch C [] (k ++ h) D (env_roots (newer (k ++ h) h) ++ hs) ls
watch_names C k h D hs ls w = record {
  names = λ r x. elim (has_split r (env_roots (newer (k ++ h) h)) hs x) [
    | inl y ↦ inl (has_newest (length (k ++ h) - length h) (k ++ h) r y)
    | inr y ↦ elim (w.names r y) [ inl z ↦ inl (has_under k h r z) | inr z ↦ inr z ]
  ];
  values = w.values;
  boxes = w.boxes;
}

-- a value more in flight
in_loc : (v : Value) (ls : List Loc) (l : Loc) → Has l (add_loc v ls) → (v ≡ ref_v l) ⊎ Has l ls
in_loc (int_v k) ls l h = inr h
in_loc (con_v k vs) ls l h = inr h
in_loc (box_v r) ls l h = inr h
in_loc (ref_v a) ls l (has_this e) = inl (ap ref_v e)
in_loc (ref_v a) ls l (has_rest h) = inr h
in_loc hole ls l h = inr h

value_more : (e : Entry) (N : List Entry) (t : Ty) (v : Value) (ls : List Loc) → ValueEntry v t e → ((l : Loc) → Has l ls → ValueIn N l)
    → (l : Loc) → Has l (add_loc v ls) → ValueIn (e ∷ N) l
value_more e N t v ls fl w l h = elim (in_loc v ls l h) [
  | inl k ↦ (e, inl refl, fl.place ∙ ap in_flight k, fits_use t e.kind fl.type)
  | inr k ↦ (let x = w l k in (x.0, inr x.1, x.2, x.3))
]

pub watch_flight : (C H : List Entry) (d : me.Env) (D hs : List ℕ) (ls : List Loc) (e : Entry) (t : Ty) (v : Value) → ValueEntry v t e
    → FrameWatch C H d D hs ls → FrameWatch C (e ∷ H) d D hs (add_loc v ls)
watch_flight C H d D hs ls e t v fl w =
    record { names = w.names; values = value_more e (H ++ C) t v ls fl w.values; boxes = w.boxes }

pub watch_value : (C : List Entry) (D hs : List ℕ) (ls : List Loc) (e : Entry) (t : Ty) (v : Value) → ValueEntry v t e → Watch C D hs ls
    → Watch (e ∷ C) D hs (add_loc v ls)
watch_value C D hs ls e t v fl w =
    let p = watch_push (e ∷ []) C D hs ls w in
    record { names = p.names; values = value_more e C t v ls fl w.values; boxes = p.boxes }

-- a box that is being dropped waits under its content
pub watch_box : (e : Entry) (r k : ℕ) (N : List Entry) (D hs : List ℕ) (ls : List Loc) → e.at ≡ rooted r k → Watch N D hs ls
    → Watch (e ∷ N) (r ∷ D) hs ls
watch_box e r k N D hs ls at-is w = record { names = p.names; values = p.values; boxes = bx }
  where
    p : Watch (e ∷ N) D hs ls
    p = watch_push (e ∷ []) N D hs ls w

    bx : (i : ℕ) → Has i (r ∷ D) → BoxIn (e ∷ N) i
    bx i (has_this x) = (e, k, inl refl, at-is ∙ ap (λ z. rooted z k) x)
    bx i (has_rest h) = p.boxes i h
