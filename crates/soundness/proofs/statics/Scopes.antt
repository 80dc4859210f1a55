-- Static: statements only add names on top of the names before them, which keep name, type and loans; what outer, both and no_more_gone say of flags.
use mathlib.Core.Bool.{Bool, true, false, ◌||◌, not}
use mathlib.Core.List.{List, [], ◌∷◌, ◌++◌, append_assoc}
use mathlib.Core.Option.{Option, some, none}
use mathlib.Core.Path.{◌≡◌, refl, sym, ◌∙◌, ap, subst}
use Prim.Native.Nat.{ℕ}
use Rattle.language.specs.Base.{choose, from_option, Lexeme, same, only_if, present}
use Rattle.language.specs.Syntax.{Ty, int, dat, box, ref, mut, Access, Data, Prog, take, view, edit}
use Rattle.language.specs.Checks.{Loan, Var, Matched, loan, Env, look, fresh, set_gone, enter, outer, both, no_more_gone, bind_all, ref_of, looks_at}
use Rattle.language.specs.Checks.{matched, data_of, data_named}
use Rattle.language.specs.Meaning as me
use Rattle.soundness.specs.Borrows.{LevelLoan}
use Rattle.soundness.specs.Invariant.{Entry}
use Rattle.soundness.specs.Frames.{Scope, RefParams}
use Rattle.soundness.proofs.Basics.{no_some, some_is, only_is, true_false, or_left, or_right, and_left, and_right, same_is, same_self}
use Rattle.soundness.proofs.invariant.Flags.{Weaker}
use Rattle.soundness.proofs.statics.Exprs.{EnvLike, like_self, like_then, like_gone, fresh_like}
use Rattle.soundness.proofs.statics.FromCaller.{lent_like}

-- no name twice
abbrev pub Distinct : Env → Type 0
Distinct [] = Unit {0}
Distinct (v ∷ g) = (look g v.name ≡ none) × Distinct g

pub scope_distinct : (base : ℕ) (ln : List LevelLoan) (g : Env) (d : me.Env) (F : List Entry) → Scope base ln g d F → Distinct g
scope_distinct base ln [] d F m = tt
scope_distinct base ln (v ∷ g) [] F m = absurd m
scope_distinct base ln (v ∷ g) (i ∷ d) [] m = absurd m
scope_distinct base ln (v ∷ g) (i ∷ d) (e ∷ F) m = (m.0.fresh, scope_distinct base ln g d F m.1)

pub like_distinct : (g h : Env) → EnvLike g h → Distinct g → Distinct h
like_distinct [] [] k u = tt
like_distinct [] (w ∷ h) k u = absurd k
like_distinct (v ∷ g) [] k u = absurd k
like_distinct (v ∷ g) (w ∷ h) k u = (subst (λ z. look h z ≡ none) k.0 (fresh_like g h v.name k.3 u.0), like_distinct g h k.3 u.1)

pub like_sym : (g h : Env) → EnvLike g h → EnvLike h g
like_sym [] [] k = tt
like_sym [] (w ∷ h) k = absurd k
like_sym (v ∷ g) [] k = absurd k
like_sym (v ∷ g) (w ∷ h) k = (sym k.0, sym k.1, sym k.2, like_sym g h k.3)

-- Like of the part below
pub like_split : (K g h : Env) → EnvLike (K ++ g) h → (K2 : Env) × (g2 : Env) × (h ≡ K2 ++ g2) × EnvLike K K2 × EnvLike g g2
like_split [] g h k = ([], h, refl, tt, k)
like_split (v ∷ K) g [] k = absurd k
like_split (v ∷ K) g (w ∷ h) k = let r = like_split K g h k.3 in (w ∷ r.0, r.1, ap (λ z. w ∷ z) r.2, (k.0, k.1, k.2, r.3), r.4)

-- each name of g is found in h
abbrev pub LooksSame : Env → Env → Type 0
LooksSame [] h = Unit {0}
LooksSame (w ∷ g) h = (look h w.name ≡ some w) × LooksSame g h

look_push : (v : Var) (h : Env) (x : Lexeme) (w : Var) → look h v.name ≡ none → look h x ≡ some w → look (v ∷ h) x ≡ some w
look_push v h x w fr e = go (same v.name x) (same_is v.name x)
  where
    go : (o : Bool) → (o ≡ true → v.name ≡ x) → choose o (some v) (look h x) ≡ some w
    go true s = absurd (no_some (sym fr ∙ subst (λ z. look h z ≡ some w) (sym (s refl)) e))
    go false s = e

pub look_up : (K g : Env) (x : Lexeme) (w : Var) → Distinct (K ++ g) → look g x ≡ some w → look (K ++ g) x ≡ some w
look_up [] g x w u e = e
look_up (v ∷ K) g x w u e = look_push v (K ++ g) x w u.0 (look_up K g x w u.1 e)

seen_push : (v : Var) (g h : Env) → look h v.name ≡ none → LooksSame g h → LooksSame g (v ∷ h)
seen_push v [] h fr s = tt
seen_push v (w ∷ g) h fr s = (look_push v h w.name w fr s.0, seen_push v g h fr s.1)

pub seen_self : (g : Env) → Distinct g → LooksSame g g
seen_self [] u = tt
seen_self (w ∷ g) u = (ap (λ z. choose z (some w) (look g w.name)) (same_self w.name), seen_push w g g u.0 (seen_self g u.1))

pub seen_up : (K g : Env) → Distinct (K ++ g) → LooksSame g (K ++ g)
seen_up [] g u = seen_self g u
seen_up (v ∷ K) g u = seen_push v g (K ++ g) u.0 (seen_up K g u.1)

-- outer gives the older names as they are now
pub outer_is : (g g2 h : Env) → EnvLike g g2 → LooksSame g2 h → outer g h ≡ g2
outer_is [] [] h k s = refl
outer_is [] (w ∷ g2) h k s = absurd k
outer_is (v ∷ g) [] h k s = absurd k
outer_is (v ∷ g) (w ∷ g2) h k s =
    ap (λ z. from_option z v (λ y. y) ∷ outer g h) (ap (look h) k.0 ∙ s.0) ∙ ap (λ z. w ∷ z) (outer_is g g2 h k.3 s.1)

pub both_like : (g h : Env) → EnvLike g (both g h)
both_like [] h = tt
both_like (v ∷ g) h = (refl, refl, refl, both_like g h)

pub both_left : (g h : Env) → Weaker g (both g h)
both_left [] h = tt
both_left (v ∷ g) h = (refl, refl, refl, or_left v.gone (from_option (look h v.name) false (λ w. w.gone)), both_left g h)

both_seen : (g g2 h : Env) → EnvLike g g2 → LooksSame g2 h → Weaker g2 (both g h)
both_seen [] [] h k s = tt
both_seen [] (w ∷ g2) h k s = absurd k
both_seen (v ∷ g) [] h k s = absurd k
both_seen (v ∷ g) (w ∷ g2) h k s = (
  sym k.0,
  sym k.1,
  sym k.2,
  (λ e. or_right v.gone (from_option (look h v.name) false (λ y. y.gone))
      (ap (λ z. from_option (look h z) false (λ y. y.gone)) k.0 ∙ ap (λ z. from_option z false (λ y. y.gone)) s.0 ∙ e)),
  both_seen g g2 h k.3 s.1,
)

pub both_right : (g h : Env) → EnvLike g h → Distinct h → Weaker h (both g h)
both_right g h k u = both_seen g h h k (seen_self h u)

less_seen : (g g2 h : Env) → EnvLike g g2 → LooksSame g2 h → no_more_gone g h ≡ true → Weaker g2 g
less_seen [] [] h k s e = tt
less_seen [] (w ∷ g2) h k s e = absurd k
less_seen (v ∷ g) [] h k s e = absurd k
less_seen (v ∷ g) (w ∷ g2) h k s e = (
  sym k.0,
  sym k.1,
  sym k.2,
  (λ wg. go v.gone w.gone wg (ap (λ z. v.gone || not (from_option z true (λ y. y.gone))) (sym (ap (look h) k.0 ∙ s.0)) ∙ and_left
      (v.gone || not (from_option (look h v.name) true (λ y. y.gone))) (no_more_gone g h) e)),
  less_seen g g2 h k.3 s.1 (and_right (v.gone || not (from_option (look h v.name) true (λ y. y.gone))) (no_more_gone g h) e),
)
  where
    go : (a z : Bool) → z ≡ true → (a || not z) ≡ true → a ≡ true
    go true z e1 e2 = refl
    go false true e1 e2 = e2
    go false false e1 e2 = e1

-- nothing is gone in h that wasn't in g
pub not_more_gone : (g h : Env) → EnvLike g h → Distinct h → no_more_gone g h ≡ true → Weaker h g
not_more_gone g h k u e = less_seen g h h k (seen_self h u) e

-- newer names on top of the older ones
pub record Grows (g h : Env) : Type 0 where
  pub newer : Env
  pub older : Env
  pub is : h ≡ newer ++ older
  pub like : EnvLike g older
  pub distinct : Distinct h

pub grows_like : (g h : Env) → Distinct g → EnvLike g h → Grows g h
grows_like g h u k = record { newer = []; older = h; is = refl; like = k; distinct = like_distinct g h k u }

pub grows_then : (f g h : Env) → Grows f g → Grows g h → Grows f h
grows_then f g h a z =
    let r = like_split a.newer a.older z.older (subst (λ y. EnvLike y z.older) a.is z.like) in
    record {
      newer = z.newer ++ r.0;
      older = r.1;
      is = z.is ∙ ap (λ y. z.newer ++ y) r.2 ∙ sym (append_assoc z.newer r.0 r.1);
      like = like_then f a.older r.1 a.like r.4;
      distinct = z.distinct;
    }

pub fresh_none : (g : Env) (x : Lexeme) → fresh g x ≡ true → look g x ≡ none
fresh_none g x e = go (look g x) e
  where
    go : (o : Option Var) → not (present o) ≡ true → o ≡ none
    go none e1 = refl
    go (some v) e1 = absurd (true_false (sym e1))

pub grows_enter : (g h : Env) (x : Lexeme) (t : Ty) (ls : List Loan) → Grows g h → look h x ≡ none → Grows g (enter h x t ls)
grows_enter g h x t ls a e =
    record {
      newer = record { name = x; ty = t; gone = false; loans = ls } ∷ a.newer;
      older = a.older;
      is = ap
          (λ z. record { name = x; ty = t; gone = false; loans = ls } ∷ z) a.is;
      like = a.like;
      distinct = (e, a.distinct);
    }

-- what outer gives behind statements
pub outer_grows : (g h : Env) (a : Grows g h) → outer g h ≡ a.older
outer_grows g h a =
    outer_is g a.older h a.like (subst (LooksSame a.older) (sym a.is)
    (seen_up a.newer a.older (subst Distinct a.is a.distinct)))

pub outer_like : (g h : Env) → Grows g h → EnvLike g (outer g h)
outer_like g h a = subst (EnvLike g) (sym (outer_grows g h a)) a.like

-- .. of the lower part of the names
pub outer_part : (gk gh h : Env) → Grows (gk ++ gh) h → (K : Env) × (g2 : Env) × (h ≡ K ++ g2) × EnvLike gh g2 × (outer gh h ≡ g2)
outer_part gk gh h a =
    let r = like_split gk gh a.older a.like in
    let e : h ≡ (a.newer ++ r.0) ++ r.1 = a.is ∙ ap (λ y. a.newer ++ y) r.2 ∙ sym (append_assoc a.newer r.0 r.1) in (
      a.newer ++ r.0,
      r.1,
      e,
      r.4,
      outer_is gh r.1 h r.4
          (subst (LooksSame r.1) (sym e) (seen_up (a.newer ++ r.0) r.1 (subst Distinct e a.distinct))),
    )

pub grows_lent : (qs : List Lexeme) (g h : Env) → Grows g h → RefParams qs g → RefParams qs h
grows_lent qs g h a lp x i =
    let r = lent_like qs g a.older a.like lp x i in (
      r.0,
      subst (λ z. look z x ≡ some r.0) (sym a.is)
          (look_up a.newer a.older x r.0 (subst Distinct a.is a.distinct) r.1),
      r.2,
      r.3,
    )

-- the rules
pub bind_grows : (w : Access) (ls : List Loan) (g : Env) (xs : List Lexeme) (ts : List Ty) (h : Env) → Distinct g → bind_all w ls g xs ts ≡ some h
    → (K : Env) × (h ≡ K ++ g) × Distinct h
bind_grows w ls g [] [] h u e = ([], sym (some_is e), subst Distinct (some_is e) u)
bind_grows w ls g [] (t ∷ ts) h u e = absurd (no_some e)
bind_grows w ls g (x ∷ xs) [] h u e = absurd (no_some e)
bind_grows w ls g (x ∷ xs) (t ∷ ts) h u e =
    let o = only_is (fresh g x) (bind_all w ls (enter g x (ref_of w t) ls) xs ts) h e in
    let r = bind_grows w ls (enter g x (ref_of w t) ls) xs ts h (fresh_none g x o.0, u) o.1 in
    let v : Var = record { name = x; ty = ref_of w t; gone = false; loans = ls } in
    (r.0 ++ (v ∷ []), r.1 ∙ sym (append_assoc r.0 (v ∷ []) g), r.2)

matched_env : (o : Option Data) (ls : List Loan) (g : Env) (mm : Matched) → matched o ls g ≡ some mm → g ≡ mm.env
matched_env none ls g mm e = absurd (no_some e)
matched_env (some d) ls g mm e = ap (λ z. z.env) (some_is e)

looked : (z : Bool) (o : Option Data) (ls : List Loan) (g h : Env) (mm : Matched) → EnvLike g h → only_if z (matched o ls h) ≡ some mm
    → EnvLike g mm.env
looked z o ls g h mm k e = subst (EnvLike g) (matched_env o ls h mm (only_is z (matched o ls h) mm e).1) k

pub looks_like : (q : Prog) (g : Env) (v : Var) (w : Access) (t : Ty) (mm : Matched) → looks_at q g v w t ≡ some mm → EnvLike g mm.env
looks_like q g v take int mm e = absurd (no_some e)
looks_like q g v take (dat d) mm e =
    looked _ (data_named q.datas d) [] g (set_gone true g v.name) mm (like_gone true g v.name) e
looks_like q g v take (box t) mm e = absurd (no_some e)
looks_like q g v take (ref t) mm e = absurd (no_some e)
looks_like q g v take (mut t) mm e = absurd (no_some e)
looks_like q g v view int mm e = absurd (no_some e)
looks_like q g v view (dat d) mm e =
    looked _ (data_named q.datas d) (loan v.name false ∷ []) g g mm (like_self g) e
looks_like q g v view (box t) mm e = absurd (no_some e)
looks_like q g v view (ref t) mm e = looked _ (data_of q t) v.loans g g mm (like_self g) e
looks_like q g v view (mut t) mm e = looked _ (data_of q t) (loan v.name false ∷ []) g g mm (like_self g) e
looks_like q g v edit int mm e = absurd (no_some e)
looks_like q g v edit (dat d) mm e =
    looked _ (data_named q.datas d) (loan v.name true ∷ []) g g mm (like_self g) e
looks_like q g v edit (box t) mm e = absurd (no_some e)
looks_like q g v edit (ref t) mm e = absurd (no_some e)
looks_like q g v edit (mut t) mm e = looked _ (data_of q t) (loan v.name true ∷ []) g g mm (like_self g) e
