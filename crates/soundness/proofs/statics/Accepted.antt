-- Static: what an accepted program says of its functions, of its data and of their last functions.
use mathlib.Core.Bool.{Bool, true, false, ◌&&◌}
use mathlib.Core.List.{List, [], ◌∷◌}
use mathlib.Core.Logic.{◌⊎◌, inl, inr}
use mathlib.Core.Option.{Option, some, none}
use mathlib.Core.Path.{◌≡◌, refl, sym, ◌∙◌, ap, subst}
use lib.Dec.{eqb, leb}
use lib.ListN.{length}
use Rattle.language.specs.Base.{choose, from_option, Lexeme, same, each_of, no_twice}
use Rattle.language.specs.Syntax.{Ty, int, dat, mut, Body, Data, Fn, Prog, Param, Ctor}
use Rattle.language.specs.Checks.{ok_fn, fn_named, home_of, types_of_pars, same_ty, owned, size_of, Home, ctor_named, ok_ctor, ok_data, pars_env, ref_pars, names_of_pars, well_made, is_body}
use Rattle.language.specs.Checks as ch
use Rattle.soundness.specs.Borrows.{In}
use Rattle.soundness.proofs.Basics.{no_some, some_is, true_false, and_left, and_right, each_in}
use Rattle.soundness.proofs.statics.Rules.{same_ty_is}

-- a constructor's fields are owned
ctor_in : (ks : List Ctor) (k : Lexeme) (y : Ctor) → ctor_named ks k ≡ some y → In y ks
ctor_in [] k y e = absurd (no_some e)
ctor_in (x ∷ ks) k y e = go (Rattle.language.specs.Base.same x.name k) e (ctor_in ks k y)
  where
    go : (o : Bool) → choose o (some x) (ctor_named ks k) ≡ some y → (ctor_named ks k ≡ some y → In y ks) → (y ≡ x) ⊎ In y ks
    go true h f = inl (sym (some_is h))
    go false h f = inr (f h)

pub home_in : (ds : List Data) (k : Lexeme) (h : Home) → home_of ds k ≡ some h → In h.data1 ds × In h.ctor1 h.data1.ctors
home_in [] k h e = absurd (no_some e)
home_in (d ∷ ds) k h e = go (ctor_named d.ctors k) (ctor_in d.ctors k) e (home_in ds k h)
  where
    go : (o : Option Ctor) → ((y : Ctor) → o ≡ some y → In y d.ctors)
        → from_option o (home_of ds k) (λ y. some (record { data1 = d; ctor1 = y })) ≡ some h
        → (home_of ds k ≡ some h → In h.data1 ds × In h.ctor1 h.data1.ctors)
        → ((h.data1 ≡ d) ⊎ In h.data1 ds) × In h.ctor1 h.data1.ctors
    go none f e1 r = let z = r e1 in (inr z.0, z.1)
    go (some y) f e1 r = let z = some_is e1 in (inl (sym (ap (λ i. i.data1) z)), subst (λ i. In i.ctor1 i.data1.ctors) z (f y refl))

each_less : (f g : Ty → Bool) (ts : List Ty) → each_of (λ t. f t && g t) ts ≡ true → each_of f ts ≡ true
each_less f g [] e = refl
each_less f g (t ∷ ts) e =
    ap (λ z. z && each_of f ts) (and_left (f t) (g t) (and_left (f t && g t) (each_of (λ u. f u && g u) ts) e)) ∙ each_less f g ts
    (and_right (f t && g t) (each_of (λ u. f u && g u) ts) e)

-- what 'ok' says
pub record Okay (q : Prog) : Type 0 where
  pub data_names : no_twice (ch.names_of_datas q.datas) ≡ true
  pub ctor_names : no_twice (ch.every_ctor_name q.datas) ≡ true
  pub fn_names : no_twice (ch.names_of_fns q.funs) ≡ true
  pub datas1 : each_of (ok_data q) q.datas ≡ true
  pub funs1 : each_of (ok_fn q) q.funs ≡ true
  pub main1 : from_option (fn_named q.funs ch.w_main) false ch.is_main ≡ true

six : (z1 z2 z3 z4 z5 z6 : Bool) → (z1 && (z2 && (z3 && (z4 && (z5 && z6))))) ≡ true
    → (z1 ≡ true) × (z2 ≡ true) × (z3 ≡ true) × (z4 ≡ true) × (z5 ≡ true) × (z6 ≡ true)
six true true true true true z6 e = (refl, refl, refl, refl, refl, e)
six true true true true false z6 e = absurd (true_false (sym e))
six true true true false z5 z6 e = absurd (true_false (sym e))
six true true false z4 z5 z6 e = absurd (true_false (sym e))
six true false z3 z4 z5 z6 e = absurd (true_false (sym e))
six false z2 z3 z4 z5 z6 e = absurd (true_false (sym e))

pub okay : (q : Prog) → ch.accepts q ≡ true → Okay q
okay q o =
    let k = six (no_twice (ch.names_of_datas q.datas)) (no_twice (ch.every_ctor_name q.datas)) (no_twice (ch.names_of_fns q.funs))
    (each_of (ok_data q) q.datas) (each_of (ok_fn q) q.funs) (from_option (fn_named q.funs ch.w_main) false ch.is_main) o in
    record { data_names = k.0; ctor_names = k.1; fn_names = k.2; datas1 = k.3; funs1 = k.4; main1 = k.5 }

pub datas_ok : (q : Prog) → ch.accepts q ≡ true → (d : Data) → In d q.datas → ok_data q d ≡ true
datas_ok q o d i = each_in (ok_data q) q.datas d (okay q o).datas1 i

pub fields_owned : (q : Prog) → ch.accepts q ≡ true → (k : Lexeme) (h : Home) → home_of q.datas k ≡ some h
    → each_of owned h.ctor1.fields ≡ true
fields_owned q o k h e =
    let i = home_in q.datas k h e in
    let od = datas_ok q o h.data1 i.0 in
    let oc = each_in (ok_ctor q.datas) h.data1.ctors h.ctor1
    (and_left (each_of (ok_ctor q.datas) h.data1.ctors)
    (ch.ok_last q h.data1 && from_option (size_of q.datas (dat h.data1.name)) false (λ z. lib.Dec.leb z 4096)) od) i.1 in
    each_less owned (ch.well_made q.datas) h.ctor1.fields
    (and_right (lib.Dec.leb (length h.ctor1.fields) 8) (each_of (λ t. owned t && ch.well_made q.datas t) h.ctor1.fields) oc)

pub fn_in : (fs : List Fn) (w : Lexeme) (f : Fn) → fn_named fs w ≡ some f → In f fs
fn_in [] w f e = absurd (no_some e)
fn_in (g ∷ fs) w f e = go (same g.name w) e (fn_in fs w f)
  where
    go : (z : Bool) → choose z (some g) (fn_named fs w) ≡ some f → (fn_named fs w ≡ some f → In f fs) → (f ≡ g) ⊎ In f fs
    go true e1 r = inl (sym (some_is e1))
    go false e1 r = inr (r e1)

pub fns_ok : (q : Prog) → ch.accepts q ≡ true → (w : Lexeme) (f : Fn) → fn_named q.funs w ≡ some f → ok_fn q f ≡ true
fns_ok q o w f e = each_in (ok_fn q) q.funs f (okay q o).funs1 (fn_in q.funs w f e)

-- a data type's last function: of one parameter, a mut of it; an int
abbrev LastOf : Prog → Data → Fn → Type 0
LastOf q d f = (types_of_pars f.pars ≡ mut (dat d.name) ∷ []) × (f.ret ≡ int)

last_of : (q : Prog) (d : Data) (nm : Lexeme) (ps : List Param) (r : Ty) (bd : Body) → eqb (length d.last) 0 ≡ false → ch.ok_last q d ≡ true
    → fn_named q.funs d.last ≡ some (record { name = nm; pars = ps; ret = r; does = bd })
    → LastOf q d (record { name = nm; pars = ps; ret = r; does = bd })
last_of q d nm [] r bd ne o e = absurd (true_false (sym (rw (ne, e) at o)))
last_of q d nm (x ∷ []) r bd ne o e =
    let g : (same_ty x.ty (mut (dat d.name)) && same_ty r int) ≡ true = rw (ne, e) at o in
    (ap {B = List Ty} (λ z. z ∷ []) (same_ty_is x.ty (mut (dat d.name)) (and_left _ _ g)), same_ty_is r int (and_right _ _ g))
last_of q d nm (x ∷ y ∷ ps) r bd ne o e = absurd (true_false (sym (rw (ne, e) at o)))

three : (z1 z2 z3 : Bool) → (z1 && (z2 && z3)) ≡ true → (z1 ≡ true) × (z2 ≡ true) × (z3 ≡ true)
three true true z3 e = (refl, refl, e)
three true false z3 e = absurd (true_false (sym e))
three false z2 z3 e = absurd (true_false (sym e))

data_last : (q : Prog) → ch.accepts q ≡ true → (d : Data) → In d q.datas → ch.ok_last q d ≡ true
data_last q o d i =
    (three (each_of (ch.ok_ctor q.datas) d.ctors) (ch.ok_last q d) (from_option (ch.size_of q.datas (dat d.name)) false (λ z. leb z 4096))
    (datas_ok q o d i)).1

pub last_fn : (q : Prog) → ch.accepts q ≡ true → (d : Data) → In d q.datas → eqb (length d.last) 0 ≡ false
    → (f : Fn) × (fn_named q.funs d.last ≡ some f) × (ok_fn q f ≡ true) × LastOf q d f
last_fn q o d i ne = go (fn_named q.funs d.last) refl
  where
    go : (x : Option Fn) → fn_named q.funs d.last ≡ x → (f : Fn) × (fn_named q.funs d.last ≡ some f) × (ok_fn q f ≡ true) × LastOf q d f
    go none e = absurd (true_false (sym (let z : ch.ok_last q d ≡ true = data_last q o d i in rw (ne, e) at z)))
    go (some f) e = (f, e, fns_ok q o d.last f e, last_of q d f.name f.pars f.ret f.does ne (data_last q o d i) e)

-- a function that is right: its parameters' names differ, and its body is right
pub body_right : (q : Prog) (f : Fn) → ok_fn q f ≡ true
    → (no_twice (names_of_pars f.pars) ≡ true) × (is_body q (ref_pars f.pars) f.ret (pars_env f.pars []) f.does ≡ true)
body_right q f e =
    let made = each_of (well_made q.datas) (f.ret ∷ types_of_pars f.pars) in
    let right = is_body q (ref_pars f.pars) f.ret (pars_env f.pars []) f.does in
    (and_left (no_twice (names_of_pars f.pars)) (made && right) e, and_right made right (and_right (no_twice (names_of_pars f.pars)) (made && right) e))
