-- How a table of sizes is made: what is known stays known, one more from a round, until a round adds nothing.
use Rattle.std.proofs.Common.{◌≡◌, ℕ, ◌+◌, Bool, true, false, ◌&&◌, ltb, List, [], ◌∷◌, sym, refl, ap, ◌∙◌, ap₂}
use mathlib.Core.Option.{Option, some, none}
use Rattle.language.specs.Base.{choose, if_some, present, each_of, Lexeme, same}
use Rattle.language.specs.Syntax.{Ty, int, dat, box, ref, mut, Ctor, Data}
use Rattle.language.specs.Checks.{data_named, ok_ctor}
use Rattle.tables.specs.Heads.{Sig}
use Rattle.tables.specs.Rest.{ok_drop, ok_decl}
use Rattle.tables.specs.Sizes.{Sizes, size_by, fields_by, ctors_by, cap, data_by, round, Fixed}
use Rattle.tables.proofs.SizeFuel.{Below, none_some, if_inv, same_is}
use Rattle.tables.proofs.SizesOk.{size_is}

size_below : (s u : Sizes) → Below s u → (t : Ty) (a : ℕ) → size_by s t ≡ some a → size_by u t ≡ some a
size_below s u h int a e = e
size_below s u h (dat w) a e = h w a e
size_below s u h (box t) a e = e
size_below s u h (ref t) a e = e
size_below s u h (mut t) a e = e

fields_below : (s u : Sizes) → Below s u → (ts : List Ty) (b : ℕ) → fields_by s ts ≡ some b → fields_by u ts ≡ some b
fields_below s u h [] b e = e
fields_below s u h (t ∷ ts) b e =
    let p = if_inv (size_by s t) (λ a. if_some (fields_by s ts) (λ b. some (a + b))) b e in
    let q = if_inv (fields_by s ts) (λ b. some (p.0 + b)) b p.2 in
    rw (size_below s u h t p.0 p.1, fields_below s u h ts q.0 q.1) q.2

ctors_below : (s u : Sizes) → Below s u → (ks : List Ctor) (b : ℕ) → ctors_by s ks ≡ some b → ctors_by u ks ≡ some b
ctors_below s u h [] b e = e
ctors_below s u h (k ∷ ks) b e =
    let p = if_inv (fields_by s k.fields) (λ a. if_some (ctors_by s ks) (λ b. some (choose (ltb a b) b a))) b e in
    let q = if_inv (ctors_by s ks) (λ b. some (choose (ltb p.0 b) b p.0)) b p.2 in
    rw (fields_below s u h k.fields p.0 p.1, ctors_below s u h ks q.0 q.1) q.2

pub round_below : (ds : List Data) (s u : Sizes) → Below s u → Below (round ds s) (round ds u)
round_below ds s u h w m e =
    let p = if_inv (data_named ds w) (λ d. data_by s d) m e in
    let q = if_inv (ctors_by s p.0.ctors) (λ b. cap (1 + b)) m p.2 in
    rw (p.1, ctors_below s u h p.0.ctors q.0 q.1) q.2

-- no size is known
abbrev pub unknown : Sizes
unknown w = none

pub start_below : (ds : List Data) → Below unknown (round ds unknown)
start_below ds w m e = none_some e

-- one that wasn't known gets what a round says
abbrev pub put_size : Sizes → Lexeme → Option ℕ → Sizes
put_size s x o w = choose (same x w) o (s w)

pub put_below : (ds : List Data) (s : Sizes) (x : Lexeme) → s x ≡ none → Below s (round ds s) → Below (put_size s x (round ds s x)) (round ds (put_size s x (round ds s x)))
put_below ds s x h b w m e = round_below ds s (put_size s x (round ds s x)) grown w m (at (same x w) refl e)
  where
    at : (c : Bool) → same x w ≡ c → choose c (round ds s x) (s w) ≡ some m → round ds s w ≡ some m
    at true q e = ap (round ds s) (sym (same_is x w q)) ∙ e
    at false q e = b w m e

    grown : Below s (put_size s x (round ds s x))
    grown v k f = here (same x v) refl
      where
        here : (c : Bool) → same x v ≡ c → choose c (round ds s x) (s v) ≡ some k
        here true q = none_some (sym h ∙ ap s (same_is x v q) ∙ f)
        here false q = f

-- nothing to add: for each that isn't known a round says nothing
pub all_put : (ds : List Data) (s : Sizes) → Below s (round ds s) → ((w : Lexeme) → s w ≡ none → round ds s w ≡ none) → Fixed ds s
all_put ds s b h w = at (s w) refl
  where
    at : (o : Option ℕ) → s w ≡ o → o ≡ round ds s w
    at none e = sym (h w e)
    at (some m) e = sym (b w m e)

-- the declarations' test with the table in place of the definition's size
abbrev pub ok_decl_by : Sizes → List Data → List Sig → Data → Bool
ok_decl_by s ds ss d = each_of (ok_ctor ds) d.ctors && (ok_drop ss d && present (s d.name))

pub decls_by : (s : Sizes) (ds : List Data) (ss : List Sig) → Fixed ds s → (es : List Data) → each_of (ok_decl ds ss) es ≡ each_of (ok_decl_by s ds ss) es
decls_by s ds ss fx [] = refl
decls_by s ds ss fx (d ∷ es) = ap₂ (λ (b r : Bool). (each_of (ok_ctor ds) d.ctors && (ok_drop ss d && b)) && r) (size_is ds s fx d) (decls_by s ds ss fx es)
