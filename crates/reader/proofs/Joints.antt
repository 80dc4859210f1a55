-- Tests and readings, split with the rest of both sides abstract: F of what the definition does is
-- G of what the step does.
use Rattle.std.proofs.Common.{◌≡◌, Bool, true, false, List, [], ◌∷◌, refl}
use mathlib.Core.Option.{Option, some, none}
use Rattle.language.specs.Base.{choose, from_option, Lexeme, same}
use Rattle.language.specs.Text.{Found, found, go_on, expect, read_name}
use Rattle.reader.specs.Symbol.{Action, fail, with_name, with_token}

pub ways : {A B C : Type 0} (F : A → C) (G : B → C) (b : Bool) {x y : A} {p q : B} → F x ≡ G p → F y ≡ G q →
    F (choose b x y) ≡ G (choose b p q)
ways F G true h k = h
ways F G false h k = k

pub chain : {A B C : Type 0} (m : Option (Found A)) (fun : A → List Lexeme → Option (Found B))
    (on : B → List Lexeme → Option C) (on' : A → List Lexeme → Option C) →
    ((a : A) (r : List Lexeme) → go_on (fun a r) on ≡ on' a r) → go_on (go_on m fun) on ≡ go_on m on'
chain none fun on on' h = refl
chain (some g) fun on on' h = h g.what g.behind

-- both sides go on from the same m
pub both : {A B B' C : Type 0} (m : Option (Found A)) (fun : A → List Lexeme → Option (Found B))
    (on : B → List Lexeme → Option C) (fun' : A → List Lexeme → Option (Found B'))
    (on' : B' → List Lexeme → Option C) →
    ((a : A) (r : List Lexeme) → go_on (fun a r) on ≡ go_on (fun' a r) on') → go_on (go_on m fun) on
    ≡ go_on (go_on m fun') on'
both none fun on fun' on' h = refl
both (some g) fun on fun' on' h = h g.what g.behind

pub signs : {A B C D : Type 0} (F : A → C) (G : B → C) (s : Option D) {x : A} {y : D → A} {p : B} {q : D → B} →
    F x ≡ G p → ((k : D) → F (y k) ≡ G (q k)) → F (from_option s x y) ≡ G (from_option s p q)
signs F G none h k = h
signs F G (some n) h k = k n

pub named : {A C : Type 0} (F : Option A → C) (G : Action → C) (ok : Lexeme → Bool) (ts : List Lexeme)
    (fun : Lexeme → List Lexeme → Option A) (fun' : Lexeme → List Lexeme → Action) → F none ≡ G fail →
    ((x : Lexeme) (r : List Lexeme) → F (fun x r) ≡ G (fun' x r)) → F (go_on (read_name ok ts) fun)
    ≡ G (with_name ok ts fun')
named F G ok [] fun fun' h k = h
named F G ok (t ∷ ts) fun fun' h k = here (ok t)
  where
    here : (b : Bool) → F (go_on (choose b (found t ts) none) fun) ≡ G (choose b (fun' t ts) fail)
    here true = k t ts
    here false = h

pub pasts : {A C : Type 0} (F : Option A → C) (G : Action → C) (w : Lexeme) (ts : List Lexeme)
    (fun : List Lexeme → Option A) (fun' : List Lexeme → Action) → F none ≡ G fail →
    ((r : List Lexeme) → F (fun r) ≡ G (fun' r)) → F (expect w ts fun) ≡ G (with_token w ts fun')
pasts F G w [] fun fun' h k = h
pasts F G w (t ∷ ts) fun fun' h k = ways F G (same w t) (k ts) h
