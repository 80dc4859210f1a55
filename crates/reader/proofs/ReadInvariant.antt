-- The reader's invariant: what is due of the text stays what it was.
use Rattle.std.proofs.Common.{◌≡◌, ℕ, ◌+◌, ◌*◌, ◌≤◌, List, [], ◌∷◌, ◌++◌, length, sym, refl, ap, ◌∙◌, subst₂, arith}
use mathlib.Core.Option.{Option, some, none}
use Rattle.language.specs.Base.{from_option, if_some, Lexeme}
use Rattle.language.specs.Text.{Found, found, go_on, reads, tokenize, idle}
use Rattle.code.specs.Instr.{Instr, Item, gather}
use Rattle.reader.specs.Symbol.{Symbol, s_items, Action, fail, push, emit, step}
use Rattle.reader.specs.Reader.{Coded}
use Rattle.reader.proofs.Ranks.{rank}
use Rattle.reader.proofs.Flat.{flat_items, flat_code}
use Rattle.reader.proofs.ReadSymbol.{read_symbol, read_symbols, act, spent, items_of}
use Rattle.reader.proofs.ReadItem.{gathered}
use Rattle.reader.proofs.ReadStep.{reads_on}
use Rattle.reader.proofs.Bounds.{Ranks, Within, within}

-- a symbol with the fuel that the definition reads it with
pub record Due : Type 0 where
  pub fuel : ℕ
  pub sym : Symbol

abbrev pub all_at : ℕ → List Symbol → List Due → List Due
all_at f [] k = k
all_at f (s ∷ ss) k = record { fuel = f; sym = s } ∷ all_at f ss k

abbrev pub syms : List Due → List Symbol
syms [] = []
syms (d ∷ k) = d.sym ∷ syms k

abbrev pub Enough : ℕ → List Due → Type 0
Enough n [] = Unit {0}
Enough n (d ∷ k) = (rank d.sym + 16 * n ≤ d.fuel) × Enough n k

-- what all that is due reads
abbrev pub due : List Due → List Lexeme → List Instr → Option (Found (List Instr))
due [] ts o = found o ts
due (d ∷ k) ts o = go_on (read_symbol d.sym d.fuel ts o) (λ o1 r. due k r o1)

pub fewer : (m n : ℕ) (k : List Due) → m ≤ n → Enough n k → Enough m k
fewer m n [] h e = tt
fewer m n (d ∷ k) h e = (let a = e.0 in omega arith, fewer m n k h e.1)

pub put_on : (f n : ℕ) (ss : List Symbol) (k : List Due) → Ranks f n ss → Enough n k → Enough n (all_at f ss k)
put_on f n [] k r e = e
put_on f n (s ∷ ss) k r e = (r.0, put_on f n ss k r.1 e)

pub syms_at : (f : ℕ) (ss : List Symbol) (k : List Due) → syms (all_at f ss k) ≡ ss ++ syms k
syms_at f [] k = refl
syms_at f (s ∷ ss) k = ap (λ (r : List Symbol). s ∷ r) (syms_at f ss k)

assoc : {A B C : Type 0} (m : Option (Found A)) (fun : A → List Lexeme → Option (Found B))
    (on : B → List Lexeme → Option C) → go_on (go_on m fun) on ≡ go_on m (λ a r. go_on (fun a r) on)
assoc none fun on = refl
assoc (some g) fun on = refl

same_on : {A C : Type 0} (m : Option (Found A)) (fun fun' : A → List Lexeme → Option C) →
    ((a : A) (r : List Lexeme) → fun a r ≡ fun' a r) → go_on m fun ≡ go_on m fun'
same_on none fun fun' h = refl
same_on (some g) fun fun' h = h g.what g.behind

pub due_at : (f : ℕ) (ss : List Symbol) (k : List Due) (ts : List Lexeme) (o : List Instr) →
    go_on (read_symbols f ss ts o) (λ o1 r. due k r o1) ≡ due (all_at f ss k) ts o
due_at f [] k ts o = refl
due_at f (s ∷ ss) k ts o = assoc (read_symbol s f ts o) (λ o1 r. read_symbols f ss r o1) (λ o1 r. due k r o1)
    ∙ same_on (read_symbol s f ts o) _ _ (λ o1 r. due_at f ss k r o1)

-- the machine has these symbols left, these tokens and this output; t is what the definition reads in the end
pub record Good (t : Option (Found (List Instr))) (stack : List Symbol) (ts : List Lexeme)
    (o : List Instr) : Type 0 where
  pub dues : List Due
  pub are : syms dues ≡ stack
  pub enough : Enough (length ts) dues
  pub reads_it : due dues ts o ≡ t

-- after a step
abbrev pub Goes : Option (Found (List Instr)) → List Symbol → List Instr → Action → Type 0
Goes t k o fail = t ≡ none
Goes t k o (push ss ts) = Good t (ss ++ k) ts o
Goes t k o (emit i ts) = Good t k ts (o ++ (i ∷ []))

goes : (t : Option (Found (List Instr))) (n f b c y z : ℕ) (k : List Due) (o : List Instr) (d : Action) →
    Within n f b c y z d → Enough n k → go_on (act f o d) (λ o1 r. due k r o1) ≡ t → Goes t (syms k) o d
goes t n f b c y z k o fail w e q = sym q
goes t n f b c y z k o (push ss ts) w e q = record {
  dues = all_at f ss k;
  are = syms_at f ss k;
  enough =
      put_on f (length ts) ss k w.5 (fewer (length ts) n k w.0 e);
  reads_it = sym (due_at f ss k ts o)
      ∙ q;
}
goes t n f b c y z k o (emit i ts) w e q =
    record { dues = k; are = refl; enough = fewer (length ts) n k w.0 e; reads_it = q }

pub good_step : (t : Option (Found (List Instr))) (s : Symbol) (k : List Symbol) (ts : List Lexeme)
    (o : List Instr) → Good t (s ∷ k) ts o → Goes t k o (step s ts)
good_step t s k ts o g = at g.dues g.are g.enough g.reads_it
  where
    at : (ds : List Due) → syms ds ≡ s ∷ k → Enough (length ts) ds → due ds ts o ≡ t → Goes t k o (step s ts)
    at [] e n q = let z : ◌≡◌ {A = ℕ} 0 1 = cc in absurd (omega arith)
    at (d ∷ ds) e n q =
        let p : d.sym ≡ s = cc in
        let r : syms ds ≡ k = cc in
        subst₂ (λ (s1 : Symbol) (k1 : List Symbol). Goes t k1 o (step s1 ts)) p r
        (goes t (length ts) (spent d.sym d.fuel) _ _ _ _ ds o (step d.sym ts)
        (within d.sym d.fuel ts n.0) n.1
        (ap (λ (m : Option (Found (List Instr))). go_on m (λ o1 r1. due ds r1 o1))
        (sym (reads_on d.sym d.fuel ts o n.0)) ∙ q))

pub good_end : (t : Option (Found (List Instr))) (ts : List Lexeme) (o : List Instr) → Good t [] ts o → t
    ≡ found o ts
good_end t ts o g = at g.dues g.are g.reads_it
  where
    at : (ds : List Due) → syms ds ≡ [] → due ds ts o ≡ t → t ≡ found o ts
    at [] e q = sym q
    at (d ∷ ds) e q = let z : ◌≡◌ {A = ℕ} 0 1 = cc in absurd (omega arith)

-- what the whole text is to give
abbrev pub target : List Lexeme → Option (Found (List Instr))
target ts = read_symbol s_items (16 * (1 + length ts)) ts []

pub good_start : (ts : List Lexeme) → Good (target ts) (s_items ∷ []) ts []
good_start ts = record {
  dues = record { fuel = 16 * (1 + length ts); sym = s_items } ∷ [];
  are = refl;
  enough =
      (omega arith, tt);
  reads_it = last (target ts);
}
  where
    last : (m : Option (Found (List Instr))) → go_on m (λ o1 r. found o1 r) ≡ m
    last none = refl
    last (some g) = refl

same_out : {a b : List Instr} {r l : List Lexeme} → found a r ≡ found b l → a ≡ b
same_out e = ap (λ (m : Option (Found (List Instr))). from_option m [] (λ g. g.what)) e

pub coded_of : (bytes : List ℕ) (o : List Instr) (left : List Lexeme) → target (tokenize idle bytes)
    ≡ found o left → Coded (reads bytes) o
coded_of bytes o left e = at (items_of fuel ts) e (gathered fuel ts [] [])
  where
    ts : List Lexeme
    ts = tokenize idle bytes

    fuel : ℕ
    fuel = 16 * (1 + length ts)

    at : (m : Option (List Item)) → if_some m (λ is. found (flat_items is) []) ≡ found o left → reads bytes
        ≡ if_some m (λ is. some (gather [] [] is)) → Coded (reads bytes) o
    at none e q = let z : ◌≡◌ {A = ℕ} 0 1 = cc in absurd (omega arith)
    at (some is1) e q = record { parts = is1; is = q; code = sym (same_out e) ∙ flat_code is1 }

pub read_done : (bytes : List ℕ) (left : List Lexeme) (o : List Instr) →
    Good (target (tokenize idle bytes)) [] left o → Coded (reads bytes) o
read_done bytes left o g = coded_of bytes o left (good_end (target (tokenize idle bytes)) left o g)

pub read_failed : (bytes : List ℕ) → target (tokenize idle bytes) ≡ none → reads bytes ≡ none
read_failed bytes e = at (items_of fuel ts) e (gathered fuel ts [] [])
  where
    ts : List Lexeme
    ts = tokenize idle bytes

    fuel : ℕ
    fuel = 16 * (1 + length ts)

    at : (m : Option (List Item)) → if_some m (λ is. found (flat_items is) []) ≡ none → reads bytes
        ≡ if_some m (λ is. some (gather [] [] is)) → reads bytes ≡ none
    at none e q = q
    at (some is1) e q = let z : ◌≡◌ {A = ℕ} 0 1 = cc in absurd (omega arith)
