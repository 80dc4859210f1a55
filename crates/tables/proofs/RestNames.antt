-- The names that tables have, as the definitions list them.
use Rattle.std.proofs.Common.{◌≡◌, ℕ, zero, suc, ◌+◌, ◌-◌, ◌<◌, ◌≤◌, Bool, true, false, not, ◌&&◌, ◌||◌, eqb, List, [], ◌∷◌, ◌++◌, get_or, sym, refl, ap, ◌∙◌, ap₂, arith, eqb→eq}
use mathlib.Core.Option.{Option, some, none}
use lib.Dec.{eqb_refl}
use Rattle.language.specs.Base.{choose, if_some, present, each_of, Lexeme, same, is_in, no_twice}
use Rattle.language.specs.Syntax.{Ctor, Data}
use Rattle.language.specs.Checks.{names_of_ctors, names_of_datas, every_ctor_name, ok_ctor}
use Rattle.tables.specs.declared.tables.Tables.{Tables}
use Rattle.tables.specs.declared.span.Span.{Span}
use Rattle.tables.specs.Index.{span, each_from, first_from, all_in}
use Rattle.tables.specs.Rows.{declared_row, end_before}
use Rattle.tables.specs.Heads.{Sig, names_of_sigs}
use Rattle.tables.specs.Sizes.{Fixed}
use Rattle.tables.specs.Known.{known, sizes_in}
use Rattle.tables.specs.Rest.{ok_drop, ok_decl, ok_main, ok_rest}
use Rattle.tables.specs.Tables.{datas_in, sigs_in, the_data, the_ctor, the_sig}
use Rattle.tables.specs.Asked.{decl_at, decls_in}
use Rattle.tables.proofs.SizeFuel.{is_true, is_T}
use Rattle.tables.proofs.SizesOk.{size_is}

from_start : {A : Type 0} (f : ℕ → A) (n : ℕ) (s : Span) → s ≡ span 0 n → all_in f s ≡ each_from f 0 n
from_start f n s h = let e : n - 0 ≡ n = omega arith in ap (all_in f) h ∙ ap (each_from f 0) e

datas_names : (f : ℕ → Data) (i n : ℕ) → names_of_datas (each_from f i n) ≡ each_from (λ k. (f k).name) i n
datas_names f i zero = refl
datas_names f i (suc n) = ap (λ (ws : List Lexeme). (f i).name ∷ ws) (datas_names f (suc i) n)

sigs_names : (f : ℕ → Sig) (i n : ℕ) → names_of_sigs (each_from f i n) ≡ each_from (λ k. (f k).name) i n
sigs_names f i zero = refl
sigs_names f i (suc n) = ap (λ (ws : List Lexeme). (f i).name ∷ ws) (sigs_names f (suc i) n)

ctors_names : (f : ℕ → Ctor) (i n : ℕ) → names_of_ctors (each_from f i n) ≡ each_from (λ k. (f k).name) i n
ctors_names f i zero = refl
ctors_names f i (suc n) = ap (λ (ws : List Lexeme). (f i).name ∷ ws) (ctors_names f (suc i) n)

each_append : {A : Type 0} (f : ℕ → A) (a n m : ℕ) → each_from f a n ++ each_from f (a + n) m ≡ each_from f a (n + m)
each_append f a zero m = let e : a + 0 ≡ a = omega arith in let g : 0 + m ≡ m = omega arith in ap₂ (each_from f) e (sym g)
each_append f a (suc n) m =
    let e : a + suc n ≡ suc a + n = omega arith in
    let g : suc n + m ≡ suc (n + m) = omega arith in
    ap (λ j. (f a ∷ each_from f (suc a) n) ++ each_from f j m) e ∙ ap (λ xs. f a ∷ xs) (each_append f (suc a) n m) ∙ sym (ap (each_from f a) g)

pub datas_once : (t : Tables) (s : Span) → s ≡ span 0 t.done.datas → no_twice (names_of_datas (datas_in t)) ≡ no_twice (all_in (λ k. (the_data t k).name) s)
datas_once t s h = ap no_twice (datas_names (the_data t) 0 t.done.datas ∙ sym (from_start (λ k. (the_data t k).name) t.done.datas s h))

pub sigs_once : (t : Tables) (s : Span) → s ≡ span 0 t.done.fns → no_twice (names_of_sigs (sigs_in t)) ≡ no_twice (all_in (λ k. (the_sig t k).name) s)
sigs_once t s h = ap no_twice (sigs_names (the_sig t) 0 t.done.fns ∙ sym (from_start (λ k. (the_sig t k).name) t.done.fns s h))

-- constructors stand one behind the other
ends_grow : (t : Tables) (i n : ℕ) → i + n ≤ t.done.datas → end_before t.datas.now i ≤ end_before t.datas.now (i + n)
ends_grow t i zero h = let e : i + 0 ≡ i = omega arith in let f = ap (end_before t.datas.now) e in omega arith
ends_grow t i (suc n) h =
    let e : i + suc n ≡ suc (i + n) = omega arith in
    let f = ap (end_before t.datas.now) e in
    let a = ends_grow t i n (omega arith) in
    let b = t.data_joined (i + n) (omega arith) in
    let c = t.data_ordered (i + n) (omega arith) in
    omega arith

ctor_names_from : (t : Tables) (i n : ℕ) → i + n ≤ t.done.datas → every_ctor_name (each_from (the_data t) i n) ≡ each_from (λ k. (the_ctor t k).name) (end_before t.datas.now i) (end_before t.datas.now (i + n) - end_before t.datas.now i)
ctor_names_from t i zero h =
    let e : i + 0 ≡ i = omega arith in
    let z : end_before t.datas.now (i + 0) - end_before t.datas.now i ≡ 0 = (let f = ap (end_before t.datas.now) e in omega arith) in
    sym (ap (each_from (λ k. (the_ctor t k).name) (end_before t.datas.now i)) z)
ctor_names_from t i (suc n) h =
    let ws = t.datas.now in
    let nm : ℕ → Lexeme = λ k. (the_ctor t k).name in
    let e : suc i + n ≡ i + suc n = omega arith in
    let p = t.data_joined i (omega arith) in
    let o = t.data_ordered i (omega arith) in
    let g = ends_grow t (suc i) n (omega arith) in
    let q : (declared_row ws i).parts.first + ((declared_row ws i).parts.end - (declared_row ws i).parts.first) ≡ end_before ws (suc i) = omega arith in
    let m : ((declared_row ws i).parts.end - (declared_row ws i).parts.first) + (end_before ws (suc i + n) - end_before ws (suc i)) ≡ end_before ws (suc i + n) - (declared_row ws i).parts.first = omega arith in
    ap₂ (λ xs ys. xs ++ ys) (ctors_names (the_ctor t) (declared_row ws i).parts.first ((declared_row ws i).parts.end - (declared_row ws i).parts.first)) (ctor_names_from t (suc i) n (omega arith) ∙ ap (λ j. each_from nm j (end_before ws (suc i + n) - end_before ws (suc i))) (sym q))
    ∙ each_append nm (declared_row ws i).parts.first _ _ ∙ ap (each_from nm (declared_row ws i).parts.first) m ∙ ap₂ (λ j k. each_from nm j (end_before ws k - j)) p e

pub ctors_once : (t : Tables) (s : Span) → s ≡ span 0 t.done.ctors.first → no_twice (every_ctor_name (datas_in t)) ≡ no_twice (all_in (λ k. (the_ctor t k).name) s)
ctors_once t s h =
    let z : 0 + t.done.datas ≡ t.done.datas = omega arith in
    ap no_twice (ctor_names_from t 0 t.done.datas (omega arith) ∙ ap (λ k. each_from (λ k. (the_ctor t k).name) 0 (k - 0)) (ap (end_before t.datas.now) z ∙ sym t.data_end) ∙ sym (ap (all_in (λ k. (the_ctor t k).name)) h))

-- where no name is twice, each is the first of its name
same_self : (x : Lexeme) → same x x ≡ true
same_self [] = refl
same_self (a ∷ x) = ap₂ ◌&&◌ (is_true (eqb a a) (eqb_refl a)) (same_self x)

is_among : (f : ℕ → Lexeme) (x : Lexeme) (i n d : ℕ) → i ≤ d → d < i + n → is_in x (each_from f i n) ≡ false → same x (f d) ≡ false
is_among f x i zero d l h e = absurd (omega arith)
is_among f x i (suc n) d l h e = at (same x (f i)) refl e (λ l h q. is_among f x (suc i) n d l h q)
  where
    at : (b : Bool) → same x (f i) ≡ b → (b || is_in x (each_from f (suc i) n)) ≡ false → (suc i ≤ d → d < suc i + n → is_in x (each_from f (suc i) n) ≡ false → same x (f d) ≡ false) → same x (f d) ≡ false
    at true q e ih = absurd (is_T (sym e))
    at false q e ih = on (eqb i d) refl
      where
        on : (b : Bool) → eqb i d ≡ b → same x (f d) ≡ false
        on true r = ap (λ k. same x (f k)) (sym (eqb→eq i d (is_T r))) ∙ q
        on false r = ih (let ne : i ≡ d → ⊥ = λ s. absurd (is_T (sym r ∙ ap (eqb i) (sym s) ∙ is_true (eqb i i) (eqb_refl i))) in omega arith) (omega arith) e

first_own : (f : ℕ → Lexeme) (i n d : ℕ) → i ≤ d → d < i + n → no_twice (each_from f i n) ≡ true → first_from (λ k. same (f k) (f d)) i n ≡ some d
first_own f i zero d l h e = absurd (omega arith)
first_own f i (suc n) d l h e = on (eqb i d) refl (is_in (f i) (each_from f (suc i) n)) refl e (λ l h q. first_own f (suc i) n d l h q)
  where
    on : (b : Bool) → eqb i d ≡ b → (c : Bool) → is_in (f i) (each_from f (suc i) n) ≡ c → (not c && no_twice (each_from f (suc i) n)) ≡ true → (suc i ≤ d → d < suc i + n → no_twice (each_from f (suc i) n) ≡ true → first_from (λ k. same (f k) (f d)) (suc i) n ≡ some d) → first_from (λ k. same (f k) (f d)) i (suc n) ≡ some d
    on true r c q e ih =
        let s = eqb→eq i d (is_T r) in
        ap (λ b. choose b (some i) (first_from (λ k. same (f k) (f d)) (suc i) n)) (ap (λ k. same (f k) (f d)) s ∙ same_self (f d)) ∙ ap some s
    on false r true q e ih = absurd (is_T e)
    on false r false q e ih =
        let ne : i ≡ d → ⊥ = λ s. absurd (is_T (sym r ∙ ap (eqb i) (sym s) ∙ is_true (eqb i i) (eqb_refl i))) in
        ap (λ b. choose b (some i) (first_from (λ k. same (f k) (f d)) (suc i) n)) (is_among f (f i) (suc i) n d (omega arith) (omega arith) q) ∙ ih (omega arith) (omega arith) e

-- so a size is known by number exactly if it's known by name
decl_is : (t : Tables) (ws : List ℕ) (k : ℕ) → k < t.done.datas → no_twice (names_of_datas (datas_in t)) ≡ true → Fixed (datas_in t) (sizes_in t ws) → ok_decl (datas_in t) (sigs_in t) (the_data t k) ≡ decl_at t ws k
decl_is t ws k l h fx =
    let n = first_own (λ k. (the_data t k).name) 0 t.done.datas k (omega arith) (omega arith) (ap no_twice (sym (datas_names (the_data t) 0 t.done.datas)) ∙ h) in
    ap (λ (b : Bool). each_of (ok_ctor (datas_in t)) (the_data t k).ctors && (ok_drop (sigs_in t) (the_data t k) && b))
    (size_is (datas_in t) (sizes_in t ws) fx (the_data t k) ∙ ap (λ (o : Option ℕ). present (if_some o (λ j. known (get_or ws j 0)))) n ∙ at (eqb (get_or ws k 0) 0))
  where
    at : (b : Bool) → present (choose b none (some (get_or ws k 0))) ≡ not b
    at true = refl
    at false = refl

each_is : (t : Tables) (ws : List ℕ) (i n : ℕ) → i + n ≤ t.done.datas → no_twice (names_of_datas (datas_in t)) ≡ true → Fixed (datas_in t) (sizes_in t ws) → each_of (ok_decl (datas_in t) (sigs_in t)) (each_from (the_data t) i n) ≡ each_of (decl_at t ws) (each_from (λ k. k) i n)
each_is t ws i zero l h fx = refl
each_is t ws i (suc n) l h fx = ap₂ ◌&&◌ (decl_is t ws i (omega arith) h fx) (each_is t ws (suc i) n (omega arith) h fx)

pub decls_are : (t : Tables) (ws : List ℕ) → no_twice (names_of_datas (datas_in t)) ≡ true → Fixed (datas_in t) (sizes_in t ws) → each_of (ok_decl (datas_in t) (sigs_in t)) (datas_in t) ≡ decls_in t ws
decls_are t ws h fx = each_is t ws 0 t.done.datas (omega arith) h fx

-- what is asked besides bodies, by rows and numbers
swap : (a a' b b' c c' x y m : Bool) → a ≡ a' → b ≡ b' → c ≡ c' → (a ≡ true → x ≡ y) → (a && (b && (c && (x && m)))) ≡ (a' && (b' && (c' && (y && m))))
swap true a' b b' c c' x y m p q r h = ap₂ ◌&&◌ p (ap₂ ◌&&◌ q (ap₂ ◌&&◌ r (ap (λ z. z && m) (h refl))))
swap false a' b b' c c' x y m p q r h = ap (λ z. z && (b' && (c' && (y && m)))) p

pub rest_is : (t : Tables) (ws : List ℕ) (s u v : Span) → s ≡ span 0 t.done.datas → u ≡ span 0 t.done.ctors.first → v ≡ span 0 t.done.fns → Fixed (datas_in t) (sizes_in t ws) → ok_rest (datas_in t) (sigs_in t) ≡ (no_twice (all_in (λ k. (the_data t k).name) s) && (no_twice (all_in (λ k. (the_ctor t k).name) u) && (no_twice (all_in (λ k. (the_sig t k).name) v) && (decls_in t ws && ok_main (sigs_in t)))))
rest_is t ws s u v e f g fx = swap _ _ _ _ _ _ _ _ _ (datas_once t s e) (ctors_once t u f) (sigs_once t v g) (λ h. decls_are t ws h fx)
