-- Looking a name up among what stands at the numbers of a range.
use Rattle.std.proofs.Common.{◌≡◌, ℕ, zero, suc, ◌+◌, ◌-◌, ◌<◌, Bool, true, false, sym, refl, ap, ◌∙◌}
use mathlib.Core.Option.{Option, some, none}
use Rattle.language.specs.Base.{choose, from_option, if_some, Lexeme, same}
use Rattle.language.specs.Syntax.{Ctor, Data}
use Rattle.language.specs.Checks.{data_named, ctor_named, Home, home_of}
use Rattle.tables.specs.declared.span.Span.{Span}
use Rattle.tables.specs.Index.{span, each_from, first_from, all_in, first_in}
use Rattle.tables.specs.Heads.{Sig, sig_named}
use Rattle.tables.proofs.Index.{each_step, from_zero}

-- the first of that name, from its number
pub data_first : (f : ℕ → Data) (w : Lexeme) (i n : ℕ) → data_named (each_from f i n) w ≡ if_some (first_from (λ k. same (f k).name w) i n) (λ k. some (f k))
data_first f w i zero = refl
data_first f w i (suc n) = at (same (f i).name w) (data_first f w (suc i) n)
  where
    at : (b : Bool) → data_named (each_from f (suc i) n) w ≡ if_some (first_from (λ k. same (f k).name w) (suc i) n) (λ k. some (f k)) → choose b (some (f i)) (data_named (each_from f (suc i) n) w) ≡ if_some (choose b (some i) (first_from (λ k. same (f k).name w) (suc i) n)) (λ k. some (f k))
    at true h = refl
    at false h = h

ctor_first : (f : ℕ → Ctor) (w : Lexeme) (i n : ℕ) → ctor_named (each_from f i n) w ≡ if_some (first_from (λ k. same (f k).name w) i n) (λ k. some (f k))
ctor_first f w i zero = refl
ctor_first f w i (suc n) = at (same (f i).name w) (ctor_first f w (suc i) n)
  where
    at : (b : Bool) → ctor_named (each_from f (suc i) n) w ≡ if_some (first_from (λ k. same (f k).name w) (suc i) n) (λ k. some (f k)) → choose b (some (f i)) (ctor_named (each_from f (suc i) n) w) ≡ if_some (choose b (some i) (first_from (λ k. same (f k).name w) (suc i) n)) (λ k. some (f k))
    at true h = refl
    at false h = h

sig_first : (f : ℕ → Sig) (w : Lexeme) (i n : ℕ) → sig_named (each_from f i n) w ≡ if_some (first_from (λ k. same (f k).name w) i n) (λ k. some (f k))
sig_first f w i zero = refl
sig_first f w i (suc n) = at (same (f i).name w) (sig_first f w (suc i) n)
  where
    at : (b : Bool) → sig_named (each_from f (suc i) n) w ≡ if_some (first_from (λ k. same (f k).name w) (suc i) n) (λ k. some (f k)) → choose b (some (f i)) (sig_named (each_from f (suc i) n) w) ≡ if_some (choose b (some i) (first_from (λ k. same (f k).name w) (suc i) n)) (λ k. some (f k))
    at true h = refl
    at false h = h

pub data_is : (f : ℕ → Data) (w : Lexeme) (n : ℕ) (s : Span) (o : Option ℕ) → s ≡ span 0 n → first_in (λ k. same (f k).name w) s ≡ o → data_named (each_from f 0 n) w ≡ if_some o (λ k. some (f k))
data_is f w n s o h e = data_first f w 0 n ∙ ap (λ o. if_some o (λ k. some (f k))) (sym (from_zero _ n s h) ∙ e)

pub ctor_is : (f : ℕ → Ctor) (w : Lexeme) (s : Span) (o : Option ℕ) → first_in (λ k. same (f k).name w) s ≡ o → ctor_named (all_in f s) w ≡ if_some o (λ k. some (f k))
ctor_is f w s o e = ctor_first f w s.first (s.end - s.first) ∙ ap (λ o. if_some o (λ k. some (f k))) e

pub sig_is : (f : ℕ → Sig) (w : Lexeme) (n : ℕ) (s : Span) (o : Option ℕ) → s ≡ span 0 n → first_in (λ k. same (f k).name w) s ≡ o → sig_named (each_from f 0 n) w ≡ if_some o (λ k. some (f k))
sig_is f w n s o h e = sig_first f w 0 n ∙ ap (λ o. if_some o (λ k. some (f k))) (sym (from_zero _ n s h) ∙ e)

-- a turn of the loop over data that looks for a constructor
abbrev pub homes_from : (ℕ → Data) → ℕ → ℕ → Lexeme → Option Home
homes_from f i n c = home_of (each_from f i (n - i)) c

home_step : (f : ℕ → Data) (i n : ℕ) (c : Lexeme) → i < n → homes_from f i n c ≡ from_option (ctor_named (f i).ctors c) (homes_from f (i + 1) n c) (λ k. some (record { data1 = f i; ctor1 = k }))
home_step f i n c h = ap (λ ds. home_of ds c) (each_step f i n h)

pub home_hit : (f : ℕ → Data) (i n : ℕ) (c : Lexeme) (k : Ctor) (z : Option Home) → i < n → ctor_named (f i).ctors c ≡ some k → homes_from f i n c ≡ z → z ≡ some (record { data1 = f i; ctor1 = k })
home_hit f i n c k z h e q = sym q ∙ home_step f i n c h ∙ ap (λ o. from_option o (homes_from f (i + 1) n c) (λ k. some (record { data1 = f i; ctor1 = k }))) e

pub home_miss : (f : ℕ → Data) (i n : ℕ) (c : Lexeme) (z : Option Home) → i < n → ctor_named (f i).ctors c ≡ none → homes_from f i n c ≡ z → homes_from f (i + 1) n c ≡ z
home_miss f i n c z h e q = sym (home_step f i n c h ∙ ap (λ o. from_option o (homes_from f (i + 1) n c) (λ k. some (record { data1 = f i; ctor1 = k }))) e) ∙ q
