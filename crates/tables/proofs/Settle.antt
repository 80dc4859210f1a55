-- Sizes put into the table one by one: what is known stays sound, and where none can be told any more the table is fixed.
use Rattle.std.proofs.Common.{◌≡◌, ℕ, zero, suc, ◌+◌, ◌<◌, ◌≤◌, Bool, true, false, ◌||◌, eqb, ◌≢◌, ◌⊎◌, List, length, get_or, set, sym, refl, ap, ◌∙◌, subst, inl, inr, arith, eqb→eq, get_or-set_other, get_or-set_same}
use mathlib.Core.Option.{Option, some, none}
use Rattle.std.proofs.lemmas.Bool.{cases_eq}
use Rattle.language.specs.Base.{choose, if_some, Lexeme, same}
use Rattle.language.specs.Syntax.{Data}
use Rattle.language.specs.Checks.{data_named}
use Rattle.tables.specs.declared.tables.Tables.{Tables}
use Rattle.tables.specs.Sizes.{Sizes, ctors_by, cap, data_by, round, Fixed}
use Rattle.tables.specs.Tables.{datas_in, the_data, data_number}
use Rattle.tables.specs.Known.{known, sizes_in}
use Rattle.tables.specs.Settled.{Sound, unknowns, Settles, Stuck, Advances}
use Rattle.tables.proofs.Index.{first_inside}
use Rattle.tables.proofs.Look.{data_first}
use Rattle.tables.proofs.SizeFuel.{Below, some_same, none_some, if_inv, is_T, cap_inv}
use Rattle.tables.proofs.SizeRounds.{round_below, all_put}

known_some : (n m : ℕ) → known n ≡ some m → (n ≡ m) × (0 < n)
known_some n m e = at (eqb n 0) refl e
  where
    at : (b : Bool) → eqb n 0 ≡ b → choose b none (some n) ≡ some m → (n ≡ m) × (0 < n)
    at true q e = none_some e
    at false q e = (some_same e, pos n q)
      where
        pos : (n : ℕ) → eqb n 0 ≡ false → 0 < n
        pos zero q = absurd (is_T (sym q))
        pos (suc n) q = omega arith

known_none : (n : ℕ) → known n ≡ none → n ≡ 0
known_none n e = at (eqb n 0) refl e
  where
    at : (b : Bool) → eqb n 0 ≡ b → choose b none (some n) ≡ none → n ≡ 0
    at true q e = eqb→eq n 0 (is_T q)
    at false q e = none_some (sym e)

not_zero : (k : ℕ) → 0 < k → eqb k 0 ≡ false
not_zero k h = at (eqb k 0) refl
  where
    at : (b : Bool) → eqb k 0 ≡ b → b ≡ false
    at true q = let e = eqb→eq k 0 (is_T q) in absurd (omega arith)
    at false q = refl

-- a data type by its number
numbered : (t : Tables) (w : Lexeme) (o : Option ℕ) → data_number t w ≡ o → data_named (datas_in t) w ≡ if_some o (λ k. some (the_data t k))
numbered t w o e = data_first (the_data t) w 0 t.done.datas ∙ ap (λ o. if_some o (λ k. some (the_data t k))) e

round_at : (t : Tables) (s : Sizes) (w : Lexeme) (j : ℕ) → data_number t w ≡ some j → round (datas_in t) s w ≡ data_by s (the_data t j)
round_at t s w j e = ap (λ (o : Option Data). if_some o (λ d. data_by s d)) (numbered t w (some j) e)

data_pos : (s : Sizes) (d : Data) (k : ℕ) → data_by s d ≡ some k → 0 < k
data_pos s d k e =
    let p = if_inv (ctors_by s d.ctors) (λ m. cap (1 + m)) k e in
    let q = cap_inv (1 + p.0) k p.2 in
    let r = q.0 in
    omega arith

-- a size put in
put_sound : (t : Tables) (ws : List ℕ) (d k : ℕ) → d < length ws → get_or ws d 0 ≡ 0 → data_by (sizes_in t ws) (the_data t d) ≡ some k → Sound t ws → Sound t (set ws d k)
put_sound t ws d k l z e h w m f = round_below (datas_in t) s s' grown w m (new (data_number t w) refl (cases w) f)
  where
    s : Sizes
    s = sizes_in t ws

    s' : Sizes
    s' = sizes_in t (set ws d k)

    cases : (w : Lexeme) (j : ℕ) → (j ≡ d) ⊎ (j ≢ d)
    cases w j = cases_eq j d

    kept : (j : ℕ) → (j ≡ d → ⊥) → known (get_or (set ws d k) j 0) ≡ known (get_or ws j 0)
    kept j ne = ap known (get_or-set_other ws d j k 0 ne)

    grown : Below s s'
    grown v n g = at (data_number t v) g
      where
        at : (o : Option ℕ) → if_some o (λ j. known (get_or ws j 0)) ≡ some n → if_some o (λ j. known (get_or (set ws d k) j 0)) ≡ some n
        at none g = g
        at (some j) g = kept j (λ e. let p = known_some (get_or ws j 0) n g in let q = p.1 in let r : get_or ws j 0 ≡ 0 = ap (λ i. get_or ws i 0) e ∙ z in absurd (omega arith)) ∙ g

    new : (o : Option ℕ) → data_number t w ≡ o → ((j : ℕ) → (j ≡ d) ⊎ (j ≢ d)) → if_some o (λ j. known (get_or (set ws d k) j 0)) ≡ some m → round (datas_in t) s w ≡ some m
    new none q c f = none_some f
    new (some j) q c f = on (c j)
      where
        on : (j ≡ d) ⊎ (j ≢ d) → round (datas_in t) s w ≡ some m
        on (inl i) =
            let a = known_some _ m (ap (λ i. known (get_or (set ws d k) i 0)) (sym i) ∙ f) in
            let b : k ≡ m = sym (get_or-set_same ws d k 0 l) ∙ a.0 in
            round_at t s w j q ∙ ap (λ i. data_by s (the_data t i)) i ∙ e ∙ ap some b
        on (inr ne) = h w m (ap (λ o. if_some o (λ j. known (get_or ws j 0))) q ∙ sym (kept j ne) ∙ f)

unknown_other : (ws : List ℕ) (d k n : ℕ) → n ≤ d → unknowns (set ws d k) n ≡ unknowns ws n
unknown_other ws d k zero h = refl
unknown_other ws d k (suc n) h = let a = ap (λ x. choose {A = ℕ} (eqb x 0) 1 0) (get_or-set_other ws d n k 0 (λ e. omega arith)) in let b = unknown_other ws d k n (omega arith) in omega arith

pub unknown_put : (ws : List ℕ) (d k n : ℕ) → d < n → d < length ws → get_or ws d 0 ≡ 0 → 0 < k → unknowns (set ws d k) n + 1 ≡ unknowns ws n
unknown_put ws d k zero h l z p = absurd (omega arith)
unknown_put ws d k (suc n) h l z p = on (cases_eq d n) (λ h. unknown_put ws d k n h l z p)
  where
    on : (d ≡ n) ⊎ (d ≢ n) → (d < n → unknowns (set ws d k) n + 1 ≡ unknowns ws n) → unknowns (set ws d k) (suc n) + 1 ≡ unknowns ws (suc n)
    on (inl e) ih =
        let a : get_or (set ws d k) n 0 ≡ k = ap (λ i. get_or (set ws d k) i 0) (sym e) ∙ get_or-set_same ws d k 0 l in
        let b = ap (λ x. choose {A = ℕ} (eqb x 0) 1 0) a ∙ ap (λ (c : Bool). choose {A = ℕ} c 1 0) (not_zero k p) in
        let c : get_or ws n 0 ≡ 0 = ap (λ i. get_or ws i 0) (sym e) ∙ z in
        let f = ap (λ x. choose {A = ℕ} (eqb x 0) 1 0) c in
        let g = unknown_other ws d k n (omega arith) in
        omega arith
    on (inr ne) ih =
        let a = ap (λ x. choose {A = ℕ} (eqb x 0) 1 0) (get_or-set_other ws d n k 0 (λ e. ne (sym e))) in
        let b = ih (omega arith) in
        omega arith

-- the first d were settled
pub record Settling (t : Tables) (ws vs : List ℕ) (d : ℕ) (more : Bool) : Type 0 where
  pub sound : Sound t ws → Sound t vs
  pub fewer : unknowns vs t.done.datas + choose more 1 0 ≤ unknowns ws t.done.datas
  pub stuck : more ≡ false → (vs ≡ ws) × Stuck t ws d

pub settling_put : (t : Tables) (ws vs us : List ℕ) (d : ℕ) (more : Bool) → d < t.done.datas → d < length vs → Settles t d vs us true → Settling t ws vs d more → Settling t ws us (d + 1) true
settling_put t ws vs us d more l r h g =
    let k = h.0 in
    let p = data_pos (sizes_in t vs) (the_data t d) k h.3 in
    record {
      sound = λ s. subst (Sound t) (sym h.1) (put_sound t vs d k r h.2 h.3 (g.sound s));
      fewer = (let a = unknown_put vs d k t.done.datas l r h.2 p in let b = ap (λ ys. unknowns ys t.done.datas) h.1 in let c = g.fewer in let e = low more in omega arith);
      stuck = λ e. absurd (is_T (sym e));
    }
  where
    low : (b : Bool) → 0 ≤ choose {A = ℕ} b 1 0
    low b = omega arith

pub settling_past : (t : Tables) (ws vs us : List ℕ) (d : ℕ) (more : Bool) → Settles t d vs us false → Settling t ws vs d more → Settling t ws us (d + 1) more
settling_past t ws vs us d more h g = record {
  sound = λ s. subst (Sound t) (sym h.0) (g.sound s);
  fewer = (let b = ap (λ ys. unknowns ys t.done.datas) h.0 in let c = g.fewer in omega arith);
  stuck = λ e. (let p = g.stuck e in (h.0 ∙ p.0, λ k l z. on p (cases_eq k d) k refl l z));
}
  where
    on : (vs ≡ ws) × Stuck t ws d → {k : ℕ} → (k ≡ d) ⊎ (k ≢ d) → (j : ℕ) → j ≡ k → k < d + 1 → get_or ws k 0 ≡ 0 → data_by (sizes_in t ws) (the_data t k) ≡ none
    on p {k} (inl e) j q l z = ap (λ i. data_by (sizes_in t ws) (the_data t i)) e ∙ ap (λ ys. data_by (sizes_in t ys) (the_data t d)) (sym p.0) ∙ h.1 (ap (λ ys. get_or ys d 0) p.0 ∙ ap (λ i. get_or ws i 0) (sym e) ∙ z)
    on p {k} (inr ne) j q l z = p.1 k (omega arith) z

pub settling_one : (t : Tables) (ws vs us : List ℕ) (d : ℕ) (more put : Bool) → d < t.done.datas → d < length vs → Settles t d vs us put → Settling t ws vs d more → Settling t ws us (d + 1) (more || put)
settling_one t ws vs us d true true l r h g = settling_put t ws vs us d true l r h g
settling_one t ws vs us d false true l r h g = settling_put t ws vs us d false l r h g
settling_one t ws vs us d true false l r h g = settling_past t ws vs us d true h g
settling_one t ws vs us d false false l r h g = settling_past t ws vs us d false h g

pub settled : (t : Tables) (ws vs : List ℕ) (d : ℕ) (more : Bool) → d ≡ t.done.datas → Settling t ws vs d more → Advances t ws vs more
settled t ws vs d more e g = record { sound = g.sound; fewer = g.fewer; stuck = λ f. (let p = g.stuck f in subst (λ ys. Stuck t ys t.done.datas) (sym p.0) (subst (Stuck t ws) e p.1)) }

-- none can be told
pub fixed : (t : Tables) (ws : List ℕ) → Sound t ws → Stuck t ws t.done.datas → Fixed (datas_in t) (sizes_in t ws)
fixed t ws h k = all_put (datas_in t) (sizes_in t ws) h (λ w e. at w (data_number t w) refl e)
  where
    at : (w : Lexeme) (o : Option ℕ) → data_number t w ≡ o → if_some o (λ j. known (get_or ws j 0)) ≡ none → round (datas_in t) (sizes_in t ws) w ≡ none
    at w none q e = ap (λ (o : Option Data). if_some o (λ d. data_by (sizes_in t ws) d)) (numbered t w none q)
    at w (some j) q e =
        let i = first_inside (λ k. same (the_data t k).name w) 0 t.done.datas j q in
        let l = i.1 in
        round_at t (sizes_in t ws) w j q ∙ k j (omega arith) (known_none (get_or ws j 0) e)

-- nothing is known at first
pub none_known : (t : Tables) (ws : List ℕ) → ((k : ℕ) → k < t.done.datas → get_or ws k 0 ≡ 0) → Sound t ws
none_known t ws h w m e = at (data_number t w) refl e
  where
    at : (o : Option ℕ) → data_number t w ≡ o → if_some o (λ j. known (get_or ws j 0)) ≡ some m → round (datas_in t) (sizes_in t ws) w ≡ some m
    at none q e = none_some e
    at (some j) q e =
        let i = first_inside (λ k. same (the_data t k).name w) 0 t.done.datas j q in
        let l = i.1 in
        let z : get_or ws j 0 ≡ 0 = h j (omega arith) in
        let p = known_some (get_or ws j 0) m e in
        let r = p.1 in
        absurd (omega arith)
