-- A name that is entered: entries that are copied, and a slot more.
use Rattle.std.proofs.Common.{◌≡◌, ℕ, zero, suc, ◌+◌, ◌-◌, ◌≤◌, min, Bool, List, [], ◌∷◌, ◌++◌, sym, refl, ap, ◌∙◌, subst, ap₂, arith}
use Rattle.language.specs.Syntax.{int}
use Rattle.lexer.specs.declared.name.Name.{Name}
use Rattle.lexer.specs.Spelling.{spelling}
use Rattle.types.specs.declared.ty.ValueType.{ValueType}
use Rattle.types.specs.Types.{type_of}
use Rattle.scope.specs.declared.loans.Entry.{Entry}
use Rattle.scope.specs.Loans.{slice, ent_of, loan_at}
use Rattle.scope.specs.Slots.{slot_of, variable_at, slots_of}
use Rattle.scope.specs.declared.names.Variable.{Variable}
use Rattle.scope.proofs.SlotWords.{slots_step}
use Rattle.checker.specs.declared.state.State.{State}
use Rattle.checker.specs.Marks.{State2, rest}
use Rattle.checker.specs.Stands.{Decls, Lent, Stands, with_loans, with_names}

slice_snoc : (text ws : List ℕ) (from n : ℕ) → slice text ws from (suc n) ≡ slice text ws from n ++ (ent_of text (loan_at ws (from + n)) ∷ [])
slice_snoc text ws from zero = let e : from ≡ from + 0 = omega arith in ap (λ i. ent_of text (loan_at ws i) ∷ []) e
slice_snoc text ws from (suc n) = let e : suc from + n ≡ from + suc n = omega arith in ap (λ l. ent_of text (loan_at ws from) ∷ l) (slice_snoc text ws (suc from) n ∙ ap (λ i. slice text ws (suc from) n ++ (ent_of text (loan_at ws i) ∷ [])) e)

-- one entry more is copied
pub copied_on : (text ws us vs : List ℕ) (to base i : ℕ) (e : Entry) → slice text us to i ≡ slice text ws to i → loan_at us (to + i) ≡ e → e ≡ loan_at vs (base + i) → slice text ws to i ≡ slice text vs base i → slice text us to (i + 1) ≡ slice text vs base (i + 1)
copied_on text ws us vs to base i e p q r h = let z : i + 1 ≡ suc i = omega arith in ap (slice text us to) z ∙ slice_snoc text us to i ∙ ap₂ (λ l x. l ++ (ent_of text x ∷ [])) (p ∙ h) (q ∙ r) ∙ sym (slice_snoc text vs base i) ∙ sym (ap (slice text vs base) z)

-- entries above a height are no matter
pub slots_slices : (text code ns es fs : List ℕ) (h top b : ℕ) → top ≤ b → ((from n : ℕ) → from + n ≤ b → slice text es from n ≡ slice text fs from n) → slots_of text code ns es h top ≡ slots_of text code ns fs h top
slots_slices text code ns es fs zero top b p s = refl
slots_slices text code ns es fs (suc h) top b p s = ap₂ (λ l vs. slot_of (spelling text (variable_at ns h).name) (type_of text code (variable_at ns h).ty) l ∷ vs) (go (variable_at ns h).loans) (slots_slices text code ns es fs h (min top (variable_at ns h).loans) b (omega arith) s)
  where
    go : (m : ℕ) → slice text es m (top - m) ≡ slice text fs m (top - m)
    go m = cut (top - m) refl
      where
        cut : (n : ℕ) → top - m ≡ n → slice text es m n ≡ slice text fs m n
        cut zero e = refl
        cut (suc n) e = s m (suc n) (omega arith)

module _ (text code ns ns' es es' vs : List ℕ) (h top base n : ℕ) (v : Variable)
    (this : variable_at ns' h ≡ v) (at : v.loans ≡ top)
    (names : slots_of text code ns' es' h top ≡ slots_of text code ns es' h top)
    (low : (from m : ℕ) → from + m ≤ top → slice text es' from m ≡ slice text es from m)
    (copied : slice text es' top n ≡ slice text vs base n) where
  pub slots_enter : slots_of text code ns' es' (h + 1) (top + n) ≡ slot_of (spelling text v.name) (type_of text code v.ty) (slice text vs base n) ∷ slots_of text code ns es h top
  slots_enter =
      let e : (h + 1) - 1 ≡ h = omega arith in
      let z : (top + n) - top ≡ n = omega arith in
      let m : min (top + n) top ≡ top = omega arith in
      slots_step text code ns' es' (h + 1) (top + n) (omega arith)
      ∙ ap (λ i. slot_of (spelling text (variable_at ns' i).name) (type_of text code (variable_at ns' i).ty) (slice text es' (variable_at ns' i).loans ((top + n) - (variable_at ns' i).loans)) ∷ slots_of text code ns' es' i (min (top + n) (variable_at ns' i).loans)) e
      ∙ ap (λ u. slot_of (spelling text u.name) (type_of text code u.ty) (slice text es' u.loans ((top + n) - u.loans)) ∷ slots_of text code ns' es' h (min (top + n) u.loans)) this
      ∙ ap (λ b. slot_of (spelling text v.name) (type_of text code v.ty) (slice text es' b ((top + n) - b)) ∷ slots_of text code ns' es' h (min (top + n) b)) at
      ∙ ap₂ (λ k b. slot_of (spelling text v.name) (type_of text code v.ty) (slice text es' top k) ∷ slots_of text code ns' es' h b) z m
      ∙ ap₂ (λ l us. slot_of (spelling text v.name) (type_of text code v.ty) l ∷ us) copied (names ∙ slots_slices text code ns es' es h top top (omega arith) low)

abbrev one_more : State → ValueType → State
one_more h i = record { names = h.names + 1; loans = h.loans + (h.args - h.base); args = h.base; base = h.base; log = h.log; gaps = h.gaps; frames = h.frames; seen = h.seen; ends = h.ends; ty = i }

-- the words with that slot stand for the state with that name
pub name_stands : (d : Decls) (E : Lent) (h : State) (s : State2) → Stands d E h s → (ls ns : List ℕ) (x : Name) (b : Bool) (i : ValueType) → type_of E.text E.code i ≡ int
    → variable_at ns h.names ≡ record { name = x; ty = h.ty; loans = h.loans; lent = b }
    → slots_of E.text E.code ns ls h.names h.loans ≡ slots_of E.text E.code E.names ls h.names h.loans
    → ((from m : ℕ) → from + m ≤ h.loans → slice E.text ls from m ≡ slice E.text E.loans from m)
    → slice E.text ls h.loans (h.args - h.base) ≡ slice E.text E.args h.base (h.args - h.base)
    → (W : Lent) → W ≡ with_names (with_loans E ls) ns
    → Stands d W (record { names = h.names + 1; loans = h.loans + (h.args - h.base); args = h.base; base = h.base; log = h.log; gaps = h.gaps; frames = h.frames; seen = h.seen; ends = h.ends; ty = i }) (rest (slot_of (spelling E.text x) s.ty s.ents ∷ s.names) s.log s.frames)
name_stands d E h s st ls ns x b i t this names low copied W e = subst (λ (V : Lent). Stands d V (one_more h i) (rest (slot_of (spelling E.text x) s.ty s.ents ∷ s.names) s.log s.frames)) (sym e) (record {
  names = slots_enter E.text E.code E.names ns E.loans ls E.args h.names h.loans h.base (h.args - h.base) (record { name = x; ty = h.ty; loans = h.loans; lent = b }) this refl names low copied ∙ ap₂ (λ v vs. v ∷ vs) (ap₂ (slot_of (spelling E.text x)) st.ty st.ents) st.names;
  log = st.log;
  gaps = st.gaps;
  ty = t;
  ents = (let z : h.base - h.base ≡ 0 = omega arith in ap (slice E.text E.args h.base) z);
  frames = st.frames;
})
