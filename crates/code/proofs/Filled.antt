-- Slots that all hold instructions, and what their code means.
use Rattle.std.proofs.Common.{◌≡◌, ℕ, zero, suc, ◌+◌, ◌*◌, ◌<◌, ◌≤◌, ◌≢◌, ◌⊎◌, List, [], ◌∷◌, ◌++◌, map, length, get_or, drop, Some, None, Option as Maybe, sym, refl, ap, ◌∙◌, subst, inl, inr, arith, length-append}
use Rattle.std.specs.Option.{option_to_list}
use Rattle.std.proofs.lemmas.List.{length_push, drop-append-le, drop_at, drop_all, map-append, drop-map}
use Rattle.std.proofs.lemmas.Bool.{cases_eq}
use Rattle.code.specs.declared.instr.Instr.{Instr}
use Rattle.code.specs.Slots.{slot_of}
use Rattle.code.specs.Words.{instr_at, with_slot, instrs_in, Filled, code_in}
use Rattle.code.specs.Means.{means}
use Rattle.code.proofs.InWords.{instrs_put, same_instrs}

listed : {A : Type 0} (o : Maybe A) → length (option_to_list o) ≤ 1
listed None = omega arith
listed (Some x) = omega arith

pub instrs_few : (words : List ℕ) (n : ℕ) → length (instrs_in words n) ≤ n
instrs_few words zero = omega arith
instrs_few words (suc n) = omega (arith, length-append (instrs_in words n) (option_to_list (instr_at words n)), instrs_few words n, listed (instr_at words n))

-- what is put in
pub filled_put : (words : List ℕ) (n : ℕ) (i : Instr) → 3 * n + 2 < length words → Filled words n → Filled (with_slot words n (slot_of i)) (n + 1)
filled_put words n i h full = ap length (instrs_put words n i h) ∙ length_push (instrs_in words n) i ∙ ap (λ m. m + 1) full

pub same_filled : (words after : List ℕ) (n : ℕ) → ((j : ℕ) → j < 3 * n → get_or after j 0 ≡ get_or words j 0) → Filled words n → Filled after n
same_filled words after n e full = ap length (same_instrs words after n e) ∙ full

module _ (words : List ℕ) (n : ℕ) (full : Filled words (suc n)) where
  last_long : length (instrs_in words n) + length (option_to_list (instr_at words n)) ≡ suc n
  last_long = sym (length-append (instrs_in words n) (option_to_list (instr_at words n))) ∙ full

  -- fewer of them
  pub filled_less : Filled words n
  filled_less = omega (arith, last_long, instrs_few words n, listed (instr_at words n))

  last_one : length (option_to_list (instr_at words n)) ≡ 1
  last_one = omega (arith, last_long, filled_less)

there : {A : Type 0} (o : Maybe A) → length (option_to_list o) ≡ 1 → (x : A) × (o ≡ Some x)
there None e = absurd (omega arith)
there (Some x) e = (x, refl)

-- the j-th instruction, and what stands from there on
pub record At (words : List ℕ) (n j : ℕ) : Type 0 where
  pub it : Instr
  pub is : instr_at words j ≡ Some it
  pub rest : drop j (instrs_in words n) ≡ it ∷ drop (j + 1) (instrs_in words n)

at_end : (words : List ℕ) (n : ℕ) → Filled words (suc n) → At words (suc n) n
at_end words n full =
    let last = there (instr_at words n) (last_one words n full) in
    record {
      it = last.0;
      is = last.1;
      rest =
          drop_at (instrs_in words n) (option_to_list (instr_at words n)) n (filled_less words n full)
          ∙ ap option_to_list last.1
          ∙ ap (λ is. last.0 ∷ is) (sym (drop_all (n + 1) (instrs_in words (suc n)) (omega (arith, full))));
    }

at_more : (words : List ℕ) (n j : ℕ) → j < n → Filled words n → At words n j → At words (suc n) j
at_more words n j h full at =
    let is = instrs_in words n in
    let more = option_to_list (instr_at words n) in
    record {
      it = at.it;
      is = at.is;
      rest =
          drop-append-le j is more (omega (arith, full))
          ∙ ap (λ l. l ++ more) at.rest
          ∙ ap (λ l. at.it ∷ l) (sym (drop-append-le (j + 1) is more (omega (arith, full))));
    }

pub at_slot : (words : List ℕ) (n j : ℕ) → j < n → Filled words n → At words n j
at_slot words zero j h full = absurd (omega arith)
at_slot words (suc n) j h full = on (cases_eq j n) (at_slot words n j)
  where
    on : (j ≡ n) ⊎ (j ≢ n) → (j < n → Filled words n → At words n j) → At words (suc n) j
    on (inl e) lower = subst (λ k. At words (suc n) k) (sym e) (at_end words n full)
    on (inr ne) lower =
        let low : j < n = omega arith in
        at_more words n j low (filled_less words n full) (lower low (filled_less words n full))

-- the same of what the instructions mean
pub code_put : (text words : List ℕ) (n : ℕ) (i : Instr) → 3 * n + 2 < length words → code_in text (with_slot words n (slot_of i)) (n + 1) ≡ code_in text words n ++ (means text i ∷ [])
code_put text words n i h = ap (map (means text)) (instrs_put words n i h) ∙ map-append (means text) (instrs_in words n) (i ∷ [])

pub same_code : (text words after : List ℕ) (n : ℕ) → ((j : ℕ) → j < 3 * n → get_or after j 0 ≡ get_or words j 0) → code_in text after n ≡ code_in text words n
same_code text words after n e = ap (map (means text)) (same_instrs words after n e)

pub code_at : (text words : List ℕ) (n j : ℕ) (at : At words n j) → drop j (code_in text words n) ≡ means text at.it ∷ drop (j + 1) (code_in text words n)
code_at text words n j at =
    drop-map (means text) j (instrs_in words n)
    ∙ ap (map (means text)) at.rest
    ∙ ap (λ l. means text at.it ∷ l) (sym (drop-map (means text) (j + 1) (instrs_in words n)))
