-- The pass over the slots: what stays as it was, and what is known of those behind.
use Rattle.std.proofs.Common.{◌≡◌, ℕ, zero, suc, ◌+◌, ◌*◌, ◌<◌, ◌≤◌, ◌⊎◌, List, ◌++◌, map, length, get_or, Some, None, Option as Maybe, sym, refl, ap, ◌∙◌, subst, ap₂, inl, inr, arith}
use Rattle.std.specs.Option.{option_map, option_to_list}
use Rattle.std.proofs.lemmas.List.{map-append, length-map}
use Rattle.std.proofs.lemmas.Bool.{cases_eq}
use Rattle.std.proofs.lemmas.Option.{none-some, same_Some}
use Rattle.code.specs.declared.instr.Instr.{Instr}
use Rattle.code.specs.declared.slot.Slot.{Slot}
use Rattle.code.specs.Slots.{slot_of, held}
use Rattle.code.specs.Words.{instr_at, with_slot, instrs_in, Filled, code_in}
use Rattle.code.specs.Means.{means}
use Rattle.code.proofs.InWords.{word_behind, slot_kept, instr_put}
use Rattle.names.specs.Table.{Has, Sound, used}
use Rattle.names.specs.Canonical.{Uses, Canonical}
use Rattle.names.proofs.Shortest.{sound_again}

-- words: as they were at first; after: as they are, when k slots are done
pub record Going (text words after table : List ℕ) (k : ℕ) : Type 0 where
  pub few : used table ≤ 2 * k
  pub alike : (l : ℕ) → option_map (means text) (instr_at after l) ≡ option_map (means text) (instr_at words l)
  pub behind : (j : ℕ) → 3 * k ≤ j → get_or after j 0 ≡ get_or words j 0
  pub named : (l : ℕ) (i : Instr) (x : ℕ) → l < k → instr_at after l ≡ Some i → Uses i x → Has table x

-- another slot than the one that is written
other_slot : (words : List ℕ) (k l : ℕ) (s : Slot) → (l ≡ k → ⊥) → instr_at (with_slot words k s) l ≡ instr_at words l
other_slot words k l s ne = ap held (slot_kept words k s l ne)

-- a slot that holds no instruction
pub passed_over : (text words after table : List ℕ) (k : ℕ) → Going text words after table k → instr_at after k ≡ None → Going text words after table (k + 1)
passed_over text words after table k g none = record {
  few = omega (arith, g.few);
  alike = g.alike;
  behind = λ j h. g.behind j (omega arith);
  named = λ l i x h is uses. on l i x (cases_eq l k) h is uses;
}
  where
    on : (l : ℕ) (i : Instr) (x : ℕ) → (l ≡ k) ⊎ (l ≡ k → ⊥) → l < k + 1 → instr_at after l ≡ Some i → Uses i x → Has table x
    on l i x (inl e) h is uses = absurd (none-some i (sym none ∙ ap (instr_at after) (sym e) ∙ is))
    on l i x (inr ne) h is uses = g.named l i x (omega (arith, ne)) is uses

module _ (text words after table next : List ℕ) (k : ℕ) (i j : Instr) (g : Going text words after table k) (inside : 3 * k + 2 < length after) (was : instr_at after k ≡ Some i) (same : means text j ≡ means text i) (uses : (x : ℕ) → Uses j x → Has next x) (few : used next ≤ used table + 2) (grows : (p : ℕ) → Has table p → Has next p) where
  abbrev written : List ℕ
  written = with_slot after k (slot_of j)

  put : instr_at written k ≡ Some j
  put = instr_put after k j inside

  alike_on : (l : ℕ) → (l ≡ k) ⊎ (l ≡ k → ⊥) → option_map (means text) (instr_at written l) ≡ option_map (means text) (instr_at words l)
  alike_on l (inl e) =
      ap (λ n. option_map (means text) (instr_at written n)) e
      ∙ ap (option_map (means text)) put
      ∙ ap Some same
      ∙ ap (option_map (means text)) (sym was)
      ∙ g.alike k
      ∙ ap (λ n. option_map (means text) (instr_at words n)) (sym e)
  alike_on l (inr ne) = ap (option_map (means text)) (other_slot after k l (slot_of j) ne) ∙ g.alike l

  named_on : (l : ℕ) (m : Instr) (x : ℕ) → (l ≡ k) ⊎ (l ≡ k → ⊥) → l < k + 1 → instr_at written l ≡ Some m → Uses m x → Has next x
  named_on l m x (inl e) h is u = uses x (subst (λ n. Uses n x) (same_Some m j (sym is ∙ ap (instr_at written) e ∙ put)) u)
  named_on l m x (inr ne) h is u = grows x (g.named l m x (omega (arith, ne)) (sym (other_slot after k l (slot_of j) ne) ∙ is) u)

  pub renamed_one : Going text words written next (k + 1)
  renamed_one = record {
    few = omega (arith, few, g.few);
    alike = λ l. alike_on l (cases_eq l k);
    behind = λ p h. word_behind after k (slot_of j) p (omega arith) ∙ g.behind p (omega arith);
    named = λ l m x h. named_on l m x (cases_eq l k) h;
  }

pub moved : (text words a b t u : List ℕ) (k : ℕ) → b ≡ a → u ≡ t → Going text words a t k → Going text words b u k
moved text words a b t u k e f g = subst (λ v. Going text words v u k) (sym e) (subst (λ v. Going text words a v k) (sym f) g)

-- what the code means
listed : (text : List ℕ) (o : Maybe Instr) → map (means text) (option_to_list o) ≡ option_to_list (option_map (means text) o)
listed text None = refl
listed text (Some i) = refl

code_same : (text words after : List ℕ) → ((l : ℕ) → option_map (means text) (instr_at after l) ≡ option_map (means text) (instr_at words l)) → (n : ℕ) → code_in text after n ≡ code_in text words n
code_same text words after alike zero = refl
code_same text words after alike (suc n) =
    map-append (means text) (instrs_in after n) (option_to_list (instr_at after n))
    ∙ ap₂ ◌++◌ (code_same text words after alike n) (listed text (instr_at after n) ∙ ap option_to_list (alike n) ∙ sym (listed text (instr_at words n)))
    ∙ sym (map-append (means text) (instrs_in words n) (option_to_list (instr_at words n)))

pub code_now : {text words after table : List ℕ} {k : ℕ} → Going text words after table k → (n : ℕ) → code_in text after n ≡ code_in text words n
code_now {text} {words} {after} g n = code_same text words after g.alike n

pub filled_now : {text words after table : List ℕ} {k : ℕ} → Going text words after table k → (n : ℕ) → Filled words n → Filled after n
filled_now {text} {words} {after} g n full =
    sym (length-map (instrs_in after n) (means text)) ∙ ap length (code_now g n) ∙ length-map (instrs_in words n) (means text) ∙ full

pub canonical_now : (text words after table : List ℕ) (n : ℕ) → ∥ Sound text table ∥₁ → Going text words after table n → Canonical text after n
canonical_now text words after table n sound g k l i j x y hk hl ik jl ux uy same =
    (sound_again text table sound).apart x y (g.named k i x hk ik ux) (g.named l j y hl jl uy) same
