-- Words for boxes and words under way as one row; moving and exchanging words in it.
use Rattle.std.specs.Prelude.{◌≡◌, ℕ, ◌+◌, ◌<◌, ◌≤◌, ◌⊎◌, List, ◌++◌, length, slice_index}
use Rattle.memory.specs.declared.row.Memory.{Memory}

abbrev pub heap_words : Memory → ℕ
heap_words m = length m.boxes.words.now

abbrev pub stack_words : Memory → ℕ
stack_words m = length m.stack.now

-- boxes first, then what's under way
abbrev pub row : Memory → List ℕ
row m = m.boxes.words.now ++ m.stack.now

-- n words from a on now stand from b on too, and nothing else has changed
pub record Moved (ws ws' : List ℕ) (a b n : ℕ) : Type 0 where
  pub there : (i : ℕ) → i < n → slice_index ws' (b + i) ≡ slice_index ws (a + i)
  pub below : (j : ℕ) → j < b → slice_index ws' j ≡ slice_index ws j
  pub above : (j : ℕ) → b + n ≤ j → slice_index ws' j ≡ slice_index ws j

-- n words from a on and n from b on have changed places, and nothing else has changed
pub record Swapped (ws ws' : List ℕ) (a b n : ℕ) : Type 0 where
  pub there : (i : ℕ) → i < n → slice_index ws' (b + i) ≡ slice_index ws (a + i)
  pub back : (i : ℕ) → i < n → slice_index ws' (a + i) ≡ slice_index ws (b + i)
  pub else : (j : ℕ) → (j < a) ⊎ (a + n ≤ j) → (j < b) ⊎ (b + n ≤ j) → slice_index ws' j ≡ slice_index ws j

-- n words from a on and n from b on have none in common
abbrev pub Apart : ℕ → ℕ → ℕ → Type 0
Apart a b n = (a + n ≤ b) ⊎ (b + n ≤ a)

-- as many words as before, and the pools' own account of them is unchanged
pub record SamePools (m m' : Memory) : Type 0 where
  pub heap : heap_words m' ≡ heap_words m
  pub stack : stack_words m' ≡ stack_words m
  pub heads : m'.boxes.heads.now ≡ m.boxes.heads.now
  pub top : m'.boxes.top ≡ m.boxes.top
