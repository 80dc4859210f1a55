-- A word as a whole: the longest run of word bytes.
use Rattle.std.proofs.Common.{◌≡◌, ℕ, ◌+◌, ◌-◌, ◌<◌, ◌≤◌, Bool, true, false, List, [], ◌∷◌, ◌++◌, length, get_or, take, drop, take_while, cond, sym, refl, ap, ◌∙◌, append_assoc, append-nil, arith, length-drop, length-take}
use Rattle.std.proofs.lemmas.List.{take_all, drop_more, drop_all, drop-drop}
use Rattle.std.proofs.lemmas.List.Sums.{take_while-cons}
use Rattle.language.specs.Base.{Lexeme, choose}
use Rattle.language.specs.Text.{idle, collecting, is_word_byte, tokenize}
use Rattle.lexer.specs.Places.{from_place, part, skipped}
use Rattle.lexer.specs.Spelling.{word_run, lexeme_at}
use Rattle.lexer.proofs.Cut.{after, choose_true, choose_false, starts_seen, starts_word}

abbrev Goal : Lexeme → List ℕ → Lexeme → Type 0
Goal piece bytes run = tokenize (collecting piece) bytes ≡ (piece ++ run) ∷ tokenize idle (drop (length run) bytes)

goes_on : (piece : Lexeme) (byte : ℕ) (bytes : List ℕ) (t : Bool) → is_word_byte byte ≡ t → Goal (piece ++ (byte ∷ [])) bytes (word_run bytes) → Goal piece (byte ∷ bytes) (choose t (byte ∷ word_run bytes) [])
goes_on piece byte bytes true e rest =
    ap (λ m. after m bytes) (choose_true _ _ e)
    ∙ rest
    ∙ ap (λ w. w ∷ tokenize idle (drop (length (word_run bytes)) bytes)) (append_assoc piece (byte ∷ []) (word_run bytes))
goes_on piece byte bytes false e rest =
    ap (λ m. after m bytes) (choose_false _ _ e)
    ∙ starts_seen (piece ∷ []) byte bytes
    ∙ ap (λ w. w ∷ tokenize idle (byte ∷ bytes)) (sym (append-nil piece))

-- what a word that is under way becomes
collected : (piece : Lexeme) (bytes : List ℕ) → Goal piece bytes (word_run bytes)
collected piece [] = ap (λ w. w ∷ []) (sym (append-nil piece))
collected piece (byte ∷ bytes) = goes_on piece byte bytes (is_word_byte byte) refl (collected (piece ++ (byte ∷ [])) bytes)

run_more : (byte : ℕ) (bytes : List ℕ) → is_word_byte byte ≡ true → word_run (byte ∷ bytes) ≡ byte ∷ word_run bytes
run_more byte bytes e = choose_true _ _ e

-- a word is a run: its bytes, and what is left behind it
word_first : (byte : ℕ) (bytes : List ℕ) → skipped byte ≡ false → is_word_byte byte ≡ true → tokenize idle (byte ∷ bytes) ≡ word_run (byte ∷ bytes) ∷ tokenize idle (drop (length (word_run (byte ∷ bytes))) (byte ∷ bytes))
word_first byte bytes n e =
    ap (λ m. after m bytes) (starts_word byte n e)
    ∙ collected (byte ∷ []) bytes
    ∙ ap (λ run. run ∷ tokenize idle (drop (length run) (byte ∷ bytes))) (sym (run_more byte bytes e))

-- a run is what the library takes from the front
pub run_taken : (bytes : List ℕ) → take_while is_word_byte bytes ≡ word_run bytes
run_taken [] = refl
run_taken (byte ∷ bytes) = take_while-cons is_word_byte byte bytes ∙ on (is_word_byte byte) (run_taken bytes)
  where
    on : (t : Bool) → take_while is_word_byte bytes ≡ word_run bytes → cond t (byte ∷ take_while is_word_byte bytes) [] ≡ choose t (byte ∷ word_run bytes) []
    on true e = ap (λ w. byte ∷ w) e
    on false e = refl

pub run_front : (bytes : List ℕ) → take (length (word_run bytes)) bytes ≡ word_run bytes
run_front [] = refl
run_front (byte ∷ bytes) = on (is_word_byte byte) (run_front bytes)
  where
    on : (t : Bool) → take (length (word_run bytes)) bytes ≡ word_run bytes → take (length (choose t (byte ∷ word_run bytes) [])) (byte ∷ bytes) ≡ choose t (byte ∷ word_run bytes) []
    on true e = ap (λ w. byte ∷ w) e
    on false e = refl

pub run_within : (bytes : List ℕ) → length (word_run bytes) ≤ length bytes
run_within bytes = omega (arith, ap length (run_front bytes), length-take (length (word_run bytes)) bytes)

module _ (text : List ℕ) (i : ℕ) where
  pub whole_word : i < length text → skipped (get_or text i 0) ≡ false → is_word_byte (get_or text i 0) ≡ true → from_place text i ≡ lexeme_at text i ∷ from_place text (i + length (lexeme_at text i))
  whole_word inside n e =
      let one = drop_more text i 0 inside in
      ap (tokenize idle) one
      ∙ word_first (get_or text i 0) (drop (i + 1) text) n e
      ∙ ap (λ bytes. word_run bytes ∷ tokenize idle (drop (length (word_run bytes)) bytes)) (sym one)
      ∙ ap (λ bytes. lexeme_at text i ∷ tokenize idle bytes) (drop-drop (length (lexeme_at text i)) i text)

  pub run_on : i < length text → is_word_byte (get_or text i 0) ≡ true → lexeme_at text i ≡ get_or text i 0 ∷ lexeme_at text (i + 1)
  run_on inside e = ap word_run (drop_more text i 0 inside) ∙ choose_true _ _ e

  pub run_end : length text ≤ i → lexeme_at text i ≡ []
  run_end outside = ap word_run (drop_all i text outside)

  pub part_length : (j : ℕ) → i ≤ j → j ≤ length text → i + length (part text i j) ≡ j
  part_length j before within = omega (arith, length-take (j - i) (drop i text), length-drop i text)

  -- the run of what is left of the text, which the code has as a slice up to the text's end
  pub rest_length : i ≤ length text → (length (word_run (take (length text - i) (drop i text))) ≡ length (lexeme_at text i)) × (i + length (lexeme_at text i) ≤ length text)
  rest_length h =
      let all : take (length text - i) (drop i text) ≡ drop i text = take_all (length text - i) (drop i text) (omega (arith, length-drop i text)) in
      (ap (λ bytes. length (word_run bytes)) all, omega (arith, run_within (drop i text), length-drop i text))

  -- the run as a part of the text
  pub run_to : (n : ℕ) → n ≡ length (lexeme_at text i) → lexeme_at text i ≡ part text i (i + n)
  run_to n e =
      let back : i + n - i ≡ length (lexeme_at text i) = omega (arith, e) in
      sym (run_front (drop i text)) ∙ ap (λ k. take k (drop i text)) (sym back)

  -- a word up to its end
  pub word_to : (j : ℕ) → i < length text → skipped (get_or text i 0) ≡ false → is_word_byte (get_or text i 0) ≡ true → i ≤ j → j ≤ length text → lexeme_at text i ≡ part text i j → (i < j) × (from_place text i ≡ part text i j ∷ from_place text j)
  word_to j inside n e before within run =
      let long : length (lexeme_at text i) ≡ length (part text i j) = ap length run in
      let more : length (lexeme_at text i) ≡ length (get_or text i 0 ∷ lexeme_at text (i + 1)) = ap length (run_on inside e) in
      let end : i + length (lexeme_at text i) ≡ j = omega (arith, long, part_length j before within) in
      (omega (arith, end, more), whole_word inside n e ∙ ap (λ k. lexeme_at text i ∷ from_place text k) end ∙ ap (λ w. w ∷ from_place text j) run)
