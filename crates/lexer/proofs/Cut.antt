-- How the text is cut up, byte by byte.
use Rattle.std.proofs.Common.{◌≡◌, ℕ, ◌+◌, ◌-◌, ◌<◌, ◌≤◌, Bool, true, false, eqb, List, [], ◌∷◌, ◌++◌, length, get_or, take, drop, sym, refl, ap, ◌∙◌, append_assoc, arith, length-drop}
use Rattle.std.proofs.lemmas.List.{drop_more, drop_all, take_more, get_or-drop}
use Rattle.std.proofs.lemmas.Bool.{ne_eqb, or_parts}
use Rattle.language.specs.Base.{Lexeme, choose}
use Rattle.language.specs.Text.{Lexing, idle, collecting, after_equals, skipping, Lexed, moved, starts, reads_byte, is_word_byte, is_blank, tokenize}
use Rattle.lexer.specs.Places.{part, skipped}

-- in a comment, or not
abbrev pub state : Bool → Lexing
state true = skipping
state false = idle

abbrev pub after : Lexed → List ℕ → List Lexeme
after m bytes = m.given ++ tokenize m.then_in bytes

pub choose_true : {A : Type 0} {t : Bool} (x y : A) → t ≡ true → choose t x y ≡ x
choose_true x y e = ap (λ t. choose t x y) e

pub choose_false : {A : Type 0} {t : Bool} (x y : A) → t ≡ false → choose t x y ≡ y
choose_false x y e = ap (λ t. choose t x y) e

-- what a byte starts does not depend on the lexemes before it
starts_at : (a b c d : Bool) (seen : List Lexeme) (byte : ℕ) (bytes : List ℕ) → after (choose a (moved seen idle) (choose b (moved seen skipping) (choose c (moved seen (collecting (byte ∷ []))) (choose d (moved seen after_equals) (moved (seen ++ ((byte ∷ []) ∷ [])) idle))))) bytes ≡ seen ++ after (choose a (moved [] idle) (choose b (moved [] skipping) (choose c (moved [] (collecting (byte ∷ []))) (choose d (moved [] after_equals) (moved ((byte ∷ []) ∷ []) idle))))) bytes
starts_at true b c d seen byte bytes = refl
starts_at false true c d seen byte bytes = refl
starts_at false false true d seen byte bytes = refl
starts_at false false false true seen byte bytes = refl
starts_at false false false false seen byte bytes = append_assoc seen ((byte ∷ []) ∷ []) (tokenize idle bytes)

pub starts_seen : (seen : List Lexeme) (byte : ℕ) (bytes : List ℕ) → after (starts seen byte) bytes ≡ seen ++ after (starts [] byte) bytes
starts_seen seen byte bytes = starts_at (is_blank byte) (eqb byte 35) (is_word_byte byte) (eqb byte 61) seen byte bytes

pub starts_word : (byte : ℕ) → skipped byte ≡ false → is_word_byte byte ≡ true → starts [] byte ≡ moved [] (collecting (byte ∷ []))
starts_word byte n e = let no = or_parts (is_blank byte) (eqb byte 35) n in choose_false _ _ no.0 ∙ choose_false _ _ no.1 ∙ choose_true _ _ e

starts_sign : (byte : ℕ) → skipped byte ≡ false → is_word_byte byte ≡ false → (byte ≡ 61 → ⊥) → starts [] byte ≡ moved ((byte ∷ []) ∷ []) idle
starts_sign byte n e ne =
    let no = or_parts (is_blank byte) (eqb byte 35) n in
    choose_false _ _ no.0 ∙ choose_false _ _ no.1 ∙ choose_false _ _ e ∙ choose_false _ _ (ne_eqb byte 61 ne)

-- at the end of the text
module _ (text : List ℕ) (i : ℕ) (outside : length text ≤ i) where
  no_byte : (s : Lexing) → tokenize s (drop i text) ≡ tokenize s []
  no_byte s = ap (tokenize s) (drop_all i text outside)

  pub none_left : (s : Bool) → tokenize (state s) (drop i text) ≡ []
  none_left true = no_byte skipping
  none_left false = no_byte idle

  pub equals_at_end : tokenize after_equals (drop i text) ≡ (61 ∷ []) ∷ tokenize idle (drop i text)
  equals_at_end = no_byte after_equals ∙ ap (λ ws. (61 ∷ []) ∷ ws) (sym (no_byte idle))

-- what is left of a text is its next byte and then the rest
module _ (text : List ℕ) (i : ℕ) (inside : i < length text) where
  pub one_byte : (s : Lexing) → tokenize s (drop i text) ≡ after (reads_byte s (get_or text i 0)) (drop (i + 1) text)
  one_byte s = ap (tokenize s) (drop_more text i 0 inside)

  equals_begins : get_or text i 0 ≡ 61 → tokenize idle (drop i text) ≡ tokenize after_equals (drop (i + 1) text)
  equals_begins e = one_byte idle ∙ ap (λ b. after (reads_byte idle b) (drop (i + 1) text)) e

  equals_twice : get_or text i 0 ≡ 61 → tokenize after_equals (drop i text) ≡ (61 ∷ 61 ∷ []) ∷ tokenize idle (drop (i + 1) text)
  equals_twice e = one_byte after_equals ∙ ap (λ b. after (reads_byte after_equals b) (drop (i + 1) text)) e

  pub equals_alone : (get_or text i 0 ≡ 61 → ⊥) → tokenize after_equals (drop i text) ≡ (61 ∷ []) ∷ tokenize idle (drop i text)
  equals_alone e =
      one_byte after_equals
      ∙ ap (λ m. after m (drop (i + 1) text)) (choose_false _ _ (ne_eqb _ 61 e))
      ∙ starts_seen ((61 ∷ []) ∷ []) (get_or text i 0) (drop (i + 1) text)
      ∙ ap (λ ws. (61 ∷ []) ∷ ws) (sym (one_byte idle))

  sign_alone : skipped (get_or text i 0) ≡ false → is_word_byte (get_or text i 0) ≡ false → (get_or text i 0 ≡ 61 → ⊥) → tokenize idle (drop i text) ≡ (get_or text i 0 ∷ []) ∷ tokenize idle (drop (i + 1) text)
  sign_alone n e ne = one_byte idle ∙ ap (λ m. after m (drop (i + 1) text)) (starts_sign (get_or text i 0) n e ne)

-- a part, byte by byte
pub part_none : (text : List ℕ) (i : ℕ) → part text i i ≡ []
part_none text i = let z : i - i ≡ 0 = omega arith in ap (λ n. take n (drop i text)) z

pub part_more : (text : List ℕ) (i j : ℕ) → i ≤ j → j < length text → part text i (j + 1) ≡ part text i j ++ (get_or text j 0 ∷ [])
part_more text i j before inside =
    let one : j + 1 - i ≡ j - i + 1 = omega arith in
    let back : i + (j - i) ≡ j = omega arith in
    let within : j - i < length (drop i text) = omega (arith, length-drop i text) in
    ap (λ n. take n (drop i text)) one
    ∙ take_more (drop i text) (j - i) 0 within
    ∙ ap (λ b. part text i j ++ (b ∷ [])) (get_or-drop i text (j - i) 0 ∙ ap (λ n. get_or text n 0) back)

pub part_one : (text : List ℕ) (i : ℕ) → i < length text → part text i (i + 1) ≡ get_or text i 0 ∷ []
part_one text i inside = part_more text i i (omega arith) inside ∙ ap (λ ws. ws ++ (get_or text i 0 ∷ [])) (part_none text i)

-- a lexeme that is no word, with the part that it is
module _ (text : List ℕ) (i : ℕ) (inside : i < length text) where
  pub whole_sign : skipped (get_or text i 0) ≡ false → is_word_byte (get_or text i 0) ≡ false → (get_or text i 0 ≡ 61 → ⊥) → tokenize idle (drop i text) ≡ part text i (i + 1) ∷ tokenize idle (drop (i + 1) text)
  whole_sign n e ne = sign_alone text i inside n e ne ∙ ap (λ w. w ∷ tokenize idle (drop (i + 1) text)) (sym (part_one text i inside))

  pub whole_equals : get_or text i 0 ≡ 61 → tokenize after_equals (drop (i + 1) text) ≡ (61 ∷ []) ∷ tokenize idle (drop (i + 1) text) → tokenize idle (drop i text) ≡ part text i (i + 1) ∷ tokenize idle (drop (i + 1) text)
  whole_equals e next = equals_begins text i inside e ∙ next ∙ ap (λ w. w ∷ tokenize idle (drop (i + 1) text)) (sym (part_one text i inside ∙ ap (λ b. b ∷ []) e))

  pub whole_twice : i + 1 < length text → get_or text i 0 ≡ 61 → get_or text (i + 1) 0 ≡ 61 → tokenize idle (drop i text) ≡ part text i (i + 1 + 1) ∷ tokenize idle (drop (i + 1 + 1) text)
  whole_twice more e f =
      let two : part text i (i + 1 + 1) ≡ 61 ∷ 61 ∷ [] = part_more text i (i + 1) (omega arith) more ∙ ap (λ w. w ++ (get_or text (i + 1) 0 ∷ [])) (part_one text i inside) ∙ ap (λ b. b ∷ get_or text (i + 1) 0 ∷ []) e ∙ ap (λ b. 61 ∷ b ∷ []) f in
      equals_begins text i inside e ∙ equals_twice text (i + 1) more f ∙ ap (λ w. w ∷ tokenize idle (drop (i + 1 + 1) text)) (sym two)
