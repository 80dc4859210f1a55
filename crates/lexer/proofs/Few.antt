-- A text has no more lexemes than bytes.
use Rattle.std.proofs.Common.{ℕ, ◌+◌, ◌≤◌, Bool, true, false, eqb, List, [], ◌∷◌, ◌++◌, length, arith, length-append}
use Rattle.std.proofs.lemmas.List.{length_push}
use Rattle.language.specs.Base.{Lexeme, choose}
use Rattle.language.specs.Text.{Lexing, idle, collecting, after_equals, skipping, Lexed, moved, starts, reads_byte, is_word_byte, is_blank, tokenize}

-- how many lexemes are under way
abbrev pending : Lexing → ℕ
pending idle = 0
pending (collecting piece) = 1
pending after_equals = 1
pending skipping = 0

abbrev made : Lexed → ℕ
made m = length m.given + pending m.then_in

starts_at : (a b c d : Bool) (seen : List Lexeme) (byte : ℕ) → made (choose a (moved seen idle) (choose b (moved seen skipping) (choose c (moved seen (collecting (byte ∷ []))) (choose d (moved seen after_equals) (moved (seen ++ ((byte ∷ []) ∷ [])) idle))))) ≤ length seen + 1
starts_at true b c d seen byte = omega arith
starts_at false true c d seen byte = omega arith
starts_at false false true d seen byte = omega arith
starts_at false false false true seen byte = omega arith
starts_at false false false false seen byte = omega (arith, length_push seen (byte ∷ []))

starts_few : (seen : List Lexeme) (byte : ℕ) → made (starts seen byte) ≤ length seen + 1
starts_few seen byte = starts_at (is_blank byte) (eqb byte 35) (is_word_byte byte) (eqb byte 61) seen byte

either : (t : Bool) (m n : Lexed) (k : ℕ) → made m ≤ k → made n ≤ k → made (choose t m n) ≤ k
either true m n k p q = p
either false m n k p q = q

byte_few : (s : Lexing) (byte : ℕ) → made (reads_byte s byte) ≤ pending s + 1
byte_few idle byte = starts_few [] byte
byte_few (collecting piece) byte = either (is_word_byte byte) _ _ 2 (omega arith) (starts_few (piece ∷ []) byte)
byte_few after_equals byte = either (eqb byte 61) _ _ 2 (omega arith) (starts_few ((61 ∷ []) ∷ []) byte)
byte_few skipping byte = either (eqb byte 10) (moved [] idle) (moved [] skipping) 1 (omega arith) (omega arith)

few : (s : Lexing) (bytes : List ℕ) → length (tokenize s bytes) ≤ pending s + length bytes
few idle [] = omega arith
few (collecting piece) [] = omega arith
few after_equals [] = omega arith
few skipping [] = omega arith
few s (byte ∷ bytes) =
    let m = reads_byte s byte in
    omega (arith, length-append m.given (tokenize m.then_in bytes), few m.then_in bytes, byte_few s byte)

pub few_words : (bytes : List ℕ) → length (tokenize idle bytes) ≤ length bytes
few_words bytes = omega (arith, few idle bytes)
