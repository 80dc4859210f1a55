-- A number of a spelling, and the buckets from there on.
use Rattle.std.specs.Prelude.{ℕ, zero, suc, ◌+◌, ◌*◌, ◌%◌, [], ◌∷◌, bit_xor, nat_lt}
use Rattle.language.specs.Base.{Lexeme, choose}

abbrev pub hash : ℕ → Lexeme → ℕ
hash h [] = h
hash h (byte ∷ bytes) = hash ((bit_xor h byte * 1099511628211) % 18446744073709551616) bytes

-- the bucket, of so many, in which a spelling is looked for first
abbrev pub home : ℕ → Lexeme → ℕ
home buckets w = hash 14695981039346656037 w % buckets

abbrev pub next_bucket : ℕ → ℕ → ℕ
next_bucket buckets i = choose (nat_lt (i + 1) buckets) (i + 1) 0

abbrev pub walk : ℕ → ℕ → ℕ → ℕ
walk buckets i zero = i
walk buckets i (suc steps) = next_bucket buckets (walk buckets i steps)
