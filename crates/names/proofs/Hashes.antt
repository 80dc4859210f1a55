-- A hash is a fold over the bytes.
use Rattle.std.proofs.Common.{◌≡◌, ℕ, ◌*◌, ◌%◌, [], ◌∷◌, refl}
use lib.Bits.{bit_xor}
use Rattle.std.specs.List.{fold}
use Rattle.language.specs.Base.{Lexeme}
use Rattle.names.specs.Hash.{hash}

pub hash_fold : (h : ℕ) (w : Lexeme) → hash h w ≡ fold (λ h byte. (bit_xor h byte * 1099511628211) % 18446744073709551616) h w
hash_fold h [] = refl
hash_fold h (byte ∷ bytes) = hash_fold ((bit_xor h byte * 1099511628211) % 18446744073709551616) bytes
