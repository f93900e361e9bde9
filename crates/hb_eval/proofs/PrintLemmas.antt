-- Texts of numbers are short.
use Rattle.std.proofs.Common.{◌≤◌, ◌<◌, ◌+◌, ◌^◌, ℕ, suc, ℤ, pos, negsuc, length, w64, SFits, arith}
use Rattle.std.specs.Fmt.{signed_decimal, decimal}
use Rattle.std.proofs.lemmas.Fmt.{length-decimal-le}

short : (n : ℕ) → n < 2 ^ 63 + 1 → length (decimal n) ≤ 20
short n below = length-decimal-le 20 n (omega arith) (omega arith) (omega arith)

pub short_int : (n : ℤ) → SFits w64 n → length (signed_decimal n) ≤ 1024
short_int (pos n) fits = omega (arith, short n (omega (arith, fits.sfits)))
short_int (negsuc n) fits = omega (arith, short (suc n) (omega (arith, fits.sfits)))
