-- How long the text of a number is.
use Rattle.std.proofs.Common.{ℕ, suc, ◌^◌, ◌<◌, ◌≤◌, length, ℤ, pos, negsuc, nat_abs, decimal, arith}
use Rattle.std.specs.Fmt.{signed_decimal}
use Rattle.std.proofs.lemmas.Fmt.{length-decimal-le}

pub ten_digits : (n : ℕ) → n < 2 ^ 32 → length (decimal n) ≤ 10
ten_digits n h = length-decimal-le 10 n (omega arith) (omega arith) (omega arith)

pub signed_digits : (z : ℤ) → nat_abs z < 2 ^ 32 → length (signed_decimal z) ≤ 11
signed_digits (pos n) h = let l = ten_digits n h in omega arith
signed_digits (negsuc n) h = let l = ten_digits (suc n) h in omega arith
