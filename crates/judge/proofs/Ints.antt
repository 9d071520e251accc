-- Laws of the whole numbers.
use Rattle.std.proofs.Common.{◌≡◌, ℕ, ◌+◌, ◌*◌, ◌^◌, ◌<◌, ◌≤◌, ℤ, ◌+ℤ◌, ◌*ℤ◌, nat_abs, ap, mul-le-mul, mul-add, arith, w64, to_z, of_z}
use Rattle.std.proofs.lemmas.Int.{to_z-of_z, unsigned_abs-mul}
use borrow.Author.Differences.{ints, up, down, sum_is_lem}

pub times_plus : (m a b : ℤ) → m *ℤ (a +ℤ b) ≡ m *ℤ a +ℤ m *ℤ b
times_plus m a b =
    let s = sum_is_lem a b in
    let p : up m * up (a +ℤ b) + up m * down a + up m * down b ≡ up m * down (a +ℤ b) + up m * up a + up m * up b = simp (← mul-add) (ap (λ n. up m * n) s) in
    let q : down m * up (a +ℤ b) + down m * down a + down m * down b ≡ down m * down (a +ℤ b) + down m * up a + down m * up b = simp (← mul-add) (ap (λ n. down m * n) s) in
    omega (arith, ints)

pub abs_plus : (a b : ℤ) → nat_abs (a +ℤ b) ≤ nat_abs a + nat_abs b
abs_plus a b = omega (arith, ints)

pub abs_times : (a b : ℤ) (m n : ℕ) → nat_abs a ≤ m → nat_abs b ≤ n → nat_abs (a *ℤ b) ≤ m * n
abs_times a b m n p q = rw unsigned_abs-mul (mul-le-mul p q)

-- a small number of 64 bits, to its bits and back
pub back_is : (z : ℤ) → nat_abs z < 2 ^ 63 → to_z w64 (of_z w64 z) ≡ z
back_is z h = to_z-of_z w64 z (omega (arith, ints))
