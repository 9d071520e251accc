use Rattle.std.proofs.Common.{◌≡◌, ◌*◌, ◌≤◌, ℤ, ◌*ℤ◌, nat_abs, ◌∙◌, ap, arith, w64, to_z, of_z}
use Rattle.std.proofs.lemmas.Int.{unsigned_abs-mul}
use borrow.Author.Differences.{ints}
use Rattle.sheet.proofs.delay.DelaySheet.write_around.Goals as goal

one_times : (s r : ℤ) → nat_abs s ≡ 1 → nat_abs (s *ℤ r) ≡ nat_abs r
one_times s r e = unsigned_abs-mul s r ∙ ap (λ n. n * nat_abs r) e ∙ omega arith

pub returns : goal.returns
returns c =
    let sign : nat_abs (to_z w64 (of_z w64 c.args.sign)) ≡ 1 = omega (arith, ints) in
    let rate : nat_abs (to_z w64 (of_z w64 c.from.result)) ≤ 1048576 = omega (arith, ints) in
    let same = one_times (to_z w64 (of_z w64 c.args.sign)) (to_z w64 (of_z w64 c.from.result)) sign in
    c.put-4.ensures.fits _
    (c.put-3.ensures.fits _
    (c.put-2.ensures.fits _
    (c.put.ensures.fits _ (c.start.ensures.fits (omega (arith, ints)) _) (omega arith) (omega arith) (omega (arith, ints, same, rate)))
    (omega arith) (omega arith) (omega (arith, ints)))
    (omega arith) (omega arith) (omega (arith, ints, same, rate)))
    (omega arith) (omega arith) (omega (arith, ints))
