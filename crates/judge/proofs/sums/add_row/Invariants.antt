use Rattle.std.proofs.Common.{◌≡◌, ℕ, ◌+◌, ◌<◌, length, get_or, take, pos, ◌+ℤ◌, ◌*ℤ◌}
use Rattle.judge.specs.Sums.{coefficient}
use Rattle.judge.proofs.sums.add_row.Given as goal

abbrev pub invariant-loop-term : goal.invariant-loop-term
invariant-loop-term l = (k : ℕ) → k < length l.initial.sums → get_or l.sums k (pos 0) ≡ get_or l.initial.sums k (pos 0) +ℤ pos l.times *ℤ coefficient (take l.term-index l.term-items) (k + 1)
