use Rattle.std.proofs.Common.{◌≡◌, ℕ, ◌+◌, ◌<◌, get_or, pos, ◌*ℤ◌}
use Rattle.judge.proofs.sums.find_miss.Given as goal

abbrev pub invariant-loop-k : goal.invariant-loop-k
invariant-loop-k g l = (j : ℕ) → j < l.k → get_or l.sums j (pos 0) ≡ pos l.scale *ℤ (g.S.Sheet.meaning l.sheet).goal (j + 1)
