use Rattle.std.proofs.Common.{◌+◌, ◌-◌, ◌*◌, ◌^◌, ◌≤◌, length, nat_abs}
use Rattle.std.specs.List.{AllByRecursion}
use Rattle.judge.specs.Weighings.{Continues}
use Rattle.judge.proofs.weigh.Weighing.weigh_place.Given as goal

-- each line that was added had at least one byte
abbrev pub invariant-loop-line : goal.invariant-loop-line
invariant-loop-line g l = record {
  same : Continues l.initial.self l.self;
  short : length l.rest.text.now ≤ 65536;
  later : l.rest.first + length l.rest.text.now ≤ l.fn.body.lines.first + length l.fn.body.lines.text.now;
  sums : AllByRecursion (λ z. nat_abs z ≤ (65536 - length l.rest.text.now) * (34 * 2 ^ 40)) l.self.sums.now;
  right : nat_abs l.right ≤ (65536 - length l.rest.text.now) * 2 ^ 44;
}

abbrev pub decreases-loop-line : goal.decreases-loop-line
decreases-loop-line g l = length l.rest.text.now
