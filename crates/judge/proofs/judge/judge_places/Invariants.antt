use Rattle.std.proofs.Common.{◌≡◌, ◌<◌, None}
use Rattle.judge.specs.Sums.{lowest, misses}
use Rattle.judge.specs.Weighings.{Continues}
use Rattle.judge.proofs.judge.judge_places.Given as goal

abbrev pub invariant-loop-place : goal.invariant-loop-place
invariant-loop-place g l = record {
  same : Continues l.initial.weighing l.weighing;
  met : 1 < l.place → lowest (misses (g.S.Sheet.meaning l.sheet).goal l.stated.scale l.weighing.sums.now) 1 (g.S.Sheet.meaning l.sheet).unknowns ≡ None;
}
