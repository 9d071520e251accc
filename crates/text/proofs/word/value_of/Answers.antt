use Rattle.std.proofs.Common.{length, rules}
use Rattle.text.proofs.WordLaws.{seven}
use Rattle.text.proofs.word.value_of.Goals as goal

pub overflow_mul-value : goal.overflow_mul-value
overflow_mul-value c = let s = seven c.loop-b.value c.loop-b.b-index (length c.args.text.now) c.loop-b.invariant.1 c.loop-b-test.true c.requires in search rules

pub overflow_add-value : goal.overflow_add-value
overflow_add-value c = let s = seven c.loop-b.value c.loop-b.b-index (length c.args.text.now) c.loop-b.invariant.1 c.loop-b-test.true c.requires in search rules
