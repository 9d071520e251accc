use Rattle.std.proofs.Common.{◌≡◌}
use Rattle.chain.specs.Shape.{next}
use Rattle.sheet.specs.Kinds.{waiting}
use Rattle.sheet.proofs.backlog.waiting.goal_at.Given as goal

abbrev pub invariant-loop-stream : goal.invariant-loop-stream
invariant-loop-stream l =
    record {
      can_next : (goal.iterator-loop-stream).can_next l.stream-iterator;
      finite : (goal.iterator-loop-stream).is_finite l.stream-iterator;
      in_part : l.stream-iterator.last ≡ l.relay;
      left : waiting l.relay l.stream-iterator.offset l.stream-iterator.rest.now l.unknown ≡ waiting l.relay (next l.relay) l.streams l.unknown;
    }
