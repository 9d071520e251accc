use Rattle.std.proofs.Common.{◌≡◌}
use Rattle.sheet.specs.Ends.{part_end}
use Rattle.sheet.proofs.StreamLaws.{end_of}
use Rattle.sheet.proofs.part.Part.find_stream.Given as goal

abbrev pub invariant-loop-stream : goal.invariant-loop-stream
invariant-loop-stream l =
    record {
      can_next : (goal.iterator-loop-stream).can_next l.stream-iterator;
      finite : (goal.iterator-loop-stream).is_finite l.stream-iterator;
      in_part : l.stream-iterator.last ≡ l.self.last;
      end : end_of l.stream-iterator ≡ part_end l.self;
    }
