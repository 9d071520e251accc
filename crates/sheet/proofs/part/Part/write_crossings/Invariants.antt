use Rattle.std.proofs.Common.{◌≡◌, ℕ, ◌+◌, ◌*◌, ◌≤◌, length}
use Rattle.sheet.specs.Ends.{part_end}
use Rattle.sheet.specs.Rows.{Fits, terms_of}
use Rattle.sheet.proofs.StreamLaws.{end_of}
use Rattle.sheet.proofs.part.Part.write_crossings.Given as goal

abbrev pub invariant-loop-stream : goal.invariant-loop-stream
invariant-loop-stream l =
    record {
      can_next : (goal.iterator-loop-stream).can_next l.stream-iterator;
      finite : (goal.iterator-loop-stream).is_finite l.stream-iterator;
      end : end_of l.stream-iterator ≡ part_end l.self;
      room : length (terms_of l.out) + 2 * length l.stream-iterator.rest.now ≤ 34;
      fits : (n : ℕ) → Fits n l.fn.out → part_end l.self ≤ n → Fits n l.out;
    }
