use Rattle.std.proofs.Common.{◌≡◌, ◌-◌}
use Rattle.text.specs.Pieces.{at}
use Rattle.text.specs.Seats.{seat, parts}
use Rattle.text.proofs.cut.piece.Given as goal

abbrev pub invariant-loop-i : goal.invariant-loop-i
invariant-loop-i l = at (parts l.stop (seat l.rest.text)) (l.k - l._i) ≡ at (parts l.stop (seat l.initial.rest.text)) l.k
