use Rattle.std.proofs.Common.{◌≡◌, length}
use Rattle.text.specs.Pieces.{pieces}
use Rattle.text.specs.Lines.{read_lines}
use Rattle.text.proofs.lines.read_lines.Given as goal

abbrev pub invariant-loop-line : goal.invariant-loop-line
invariant-loop-line g l = read_lines g.S.LineSink.step (g.S.LineSink.view l.sink) l.rest.first (pieces 10 l.rest.text.now) ≡ read_lines g.S.LineSink.step (g.S.LineSink.view l.initial.sink) l.lines.first (pieces 10 l.lines.text.now)

abbrev pub decreases-loop-line : goal.decreases-loop-line
decreases-loop-line g l = length l.rest.text.now
