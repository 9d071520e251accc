use Rattle.std.proofs.Common.{sym, ap, ◌∙◌}
use Rattle.text.specs.Lines.{at_end}
use Rattle.text.proofs.LineLaws.{lines_some, lines_none, took_end, took_err}
use Rattle.text.proofs.lines.read_lines.Goals as goal

pub returns-in_err-take_line : goal.returns-in_err-take_line
returns-in_err-take_line g c =
    took_err _ _ _ _ c.from_residual.ensures.1
    (sym c.loop-line.invariant ∙ lines_some g.S.LineSink.step (g.S.LineSink.view c.loop-line.sink) c.loop-line.rest.first _ c.in-Some.after.first c.loop-line.rest.text.now _ c.in-Some.after.text.now _ c.in-Some.ensures.bytes c.in-Some.ensures.numbers.0 c.in-Some.ensures.numbers.1 c.in_err-take_line.ensures)

pub loop-line-preserved : goal.loop-line-preserved
loop-line-preserved g c =
    sym (lines_some g.S.LineSink.step (g.S.LineSink.view c.loop-line.sink) c.loop-line.rest.first _ c.in-Some.after.first c.loop-line.rest.text.now _ c.in-Some.after.text.now _ c.in-Some.ensures.bytes c.in-Some.ensures.numbers.0 c.in-Some.ensures.numbers.1 c.in_ok-take_line.ensures) ∙ c.loop-line.invariant

pub returns : goal.returns
returns g c =
    took_end _ _ _ (sym c.loop-line.invariant ∙ lines_none g.S.LineSink.step (g.S.LineSink.view c.loop-line.sink) c.loop-line.rest.first c.loop-line.rest.text.now c.in_default.ensures.bytes ∙ ap (at_end (g.S.LineSink.view c.loop-line.sink)) (sym c.expect_end.ensures))
