use Rattle.std.proofs.Common.{[], ◌∙◌, ap}
use Rattle.text.specs.Pieces.{holds}
use Rattle.text.specs.Seats.{seat, seated, parts}
use Rattle.text.proofs.SeatLaws.{parts_some, parts_none, at_tail, at_head, bytes_at_lem}
use Rattle.text.proofs.cut.piece.Goals as goal

pub loop-i-preserved : goal.loop-i-preserved
loop-i-preserved c =
    at_tail _ _ (parts c.args.stop (seat c.in_ok-after.after)) c.args.k c.loop-i._i (parts_some c.args.stop (seat c.loop-i.rest.text) _ _ c.in_ok-after.ensures.seats) c.loop-i-test.true ∙ c.loop-i.invariant

pub returns-in_err-after : goal.returns-in_err-after
returns-in_err-after c =
    let e = at_tail _ _ [] c.args.k c.loop-i._i (parts_none c.args.stop (seat c.loop-i.rest.text) c.in_err-after.ensures.seats) c.loop-i-test.true ∙ c.loop-i.invariant in
    record { bytes = ap holds c.from_residual.ensures ∙ bytes_at_lem _ c.args.stop (seat c.args.text) c.args.k e; seats = ap seated c.from_residual.ensures ∙ e }

pub returns-in-Some : goal.returns-in-Some
returns-in-Some c =
    let e = at_head _ _ _ c.args.k c.loop-i._i (parts_some c.args.stop (seat c.loop-i.rest.text) _ _ c.in-Some.ensures.seats) c.loop-i-test.false ∙ c.loop-i.invariant in
    record { bytes = bytes_at_lem _ c.args.stop (seat c.args.text) c.args.k e; seats = e }

pub returns-in-None : goal.returns-in-None
returns-in-None c =
    let e = at_head _ _ [] c.args.k c.loop-i._i (parts_none c.args.stop (seat c.loop-i.rest.text) c.in-None.ensures.seats) c.loop-i-test.false ∙ c.loop-i.invariant in
    record { bytes = bytes_at_lem _ c.args.stop (seat c.args.text) c.args.k e; seats = e }
