use Rattle.std.proofs.Common.{sym, ap, ◌∙◌, arith}
use Rattle.std.specs.Option.{option_map}
use Rattle.std.proofs.lemmas.List.Quantifiers.{position-Some}
use Rattle.text.specs.Pieces.{cut_at, held}
use Rattle.text.specs.Seats.{cut_seat, seated_two}
use Rattle.text.proofs.CutLaws.{around_at, cut_position}
use Rattle.text.proofs.SeatLaws.{seat_found, pair_seats, cut_bytes}
use Rattle.text.proofs.cut.cut.Goals as goal

pub returns-in_err-i : goal.returns-in_err-i
returns-in_err-i c =
    let e = sym (cut_position c.args.stop c.args.text.now ∙ ap (option_map (around_at c.args.text.now)) (sym c.in_err-i.ensures)) in
    record { bytes = ap held c.from_residual.ensures ∙ e; seats = ap seated_two c.from_residual.ensures ∙ ap (cut_seat c.args.text.ref_ptr) e }

pub returns : goal.returns
returns c =
    let e = cut_position c.args.stop c.args.text.now ∙ ap (option_map (around_at c.args.text.now)) (sym c.in_ok-i.ensures) in
    let low = (position-Some _ c.args.text.now c.in_ok-i.i 0 (sym c.in_ok-i.ensures)).0 in
    let s = pair_seats _ _ _ _ c.around.ensures.front c.around.ensures.back ∙ sym (seat_found c.args.text.ref_ptr c.args.text.now c.in_ok-i.i (omega arith)) ∙ ap (cut_seat c.args.text.ref_ptr) (sym e) in
    record { bytes = cut_bytes _ c.args.text.ref_ptr (cut_at c.args.stop c.args.text.now) s; seats = s }
