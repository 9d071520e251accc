use Rattle.std.proofs.Common.{◌∙◌, arith}
use Rattle.sheet.proofs.StreamLaws.{one_less, own_within, same_end}
use Rattle.sheet.proofs.part.Part.write_crossings.Goals as goal

pub loop-stream-preserved : goal.loop-stream-preserved
loop-stream-preserved c =
    let e = c.in-Some.ensures.steps in
    let kept = c.loop-stream.invariant in
    record {
      can_next = tt;
      finite = tt;
      end = same_end _ _ _ e ∙ kept.end;
      room = omega (arith, kept.room, c.write_crossing.ensures.count, one_less _ _ _ e);
      fits = λ n f h. c.write_crossing.ensures.fits n (kept.fits n f h) (omega (arith, h, kept.end, own_within _ _ _ e));
    }
