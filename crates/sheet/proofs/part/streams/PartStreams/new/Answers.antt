use Rattle.std.proofs.Common.{arith}
use Rattle.sheet.specs.SheetLimits.{widths_few}
use Rattle.sheet.proofs.part.streams.PartStreams.new.Goals as goal

pub invariant_of-result-clause-few : goal.invariant_of-result-clause-few
invariant_of-result-clause-few c = omega (arith, widths_few c.args.last c.args.streams.now)
