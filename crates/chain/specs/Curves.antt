-- The lines of a curve, as a list.
use Rattle.std.specs.Prelude.{List}
use Rattle.few.specs.Values.{items}
use Rattle.chain.specs.declared.curve.Curve.{Curve}

abbrev pub lines_of : {L : Type 0} → Curve L → List L
lines_of c = items c.lines
