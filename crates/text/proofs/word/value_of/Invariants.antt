use Rattle.std.proofs.Common.{◌≡◌, ◌^◌, ◌<◌, drop}
use Rattle.text.specs.Words.{digits_from}
use Rattle.text.proofs.word.value_of.Given as goal

abbrev pub invariant-loop-b : goal.invariant-loop-b
invariant-loop-b l = (digits_from l.value (drop l.b-index l.text) ≡ digits_from 0 l.text) × (l.value < 10 ^ l.b-index)
