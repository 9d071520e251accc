-- The last unknown of a part, of a stream in it, of what is kept of a stream, and of the delay sheet.
use Rattle.std.specs.Prelude.{ℕ, ◌+◌}
use Rattle.sheet.specs.Parts.{part_unknowns, values, width_of}
use Rattle.sheet.specs.declared.delay.DelaySheet.{DelaySheet}
use Rattle.sheet.specs.declared.kept.Kept.{Kept}
use Rattle.sheet.specs.declared.part.Part.{Part}
use Rattle.sheet.specs.declared.part.streams.PartStream.{PartStream}

abbrev pub part_end : Part → ℕ
part_end p = part_unknowns p.chain.now p.last

abbrev pub stream_end : PartStream → ℕ
stream_end s = s.offset + width_of s.last s.stream.now.stretch

abbrev pub kept_end : Kept → ℕ
kept_end k = k.offset + values k.stretch

-- a tick and what has entered by then follow the unknowns of the chain
abbrev pub delay_end : DelaySheet → ℕ
delay_end s = s.unknowns + 2
