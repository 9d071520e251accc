-- What a read line says, in plain numbers.
use Rattle.chain.specs.declared.row.RelayRow.{RelayRow}
use Rattle.chain.specs.declared.row.StreamRow.{StreamRow}
use Rattle.chain.specs.Lines.{RelayLine, StreamLine}
use Rattle.chain.specs.Plan.{sends, serves}

abbrev pub relay_line_of : RelayRow → RelayLine
relay_line_of r = record { at = r.at; number = r.number; line = serves r.line }

abbrev pub stream_line_of : StreamRow → StreamLine
stream_line_of r = record { at = r.at; number = r.number; from = r.from; to = r.to; line = sends r.line }
