-- A chain by the lists of its relays and streams.
use Rattle.std.specs.Prelude.{List, vec_items}
use Rattle.chain.specs.declared.chain.Chain.{Chain}
use Rattle.chain.specs.declared.stream.Relay.{Relay}
use Rattle.chain.specs.declared.stream.Stream.{Stream}

abbrev pub relays_of : Chain → List Relay
relays_of c = vec_items c.relays

abbrev pub streams_of : Chain → List Stream
streams_of c = vec_items c.streams.table
