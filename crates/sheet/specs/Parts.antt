-- The part of a chain that leads to one relay, and how many unknowns it has.
use Rattle.std.specs.Prelude.{◌≡◌, ℕ, ◌+◌, ◌-◌, ◌*◌, ◌/◌, ◌≤◌, min, cond, List, length, take, sum_by, nat_le}
use Rattle.chain.specs.Curves.{lines_of}
use Rattle.chain.specs.Shape.{next, hops}
use Rattle.chain.specs.Views.{relays_of, streams_of}
use Rattle.chain.specs.declared.chain.Chain.{Chain}
use Rattle.chain.specs.declared.stream.Relay.{Relay}
use Rattle.chain.specs.declared.stream.Stream.{Stream}
use Rattle.chain.specs.declared.stretch.Stretch.{Stretch}

-- what is left of a stretch that begins at or before the last relay of the part
pub record Cut (s : Stretch) (last : ℕ) (kept : Stretch) : Type 0 where
  pub begins : s.from ≤ last
  pub same_from : kept.from ≡ s.from
  pub cut_to : kept.to ≡ min s.to last
  pub same_relays : kept.relays ≡ s.relays

-- an in and an out value at each relay of a stretch and after the last
abbrev pub values : Stretch → ℕ
values s = 2 * (hops s + 1)

-- how many relays of a stretch that begins at or before the last relay are in the part
abbrev pub kept_hops : ℕ → Stretch → ℕ
kept_hops last s = next (min s.to last) - s.from

-- how many unknowns a stretch has in the part; none if it begins after the last relay
abbrev pub width_of : ℕ → Stretch → ℕ
width_of last s = cond (nat_le s.from last) (2 * (kept_hops last s + 1)) 0

abbrev pub widths : ℕ → List Stream → ℕ
widths last ss = sum_by (λ s. width_of last s.stretch) ss

-- a date for each relay and one after the last, then the values of each stream
abbrev pub part_unknowns : Chain → ℕ → ℕ
part_unknowns c last = next last + widths last (streams_of c)

-- pairs of different nodes on a stretch of so many relays
abbrev pub pairs_of : ℕ → ℕ
pairs_of k = k * (k + 1) / 2

-- the rows of a stream over k relays with m lines
abbrev pub rows_of : ℕ → ℕ → ℕ
rows_of k m = 1 + (k + 1) + k + k + m * pairs_of k

abbrev pub stream_rows : ℕ → Stream → ℕ
stream_rows last s = cond (nat_le s.stretch.from last) (rows_of (kept_hops last s.stretch) (length (lines_of s.curve))) 0

abbrev pub streams_rows : ℕ → List Stream → ℕ
streams_rows last ss = sum_by (stream_rows last) ss

-- a row for each line of each relay
abbrev pub relays_rows : List Relay → ℕ
relays_rows rs = sum_by (λ r. length (lines_of r.curve)) rs

-- the dates never fall, the relays serve, and the rows of each stream
abbrev pub part_rows : Chain → ℕ → ℕ
part_rows c last = last + relays_rows (take last (relays_of c)) + streams_rows last (streams_of c)
