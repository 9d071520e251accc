-- The two kinds of sheet of a chain.
use Rattle.std.specs.Prelude.{ℕ, ◌+◌, ◌*◌, cond, ◌&&◌, List, [], ◌∷◌, length, ℤ, pos, negsuc, Some, None, Option, ◌==◌, nat_le}
use Rattle.std.specs.Option.{unwrap_or}
use Rattle.chain.specs.Curves.{lines_of}
use Rattle.chain.specs.Shape.{next, crosses}
use Rattle.chain.specs.Views.{relays_of, streams_of}
use Rattle.chain.specs.declared.chain.Chain.{Chain}
use Rattle.chain.specs.declared.stream.Stream.{Stream}
use Rattle.chain.specs.declared.stretch.Stretch.{Stretch}
use Rattle.sheet.specs.Kind.{Kind}
use Rattle.sheet.specs.Parts.{kept_hops, part_rows, part_unknowns, width_of}

-- ---- the delay sheet

-- how many lines the stop stream, the first, has
abbrev pub stop_lines : List Stream → ℕ
stop_lines [] = 0
stop_lines (s ∷ ss) = length (lines_of s.curve)

-- the rows of the chain, five around the tick, and one for each node and line of the stop stream
abbrev pub delay_rows : Chain → ℕ
delay_rows c = part_rows c (length (relays_of c)) + 5 + (length (relays_of c) + 1) * stop_lines (streams_of c)

-- the last date less the tick
abbrev pub delay_goal : Chain → ℕ → ℤ
delay_goal c u = cond (u == next (length (relays_of c))) (pos 1) (cond (u == part_unknowns c (length (relays_of c)) + 1) (negsuc 0) (pos 0))

-- a place for each relay of the stop stream; a tick and what has entered by then follow the unknowns of the chain
abbrev pub delay_kind : Chain → Kind
delay_kind c = record {
  places = length (relays_of c);
  unknowns = part_unknowns c (length (relays_of c)) + 2;
  rows = λ p. cond (nat_le 1 p && nat_le p (length (relays_of c))) (delay_rows c) 0;
  goal = delay_goal c;
  ceiling = λ claim. claim;
}

-- ---- the backlog sheet of a relay

-- what a stream whose unknowns come after o others multiplies an unknown by: 1 for what has entered by the date after the relay, -1
-- for what has left it by then, if it crosses it
abbrev pub wait_of : ℕ → ℕ → Stretch → ℕ → Option ℤ
wait_of relay o s u =
    cond (crosses s relay)
    (cond (u == o + 1 + kept_hops relay s) (Some (pos 1)) (cond (u == o + 1 + kept_hops relay s + 1 + kept_hops relay s) (Some (negsuc 0)) None))
    None

-- what the streams multiply an unknown by, the first after o others; each unknown is of one stream
abbrev pub waiting : ℕ → ℕ → List Stream → ℕ → ℤ
waiting relay o [] u = pos 0
waiting relay o (s ∷ ss) u = unwrap_or (wait_of relay o s.stretch u) (waiting relay (o + width_of relay s.stretch) ss u)

abbrev pub backlog_kind : Chain → ℕ → Kind
backlog_kind c relay = record {
  places = 1;
  unknowns = part_unknowns c relay;
  rows = λ p. cond (p == 1) (part_rows c relay) 0;
  goal = waiting relay (next relay) (streams_of c);
  ceiling = λ claim. claim + 1;
}
