-- What a chain's text says.
use Rattle.std.specs.Prelude.{ℕ, cond, List, [], length, Ok, Err, codes, Result, nat_le, nat_lt}
use Rattle.text.specs.declared.fault.Fault.{Fault}
use Rattle.text.specs.declared.fault.Fault.TheVariants.{EndsEarly, NoRelay, NoStream, TooLong}
use Rattle.text.specs.Continue.{and_then, unless}
use Rattle.text.specs.Lines.{read_lines}
use Rattle.text.specs.Pieces.{pieces}
use Rattle.text.specs.Read.{begins_with}
use Rattle.chain.specs.declared.draft.Draft.{Draft}
use Rattle.chain.specs.declared.draft.Draft.TheVariants.{Empty, Relays, Streams}
use Rattle.chain.specs.declared.draft.streams.StreamDraft.{StreamDraft}
use Rattle.chain.specs.Drafts.{place_relay, place_stream, relay_plans, stream_plans}
use Rattle.chain.specs.Lines.{relay_names, stream_names, relay_line, stream_line}
use Rattle.chain.specs.Plan.{Plan, Serves, StreamPlan}

-- how far a text was read: nothing, the relay names and some relays, or the stream names and some streams too
pub data Stage : Type 0 where
  nothing : Stage
  relays : List (List Serves) → Stage
  streams : List (List Serves) → List StreamPlan → Stage

-- a line where a relay could stand
abbrev pub relay_step : List (List Serves) → ℕ → List ℕ → Result Stage Fault
relay_step rs line l =
    cond (begins_with (codes "stream") l)
    (and_then (stream_names line l) (λ _. unless (nat_le 1 (length rs)) (NoRelay line) (Ok (streams rs []))))
    (and_then (relay_line line l) (λ r. and_then (place_relay rs r) (λ more. Ok (relays more))))

abbrev pub stream_step : List (List Serves) → List StreamPlan → ℕ → List ℕ → Result Stage Fault
stream_step rs ss line l = and_then (stream_line line l) (λ r. and_then (place_stream (length rs) ss r) (λ more. Ok (streams rs more)))

abbrev pub chain_step : Stage → ℕ → List ℕ → Result Stage Fault
chain_step nothing line l = and_then (relay_names line l) (λ _. Ok (relays []))
chain_step (relays rs) line l = relay_step rs line l
chain_step (streams rs ss) line l = stream_step rs ss line l

-- what a text lacks at its end is told on the line after its last
abbrev pub ended : Stage → ℕ → Result Plan Fault
ended nothing line = Err (EndsEarly line)
ended (relays rs) line = Err (EndsEarly line)
ended (streams rs ss) line = unless (nat_le 1 (length ss)) (NoStream line) (Ok (record { relays = rs; streams = ss }))

abbrev pub read_chain : List ℕ → Result Plan Fault
read_chain bs = cond (nat_lt 65536 (length bs)) (Err TooLong) (and_then (read_lines chain_step nothing 1 (pieces 10 bs)) (λ p. ended p.0 p.1))

abbrev pub draft_plan : StreamDraft → Plan
draft_plan d = record { relays = relay_plans d.relays; streams = stream_plans d }

abbrev pub stage_of : Draft → Stage
stage_of Empty = nothing
stage_of (Relays d) = relays (relay_plans d)
stage_of (Streams d) = streams (relay_plans d.relays) (stream_plans d)
