-- A chain by its plain numbers: what a chain's text says.
use Rattle.std.specs.Prelude.{ℕ, List, map}
use Rattle.chain.specs.declared.chain.Chain.{Chain}
use Rattle.chain.specs.declared.curve.Curve.{Curve}
use Rattle.chain.specs.declared.line.ArrivalLine.{ArrivalLine}
use Rattle.chain.specs.declared.line.ServiceLine.{ServiceLine}
use Rattle.chain.specs.declared.stream.Relay.{Relay}
use Rattle.chain.specs.declared.stream.Stream.{Stream}
use Rattle.chain.specs.Curves.{lines_of}
use Rattle.chain.specs.Views.{relays_of, streams_of}

-- a line of a stream's curve
pub record Sends : Type 0 where
  pub burst : ℕ
  pub rate : ℕ

-- a line of a relay's curve
pub record Serves : Type 0 where
  pub rate : ℕ
  pub hold : ℕ

pub record StreamPlan : Type 0 where
  pub from : ℕ
  pub to : ℕ
  pub lines : List Sends

pub record Plan : Type 0 where
  pub relays : List (List Serves)
  pub streams : List StreamPlan

abbrev pub sends : ArrivalLine → Sends
sends l = record { burst = l.burst; rate = l.rate }

abbrev pub serves : ServiceLine → Serves
serves l = record { rate = l.rate; hold = l.hold }

abbrev pub service_plan : Curve ServiceLine → List Serves
service_plan c = map serves (lines_of c)

abbrev pub arrival_plan : Curve ArrivalLine → List Sends
arrival_plan c = map sends (lines_of c)

abbrev pub relay_plan : Relay → List Serves
relay_plan r = service_plan r.curve

abbrev pub stream_plan : Stream → StreamPlan
stream_plan s = record { from = s.stretch.from; to = s.stretch.to; lines = arrival_plan s.curve }

abbrev pub plan_of : Chain → Plan
plan_of c = record { relays = map relay_plan (relays_of c); streams = map stream_plan (streams_of c) }
