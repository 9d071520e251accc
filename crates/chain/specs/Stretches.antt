-- A stretch by its three numbers.
use Rattle.std.specs.Prelude.{ℕ, cond, ◌&&◌, Some, None, Option, nat_le}
use Rattle.chain.specs.declared.stretch.Stretch.{Stretch}

pub record Ends : Type 0 where
  pub from : ℕ
  pub to : ℕ
  pub relays : ℕ

abbrev pub ends : Stretch → Ends
ends s = record { from = s.from; to = s.to; relays = s.relays }

-- a stretch never ends before it begins and lies within the chain, which has at most eight relays
abbrev pub stretch_of : ℕ → ℕ → ℕ → Option Ends
stretch_of from to relays =
    cond (nat_le 1 from && (nat_le from to && (nat_le to relays && nat_le relays 8))) (Some (record { from = from; to = to; relays = relays })) None
