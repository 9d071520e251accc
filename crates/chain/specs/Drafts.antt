-- How a line of a chain's text adds to the relays and streams before it.
use Rattle.std.specs.Prelude.{ℕ, ◌+◌, ◌-◌, Bool, cond, ◌&&◌, ◌||◌, List, [], ◌∷◌, ◌++◌, map, length, Ok, Result, ◌==◌, nat_le, nat_lt, slice_index_or, slice_set}
use Rattle.few.specs.Values.{items}
use Rattle.text.specs.declared.fault.Fault.{Fault}
use Rattle.text.specs.declared.fault.Fault.TheVariants.{WrongNumber, WrongStretch, TooMany}
use Rattle.text.specs.Continue.{and_then, unless}
use Rattle.chain.specs.declared.draft.relays.RelayDraft.{RelayDraft}
use Rattle.chain.specs.declared.draft.streams.StreamDraft.{StreamDraft}
use Rattle.chain.specs.Lines.{RelayLine, StreamLine}
use Rattle.chain.specs.Plan.{Serves, StreamPlan, relay_plan, stream_plan}

-- the place, from 0, of the value with the number n, which is that of the last of k values or of the next one
abbrev pub place_of : ℕ → ℕ → ℕ → Result ℕ Fault
place_of n k line = unless (nat_le 1 n && (n == k || n == k + 1)) (WrongNumber line) (Ok (n - 1))

-- a curve with one line more, of four at most
abbrev pub longer : {L : Type 0} → List L → ℕ → L → Result (List L) Fault
longer ls line l = unless (nat_lt (length ls) 4) (TooMany line) (Ok (ls ++ l ∷ []))

-- the first line of the next relay
abbrev pub next_relay : List (List Serves) → RelayLine → Result (List (List Serves)) Fault
next_relay rs r = unless (nat_lt (length rs) 8) (TooMany r.at) (Ok (rs ++ (r.line ∷ []) ∷ []))

-- a further line of the relay at k, from 0
abbrev pub further_relay : List (List Serves) → ℕ → RelayLine → Result (List (List Serves)) Fault
further_relay rs k r = and_then (longer (slice_index_or rs k []) r.at r.line) (λ ls. Ok (slice_set rs k ls))

-- a further line of the last relay, or the first of the next
abbrev pub place_relay : List (List Serves) → RelayLine → Result (List (List Serves)) Fault
place_relay rs r = and_then (place_of r.number (length rs) r.at) (λ k. cond (nat_lt k (length rs)) (further_relay rs k r) (next_relay rs r))

-- the stream at k, from 0
abbrev pub stream_at : List StreamPlan → ℕ → StreamPlan
stream_at ss k = slice_index_or ss k (record { from = 0; to = 0; lines = [] })

-- a stretch lies within n relays
abbrev pub lies : ℕ → StreamLine → Bool
lies n r = nat_le 1 r.from && (nat_le r.from r.to && nat_le r.to n)

-- the stop stream's stretch is all n relays
abbrev pub stretches : ℕ → StreamLine → Bool
stretches n r = lies n r && (nat_lt 1 r.number || (r.from == 1 && r.to == n))

-- the first line of a stream over n relays
abbrev pub first_line : ℕ → StreamLine → Result StreamPlan Fault
first_line n r = unless (stretches n r) (WrongStretch r.at) (Ok (record { from = r.from; to = r.to; lines = r.line ∷ [] }))

-- the same, of the next stream
abbrev pub next_stream : ℕ → List StreamPlan → StreamLine → Result (List StreamPlan) Fault
next_stream n ss r = and_then (first_line n r) (λ s. unless (nat_lt (length ss) 16) (TooMany r.at) (Ok (ss ++ s ∷ [])))

-- a further line of the stream s, with its stretch again
abbrev pub lengthened : StreamPlan → StreamLine → Result StreamPlan Fault
lengthened s r =
    unless (r.from == s.from && r.to == s.to) (WrongStretch r.at)
    (and_then (longer s.lines r.at r.line) (λ ls. Ok (record { from = s.from; to = s.to; lines = ls })))

-- the same, of the stream at k, from 0
abbrev pub further_stream : List StreamPlan → ℕ → StreamLine → Result (List StreamPlan) Fault
further_stream ss k r = and_then (lengthened (stream_at ss k) r) (λ s. Ok (slice_set ss k s))

-- a further line of the last stream, or the first of the next
abbrev pub place_stream : ℕ → List StreamPlan → StreamLine → Result (List StreamPlan) Fault
place_stream n ss r = and_then (place_of r.number (length ss) r.at) (λ k. cond (nat_lt k (length ss)) (further_stream ss k r) (next_stream n ss r))

abbrev pub relay_plans : RelayDraft → List (List Serves)
relay_plans d = map relay_plan (items d.table)

abbrev pub stream_plans : StreamDraft → List StreamPlan
stream_plans d = map stream_plan (items d.table)
