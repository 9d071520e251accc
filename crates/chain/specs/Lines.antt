-- The lines of a chain's text, each by itself.
use Rattle.std.specs.Prelude.{ℕ, ◌&&◌, List, [], ◌∷◌, Ok, codes, Result, ◌==◌, nat_le}
use Rattle.text.specs.declared.fault.Fault.{Fault}
use Rattle.text.specs.declared.fault.Fault.TheVariants.{WordCount, OutOfLimits}
use Rattle.text.specs.Continue.{and_then, unless}
use Rattle.text.specs.Pieces.{word_count}
use Rattle.text.specs.Read.{number_at, names_line}
use Rattle.chain.specs.Plan.{Sends, Serves}

-- the names above the relays
abbrev pub relay_names : ℕ → List ℕ → Result (Unit {0}) Fault
relay_names line l = names_line line (codes "relay" ∷ (codes "rate" ∷ (codes "hold" ∷ []))) l

-- the names above the streams
abbrev pub stream_names : ℕ → List ℕ → Result (Unit {0}) Fault
stream_names line l = names_line line (codes "stream" ∷ (codes "from" ∷ (codes "to" ∷ (codes "burst" ∷ (codes "rate" ∷ []))))) l

-- a relay's number and a line of its curve, at a line of the text
pub record RelayLine : Type 0 where
  pub at : ℕ
  pub number : ℕ
  pub line : Serves

-- a stream's number, its stretch and a line of its curve, at a line of the text
pub record StreamLine : Type 0 where
  pub at : ℕ
  pub number : ℕ
  pub from : ℕ
  pub to : ℕ
  pub line : Sends

-- a rate from 1 to 1,048,576 and a hold up to 16,777,216, which stand at the words 2 and 3
abbrev pub service_in : ℕ → ℕ → ℕ → Result Serves Fault
service_in line rate hold =
    unless (nat_le 1 rate && nat_le rate 1048576) (OutOfLimits line 2)
    (unless (nat_le hold 16777216) (OutOfLimits line 3) (Ok (record { rate = rate; hold = hold })))

-- a burst from 1 to 16,777,216 and a rate up to 1,048,576, which stand at the words 4 and 5
abbrev pub arrival_in : ℕ → ℕ → ℕ → Result Sends Fault
arrival_in line burst rate =
    unless (nat_le 1 burst && nat_le burst 16777216) (OutOfLimits line 4)
    (unless (nat_le rate 1048576) (OutOfLimits line 5) (Ok (record { burst = burst; rate = rate })))

abbrev pub relay_line : ℕ → List ℕ → Result RelayLine Fault
relay_line line l =
    unless (word_count l == 3) (WordCount line)
    (and_then (number_at line 1 l) (λ n. and_then (number_at line 2 l) (λ r. and_then (number_at line 3 l) (λ h.
    and_then (service_in line r h) (λ s. Ok (record { at = line; number = n; line = s }))))))

abbrev pub stream_line : ℕ → List ℕ → Result StreamLine Fault
stream_line line l =
    unless (word_count l == 5) (WordCount line)
    (and_then (number_at line 1 l) (λ n. and_then (number_at line 2 l) (λ a. and_then (number_at line 3 l) (λ b. and_then (number_at line 4 l) (λ u. and_then (number_at line 5 l) (λ r.
    and_then (arrival_in line u r) (λ s. Ok (record { at = line; number = n; from = a; to = b; line = s }))))))))
