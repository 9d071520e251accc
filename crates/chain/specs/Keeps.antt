-- What the streams of every chain keep.
use Rattle.std.specs.Prelude.{ℕ, Bool, true, false, ◌&&◌, List, [], ◌∷◌, ◌==◌}
use Rattle.chain.specs.declared.stream.Stream.{Stream}

-- each stretch lies within the n relays
abbrev pub lie_within : ℕ → List Stream → Bool
lie_within n [] = true
lie_within n (s ∷ ss) = s.stretch.relays == n && lie_within n ss

-- the first stream, the stop stream, runs over all n relays
abbrev pub stops_at_end : ℕ → List Stream → Bool
stops_at_end n [] = false
stops_at_end n (s ∷ ss) = s.stretch.from == 1 && s.stretch.to == n

-- the same, where there is a first stream
abbrev pub stops_if_any : ℕ → List Stream → Bool
stops_if_any n [] = true
stops_if_any n (s ∷ ss) = stops_at_end n (s ∷ ss)
