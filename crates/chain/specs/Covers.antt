-- A list of lines covers another if each line of that one is covered by a line of the first.
use Rattle.std.specs.Prelude.{Bool, ◌&&◌, List, length, ◌==◌, nat_le}
use Rattle.std.specs.List.{list_any, list_all, zip}
use Rattle.chain.specs.declared.line.ArrivalLine.{ArrivalLine}
use Rattle.chain.specs.declared.line.ServiceLine.{ServiceLine}
use Rattle.chain.specs.declared.stream.Relay.{Relay}
use Rattle.chain.specs.declared.stream.Stream.{Stream}
use Rattle.chain.specs.Curves.{lines_of}

-- a stream's line covers one with burst and rate no smaller
abbrev pub arrival_covers : ArrivalLine → ArrivalLine → Bool
arrival_covers new old = nat_le new.burst old.burst && nat_le new.rate old.rate

-- a relay's line covers one with a rate no larger and a hold no smaller
abbrev pub service_covers : ServiceLine → ServiceLine → Bool
service_covers new old = nat_le old.rate new.rate && nat_le new.hold old.hold

module _ {L : Type 0} (covering : L → L → Bool) where
  abbrev pub some_covers : List L → L → Bool
  some_covers news old = list_any (λ new. covering new old) news

  abbrev pub each_covered : List L → List L → Bool
  each_covered news olds = list_all (some_covers news) olds

  -- two curves are the same if each covers the other
  abbrev pub cover_both : List L → List L → Bool
  cover_both xs ys = each_covered xs ys && each_covered ys xs

abbrev pub same_relay : Relay → Relay → Bool
same_relay a b = cover_both service_covers (lines_of a.curve) (lines_of b.curve)

abbrev pub same_stream : Stream → Stream → Bool
same_stream a b =
    (a.stretch.from == b.stretch.from && a.stretch.to == b.stretch.to)
    && cover_both arrival_covers (lines_of a.curve) (lines_of b.curve)

-- as many of the one as of the other, each the same as its counterpart
abbrev pub all_alike : {T : Type 0} → (T → T → Bool) → List T → List T → Bool
all_alike same xs ys = length xs == length ys && list_all (λ p. same p.0 p.1) (zip xs ys)

-- the same chain: as many relays and streams, the same curves, equal stretches
abbrev pub same_chain : List Relay → List Stream → List Relay → List Stream → Bool
same_chain rs ss qs ts = all_alike same_relay rs qs && all_alike same_stream ss ts
