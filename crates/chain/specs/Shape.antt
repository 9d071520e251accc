-- The order of relays. Only this file says that the relay after j is j + 1.
use Rattle.std.specs.Prelude.{ℕ, ◌+◌, ◌-◌, Bool, cond, ◌&&◌, Some, None, Option, nat_le}
use Rattle.chain.specs.declared.stretch.Stretch.{Stretch}

-- the relay after relay j; after the last one, the number past it
abbrev pub next : ℕ → ℕ
next j = j + 1

-- how many relays a stretch has
abbrev pub hops : Stretch → ℕ
hops s = s.to - s.from + 1

-- the relay at a position of a stretch, from 0
abbrev pub node : Stretch → ℕ → ℕ
node s p = s.from + p

-- whether a relay is one of a stretch
abbrev pub crosses : Stretch → ℕ → Bool
crosses s j = nat_le s.from j && nat_le j s.to

-- the position of a relay in a stretch
abbrev pub position_of : Stretch → ℕ → Option ℕ
position_of s j = cond (crosses s j) (Some (j - s.from)) None
