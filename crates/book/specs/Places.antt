-- The goals a claim can be about, each at a number: the delay at 0, a backlog at a relay.
use Rattle.std.specs.Prelude.{ℕ, Bool, ◌&&◌, List, codes, ◌==◌, nat_le}
use Rattle.book.specs.declared.goal.Goal.{Goal}
use Rattle.book.specs.declared.goal.Goal.TheVariants.{Delay, Backlog}

-- the word of a goal
abbrev pub goal_word : Goal → List ℕ
goal_word Delay = codes "delay"
goal_word Backlog = codes "backlog"

-- there is such a goal in a chain of n relays
abbrev pub is_place_of : ℕ → Goal → ℕ → Bool
is_place_of n Delay at = at == 0
is_place_of n Backlog at = nat_le 1 at && nat_le at n

-- there is such a goal in some chain
abbrev pub is_place : Goal → ℕ → Bool
is_place = is_place_of 8
