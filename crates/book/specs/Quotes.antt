-- The claims that stand: one for the delay and one for each relay, where there is one.
use Rattle.std.specs.Prelude.{ℕ, ◌-◌, cond, List, replicate, Some, None, Option, nat_lt, slice_index_or, slice_set}
use Rattle.book.specs.declared.goal.Goal.{Goal}
use Rattle.book.specs.declared.goal.Goal.TheVariants.{Delay, Backlog}
use Rattle.book.specs.declared.quotes.Quotes.{Quotes}

pub record Standing : Type 0 where
  pub delay : Option ℕ
  pub backlog : List (Option ℕ)

abbrev pub standing : Quotes → Standing
standing q = record { delay = q.delay; backlog = q.backlog }

abbrev pub no_quotes : Standing
no_quotes = record { delay = None; backlog = replicate 8 None }

abbrev pub quote_at : Standing → Goal → ℕ → Option ℕ
quote_at s Delay at = s.delay
quote_at s Backlog at = slice_index_or s.backlog (at - 1) None

-- the smaller of a claim and the one that stands
abbrev pub smaller : Option ℕ → ℕ → ℕ
smaller None claim = claim
smaller (Some quote) claim = cond (nat_lt quote claim) quote claim

-- the quotes with one of them set
abbrev pub lowered : Standing → Goal → ℕ → ℕ → Standing
lowered s Delay at quote = record { delay = Some quote; backlog = s.backlog }
lowered s Backlog at quote = record { delay = s.delay; backlog = slice_set s.backlog (at - 1) (Some quote) }
