-- What a kind of sheet means.
use Rattle.std.specs.Prelude.{ℕ, ◌+◌, ◌≤◌, ℤ, unsigned_abs}

-- places, unknowns, how many rows a place has, what the goal multiplies each unknown by, and what a claim has to stay below
pub record Kind : Type 1 where
  pub places : ℕ
  pub unknowns : ℕ
  pub rows : ℕ → ℕ
  pub goal : ℕ → ℤ
  pub ceiling : ℕ → ℕ

-- the limits that every sheet keeps
pub record Limits (k : Kind) : Type 0 where
  pub some_place : 1 ≤ k.places
  pub few_places : k.places ≤ 8
  pub few_unknowns : k.unknowns ≤ 320
  pub few_rows : (p : ℕ) → k.rows p ≤ 4096
  pub goal_small : (u : ℕ) → unsigned_abs (k.goal u) ≤ 1048576
  pub ceiling_low : (c : ℕ) → c ≤ k.ceiling c
  pub ceiling_high : (c : ℕ) → k.ceiling c ≤ c + 1
