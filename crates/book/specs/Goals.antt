-- The goal line of a paper and the names above it.
use Rattle.std.specs.Prelude.{ℕ, cond, ◌&&◌, List, [], ◌∷◌, Ok, codes, Result, ◌==◌, nat_le}
use Rattle.text.specs.declared.fault.Fault.{Fault}
use Rattle.text.specs.declared.fault.Fault.TheVariants.{WordCount, OutOfLimits, NamesNothing}
use Rattle.text.specs.Continue.{and_then, unless}
use Rattle.text.specs.Lines.{first_line, lines_of}
use Rattle.text.specs.Pieces.{word_count}
use Rattle.text.specs.Read.{begins_with, number_at, name_at, names_line}
use Rattle.judge.specs.declared.stated.Stated.{Stated}
use Rattle.book.specs.declared.goal.Goal.{Goal}
use Rattle.book.specs.declared.goal.Goal.TheVariants.{Delay, Backlog}
use Rattle.book.specs.declared.aim.Aim.{Aim}
use Rattle.book.specs.Places.{is_place_of}

-- a goal at a number, the claim and the scale, in plain numbers
pub record GoalPlan : Type 0 where
  pub goal : Goal
  pub at : ℕ
  pub claim : ℕ
  pub scale : ℕ

abbrev pub goal_plan : Aim → GoalPlan
goal_plan a = record { goal = a.target.goal; at = a.target.at; claim = a.stated.claim; scale = a.stated.scale }

pub record ClaimPlan : Type 0 where
  pub claim : ℕ
  pub scale : ℕ

abbrev pub claim_plan : Stated → ClaimPlan
claim_plan s = record { claim = s.claim; scale = s.scale }

-- the names above the goal line
abbrev pub goal_names : ℕ → List ℕ → Result (Unit {0}) Fault
goal_names line l = names_line line (codes "goal" ∷ (codes "at" ∷ (codes "claim" ∷ (codes "scale" ∷ [])))) l

-- the goal word: delay or backlog
abbrev pub goal_at : ℕ → List ℕ → Result Goal Fault
goal_at line l = cond (begins_with (codes "delay") l) (Ok Delay) (and_then (name_at line 1 (codes "backlog") l) (λ _. Ok Backlog))

-- a claim from 1 to 16,777,216 and a scale from 1 to 1,048,576, which stand at the words 3 and 4
abbrev pub claim_in : ℕ → ℕ → ℕ → Result ClaimPlan Fault
claim_in line claim scale =
    unless (nat_le 1 claim && nat_le claim 16777216) (OutOfLimits line 3)
    (unless (nat_le 1 scale && nat_le scale 1048576) (OutOfLimits line 4) (Ok (record { claim = claim; scale = scale })))

-- the goal line for a chain of n relays
abbrev pub goal_line : ℕ → ℕ → List ℕ → Result GoalPlan Fault
goal_line n line l =
    unless (word_count l == 4) (WordCount line)
    (and_then (goal_at line l) (λ g. and_then (number_at line 2 l) (λ a. and_then (number_at line 3 l) (λ c. and_then (number_at line 4 l) (λ s.
    and_then (claim_in line c s) (λ p.
    unless (is_place_of n g a) (NamesNothing line 2) (Ok (record { goal = g; at = a; claim = p.claim; scale = p.scale }))))))))

-- the goal line of a paper, below its names, and the lines from the third on
abbrev pub goal_row : List ℕ → Result (List ℕ × List ℕ) Fault
goal_row bs = and_then (lines_of bs) (λ t. and_then (first_line 1 t.1) (λ p. and_then (goal_names 1 p.0) (λ _. first_line 2 p.1)))

-- what a paper is about, for a chain of n relays, and its lines from the third on
abbrev pub read_paper : ℕ → List ℕ → Result (GoalPlan × List ℕ) Fault
read_paper n bs = and_then (goal_row bs) (λ q. and_then (goal_line n 2 q.0) (λ p. Ok (p, q.1)))
