-- What judging a paper for a chain comes to.
use Rattle.std.specs.Prelude.{◌≡◌, ℕ, List, length, drop, ℤ, Ok, Err, Result}
use Rattle.text.specs.declared.fault.Fault.{Fault}
use Rattle.text.specs.Continue.{ok_as, KeptOk}
use Rattle.chain.specs.declared.chain.Chain.{Chain}
use Rattle.sheet.specs.Kind.{Kind}
use Rattle.sheet.specs.Kinds.{delay_kind, backlog_kind}
use Rattle.judge.specs.declared.fault.JudgeFault.{JudgeFault}
use Rattle.judge.specs.declared.fault.JudgeFault.TheVariants.{Reading}
use Rattle.judge.specs.Outcomes.{Judged}
use Rattle.judge.specs.Papers.{check_paper}
use Rattle.book.specs.declared.aim.Aim.{Aim}
use Rattle.book.specs.declared.goal.Goal.{Goal}
use Rattle.book.specs.declared.goal.Goal.TheVariants.{Delay, Backlog}
use Rattle.book.specs.Goals.{GoalPlan, goal_plan}

-- the sheet of a goal at a number
abbrev pub kind_of : Chain → Goal → ℕ → Kind
kind_of c Delay at = delay_kind c
kind_of c Backlog at = backlog_kind c at

-- lines, the first with the number n, were judged by that sheet: their check is exact, and entries past its unknowns stay
pub record ByKind (k : Kind) (scale n : ℕ) (rest : List ℕ) (r : Result (Unit {0}) JudgeFault) (before after : List ℤ) : Type 0 where
  pub judged : Judged k scale (check_paper k (length before) n rest) r before after
  pub beyond : drop k.unknowns after ≡ drop k.unknowns before

-- the outcome for a paper about p with these lines
pub record PaperJudged (c : Chain) (p : GoalPlan) (rest : List ℕ) (r : Result Aim JudgeFault) (before after : List ℤ) : Type 0 where
  pub aim : KeptOk (λ a. goal_plan a ≡ p) r
  pub lines : ByKind (kind_of c p.goal p.at) p.scale 3 rest (ok_as (λ _. tt) r) before after

-- the outcome for a paper: one with a fault in its length or its first two lines is refused by it, and touches no memory
abbrev pub AimTold : Chain → Result (GoalPlan × List ℕ) Fault → Result Aim JudgeFault → List ℤ → List ℤ → Type 0
AimTold c (Ok p) r before after = PaperJudged c p.0 p.1 r before after
AimTold c (Err f) r before after = (r ≡ Err (Reading f)) × (after ≡ before)
