-- What the outcome of a judging says of the sums in memory.
use Rattle.std.specs.Prelude.{◌≡◌, ℕ, Bool, true, false, List, take, ℤ, pos, ◌*ℤ◌, Some, None, Ok, Err, Option, Result, int_lt}
use Rattle.sheet.specs.Kind.{Kind}
use Rattle.judge.specs.declared.fault.JudgeFault.{JudgeFault}
use Rattle.judge.specs.declared.fault.JudgeFault.TheVariants.{Reading, MemoryTooShort, Misses, NotBelow}
use Rattle.judge.specs.Sums.{lowest, misses}

-- by the lowest unknown that a place misses, if any, and by whether its right sides stay below
abbrev pub verdict : ℕ → Option ℕ → Bool → Result (Unit {0}) JudgeFault
verdict p (Some u) below = Err (Misses p u)
verdict p None true = Ok tt
verdict p None false = Err (NotBelow p)

-- the verdict of a place, by its sums and the sum of its right sides
abbrev pub place_verdict : Kind → ℕ → ℕ → ℕ → ℤ → List ℤ → Result (Unit {0}) JudgeFault
place_verdict k scale claim p right sums =
    verdict p (lowest (misses k.goal scale sums) 1 k.unknowns) (int_lt right (pos scale *ℤ pos (k.ceiling claim)))

-- any refusal is one of reading
abbrev pub OnlyReading : {A : Type 0} → Result A JudgeFault → Type 0
OnlyReading (Ok x) = Unit {0}
OnlyReading (Err (Reading f)) = Unit {0}
OnlyReading (Err MemoryTooShort) = ⊥
OnlyReading (Err (Misses p u)) = ⊥
OnlyReading (Err (NotBelow p)) = ⊥

-- where a place was judged, the unknown that it misses is the lowest whose sum is not scale times its goal, and else there is none
abbrev pub Shown : {A : Type 0} → Kind → ℕ → List ℤ → Result A JudgeFault → Type 0
Shown k scale sums (Ok x) = lowest (misses k.goal scale sums) 1 k.unknowns ≡ None
Shown k scale sums (Err (Reading f)) = Unit {0}
Shown k scale sums (Err MemoryTooShort) = ⊥
Shown k scale sums (Err (Misses p u)) = lowest (misses k.goal scale sums) 1 k.unknowns ≡ Some u
Shown k scale sums (Err (NotBelow p)) = lowest (misses k.goal scale sums) 1 k.unknowns ≡ None

-- where the check refuses, r is that refusal and the memory is as it was; else the sums stand at the front of it
abbrev pub Judged : Kind → ℕ → Result (List ℕ) JudgeFault → Result (Unit {0}) JudgeFault → List ℤ → List ℤ → Type 0
Judged k scale (Ok l) r before after = Shown k scale (take k.unknowns after) r
Judged k scale (Err f) r before after = (r ≡ Err f) × (after ≡ before)
