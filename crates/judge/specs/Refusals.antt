-- The refusal of each fault of a judging.
use Rattle.text.specs.declared.fault.Refusal.{Refusal}
use Rattle.text.specs.Refusals.{refusal_of}
use Rattle.judge.specs.declared.fault.JudgeFault.{JudgeFault}
use Rattle.judge.specs.declared.fault.JudgeFault.TheVariants.{Reading, MemoryTooShort, Misses, NotBelow}

abbrev pub judge_refusal : JudgeFault → Refusal
judge_refusal (Reading f) = refusal_of f
judge_refusal MemoryTooShort = record { number = 8; first = 0; second = 0 }
judge_refusal (Misses place unknown) = record { number = 6; first = place; second = unknown }
judge_refusal (NotBelow place) = record { number = 7; first = place; second = 0 }
