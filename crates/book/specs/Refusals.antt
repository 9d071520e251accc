-- The refusal of each fault of a call.
use Rattle.std.specs.Prelude.{ℕ}
use Rattle.text.specs.declared.fault.Refusal.{Refusal}
use Rattle.text.specs.Refusals.{refusal_of}
use Rattle.judge.specs.Refusals.{judge_refusal}
use Rattle.book.specs.declared.fault.BookFault.{BookFault}
use Rattle.book.specs.declared.fault.BookFault.TheVariants.{EditsExhausted, NoChain, EditsMoved, Reading, Judging, NamesNothing, MemoryTooShort, OutOfMemory}

abbrev pub plainly : ℕ → Refusal
plainly n = record { number = n; first = 0; second = 0 }

abbrev pub book_refusal : BookFault → Refusal
book_refusal EditsExhausted = plainly 26
book_refusal NoChain = plainly 21
book_refusal EditsMoved = plainly 22
book_refusal (Reading f) = refusal_of f
book_refusal (Judging f) = judge_refusal f
book_refusal NamesNothing = plainly 5
book_refusal MemoryTooShort = plainly 8
book_refusal OutOfMemory = plainly 9
