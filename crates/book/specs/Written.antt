-- What a writing call answers, and what it does with lent memory.
use Rattle.std.specs.Prelude.{◌≡◌, ℕ, ◌≤◌, List, length, drop, Ok, Err, Result}
use Rattle.text.specs.declared.page.Short.{Short}
use Rattle.book.specs.declared.fault.BookFault.{BookFault}
use Rattle.book.specs.declared.fault.BookFault.TheVariants.{MemoryTooShort}

-- the length, or that the memory is too short
abbrev pub told : Result ℕ Short → Result ℕ BookFault
told (Ok n) = Ok n
told (Err s) = Err MemoryTooShort

-- m is the memory before and n after: what was written lies within it and the rest is as it was; all of it is, where it was too short
abbrev pub Wrote : List ℕ → Result ℕ BookFault → List ℕ → Type 0
Wrote m (Ok k) n = (k ≤ length m) × (drop k n ≡ drop k m)
Wrote m (Err f) n = n ≡ m
