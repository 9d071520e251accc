-- How a reader goes on: with what it has read, or where a test holds.
use Rattle.std.specs.Prelude.{Bool, true, false, Ok, Err, Result}
use Rattle.text.specs.declared.fault.Fault.{Fault}

abbrev pub and_then : {A B F : Type 0} → Result A F → (A → Result B F) → Result B F
and_then (Ok x) k = k x
and_then (Err f) k = Err f

-- goes on with k where the test holds, else gives the fault
abbrev pub unless : {A : Type 0} → Bool → Fault → Result A Fault → Result A Fault
unless true f k = k
unless false f k = Err f

-- an outcome, with f of what was read
abbrev pub ok_as : {A B E : Type 0} → (A → B) → Result A E → Result B E
ok_as f (Ok x) = Ok (f x)
ok_as f (Err e) = Err e

-- P of what was read, if anything was
abbrev pub KeptOk : {A E : Type 0} → (A → Type 0) → Result A E → Type 0
KeptOk P (Ok x) = P x
KeptOk P (Err e) = Unit {0}
