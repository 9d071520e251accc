-- The number and the two values by which each fault is told.
use Rattle.text.specs.declared.fault.Fault.{Fault}
use Rattle.text.specs.declared.fault.Fault.TheVariants.{WordCount, LineEnd, EndsEarly, WrongWord, OutOfLimits, WrongNumber, WrongStretch, FallingPlace, NoRelay, NoStream, TooMany, TooLong, NamesNothing}
use Rattle.text.specs.declared.fault.Refusal.{Refusal}

abbrev pub refusal_of : Fault → Refusal
refusal_of (WordCount line) = record { number = 1; first = line; second = 0 }
refusal_of (LineEnd line) = record { number = 1; first = line; second = 0 }
refusal_of (EndsEarly line) = record { number = 1; first = line; second = 0 }
refusal_of (WrongWord line word) = record { number = 1; first = line; second = word }
refusal_of (OutOfLimits line word) = record { number = 2; first = line; second = word }
refusal_of (WrongNumber line) = record { number = 3; first = line; second = 1 }
refusal_of (WrongStretch line) = record { number = 3; first = line; second = 2 }
refusal_of (FallingPlace line) = record { number = 3; first = line; second = 1 }
refusal_of (NoRelay line) = record { number = 3; first = line; second = 0 }
refusal_of (NoStream line) = record { number = 3; first = line; second = 0 }
refusal_of (TooMany line) = record { number = 4; first = line; second = 0 }
refusal_of TooLong = record { number = 4; first = 0; second = 0 }
refusal_of (NamesNothing line word) = record { number = 5; first = line; second = word }
