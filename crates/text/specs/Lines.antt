-- A text read line by line into a state.
use Rattle.std.specs.Prelude.{◌≡◌, ℕ, ◌+◌, cond, not, List, [], ◌∷◌, length, Some, None, Ok, Err, Option, Result, ◌==◌, nat_le}
use Rattle.std.specs.Borrow.{Bor}
use Rattle.text.specs.declared.fault.Fault.{Fault}
use Rattle.text.specs.declared.fault.Fault.TheVariants.{EndsEarly, LineEnd, TooLong}
use Rattle.text.specs.Continue.{and_then, unless}
use Rattle.text.specs.Pieces.{cut_at}

-- x where ls is empty, else y
abbrev pub last_or : {A : Type 0} → List (List ℕ) → A → A → A
last_or [] x y = x
last_or (l ∷ ls) x y = y

-- what follows the last byte 10 has to be empty, and the answer is the number of the line that it would be
abbrev pub end_of : ℕ → List ℕ → Result ℕ Fault
end_of n l = cond (length l == 0) (Ok n) (Err (LineEnd n))

-- the end of the text in the state s
abbrev pub at_end : {S : Type 0} → S → Result ℕ Fault → Result (S × ℕ) Fault
at_end s (Ok n) = Ok (s, n)
at_end s (Err f) = Err f

-- the state after the lines that follow, the first with the number n, and the number of the line after the last; the last piece is
-- what follows the last byte 10
abbrev pub read_lines : {S : Type 0} → (S → ℕ → List ℕ → Result S Fault) → S → ℕ → List (List ℕ) → Result (S × ℕ) Fault
read_lines f s n [] = Ok (s, n)
read_lines f s n (l ∷ ls) = last_or ls (at_end s (end_of n l)) (and_then (f s n l) (λ t. read_lines f t (n + 1) ls))

-- r tells of the outcome s of a line, and where it is Ok, t is the state
abbrev pub Took : {S : Type 0} → Result S Fault → Result (Unit {0}) Fault → S → Type 0
Took s (Ok x) t = s ≡ Ok t
Took s (Err f) t = s ≡ Err f

-- r tells of the outcome s of the lines, and where it is Ok, t is the state
abbrev pub TookAll : {S : Type 0} → Result (S × ℕ) Fault → Result ℕ Fault → S → Type 0
TookAll s (Ok n) t = s ≡ Ok (t, n)
TookAll s (Err f) t = s ≡ Err f

-- two parts of a slice, by what they hold
abbrev pub held_two : Bor (List ℕ) × Bor (List ℕ) → List ℕ × List ℕ
held_two p = (p.0.now, p.1.now)

-- a line that has its byte 10
abbrev pub whole_line : ℕ → Option (List ℕ × List ℕ) → Result (List ℕ × List ℕ) Fault
whole_line n (Some p) = Ok p
whole_line n None = Err (LineEnd n)

-- the first line, which has the number n, and what comes after it
abbrev pub first_line : ℕ → List ℕ → Result (List ℕ × List ℕ) Fault
first_line n l = unless (not (length l == 0)) (EndsEarly n) (whole_line n (cut_at 10 l))

-- the number of the first line of a text and the text, which has at most 65,536 bytes
abbrev pub lines_of : List ℕ → Result (ℕ × List ℕ) Fault
lines_of t = unless (nat_le (length t) 65536) TooLong (Ok (1, t))
