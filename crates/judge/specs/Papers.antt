-- The lines of a paper after its goal line, for a sheet that says which places and rows there are.
use Rattle.std.specs.Prelude.{ℕ, ◌+◌, cond, ◌&&◌, List, [], ◌∷◌, Ok, Err, codes, Result, ◌==◌, nat_le, nat_lt}
use Rattle.text.specs.declared.fault.Fault.{Fault}
use Rattle.text.specs.declared.fault.Fault.TheVariants.{WordCount, OutOfLimits, FallingPlace, TooMany, NamesNothing}
use Rattle.text.specs.Continue.{and_then, unless}
use Rattle.text.specs.Lines.{first_line, read_lines}
use Rattle.text.specs.Pieces.{pieces, word_count}
use Rattle.text.specs.Read.{number_at, names_line}
use Rattle.sheet.specs.Kind.{Kind}
use Rattle.judge.specs.declared.entry.Entry.{Entry}
use Rattle.judge.specs.declared.fault.JudgeFault.{JudgeFault}
use Rattle.judge.specs.declared.fault.JudgeFault.TheVariants.{Reading, MemoryTooShort}
use Rattle.judge.specs.declared.lines.PaperLines.{PaperLines}

-- so many times a row of a place, in plain numbers
pub record Weight : Type 0 where
  pub place : ℕ
  pub row : ℕ
  pub times : ℕ

abbrev pub weight_of : Entry → Weight
weight_of e = record { place = e.place; row = e.row; times = e.times }

-- the names above the lines
abbrev pub entry_names : ℕ → List ℕ → Result (Unit {0}) Fault
entry_names line l = names_line line (codes "place" ∷ (codes "row" ∷ (codes "times" ∷ []))) l

-- place, row and times, which is from 1 to 1,048,576
abbrev pub entry_line : ℕ → List ℕ → Result Weight Fault
entry_line line l =
    unless (word_count l == 3) (WordCount line)
    (and_then (number_at line 1 l) (λ p. and_then (number_at line 2 l) (λ r. and_then (number_at line 3 l) (λ t.
    unless (nat_le 1 t && nat_le t 1048576) (OutOfLimits line 3) (Ok (record { place = p; row = r; times = t }))))))

-- which places and rows there are, the place of the last line, 0 before the first, and how many lines there were
pub record Checking : Type 0 where
  pub places : ℕ
  pub rows : ℕ → ℕ
  pub place : ℕ
  pub lines : ℕ

-- there are such a place and such a row of it
abbrev pub row_there : ℕ → (ℕ → ℕ) → ℕ → Weight → Result (Unit {0}) Fault
row_there places rows line w =
    unless (nat_le 1 w.place && nat_le w.place places) (NamesNothing line 1)
    (unless (nat_le 1 w.row && nat_le w.row (rows w.place)) (NamesNothing line 2) (Ok tt))

-- places do not fall, there are at most 4,096 lines, and each names a place and a row that are there
abbrev pub entry_in : Checking → ℕ → Weight → Result Checking Fault
entry_in s line w =
    unless (nat_le s.place w.place) (FallingPlace line)
    (unless (nat_lt s.lines 4096) (TooMany line)
    (and_then (row_there s.places s.rows line w) (λ _.
    Ok (record { places = s.places; rows = s.rows; place = w.place; lines = s.lines + 1 }))))

abbrev pub entry_step : Checking → ℕ → List ℕ → Result Checking Fault
entry_step s line l = and_then (entry_line line l) (entry_in s line)

-- before the first line
abbrev pub unchecked : ℕ → (ℕ → ℕ) → Checking
unchecked places rows = record { places = places; rows = rows; place = 0; lines = 0 }

-- the lines of a text, the first with the number n, for so many places with so many rows each
abbrev pub check_lines : ℕ → (ℕ → ℕ) → ℕ → List ℕ → Result (Unit {0}) Fault
check_lines places rows n l = and_then (read_lines entry_step (unchecked places rows) n (pieces 10 l)) (λ _. Ok tt)

-- the bytes of the lines that are left
abbrev pub bytes_of : PaperLines → List ℕ
bytes_of l = l.lines.text.now

-- an outcome of reading, as an outcome of judging
abbrev pub reading : {A : Type 0} → Result A Fault → Result A JudgeFault
reading (Ok x) = Ok x
reading (Err f) = Err (Reading f)

-- the line of names, which has the number n, and all lines after it, which are the answer
abbrev pub paper_lines : Kind → ℕ → List ℕ → Result (List ℕ) Fault
paper_lines k n l = and_then (first_line n l) (λ p. and_then (entry_names n p.0) (λ _. and_then (check_lines k.places k.rows (n + 1) p.1) (λ _. Ok p.1)))

-- the same, and then whether there is room for the sums
abbrev pub check_paper : Kind → ℕ → ℕ → List ℕ → Result (List ℕ) JudgeFault
check_paper k room n l = and_then (reading (paper_lines k n l)) (λ rest. cond (nat_lt room k.unknowns) (Err MemoryTooShort) (Ok rest))
