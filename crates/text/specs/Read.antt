-- What stands at a place of a line: a number, or a given name; and a line of given names.
use Rattle.std.specs.Prelude.{ℕ, ◌+◌, ◌-◌, Bool, false, cond, ◌&&◌, List, [], ◌∷◌, length, ◌==◌, Some, None, Ok, Err, Option, Result}
use Rattle.std.specs.Option.{ok_or}
use Rattle.std.specs.Str.{bytes_eq}
use Rattle.text.specs.declared.fault.Fault.{Fault}
use Rattle.text.specs.declared.fault.Fault.TheVariants.{WordCount, WrongWord}
use Rattle.text.specs.Continue.{and_then, unless}
use Rattle.text.specs.Pieces.{words, word_count, at}
use Rattle.text.specs.Words.{number_of, is_name}

-- the bytes of the word at a place, from 1, of the line l
abbrev pub bytes_at : ℕ → ℕ → List ℕ → Result (List ℕ) Fault
bytes_at line place l = ok_or (at (words l) (place - 1)) (WordCount line)

-- the number at a place of the line l
abbrev pub number_at : ℕ → ℕ → List ℕ → Result ℕ Fault
number_at line place l = and_then (bytes_at line place l) (λ bs. ok_or (number_of bs) (WrongWord line place))

-- the bytes are a name, and the given one
abbrev pub is_named : ℕ → ℕ → List ℕ → List ℕ → Result (Unit {0}) Fault
is_named line place name bs = cond (is_name bs && bytes_eq bs name) (Ok tt) (Err (WrongWord line place))

-- the word at a place of the line l is the given name
abbrev pub name_at : ℕ → ℕ → List ℕ → List ℕ → Result (Unit {0}) Fault
name_at line place name l = and_then (bytes_at line place l) (is_named line place name)

-- the words from a place on are the given names
abbrev pub names_in : ℕ → ℕ → List (List ℕ) → List ℕ → Result (Unit {0}) Fault
names_in line place [] l = Ok tt
names_in line place (n ∷ ns) l = and_then (name_at line place n l) (λ _. names_in line (place + 1) ns l)

-- the line l has the given names and no other word
abbrev pub names_line : ℕ → List (List ℕ) → List ℕ → Result (Unit {0}) Fault
names_line line ns l = unless (word_count l == length ns) (WordCount line) (names_in line 1 ns l)

abbrev pub is_word : Option (List ℕ) → List ℕ → Bool
is_word None name = false
is_word (Some bs) name = bytes_eq bs name

-- the first word of the line l has the given bytes
abbrev pub begins_with : List ℕ → List ℕ → Bool
begins_with name l = is_word (at (words l) 0) name
