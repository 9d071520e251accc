-- What a word of a text is, by its bytes.
use Rattle.std.specs.Prelude.{ℕ, ◌+◌, ◌-◌, ◌*◌, Bool, true, false, cond, ◌&&◌, List, [], ◌∷◌, length, Some, None, Ok, Err, Option, Result, nat_le}
use Rattle.std.specs.Borrow.{Bor}
use Rattle.std.specs.List.{list_all}
use Rattle.std.specs.Char.{is_ascii_digit, is_ascii_lowercase}
use Rattle.std.specs.Str.{bytes_eq}
use Rattle.text.specs.declared.fault.Fault.{Fault}
use Rattle.text.specs.declared.fault.Fault.TheVariants.{WrongWord}
use Rattle.text.specs.declared.word.Word.{Word}
use Rattle.text.specs.declared.word.Word.TheVariants.{Number, Name, Other}

-- the number that digits write after the number n, or none where a byte is no digit
abbrev pub digits_from : ℕ → List ℕ → Option ℕ
digits_from n [] = Some n
digits_from n (c ∷ cs) = cond (is_ascii_digit c) (digits_from (n * 10 + (c - 48)) cs) None

-- a number is one to eight decimal digits
abbrev pub number_of : List ℕ → Option ℕ
number_of bs = cond (nat_le 1 (length bs) && nat_le (length bs) 8) (digits_from 0 bs) None

-- a name is one or more letters a to z
abbrev pub is_name : List ℕ → Bool
is_name bs = nat_le 1 (length bs) && list_all is_ascii_lowercase bs

abbrev pub of_number : Option ℕ → Bool → Bor (List ℕ) → ℕ → ℕ → Word
of_number (Some v) b t line place = Number v t line place
of_number None true t line place = Name t line place
of_number None false t line place = Other t line place

-- the word that the bytes t are, at a line and a place in it
abbrev pub classify : Bor (List ℕ) → ℕ → ℕ → Word
classify t line place = of_number (number_of t.now) (is_name t.now) t line place

-- the fault of a word that is not what should stand there
abbrev pub wrong_at : Word → Fault
wrong_at (Number value text line place) = WrongWord line place
wrong_at (Name text line place) = WrongWord line place
wrong_at (Other text line place) = WrongWord line place

-- the number that a word is
abbrev pub number_in : Word → Result ℕ Fault
number_in (Number value text line place) = Ok value
number_in (Name text line place) = Err (WrongWord line place)
number_in (Other text line place) = Err (WrongWord line place)

-- the word is the given name
abbrev pub name_in : Word → List ℕ → Result (Unit {0}) Fault
name_in (Number value text line place) name = Err (WrongWord line place)
name_in (Name text line place) name = cond (bytes_eq text.now name) (Ok tt) (Err (WrongWord line place))
name_in (Other text line place) name = Err (WrongWord line place)
