-- Parts of a text with the place in memory where each begins, and the word of a text at a line and a place.
use Rattle.std.specs.Prelude.{ℕ, zero, suc, ◌+◌, cond, List, [], ◌∷◌, length, Some, None, Option, ◌==◌}
use Rattle.std.specs.Borrow.{Bor}
use Rattle.text.specs.Pieces.{pieces, at}

-- where a part begins, as a block of memory and an offset in it, and what it holds
abbrev pub Seat : Type 0
Seat = (ℕ × ℕ) × List ℕ

abbrev pub seat : Bor (List ℕ) → Seat
seat x = (x.ref_ptr, x.now)

abbrev pub seated : Option (Bor (List ℕ)) → Option Seat
seated None = None
seated (Some x) = Some (seat x)

abbrev pub seated_two : Option (Bor (List ℕ) × Bor (List ℕ)) → Option (Seat × Seat)
seated_two None = None
seated_two (Some p) = Some (seat p.0, seat p.1)

-- n bytes on
abbrev pub on : ℕ × ℕ → ℕ → ℕ × ℕ
on a n = (a.0, a.1 + n)

-- the two parts of a cut of what begins at a
abbrev pub cut_seat : ℕ × ℕ → Option (List ℕ × List ℕ) → Option (Seat × Seat)
cut_seat a None = None
cut_seat a (Some p) = Some ((a, p.0), (on a (length p.0 + 1), p.1))

-- pieces that lie one after the other from a on, with a byte between two
abbrev pub placed : ℕ × ℕ → List (List ℕ) → List Seat
placed a [] = []
placed a (p ∷ ps) = (a, p) ∷ placed (on a (length p + 1)) ps

-- the pieces that each byte s parts
abbrev pub parts : ℕ → Seat → List Seat
parts s t = placed t.0 (pieces s t.1)

-- the words of a line: the empty line has none
abbrev pub word_seats : Seat → List Seat
word_seats t = cond (length t.1 == 0) [] (parts 32 t)

-- counted from 1
abbrev pub nth : {X : Type 0} → List X → ℕ → Option X
nth xs zero = None
nth xs (suc k) = at xs k

abbrev pub word_of : Option Seat → ℕ → Option Seat
word_of None word = None
word_of (Some l) word = nth (word_seats l) word

-- the word of a text at a line and a place, both from 1; what follows the last byte 10 is a line too
abbrev pub shown_at : Seat → ℕ → ℕ → Option Seat
shown_at t line word = word_of (nth (parts 10 t) line) word
