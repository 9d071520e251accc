-- A text as lines, and a line as words: the pieces that a byte parts.
use Rattle.std.specs.Prelude.{ℕ, zero, suc, cond, List, [], ◌∷◌, length, Some, None, Option, ◌==◌}
use Rattle.std.specs.Borrow.{Bor}

-- a cut further on, with the byte b before it
abbrev pub under : ℕ → Option (List ℕ × List ℕ) → Option (List ℕ × List ℕ)
under b None = None
under b (Some p) = Some (b ∷ p.0, p.1)

-- what stands before the first byte s and what stands after it, or none where there is no such byte
abbrev pub cut_at : ℕ → List ℕ → Option (List ℕ × List ℕ)
cut_at s [] = None
cut_at s (b ∷ bs) = cond (b == s) (Some ([], bs)) (under b (cut_at s bs))

-- the same pieces, with the byte b before the first
abbrev pub grow : ℕ → List (List ℕ) → List (List ℕ)
grow b [] = (b ∷ []) ∷ []
grow b (p ∷ ps) = (b ∷ p) ∷ ps

-- the pieces of a text that each byte s parts: one more than there are bytes s
abbrev pub pieces : ℕ → List ℕ → List (List ℕ)
pieces s [] = [] ∷ []
pieces s (b ∷ bs) = cond (b == s) ([] ∷ pieces s bs) (grow b (pieces s bs))

-- the words of a line: the empty line has none
abbrev pub words : List ℕ → List (List ℕ)
words l = cond (length l == 0) [] (pieces 32 l)

abbrev pub word_count : List ℕ → ℕ
word_count l = length (words l)

-- the element with the number k, from 0
abbrev pub at : {X : Type 0} → List X → ℕ → Option X
at [] k = None
at (x ∷ xs) zero = Some x
at (x ∷ xs) (suc k) = at xs k

-- two parts of a slice, by what they hold
abbrev pub held : Option (Bor (List ℕ) × Bor (List ℕ)) → Option (List ℕ × List ℕ)
held None = None
held (Some p) = Some (p.0.now, p.1.now)

-- a part of a slice, by what it holds
abbrev pub holds : Option (Bor (List ℕ)) → Option (List ℕ)
holds None = None
holds (Some p) = Some p.now
