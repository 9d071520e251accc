-- The texts that the calls write, each as the parts that stand one after another.
use Rattle.std.specs.Prelude.{ℕ, ◌+◌, List, [], ◌∷◌, ◌++◌, ℤ, Some, None, codes, decimal, Option}
use Rattle.std.specs.Fmt.{signed_decimal}
use Rattle.text.specs.Written.{joined}
use Rattle.book.specs.Quotes.{Standing}

-- a line for a quote; none where it is absent
abbrev pub quote_parts : List ℕ → ℕ → Option ℕ → List (List ℕ)
quote_parts name at None = []
quote_parts name at (Some claim) = name ∷ (codes " " ∷ (decimal at ∷ (codes " " ∷ (decimal claim ∷ (codes "\n" ∷ [])))))

-- the lines of the relays, the first with the number `at`
abbrev pub backlog_parts : ℕ → List (Option ℕ) → List (List ℕ)
backlog_parts at [] = []
backlog_parts at (q ∷ qs) = quote_parts (codes "backlog") at q ++ backlog_parts (at + 1) qs

-- the names, the delay, then relay by relay
abbrev pub quotes_text : Standing → List ℕ
quotes_text s = joined (codes "goal at claim\n" ∷ (quote_parts (codes "delay") 0 s.delay ++ backlog_parts 1 s.backlog))

-- a line for a term of a row
abbrev pub term_parts : ℕ → ℕ → ℤ → List (List ℕ)
term_parts row unknown times = decimal row ∷ (codes " " ∷ (decimal unknown ∷ (codes " " ∷ (signed_decimal times ∷ (codes "\n" ∷ [])))))
