-- A row by the list of its terms, and the limits that every row keeps.
use Rattle.std.specs.Prelude.{◌≡◌, ℕ, zero, suc, ◌+◌, ◌≤◌, List, [], ◌∷◌, ◌++◌, length, ℤ, pos, negsuc, Option, MatchOption, unsigned_abs}
use Rattle.few.specs.Values.{items}
use Rattle.std.specs.List.{AllByRecursion}
use Rattle.sheet.specs.declared.row.Row.{Row}
use Rattle.sheet.specs.declared.row.Term.{Term}

abbrev pub terms_of : Row → List Term
terms_of r = items r.terms

-- a term that multiplies its unknown by 0 is left out
abbrev pub term_of : ℕ → ℤ → List Term
term_of u (pos zero) = []
term_of u (pos (suc n)) = record { unknown = u; times = pos (suc n) } ∷ []
term_of u (negsuc n) = record { unknown = u; times = negsuc n } ∷ []

-- a term names one of n unknowns, and its number is small
pub record Fine (n : ℕ) (t : Term) : Type 0 where
  pub low : 1 ≤ t.unknown
  pub high : t.unknown ≤ n
  pub small : unsigned_abs t.times ≤ 1048576

-- a row over n unknowns within its limits
pub record Fits (n : ℕ) (r : Row) : Type 0 where
  pub each : AllByRecursion (Fine n) (terms_of r)
  pub small : unsigned_abs r.right ≤ 16777216

-- the new row is the old one with a term more, u times z, and fits wherever the old one and the term do
pub record Adds (old new : Row) (u : ℕ) (z : ℤ) : Type 0 where
  pub terms : terms_of new ≡ terms_of old ++ term_of u z
  pub count : length (terms_of new) ≤ length (terms_of old) + 1
  pub right : new.right ≡ old.right
  pub fits : (n : ℕ) → Fits n old → 1 ≤ u → u ≤ n → unsigned_abs z ≤ 1048576 → Fits n new

-- what stands in a lent row: one over n unknowns if it was written, else the one that stood there
abbrev pub Written : ℕ → Row → Row → Option (Unit {0}) → Type 0
Written n old new done = MatchOption done (new ≡ old) (λ _. Fits n new)
