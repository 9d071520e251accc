-- Sums over the terms of a row, and the search for the lowest unknown that misses its goal.
use Rattle.std.specs.Prelude.{ℕ, zero, suc, ◌+◌, ◌-◌, Bool, cond, not, ◌&&◌, List, [], ◌∷◌, ℤ, pos, ◌+ℤ◌, ◌*ℤ◌, Some, None, Option, ◌==◌, int_le, slice_index_or}
use Rattle.sheet.specs.declared.row.Term.{Term}

-- the sum of f over a list
abbrev pub sum_z : {X : Type 0} → (X → ℤ) → List X → ℤ
sum_z f [] = pos 0
sum_z f (x ∷ xs) = f x +ℤ sum_z f xs

-- what an unknown is multiplied by in a list of terms
abbrev pub coefficient : List Term → ℕ → ℤ
coefficient ts u = sum_z (λ t. cond (t.unknown == u) t.times (pos 0)) ts

abbrev pub same_z : ℤ → ℤ → Bool
same_z a b = int_le a b && int_le b a

-- the lowest of the n numbers from u on that passes a test
abbrev pub lowest : (ℕ → Bool) → ℕ → ℕ → Option ℕ
lowest test u zero = None
lowest test u (suc n) = cond (test u) (Some u) (lowest test (u + 1) n)

-- whether the sum of an unknown, where the sums stand from the unknown 1 on, is not scale times its goal
abbrev pub misses : (ℕ → ℤ) → ℕ → List ℤ → ℕ → Bool
misses goal scale sums u = not (same_z (slice_index_or sums (u - 1) (pos 0)) (pos scale *ℤ goal u))
