-- The search for the lowest unknown that misses its goal.
use Rattle.std.proofs.Common.{◌≡◌, ℕ, zero, suc, ◌+◌, ◌<◌, Bool, true, false, not, List, get_or, ℤ, pos, ◌*ℤ◌, Some, None, refl, ap, ◌∙◌, add-zero, add_comm, arith}
use Rattle.std.proofs.Math.Nat.{add-sub_cancel}
use borrow.Author.Differences.{ints}
use Rattle.judge.specs.Sums.{lowest, misses, same_z}

lowest_none : (test : ℕ → Bool) (u n : ℕ) → ((k : ℕ) → k < n → test (u + k) ≡ false) → lowest test u n ≡ None
lowest_none test u zero none = refl
lowest_none test u (suc n) none =
    let here : test u ≡ false = rw add-zero at (none 0 (omega arith)) in
    rw here (lowest_none test (u + 1) n (λ k h. grind (arith, none (k + 1))))

lowest_some : (test : ℕ → Bool) (u n k : ℕ) → k < n → ((j : ℕ) → j < k → test (u + j) ≡ false) → test (u + k) ≡ true → lowest test u n ≡ Some (u + k)
lowest_some test u zero k lt below at = absurd (omega arith)
lowest_some test u (suc n) zero lt below at =
    let here : test u ≡ true = rw add-zero at at in
    rw here (ap Some (omega arith))
lowest_some test u (suc n) (suc k) lt below at =
    let here : test u ≡ false = rw add-zero at (below 0 (omega arith)) in
    rw here (lowest_some test (u + 1) n k (omega arith) (λ j h. grind (arith, below (suc j))) (grind arith) ∙ ap Some (omega arith))

same_yes : (a b : ℤ) → a ≡ b → not (same_z a b) ≡ false
same_yes a b e = grind (arith, ints)

same_no : (a b : ℤ) → (a ≡ b → ⊥) → not (same_z a b) ≡ true
same_no a b e = grind (arith, ints)

-- sums that stand from place 0 on, held against scale times the goal at the unknowns from 1 on
module _ (S : List ℤ) (goal : ℕ → ℤ) (scale n : ℕ) where
  met : (k : ℕ) → get_or S k (pos 0) ≡ pos scale *ℤ goal (k + 1) → misses goal scale S (1 + k) ≡ false
  met k e = rw (add_comm 1 k, add-sub_cancel k 1) (same_yes _ _ e)

  missed : (k : ℕ) → (get_or S k (pos 0) ≡ pos scale *ℤ goal (k + 1) → ⊥) → misses goal scale S (1 + k) ≡ true
  missed k ne = rw (add_comm 1 k, add-sub_cancel k 1) (same_no _ _ ne)

  pub all_met : ((k : ℕ) → k < n → get_or S k (pos 0) ≡ pos scale *ℤ goal (k + 1)) → lowest (misses goal scale S) 1 n ≡ None
  all_met h = lowest_none (misses goal scale S) 1 n (λ k lt. met k (h k lt))

  pub first_missed : (i : ℕ) → i < n → ((k : ℕ) → k < i → get_or S k (pos 0) ≡ pos scale *ℤ goal (k + 1)) → (get_or S i (pos 0) ≡ pos scale *ℤ goal (i + 1) → ⊥) → lowest (misses goal scale S) 1 n ≡ Some (i + 1)
  first_missed i lt h ne = lowest_some (misses goal scale S) 1 n i lt (λ k l. met k (h k l)) (missed i ne) ∙ ap Some (omega arith)
