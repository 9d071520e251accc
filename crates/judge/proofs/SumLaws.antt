-- What the loop over the terms of a row needs.
use Rattle.std.proofs.Common.{◌≡◌, ℕ, ◌+◌, ◌-◌, ◌*◌, ◌^◌, ◌<◌, ◌≤◌, cond, eqb, ◌≢◌, List, [], ◌∷◌, ◌++◌, length, get_or, take, set, ℤ, pos, ◌+ℤ◌, ◌*ℤ◌, nat_abs, refl, inl, inr, ap, ◌∙◌, mul-le-mul_right, add-mul, arith}
use borrow.Author.Differences.{ints}
use lib.IntN.{+ℤ_idr}
use Rattle.std.specs.List.{AllByRecursion}
use Rattle.std.proofs.lemmas.List.{take_more, get_or-set_other}
use Rattle.std.proofs.lemmas.Grind.{get_or-set_at}
use Rattle.std.proofs.ByRecursion.{All-get_or, All-from_get_or, All-weaker}
use Rattle.std.proofs.lemmas.Bool.Decides.{eqb_tells}
use Rattle.sheet.specs.declared.row.Term.{Term}
use Rattle.sheet.specs.Rows.{Fine}
use Rattle.judge.specs.Sums.{sum_z, coefficient}
use Rattle.judge.proofs.Ints.{times_plus, abs_plus, abs_times}

module _ {X : Type 0} (f : X → ℤ) where
  sum_z_push : (xs : List X) (x : X) → sum_z f (xs ++ x ∷ []) ≡ sum_z f xs +ℤ f x
  sum_z_push [] x = omega (arith, ints)
  sum_z_push (y ∷ ys) x = omega (arith, ints, sum_z_push ys x)

  -- one more element, as a loop takes it
  sum_z_more : (xs : List X) (i : ℕ) (d : X) → i < length xs → sum_z f (take (i + 1) xs) ≡ sum_z f (take i xs) +ℤ f (get_or xs i d)
  sum_z_more xs i d h = ap (sum_z f) (take_more xs i d h) ∙ sum_z_push (take i xs) (get_or xs i d)

  sum_z_small : (b : ℕ) (xs : List X) → AllByRecursion (λ x. nat_abs (f x) ≤ b) xs → nat_abs (sum_z f xs) ≤ length xs * b
  sum_z_small b [] a = omega arith
  sum_z_small b (x ∷ xs) a = omega (arith, a.0, sum_z_small b xs a.1, abs_plus (f x) (sum_z f xs), add-mul 1 (length xs) b)

here_small : (n : ℕ) (t : Term) (u : ℕ) → Fine n t → nat_abs (cond (eqb t.unknown u) t.times (pos 0)) ≤ 1048576
here_small n t u f = let s = f.small in grind arith

-- what the terms of a row multiply an unknown by is small
pub coefficient_small : (n : ℕ) (ts : List Term) (u : ℕ) → AllByRecursion (Fine n) ts → length ts ≤ 34 → nat_abs (coefficient ts u) ≤ 34 * 1048576
coefficient_small n ts u a l =
    omega (arith, sum_z_small (λ t. cond (eqb t.unknown u) t.times (pos 0)) 1048576 ts (All-weaker (Fine n) _ (λ t f. here_small n t u f) ts a), mul-le-mul_right 1048576 l)

-- one term more is added at its place: every sum has it
pub term_more : (S S₀ : List ℤ) (ts : List Term) (i : ℕ) (d : Term) (m : ℤ) → length S ≡ length S₀ → i < length ts → 1 ≤ (get_or ts i d).unknown → (get_or ts i d).unknown ≤ length S
    → ((k : ℕ) → k < length S₀ → get_or S k (pos 0) ≡ get_or S₀ k (pos 0) +ℤ m *ℤ coefficient (take i ts) (k + 1))
    → (k : ℕ) → k < length S₀ → get_or (set S ((get_or ts i d).unknown - 1) (get_or S ((get_or ts i d).unknown - 1) (pos 0) +ℤ m *ℤ (get_or ts i d).times)) k (pos 0) ≡ get_or S₀ k (pos 0) +ℤ m *ℤ coefficient (take (i + 1) ts) (k + 1)
term_more S S₀ ts i d m same lt low high inv k h =
    let u : ℕ = (get_or ts i d).unknown in
    let q : ℤ = (get_or ts i d).times in
    let old = coefficient (take i ts) (k + 1) in
    let was = inv k h in
    let more : coefficient (take (i + 1) ts) (k + 1) ≡ old +ℤ cond (eqb u (k + 1)) q (pos 0) = sum_z_more _ ts i d lt in
    let two = times_plus m old q in
    rw more (elim (eqb_tells u (k + 1)) [
      | inl p ↦ rw p.0 (let at : k ≡ u - 1 = omega (arith, p.1) in rw (get_or-set_at S (u - 1) k _ (pos 0) at (omega arith), ← at, was, two) (omega (arith, ints)))
      | inr p ↦ rw p.0 (let ne : k ≢ u - 1 = λ e. p.1 (omega arith) in rw (get_or-set_other S (u - 1) k _ (pos 0) ne, was, +ℤ_idr) refl)
    ])

-- a sum after part of a row
pub sum_within : (z z₀ : ℤ) (b m : ℕ) (c : ℤ) → z ≡ z₀ +ℤ pos m *ℤ c → nat_abs z₀ ≤ b → m ≤ 1048576 → nat_abs c ≤ 34 * 1048576 → nat_abs z ≤ b + 34 * 2 ^ 40
sum_within z z₀ b m c e a h d = rw e (omega (arith, abs_plus z₀ (pos m *ℤ c), abs_times (pos m) c 1048576 (34 * 1048576) h d))

-- all sums after a row
pub all_within : (S S₀ : List ℤ) (b m : ℕ) (c : ℕ → ℤ) → length S ≡ length S₀ → ((k : ℕ) → k < length S₀ → get_or S k (pos 0) ≡ get_or S₀ k (pos 0) +ℤ pos m *ℤ c (k + 1)) → AllByRecursion (λ z. nat_abs z ≤ b) S₀ → m ≤ 1048576 → ((u : ℕ) → nat_abs (c u) ≤ 34 * 1048576) → AllByRecursion (λ z. nat_abs z ≤ b + 34 * 2 ^ 40) S
all_within S S₀ b m c same e a h d =
    All-from_get_or _ S (pos 0) (λ k l. sum_within (get_or S k (pos 0)) (get_or S₀ k (pos 0)) b m (c (k + 1)) (e k (omega arith)) (All-get_or _ S₀ k (pos 0) (omega arith) a) h (d (k + 1)))
