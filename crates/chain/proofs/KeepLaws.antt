-- What the streams of a chain keep when one is added, or gets another curve.
use Rattle.std.proofs.Common.{◌≡◌, ℕ, zero, suc, true, ◌&&◌, eqb, List, [], ◌∷◌, ◌++◌, length, get_or, set, refl, ap, eq-eqb}
use Rattle.chain.specs.declared.stream.Stream.{Stream}
use Rattle.chain.specs.Keeps.{lie_within, stops_if_any}

module _ (n : ℕ) where
  pub lie_set : (xs : List Stream) (k : ℕ) (s d : Stream) → s.stretch ≡ (get_or xs k d).stretch → lie_within n (set xs k s) ≡ lie_within n xs
  lie_set [] k s d e = refl
  lie_set (x ∷ xs) zero s d e = ap (λ t. eqb t.relays n && lie_within n xs) e
  lie_set (x ∷ xs) (suc k) s d e = ap (λ b. eqb x.stretch.relays n && b) (lie_set xs k s d e)

  pub stops_set : (xs : List Stream) (k : ℕ) (s d : Stream) → s.stretch ≡ (get_or xs k d).stretch → stops_if_any n (set xs k s) ≡ stops_if_any n xs
  stops_set [] k s d e = refl
  stops_set (x ∷ xs) zero s d e = ap (λ t. eqb t.from 1 && eqb t.to n) e
  stops_set (x ∷ xs) (suc k) s d e = refl

  pub lie_push : (xs : List Stream) (s : Stream) → s.stretch.relays ≡ n → lie_within n (xs ++ s ∷ []) ≡ lie_within n xs
  lie_push [] s e = ap (λ b. b && true) (eq-eqb s.stretch.relays n e)
  lie_push (x ∷ xs) s e = ap (λ b. eqb x.stretch.relays n && b) (lie_push xs s e)

  pub stops_push : (xs : List Stream) (s : Stream) → (length xs ≡ 0 → (s.stretch.from ≡ 1) × (s.stretch.to ≡ n)) → stops_if_any n (xs ++ s ∷ []) ≡ stops_if_any n xs
  stops_push [] s e = let h = e refl in (λ i. eq-eqb s.stretch.from 1 h.0 i && eq-eqb s.stretch.to n h.1 i)
  stops_push (x ∷ xs) s e = refl
