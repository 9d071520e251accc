-- Laws of `read_lines`.
use Rattle.std.proofs.Common.{◌≡◌, ℕ, ◌+◌, List, IsErrAnd, Some, None, Ok, Err, Option, Result, sym, refl, ap, ◌∙◌}
use Rattle.text.specs.declared.fault.Fault.{Fault}
use Rattle.text.specs.Continue.{and_then}
use Rattle.text.specs.Lines.{last_or, end_of, at_end, read_lines, TookAll}
use Rattle.text.specs.Pieces.{cut_at, pieces}
use Rattle.text.proofs.CutLaws.{parted, pieces_cut, pieces_some, pieces_none}

parted_more : {A : Type 0} (s : ℕ) (xs : List ℕ) (o : Option (List ℕ × List ℕ)) (x y : A) → last_or (parted s xs o) x y ≡ y
parted_more s xs None x y = refl
parted_more s xs (Some p) x y = refl

-- there is always a piece
more_pieces : {A : Type 0} (s : ℕ) (xs : List ℕ) (x y : A) → last_or (pieces s xs) x y ≡ y
more_pieces s xs x y = ap (λ l. last_or l x y) (pieces_cut s xs) ∙ parted_more s xs (cut_at s xs) x y

module _ {S : Type 0} (f : S → ℕ → List ℕ → Result S Fault) where
  -- a line with the number m is cut off, o is what it makes of the state, and the line after it has the number k
  pub lines_some : (s : S) (n m k : ℕ) (xs a b : List ℕ) (o : Result S Fault) → Some (a, b) ≡ cut_at 10 xs → m ≡ n → k ≡ n + 1 → f s m a ≡ o → read_lines f s n (pieces 10 xs) ≡ and_then o (λ t. read_lines f t k (pieces 10 b))
  lines_some s n m k xs a b o e u v h =
      ap (read_lines f s n) (pieces_some 10 xs a b e) ∙ more_pieces 10 b _ _ ∙ ap (λ w. and_then (f s w a) (λ t. read_lines f t (n + 1) (pieces 10 b))) (sym u)
      ∙ ap (λ w. and_then w (λ t. read_lines f t (n + 1) (pieces 10 b))) h ∙ ap (λ w. and_then o (λ t. read_lines f t w (pieces 10 b))) (sym v)

  -- no line is left
  pub lines_none : (s : S) (n : ℕ) (xs : List ℕ) → None ≡ cut_at 10 xs → read_lines f s n (pieces 10 xs) ≡ at_end s (end_of n xs)
  lines_none s n xs e = ap (read_lines f s n) (pieces_none 10 xs e)

-- what is told of the end is told of all
pub took_end : {S : Type 0} (s : Result (S × ℕ) Fault) (r : Result ℕ Fault) (t : S) → s ≡ at_end t r → TookAll s r t
took_end s (Ok n) t e = e
took_end s (Err f) t e = e

-- the exit of a `?`
pub took_err : {S : Type 0} (s : Result (S × ℕ) Fault) (r : Result ℕ Fault) (f : Fault) (t : S) → IsErrAnd r (λ e. e ≡ f) → s ≡ Err f → TookAll s r t
took_err s (Ok x) f t h e = absurd h
took_err s (Err g) f t h e = e ∙ ap Err (sym h)
