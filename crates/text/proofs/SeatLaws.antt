-- Laws of the parts of a text and their places.
use Rattle.std.proofs.Common.{◌≡◌, ℕ, zero, suc, ◌+◌, ◌-◌, ◌<◌, ◌≤◌, List, [], ◌∷◌, length, take, drop, Some, None, Option, sym, refl, ap, ◌∙◌, arith}
use Rattle.std.proofs.lemmas.List.{length-take-le}
use Rattle.text.specs.Pieces.{cut_at, pieces, at}
use Rattle.text.specs.Seats.{Seat, cut_seat, on, placed, parts}
use Rattle.text.proofs.CutLaws.{around_at, parted, pieces_cut}

-- the two parts of a cut at i
pub seat_found : (a : ℕ × ℕ) (xs : List ℕ) (i : ℕ) → i ≤ length xs → cut_seat a (Some (around_at xs i)) ≡ Some ((a, take i xs), (on a (i + 1), drop (i + 1) xs))
seat_found a xs i h = ap (λ n. Some ((a, take i xs), (on a (n + 1), drop (i + 1) xs))) (length-take-le i xs h)

pub pair_seats : (u v x y : Seat) → u ≡ x → v ≡ y → ◌≡◌ {A = Option (Seat × Seat)} (Some (u, v)) (Some (x, y))
pair_seats u v x y e f = cc

-- what two parts hold
abbrev pub bytes_of_two : Option (Seat × Seat) → Option (List ℕ × List ℕ)
bytes_of_two None = None
bytes_of_two (Some p) = Some (p.0.1, p.1.1)

bytes_cut : (a : ℕ × ℕ) (o : Option (List ℕ × List ℕ)) → bytes_of_two (cut_seat a o) ≡ o
bytes_cut a None = refl
bytes_cut a (Some p) = refl

-- the parts of a cut with their places hold what the cut gives
pub cut_bytes : (s : Option (Seat × Seat)) (a : ℕ × ℕ) (o : Option (List ℕ × List ℕ)) → s ≡ cut_seat a o → bytes_of_two s ≡ o
cut_bytes s a o e = ap bytes_of_two e ∙ bytes_cut a o

parts_by : ℕ → Seat → Option (Seat × Seat) → List Seat
parts_by s t None = t ∷ []
parts_by s t (Some p) = p.0 ∷ parts s p.1

step : (s : ℕ) (a : ℕ × ℕ) (xs : List ℕ) (o : Option (List ℕ × List ℕ)) → placed a (parted s xs o) ≡ parts_by s (a, xs) (cut_seat a o)
unfolding parts_by
step s a xs None = refl
step s a xs (Some p) = refl

parts_cut : (s : ℕ) (a : ℕ × ℕ) (xs : List ℕ) → parts s (a, xs) ≡ parts_by s (a, xs) (cut_seat a (cut_at s xs))
parts_cut s a xs = ap (placed a) (pieces_cut s xs) ∙ step s a xs (cut_at s xs)

pub parts_some : (s : ℕ) (t u v : Seat) → Some (u, v) ≡ cut_seat t.0 (cut_at s t.1) → parts s t ≡ u ∷ parts s v
unfolding parts_by
parts_some s t u v e = parts_cut s t.0 t.1 ∙ ap (parts_by s t) (sym e)

pub parts_none : (s : ℕ) (t : Seat) → None ≡ cut_seat t.0 (cut_at s t.1) → parts s t ≡ t ∷ []
unfolding parts_by
parts_none s t e = parts_cut s t.0 t.1 ∙ ap (parts_by s t) (sym e)

-- the element after i of k steps, by what is left of the list
pub at_tail : {X : Type 0} (xs : List X) (x : X) (ys : List X) (k i : ℕ) → xs ≡ x ∷ ys → i < k → at ys (k - (i + 1)) ≡ at xs (k - i)
at_tail xs x ys k i e h = let d : k - i ≡ suc (k - (i + 1)) = omega arith in sym (ap (λ l. at l (k - i)) e ∙ ap (at (x ∷ ys)) d)

pub at_head : {X : Type 0} (xs : List X) (x : X) (ys : List X) (k i : ℕ) → xs ≡ x ∷ ys → k ≤ i → Some x ≡ at xs (k - i)
at_head xs x ys k i e h = let d : k - i ≡ 0 = omega arith in sym (ap (λ l. at l (k - i)) e ∙ ap (at (x ∷ ys)) d)

-- what a seat holds
abbrev pub bytes_of : Option Seat → Option (List ℕ)
bytes_of None = None
bytes_of (Some s) = Some s.1

at_placed : (a : ℕ × ℕ) (ps : List (List ℕ)) (k : ℕ) → bytes_of (at (placed a ps) k) ≡ at ps k
at_placed a [] k = refl
at_placed a (p ∷ ps) zero = refl
at_placed a (p ∷ ps) (suc k) = at_placed (on a (length p + 1)) ps k

-- a part with its place holds what the piece holds
pub bytes_at_lem : (o : Option Seat) (s : ℕ) (t : Seat) (k : ℕ) → o ≡ at (parts s t) k → bytes_of o ≡ at (pieces s t.1) k
bytes_at_lem o s t k e = ap bytes_of e ∙ at_placed t.0 (pieces s t.1) k
