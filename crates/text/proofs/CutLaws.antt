-- Laws of `cut_at` and `pieces`.
use Rattle.std.proofs.Common.{◌≡◌, ◌==◌, ℕ, suc, ◌+◌, ◌-◌, ◌<◌, ◌≤◌, nat_lt, Bool, true, false, cond, not, eqb, List, [], ◌∷◌, length, take, drop, count_by, position, Some, None, Option, sym, refl, ap, ◌∙◌, subst, arith}
use Rattle.std.specs.List.{position_or_len}
use Rattle.std.specs.Option.{option_map}
use Rattle.std.proofs.lemmas.Bool.Decides.{nat_tests}
use Rattle.std.proofs.lemmas.List.Recursion.{is_count_by}
use Rattle.text.specs.Pieces.{under, cut_at, grow, pieces}

-- the parts around a place
abbrev pub around_at : List ℕ → ℕ → List ℕ × List ℕ
around_at xs i = (take i xs, drop (i + 1) xs)

one_more : (n : ℕ) → suc n ≡ 1 + n
one_more n = omega arith

-- a cut found further on, or none
further : (b n : ℕ) (bs : List ℕ) (u : Bool) → under b (option_map (around_at bs) (cond u (Some n) None)) ≡ option_map (around_at (b ∷ bs)) (cond u (Some (suc n)) None)
further b n bs true = let e : suc (n + 1) ≡ suc n + 1 = omega arith in ap (λ k. Some (b ∷ take n bs, drop k (b ∷ bs))) e
further b n bs false = refl

less_more : (n m : ℕ) → nat_lt n m ≡ nat_lt (1 + n) (suc m)
less_more n m = grind (arith, nat_tests)

none_less : (m : ℕ) → true ≡ nat_lt 0 (suc m)
none_less m = grind (arith, nat_tests)

cut_step : (s b n : ℕ) (bs : List ℕ) (t : Bool) → cut_at s bs ≡ option_map (around_at bs) (cond (nat_lt n (length bs)) (Some n) None) → cond t (Some ([], bs)) (under b (cut_at s bs)) ≡ option_map (around_at (b ∷ bs)) (cond (nat_lt (cond (not t) (1 + n) 0) (length (b ∷ bs))) (Some (cond (not t) (1 + n) 0)) None)
cut_step s b n bs true e = ap (λ u. option_map (around_at (b ∷ bs)) (cond u (Some 0) None)) (none_less (length bs))
cut_step s b n bs false e =
    ap (under b) e ∙ further b n bs (nat_lt n (length bs)) ∙ ap (λ k. option_map (around_at (b ∷ bs)) (cond (nat_lt n (length bs)) (Some k) None)) (one_more n)
    ∙ ap (λ u. option_map (around_at (b ∷ bs)) (cond u (Some (1 + n)) None)) (less_more n (length bs))

-- a cut is made at the first place of its byte
pub cut_position : (s : ℕ) (xs : List ℕ) → cut_at s xs ≡ option_map (around_at xs) (position (λ b. b == s) xs)
cut_position s [] = refl
cut_position s (b ∷ bs) = cut_step s b (position_or_len (λ x. x == s) bs) bs (b == s) (cut_position s bs)

-- the pieces, by the first cut
abbrev pub parted : ℕ → List ℕ → Option (List ℕ × List ℕ) → List (List ℕ)
parted s xs None = xs ∷ []
parted s xs (Some p) = p.0 ∷ pieces s p.1

pieces_step : (s b : ℕ) (bs : List ℕ) (t : Bool) (o : Option (List ℕ × List ℕ)) → pieces s bs ≡ parted s bs o → cond t ([] ∷ pieces s bs) (grow b (pieces s bs)) ≡ parted s (b ∷ bs) (cond t (Some ([], bs)) (under b o))
pieces_step s b bs true o e = refl
pieces_step s b bs false None e = ap (grow b) e
pieces_step s b bs false (Some p) e = ap (grow b) e

pub pieces_cut : (s : ℕ) (xs : List ℕ) → pieces s xs ≡ parted s xs (cut_at s xs)
pieces_cut s [] = refl
pieces_cut s (b ∷ bs) = pieces_step s b bs (eqb b s) (cut_at s bs) (pieces_cut s bs)

abbrev pub Shorter : List ℕ → Option (List ℕ × List ℕ) → Type 0
Shorter xs None = Unit {0}
Shorter xs (Some p) = length p.1 < length xs

shorter_step : (b : ℕ) (bs : List ℕ) (t : Bool) (o : Option (List ℕ × List ℕ)) → Shorter bs o → Shorter (b ∷ bs) (cond t (Some ([], bs)) (under b o))
shorter_step b bs true o h = omega arith
shorter_step b bs false None h = tt
shorter_step b bs false (Some p) h = omega arith

pub cut_shorter : (s : ℕ) (xs : List ℕ) → Shorter xs (cut_at s xs)
cut_shorter s [] = tt
cut_shorter s (b ∷ bs) = shorter_step b bs (eqb b s) (cut_at s bs) (cut_shorter s bs)

-- the same, from what a cut was found to be
pub pieces_some : (s : ℕ) (xs a b : List ℕ) → Some (a, b) ≡ cut_at s xs → pieces s xs ≡ a ∷ pieces s b
pieces_some s xs a b e = pieces_cut s xs ∙ ap (parted s xs) (sym e)

pub pieces_none : (s : ℕ) (xs : List ℕ) → None ≡ cut_at s xs → pieces s xs ≡ xs ∷ []
pieces_none s xs e = pieces_cut s xs ∙ ap (parted s xs) (sym e)

pub shorter : (s : ℕ) (xs a b : List ℕ) → Some (a, b) ≡ cut_at s xs → length b < length xs
shorter s xs a b e = subst (Shorter xs) (sym e) (cut_shorter s xs)

some_piece : (s : ℕ) (xs : List ℕ) (o : Option (List ℕ × List ℕ)) → 1 ≤ length (parted s xs o)
some_piece s xs None = omega arith
some_piece s xs (Some p) = omega arith

more_pieces : (s b : ℕ) (bs : List ℕ) (t : Bool) (ps : List (List ℕ)) → 1 ≤ length ps → length (cond t ([] ∷ ps) (grow b ps)) - 1 ≡ cond t (1 + (length ps - 1)) (length ps - 1)
more_pieces s b bs true ps h = omega arith
more_pieces s b bs false [] h = absurd (omega arith)
more_pieces s b bs false (p ∷ ps) h = refl

-- one piece more than there are bytes that part them
pub pieces_count : (s : ℕ) (xs : List ℕ) → count_by (λ b. b == s) xs + 1 ≡ length (pieces s xs)
pieces_count s xs =
    let some : (ys : List ℕ) → 1 ≤ length (pieces s ys) = λ ys. subst (λ ps. 1 ≤ length ps) (sym (pieces_cut s ys)) (some_piece s ys (cut_at s ys)) in
    let e = is_count_by (λ ys. length (pieces s ys) - 1) (λ b. b == s) refl (λ b bs. more_pieces s b bs (b == s) (pieces s bs) (some bs)) xs in
    let h = some xs in omega arith
