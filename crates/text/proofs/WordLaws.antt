-- The turns of the loop over the digits of a word, and that no name is a number.
use Rattle.std.proofs.Common.{◌≡◌, ℕ, ◌+◌, ◌-◌, ◌*◌, ◌^◌, ◌<◌, ◌≤◌, Bool, true, false, cond, ◌&&◌, leb, List, [], ◌∷◌, length, Some, None, Ok, Err, Option, refl, ap, ◌∙◌, arith, Bor}
use native.Mathlib.Nat.{pow-le-pow_right}
use Rattle.std.specs.Str.{bytes_eq}
use Rattle.std.specs.Char.{is_ascii_lowercase, is_ascii_digit}
use Rattle.text.specs.declared.fault.Fault.TheVariants.{WrongWord}
use Rattle.std.proofs.lemmas.Bool.Decides.{nat_tests}
use Rattle.text.specs.Read.{is_named}
use Rattle.text.specs.Words.{digits_from, number_of, is_name, of_number, classify, name_in}

-- at most seven digits are read before the last
pub seven : (v i n : ℕ) → v < 10 ^ i → i < n → n ≤ 8 → v < 10000000
seven v i n h l m = omega (arith, pow-le-pow_right {n = 10} (omega arith) {i = i} {j = 7} (omega arith))

no_digit : (c : ℕ) → is_ascii_lowercase c ≡ true → is_ascii_digit c ≡ false
no_digit c h = grind (arith, nat_tests)

first_lower : (c : ℕ) (cs : List ℕ) → is_name (c ∷ cs) ≡ true → is_ascii_lowercase c ≡ true
first_lower c cs h = grind (arith, nat_tests)

cond_same : {A : Type 0} (b : Bool) (x : A) → cond b x x ≡ x
cond_same true x = refl
cond_same false x = refl

no_number : (bs : List ℕ) → is_name bs ≡ true → number_of bs ≡ None
no_number [] h = refl
no_number (c ∷ cs) h =
    ap (λ b. cond (leb 1 (length (c ∷ cs)) && leb (length (c ∷ cs)) 8) (cond b (digits_from (0 * 10 + (c - 48)) cs) None) None) (no_digit c (first_lower c cs h))
    ∙ cond_same (leb 1 (length (c ∷ cs)) && leb (length (c ∷ cs)) 8) None

by_kind : (o : Option ℕ) (b : Bool) (t : Bor (List ℕ)) (line place : ℕ) (name : List ℕ) → (b ≡ true → o ≡ None) → name_in (of_number o b t line place) name ≡ cond (b && bytes_eq t.now name) (Ok tt) (Err (WrongWord line place))
by_kind (Some v) true t line place name h = let e : Some v ≡ None = h refl in cc
by_kind (Some v) false t line place name h = refl
by_kind None true t line place name h = refl
by_kind None false t line place name h = refl

-- a word is the given name just where its bytes are
pub name_in_lem : (t : Bor (List ℕ)) (line place : ℕ) (name : List ℕ) → name_in (classify t line place) name ≡ is_named line place name t.now
name_in_lem t line place name = by_kind (number_of t.now) (is_name t.now) t line place name (no_number t.now)
