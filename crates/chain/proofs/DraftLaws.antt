-- How a line adds to what stands before it, where f says what a value of a table means.
use Rattle.std.proofs.Common.{◌≡◌, ℕ, ◌<◌, ◌≤◌, Bool, true, false, cond, ltb, List, [], ◌∷◌, ◌++◌, map, length, get_or, set, Ok, Result, refl, sym, ap, ◌∙◌, arith}
use Rattle.std.proofs.lemmas.Bool.{lt-ltb, le-ltb}
use Rattle.std.proofs.lemmas.List.{length-map, get_or-map, map-set, map_push}
use Rattle.text.specs.declared.fault.Fault.{Fault}
use Rattle.text.specs.declared.fault.Fault.TheVariants.{TooMany}
use Rattle.text.specs.Continue.{and_then, unless, ok_as}
use Rattle.chain.specs.Drafts.{longer}

module _ {X Y : Type 0} (f : X → Y) (xs ys : List X) (k : ℕ) (place : Result ℕ Fault) (at : Ok k ≡ place) where
  -- a further line of the last value, of which g says what comes
  pub placed_last :
      (zs : List X) (x y : X) (d : Y) (g : Y → Result Y Fault) (next : Result (List Y) Fault)
      → k < length xs → zs ≡ xs → ys ≡ set xs k y → Ok (f y) ≡ g (f (get_or zs k x))
      → Ok (map f ys) ≡ and_then place (λ i. cond (ltb i (length (map f xs))) (and_then (g (get_or (map f xs) i d)) (λ s. Ok (set (map f xs) i s))) next)
  placed_last zs x y d g next within same put q =
      let was : get_or (map f xs) k d ≡ f (get_or zs k x) = get_or-map f xs k x d within ∙ ap (λ l. f (get_or l k x)) (sym same) in
      let last : ltb k (length (map f xs)) ≡ true = lt-ltb k (length (map f xs)) (omega (arith, length-map xs f)) in
      rw (← at, last, was, ← q) (ap (λ l. Ok (map f l)) put ∙ ap Ok (map-set f xs k y))

  -- the first line of the next value, of which there is room for so many
  pub placed_next :
      (line most : ℕ) (x : X) (first : Result Y Fault) (last : ℕ → Result (List Y) Fault)
      → length xs ≤ k → length xs < most → ys ≡ xs ++ x ∷ [] → Ok (f x) ≡ first
      → Ok (map f ys)
      ≡ and_then place (λ i. cond (ltb i (length (map f xs))) (last i)
      (and_then first (λ y. unless (ltb (length (map f xs)) most) (TooMany line) (Ok (map f xs ++ y ∷ [])))))
  placed_next line most x first last past room put q =
      let next : ltb k (length (map f xs)) ≡ false = le-ltb k (length (map f xs)) (omega (arith, length-map xs f)) in
      let few : ltb (length (map f xs)) most ≡ true = lt-ltb (length (map f xs)) most (omega (arith, length-map xs f)) in
      rw (← at, next, ← q, few) (ap (λ l. Ok (map f l)) put ∙ ap Ok (map_push f xs x))

-- a curve with one line more, by what f says of its lines
pub longer_map : {X Y : Type 0} (f : X → Y) (ls : List X) (line : ℕ) (l : X) → ok_as (map f) (longer ls line l) ≡ longer (map f ls) line (f l)
longer_map f ls line l = rw (length-map ls f) (go (ltb (length ls) 4))
  where
    go : (b : Bool) → ok_as (map f) (unless b (TooMany line) (Ok (ls ++ l ∷ []))) ≡ unless b (TooMany line) (Ok (map f ls ++ f l ∷ []))
    go true = ap Ok (map_push f ls l)
    go false = refl
