-- What a page holds, what writing it into lent memory gives, and the text of a refusal.
use Rattle.std.specs.Prelude.{ℕ, cond, List, [], ◌∷◌, ◌++◌, length, drop, Ok, Err, codes, decimal, Result, nat_le}
use Rattle.few.specs.Values.{items}
use Rattle.text.specs.declared.fault.Refusal.{Refusal}
use Rattle.text.specs.declared.page.Page.{Page}
use Rattle.text.specs.declared.page.Short.{Short}

abbrev pub on_page : Page → List ℕ
on_page p = items p.text

-- the memory m after w was written from its start, untouched where w does not fit
abbrev pub filled : List ℕ → List ℕ → List ℕ
filled w m = cond (nat_le (length w) (length m)) (w ++ drop (length w) m) m

-- the answer: the length of w, or that the memory is too short
abbrev pub answer : List ℕ → List ℕ → Result ℕ Short
answer w m = cond (nat_le (length w) (length m)) (Ok (length w)) (Err (record {}))

-- texts that are added to one another in order
abbrev pub added_to : List ℕ → List (List ℕ) → List ℕ
added_to w [] = w
added_to w (t ∷ ts) = added_to (w ++ t) ts

abbrev pub joined : List (List ℕ) → List ℕ
joined ts = added_to [] ts

abbrev pub refusal_text : Refusal → List ℕ
refusal_text r = joined (codes "refusal first second\n" ∷ (decimal r.number ∷ (codes " " ∷ (decimal r.first ∷ (codes " " ∷ (decimal r.second ∷ (codes "\n" ∷ [])))))))
