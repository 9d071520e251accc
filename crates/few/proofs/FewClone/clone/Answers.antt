use mathlib.Core.HLevel.{is_prop→PathP}
use Rattle.std.proofs.Common.{rules, ◌≡◌, ◌≤◌, length, ℕ, refl}
use Rattle.std.proofs.Props.{props}
use Rattle.std.proofs.lemmas.List.Elements.{same_from_all_zip}
use Rattle.few.specs.declared.Few.{Few}
use Rattle.few.proofs.FewClone.clone.Goals as goal

-- tables of the same places, with as many values, are one
same : {T : Type 0} {N : ℕ} (f g : Few T N) → f.places ≡ g.places → f.len ≡ g.len → f ≡ g
same {T} {N} f g p n = λ i. record {
  places = p i;
  len = n i;
  all = is_prop→PathP (λ i. length (p i) ≡ N) (λ i. Prim.hlevel props) f.all g.all i;
  few = is_prop→PathP (λ i. n i ≤ N) (λ i. Prim.hlevel props) f.few g.few i;
}

pub returns : goal.returns
returns g c =
    let told = c.in_ok-clone.ensures.cases in
    record { cases = (search rules, told, λ f. same _ _ (same_from_all_zip _ _ _ told.whole f) refl) }
