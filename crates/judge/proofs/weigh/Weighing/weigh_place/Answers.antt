use Rattle.std.proofs.Common.{ℕ, ◌+◌, ◌-◌, ◌*◌, ◌^◌, ◌<◌, ◌≤◌, List, length, ℤ, ◌+ℤ◌, nat_abs, arith, w64, to_z, of_z, ◌∙◌}
use Rattle.std.specs.List.{AllByRecursion}
use Rattle.std.proofs.lemmas.Grind.{common_steps}
use Rattle.std.proofs.ByRecursion.{All-weaker}
use Rattle.judge.proofs.Ints.{abs_plus}
use Rattle.judge.proofs.weigh.Weighing.weigh_place.Goals as goal

wider : (S : List ℤ) (a b : ℕ) → a ≤ b → AllByRecursion (λ z. nat_abs z ≤ a) S → AllByRecursion (λ z. nat_abs z ≤ b) S
wider S a b l h = All-weaker (λ z. nat_abs z ≤ a) (λ z. nat_abs z ≤ b) (λ z q. omega arith) S h

-- one right side more, where the text has m bytes left of n
right_more : (a b : ℤ) (m n : ℕ) → nat_abs a ≤ (65536 - n) * 2 ^ 44 → nat_abs b ≤ 2 ^ 44 → m < n → n ≤ 65536 → nat_abs (to_z w64 (of_z w64 (a +ℤ to_z w64 (of_z w64 b)))) ≤ (65536 - m) * 2 ^ 44
right_more a b m n ha hb l h = grind (arith, common_steps, abs_plus)

pub loop-line-preserved : goal.loop-line-preserved
loop-line-preserved g c =
    let n = length c.loop-line.rest.text.now in
    let m = length c.in-Some.after.text.now in
    let less : m < n = c.in-Some.ensures.shorter in
    let i = c.loop-line.invariant in
    let e = c.in_ok-right.ensures in
    record {
      same = record { sheet = e.same.sheet ∙ i.same.sheet; memory = e.same.memory ∙ i.same.memory };
      short = omega arith;
      later = omega (arith, c.in-Some.ensures.numbers.1);
      sums = wider c.add_entry.new.self.sums.now ((65536 - n) * (34 * 2 ^ 40) + 34 * 2 ^ 40) ((65536 - m) * (34 * 2 ^ 40)) (omega arith) (e.bound ((65536 - n) * (34 * 2 ^ 40)) i.sums);
      right = right_more _ c.in_ok-right.field-0 m n i.right e.right less i.short;
    }
