use Rattle.std.proofs.Common.{ℕ, ℤ, sym, arith, rules}
use Rattle.judge.proofs.Lowest.{all_met, first_missed}
use Rattle.judge.proofs.sums.find_miss.Goals as goal

pub returns-then-sum-scaled : goal.returns-then-sum-scaled
returns-then-sum-scaled g c =
    let goal : ℕ → ℤ = (g.S.Sheet.meaning c.args.sheet.now).goal in
    let t = c.if-sum-scaled.true in
    sym (first_missed c.args.sums.now goal c.args.scale _ c.loop-k.k (omega (arith, c.requires.room)) c.loop-k.invariant (λ e. t (search rules)))

pub returns : goal.returns
returns g c =
    sym (all_met c.args.sums.now (g.S.Sheet.meaning c.args.sheet.now).goal c.args.scale _ (λ k h. c.loop-k.invariant k (omega (arith, c.requires.room))))
