use Rattle.std.proofs.Common.{◌≡◌, ℕ, ◌+◌, ◌-◌, ◌*◌, ◌^◌, ◌<◌, ◌≤◌, List, length, get_or, take, pos, ◌+ℤ◌, ◌*ℤ◌, nat_abs, ◌∙◌, arith}
use Rattle.std.specs.List.{AllByRecursion}
use Rattle.std.proofs.lemmas.List.{length-take-le, take_all}
use Rattle.std.proofs.ByRecursion.{All-get_or, All-take}
use Rattle.sheet.specs.declared.row.Term.{Term}
use Rattle.sheet.specs.Rows.{Fine, terms_of}
use Rattle.judge.specs.Sums.{coefficient}
use Rattle.judge.proofs.SumLaws.{coefficient_small, term_more, sum_within, all_within}
use Rattle.judge.proofs.sums.add_row.Goals as goal

abbrev none : Term
none = record { unknown = 0; times = pos 0 }

-- the terms that the loop takes are the row's
fine_at : (n : ℕ) (ts us : List Term) (i : ℕ) → ts ≡ us → AllByRecursion (Fine n) us → i < length ts → Fine n (get_or ts i none)
fine_at n ts us i e a h = All-get_or (Fine n) ts i none h (rw e a)

-- what part of the terms multiplies an unknown by is small
part_small : (n i u : ℕ) (ts us : List Term) → ts ≡ us → AllByRecursion (Fine n) us → length ts ≤ 34 → i ≤ length ts → nat_abs (coefficient (take i ts) u) ≤ 34 * 1048576
part_small n i u ts us e a l h = coefficient_small n (take i ts) u (All-take (Fine n) i ts (rw e a)) (omega (arith, length-take-le i ts h))

pub add_term-requires-clause-small : goal.add_term-requires-clause-small
add_term-requires-clause-small c =
    let n = length c.args.sums.now in
    let ts : List Term = c.terms-term-items.result.now in
    let i = c.loop-term.term-index in
    let e : ts ≡ terms_of c.args.row.now = c.terms-term-items.ensures.value in
    let f : Fine n (get_or ts i none) = fine_at n ts _ i e c.requires.fits.each c.loop-term-test.true in
    let u : ℕ = (get_or ts i none).unknown - 1 in
    let at : u < n = omega (arith, f.low, f.high) in
    omega (arith, sum_within (get_or c.loop-term.sums u (pos 0)) (get_or c.args.sums.now u (pos 0)) (2 ^ 62) c.args.times (coefficient (take i ts) (u + 1)) (c.loop-term.invariant u at) (All-get_or _ c.args.sums.now u (pos 0) at c.requires.small) c.requires.few (part_small n i (u + 1) ts _ e c.requires.fits.each c.terms-term-items.ensures.few (omega arith)))

pub loop-term-preserved : goal.loop-term-preserved
loop-term-preserved c k h =
    let ts : List Term = c.terms-term-items.result.now in
    let i = c.loop-term.term-index in
    let f : Fine (length c.args.sums.now) (get_or ts i none) = fine_at _ ts _ i c.terms-term-items.ensures.value c.requires.fits.each c.loop-term-test.true in
    rw c.add_term.ensures (term_more c.loop-term.sums c.args.sums.now ts i none (pos c.args.times) c.loop-term.auto.sums c.loop-term-test.true f.low (omega (arith, f.high)) c.loop-term.invariant k h)

pub returns : goal.returns
returns c =
    let n = length c.args.sums.now in
    let us = terms_of c.args.row.now in
    let ts : List Term = c.terms-term-items.result.now in
    let all : take c.loop-term.term-index ts ≡ us = take_all c.loop-term.term-index ts c.loop-term-test.false ∙ c.terms-term-items.ensures.value in
    let few : length us ≤ 34 = rw c.terms-term-items.ensures.value at c.terms-term-items.ensures.few in
    let added : (k : ℕ) → k < n → get_or c.loop-term.sums k (pos 0) ≡ get_or c.args.sums.now k (pos 0) +ℤ pos c.args.times *ℤ coefficient us (k + 1) = λ k h. rw all at (c.loop-term.invariant k h) in
    record {
      added = added;
      bound = λ b a. all_within c.loop-term.sums c.args.sums.now b c.args.times (coefficient us) c.loop-term.auto.sums added a c.requires.few (λ u. coefficient_small n us u c.requires.fits.each few);
    }
