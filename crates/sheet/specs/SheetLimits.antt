-- That both kinds of sheet keep the limits of sheets.
use Rattle.std.proofs.Common.{ℕ, ◌+◌, ◌*◌, ◌≤◌, Bool, true, false, cond, ◌&&◌, eqb, leb, List, [], ◌∷◌, length, get_or, ℤ, pos, negsuc, nat_abs, Some, None, Option, unwrap_or, arith}
use Rattle.std.proofs.lemmas.List.Sums.{sum_by-le}
use Rattle.chain.specs.Shape.{next, crosses}
use Rattle.chain.specs.Views.{relays_of, streams_of}
use Rattle.chain.specs.declared.stream.Stream.{Stream}
use Rattle.chain.specs.declared.stretch.Stretch.{Stretch}
use Rattle.sheet.specs.Kind.{Limits}
use Rattle.sheet.specs.Kinds.{delay_kind, delay_rows, backlog_kind, wait_of, waiting}
use Rattle.sheet.specs.Parts.{kept_hops, part_rows, part_unknowns, width_of, widths}
use Rattle.sheet.specs.declared.backlog.BacklogSheet.{BacklogSheet}
use Rattle.sheet.specs.declared.delay.DelaySheet.{DelaySheet}

pub cond_few : (b : Bool) (m n : ℕ) → m ≤ n → cond b m 0 ≤ n
cond_few true m n h = h
cond_few false m n h = omega arith

width_few : (last : ℕ) (s : Stretch) → width_of last s ≤ 18
width_few last s = cond_few (leb s.from last) _ 18 (omega (arith, s.begins, s.ends, s.limit))

pub widths_few : (last : ℕ) (ss : List Stream) → widths last ss ≤ length ss * 18
widths_few last ss = sum_by-le (λ s. width_of last s.stretch) 18 ss (λ k d h. width_few last (get_or ss k d).stretch)

-- ---- the goal of a backlog sheet: each stream says 1, -1 or nothing

or_small : (t : Option ℤ) (z : ℤ) → nat_abs (unwrap_or t (pos 0)) ≤ 1 → nat_abs z ≤ 1 → nat_abs (unwrap_or t z) ≤ 1
or_small (Some x) z h l = h
or_small None z h l = l

wait_small : (a b c : Bool) → nat_abs (unwrap_or (cond a (cond b (Some (pos 1)) (cond c (Some (negsuc 0)) None)) None) (pos 0)) ≤ 1
wait_small true true c = omega arith
wait_small true false true = omega arith
wait_small true false false = omega arith
wait_small false b c = omega arith

waiting_small : (relay o u : ℕ) (ss : List Stream) → nat_abs (waiting relay o ss u) ≤ 1
waiting_small relay o u [] = omega arith
waiting_small relay o u (s ∷ ss) =
    or_small (wait_of relay o s.stretch u) (waiting relay (o + width_of relay s.stretch) ss u)
    (wait_small (crosses s.stretch relay) (eqb u (o + 1 + kept_hops relay s.stretch)) (eqb u (o + 1 + kept_hops relay s.stretch + 1 + kept_hops relay s.stretch)))
    (waiting_small relay (o + width_of relay s.stretch) u ss)

pub backlog_limits : (s : BacklogSheet) → Limits (backlog_kind s.part.chain.now s.part.last)
backlog_limits s =
    let few : part_rows s.part.chain.now s.part.last ≤ 4096 = omega (arith, s.all_rows, s.few_rows) in
    record {
      some_place = omega arith;
      few_places = omega arith;
      few_unknowns = omega (arith, widths_few s.part.last (streams_of s.part.chain.now));
      few_rows = λ p. cond_few (eqb p 1) _ 4096 few;
      goal_small = λ u. omega (arith, waiting_small s.part.last (next s.part.last) u (streams_of s.part.chain.now));
      ceiling_low = λ k. omega arith;
      ceiling_high = λ k. omega arith;
    }

-- ---- the goal of the delay sheet: 1, -1 or 0

signs_small : (a b : Bool) → nat_abs (cond a (pos 1) (cond b (negsuc 0) (pos 0))) ≤ 1048576
signs_small true b = omega arith
signs_small false true = omega arith
signs_small false false = omega arith

pub delay_limits : (s : DelaySheet) → Limits (delay_kind s.part.chain.now)
delay_limits s =
    let n : ℕ = length (relays_of s.part.chain.now) in
    let few : delay_rows s.part.chain.now ≤ 4096 = omega (arith, s.all_rows, s.few_rows) in
    let u : part_unknowns s.part.chain.now n ≤ 297 = rw (← s.whole) (omega (arith, s.counted, s.few)) in
    record {
      some_place = omega (arith, s.whole);
      few_places = omega (arith, s.whole);
      few_unknowns = omega arith;
      few_rows = λ p. cond_few (leb 1 p && leb p n) _ 4096 few;
      goal_small = λ k. signs_small (eqb k (next n)) (eqb k (part_unknowns s.part.chain.now n + 1));
      ceiling_low = λ k. omega arith;
      ceiling_high = λ k. omega arith;
    }
