-- How many rows there are at most.
use Rattle.std.proofs.Common.{ℕ, ◌+◌, ◌*◌, ◌≤◌, leb, List, take, length, get_or, mul-le-mul, arith}
use Rattle.std.proofs.lemmas.List.{length-take}
use Rattle.std.proofs.lemmas.List.Sums.{sum_by-le}
use Rattle.chain.specs.Curves.{lines_of}
use Rattle.chain.specs.declared.curve.Curve.{Curve}
use Rattle.chain.specs.declared.stream.Relay.{Relay}
use Rattle.chain.specs.declared.stream.Stream.{Stream}
use Rattle.sheet.specs.Parts.{kept_hops, pairs_of, relays_rows, rows_of, stream_rows, streams_rows}
use Rattle.sheet.specs.SheetLimits.{cond_few}

lines_few : {L : Type 0} (c : Curve L) → length (lines_of c) ≤ 4
lines_few c = c.few

pairs_few : (k : ℕ) → k ≤ 8 → pairs_of k ≤ 36
pairs_few k h =
    let m : k * (k + 1) ≤ 8 * 9 = let n : k + 1 ≤ 9 = omega arith in mul-le-mul h n in
    omega arith

rows_few : (k m : ℕ) → k ≤ 8 → m ≤ 4 → rows_of k m ≤ 170
rows_few k m h l =
    let p : m * pairs_of k ≤ 4 * 36 = mul-le-mul l (pairs_few k h) in
    omega arith

stream_rows_few : (last : ℕ) (s : Stream) → stream_rows last s ≤ 170
stream_rows_few last s =
    let short : kept_hops last s.stretch ≤ 8 = omega (arith, s.stretch.begins, s.stretch.ends, s.stretch.limit) in
    cond_few (leb s.stretch.from last) _ 170 (rows_few _ _ short (lines_few s.curve))

pub streams_rows_few : (last : ℕ) (ss : List Stream) → streams_rows last ss ≤ length ss * 170
streams_rows_few last ss = sum_by-le (stream_rows last) 170 ss (λ k d h. stream_rows_few last (get_or ss k d))

pub relays_rows_few : (last : ℕ) (rs : List Relay) → relays_rows (take last rs) ≤ last * 4
relays_rows_few last rs =
    let all = sum_by-le (λ r. length (lines_of r.curve)) 4 (take last rs) (λ k d h. lines_few (get_or (take last rs) k d).curve) in
    omega (arith, length-take last rs, all)
