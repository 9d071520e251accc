use Rattle.few.specs.Values.{items}
use Rattle.std.proofs.Common.{[], ◌∷◌, ◌++◌, ◌≡◌, ◌<◌, length, get_or, ap, ◌∙◌, arith, rules}
use Rattle.std.proofs.lemmas.List.{length_push}
use Rattle.chain.specs.Drafts.{first_line, lengthened, place_of}
use Rattle.chain.specs.Keeps.{lie_within, stops_if_any}
use Rattle.chain.specs.Plan.{stream_plan}
use Rattle.chain.specs.Parsed.{stream_line_of}
use Rattle.chain.proofs.DraftLaws.{placed_last, placed_next}
use Rattle.chain.proofs.KeepLaws.{lie_set, stops_set, lie_push, stops_push}
use Rattle.chain.proofs.draft.streams.StreamDraft.with.Goals as goal

pub invariant_of-self : goal.invariant_of-self
invariant_of-self c =
    let d = c.args.self in
    let n = length (items d.relays.table) in
    let s = c.in_ok-stream.stream in
    let x = c.index-streams-k.result in
    let k = c.in_ok-k.k in
    let kept : s.stretch ≡ (get_or (items d.table) k x).stretch =
    c.in_ok-stream.ensures.stretch ∙ ap (λ y. y.stretch) (c.index-streams-k.is ∙ ap (λ xs. get_or xs k x) c.streams.ensures.items) in
    record {
      few = search rules;
      some = d.some;
      lies = ap (lie_within n) c.set.ensures ∙ lie_set n (items d.table) k s x kept ∙ d.lies;
      stops = ap (stops_if_any n) c.set.ensures ∙ stops_set n (items d.table) k s x kept ∙ d.stops;
    }

pub invariant_of-self-2 : goal.invariant_of-self-2
invariant_of-self-2 c =
    let d = c.args.self in
    let n = length (items d.relays.table) in
    let s = c.in_ok-stream-2.stream in
    let pushed : items c.try_push.new.self ≡ items d.table ++ s ∷ [] = search rules in
    let room : length (items d.table) < 16 = search rules in
    let first : length (items d.table) ≡ 0 → (s.stretch.from ≡ 1) × (s.stretch.to ≡ n) =
    λ e. let h = c.in_ok-stream-2.ensures.stops (omega (arith, e, c.len.ensures.count, c.in_ok-k.ensures.place)) in (h.0, h.1 ∙ c.len-3.ensures.count) in
    record {
      few = omega (arith, ap length pushed, length_push (items d.table) s, room);
      some = d.some;
      lies = ap (lie_within n) pushed ∙ lie_push n (items d.table) s (c.in_ok-stream-2.ensures.lies ∙ c.len-3.ensures.count) ∙ d.lies;
      stops = ap (stops_if_any n) pushed ∙ stops_push n (items d.table) s first ∙ d.stops;
    }

pub returns-then-k-len-clause-streams : goal.returns-then-k-len-clause-streams
returns-then-k-len-clause-streams c =
    let r = c.args.row in
    placed_last stream_plan (items c.args.self.table) _ c.in_ok-k.k _ (c.in_ok-k.ensures.value ∙ ap (λ n. place_of r.number n r.at) c.len.ensures.plans)
    _ _ _ (record { from = 0; to = 0; lines = [] }) (λ s. lengthened s (stream_line_of r)) _
    (omega (arith, c.if-k-len.true, c.len-2.ensures.count)) c.streams.ensures.items c.set.ensures
    (c.in_ok-stream.ensures.plan ∙ ap (λ s. lengthened (stream_plan s) (stream_line_of r)) c.index-streams-k.is)

pub returns-clause-streams : goal.returns-clause-streams
returns-clause-streams c =
    let d = c.args.self in
    let r = c.args.row in
    let pushed : items c.try_push.new.self ≡ items d.table ++ c.in_ok-stream-2.stream ∷ [] = search rules in
    let room : length (items d.table) < 16 = search rules in
    placed_next stream_plan (items d.table) _ c.in_ok-k.k _ (c.in_ok-k.ensures.value ∙ ap (λ n. place_of r.number n r.at) c.len.ensures.plans)
    r.at 16 _ _ _ (omega (arith, c.if-k-len.false, c.len-2.ensures.count)) room pushed
    (c.in_ok-stream-2.ensures.plan ∙ ap (λ n. first_line n (stream_line_of r)) c.len-3.ensures.plans)
