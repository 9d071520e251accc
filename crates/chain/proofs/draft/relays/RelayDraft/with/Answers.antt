use Rattle.few.specs.Values.{items}
use Rattle.std.proofs.Common.{[], map, ap, ◌∙◌, arith}
use Rattle.text.specs.Continue.{ok_as}
use Rattle.chain.specs.Drafts.{longer, place_of}
use Rattle.chain.specs.Plan.{relay_plan, serves}
use Rattle.chain.proofs.DraftLaws.{placed_last, longer_map}
use Rattle.chain.proofs.draft.relays.RelayDraft.with.Goals as goal

pub returns-then-k-len : goal.returns-then-k-len
returns-then-k-len c =
    let r = c.args.row in
    placed_last relay_plan (items c.args.self.table) _ c.in_ok-k.k _ (c.in_ok-k.ensures.value ∙ ap (λ n. place_of r.number n r.at) c.len.ensures.plans)
    _ _ _ [] (λ ls. longer ls r.at (serves r.line)) _
    (omega (arith, c.if-k-len.true, c.len-2.ensures.count)) c.relays.ensures.items c.set.ensures
    (ap (ok_as (map serves)) c.in_ok-curve.ensures ∙ longer_map serves _ r.at r.line)
