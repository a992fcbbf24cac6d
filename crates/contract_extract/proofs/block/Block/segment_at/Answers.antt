use Rattle.std.proofs.Common.{sym, ◌∙◌, None, Some}
use Rattle.contract_extract.proofs.SegmentLaws.{found_in, held_some, held_none, got_some, got_none}
use Rattle.contract_extract.proofs.block.Block.segment_at.Goals as goal

pub returns-then-segment-place : goal.returns-then-segment-place
returns-then-segment-place c =
    let s = c.in-Some.segment.now in
    let got = got_some c.segments-segments.result.now c.ended_before.result s c.in-Some.ensures.lookup.0 c.in-Some.ensures.lookup.1 in
    sym (held_some c.args.place s c.if-segment-place.true)
    ∙ found_in c.args.self.now c.args.place c.ended_before.result c.segments-segments.result.now (Some s) c.segments-segments.ensures c.ended_before.ensures got

pub returns-else-segment-place : goal.returns-else-segment-place
returns-else-segment-place c =
    let s = c.in-Some.segment.now in
    let got = got_some c.segments-segments.result.now c.ended_before.result s c.in-Some.ensures.lookup.0 c.in-Some.ensures.lookup.1 in
    sym (held_none c.args.place s c.if-segment-place.false)
    ∙ found_in c.args.self.now c.args.place c.ended_before.result c.segments-segments.result.now (Some s) c.segments-segments.ensures c.ended_before.ensures got

pub returns-in-None : goal.returns-in-None
returns-in-None c =
    found_in c.args.self.now c.args.place c.ended_before.result c.segments-segments.result.now None c.segments-segments.ensures c.ended_before.ensures
    (got_none c.segments-segments.result.now c.ended_before.result c.in-None.ensures.lookup.3)
