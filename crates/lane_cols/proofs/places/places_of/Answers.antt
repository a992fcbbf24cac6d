use Rattle.std.proofs.Common.{◌≤◌, ℕ, List, ◌++◌, ap, sym, ◌∙◌, arith, ◌+◌, length, take_all, slice_range}
use Rattle.lane_cols.specs.Places.{places_from}
use Rattle.lane_cols.proofs.PlaceLaws.{up_to, all_places}
use Rattle.lane_cols.proofs.places.places_of.Goals as goal

pub loop-at-preserved : goal.loop-at-preserved
loop-at-preserved c =
    let room : c.loop-at.at + 8 ≤ length c.args.col.now = omega arith in
    record {
      within = room;
      found = c.in_ok-push_block.ensures ∙ ap (λ (l : List ℕ). l ++ places_from c.loop-at.at c.args.v (slice_range c.args.col.now c.loop-at.at (c.loop-at.at + 8))) c.loop-at.invariant.found ∙ sym (up_to c.args.v c.loop-at.at (c.loop-at.at + 8) c.args.col.now (omega arith) room);
    }

pub returns : goal.returns
returns c =
    c.in_ok-push_places.ensures ∙ ap (λ (l : List ℕ). l ++ places_from c.loop-at.at c.args.v (slice_range c.args.col.now c.loop-at.at (length c.args.col.now))) c.loop-at.invariant.found
    ∙ sym (up_to c.args.v c.loop-at.at (length c.args.col.now) c.args.col.now c.loop-at.invariant.within (omega arith))
    ∙ ap (places_from 0 c.args.v) (take_all (length c.args.col.now) c.args.col.now (omega arith)) ∙ all_places c.args.v c.args.col.now
