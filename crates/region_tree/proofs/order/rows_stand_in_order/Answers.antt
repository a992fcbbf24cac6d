use Rattle.std.proofs.Common.{arith, ◌∙◌}
use Rattle.region_tree.proofs.StandLaws.{all_stand, none_so_far, one_more}
use Rattle.region_tree.proofs.order.rows_stand_in_order.Goals as goal

pub loop-k-init : goal.loop-k-init
loop-k-init c = record { few = omega arith; size = c.requires; stand = none_so_far c.args.regions.now c.args.extents.now }

pub loop-k-preserved : goal.loop-k-preserved
loop-k-preserved c = record {
  few = omega (arith, c.in-Some.ensures.few, c.loop-k.invariant.few);
  size = c.in-Some.ensures.size ∙ c.loop-k.invariant.size;
  stand = one_more c.args.regions.now c.loop-k.k c.loop-k.top c.in-Some.next c.loop-k.extents c.add_row.new.extents _ c.loop-k-test.true c.in-Some.ensures.added c.loop-k.invariant.stand;
}

pub returns : goal.returns
returns c = λ e. all_stand c.args.regions.now c.loop-k.extents c.loop-k.top c.loop-k.k c.loop-k-test.false c.loop-k.invariant.stand
