use Rattle.std.proofs.Common.{◌∙◌, arith}
use Rattle.lane_cols.proofs.PlaceLaws.{one_yes, one_no}
use Rattle.lane_cols.proofs.places.push_places.Goals as goal
use Rattle.lane_cols.proofs.places.push_places.Goals.{then-col-i+in_ok-push, else-col-i}

pub loop-i-preserved : goal.loop-i-preserved
loop-i-preserved c =
    elim c.if-col-i.branch [
      | then-col-i+in_ok-push w ↦ w.out-is ∙ w.in_ok-push.ensures.ok ∙ one_yes c.args.v c.args.from c.loop-i.i c.args.col.now c.args.out.now c.loop-i.out (omega arith) (omega arith) w.if-col-i.true c.loop-i.invariant
      | else-col-i w ↦ w.out-is ∙ one_no c.args.v c.args.from c.loop-i.i c.args.col.now c.args.out.now c.loop-i.out (omega arith) (omega arith) w.if-col-i.false c.loop-i.invariant
    ]
