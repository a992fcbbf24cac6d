use Rattle.std.proofs.Common.{Bool, List, ap, arith, length, refl, subst, sym}
use Rattle.region_tree.specs.Marks.{AreMarks}
use Rattle.tree_building.proofs.MarkLaws.{cuts_nothing}
use Rattle.tree_building.proofs.PieceLaws.{one_piece, pieces_built}
use Rattle.tree_building.proofs.pieces.pieces.Goals as goal

pub loop-at-preserved : goal.loop-at-preserved
loop-at-preserved c =
    one_piece c.args.instrs.now _ c.args.regions.now c.loop-at.at c.next_mark-end.result c.loop-at.spans c.push.new.self c.in_ok-piece.field-0 c.loop-at.invariant refl c.next_mark-end.ensures.ahead (omega (arith, c.next_mark-end.ensures.within, c.in_ok-marks.ensures.size, ap length c.deref.ensures.value))
    (cuts_nothing c.deref.result.now c.loop-at.at c.next_mark-end.result _ c.args.regions.now c.next_mark-end.ensures.within c.next_mark-end.ensures.unmarked (subst (λ (l : List Bool). AreMarks c.args.regions.now (length c.args.instrs.now) l) (sym c.deref.ensures.value) c.in_ok-marks.ensures))
    c.in_ok-piece.ensures c.in_ok-push.ensures.ok

pub returns : goal.returns
returns c = pieces_built c.args.instrs.now c.args.regions.now c.loop-at.at c.loop-at.spans c.loop-at.invariant (omega (arith, c.loop-at-test.false))
