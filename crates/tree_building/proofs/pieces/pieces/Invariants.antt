use Rattle.std.proofs.Common.{◌-◌, length}
use Rattle.tree_building.proofs.PieceLaws.{ArePieces}
use Rattle.tree_building.proofs.pieces.pieces.Given as goal

abbrev pub invariant-loop-at : goal.invariant-loop-at
invariant-loop-at l = ArePieces l.instrs l.regions l.at l.spans

abbrev pub decreases-loop-at : goal.decreases-loop-at
decreases-loop-at l = length l.instrs - l.at
