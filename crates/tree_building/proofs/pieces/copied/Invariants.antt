use Rattle.std.proofs.Common.{◌≡◌, take}
use Rattle.tree_building.proofs.pieces.copied.Given as goal

abbrev pub invariant-loop-i : goal.invariant-loop-i
invariant-loop-i l = l.copies ≡ take l.i-index l.instrs
