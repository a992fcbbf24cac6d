use Rattle.std.proofs.Common.{◌≡◌, map, take}
use Rattle.body_tree.specs.Copies.{turned}
use Rattle.body_tree.proofs.copies.turned_code.Given as goal

abbrev pub invariant-loop-i : goal.invariant-loop-i
invariant-loop-i l = l.copies ≡ map (turned l.exit) (take l.i-index l.instrs)
