use Rattle.std.proofs.Common.{◌≡◌, ◌++◌, length, reverse}
use Rattle.tree_building.specs.Spans.{blocks_of}
use Rattle.tree_building.proofs.moving.take_blocks.Given as goal

abbrev pub invariant-loop-span : goal.invariant-loop-span
invariant-loop-span l = l.out ++ blocks_of (reverse l.spans) ≡ blocks_of (reverse l.fn.spans)

abbrev pub decreases-loop-span : goal.decreases-loop-span
decreases-loop-span l = length l.spans
