use Rattle.std.proofs.Common.{◌≡◌, ◌≤◌, length, take}
use Rattle.region_tree.specs.Trees.{code}
use Rattle.body_tree.proofs.wrapping.division_at.Given as goal

abbrev pub invariant-loop-k : goal.invariant-loop-k
invariant-loop-k l = record {
  at : l.at ≡ length (code (take l.k l.blocks));
  within : l.at ≤ l.from;
}
