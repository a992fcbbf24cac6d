use Rattle.std.proofs.Common.{◌≡◌, drop}
use Rattle.std.specs.Prelude.{max}
use Rattle.region_tree.specs.Nesting.{deepest_around}
use Rattle.region_tree.proofs.nesting.deepest_around.Given as goal

abbrev pub invariant-loop-k : goal.invariant-loop-k
invariant-loop-k l = max l.deepest (deepest_around l.region (drop l.k l.others) (drop l.k l.depths)) ≡ deepest_around l.region l.others l.depths
