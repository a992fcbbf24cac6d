use Rattle.std.proofs.Common.{◌≡◌, drop}
use Rattle.std.specs.List.{list_any}
use Rattle.region_tree.specs.Rules.{crosses}
use Rattle.region_tree.proofs.edges.any_crosses.Given as goal

abbrev pub invariant-loop-place : goal.invariant-loop-place
invariant-loop-place l = list_any (crosses l.leaves l.region l.at) (drop l.place-index l.places) ≡ list_any (crosses l.leaves l.region l.at) l.places
