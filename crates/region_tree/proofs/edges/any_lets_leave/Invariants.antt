use Rattle.std.proofs.Common.{◌≡◌, drop}
use Rattle.std.specs.List.{list_any}
use Rattle.region_tree.specs.Rules.{may_leave}
use Rattle.region_tree.proofs.edges.any_lets_leave.Given as goal

abbrev pub invariant-loop-region : goal.invariant-loop-region
invariant-loop-region l = list_any (λ r. may_leave r l.at) (drop l.region-index l.regions) ≡ list_any (λ r. may_leave r l.at) l.regions
