use Rattle.std.proofs.Common.{◌≡◌, drop}
use Rattle.std.specs.List.{list_any}
use Rattle.region_tree.specs.Rules.{may_end}
use Rattle.region_tree.proofs.edges.any_lets_end.Given as goal

abbrev pub invariant-loop-region : goal.invariant-loop-region
invariant-loop-region l = list_any (λ r. may_end r l.at) (drop l.region-index l.regions) ≡ list_any (λ r. may_end r l.at) l.regions
