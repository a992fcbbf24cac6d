use Rattle.std.proofs.Common.{◌≡◌, drop}
use Rattle.std.specs.List.{list_any}
use Rattle.region_tree.specs.Rules.{is_filter}
use Rattle.region_tree.proofs.rules.any_filter.Given as goal

abbrev pub invariant-loop-region : goal.invariant-loop-region
invariant-loop-region l = list_any (λ r. is_filter r.kind) (drop l.region-index l.regions) ≡ list_any (λ r. is_filter r.kind) l.regions
