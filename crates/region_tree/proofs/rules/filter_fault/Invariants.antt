use Rattle.std.proofs.Common.{◌≡◌, drop}
use Rattle.std.specs.Prelude.{map}
use Rattle.il_flow.specs.Lowest.{lowest}
use Rattle.region_tree.specs.Rules.{filter_test}
use Rattle.region_tree.proofs.rules.filter_fault.Given as goal

abbrev pub invariant-loop-region : goal.invariant-loop-region
invariant-loop-region l = lowest l.best (map (filter_test l.place l.body) (drop l.region-index l.body.regions)) ≡ lowest l.fn.first (map (filter_test l.place l.body) l.body.regions)
