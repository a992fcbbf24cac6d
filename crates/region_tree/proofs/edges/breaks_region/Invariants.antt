use Rattle.std.proofs.Common.{◌≡◌, drop}
use Rattle.std.specs.List.{list_any}
use Rattle.std.specs.Prelude.{◌&&◌, ◌||◌}
use Rattle.il_flow.specs.Successors.{successors}
use Rattle.region_tree.specs.Rules.{is_ret, is_leave, in_region, crosses}
use Rattle.region_tree.proofs.edges.breaks_region.Given as goal

abbrev pub invariant-loop-region : goal.invariant-loop-region
invariant-loop-region l = list_any (λ r. (is_ret l.class && in_region r l.at) || list_any (crosses (is_leave l.class) r l.at) (successors l.at l.i)) (drop l.region-index l.regions) ≡ list_any (λ r. (is_ret l.class && in_region r l.at) || list_any (crosses (is_leave l.class) r l.at) (successors l.at l.i)) l.regions
