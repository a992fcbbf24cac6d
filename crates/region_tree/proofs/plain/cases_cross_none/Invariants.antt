use Rattle.std.proofs.Common.{◌≡◌, false, take}
use Rattle.std.specs.List.{list_any}
use Rattle.region_tree.specs.Order.{is_crossed}
use Rattle.region_tree.proofs.plain.cases_cross_none.Given as goal

abbrev pub invariant-loop-place : goal.invariant-loop-place
invariant-loop-place l = list_any (is_crossed l.regions l.leaves l.at) (take l.place-index l.places) ≡ false
