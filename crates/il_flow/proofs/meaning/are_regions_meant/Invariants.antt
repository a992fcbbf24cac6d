use Rattle.std.proofs.Common.{◌≡◌, drop}
use Rattle.std.specs.List.{list_all}
use Rattle.il_flow.specs.Meanings.{is_region_meant}
use Rattle.il_flow.proofs.meaning.are_regions_meant.Given as goal

abbrev pub invariant-loop-region : goal.invariant-loop-region
invariant-loop-region l = list_all (is_region_meant l.program l.own) (drop l.region-index l.body.regions) ≡ list_all (is_region_meant l.program l.own) l.body.regions
