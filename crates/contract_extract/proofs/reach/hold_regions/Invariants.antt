use Rattle.std.proofs.Common.{take}
use Rattle.contract_extract.specs.Reach.{all_parts, TellsMore}
use Rattle.contract_extract.proofs.reach.hold_regions.Given as goal

abbrev pub invariant-loop-region : goal.invariant-loop-region
invariant-loop-region l = TellsMore l.initial.ends l.ends (all_parts (take l.region-index l.regions))
