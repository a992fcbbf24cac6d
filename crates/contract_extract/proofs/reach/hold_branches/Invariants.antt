use Rattle.std.proofs.Common.{map, take}
use Rattle.contract_extract.specs.Reach.{crossed_over, TellsMore}
use Rattle.contract_extract.proofs.reach.hold_branches.Given as goal

abbrev pub invariant-loop-target : goal.invariant-loop-target
invariant-loop-target l = TellsMore l.initial.ends l.ends (map (crossed_over l.at) (take l.target-index l.target-items))
