use Rattle.std.proofs.Common.{take}
use Rattle.contract_extract.specs.Reach.{all_crossed, TellsMore}
use Rattle.contract_extract.proofs.reach.hold_code.Given as goal

abbrev pub invariant-loop-k : goal.invariant-loop-k
invariant-loop-k l = TellsMore l.initial.ends l.ends (all_crossed (take l.k l.instrs))
