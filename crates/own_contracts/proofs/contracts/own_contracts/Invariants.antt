use Rattle.own_contracts.proofs.FoundLaws.{SoFar}
use Rattle.own_contracts.proofs.contracts.own_contracts.Given as goal

abbrev pub invariant-loop-m : goal.invariant-loop-m
invariant-loop-m l = SoFar l.program l.m l.found
