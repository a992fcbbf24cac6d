use Rattle.own_contracts.specs.Inherited.{InheritsAt}
use Rattle.own_contracts.proofs.BestLaws.{Best}
use Rattle.own_contracts.proofs.inherited.first_heir.Given as goal

abbrev pub invariant-loop-m : goal.invariant-loop-m
invariant-loop-m l = Best (InheritsAt l.program l.contracts) l.m l.first
