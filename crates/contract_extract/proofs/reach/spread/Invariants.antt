use Rattle.std.proofs.Common.{◌≡◌, take}
use Rattle.il_flow.specs.Reach.{max_of}
use Rattle.contract_extract.specs.Reach.{ends_up_to}
use Rattle.contract_extract.proofs.reach.spread.Given as goal

abbrev pub invariant-loop-q : goal.invariant-loop-q
invariant-loop-q l = record {
  far : l.farthest ≡ max_of (take l.q l.ends);
  told : l.out.items ≡ ends_up_to l.ends l.q;
}
