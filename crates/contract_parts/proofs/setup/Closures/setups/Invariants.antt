use Rattle.std.proofs.Common.{◌≡◌, ◌++◌, drop}
use Rattle.std.specs.List.{flat_map}
use Rattle.contract_parts.specs.Closures.{own_setup, setups}
use Rattle.contract_parts.proofs.setup.Closures.setups.Given as goal

abbrev pub invariant-loop-made : goal.invariant-loop-made
invariant-loop-made l = l.out ++ flat_map (own_setup l.self) (drop l.made-index l.made-items) ≡ setups l.self l.locals
