use Rattle.std.proofs.Common.{◌≡◌, drop}
use Rattle.set_names.specs.Cycles.{any}
use Rattle.type_graphs.specs.Levels.{is_in}
use Rattle.type_graphs.proofs.chains.any_in.Given as goal

abbrev pub invariant-loop-node : goal.invariant-loop-node
invariant-loop-node l = any (is_in l.level l.past) (drop l.node-index l.nodes) ≡ any (is_in l.level l.past) l.nodes
