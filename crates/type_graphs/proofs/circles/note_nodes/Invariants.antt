use Rattle.std.proofs.Common.{◌≡◌, drop}
use Rattle.type_graphs.specs.Searches.{with_nodes}
use Rattle.type_graphs.proofs.circles.note_nodes.Given as goal

abbrev pub invariant-loop-node : goal.invariant-loop-node
invariant-loop-node l = with_nodes (l.seen.items, l.found.items) (drop l.node-index l.nodes) ≡ with_nodes (l.initial.seen.items, l.initial.found.items) l.nodes
