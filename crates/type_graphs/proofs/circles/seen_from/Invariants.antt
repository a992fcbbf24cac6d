use Rattle.type_graphs.proofs.SearchLaws.{Goes}
use Rattle.type_graphs.proofs.circles.seen_from.Given as goal

abbrev pub invariant-loop-place : goal.invariant-loop-place
invariant-loop-place l = Goes l.graph l.from l.place (l.seen.items, l.found.items)
