use Rattle.std.proofs.Common.{ℕ, length}
use Rattle.set_names.specs.Cycles.{reaches}
use Rattle.type_graphs.specs.Graphs.{next_of}
use Rattle.type_graphs.proofs.ListLaws.{list_push}
use Rattle.type_graphs.proofs.circles.nodes_on_circles.Goals as goal

pub loop-k-preserved : goal.loop-k-preserved
loop-k-preserved c = list_push (λ (k : ℕ). reaches (next_of c.args.graph.now) (length c.args.graph.now) k k) c.loop-k.k c.loop-k.circles.items c.push.new.self.items c.in_ok-is_on_circle.field-0 c.in_ok-push.ensures.items c.in_ok-is_on_circle.ensures c.loop-k.invariant
