use Rattle.set_names.specs.Cycles.{is_deep}
use Rattle.type_graphs.specs.Graphs.{next_of}
use Rattle.type_graphs.proofs.ListLaws.{list_push}
use Rattle.type_graphs.proofs.chains.deep_by_ranks.Goals as goal

pub loop-k-preserved : goal.loop-k-preserved
loop-k-preserved c = list_push (is_deep (next_of c.args.graph.now) c.args.deepest) c.loop-k.k c.loop-k.deep.items c.push.new.self.items c.is_deep.result c.in_ok-push.ensures.items c.is_deep.ensures c.loop-k.invariant
